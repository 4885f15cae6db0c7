-- The decode rules 10 to 12, which look at the caller and the moment.
use Rattle.std.specs.Prelude.{ℕ, ◌+◌, Bool, ◌||◌, nat_eq, nat_le, List, [], ◌∷◌}
use Rattle.std.specs.declared.option.Option.{Option}
use Rattle.munge_types.specs.declared.status.Status.{Status}
use Rattle.munge_types.specs.declared.status.Status.TheVariants as status
use Rattle.cred_inner.specs.InnerPart.{Content, any}
use Rattle.group_map.specs.Membership.{is_member}
use Rattle.cred_open.specs.OpeningRules.{unless}
use Rattle.decode_rules.specs.Terms.{Terms}

-- 10: anyone may open it, or this caller's UID
abbrev pub uid_rule : Terms → Content → Option Status
uid_rule terms content =
    unless (nat_eq content.for_uid any || nat_eq content.for_uid terms.who.uid) status.Unauthorized

-- the caller is of this GID, or a member of it
abbrev pub belongs_to : Terms → (gid : ℕ) → Bool
belongs_to terms gid =
    nat_eq gid terms.who.gid
    || is_member terms.files.passwd terms.files.group terms.who.uid gid

-- 11: anyone may open it, or this caller's GID, or one that the caller is a member of
abbrev pub gid_rule : Terms → Content → Option Status
gid_rule terms content =
    unless (nat_eq content.for_gid any || belongs_to terms content.for_gid) status.Unauthorized

-- 12: it was sealed no later than the skew after the moment, in seconds since 1970
abbrev pub time_rule : Terms → (moment : ℕ) → Content → Option Status
time_rule terms moment content =
    unless (nat_le content.time (moment + terms.settings.skew)) status.Rewound

-- the rules on who opens it and when, with their numbers and in their order
abbrev pub caller_rules : Terms → (moment : ℕ) → Content → List (ℕ × Option Status)
caller_rules terms moment content =
    (10, uid_rule terms content) ∷ (11, gid_rule terms content)
    ∷ (12, time_rule terms moment content) ∷ []
