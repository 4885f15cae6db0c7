use Rattle.std.proofs.Common.{ℕ, Some, Bool, sym, ◌∙◌, ap}
use Rattle.std.specs.BTreeMap.{is_at}
use Rattle.std.specs.Map.{lookup}
use Rattle.std.specs.Ordering.{nat_cmp}
use Rattle.group_map.proofs.MemberLemmas.{meets, meets-none, member-is}
use Rattle.group_map.specs.GroupMap.{GroupTables}
use Rattle.group_map.specs.Tables.{tables_of}
use Rattle.group_map.proofs.map.GroupMap.member.Goals as goal

-- what the tables say of a UID and a GID
abbrev said : ℕ → ℕ → GroupTables → Bool
said uid gid tables = meets (lookup (is_at (nat_cmp uid)) tables.users) (lookup (is_at (nat_cmp gid)) tables.lists)

pub returns-in_default : goal.returns-in_default
returns-in_default c = λ passwd group is.
    ap (said c.args.uid c.args.gid) (sym (ap tables_of c.in_default.is) ∙ c.self.view_is)
    ∙ member-is c.args.self.now passwd group c.args.uid c.args.gid is

pub returns-in-Some-Some : goal.returns-in-Some-Some
returns-in-Some-Some c = λ passwd group is.
    c.meet.ensures
    ∙ (λ i. meets (c.in-Some-Some.ensures i) (c.in-Some-Some.ensures' i))
    ∙ ap (said c.args.uid c.args.gid) (sym (ap tables_of c.in-Some.is) ∙ c.self.view_is)
    ∙ member-is c.args.self.now passwd group c.args.uid c.args.gid is

pub returns-in_default-2 : goal.returns-in_default-2
returns-in_default-2 c = λ passwd group is.
    sym (meets-none (Some c.in_default-2.field-0-0.now)) ∙ (λ i. meets (c.in_default-2.ensures i) (c.in_default-2.ensures' i))
    ∙ ap (said c.args.uid c.args.gid) (sym (ap tables_of c.in-Some.is) ∙ c.self.view_is)
    ∙ member-is c.args.self.now passwd group c.args.uid c.args.gid is

pub returns-in_default-2-2 : goal.returns-in_default-2-2
returns-in_default-2-2 c = λ passwd group is.
    ap (λ names. meets names (lookup (is_at (nat_cmp c.args.gid)) c.in-Some.tables.lists)) c.in_default-2.ensures
    ∙ ap (said c.args.uid c.args.gid) (sym (ap tables_of c.in-Some.is) ∙ c.self.view_is)
    ∙ member-is c.args.self.now passwd group c.args.uid c.args.gid is
