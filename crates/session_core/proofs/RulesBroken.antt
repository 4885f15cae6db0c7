-- Which rules a finding may tell of.
use Rattle.std.proofs.Common.{◌≡◌, ℕ, ◌≤◌, List, [], ◌∷◌, ap, refl, arith}
use Rattle.std.specs.declared.option.Option.{Option}
use Rattle.std.specs.declared.option.Option.TheVariants.{None, Some}
use Rattle.munge_types.specs.declared.status.Status.{Status}
use Rattle.cred_open.specs.Credential.{Credential}
use Rattle.cred_open.specs.OpeningRules.{Refuses, unspelled, outside, unsealed, empty, first_broken, outer_rules}
use Rattle.decode_rules.specs.CallerRules.{uid_rule, gid_rule, time_rule}
use Rattle.decode_rules.specs.Finding.{Finding, Refused, Finds, unopened, opened, caller_breaks, found_by}
use Rattle.decode_rules.specs.Terms.{Terms}

-- the numbers of a table's rules are above this
abbrev AreAbove : ℕ → List (ℕ × Option Status) → Type 0
AreAbove least [] = Unit {0}
AreAbove least (line ∷ lines) = (least ≤ line.0) × AreAbove least lines

-- so is that of the first that is broken
broken_above : (least : ℕ) (lines : List (ℕ × Option Status)) (rule : ℕ) (said : Status) → AreAbove least lines
    → first_broken lines ≡ Some (rule, said) → least ≤ rule
broken_above least [] rule said above found = cc
broken_above least ((number, None) ∷ lines) rule said above found = broken_above least lines rule said above.1 found
broken_above least ((number, Some other) ∷ lines) rule said above found =
    let lines : ◌≡◌ {A = ℕ × Status} (number, other) (rule, said) = cc found in
    omega (arith, ap (λ (line : ℕ × Status). line.0) lines, above.0)

refused_above : (key text : List ℕ) (rule : ℕ) (said : Status) → Refuses key text rule said → 1 ≤ rule
refused_above key text rule said (unspelled none) = omega arith
refused_above key text rule said (outside body spells found) =
    broken_above 1 (outer_rules body) rule said
    (omega arith, (omega arith, (omega arith, (omega arith, (omega arith, (omega arith, tt)))))) found
refused_above key text rule said (unsealed body spells unbroken none) = omega arith
refused_above key text rule said (empty body spells unbroken cipher kind vector inner is none) = omega arith

-- of the rules 10 to 12 one is broken first
barred_above : (found : Option (ℕ × Status)) (credential : Credential) (rule : ℕ) (said : Status) (shown : Option Credential)
    → ((rule : ℕ) (said : Status) → found ≡ Some (rule, said) → 1 ≤ rule)
    → found_by found credential ≡ Refused rule said shown → 1 ≤ rule
barred_above None credential rule said shown above same = cc
barred_above (Some (number, status)) credential rule said shown above same =
    let alike : number ≡ rule = cc same in
    omega (arith, alike, above number status refl)

-- the rule of a refusal is not 0
pub refusal_rule : (terms : Terms) (moment : ℕ) (text : List ℕ) (finding : Finding) (rule : ℕ) (said : Status) (shown : Option Credential)
    → Finds terms moment text finding → finding ≡ Refused rule said shown → 1 ≤ rule
refusal_rule terms moment text finding rule said shown (unopened {rule = number} {status = status} refuses) same =
    let alike : number ≡ rule = cc same in
    omega (arith, alike, refused_above terms.files.key text number status refuses)
refusal_rule terms moment text finding rule said shown (opened credential opens) same =
    barred_above (caller_breaks terms moment credential) credential rule said shown
    (λ number status found. broken_above 1
    ((10, uid_rule terms credential.content) ∷ (11, gid_rule terms credential.content)
    ∷ (12, time_rule terms moment credential.content) ∷ [])
    number status (omega arith, (omega arith, (omega arith, tt))) found)
    same
