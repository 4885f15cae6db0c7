-- What the sockets are where nothing of them is refused.
use Rattle.std.proofs.Common.{◌≡◌, ℕ, ◌+◌, ◌≤◌, ◌⊎◌, pos, Bool, List, [], ◌∷◌, ◌++◌, length, map, true, false, nat_le, ◌||◌, Option, Some, None, refl, sym, ◌∙◌, inl, inr, arith}
use Rattle.std.proofs.lemmas.Bool.{cases_Bool, leb-true}
use Rattle.std.proofs.lemmas.Bool.Decides.{not_from_Decides}
use Rattle.std.proofs.lemmas.List.Elements.{All-nil, All-cons}
use Rattle.std.proofs.lemmas.List.Folds.{list_any-append}
use Rattle.std.proofs.lemmas.List.Kept.{AllPairs-cons}
use Rattle.std.proofs.lemmas.Slice.Eq.{bytes_eq-Decides}
use Rattle.std.specs.List.{All, AllPairs, AllByRecursion}
use Rattle.std.specs.Str.{bytes_eq}
use Rattle.toml.specs.Data.{Data, Items, table, array, Members}
use Rattle.option_file.specs.Accepted.{HasCallers, AreApart}
use Rattle.option_file.specs.KnownKeys.{unknown_refusal}
use Rattle.option_file.specs.Rules.{first_of, list, needed, socket_rules}
use Rattle.option_file.specs.Sockets.{first_twice, has_path, line_of, socket_refusal, twice_refusal}
use Rattle.option_file.specs.Values.{at_key, list_or_none, values_of}
use Rattle.option_file.specs.declared.key.Key.TheVariants as key
use Rattle.option_file.specs.declared.known_keys.Place.TheVariants as place
use Rattle.option_file.specs.declared.refused.OptionRefused.TheVariants.{Range, Wrong, Missing, Twice}
use Rattle.option_file.specs.declared.sockets.SocketLine.{SocketLine}
use Rattle.option_file.proofs.RuleLemmas.{refused-none, first_of-none, all-none, needed-within}

size-none : (items : Items) → list key.Socket (array items) ≡ None → (1 ≤ length (values_of items)) × (length (values_of items) ≤ 64)
size-none items none =
    elim (cases_Bool (nat_le 1 (length (values_of items)))) [
      | inl some ↦ elim (cases_Bool (nat_le (length (values_of items)) 64)) [
        | inl few ↦ (leb-true 1 (length (values_of items)) some, leb-true (length (values_of items)) 64 few)
        | inr many ↦ refused-none (Range key.Socket (pos (length (values_of items)))) (rw (some, many) at none)
      ]
      | inr none_listed ↦ refused-none (Range key.Socket (pos (length (values_of items)))) (rw none_listed at none)
    ]

pub list-within : (found : Option Data) → needed list key.Socket found ≡ None → (1 ≤ length (list_or_none found)) × (length (list_or_none found) ≤ 64)
list-within None none = refused-none (Missing key.Socket) none
list-within (Some (array items)) none = size-none items none
list-within (Some other) none = refused-none (Wrong key.Socket) none

callers-in : (members : Members) → first_of (unknown_refusal place.Socket members ∷ socket_rules members) ≡ None → HasCallers (line_of (table members))
callers-in members none =
    let rules = all-none (unknown_refusal place.Socket members ∷ socket_rules members) none in
    (needed-within 4294967294 key.SocketUid (at_key key.SocketUid members) rules.1.1.0, needed-within 4294967294 key.SocketGid (at_key key.SocketGid members) rules.1.1.1.0)

callers-of : (value : Data) → socket_refusal value ≡ None → HasCallers (line_of value)
callers-of (table members) none = callers-in members none
callers-of other none = refused-none (Wrong key.Socket) none

pub callers-all : (values : List Data) → first_of (map socket_refusal values) ≡ None → All HasCallers (map line_of values)
callers-all [] none = All-nil HasCallers
callers-all (value ∷ values) none =
    let parts = first_of-none (socket_refusal value) (map socket_refusal values) none in
    All-cons HasCallers (line_of value) (map line_of values) (callers-of value parts.0) (callers-all values parts.1)

-- each of some sockets has a path that none of those before has
abbrev AreNew : List SocketLine → List SocketLine → Type 0
AreNew before lines = AllByRecursion (λ (line : SocketLine). has_path before line.path ≡ false) lines

apart-new : (before : List SocketLine) (line other : SocketLine) → has_path (before ++ line ∷ []) other.path ≡ false → (has_path before other.path ≡ false) × AreApart line other
apart-new before line other new =
    let parts : (has_path before other.path || (bytes_eq line.path other.path || false)) ≡ false = sym (list_any-append (λ (each : SocketLine). bytes_eq each.path other.path) before (line ∷ [])) ∙ new in
    elim (cases_Bool (has_path before other.path)) [
      | inl old ↦ let no : ◌≡◌ {A = Bool} true false = rw old at parts in absurd (cc)
      | inr kept ↦ elim (cases_Bool (bytes_eq line.path other.path)) [
        | inl same ↦ let no : ◌≡◌ {A = Bool} true false = rw (kept, same) at parts in absurd (cc)
        | inr another ↦ (kept, not_from_Decides _ (bytes_eq-Decides line.path other.path) another)
      ]
    ]

all-apart : (before : List SocketLine) (line : SocketLine) (lines : List SocketLine) → AreNew (before ++ line ∷ []) lines → AreNew before lines × All (AreApart line) lines
all-apart before line [] new = (tt, All-nil (AreApart line))
all-apart before line (other ∷ lines) new =
    let first = apart-new before line other new.0 in
    let behind = all-apart before line lines new.1 in
    ((first.0, behind.0), All-cons (AreApart line) other lines first.1 behind.1)

none-twice : (before : List SocketLine) (at : ℕ) (lines : List SocketLine) → first_twice before at lines ≡ None → AreNew before lines × AllPairs AreApart lines
none-twice before at [] none = (tt, λ i j d below end. absurd (omega arith))
none-twice before at (line ∷ lines) none =
    elim (cases_Bool (has_path before line.path)) [
      | inl old ↦ let no : ◌≡◌ {A = Option ℕ} (Some at) None = rw old at none in absurd (cc)
      | inr new ↦
          let behind = none-twice (before ++ line ∷ []) (at + 1) lines (rw new at none) in
          let apart = all-apart before line lines behind.0 in
          ((new, apart.0), AllPairs-cons AreApart line lines apart.1 behind.1)
    ]

first-none : (lines : List SocketLine) → twice_refusal lines ≡ None → first_twice [] 0 lines ≡ None
first-none lines none =
    elim (cases_Option (first_twice [] 0 lines)) [
      | inl same ↦ same
      | inr found ↦ refused-none (Twice found.0) (rw found.1 at none)
    ]
  where
    cases_Option : (found : Option ℕ) → (found ≡ None) ⊎ ((at : ℕ) × (found ≡ Some at))
    cases_Option None = inl refl
    cases_Option (Some at) = inr (at, refl)

pub apart-all : (lines : List SocketLine) → twice_refusal lines ≡ None → AllPairs AreApart lines
apart-all lines none = (none-twice [] 0 lines (first-none lines none)).1
