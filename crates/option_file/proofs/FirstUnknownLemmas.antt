-- The fold over a table's keys finds the least unknown one.
use Rattle.std.proofs.Common.{◌≡◌, ◌≢◌, ℕ, List, Bool, true, false, ◌⊎◌, Option, Some, None, Less, Greater, nat_cmp, refl, sym, ◌∙◌, ap, subst, inl, inr}
use Rattle.std.proofs.lemmas.Bool.{cases_Bool}
use Rattle.std.proofs.lemmas.Cmp.{nat_list_cmp_total}
use Rattle.std.proofs.lemmas.Map.Text.{is_eq-slice_cmp}
use Rattle.std.proofs.lemmas.Slice.Eq.{bytes_eq-Decides}
use Rattle.std.specs.Cmp.Lexicographic.{slice_cmp}
use Rattle.std.specs.Ordering.{is_lt, ordering_reverse}
use Rattle.std.specs.Str.{bytes_eq}
use Rattle.std.specs.declared.cmp.Ordering.{Ordering}
use Rattle.std.specs.declared.cmp.Ordering.TheVariants as order
use Rattle.toml.specs.Data.{Data, Members, no_members, member}
use Rattle.option_file.specs.FirstUnknown.{has_key, IsFirstUnknown}
use Rattle.option_file.specs.KnownKeys.{earlier, first_unknown, is_known, unknown_refusal}
use Rattle.option_file.specs.declared.known_keys.Place.{Place}
use Rattle.option_file.specs.declared.refused.OptionRefused.{OptionRefused}
use Rattle.option_file.specs.declared.refused.OptionRefused.TheVariants.{Unknown}

cases_Ordering : (o : Ordering) → (o ≡ order.Less) ⊎ ((o ≡ order.Equal) ⊎ (o ≡ order.Greater))
cases_Ordering order.Less = inl refl
cases_Ordering order.Equal = inr (inl refl)
cases_Ordering order.Greater = inr (inr refl)

cases_Found : (found : Option (List ℕ)) → (found ≡ None) ⊎ ((name : List ℕ) × (found ≡ Some name))
cases_Found None = inl refl
cases_Found (Some name) = inr (name, refl)

not-both : {A : Type 0} (b : Bool) → b ≡ true → b ≡ false → A
not-both b holds fails = let same : ◌≡◌ {A = Bool} true false = sym holds ∙ fails in absurd (cc)

own-reverse : (o : Ordering) → o ≡ ordering_reverse o → o ≡ order.Equal
own-reverse order.Less same = cc
own-reverse order.Equal same = refl
own-reverse order.Greater same = cc

same-equal : (name : List ℕ) → slice_cmp nat_cmp name name ≡ order.Equal
same-equal name = own-reverse (slice_cmp nat_cmp name name) (nat_list_cmp_total.antisymm name name)

not-before_itself : (other name : List ℕ) → other ≡ name → slice_cmp nat_cmp other name ≢ order.Less
not-before_itself other name same less =
    let equal : slice_cmp nat_cmp other name ≡ order.Equal = rw same (same-equal name) in
    let no : ◌≡◌ {A = Ordering} order.Less order.Equal = sym less ∙ equal in absurd (cc)

equal-same : (name other : List ℕ) → slice_cmp nat_cmp name other ≡ order.Equal → name ≡ other
equal-same name other equal =
    let test : bytes_eq name other ≡ true = sym (is_eq-slice_cmp name other) ∙ rw equal refl in
    (bytes_eq-Decides name other).0 test

has-here : (name : List ℕ) (value : Data) (keys : Members) → has_key name (member name value keys) ≡ true
has-here name value keys = rw (same-equal name) refl

has-behind : (name key : List ℕ) (value : Data) (keys : Members) → has_key name keys ≡ true → has_key name (member key value keys) ≡ true
has-behind name key value keys has =
    elim (cases_Ordering (slice_cmp nat_cmp name key)) [
      | inl less ↦ rw less has
      | inr rest ↦ elim rest [
        | inl equal ↦ rw equal refl
        | inr greater ↦ rw greater has
      ]
    ]

has-cases : (name key : List ℕ) (value : Data) (keys : Members) → has_key name (member key value keys) ≡ true → (name ≡ key) ⊎ (has_key name keys ≡ true)
has-cases name key value keys has =
    elim (cases_Ordering (slice_cmp nat_cmp name key)) [
      | inl less ↦ inr (rw less at has)
      | inr rest ↦ elim rest [
        | inl equal ↦ inl (equal-same name key equal)
        | inr greater ↦ inr (rw greater at has)
      ]
    ]

earlier-some : {A : Type 0} (name : List ℕ) (found : Option (List ℕ)) → earlier name found ≡ None → A
earlier-some name None none = let no : ◌≡◌ {A = Option (List ℕ)} (Some name) None = none in absurd (cc)
earlier-some name (Some other) none =
    elim (cases_Bool (is_lt (slice_cmp nat_cmp name other))) [
      | inl sooner ↦ let no : ◌≡◌ {A = Option (List ℕ)} (Some name) None = rw sooner at none in absurd (cc)
      | inr later ↦ let no : ◌≡◌ {A = Option (List ℕ)} (Some other) None = rw later at none in absurd (cc)
    ]

pub all-known : (at : Place) (keys : Members) (name : List ℕ) → first_unknown at keys ≡ None → has_key name keys ≡ true → is_known at name ≡ true
all-known at no_members name none has = let no : ◌≡◌ {A = Bool} false true = has in absurd (cc)
all-known at (member key value keys) name none has =
    elim (cases_Bool (is_known at key)) [
      | inl known ↦ elim (has-cases name key value keys has) [
        | inl same ↦ rw same known
        | inr behind ↦ all-known at keys name (rw known at none) behind
      ]
      | inr unknown ↦ earlier-some key (first_unknown at keys) (rw unknown at none)
    ]

behind-known : (at : Place) (key : List ℕ) (value : Data) (keys : Members) (name : List ℕ) → is_known at key ≡ true → IsFirstUnknown at keys name
    → IsFirstUnknown at (member key value keys) name
behind-known at key value keys name known rest = record {
  unknown = rest.unknown;
  there = has-behind name key value keys rest.there;
  first = λ other has unknown. elim (has-cases other key value keys has) [
    | inl same ↦ not-both (is_known at other) (rw same known) unknown
    | inr behind ↦ rest.first other behind unknown
  ];
}

only-here : (at : Place) (key : List ℕ) (value : Data) (keys : Members) → is_known at key ≡ false → first_unknown at keys ≡ None
    → IsFirstUnknown at (member key value keys) key
only-here at key value keys unknown none = record {
  unknown = unknown;
  there = has-here key value keys;
  first = λ other has other_unknown. elim (has-cases other key value keys has) [
    | inl same ↦ not-before_itself other key same
    | inr behind ↦ not-both (is_known at other) (all-known at keys other none behind) other_unknown
  ];
}

sooner-here : (at : Place) (key : List ℕ) (value : Data) (keys : Members) (name : List ℕ) → is_known at key ≡ false → IsFirstUnknown at keys name
    → slice_cmp nat_cmp key name ≡ order.Less → IsFirstUnknown at (member key value keys) key
sooner-here at key value keys name unknown rest sooner = record {
  unknown = unknown;
  there = has-here key value keys;
  first = λ other has other_unknown. elim (has-cases other key value keys has) [
    | inl same ↦ not-before_itself other key same
    | inr behind ↦ λ less. rest.first other behind other_unknown (nat_list_cmp_total.trans other key name less sooner)
  ];
}

later-here : (at : Place) (key : List ℕ) (value : Data) (keys : Members) (name : List ℕ) → IsFirstUnknown at keys name
    → slice_cmp nat_cmp key name ≢ order.Less → IsFirstUnknown at (member key value keys) name
later-here at key value keys name rest later = record {
  unknown = rest.unknown;
  there = has-behind name key value keys rest.there;
  first = λ other has other_unknown. elim (has-cases other key value keys has) [
    | inl same ↦ rw same later
    | inr behind ↦ rest.first other behind other_unknown
  ];
}

is_lt-less : (o : Ordering) → is_lt o ≡ true → o ≡ order.Less
is_lt-less order.Less holds = refl
is_lt-less order.Equal holds = let no : ◌≡◌ {A = Bool} false true = holds in absurd (cc)
is_lt-less order.Greater holds = let no : ◌≡◌ {A = Bool} false true = holds in absurd (cc)

pub first-least : (at : Place) (keys : Members) (name : List ℕ) → first_unknown at keys ≡ Some name → IsFirstUnknown at keys name
first-least at no_members name found = let no : ◌≡◌ {A = Option (List ℕ)} None (Some name) = found in absurd (cc)
first-least at (member key value keys) name found =
    elim (cases_Bool (is_known at key)) [
      | inl known ↦ behind-known at key value keys name known (first-least at keys name (rw known at found))
      | inr unknown ↦ elim (cases_Found (first_unknown at keys)) [
        | inl none ↦
            let same : ◌≡◌ {A = Option (List ℕ)} (Some key) (Some name) = rw (unknown, none) at found in
            let is : key ≡ name = cc in
            subst (IsFirstUnknown at (member key value keys)) is (only-here at key value keys unknown none)
        | inr some ↦
            let rest = first-least at keys some.0 some.1 in
            elim (cases_Bool (is_lt (slice_cmp nat_cmp key some.0))) [
              | inl sooner ↦
                  let same : ◌≡◌ {A = Option (List ℕ)} (Some key) (Some name) = rw (unknown, some.1, sooner) at found in
                  let is : key ≡ name = cc in
                  subst (IsFirstUnknown at (member key value keys)) is (sooner-here at key value keys some.0 unknown rest (is_lt-less (slice_cmp nat_cmp key some.0) sooner))
              | inr later ↦
                  let same : ◌≡◌ {A = Option (List ℕ)} (Some some.0) (Some name) = rw (unknown, some.1, later) at found in
                  let is : some.0 ≡ name = cc in
                  subst (IsFirstUnknown at (member key value keys)) is (later-here at key value keys some.0 rest (λ less. let no : ◌≡◌ {A = Bool} true false = rw less at later in absurd (cc)))
            ]
      ]
    ]

pub told-first : (at : Place) (keys : Members) (name : List ℕ) → unknown_refusal at keys ≡ Some (Unknown name) → IsFirstUnknown at keys name
told-first at keys name told =
    elim (cases_Found (first_unknown at keys)) [
      | inl none ↦ let no : ◌≡◌ {A = Option OptionRefused} None (Some (Unknown name)) = rw none at told in absurd (cc)
      | inr some ↦
          let same : ◌≡◌ {A = Option OptionRefused} (Some (Unknown some.0)) (Some (Unknown name)) = rw some.1 at told in
          let is : some.0 ≡ name = cc in
          first-least at keys name (some.1 ∙ ap Some is)
    ]

pub untold-known : (at : Place) (keys : Members) (name : List ℕ) → unknown_refusal at keys ≡ None → has_key name keys ≡ true → is_known at name ≡ true
untold-known at keys name untold has =
    elim (cases_Found (first_unknown at keys)) [
      | inl none ↦ all-known at keys name none has
      | inr some ↦ let no : ◌≡◌ {A = Option OptionRefused} (Some (Unknown some.0)) None = rw some.1 at untold in absurd (cc)
    ]
