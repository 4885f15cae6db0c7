-- The texts of a load, one by one.
use Rattle.std.proofs.Common.{◌≡◌, ◌++◌, ℕ, zero, suc, List, [], ◌∷◌, length, vec_len, slice_get, sym, subst}
use Rattle.std.specs.declared.option.Option.{Option}
use Rattle.std.specs.declared.option.Option.TheVariants.{None, Some}
use Rattle.munge_types.specs.declared.settings.Settings.{Settings}
use Rattle.subkeys.specs.Subkeys.{IsOf as AreSubkeysOf}
use Rattle.group_map.specs.GroupMap.{IsOf as IsGroupMapOf}
use Rattle.load_maker.specs.Credentials.{AreCredentials, IsCredential, moment}
use Rattle.load_maker.specs.Load.{IsLoad, IsUsual, presenter}
use Rattle.load_maker.specs.Words.{drawn_at, key_of, place_of, seed_of}
use Rattle.load_maker.specs.declared.making.Load.{Load}
use Rattle.load_maker.specs.declared.words.Drawn.{Drawn}

some_once : (a b : List ℕ) → ◌≡◌ {A = Option (List ℕ)} (Some a) (Some b) → a ≡ b
some_once a b same = cc same

no_text : {P : Type 0} (a : List ℕ) → ◌≡◌ {A = Option (List ℕ)} None (Some a) → P
no_text a same = cc same

-- what holds of each text at its index holds with one more of which it holds
at_each : (P : ℕ → List ℕ → Type 0) (texts : List (List ℕ)) (last : List ℕ)
    → ((i : ℕ) (text : List ℕ) → slice_get texts i ≡ Some text → P i text) → P (length texts) last
    → (i : ℕ) (text : List ℕ) → slice_get (texts ++ last ∷ []) i ≡ Some text → P i text
at_each P [] last all holds zero text found = subst (P 0) (some_once last text found) holds
at_each P [] last all holds (suc i) text found = no_text text found
at_each P (x ∷ xs) last all holds zero text found = all zero text found
at_each P (x ∷ xs) last all holds (suc i) text found =
    at_each (λ at. P (suc at)) xs last (λ at. all (suc at)) holds i text found

-- the credentials with the next one behind them, which was drawn at this place
pub one_more : (seed : List ℕ) (settings : Settings) (texts : List (List ℕ)) (i place : ℕ) (drawn : Drawn) (last : List ℕ)
    → AreCredentials seed settings texts → length texts ≡ i → place ≡ place_of i → drawn ≡ drawn_at seed place
    → IsCredential (key_of seed) settings i drawn last
    → AreCredentials seed settings (texts ++ last ∷ [])
one_more seed settings texts i place drawn last all count place_is drawn_is credential =
    let P : ℕ → List ℕ → Type 0 = λ at text. IsCredential (key_of seed) settings at (drawn_at seed (place_of at)) text in
    let at_place : IsCredential (key_of seed) settings i (drawn_at seed place) last =
    subst (λ d. IsCredential (key_of seed) settings i d last) drawn_is credential in
    let here : P i last =
    subst (λ p. IsCredential (key_of seed) settings i (drawn_at seed p) last) place_is at_place in
    at_each P texts last all (subst (λ at. P at last) (sym count) here)

-- a load with the key and the texts of a number's seed
pub load_of : (n number : ℕ) (load : Load) (seed : List ℕ) → seed ≡ seed_of number
    → AreSubkeysOf load.world.subkeys (key_of seed) → IsGroupMapOf load.world.groups [] [] → IsUsual load.world.settings
    → load.who ≡ presenter → load.moment ≡ moment → load.last ≡ 1000200
    → vec_len load.texts ≡ n → AreCredentials seed load.world.settings load.texts.items
    → IsLoad n number load
load_of n number load seed same subkeys groups usual who at last count texts =
    record {
      world = record { subkeys = subst (λ s. AreSubkeysOf load.world.subkeys (key_of s)) same subkeys; groups = groups };
      settings = usual;
      who = who;
      at = at;
      last = last;
      count = count;
      texts = subst (λ s. AreCredentials s load.world.settings load.texts.items) same texts;
    }
