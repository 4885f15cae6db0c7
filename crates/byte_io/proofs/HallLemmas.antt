-- Lemmas on the doors of a hall in memory, for its own calls.
use Rattle.std.proofs.Common.{◌≡◌, ℕ, suc, ◌+◌, ◌<◌, true, false, cond, List, [], ◌∷◌, length, Option, Some, None, option_map, bytes_eq, slice_index_or, refl, ap, subst, arith}
use Rattle.std.specs.Prelude.{find, remove}
use Rattle.std.specs.List.{position_from}
use Rattle.std.specs.String.{string_bytes}
use Rattle.byte_io.specs.MemDoor.{DoorState}
use Rattle.byte_io.specs.MemHall.{doors_of}
use Rattle.byte_io.specs.OpensDoor.{door_of, without_door}
use Rattle.byte_io.specs.declared.memory.hall.NamedDoor.{NamedDoor}

-- the place of the first door of that path, where the first of the doors has the place `start`
abbrev pub place_from : List ℕ → ℕ → List NamedDoor → Option ℕ
place_from path start doors =
    position_from (λ named. bytes_eq (string_bytes named.path) path) start doors

-- the door at this place is the first of that path
abbrev pub IsFirstAt : List ℕ → List NamedDoor → NamedDoor → ℕ → Type 0
IsFirstAt path doors d at =
    (door_of (doors_of doors) path ≡ Some (slice_index_or doors at d).door)
    × (without_door (doors_of doors) path ≡ doors_of (remove doors at))

-- a place that was found is one of the doors
pub place_below : (path : List ℕ) (start place : ℕ) (doors : List NamedDoor)
    → place_from path start doors ≡ Some place → place < start + length doors
place_below path start place [] found = absurd (cc found)
place_below path start place (x ∷ xs) found =
    let rest = place_below path (start + 1) place xs in
    elim (bytes_eq (string_bytes x.path) path) as (λ b.
    cond b (Some start) (place_from path (start + 1) xs) ≡ Some place
    → place < start + length (x ∷ xs)) [
      | true ↦ λ here. let same : start ≡ place = cc here in omega arith
      | false ↦ λ later. let below : place < start + 1 + length xs = rest later in omega arith
    ] found

-- the door at a place that was found is the first of that path
pub first_from : (path : List ℕ) (start place : ℕ) (d : NamedDoor) (doors : List NamedDoor)
    → place_from path start doors ≡ Some place
    → (at : ℕ) × (place ≡ start + at) × IsFirstAt path doors d at
first_from path start place d [] found = absurd (cc found)
first_from path start place d (x ∷ xs) found =
    let rest = first_from path (start + 1) place d xs in
    let named : List ℕ × DoorState = (string_bytes x.path, x.door) in
    elim (bytes_eq (string_bytes x.path) path) as (λ b.
    cond b (Some start) (place_from path (start + 1) xs) ≡ Some place
    → (at : ℕ) × (place ≡ start + at)
    × ((option_map (λ named. named.1)
    (cond b (Some named) (find (λ named. bytes_eq named.0 path) (doors_of xs)))
    ≡ Some (slice_index_or (x ∷ xs) at d).door)
    × (cond b (doors_of xs) (named ∷ without_door (doors_of xs) path)
    ≡ doors_of (remove (x ∷ xs) at)))) [
      | true ↦ λ here.
          let same : start ≡ place = cc here in
          (0, omega arith, (refl {a = Some x.door}, refl {a = doors_of xs}))
      | false ↦ λ later.
          let found_later = rest later in
          let at = found_later.0 in
          let place_is : place ≡ start + 1 + at = found_later.1 in
          (suc at, omega arith, (found_later.2.0, ap (λ doors. named ∷ doors) found_later.2.1))
    ] found

-- the same of a place in the whole list
pub first_at : (path : List ℕ) (place : ℕ) (d : NamedDoor) (doors : List NamedDoor)
    → place_from path 0 doors ≡ Some place → IsFirstAt path doors d place
first_at path place d doors found =
    let first = first_from path 0 place d doors found in
    let place_is : place ≡ 0 + first.0 = first.1 in
    let same : first.0 ≡ place = omega arith in
    subst (IsFirstAt path doors d) same first.2

-- where none was found, no door has that path
pub none_from : (path : List ℕ) (start : ℕ) (doors : List NamedDoor)
    → place_from path start doors ≡ None → door_of (doors_of doors) path ≡ None
none_from path start [] found = refl
none_from path start (x ∷ xs) found =
    let rest = none_from path (start + 1) xs in
    let named : List ℕ × DoorState = (string_bytes x.path, x.door) in
    elim (bytes_eq (string_bytes x.path) path) as (λ b.
    cond b (Some start) (place_from path (start + 1) xs) ≡ None
    → option_map (λ named. named.1)
    (cond b (Some named) (find (λ named. bytes_eq named.0 path) (doors_of xs))) ≡ None) [
      | true ↦ λ here. absurd (cc here)
      | false ↦ rest
    ] found
