-- The queue's rule: what all passes have put is, in some order, what they have taken and what the
-- queue holds.
use Rattle.std.specs.Prelude.{◌≡◌, ℕ, List, [], ◌∷◌, ◌++◌, flat_map}
use Rattle.std.specs.List.{All, sum_by}
use Rattle.std.specs.List.Sorted.{IsPermutation}
use Rattle.worker_pool.specs.declared.queue.Ledger.{Ledger}

-- the parts of all passes: 64 acceptors, 64 workers, and one that gives them out
abbrev pub whole : ℕ
whole = 129

abbrev pub ledger : {T : Type 0} → (parts : ℕ) → (put taken : List T) → Ledger T
ledger parts put taken = record { parts = parts; put = put; taken = taken }

-- all that was put by these
abbrev pub puts_of : {T : Type 0} → List (Ledger T) → List T
puts_of views = flat_map (λ v. v.put) views

-- all that was taken by these
abbrev pub takens_of : {T : Type 0} → List (Ledger T) → List T
takens_of views = flat_map (λ v. v.taken) views

-- without a part nothing was put and taken
abbrev pub IsIdle : {T : Type 0} → Ledger T → Type 0
IsIdle v = v.parts ≡ 0 → (v.put ≡ []) × (v.taken ≡ [])

pub record Balanced {T : Type 0} (items : List T) (views : List (Ledger T)) : Type 0 where
  pub parts : sum_by (λ v. v.parts) views ≡ whole
  pub same : IsPermutation (puts_of views) (takens_of views ++ items)
  pub idle : All IsIdle views

abbrev pub HasPut : {T : Type 0} → (old : Ledger T) → T → (new : Ledger T) → Type 0
HasPut old item new = new ≡ ledger old.parts (old.put ++ item ∷ []) old.taken

abbrev pub HasTaken : {T : Type 0} → (old : Ledger T) → T → (new : Ledger T) → Type 0
HasTaken old item new = new ≡ ledger old.parts old.put (old.taken ++ item ∷ [])

-- who has all parts knows the whole
abbrev pub IsTotal : {T : Type 0} → Ledger T → (items : List T) → Type 0
IsTotal v items = v.parts ≡ whole → IsPermutation v.put (v.taken ++ items)
