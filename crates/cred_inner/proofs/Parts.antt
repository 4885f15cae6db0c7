-- Lists taken apart.
use Rattle.std.proofs.Common.{◌≡◌, ℕ, List, [], ◌∷◌, ◌++◌, length, refl, arith}

pub record SameParts (a b x y : List ℕ) : Type 0 where
  pub front : a ≡ b
  pub behind : x ≡ y

-- fronts of one length
pub apart : (a b x y : List ℕ) → length a ≡ length b → a ++ x ≡ b ++ y → SameParts a b x y
apart [] [] x y size same = record { front = refl; behind = same }
apart [] (c ∷ b) x y size same = absurd (omega (arith, size))
apart (c ∷ a) [] x y size same = absurd (omega (arith, size))
apart (c ∷ a) (d ∷ b) x y size same =
    let heads : c ≡ d = cc same in
    let tails : a ++ x ≡ b ++ y = cc same in
    let shorter : length a ≡ length b = omega (arith, size) in
    let rest = apart a b x y shorter tails in
    record { front = cc (heads, rest.front); behind = rest.behind }
