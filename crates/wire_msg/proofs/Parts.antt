-- Lists taken apart.
use Rattle.std.proofs.Common.{◌≡◌, ℕ, ◌<◌, ◌^◌, List, [], ◌∷◌, ◌++◌, length, refl, sym, ap, ◌∙◌, arith}
use Rattle.std.specs.Int.{w32, w64, from_be_bytes}
use Rattle.std.proofs.lemmas.Nat.{from_be_bytes-to_be_bytes_4, from_be_bytes-to_be_bytes_8}
use Rattle.munge_types.specs.BigEndian.{be32, be64}

pub record SameParts (a b x y : List ℕ) : Type 0 where
  pub front : a ≡ b
  pub behind : x ≡ y

-- fronts of one length
pub apart : (a b x y : List ℕ) → length a ≡ length b → a ++ x ≡ b ++ y → SameParts a b x y
apart [] [] x y size same = record { front = refl; behind = same }
apart [] (c ∷ b) x y size same = absurd (omega (arith, size))
apart (c ∷ a) [] x y size same = absurd (omega (arith, size))
apart (c ∷ a) (d ∷ b) x y size same =
    let heads : c ≡ d = cc same in
    let tails : a ++ x ≡ b ++ y = cc same in
    let shorter : length a ≡ length b = omega (arith, size) in
    let rest = apart a b x y shorter tails in
    record { front = cc (heads, rest.front); behind = rest.behind }

pub record SameNumber (m n : ℕ) (x y : List ℕ) : Type 0 where
  pub number : m ≡ n
  pub behind : x ≡ y

-- numbers of four bytes
pub number_apart : (m n : ℕ) (x y : List ℕ) → m < 2 ^ 32 → n < 2 ^ 32 → be32 m ++ x ≡ be32 n ++ y → SameNumber m n x y
number_apart m n x y m_fits n_fits same =
    let parts = apart (be32 m) (be32 n) x y refl same in
    record {
      number = sym (from_be_bytes-to_be_bytes_4 m m_fits) ∙ (ap (from_be_bytes w32) parts.front ∙ from_be_bytes-to_be_bytes_4 n n_fits);
      behind = parts.behind;
    }

-- numbers of eight
pub number8_apart : (m n : ℕ) (x y : List ℕ) → m < 2 ^ 64 → n < 2 ^ 64 → be64 m ++ x ≡ be64 n ++ y → SameNumber m n x y
number8_apart m n x y m_fits n_fits same =
    let parts = apart (be64 m) (be64 n) x y refl same in
    record {
      number = sym (from_be_bytes-to_be_bytes_8 m m_fits) ∙ (ap (from_be_bytes w64) parts.front ∙ from_be_bytes-to_be_bytes_8 n n_fits);
      behind = parts.behind;
    }
