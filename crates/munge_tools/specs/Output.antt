-- What an output took of a text.
use Rattle.std.specs.Prelude.{◌≡◌, ◌≢◌, ℕ, List, [], ◌++◌, Option}
use Rattle.std.specs.Io.KnownBytes.{Appends}

-- the bytes are a front of these, and not all
pub record IsCut (front whole : List ℕ) : Type 0 where
  pub rest : List ℕ
  pub lacks_some : rest ≢ []
  pub joined : whole ≡ front ++ rest

-- a front of the text was taken, and not all
pub record TakesCut (taken taken' : Option (List ℕ)) (text : List ℕ) : Type 0 where
  pub front : List ℕ
  pub is_cut : IsCut front text
  pub appended : Appends taken taken' front
