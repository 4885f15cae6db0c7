-- The first socket whose path an earlier one has, a step at a time.
use Rattle.std.proofs.Common.{◌≡◌, ℕ, ◌+◌, ◌<◌, cond, List, [], ◌∷◌, ◌++◌, length, get_or, take, drop, Some, refl, sym, ap, ◌∙◌}
use Rattle.std.proofs.lemmas.List.{drop_more, take_more}
use Rattle.option_file.specs.Sockets.{has_path, first_twice, twice_refusal}
use Rattle.option_file.specs.declared.refused.OptionRefused.TheVariants.{Twice}
use Rattle.option_file.specs.declared.sockets.SocketLine.{SocketLine}

pub first_twice-next : (lines : List SocketLine) (at : ℕ) (line : SocketLine) → line ≡ get_or lines at line → at < length lines
    → first_twice (take at lines) at (drop at lines)
    ≡ cond (has_path (take at lines) line.path) (Some at) (first_twice (take (at + 1) lines) (at + 1) (drop (at + 1) lines))
first_twice-next lines at line is within =
    let dropped : drop at lines ≡ line ∷ drop (at + 1) lines = drop_more lines at line within ∙ ap (λ (l : SocketLine). l ∷ drop (at + 1) lines) (sym is) in
    let taken : take (at + 1) lines ≡ take at lines ++ line ∷ [] = take_more lines at line within ∙ ap (λ (l : SocketLine). take at lines ++ l ∷ []) (sym is) in
    rw (dropped, taken) refl

pub refusal-twice : (lines : List SocketLine) (at : ℕ) → first_twice [] 0 lines ≡ Some at → twice_refusal lines ≡ Some (Twice at)
refusal-twice lines at same = rw same refl
