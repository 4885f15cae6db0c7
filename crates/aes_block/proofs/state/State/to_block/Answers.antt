use Rattle.std.proofs.Common.{ℕ, ◌<◌, List, [], ◌∷◌, refl}
use Rattle.std.proofs.lemmas.List.Elements.{All-from_recursion}
use Rattle.aes_block.proofs.state.State.to_block.Goals as goal

abbrev IsByte : ℕ → Type 0
IsByte b = b < 256

pub returns-clause-block : goal.returns-clause-block
returns-clause-block c =
    let block : List ℕ =
    c.row0.result ∷ c.row1.result ∷ c.row2.result ∷ c.row3.result ∷
    c.row0-2.result ∷ c.row1-2.result ∷ c.row2-2.result ∷ c.row3-2.result ∷
    c.row0-3.result ∷ c.row1-3.result ∷ c.row2-3.result ∷ c.row3-3.result ∷
    c.row0-4.result ∷ c.row1-4.result ∷ c.row2-4.result ∷ c.row3-4.result ∷ [] in
    record {
      sixteen = refl;
      bytes = All-from_recursion IsByte block (
        c.row0.type_inv,
        (
          c.row1.type_inv,
          (
            c.row2.type_inv,
            (
              c.row3.type_inv,
              (
                c.row0-2.type_inv,
                (
                  c.row1-2.type_inv,
                  (
                    c.row2-2.type_inv,
                    (
                      c.row3-2.type_inv,
                      (
                        c.row0-3.type_inv,
                        (
                          c.row1-3.type_inv,
                          (
                            c.row2-3.type_inv,
                            (
                              c.row3-3.type_inv,
                              (c.row0-4.type_inv, (c.row1-4.type_inv, (c.row2-4.type_inv, (c.row3-4.type_inv, tt)))),
                            ),
                          ),
                        ),
                      ),
                    ),
                  ),
                ),
              ),
            ),
          ),
        ),
      );
    }
