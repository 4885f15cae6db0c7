-- Chaining block by block.
use Rattle.std.proofs.Common.{◌≡◌, ℕ, zero, suc, ◌+◌, ◌*◌, ◌/◌, ◌%◌, ◌<◌, ◌≤◌, List, [], ◌++◌, length, take, drop, All, refl, sym, ap, ap₂, ◌∙◌, subst, arith}
use Rattle.std.proofs.lemmas.List.{append-nil, append_assoc, length-append, length-drop, length-take-le, take-append-drop, take_at, drop_at, drop-drop, take_all, drop_all, nil_from_length}
use Rattle.std.proofs.lemmas.List.Elements.{All-nil, All-append, All-take, All-drop}
use borrow.Rule.Slice.PartMut.{put_mid}
use Rattle.aes_block.specs.State.{IsBlock}
use Rattle.aes_block.specs.Cipher.{cipher}
use Rattle.cbc_mode.specs.Cbc.{xor, chained, cbc, IsBlocks}
use Rattle.cbc_mode.proofs.Xor.{IsBlock-xor, xor_undone}

abbrev pub IsByte : ℕ → Type 0
IsByte b = b < 256

pub cbc_none : (key before : List ℕ) → cbc key before [] ≡ []
unfolding cbc chained
cbc_none key before = refl

pub cbc_more : (key before block rest : List ℕ) → length block ≡ 16
    → cbc key before (block ++ rest) ≡ cipher key (xor block before) ++ cbc key (cipher key (xor block before)) rest
unfolding cbc chained
cbc_more key before block rest sixteen =
    let count : length (block ++ rest) / 16 ≡ suc (length rest / 16) = omega (arith, length-append block rest) in
    rw (count, take_at block rest 16 sixteen, drop_at block rest 16 sixteen) refl

-- ---- in place: at a number of bytes, a list is split into a block and what follows

module _ (buf block now after : List ℕ) (done next : ℕ) (fits : done + 16 ≤ length buf) (is : block ≡ take 16 (drop done buf)) (sixteen : length now ≡ 16) (put : after ≡ take done buf ++ (now ++ drop 16 (drop done buf))) (on : done + 16 ≡ next) where
  rest_is : drop done buf ≡ block ++ drop next buf
  rest_is =
      sym (take-append-drop 16 (drop done buf))
      ∙ ap₂ ◌++◌ (sym is) (drop-drop 16 done buf ∙ ap (λ (n : ℕ). drop n buf) on)

  length_now : length (take done buf ++ now) ≡ next
  length_now = length-append (take done buf) now ∙ ap₂ (λ (x y : ℕ). x + y) (length-take-le done buf (omega arith)) sixteen ∙ on

  put_is : after ≡ (take done buf ++ now) ++ drop next buf
  put_is =
      put
      ∙ ap (λ rest. take done buf ++ (now ++ rest)) (drop-drop 16 done buf ∙ ap (λ (n : ℕ). drop n buf) on)
      ∙ sym (append_assoc (take done buf) now (drop next buf))

  take_put : take next after ≡ take done buf ++ now
  take_put = ap (take next) put_is ∙ take_at (take done buf ++ now) (drop next buf) next length_now

  drop_put : drop next after ≡ drop next buf
  drop_put = ap (drop next) put_is ∙ drop_at (take done buf ++ now) (drop next buf) next length_now

-- what is left from some bytes on is also left from more on
left_more : (buf old : List ℕ) (done next : ℕ) → drop done buf ≡ drop done old → done + 16 ≡ next → drop next buf ≡ drop next old
left_more buf old done next left on =
    sym (drop-drop 16 done buf ∙ ap (λ (n : ℕ). drop n buf) on) ∙ ap (drop 16) left ∙ drop-drop 16 done old ∙ ap (λ (n : ℕ). drop n old) on

-- this many bytes of the list are encrypted in place, the last cipher block is given: whatever
-- comes behind the list goes on from there
pub record IsSealedUpTo (key iv old buf before : List ℕ) (done : ℕ) : Type 0 where
  pub so_far : (rest : List ℕ) → cbc key iv (old ++ rest) ≡ take done buf ++ cbc key before (drop done old ++ rest)
  pub left : drop done buf ≡ drop done old

pub sealed_none : (key iv old : List ℕ) → IsSealedUpTo key iv old old iv 0
sealed_none key iv old = record { so_far = λ rest. refl; left = refl }

pub sealed_more : (key iv old buf before block now after : List ℕ) (done next : ℕ) → IsSealedUpTo key iv old buf before done
    → done + 16 ≤ length buf → block ≡ take 16 (drop done buf) → length block ≡ 16 → length now ≡ 16
    → after ≡ take done buf ++ (now ++ drop 16 (drop done buf)) → done + 16 ≡ next
    → now ≡ cipher key (xor block before) → IsSealedUpTo key iv old after now next
sealed_more key iv old buf before block now after done next sealed fits is long sixteen put on made =
    let left : drop next buf ≡ drop next old = left_more buf old done next sealed.left on in
    let from : drop done old ≡ block ++ drop next old =
    sym sealed.left ∙ rest_is buf block now after done next fits is sixteen put on ∙ ap (λ xs. block ++ xs) left in
    record {
      so_far = λ rest.
          let step : cbc key before (drop done old ++ rest) ≡ now ++ cbc key now (drop next old ++ rest) =
          ap (λ xs. cbc key before (xs ++ rest)) from
          ∙ ap (cbc key before) (append_assoc block (drop next old) rest)
          ∙ cbc_more key before block (drop next old ++ rest) long
          ∙ ap (λ c. c ++ cbc key c (drop next old ++ rest)) (sym made) in
          sealed.so_far rest ∙ ap (λ xs. take done buf ++ xs) step
          ∙ sym (append_assoc (take done buf) now (cbc key now (drop next old ++ rest)))
          ∙ ap (λ xs. xs ++ cbc key now (drop next old ++ rest)) (sym (take_put buf block now after done next fits is sixteen put on));
      left = drop_put buf block now after done next fits is sixteen put on ∙ left;
    }

-- the same for a block that is written back, which is the k bytes from there on
pub sealed_step : (key iv old buf before now kept : List ℕ) (n k : ℕ) → IsSealedUpTo key iv old buf before (16 * n)
    → k ≡ 16 → n < length old / 16 → length buf ≡ length old → length kept ≡ 16 → kept ≡ now
    → now ≡ cipher key (xor (take k (drop (16 * n) buf)) before) → IsSealedUpTo key iv old (put_mid (16 * n) k buf now) kept (16 * (n + 1))
sealed_step key iv old buf before now kept n k sealed is_sixteen below same long same_now made =
    let block : List ℕ = take 16 (drop (16 * n) buf) in
    let behind : 16 ≤ length (drop (16 * n) buf) = omega (arith, length-drop (16 * n) buf) in
    let step : now ≡ cipher key (xor block before) → IsSealedUpTo key iv old (put_mid (16 * n) 16 buf now) now (16 * (n + 1)) =
    sealed_more key iv old buf before block now (put_mid (16 * n) 16 buf now) (16 * n) (16 * (n + 1)) sealed (omega arith) refl
    (length-take-le 16 (drop (16 * n) buf) behind) (sym (ap length same_now) ∙ long) refl (omega arith) in
    subst (λ c. IsSealedUpTo key iv old (put_mid (16 * n) k buf now) c (16 * (n + 1))) (sym same_now)
    (subst (λ (j : ℕ). now ≡ cipher key (xor (take j (drop (16 * n) buf)) before) → IsSealedUpTo key iv old (put_mid (16 * n) j buf now) now (16 * (n + 1))) (sym is_sixteen) step made)

-- at the end, what comes behind is chained to the last cipher block
pub sealed_then : (key iv old buf before : List ℕ) (done : ℕ) → IsSealedUpTo key iv old buf before done → length buf ≡ length old
    → length old ≤ done → (rest : List ℕ) → cbc key iv (old ++ rest) ≡ buf ++ cbc key before rest
sealed_then key iv old buf before done sealed same all rest =
    sealed.so_far rest
    ∙ ap₂ (λ front left. front ++ cbc key before (left ++ rest)) (take_all done buf (omega arith)) (drop_all done old all)

pub sealed_all : (key iv old buf before : List ℕ) (done : ℕ) → IsSealedUpTo key iv old buf before done → length buf ≡ length old
    → length old ≤ done → buf ≡ cbc key iv old
sealed_all key iv old buf before done sealed same all =
    sym (
    ap (cbc key iv) (sym (append-nil old))
    ∙ sealed_then key iv old buf before done sealed same all []
    ∙ ap (λ xs. buf ++ xs) (cbc_none key before)
    ∙ append-nil buf
    )

-- this many bytes of the list are decrypted in place, the last cipher block is given
pub record IsOpenedUpTo (key iv old buf before : List ℕ) (done : ℕ) : Type 0 where
  pub so_far : (rest : List ℕ) → cbc key before rest ≡ drop done old → cbc key iv (take done buf ++ rest) ≡ old
  pub left : drop done buf ≡ drop done old

pub opened_none : (key iv old : List ℕ) → IsOpenedUpTo key iv old old iv 0
opened_none key iv old = record { so_far = λ rest same. same; left = refl }

pub opened_more : (key iv old buf before block now after : List ℕ) (done next : ℕ) → IsOpenedUpTo key iv old buf before done
    → done + 16 ≤ length buf → block ≡ take 16 (drop done buf) → length now ≡ 16
    → after ≡ take done buf ++ (now ++ drop 16 (drop done buf)) → done + 16 ≡ next
    → cipher key (xor now before) ≡ block → IsOpenedUpTo key iv old after block next
opened_more key iv old buf before block now after done next opened fits is sixteen put on made =
    let left : drop next buf ≡ drop next old = left_more buf old done next opened.left on in
    let rest_now : drop done old ≡ block ++ drop next old =
    sym opened.left ∙ rest_is buf block now after done next fits is sixteen put on ∙ ap (λ xs. block ++ xs) left in
    record {
      so_far = λ rest same.
          let step : cbc key before (now ++ rest) ≡ drop done old =
          cbc_more key before now rest sixteen ∙ ap (λ c. c ++ cbc key c rest) made ∙ ap (λ xs. block ++ xs) same ∙ sym rest_now in
          ap (λ xs. cbc key iv (xs ++ rest)) (take_put buf block now after done next fits is sixteen put on)
          ∙ ap (cbc key iv) (append_assoc (take done buf) now rest)
          ∙ opened.so_far (now ++ rest) step;
      left = drop_put buf block now after done next fits is sixteen put on ∙ left;
    }

pub opened_step : (key iv old buf before now kept : List ℕ) (n k : ℕ) → IsOpenedUpTo key iv old buf before (16 * n)
    → k ≡ 16 → n < length old / 16 → length buf ≡ length old → length now ≡ k → kept ≡ take k (drop (16 * n) buf)
    → cipher key (xor now before) ≡ take k (drop (16 * n) buf) → IsOpenedUpTo key iv old (put_mid (16 * n) k buf now) kept (16 * (n + 1))
opened_step key iv old buf before now kept n k opened is_sixteen below same long same_block made =
    let block : List ℕ = take 16 (drop (16 * n) buf) in
    let step : cipher key (xor now before) ≡ block → IsOpenedUpTo key iv old (put_mid (16 * n) 16 buf now) block (16 * (n + 1)) =
    opened_more key iv old buf before block now (put_mid (16 * n) 16 buf now) (16 * n) (16 * (n + 1)) opened (omega arith) refl
    (long ∙ is_sixteen) refl (omega arith) in
    subst (λ c. IsOpenedUpTo key iv old (put_mid (16 * n) k buf now) c (16 * (n + 1))) (sym same_block)
    (subst
    (λ (j : ℕ). cipher key (xor now before) ≡ take j (drop (16 * n) buf)
    → IsOpenedUpTo key iv old (put_mid (16 * n) j buf now) (take j (drop (16 * n) buf)) (16 * (n + 1)))
    (sym is_sixteen) step made)

pub opened_all : (key iv old buf before : List ℕ) (done : ℕ) → IsOpenedUpTo key iv old buf before done → length buf ≡ length old
    → length old ≤ done → cbc key iv buf ≡ old
opened_all key iv old buf before done opened same all =
    ap (cbc key iv) (sym (append-nil buf) ∙ ap (λ xs. xs ++ []) (sym (take_all done buf (omega arith))))
    ∙ opened.so_far [] (cbc_none key before ∙ sym (drop_all done old all))

-- ---- lengths, bytes, and one to one

module _ (key : List ℕ) (size : (block : List ℕ) → length (cipher key block) ≡ 16) where
  length-chained : (n : ℕ) (before plain : List ℕ) → length (chained n key before plain) ≡ n * 16
  unfolding chained
  length-chained zero before plain = refl
  length-chained (suc n) before plain =
      let block : List ℕ = cipher key (xor (take 16 plain) before) in
      length-append block (chained n key block (drop 16 plain)) ∙ ap₂ (λ (x y : ℕ). x + y) (size (xor (take 16 plain) before)) (length-chained n block (drop 16 plain)) ∙ omega arith

  pub length-cbc : (iv plain : List ℕ) → length plain % 16 ≡ 0 → length (cbc key iv plain) ≡ length plain
  unfolding cbc
  length-cbc iv plain whole = length-chained (length plain / 16) iv plain ∙ omega arith

module _ (key : List ℕ) (size : (block : List ℕ) → length (cipher key block) ≡ 16)
    (to_block : (block : List ℕ) → IsBlock block → IsBlock (cipher key block))
    (one : (first second : List ℕ) → IsBlock first → IsBlock second → cipher key first ≡ cipher key second → first ≡ second) where
  IsBlock-first : (n : ℕ) (plain : List ℕ) → All IsByte plain → length plain ≡ suc n * 16 → IsBlock (take 16 plain)
  IsBlock-first n plain bytes long = record {
    sixteen = length-take-le 16 plain (omega arith);
    bytes = All-take IsByte 16 plain bytes;
  }

  length-rest : (n : ℕ) (plain : List ℕ) → length plain ≡ suc n * 16 → length (drop 16 plain) ≡ n * 16
  length-rest n plain long = length-drop 16 plain ∙ omega arith

  All-chained : (n : ℕ) (before plain : List ℕ) → IsBlock before → All IsByte plain → length plain ≡ n * 16 → All IsByte (chained n key before plain)
  unfolding chained
  All-chained zero before plain is bytes long = All-nil IsByte
  All-chained (suc n) before plain is bytes long =
      let block : List ℕ = cipher key (xor (take 16 plain) before) in
      let block_is : IsBlock block = to_block (xor (take 16 plain) before) (IsBlock-xor (take 16 plain) before (IsBlock-first n plain bytes long) is) in
      All-append IsByte block (chained n key block (drop 16 plain)) block_is.bytes
      (All-chained n block (drop 16 plain) block_is (All-drop IsByte 16 plain bytes) (length-rest n plain long))

  chained_one_to_one : (n : ℕ) (before first second : List ℕ) → IsBlock before → All IsByte first → All IsByte second
      → length first ≡ n * 16 → length second ≡ n * 16 → chained n key before first ≡ chained n key before second → first ≡ second
  unfolding chained
  chained_one_to_one zero before first second is bytes bytes' long long' same = nil_from_length first long ∙ sym (nil_from_length second long')
  chained_one_to_one (suc n) before first second is bytes bytes' long long' same =
      let block : List ℕ = cipher key (xor (take 16 first) before) in
      let block' : List ℕ = cipher key (xor (take 16 second) before) in
      let rest : List ℕ = chained n key block (drop 16 first) in
      let rest' : List ℕ = chained n key block' (drop 16 second) in
      let head : IsBlock (take 16 first) = IsBlock-first n first bytes long in
      let head' : IsBlock (take 16 second) = IsBlock-first n second bytes' long' in
      let sum : IsBlock (xor (take 16 first) before) = IsBlock-xor (take 16 first) before head is in
      let sum' : IsBlock (xor (take 16 second) before) = IsBlock-xor (take 16 second) before head' is in
      let size_is : length block ≡ 16 = size (xor (take 16 first) before) in
      let size_is' : length block' ≡ 16 = size (xor (take 16 second) before) in
      let blocks : block ≡ block' = sym (take_at block rest 16 size_is) ∙ ap (take 16) same ∙ take_at block' rest' 16 size_is' in
      let sums : xor (take 16 first) before ≡ xor (take 16 second) before = one (xor (take 16 first) before) (xor (take 16 second) before) sum sum' blocks in
      let heads : take 16 first ≡ take 16 second =
      sym (xor_undone (take 16 first) before head.sixteen is.sixteen) ∙ ap (λ x. xor x before) sums ∙ xor_undone (take 16 second) before head'.sixteen is.sixteen in
      let rests : rest ≡ chained n key block (drop 16 second) =
      sym (drop_at block rest 16 size_is) ∙ ap (drop 16) same ∙ drop_at block' rest' 16 size_is' ∙ ap (λ c. chained n key c (drop 16 second)) (sym blocks) in
      let tails : drop 16 first ≡ drop 16 second =
      chained_one_to_one n block (drop 16 first) (drop 16 second) (to_block (xor (take 16 first) before) sum) (All-drop IsByte 16 first bytes)
      (All-drop IsByte 16 second bytes') (length-rest n first long) (length-rest n second long') rests in
      sym (take-append-drop 16 first) ∙ ap₂ ◌++◌ heads tails ∙ take-append-drop 16 second

  pub IsBlocks-cbc : (iv plain : List ℕ) → IsBlock iv → IsBlocks plain → IsBlocks (cbc key iv plain)
  unfolding cbc
  IsBlocks-cbc iv plain iv_is is =
      let whole : length plain % 16 ≡ 0 = is.whole in
      let long : length (cbc key iv plain) ≡ length plain = length-cbc key size iv plain whole in
      record {
        whole = ap (λ (n : ℕ). n % 16) long ∙ whole;
        bytes = All-chained (length plain / 16) iv plain iv_is is.bytes (omega arith);
      }

  pub cbc_one_to_one : (iv first second : List ℕ) → IsBlock iv → IsBlocks first → IsBlocks second
      → cbc key iv first ≡ cbc key iv second → first ≡ second
  unfolding cbc
  cbc_one_to_one iv first second iv_is is is' same =
      let whole : length first % 16 ≡ 0 = is.whole in
      let whole' : length second % 16 ≡ 0 = is'.whole in
      let longs : length first ≡ length second = sym (length-cbc key size iv first whole) ∙ ap length same ∙ length-cbc key size iv second whole' in
      chained_one_to_one (length first / 16) iv first second iv_is is.bytes is'.bytes (omega arith) (omega arith)
      (same ∙ ap (λ (n : ℕ). chained (n / 16) key iv second) (sym longs))
