-- An armour in the making: a part more, and its end.
use Rattle.std.proofs.Common.{◌≡◌, ℕ, ◌+◌, ◌*◌, ◌%◌, ◌<◌, ◌≤◌, zero, suc, List, [], ◌∷◌, ◌++◌, length, take, drop, refl, sym, ap, ap₂, ◌∙◌, subst, arith}
use Rattle.std.proofs.lemmas.List.{append_assoc, append-nil, length-append, length-drop, length-take-le, take-append-drop, take_all, take_at, drop_at, drop-drop, take-append-le, drop-append-le}
use Rattle.std.proofs.Math.Seq.{take-add}
use Rattle.std.specs.Int.{div_ceil}
use Rattle.base64.specs.GeneralPurpose.{IsBytes, encode_of}
use Rattle.base64.specs.Engines.{standard}
use Rattle.base64.proofs.EngineFacts.{decode_of-encode_of, encode_of-append, encode_of-nil}
use Rattle.cred_armor.specs.CredentialText.{armor_of, closing_mark, opening_mark}
use Rattle.cred_armor.specs.Armoring.{IsBegun, body_or_none, spelled_body, spelled_from}

pub IsBytes-append : (a b : List ℕ) → IsBytes a → IsBytes b → IsBytes (a ++ b)
IsBytes-append [] b all all' i = all' i
IsBytes-append (x ∷ a) b all all' zero = all 0
IsBytes-append (x ∷ a) b all all' (suc i) = IsBytes-append a b (λ k. all (suc k)) all' i

no_bytes : IsBytes []
no_bytes i = omega arith

-- what spells a body is read as that body
spelled_body-encode_of : (body : List ℕ) → IsBytes body → spelled_body (encode_of standard body) ≡ body
unfolding spelled_body
spelled_body-encode_of body bytes = ap body_or_none (decode_of-encode_of standard body refl bytes)

-- what follows an opening mark is read as the body that it spells
spelled_at : (bytes body : List ℕ) (start : ℕ) → drop start bytes ≡ opening_mark ++ encode_of standard body → IsBytes body
    → spelled_from start bytes ≡ body
unfolding spelled_from
spelled_at bytes body start begun all =
    let text : drop (start + 6) bytes ≡ encode_of standard body =
    sym (drop-drop 6 start bytes) ∙ ap (drop 6) begun ∙ drop_at opening_mark (encode_of standard body) 6 refl in
    ap spelled_body text ∙ spelled_body-encode_of body all

-- ---- the beginning

module _ (bytes after : List ℕ) (put : after ≡ bytes ++ opening_mark) where
  drop_first : drop (length bytes) after ≡ opening_mark ++ encode_of standard []
  drop_first =
      ap (drop (length bytes)) put ∙ drop_at bytes opening_mark (length bytes) refl
      ∙ ap (λ xs. opening_mark ++ xs) (sym (encode_of-nil standard))

  pub none_spelled : spelled_from (length bytes) after ≡ []
  none_spelled = spelled_at after [] (length bytes) drop_first no_bytes

  pub base_first : take (length bytes) after ≡ bytes
  base_first = ap (take (length bytes)) put ∙ take_at bytes opening_mark (length bytes) refl

  pub begun_first : (start left spare : ℕ) → start ≡ length bytes → 4 * div_ceil left 3 + 1 ≤ spare → IsBegun after start 0 left spare
  begun_first start left spare at fits =
      subst (λ (n : ℕ). IsBegun after n 0 left spare) (sym at)
      (record {
        within = omega (arith, ap length put, length-append bytes opening_mark);
        begun = drop_first ∙ ap (λ xs. opening_mark ++ encode_of standard xs) (sym none_spelled);
        bytes_of = subst IsBytes (sym none_spelled) no_bytes;
        groups = ap (λ (xs : List ℕ). length xs % 3) none_spelled;
        few = omega arith;
        room = omega arith;
      })

-- ---- a part more

module _ (bytes more after : List ℕ) (start count left spare : ℕ) (is : IsBegun bytes start count left spare)
    (all : IsBytes more) (put : after ≡ bytes ++ encode_of standard more) where
  drop_more : drop start after ≡ opening_mark ++ encode_of standard (spelled_from start bytes ++ more)
  drop_more =
      ap (drop start) put
      ∙ drop-append-le start bytes (encode_of standard more) is.within
      ∙ ap (λ xs. xs ++ encode_of standard more) is.begun
      ∙ append_assoc opening_mark (encode_of standard (spelled_from start bytes)) (encode_of standard more)
      ∙ ap (λ xs. opening_mark ++ xs) (sym (encode_of-append standard (spelled_from start bytes) more is.groups))

  pub spelled_more : spelled_from start after ≡ spelled_from start bytes ++ more
  spelled_more = spelled_at after (spelled_from start bytes ++ more) start drop_more (IsBytes-append (spelled_from start bytes) more is.bytes_of all)

  pub base_more : take start after ≡ take start bytes
  base_more = ap (take start) put ∙ take-append-le start bytes (encode_of standard more) is.within

  pub begun_more : (count' left' spare' : ℕ) → length more % 3 ≡ 0 → count' < 3 → 4 * div_ceil (count' + left') 3 + 1 ≤ spare'
      → IsBegun after start count' left' spare'
  begun_more count' left' spare' whole few fits = record {
    within = omega (arith, is.within, ap length put, length-append bytes (encode_of standard more));
    begun = drop_more ∙ ap (λ xs. opening_mark ++ encode_of standard xs) (sym spelled_more);
    bytes_of = subst IsBytes (sym spelled_more) (IsBytes-append (spelled_from start bytes) more is.bytes_of all);
    groups = ap (λ (xs : List ℕ). length xs % 3) spelled_more ∙ omega (arith, length-append (spelled_from start bytes) more, is.groups, whole);
    few = few;
    room = fits;
  }

  -- the end, with the closing mark
  pub armored_at_end : (end : List ℕ) → end ≡ after ++ closing_mark → end ≡ take start bytes ++ armor_of (spelled_from start bytes ++ more)
  armored_at_end end closed =
      let whole : after ≡ take start bytes ++ (opening_mark ++ encode_of standard (spelled_from start bytes ++ more)) =
      sym (take-append-drop start after) ∙ ap₂ (λ front back. front ++ back) base_more drop_more in
      closed ∙ ap (λ xs. xs ++ closing_mark) whole
      ∙ append_assoc (take start bytes) (opening_mark ++ encode_of standard (spelled_from start bytes ++ more)) closing_mark
      ∙ ap (λ xs. take start bytes ++ xs) (append_assoc opening_mark (encode_of standard (spelled_from start bytes ++ more)) closing_mark)

-- the base64 of a group and of whole groups behind it is that of both
pub group_then_groups : (bytes after end group groups : List ℕ) → length group % 3 ≡ 0 → after ≡ bytes ++ encode_of standard group
    → end ≡ after ++ encode_of standard groups → end ≡ bytes ++ encode_of standard (group ++ groups)
group_then_groups bytes after end group groups whole put put' =
    put' ∙ ap (λ xs. xs ++ encode_of standard groups) put
    ∙ append_assoc bytes (encode_of standard group) (encode_of standard groups)
    ∙ ap (λ xs. bytes ++ xs) (sym (encode_of-append standard group groups whole))

-- ---- the groups that a part completes, and what is left of it

regrouped : (spelled waiting front groups rest : List ℕ)
    → (spelled ++ ((waiting ++ front) ++ groups)) ++ rest ≡ (spelled ++ waiting) ++ (front ++ (groups ++ rest))
regrouped spelled waiting front groups rest = simp append_assoc

pub taken_more : (spelled waiting front groups rest part group now after : List ℕ) → part ≡ front ++ (groups ++ rest) → group ≡ waiting ++ front
    → now ≡ spelled ++ (group ++ groups) → after ≡ rest → now ++ after ≡ (spelled ++ waiting) ++ part
taken_more spelled waiting front groups rest part group now after parts is grown left =
    ap₂ ◌++◌ grown left
    ∙ ap (λ xs. (spelled ++ (xs ++ groups)) ++ rest) is
    ∙ regrouped spelled waiting front groups rest
    ∙ ap (λ xs. (spelled ++ waiting) ++ xs) (sym parts)

-- the end, with what waits
pub armored_whole : (bytes waiting more after end : List ℕ) (start count left spare : ℕ) → IsBegun bytes start count left spare → IsBytes more
    → after ≡ bytes ++ encode_of standard more → end ≡ after ++ closing_mark → more ≡ waiting
    → end ≡ take start bytes ++ armor_of (spelled_from start bytes ++ waiting)
armored_whole bytes waiting more after end start count left spare is all put closed same =
    armored_at_end bytes more after start count left spare is all put end closed
    ∙ ap (λ xs. take start bytes ++ armor_of (spelled_from start bytes ++ xs)) same

pub bytes_whole : (spelled waiting more : List ℕ) → IsBytes spelled → IsBytes more → more ≡ waiting → IsBytes (spelled ++ waiting)
bytes_whole spelled waiting more all all' same = IsBytes-append spelled waiting all (subst IsBytes same all')

-- ---- a body by pieces of 768 bytes

pub pieces_none : (bytes body : List ℕ) → bytes ≡ bytes ++ encode_of standard (take 0 body)
pieces_none bytes body = sym (ap (λ xs. bytes ++ xs) (encode_of-nil standard) ∙ append-nil bytes)

pub pieces_more : (bytes now after body : List ℕ) (n k : ℕ) → now ≡ bytes ++ encode_of standard (take (768 * n) body)
    → after ≡ now ++ encode_of standard (take k (drop (768 * n) body)) → k ≡ 768 → 768 * n ≤ length body
    → after ≡ bytes ++ encode_of standard (take (768 * (n + 1)) body)
pieces_more bytes now after body n k so_far put is within =
    let whole : length (take (768 * n) body) % 3 ≡ 0 = omega (arith, length-take-le (768 * n) body within) in
    let next : 768 * n + k ≡ 768 * (n + 1) = omega arith in
    group_then_groups bytes now after (take (768 * n) body) (take k (drop (768 * n) body)) whole so_far put
    ∙ ap (λ xs. bytes ++ encode_of standard xs) (sym (take-add (768 * n) k body) ∙ ap (λ (m : ℕ). take m body) next)

pub pieces_all : (bytes now after body : List ℕ) (n p k : ℕ) → now ≡ bytes ++ encode_of standard (take (768 * n) body)
    → after ≡ now ++ encode_of standard (take k (drop (768 * p) body)) → n ≡ p → 768 * p ≤ length body → length body ≤ 768 * p + k
    → after ≡ bytes ++ encode_of standard body
pieces_all bytes now after body n p k so_far put same within all =
    let whole : length (take (768 * n) body) % 3 ≡ 0 = omega (arith, length-take-le (768 * n) body (omega arith)) in
    let last : take k (drop (768 * p) body) ≡ drop (768 * p) body = take_all k (drop (768 * p) body) (omega (arith, length-drop (768 * p) body)) in
    group_then_groups bytes now after (take (768 * n) body) (take k (drop (768 * p) body)) whole so_far put
    ∙ ap (λ xs. bytes ++ encode_of standard xs)
    (ap₂ (λ (m : ℕ) rest. take (768 * m) body ++ rest) same last ∙ take-append-drop (768 * p) body)

-- ---- a part in three

pub split_twice : (part front behind groups rest : List ℕ) (m n : ℕ) → front ≡ take m part → behind ≡ drop m part → groups ≡ take n behind
    → rest ≡ drop n behind → part ≡ front ++ (groups ++ rest)
split_twice part front behind groups rest m n is_front is_behind is_groups is_rest =
    sym (
    ap₂ (λ a b. a ++ b) is_front (ap₂ (λ a b. a ++ b) is_groups is_rest ∙ take-append-drop n behind ∙ is_behind)
    ∙ take-append-drop m part
    )

pub whole_group : (group is : List ℕ) (n : ℕ) → take n group ≡ is → length group ≤ n → group ≡ is
whole_group group is n taken within = sym (take_all n group within) ∙ taken
