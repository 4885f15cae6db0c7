use Rattle.std.proofs.Common.{◌≡◌, ℕ, List, take, rules}
use Rattle.munge_types.specs.declared.algorithms.Cipher.TheVariants as ciphers
use Rattle.cbc_mode.specs.Padding.{IsPaddedFront, padded}
use Rattle.munge_types.specs.Bytes.{IsBytes}
use Rattle.cred_open.specs.Body.{Seals}
use Rattle.cred_open.proofs.Decryption.{vector_is, decrypted, not_padded, if_some, if_none}
use Rattle.cred_open.proofs.unsealing.decrypt.Goals as goal

pub returns-clause-plain : goal.returns-clause-plain
returns-clause-plain c =
    λ key of.
    let other : c.args.cipher ≡ ciphers.None → ⊥ = search rules in
    let vector : c.in-Some.iv.now ≡ c.args.iv.now = vector_is c.args.cipher c.args.iv.now c.in-Some.iv.now other c.requires.vector c.in-Some.ensures.cases.same in
    if_some c.unpad.result (IsPaddedFront c.open_in_place.new.buf) _
    (λ n front. decrypted c.args.cipher key c.args.subkeys.now c.args.kind c.args.iv.now c.args.mac.now _
    c.args.sealed.now c.open_in_place.new.buf (take n c.open_in_place.new.buf)
    other of c.data_key.ensures (rw vector at c.open_in_place.ensures.undone) front.padded_front)
    c.unpad.ensures.front

pub returns-clause-none : goal.returns-clause-none
returns-clause-none c =
    λ key of.
    let other : c.args.cipher ≡ ciphers.None → ⊥ = search rules in
    let vector : c.in-Some.iv.now ≡ c.args.iv.now = vector_is c.args.cipher c.args.iv.now c.in-Some.iv.now other c.requires.vector c.in-Some.ensures.cases.same in
    if_none c.unpad.result ((bytes : List ℕ) → padded bytes ≡ c.open_in_place.new.buf → ⊥)
    ((inner : List ℕ) → IsBytes inner → Seals key c.args.cipher c.args.kind c.args.iv.now c.args.mac.now inner c.args.sealed.now → ⊥)
    (λ unpadded inner. not_padded c.args.cipher key c.args.subkeys.now c.args.kind c.args.iv.now c.args.mac.now _
    c.args.sealed.now c.open_in_place.new.buf inner
    other of c.data_key.ensures
    (record { only = rw vector at c.open_in_place.ensures.only; blocks = c.padding_is_one_to_one.ensures.blocks; unpadded = unpadded }))
    c.unpad.ensures.none
