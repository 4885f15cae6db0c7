use Rattle.std.proofs.Common.{◌≡◌, ◌<◌, length, ap, ◌∙◌, arith}
use Rattle.munge_types.specs.Algorithms.{mac_size}
use Rattle.subkeys.specs.DataKey.{key_size}
use Rattle.subkeys.proofs.DataKeys.{data_key_is}
use Rattle.subkeys.proofs.Sizes.{short_within, long_within}
use Rattle.subkeys.proofs.subkeys.Subkeys.data_key.Goals as goal

pub unreachable-requires-in-None-first_chunk : goal.unreachable-requires-in-None-first_chunk
unreachable-requires-in-None-first_chunk c =
    let short : length c.bytes.result.now < 16 = c.in-None-first_chunk.ensures.cases in
    let size : length c.bytes.result.now ≡ mac_size c.args.kind =
    ap length (c.bytes.ensures ∙ c.under_cipher-derived.ensures) ∙ c.mac_has_its_size.ensures _ _ _ in
    omega (arith, short, size, short_within c.args.kind)

pub unreachable-requires-in-None-first_chunk-2 : goal.unreachable-requires-in-None-first_chunk-2
unreachable-requires-in-None-first_chunk-2 c =
    let short : length c.bytes-in-Aes256.result.now < 32 = c.in-None-first_chunk-2.ensures.cases in
    let size : length c.bytes-in-Aes256.result.now ≡ mac_size c.args.kind =
    ap length (c.bytes-in-Aes256.ensures ∙ c.under_cipher-derived.ensures) ∙ c.mac_has_its_size.ensures _ _ _ in
    omega (arith, short, size, long_within c.args.kind (λ same. c.requires.long_enough (c.in-Aes256.is, same)))

pub returns-in-Some : goal.returns-in-Some
returns-in-Some c =
    c.new.ensures
    ∙ data_key_is c.args.cipher _ _ _ _ _ _ (ap key_size c.in-Aes128.is) (c.bytes.ensures ∙ c.under_cipher-derived.ensures) c.in-Some.ensures.cases.same

pub returns-in-Some-first_chunk : goal.returns-in-Some-first_chunk
returns-in-Some-first_chunk c =
    c.new-in-Some-first_chunk.ensures
    ∙ data_key_is c.args.cipher _ _ _ _ _ _ (ap key_size c.in-Aes256.is) (c.bytes-in-Aes256.ensures ∙ c.under_cipher-derived.ensures)
    c.in-Some-first_chunk.ensures.cases.same
