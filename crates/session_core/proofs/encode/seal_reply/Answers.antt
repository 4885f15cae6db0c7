use Rattle.std.proofs.Common.{◌≡◌, [], List, ℕ, ◌++◌, length, take, drop, refl, sym, subst, ap, ◌∙◌}
use Rattle.std.proofs.lemmas.Result.{IfOk-weaker}
use Rattle.std.specs.declared.option.Option.TheVariants.{Some}
use Rattle.munge_types.specs.declared.status.Status.TheVariants as status
use Rattle.cred_seal.specs.Asked.{Asked, asked_of}
use Rattle.cred_seal.specs.SealRefused.{first_refusal}
use Rattle.cred_seal.specs.SealedInto.{behind}
use Rattle.cred_seal.specs.TextSize.{text_size}
use Rattle.cred_seal.specs.declared.sealing.SealRefused.TheVariants as cause
use Rattle.decode_rules.specs.Terms.{terms_of}
use Rattle.session_core.specs.EncodeReply.{IsSealedFor, encode_reply, sealed, refused}
use Rattle.session_core.proofs.AnswerLemmas.{whole_of, size_behind}
use Rattle.session_core.proofs.encode.seal_reply.Goals as goal

pub returns-in-Done : goal.returns-in-Done
returns-in-Done c = λ files is.
    let terms = terms_of c.args.world.now c.args.who files in
    let text = behind c.in_ok-front.front.bytes c.in-Done.reply.bytes in
    sealed text
    (subst (λ (a : Asked). IsSealedFor terms c.args.moment a c.args.drawn.now.salt c.args.drawn.now.iv text) c.request_of-request.ensures
    record { unrefused = sym c.in-Done.ensures.refused; is_sealed = c.in-Done.ensures.sealed files.key is.subkeys; opens = c.in-Done.ensures.opens files.key is.subkeys })
    (c.finish.ensures ∙ sym (whole_of c.in_ok-front.front.bytes c.in-Done.reply.bytes c.in-Done.ensures.front)
    ∙ c.in_ok-front.ensures.front text (size_behind c.in_ok-front.front.bytes c.in-Done.reply.bytes _ c.in-Done.ensures.size ∙ sym c.text_size.ensures.size))

pub returns-in-BadCipher : goal.returns-in-BadCipher
returns-in-BadCipher c = λ files is.
    IfOk-weaker c.refusal.result (λ reply. reply.items ≡ encode_reply status.BadCipher []) _
    (λ reply same. refused cause.BadCipher status.BadCipher
    (subst (λ (a : Asked). first_refusal a ≡ Some cause.BadCipher) c.request_of-request.ensures (sym c.in-BadCipher.ensures.refused)) refl same)
    c.refusal.ensures

pub returns-in-BadMac : goal.returns-in-BadMac
returns-in-BadMac c = λ files is.
    IfOk-weaker c.refusal-in-BadMac.result (λ reply. reply.items ≡ encode_reply status.BadMac []) _
    (λ reply same. refused cause.BadMac status.BadMac
    (subst (λ (a : Asked). first_refusal a ≡ Some cause.BadMac) c.request_of-request.ensures (sym c.in-BadMac.ensures.refused)) refl same)
    c.refusal-in-BadMac.ensures

pub returns-in-BadLength : goal.returns-in-BadLength
returns-in-BadLength c = λ files is.
    let why = cause.BadLength c.in-BadLength.field-1 in
    IfOk-weaker c.refusal-in-BadLength.result (λ reply. reply.items ≡ encode_reply status.BadLength []) _
    (λ reply same. refused why status.BadLength
    (subst (λ (a : Asked). first_refusal a ≡ Some why) c.request_of-request.ensures (sym c.in-BadLength.ensures.refused)) refl same)
    c.refusal-in-BadLength.ensures
