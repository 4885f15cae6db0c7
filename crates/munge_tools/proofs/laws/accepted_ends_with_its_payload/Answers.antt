use Rattle.std.proofs.Common.{◌≡◌, ◌∙◌, ℕ, List, ◌++◌, Option, None, Some, true, false, codes, length, is_some, refl, ap, subst, arith, append_assoc}
use Rattle.std.proofs.lemmas.Bool.Decides.{nat_tests}
use Rattle.std.specs.Fmt.{decimal}
use Rattle.wire_msg.specs.declared.message.Content.{Content}
use Rattle.wire_msg.specs.declared.message.DecodeSaid.{DecodeSaid}
use Rattle.munge_tools.specs.Fitting.{agrees, shows_content}
use Rattle.munge_tools.specs.PayloadLast.{PrintsPayloadLast}
use Rattle.munge_tools.specs.Printed.{content_text, field, origin_text, owner_text, payload_text, restrictions_text, times_text, verdict_text}
use Rattle.munge_tools.proofs.laws.accepted_ends_with_its_payload.Goals as goal

zero_of : (n : ℕ) → agrees n 0 ≡ true → n ≡ 0
zero_of n same = grind (arith, nat_tests)

payload_last : (a b c d e f g payload : List ℕ) → a ++ (b ++ (c ++ (d ++ (e ++ (f ++ (g ++ payload)))))) ≡ (a ++ (b ++ (c ++ (d ++ (e ++ (f ++ g)))))) ++ payload
payload_last a b c d e f g payload = simp append_assoc

by_content : (said : DecodeSaid) (content : Option Content) → said.content ≡ content → is_some content ≡ true → said.status ≡ 0 → PrintsPayloadLast said
unfolding payload_text
by_content said None is some status = let both : false ≡ true = some in absurd (cc)
by_content said (Some content) is some status =
    record {
      status = status;
      content = content;
      shown = is;
      front = verdict_text said ++ (origin_text content ++ (times_text content ++ (owner_text content ++ (restrictions_text content
          ++ (field (codes "LENGTH") (decimal (length content.payload)) ++ codes "\n")))));
      last = ap (λ (c : Option Content). verdict_text said ++ content_text c) is
          ∙ payload_last (verdict_text said) (origin_text content) (times_text content) (owner_text content) (restrictions_text content)
          (field (codes "LENGTH") (decimal (length content.payload))) (codes "\n") content.payload;
    }

pub returns : goal.returns
returns c = λ said fits none.
    let shown : is_some said.content ≡ true = fits.content ∙ ap shows_content none in
    by_content said said.content refl shown (zero_of said.status (subst (λ rule. agrees said.status rule ≡ true) none fits.agree))
