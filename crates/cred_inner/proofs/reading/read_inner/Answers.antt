use Rattle.std.proofs.Common.{◌≡◌, ◌≤◌, length, get_or, sym, ap, ◌∙◌, arith}
use Rattle.cred_inner.proofs.InnerFields.{Fields, inner_part_once}
use Rattle.cred_inner.proofs.InnerReading.{Cut, read_as, read_laid_out, is_content_read}
use Rattle.cred_inner.proofs.reading.read_inner.Goals as goal
use Rattle.cred_inner.proofs.reading.read_inner.Goals.{then-head-ne-ADDR_SIZE-via-then-head-ne-ADDR_SIZE, then-head-ne-ADDR_SIZE-via-else-head-ne-ADDR_SIZE+then-length-payload, then-head-ne-ADDR_SIZE-via-else-head-ne-ADDR_SIZE+else-length-payload+then-length-gt-PAYLOAD_LIMIT}

pub returns-then-head-ne-ADDR_SIZE-clause-none : goal.returns-then-head-ne-ADDR_SIZE-clause-none
returns-then-head-ne-ADDR_SIZE-clause-none c =
    λ content fits same.
    let cases = c.in_ok-head.ensures.cases in
    let parts : Cut c.args.plain.now c.in_ok-head.head.now c.in_ok-head.payload.now =
    record { head_is = cases.0; payload_is = cases.1; size = cases.2; bytes = λ i. omega (arith, c.type_inv.plain i) } in
    let read = read_as c.args.plain.now c.in_ok-head.head.now c.in_ok-head.payload.now parts content fits same in
    let mark : get_or c.in_ok-head.head.now 8 0 ≡ 4 = ap (λ (f : Fields). f.mark) read in
    let payload : c.in_ok-head.payload.now ≡ content.payload = ap (λ (f : Fields). f.payload) read in
    let size : c.number_at-length.result ≡ length c.in_ok-head.payload.now =
    c.number_at-length.ensures ∙ (ap (λ (f : Fields). f.size) read ∙ sym (ap length payload)) in
    let within : length c.in_ok-head.payload.now ≤ 1048576 = rw payload fits.payload_within in
    elim c.then-head-ne-ADDR_SIZE.branch [
      | then-head-ne-ADDR_SIZE-via-then-head-ne-ADDR_SIZE w ↦ w.if-head-ne-ADDR_SIZE.true mark
      | then-head-ne-ADDR_SIZE-via-else-head-ne-ADDR_SIZE+then-length-payload w ↦ w.if-length-payload.true size
      | then-head-ne-ADDR_SIZE-via-else-head-ne-ADDR_SIZE+else-length-payload+then-length-gt-PAYLOAD_LIMIT w ↦ absurd (omega arith)
    ]

pub returns-then-head-ne-ADDR_SIZE-clause-read_back : goal.returns-then-head-ne-ADDR_SIZE-clause-read_back
returns-then-head-ne-ADDR_SIZE-clause-read_back c =
    λ content fits same. absurd (returns-then-head-ne-ADDR_SIZE-clause-none c content fits same)

pub returns-clause-content : goal.returns-clause-content
returns-clause-content c =
    let cases = c.in_ok-head.ensures.cases in
    let parts : Cut c.args.plain.now c.in_ok-head.head.now c.in_ok-head.payload.now =
    record { head_is = cases.0; payload_is = cases.1; size = cases.2; bytes = λ i. omega (arith, c.type_inv.plain i) } in
    let size = c.if-length-payload.false in
    let within = c.if-length-gt-PAYLOAD_LIMIT.false in
    rw (c.bytes_at.ensures, c.bytes_at-2.ensures, c.number_at.ensures, c.number_at-2.ensures, c.number_at-3.ensures, c.number_at-4.ensures, c.number_at-5.ensures, c.number_at-6.ensures)
    (is_content_read c.args.plain.now c.in_ok-head.head.now c.in_ok-head.payload.now parts (omega arith))

pub returns-clause-laid_out : goal.returns-clause-laid_out
returns-clause-laid_out c =
    let cases = c.in_ok-head.ensures.cases in
    let parts : Cut c.args.plain.now c.in_ok-head.head.now c.in_ok-head.payload.now =
    record { head_is = cases.0; payload_is = cases.1; size = cases.2; bytes = λ i. omega (arith, c.type_inv.plain i) } in
    let size = c.if-length-payload.false in
    let mark = c.if-head-ne-ADDR_SIZE.false in
    rw (c.bytes_at.ensures, c.bytes_at-2.ensures, c.number_at.ensures, c.number_at-2.ensures, c.number_at-3.ensures, c.number_at-4.ensures, c.number_at-5.ensures, c.number_at-6.ensures)
    (read_laid_out c.args.plain.now c.in_ok-head.head.now c.in_ok-head.payload.now parts mark (sym c.number_at-length.ensures ∙ size))

pub returns-clause-read_back : goal.returns-clause-read_back
returns-clause-read_back c =
    λ content fits same.
    inner_part_once _ content (returns-clause-content c) fits (sym (returns-clause-laid_out c) ∙ same)
