use Rattle.std.proofs.Common.{◌≡◌, ◌≤◌, List, ℕ, length, ap, ◌∙◌, sym, subst, arith}
use Rattle.pdu_stream.specs.Streams.{length_word}
use Rattle.pmcd_client.proofs.Replying.{word_came, word_read, unread_rest, read_so}
use Rattle.pmcd_client.proofs.receiving.receive.Goals as goal

pub returns-in-Err : goal.returns-in-Err
returns-in-Err g c =
    let i = g.I.Source in
    let w = c.fill.new.bytes.items in
    let word = word_read c.as_slice.result.now c.in-Some.length c.in-Some.ensures in
    let same : c.as_slice.result.now ≡ w = c.as_slice.ensures.value in
    let came = word_came i c.args.input.now c.fill.new.input c.args.number c.clear.new.self.items w c.clear.ensures.items c.in_ok-fill.ensures (subst (λ (l : List ℕ). 4 ≤ length l) same word.0) in
    unread_rest i c.args.input.now c.fill.new.input c.fill-2.new.input c.args.number w c.fill-2.new.bytes.items c.in-Some.length came (ap length_word (sym same) ∙ word.1) c.if-length-lt-LEAST.false c.if-length-gt-MOST.false c.in-Err.fault c.in-Err.ensures

pub returns : goal.returns
returns g c =
    let i = g.I.Source in
    let w = c.fill.new.bytes.items in
    let word = word_read c.as_slice.result.now c.in-Some.length c.in-Some.ensures in
    let same : c.as_slice.result.now ≡ w = c.as_slice.ensures.value in
    let came = word_came i c.args.input.now c.fill.new.input c.args.number c.clear.new.self.items w c.clear.ensures.items c.in_ok-fill.ensures (subst (λ (l : List ℕ). 4 ≤ length l) same word.0) in
    let all : c.in-Some.length ≤ length c.fill-2.new.bytes.items = omega (arith, c.if-len-length.false, c.len.ensures, c.as_slice-2.ensures.len, ap (λ (l : List ℕ). length l) c.as_slice-2.ensures.value) in
    read_so i c.args.input.now c.fill.new.input c.fill-2.new.input c.args.number w c.fill-2.new.bytes.items c.in-Some.length came (ap length_word (sym same) ∙ word.1) c.if-length-lt-LEAST.false c.if-length-gt-MOST.false c.as_slice-2.result.now c.pdu_in.result
    c.as_slice-2.ensures.value c.in-Ok.ensures all c.pdu_in.ensures
