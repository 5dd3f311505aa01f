use Rattle.std.proofs.Common.{◌∙◌, refl, sym, take, drop, []}
use Rattle.std.proofs.lemmas.List.{take-append-drop}
use Rattle.pmcd_session.proofs.sending.send.Goals as goal

pub returns-clause-written : goal.returns-clause-written
returns-clause-written g c = λ tells.
    let h = c.in-Err.ensures.bytes tells in
    let piece = c.as_slice.result.now in
    record {
      replies = [];
      last = c.args.reply.now;
      front = take h.0 piece;
      unwritten = drop h.0 piece;
      are = refl;
      wrote = h.1;
      of_last = sym (c.as_slice.ensures ∙ c.in-Ok.ensures) ∙ sym (take-append-drop h.0 piece);
    }
