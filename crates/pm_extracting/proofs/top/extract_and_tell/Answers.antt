-- How a call ends.
use Rattle.std.proofs.Common.{[], false, inl, refl, Err}
use Rattle.pm_words.proofs.Sending.{unsent}
use Rattle.pm_words.proofs.Telling.{tells_all}
use Rattle.pm_extracting.proofs.top.extract_and_tell.Goals as goal

pub returns-in-Err : goal.returns-in-Err
returns-in-Err g c =
    let out = c.args.out.now in inl (record {
      refusal = c.in-Err.refusal;
      refused = record { cause = c.in-Err.ensures.refused; unrun = record { first = refl; second = refl; disk = refl } };
      told = tells_all g.O.Sink out out c.tell_end.new.out [] false (Err c.in-Err.refusal) c.tell_end.result (unsent g.O.Sink out false refl) c.tell_end.ensures;
    })
