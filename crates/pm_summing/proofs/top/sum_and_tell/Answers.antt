-- How a call ends.
use Rattle.std.proofs.Common.{[], false, inl, inr, refl, subst, Ok, Err}
use Rattle.archive_loading.proofs.Looking.{looks_none}
use Rattle.pcp_outside.specs.Sides.{sink_side}
use Rattle.pm_words.proofs.Sending.{unsent}
use Rattle.pm_words.proofs.Telling.{tells_all}
use Rattle.pm_words.specs.declared.refusal.Refusal.{Refusal}
use Rattle.pm_words.specs.Telling.{TellsAll}
use Rattle.pm_summing.proofs.top.sum_and_tell.Goals as goal

pub returns-in-Err-clause-ends : goal.returns-in-Err-clause-ends
returns-in-Err-clause-ends g c =
    let out = c.args.out.now in
    inl (record {
      refusal = c.in-Err.refusal;
      refused = record { cause = c.in-Err.ensures.refused; unrun = refl };
      told = tells_all g.O.Sink out out c.tell_end.new.out [] false (Err c.in-Err.refusal) c.tell_end.result (unsent g.O.Sink out false refl) c.tell_end.ensures;
    })

pub returns-in-Err-clause-looks : goal.returns-in-Err-clause-looks
returns-in-Err-clause-looks g c = looks_none g.D.Disk g.met.D.Disk.only_now c.args.disk.now

pub returns-in-Ok-sum_up-clause-ends : goal.returns-in-Ok-sum_up-clause-ends
returns-in-Ok-sum_up-clause-ends g c =
    let out = c.args.out.now in
    let end = c.tell_end-in-Ok-sum_up in
    inr (record {
      result = Ok c.in-Ok-sum_up.text;
      ran = record { asked = c.in-Ok.asked; orders = c.in-Ok.ensures.orders; came = c.in-Ok-sum_up.ensures.came };
      told = tells_all g.O.Sink out out end.new.out [] false (Ok c.in-Ok-sum_up.text) end.result (unsent g.O.Sink out false refl) end.ensures;
    })

pub returns-in-Err-sum_up-clause-ends : goal.returns-in-Err-sum_up-clause-ends
returns-in-Err-sum_up-clause-ends g c =
    let out = c.args.out.now in
    let end = c.tell_end-in-Err-sum_up in
    let told = tells_all g.O.Sink out out end.new.out [] false (Err c.from.result) end.result (unsent g.O.Sink out false refl) end.ensures in
    inr (record {
      result = Err c.in-Err-sum_up.fault;
      ran = record { asked = c.in-Ok.asked; orders = c.in-Ok.ensures.orders; came = c.in-Err-sum_up.ensures.came };
      told = subst (λ (e : Refusal). TellsAll (sink_side g.O.Sink out end.new.out) [] (Err e) end.result) c.from.ensures told;
    })
