-- How a call ends.
use Rattle.std.proofs.Common.{[], false, inl, inr, refl, subst, Ok, Err}
use Rattle.archive_loading.proofs.Looking.{looks_none}
use Rattle.pcp_outside.specs.Sides.{sink_side}
use Rattle.log_export.specs.Exporting.{export_side}
use Rattle.log_export.proofs.Outcome.{looked_only}
use Rattle.pm_words.proofs.Sending.{unsent}
use Rattle.pm_words.proofs.Telling.{tells_all}
use Rattle.pm_words.specs.declared.refusal.Refusal.{Refusal}
use Rattle.pm_words.specs.Telling.{TellsAll}
use Rattle.pm_exporting.proofs.top.export_and_tell.Goals as goal

pub returns-in-Err-clause-ends : goal.returns-in-Err-clause-ends
returns-in-Err-clause-ends g c =
    let out = c.args.out.now in
    inl (record {
      refusal = c.in-Err.refusal;
      refused = record { cause = c.in-Err.ensures.refused; unrun = record { source = refl; disk = refl } };
      told = tells_all g.O.Sink out out c.tell_end.new.out [] false (Err c.in-Err.refusal) c.tell_end.result (unsent g.O.Sink out false refl) c.tell_end.ensures;
    })

pub returns-in-Err-clause-any_moment : goal.returns-in-Err-clause-any_moment
returns-in-Err-clause-any_moment g c =
    looked_only (export_side g.A.Disk c.args.source.now c.args.source.now g.D.Disk c.args.disk.now c.args.disk.now) (looks_none g.D.Disk g.met.D.Disk.only_now c.args.disk.now)

pub returns-in-Err-clause-looks : goal.returns-in-Err-clause-looks
returns-in-Err-clause-looks g c = looks_none g.A.Disk g.met.A.Disk.only_now c.args.source.now

pub returns-in-Ok-clause-ends : goal.returns-in-Ok-clause-ends
returns-in-Ok-clause-ends g c = inr (record { result = Ok c.in-Ok.count; ran = record { orders = c.in_default.ensures.orders; exports = c.in-Ok.ensures.exports }; told = c.tell_count.ensures })

pub returns-in-Err-export_all-clause-ends : goal.returns-in-Err-export_all-clause-ends
returns-in-Err-export_all-clause-ends g c =
    let out = c.args.out.now in
    let end = c.tell_end-in-Err-export_all in
    let told = tells_all g.O.Sink out out end.new.out [] false (Err c.fault_refusal.result) end.result (unsent g.O.Sink out false refl) end.ensures in
    inr (record {
      result = Err c.in-Err-export_all.fault;
      ran = record { orders = c.in_default.ensures.orders; exports = c.in-Err-export_all.ensures.exports };
      told = subst (λ (e : Refusal). TellsAll (sink_side g.O.Sink out end.new.out) [] (Err e) end.result) c.fault_refusal.ensures told;
    })
