-- The source is named, and then the refusal is told.
use Rattle.std.proofs.Common.{subst, Err}
use Rattle.pcp_outside.specs.Sides.{sink_side}
use Rattle.pm_words.proofs.Telling.{tells_all}
use Rattle.pm_words.specs.declared.refusal.Refusal.{Refusal}
use Rattle.pm_words.specs.Telling.{TellsAll}
use Rattle.pm_extracting.specs.Refusals.{front_of}
use Rattle.pm_extracting.proofs.top.tell_fault.Goals as goal

pub returns : goal.returns
returns g c =
    let out = c.args.out.now in
    let named = c.name_source-failed in
    let end = c.tell_end in
    let front = front_of c.args.fault in
    let told = tells_all g.O.Sink out named.new.out end.new.out front named.result (Err c.fault_refusal.result) end.result named.ensures end.ensures in
    subst (λ (e : Refusal). TellsAll (sink_side g.O.Sink out end.new.out) front (Err e) end.result) c.fault_refusal.ensures told
