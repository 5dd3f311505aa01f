-- A refusal is told, and of a request that couldn't be written nothing is.
use Rattle.std.proofs.Common.{[], false, refl, sym, ◌∙◌, subst, Option, Err}
use Rattle.pcp_outside.specs.Sides.{sink_side}
use Rattle.pm_words.proofs.Sending.{unsent}
use Rattle.pm_words.proofs.Telling.{tells_all}
use Rattle.pm_words.specs.declared.refusal.Refusal.{Refusal}
use Rattle.pm_pulling.specs.Ends.{TellsStop}
use Rattle.pm_pulling.proofs.top.tell_stop.Goals as goal

pub returns-in-Some : goal.returns-in-Some
returns-in-Some g c =
    let out = c.args.out.now in
    let k = sink_side g.O.Sink out c.tell_end.new.out in
    let told = tells_all g.O.Sink out out c.tell_end.new.out [] false (Err c.in-Some.refusal) c.tell_end.result (unsent g.O.Sink out false refl) c.tell_end.ensures in
    subst (λ (o : Option Refusal). TellsStop k o c.tell_end.result) (sym c.in-Some.is ∙ c.stop_refusal.ensures) told

pub returns-in-None : goal.returns-in-None
returns-in-None g c =
    let k = sink_side g.O.Sink c.args.out.now c.args.out.now in
    subst (λ (o : Option Refusal). TellsStop k o 4) (sym c.in-None.is ∙ c.stop_refusal.ensures) (refl, record { unwritten = λ tells. refl; stands = refl })
