-- The line is written, or memory for it was refused.
use Rattle.std.proofs.Common.{[], false, inl, refl, subst, List, ℕ, Ok}
use Rattle.pcp_outside.specs.Sides.{sink_side}
use Rattle.pm_words.proofs.Sending.{unsent}
use Rattle.pm_words.proofs.Telling.{tells_all}
use Rattle.pm_words.specs.Telling.{TellsAll}
use Rattle.pm_exporting.proofs.top.tell_count.Goals as goal

pub returns-in-Ok : goal.returns-in-Ok
returns-in-Ok g c =
    let out = c.args.out.now in
    let end = c.tell_end in
    let told = tells_all g.O.Sink out out end.new.out [] false (Ok c.in-Ok.line) end.result (unsent g.O.Sink out false refl) end.ensures in
    inl (subst (λ (line : List ℕ). TellsAll (sink_side g.O.Sink out end.new.out) [] (Ok line) end.result) c.in-Ok.ensures told)
