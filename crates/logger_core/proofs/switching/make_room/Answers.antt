-- Where there is room nothing is done.
use Rattle.logger_core.specs.Meant.{SurvivesOf, stood_in}
use Rattle.logger_core.proofs.Calls.{no_call}
use Rattle.logger_core.proofs.Growing.{grows_not}
use Rattle.logger_core.proofs.Rests.{image_survives}
use Rattle.std.proofs.Common.{Bool, sym, subst}
use Rattle.logger_core.specs.Going.{HoldsNoMore}
use Rattle.logger_core.specs.LogSteps.{base_files}
use Rattle.logger_core.proofs.AtMost.{most_same}
use Rattle.logger_core.proofs.switching.make_room.Goals as goal

pub returns-then-not-crossing-clause-any_moment : goal.returns-then-not-crossing-clause-any_moment
returns-then-not-crossing-clause-any_moment g c = λ tells m at same.
    no_call g.D.Disk g.met.D.Disk.only_now c.args.disk.now (SurvivesOf m) (image_survives m c.args.ends.now.volume (g.D.Disk.held c.args.disk.now) at.stands)

pub returns-then-not-crossing-clause-grows : goal.returns-then-not-crossing-clause-grows
returns-then-not-crossing-clause-grows g c = λ tells. grows_not (g.D.Disk.held c.args.disk.now)

pub returns-then-not-crossing-clause-most : goal.returns-then-not-crossing-clause-most
returns-then-not-crossing-clause-most g c = λ tells m at same.
    let e = c.args.ends.now in
    let held = g.D.Disk.held c.args.disk.now in
    subst (λ (b : Bool). HoldsNoMore (base_files b m.files m.contents e.volume m.greatest (stood_in m)) held) (sym c.if-not-crossing.true) (most_same m.files held at.stands.written)

pub returns-clause-most : goal.returns-clause-most
returns-clause-most g c = λ tells m at same.
    let e = c.args.ends.now in
    subst (λ (b : Bool). HoldsNoMore (base_files b m.files m.contents e.volume m.greatest (stood_in m)) (g.D.Disk.held c.switch.new.disk)) (sym c.if-not-crossing.false) (c.switch.ensures.most tells m at same)
