-- An entry, or none.
use Rattle.std.proofs.Common.{subst, sym, Option}
use Rattle.std.specs.Prelude.{[], option_to_list, IfOk}
use Rattle.pcp_model.specs.declared.records.Entry.{Entry}
use Rattle.logger_core.specs.Going.{GrownTo, LeadIfAny, HoldsNoMore}
use Rattle.logger_core.specs.Meant.{SurvivesOf}
use Rattle.logger_core.specs.Steps.{with_entry}
use Rattle.logger_core.proofs.Calls.{no_call}
use Rattle.logger_core.proofs.Growing.{grows_not}
use Rattle.logger_core.proofs.Rests.{image_survives}
use Rattle.logger_core.proofs.Turned.{none_put}
use Rattle.logger_core.proofs.AtMost.{most_same}
use Rattle.logger_core.proofs.flushing.add_entry.Goals as goal

pub returns-in-None-clause-any_moment : goal.returns-in-None-clause-any_moment
returns-in-None-clause-any_moment g c = λ tells m at lead.
    no_call g.D.Disk g.met.D.Disk.only_now c.args.disk.now (SurvivesOf m) (image_survives m c.args.ends.now.volume (g.D.Disk.held c.args.disk.now) at.stands)

pub returns-in-None-clause-ok : goal.returns-in-None-clause-ok
returns-in-None-clause-ok g c = λ tells m at lead.
    let held = g.D.Disk.held c.args.disk.now in
    subst (λ (o : Option Entry). GrownTo m [] (option_to_list o) [] (with_entry o m.files) c.args.ends.now held) (sym c.in-None.is) (none_put m c.args.ends.now held at)

pub returns-in-Some-clause-ok : goal.returns-in-Some-clause-ok
returns-in-Some-clause-ok g c = λ tells m at lead.
    let d = g.D.Disk in
    subst (λ (o : Option Entry). IfOk c.put_entry.result (λ e. GrownTo m [] (option_to_list o) [] (with_entry o m.files) e (d.held c.put_entry.new.disk))) (sym c.in-Some.is)
    (c.put_entry.ensures.ok tells m at (subst (LeadIfAny m c.args.ends.now (d.held c.args.disk.now)) c.in-Some.is lead))

pub returns-in-None-clause-grows : goal.returns-in-None-clause-grows
returns-in-None-clause-grows g c = λ tells. grows_not (g.D.Disk.held c.args.disk.now)

pub returns-in-None-clause-most : goal.returns-in-None-clause-most
returns-in-None-clause-most g c = λ tells files are.
    let held = g.D.Disk.held c.args.disk.now in
    subst (λ (o : Option Entry). HoldsNoMore (with_entry o files) held) (sym c.in-None.is) (most_same files held are)

pub returns-in-Some-clause-most : goal.returns-in-Some-clause-most
returns-in-Some-clause-most g c = λ tells files are.
    let d = g.D.Disk in
    subst (λ (o : Option Entry). HoldsNoMore (with_entry o files) (d.held c.put_entry.new.disk)) (sym c.in-Some.is) (c.put_entry.ensures.most tells files are)
