-- An append.
use Rattle.pcp_base.specs.declared.file.FileId.TheVariants.{Volume}
use Rattle.logger_core.specs.Runs.{SurvivesWith}
use Rattle.logger_core.proofs.Calls.{one_append}
use Rattle.logger_core.proofs.Growing.{grows_append}
use Rattle.logger_core.proofs.ItemsPut.{items_survive, items_after}
use Rattle.logger_core.proofs.Loggable.{survives_more}
use Rattle.logger_core.proofs.Rests.{image_survives}
use Rattle.logger_core.proofs.AtMost.{most_appended}
use Rattle.logger_core.proofs.running.add_items.Goals as goal

pub returns-clause-any_moment : goal.returns-clause-any_moment
returns-clause-any_moment g c = λ tells m at payloads items is come.
    let d = g.D.Disk in
    let n = c.args.number in
    let old = d.held c.args.disk.now in
    one_append d g.met.D.Disk.only_now c.args.disk.now c.append.new.self (SurvivesWith m items) (Volume n) c.args.bytes.now c.append.result c.append.ensures.time (c.append.ensures.held tells)
    (λ image crash. survives_more m items image (image_survives m n old at image crash)) (items_survive m n old payloads items c.args.bytes.now at is come)

pub returns-clause-ok : goal.returns-clause-ok
returns-clause-ok g c = λ tells m at payloads items is come.
    let d = g.D.Disk in
    items_after m c.args.number (d.held c.args.disk.now) payloads items c.args.bytes.now at is come (d.held c.append.new.self) c.append.result (c.append.ensures.held tells)

pub returns-clause-grows : goal.returns-clause-grows
returns-clause-grows g c = λ tells.
    let d = g.D.Disk in
    grows_append (Volume c.args.number) c.args.bytes.now (d.held c.args.disk.now) (d.held c.append.new.self) c.append.result (c.append.ensures.held tells)

pub returns-clause-most : goal.returns-clause-most
returns-clause-most g c = λ tells files are.
    let d = g.D.Disk in
    most_appended files (d.held c.args.disk.now) (d.held c.append.new.self) are (Volume c.args.number) c.args.bytes.now c.append.result (c.append.ensures.held tells)
