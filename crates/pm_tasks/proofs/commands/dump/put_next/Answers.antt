-- One step, as the reader answers it.
use Rattle.std.proofs.Common.{rules, subst, ap, ◌∙◌, ◌++◌, refl}
use Rattle.pcp_model.specs.Disk.{contents_of}
use Rattle.archive_reader.specs.Nexts.{IsNext}
use Rattle.pm_print.specs.Items.{item_text}
use Rattle.pm_tasks.proofs.Dumped.{no_next}
use Rattle.pm_tasks.proofs.commands.dump.put_next.Goals as goal

pub returns-in_err-item-clause-turned : goal.returns-in_err-item-clause-turned
returns-in_err-item-clause-turned g c =
    let away = no_next g.D.Disk c.args.reader.now c.args.place.now c.args.disk.now c.view_at.new.disk c.in_err-item.field-0.0 c.in_err-item.ensures.fault c.in_err-item.ensures.cause in
    search (rules, away)

pub returns-in_ok-put-in-Some-clause-put : goal.returns-in_ok-put-in-Some-clause-put
returns-in_ok-put-in-Some-clause-put g c = λ tells. (
  c.in-Some.item,
  subst (IsNext (contents_of (g.D.Disk.held c.args.disk.now)) c.args.reader.now.volumes c.args.place.now) c.in-Some.is (c.in_ok-item.ensures.found tells),
  c.in_ok-put-in-Some.ensures.put ∙ ap (λ records. c.args.out.now.items ++ item_text records c.in-Some.item) c.requires.lines,
)

pub returns-in-None-clause-put : goal.returns-in-None-clause-put
returns-in-None-clause-put g c = λ tells. (
  subst (IsNext (contents_of (g.D.Disk.held c.args.disk.now)) c.args.reader.now.volumes c.args.place.now) c.in-None.is (c.in_ok-item.ensures.found tells),
  refl,
)
