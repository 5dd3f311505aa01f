-- One step, as the reader answers it.
use Rattle.std.proofs.Common.{rules, subst, ap, ◌∙◌, refl, List}
use Rattle.pcp_model.specs.declared.records.MetaRecord.{MetaRecord}
use Rattle.pcp_model.specs.Disk.{contents_of}
use Rattle.archive_loading.specs.Loaded.{Loaded}
use Rattle.archive_reader.specs.Nexts.{IsNext}
use Rattle.pm_tasks.specs.Telling.{TellsBetween}
use Rattle.pm_tasks.proofs.Dumped.{no_next}
use Rattle.pm_tasks.proofs.commands.watch.watch_next.Goals as goal

pub returns-in_err-item-clause-turned : goal.returns-in_err-item-clause-turned
returns-in_err-item-clause-turned g c =
    let away = no_next g.D.Disk c.args.reader.now c.args.place.now c.args.disk.now c.item_at.new.disk c.in_err-item.field-0.0 c.in_err-item.ensures.fault c.in_err-item.ensures.cause in
    search (rules, away)

pub returns-in_ok-tell_between-in-Some-clause-told : goal.returns-in_ok-tell_between-in-Some-clause-told
returns-in_ok-tell_between-in-Some-clause-told g c = λ tells. (
  c.in-Some.item,
  subst (IsNext (contents_of (g.D.Disk.held c.args.disk.now)) c.args.reader.now.volumes c.args.place.now) c.in-Some.is (c.in_ok-item.ensures.found tells),
  subst (λ (records : List MetaRecord). TellsBetween records c.args.from c.args.to c.in-Some.item c.args.watch.now c.tell_between.new.watch c.args.told.now c.tell_between.new.told) (c.meta.ensures ∙ ap (λ (r : Loaded). r.records) c.item_at.ensures.same)
      c.in_ok-tell_between-in-Some.ensures,
)

pub returns-in-None-clause-told : goal.returns-in-None-clause-told
returns-in-None-clause-told g c = λ tells. (
  subst (IsNext (contents_of (g.D.Disk.held c.args.disk.now)) c.args.reader.now.volumes c.args.place.now) c.in-None.is (c.in_ok-item.ensures.found tells),
  refl,
  refl,
)
