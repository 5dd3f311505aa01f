-- The values that a search answers, or that there are none.
use Rattle.std.proofs.Common.{rules, refl, ap, subst, ◌∙◌, Some, None}
use Rattle.pcp_model.specs.Disk.{contents_of}
use Rattle.archive_loading.specs.Loaded.{Loaded}
use Rattle.archive_reader.specs.Values.{IsValueAt}
use Rattle.pm_print.specs.Items.{set_text}
use Rattle.pm_words.specs.Sides.{disk_side, files_found}
use Rattle.pm_tasks.proofs.Timed.{value_stops, value_scan}
use Rattle.pm_tasks.proofs.commands.value.values_text.Goals as goal

pub returns-in_err-found-clause-turned : goal.returns-in_err-found-clause-turned
returns-in_err-found-clause-turned g c =
    let away = value_stops g.D.Disk c.args.reader.now c.args.disk.now c.value_at.new.disk c.args.pmid c.args.stamp c.in_err-found.field-0.0 c.in_err-found.ensures.fault c.in_err-found.ensures.cause in
    search (rules, away)

pub returns-in-Some-clause-said : goal.returns-in-Some-clause-said
returns-in-Some-clause-said g c = λ tells. (
  (c.in-Some.at, c.in-Some.set),
  subst (IsValueAt (contents_of (g.D.Disk.held c.args.disk.now)) c.args.reader.now.volumes c.args.pmid c.args.stamp) c.in-Some.is (c.in_ok-found.ensures.found tells),
  value_scan c.args.pmid c.args.stamp (files_found (disk_side g.D.Disk c.args.disk.now c.value_at.new.disk)) c.args.reader.now (Some (c.in-Some.at, c.in-Some.set)) (c.requires tells)
      (subst (IsValueAt (contents_of (g.D.Disk.held c.args.disk.now)) c.args.reader.now.volumes c.args.pmid c.args.stamp) c.in-Some.is (c.in_ok-found.ensures.found tells)),
  c.in_ok-text-in-Some.ensures ∙ ap (λ records. set_text records c.in-Some.at c.in-Some.set) (c.meta.ensures ∙ ap (λ (s : Loaded). s.records) c.value_at.ensures.same),
)

pub returns-clause-turned : goal.returns-clause-turned
returns-clause-turned g c =
    λ tells.
    let is = subst (IsValueAt (contents_of (g.D.Disk.held c.args.disk.now)) c.args.reader.now.volumes c.args.pmid c.args.stamp) c.in-None.is (c.in_ok-found.ensures.found tells) in
    (refl, is, value_scan c.args.pmid c.args.stamp (files_found (disk_side g.D.Disk c.args.disk.now c.value_at.new.disk)) c.args.reader.now None (c.requires tells) is)
