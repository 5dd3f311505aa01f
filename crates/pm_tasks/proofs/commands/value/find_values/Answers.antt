-- The values of the metric that a name leads to, or that there are none.
use Rattle.std.proofs.Common.{rules, inl, inr, refl, sym, ap, subst, ◌∙◌}
use Rattle.pcp_model.specs.Disk.{contents_of}
use Rattle.archive_meta.specs.Said.{metric_of_name}
use Rattle.archive_loading.proofs.Looking.{looks_on}
use Rattle.archive_loading.specs.Loaded.{Loaded, IsOver}
use Rattle.pm_tasks.specs.commands.value.{IsTurnedAway, HasNothing}
use Rattle.pm_words.specs.Sides.{disk_side, files_found}
use Rattle.pm_tasks.proofs.Asking.{not_loaded, is_loaded, still_over}
use Rattle.pm_tasks.proofs.Timed.{said_of, turned_of}
use Rattle.pm_tasks.proofs.commands.value.find_values.Goals as goal

pub returns-in_err-reader-clause-turned : goal.returns-in_err-reader-clause-turned
returns-in_err-reader-clause-turned g c =
    let away = not_loaded g.D.Disk (IsTurnedAway c.args.asked.now) (λ f e n. inl n) c.args.disk.now c.load.new.disk c.in_err-reader.field-0.0 c.in_err-reader.ensures.fault c.in_err-reader.ensures.cause in
    search (rules, away)

pub values_text-requires : goal.values_text-requires
values_text-requires g c = λ tells. still_over g.D.Disk (λ files. IsOver files c.in_ok-reader.reader) c.args.disk.now c.load.new.disk c.load.ensures.looks c.in_ok-reader.ensures.loaded tells

pub returns-in-Some-clause-looks : goal.returns-in-Some-clause-looks
returns-in-Some-clause-looks g c = looks_on g.D.Disk c.args.disk.now c.load.new.disk c.values_text.new.disk c.load.ensures.looks c.values_text.ensures.looks

pub returns-in-Some-clause-said : goal.returns-in-Some-clause-said
returns-in-Some-clause-said g c = λ tells.
    let r : Loaded = c.in_ok-reader.reader in
    let is = ap (λ records. metric_of_name records c.args.asked.now.name) (sym c.meta.ensures) ∙ sym (ap (metric_of_name c.meta.result.now) c.as_slice.ensures) ∙ sym c.in_ok-pmid.ensures ∙ c.in-Some.is in
    said_of c.args.asked.now (files_found (disk_side g.D.Disk c.args.disk.now c.values_text.new.disk)) (files_found (disk_side g.D.Disk c.load.new.disk c.values_text.new.disk)) r c.in-Some.pmid c.values_text.result
    (is_loaded g.D.Disk c.args.disk.now c.load.new.disk c.values_text.new.disk r tells c.in_ok-reader.ensures.loaded c.in_ok-reader.ensures.unwrapped) is (ap contents_of (c.load.ensures.looks.held tells)) (c.values_text.ensures.said tells)

pub returns-in-Some-clause-turned : goal.returns-in-Some-clause-turned
returns-in-Some-clause-turned g c =
    let r : Loaded = c.in_ok-reader.reader in
    let is = ap (λ records. metric_of_name records c.args.asked.now.name) (sym c.meta.ensures) ∙ sym (ap (metric_of_name c.meta.result.now) c.as_slice.ensures) ∙ sym c.in_ok-pmid.ensures ∙ c.in-Some.is in
    turned_of g.D.Disk r c.args.disk.now c.load.new.disk c.values_text.new.disk c.args.asked.now c.in-Some.pmid c.values_text.result c.load.ensures.looks
    (λ tells. is_loaded g.D.Disk c.args.disk.now c.load.new.disk c.values_text.new.disk r tells c.in_ok-reader.ensures.loaded c.in_ok-reader.ensures.unwrapped) is c.values_text.ensures.turned

pub returns-clause-turned : goal.returns-clause-turned
returns-clause-turned g c =
    let r : Loaded = c.in_ok-reader.reader in
    let is = ap (λ records. metric_of_name records c.args.asked.now.name) (sym c.meta.ensures) ∙ sym (ap (metric_of_name c.meta.result.now) c.as_slice.ensures) ∙ sym c.in_ok-pmid.ensures ∙ c.in-None.is in
    λ tells. inr (
      r,
      is_loaded g.D.Disk c.args.disk.now c.load.new.disk c.load.new.disk r tells c.in_ok-reader.ensures.loaded c.in_ok-reader.ensures.unwrapped,
      (refl, subst (HasNothing (files_found (disk_side g.D.Disk c.args.disk.now c.load.new.disk)) r c.args.asked.now.stamp) (sym is) tt),
    )
