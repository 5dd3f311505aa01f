-- The table of all volumes, as text, is the summary of the scan.
use Rattle.std.proofs.Common.{ap, ◌∙◌, subst}
use Rattle.pcp_model.specs.Disk.{contents_of}
use Rattle.archive_loading.specs.Loaded.{Loaded}
use Rattle.archive_loading.proofs.Looking.{looks_on}
use Rattle.log_summary.specs.Lines.{table_text}
use Rattle.log_summary.specs.Summaries.{IsTableOf}
use Rattle.log_summary.proofs.Whole.{summary_is}
use Rattle.log_summary.proofs.summing.summarize.Goals as goal

pub returns-in_err-table-clause-looks : goal.returns-in_err-table-clause-looks
returns-in_err-table-clause-looks g c = looks_on g.D.Disk c.args.disk.now c.load.new.disk c.sum_volumes.new.disk c.load.ensures.looks c.sum_volumes.ensures.looks

pub returns-in-Ok-clause-looks : goal.returns-in-Ok-clause-looks
returns-in-Ok-clause-looks g c = looks_on g.D.Disk c.args.disk.now c.load.new.disk c.sum_volumes.new.disk c.load.ensures.looks c.sum_volumes.ensures.looks

pub returns-clause-looks : goal.returns-clause-looks
returns-clause-looks g c = looks_on g.D.Disk c.args.disk.now c.load.new.disk c.sum_volumes.new.disk c.load.ensures.looks c.sum_volumes.ensures.looks

pub returns-in-Ok-clause-summary : goal.returns-in-Ok-clause-summary
returns-in-Ok-clause-summary g c = λ tells.
    let files = contents_of (g.D.Disk.held c.args.disk.now) in
    let r : Loaded = c.in_ok-reader.reader in
    summary_is files r c.args.from c.args.to c.in_ok-table.table c.in-Ok.text (c.in_ok-reader.ensures.loaded tells)
    (subst (λ h. IsTableOf (contents_of h) r.volumes r.records c.args.from c.args.to c.in_ok-table.table) (c.load.ensures.looks.held tells)
    (subst (λ vs. IsTableOf (contents_of (g.D.Disk.held c.load.new.disk)) vs r.records c.args.from c.args.to c.in_ok-table.table) c.volumes.ensures
    (subst (λ records. IsTableOf (contents_of (g.D.Disk.held c.load.new.disk)) c.volumes.result.now records c.args.from c.args.to c.in_ok-table.table) c.meta.ensures (c.in_ok-table.ensures.summed tells))))
    (c.in-Ok.ensures ∙ ap (λ records. table_text records c.in_ok-table.table) c.meta-2.ensures)
