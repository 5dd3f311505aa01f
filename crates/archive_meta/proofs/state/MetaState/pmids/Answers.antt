use Rattle.std.proofs.Common.{◌≡◌, sym, ap, ◌∙◌}
use Rattle.indexmap.specs.IndexMap.{keys}
use Rattle.archive_meta.specs.Said.{described_metrics}
use Rattle.archive_meta.proofs.FramedRecords.{ok_then}
use Rattle.archive_meta.proofs.Woven.{woven_described}
use Rattle.archive_meta.proofs.state.MetaState.pmids.Goals as goal

pub returns : goal.returns
returns c = ok_then c.all_metrics.result (λ pmids. pmids ≡ keys c.self.inside.descriptions) (λ pmids. pmids ≡ described_metrics c.args.self.now) c.all_metrics.ensures
    (λ pmids is. is ∙ c.self.invariant.kept.metrics.order ∙ sym (woven_described c.self.inside.marks c.self.inside.records c.self.invariant.marked) ∙ ap described_metrics c.self.view_is)
