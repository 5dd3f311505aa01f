use Rattle.std.proofs.Common.{arith, ◌∙◌}
use Rattle.temporal_index.specs.Seeking.{NotAfter, IsAfter}
use Rattle.temporal_index.proofs.Loops.{found_last}
use Rattle.temporal_index.proofs.index.Index.seek_at.Goals as goal

pub returns : goal.returns
returns c =
    found_last (NotAfter c.args.t) (IsAfter c.args.t) c.as_slice.result.now c.args.self.now _ c.last_before.result (λ e h. omega (arith, h, c.microseconds.ensures.value)) (λ e h. omega (arith, h, c.microseconds.ensures.value)) (c.as_slice.ensures ∙ c.self.view_is) c.last_before.ensures
