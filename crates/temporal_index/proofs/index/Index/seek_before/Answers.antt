use Rattle.std.proofs.Common.{arith, ◌∙◌}
use Rattle.temporal_index.specs.Seeking.{Before, NotBefore}
use Rattle.temporal_index.proofs.Loops.{found_last}
use Rattle.temporal_index.proofs.index.Index.seek_before.Goals as goal

pub returns : goal.returns
returns c =
    found_last (Before c.args.t) (NotBefore c.args.t) c.as_slice.result.now c.args.self.now _ c.last_before.result (λ e h. omega (arith, h, c.microseconds.ensures.value)) (λ e h. omega (arith, h, c.microseconds.ensures.value)) (c.as_slice.ensures ∙ c.self.view_is) c.last_before.ensures
