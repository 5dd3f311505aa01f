-- The last entry is the one at the length less one.
use Rattle.std.proofs.Common.{◌≡◌, ◌==◌, ◌-◌, false, length, slice_get, sym, ap, ◌∙◌}
use Rattle.logger_core.proofs.AsFound.{last_get}
use Rattle.logger_core.proofs.opening.last_entry.Goals as goal

pub returns : goal.returns
returns c =
    let some : (length c.args.index.now == 0) ≡ false = sym c.is_empty.ensures ∙ c.if-is_empty.false in
    c.entry.ensures ∙ ap (λ n. slice_get c.args.index.now (n - 1)) c.len.ensures ∙ last_get c.args.index.now some
