-- Nothing is kept yet.
use Rattle.std.proofs.Common.{rules, List, length, ap, subst, ◌∙◌}
use Rattle.fetch_engine.specs.Kept.{AreUnknown}
use Rattle.fetch_engine.specs.Servers.{IsSeated, none_kept}
use Rattle.fetch_engine.specs.declared.server.Mounted.{Mounted}
use Rattle.fetch_engine.proofs.Holding.{unknown_kept}
use Rattle.fetch_engine.proofs.SeatPasses.{is_there}
use Rattle.fetch_engine.proofs.server.Server.seat.Goals as goal

pub invariant_of-result : goal.invariant_of-result
invariant_of-result c =
    let rows = c.self.inside.mounted.items in
    let seated : IsSeated rows c.args.passes.items = search rules in
    let kept = unknown_kept rows c.args.passes.items c.in-Ok.known.items c.in-Ok-no_spares.spares.items
    (subst (λ (rs : List Mounted). AreUnknown (length rs) c.in-Ok.known.items) c.deref.ensures.value c.in-Ok.ensures)
    (c.in-Ok-no_spares.ensures ∙ ap (λ (rs : List Mounted). none_kept rs) c.deref-2.ensures.value) (is_there rows c.args.passes.items seated) in
    (kept.0, kept.1, tt)
