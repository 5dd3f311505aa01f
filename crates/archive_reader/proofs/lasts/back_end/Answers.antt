use Rattle.std.proofs.Common.{ℕ, Bool, List, sym, ap, ◌∙◌, eq-eqb}
use Rattle.std.specs.Prelude.{if◌then◌else◌}
use Rattle.archive_reader.specs.Asked.{volumes_below, last_filled, first_at}
use Rattle.archive_reader.specs.Walks.{volumes_from}
use Rattle.archive_reader.proofs.Backs.{below_is}
use Rattle.archive_reader.proofs.lasts.back_end.Goals as goal

pub returns-then-offset-eq132 : goal.returns-then-offset-eq132
returns-then-offset-eq132 c =
    let vs : List (ℕ × ℕ) = c.args.volumes.now in
    let n : ℕ = c.args.number in
    c.last_filled.ensures ∙ ap last_filled (below_is n vs c.first_from-index.result c.first_from-index.ensures.volumes c.first_from-index.ensures.within)
    ∙ sym (ap (λ (b : Bool). if b then last_filled (volumes_below n vs) else first_at c.args.offset (volumes_from n vs)) (eq-eqb c.args.offset 132 c.if-offset-eq132.true))
