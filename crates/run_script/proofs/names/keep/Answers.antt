-- The first image of a name stays, or one stands behind the others.
use Rattle.std.proofs.Common.{◌∙◌, ap, sym, is_some}
use Rattle.run_script.proofs.NamePositions.{first_stays, one_more}
use Rattle.run_script.proofs.names.keep.Goals as goal

pub returns-then-is_some : goal.returns-then-is_some
returns-then-is_some c = first_stays c.args.names.now c.args.name.now c.args.at (ap is_some (sym c.place_of.ensures) ∙ sym c.is_some.ensures ∙ c.if-is_some.true)

pub returns : goal.returns
returns c =
    one_more c.args.names.now c.insert.new.self c.in_ok-key.key c.args.name.now c.args.at (c.in_ok-key.ensures.items ∙ c.as_slice.ensures.value)
    (ap is_some (sym c.place_of.ensures) ∙ sym c.is_some.ensures ∙ c.if-is_some.false) c.in_ok-insert.ensures.entries
