use Rattle.std.proofs.Common.{rules, ◌≡◌, ◌-◌, suc, w32, to_z, of_z, cond, Some, drop, sym, ap, ◌∙◌, arith}
use Rattle.std.proofs.lemmas.Int.{to_z-of_z}
use Rattle.std.specs.HashMap.{get}
use Rattle.std.specs.Ordering.{int_eq}
use Rattle.pm_print.specs.Sets.{position_in}
use Rattle.pm_print.proofs.Positions.{noted, not_past}
use Rattle.pm_print.proofs.instances.positions_of.Goals as goal

pub loop-at-preserved-in_ok-insert : goal.loop-at-preserved-in_ok-insert
loop-at-preserved-in_ok-insert c =
    let up : suc (c.loop-at.at - 1) ≡ c.loop-at.at = omega arith in
    let same : to_z w32 (of_z w32 c.in-Some.number) ≡ c.in-Some.number = to_z-of_z w32 c.in-Some.number (search rules) in
    record {
      noted = λ n.
          c.in_ok-insert.ensures.updates.0 n
          ∙ ap (λ k. cond (int_eq k n) (Some (c.loop-at.at - 1)) (get int_eq c.loop-at.positions n)) same
          ∙ ap (λ old. cond (int_eq c.in-Some.number n) (Some (c.loop-at.at - 1)) old) (c.loop-at.invariant.noted n ∙ ap (λ at. position_in at (drop at c.args.listed.now) n) (sym up))
          ∙ sym (noted c.args.listed.now (c.loop-at.at - 1) c.in-Some.number n c.in-Some.ensures);
      within = omega arith;
    }

pub loop-at-preserved : goal.loop-at-preserved
loop-at-preserved c = absurd (not_past c.args.listed.now (c.loop-at.at - 1) (omega arith) c.in_default.ensures)
