-- An instance with the number is the first, since none so far has it.
use Rattle.std.proofs.Common.{◌≡◌, ℕ, ℤ, List, w32, to_z, of_z, drop, option_map, sym, ap, ◌∙◌, arith}
use Rattle.std.proofs.lemmas.Int.{to_z-of_z, ints}
use Rattle.pm_print.specs.Sets.{name_in}
use Rattle.pm_print.proofs.Positions.{not_past}
use Rattle.log_summary.proofs.Naming.{named_here, not_named}
use Rattle.log_summary.proofs.lines.name_in.Goals as goal
use Rattle.log_summary.proofs.lines.name_in.Goals.{in-Some+else-found-number, in_default}

pub returns-then-found-number : goal.returns-then-found-number
returns-then-found-number c =
    let plain : to_z w32 (of_z w32 c.args.number) ≡ c.args.number = to_z-of_z w32 c.args.number c.ranges.number in
    let same : c.in-Some.found ≡ c.args.number = omega (arith, ints) in
    sym (named_here c.args.listed.now c.args.number c.loop-at.at (c.in-Some.found, c.in-Some.name.now) c.in-Some.ensures.pair same)
    ∙ ap (name_in (drop c.loop-at.at c.args.listed.now)) (sym plain) ∙ c.loop-at.invariant ∙ ap (name_in c.args.listed.now) plain

pub loop-at-preserved : goal.loop-at-preserved
loop-at-preserved c = elim c.match-get.branch [
  | in-Some+else-found-number w ↦
      let plain : to_z w32 (of_z w32 c.args.number) ≡ c.args.number = to_z-of_z w32 c.args.number c.ranges.number in
      let other : w.in-Some.found ≡ to_z w32 (of_z w32 c.args.number) → ⊥ = λ same. omega (arith, ints) in
      sym (not_named c.args.listed.now (to_z w32 (of_z w32 c.args.number)) c.loop-at.at (w.in-Some.found, w.in-Some.name.now) w.in-Some.ensures.pair other) ∙ c.loop-at.invariant
  | in_default w ↦
      absurd (not_past c.args.listed.now c.loop-at.at (omega (arith, c.len-at-end.ensures, c.loop-at-test.true)) (ap (option_map (λ (p : ℤ × List ℕ). p.0)) (sym w.in_default.ensures.pair)))
]
