-- The half where the instance can stand.
use Rattle.std.proofs.Common.{rules, ◌≡◌, ℕ, suc, ◌+◌, ◌-◌, ◌/◌, w32, to_z, of_z, drop, sym, ap, ap₂, ◌∙◌, arith}
use Rattle.std.specs.Prelude.{int_lt}
use Rattle.std.proofs.lemmas.Int.{to_z-of_z}
use Rattle.pm_print.specs.Sets.{position_in}
use Rattle.pm_print.proofs.Searching.{is_here, is_behind, is_before, same_bits}
use Rattle.pm_print.proofs.instances.halved_place.Goals as goal

pub returns-then-found-number : goal.returns-then-found-number
returns-then-found-number c =
    let number = to_z-of_z w32 c.args.number c.ranges.number in
    let found = to_z-of_z w32 c.in-Some.found (search rules) in
    sym (is_here c.args.listed.now (c.loop-low.low + (c.loop-low.high - c.loop-low.low) / 2) c.in-Some.found c.args.number c.requires c.in-Some.ensures (same_bits c.in-Some.found c.args.number found number c.if-found-number.true))

pub loop-low-preserved-then-found-number-2 : goal.loop-low-preserved-then-found-number-2
loop-low-preserved-then-found-number-2 c =
    let middle : ℕ = c.loop-low.low + (c.loop-low.high - c.loop-low.low) / 2 in
    let number : to_z w32 (of_z w32 c.args.number) ≡ c.args.number = to_z-of_z w32 c.args.number c.ranges.number in
    let found : to_z w32 (of_z w32 c.in-Some.found) ≡ c.in-Some.found = to_z-of_z w32 c.in-Some.found (search rules) in
    let step : position_in 0 c.args.listed.now c.args.number ≡ position_in (suc middle) (drop (suc middle) c.args.listed.now) c.args.number =
    is_behind c.args.listed.now middle c.in-Some.found c.args.number c.requires c.in-Some.ensures (sym (ap₂ int_lt found number) ∙ c.if-found-number-2.true) in
    let next : suc middle ≡ middle + 1 = omega arith in
    record {
      behind = ap (position_in 0 c.args.listed.now) number ∙ step ∙ ap (λ k. position_in k (drop k c.args.listed.now) c.args.number) next ∙ ap (position_in (middle + 1) (drop (middle + 1) c.args.listed.now)) (sym number);
      before = c.loop-low.invariant.before;
      ordered = omega arith;
      within = c.loop-low.invariant.within;
    }

pub loop-low-preserved : goal.loop-low-preserved
loop-low-preserved c =
    let middle : ℕ = c.loop-low.low + (c.loop-low.high - c.loop-low.low) / 2 in
    let number : to_z w32 (of_z w32 c.args.number) ≡ c.args.number = to_z-of_z w32 c.args.number c.ranges.number in
    let found : to_z w32 (of_z w32 c.in-Some.found) ≡ c.in-Some.found = to_z-of_z w32 c.in-Some.found (search rules) in
    record {
      behind = c.loop-low.invariant.behind;
      before = ap (position_in middle (drop middle c.args.listed.now)) number
          ∙ is_before c.args.listed.now middle c.in-Some.found c.args.number c.requires c.in-Some.ensures (sym (ap₂ int_lt found number) ∙ c.if-found-number-2.false) (λ same. c.if-found-number.false (ap (of_z w32) same));
      ordered = omega arith;
      within = omega arith;
    }
