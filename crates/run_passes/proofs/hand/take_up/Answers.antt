use Rattle.std.proofs.Common.{◌≡◌, ◌<◌, ◌≤◌, [], ◌∷◌, ◌++◌, ℕ, List, Option, None, get_or, map, length, take, slice_set, sym, ap, ◌∙◌, subst, arith}
use Rattle.region_rule.specs.Seats.{Token}
use Rattle.run_passes.specs.Hands.{writer_of}
use Rattle.run_passes.specs.declared.writer.Writer.{Writer}
use Rattle.run_passes.proofs.Handed.{get_at}
use Rattle.run_passes.proofs.Laying.{left_at, map_next, set_none}
use Rattle.run_passes.proofs.hand.take_up.Goals as goal

pub loop-at-preserved : goal.loop-at-preserved
loop-at-preserved c =
    let end = c.loop-at.invariant.0 in
    let below : c.loop-at.at < length c.args.passes.now.items = omega (arith, c.loop-at-test.true, end) in
    let x = get_at c.args.passes.now.items c.loop-at.at below in
    let lies = left_at c.args.passes.now.items c.loop-at.at x.0 x.1 in
    let taken : c.take-pass.result ≡ x.0 =
    c.take-pass.ensures.value ∙ (c.index_mut.ensures.value ∙ (ap (λ (l : List (Option Token)). get_or l c.loop-at.at c.index_mut.result.now) c.loop-at.invariant.3 ∙ lies c.index_mut.result.now)) in (
      end,
      subst (λ (n : ℕ). length c.args.passes.now.items ≤ n) (sym c.push_reserved.ensures.capacity) c.loop-at.invariant.1,
      c.push_reserved.ensures.items
          ∙ (ap (λ (l : List Writer). l ++ c.writer_of.result ∷ []) c.loop-at.invariant.2
          ∙ (ap (λ (w : Writer). map writer_of (take c.loop-at.at c.args.passes.now.items) ++ w ∷ []) (c.writer_of.ensures ∙ ap writer_of taken)
          ∙ sym (map_next writer_of c.args.passes.now.items c.loop-at.at x.0 x.1))),
      ap (λ (p : Option Token). slice_set c.loop-at.passes.items c.loop-at.at p) c.take-pass.ensures.after
          ∙ (ap (λ (l : List (Option Token)). slice_set l c.loop-at.at None) c.loop-at.invariant.3 ∙ set_none c.args.passes.now.items c.loop-at.at x.0 x.1),
    )
