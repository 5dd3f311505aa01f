use Rattle.std.proofs.Common.{rules, ◌≡◌, ℕ, length, slice_set, ap, ◌∙◌}
use Rattle.run_passes.proofs.Filling.{all_filled, filled_more, none_filled}
use Rattle.run_passes.proofs.beginning.fill_all.Goals as goal

pub loop-list-init : goal.loop-list-init
loop-list-init c = none_filled c.args.passes.items c.args.crews.now.items c.requires.rooms

pub loop-list-preserved : goal.loop-list-preserved
loop-list-preserved c =
    filled_more c.args.passes.items c.loop-list.passes.items c.pop.new.self.items c.in-Some.list c.loop-list.crews.items _ c.fill.new.crew c.loop-list.invariant c.in-Some.ensures.items
    (ap (λ (n : ℕ). slice_set c.loop-list.crews.items n c.fill.new.crew) (c.len-at.ensures ∙ c.pop.new.self.ok.0)) c.fill.ensures

pub returns : goal.returns
returns c = let none : length c.loop-list.passes.items ≡ 0 = search rules in all_filled c.args.passes.items c.loop-list.passes.items c.loop-list.crews.items c.loop-list.invariant none
