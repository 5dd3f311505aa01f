-- The stint is still of the region, the layout is the one whose slots were asked for, and the lines so far were added.
use Rattle.std.proofs.Common.{◌≡◌, ◌++◌, take, flat_map}
use Rattle.region_core.specs.declared.mode.Mode.TheVariants.{Attached}
use Rattle.region_rule.specs.Seats.{IsSame}
use Rattle.region_words.specs.Calls.{form_seen}
use Rattle.region_example.specs.Counts.{added, adds_of}
use Rattle.region_example.proofs.counting.count.Given as goal

abbrev pub invariant-loop-line : goal.invariant-loop-line
invariant-loop-line g l =
    IsSame Attached Attached l.initial.stint l.stint
    × (form_seen l.stint.view ≡ form_seen l.initial.stint.view)
    × (added l.stint.view ≡ added l.initial.stint.view ++ flat_map (adds_of (form_seen l.initial.stint.view).slots) (take l.line-index l.lines))
