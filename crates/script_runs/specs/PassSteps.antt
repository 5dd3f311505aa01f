-- What a step makes of its region, and the line that it writes. A step whose condition fails makes nothing.
use Rattle.std.specs.Prelude.{ℕ, ℤ, ◌+◌, ◌-◌, ◌^◌, ◌==◌, nat_lt, max, if◌then◌else◌, List, [], ◌∷◌, ◌++◌, length, codes, slice_index, Option, Some, None}
use Rattle.text_lines.specs.Spelling.{one_number, two_numbers}
use Rattle.region_core.specs.declared.act.Act.{Act}
use Rattle.region_core.specs.declared.act.Act.TheVariants.{Load, Enter, Leave, Take, Begin, Put, End, Free}
use Rattle.region_core.specs.State.{word, g1, g2}
use Rattle.region_rule.specs.Changes.{next_after, left_from, puts_left}
use Rattle.run_script.specs.declared.lines.Given.{Given}
use Rattle.script_runs.specs.Regions.{Doing, ScriptRegion, capacity_of, with_act, all_acted, does}
use Rattle.script_runs.specs.Slots.{swap_of, add_of}

-- the region afterwards, and the line
abbrev pub Outcome : Type 0
Outcome = ScriptRegion × List ℕ

-- a step that writes nothing
abbrev pub no_output : ScriptRegion → Option Outcome
no_output r = Some (r, [])

-- Attached passes

-- it enters, and where it was bounced leaves again
abbrev pub attach : ScriptRegion → ℕ → Outcome
attach r k =
    if nat_lt r.state.gate (2 ^ 63) then (does (with_act r k Enter) k Doing.attached, codes "attached\n") else
    (with_act (with_act r k Enter) k Leave, one_number (codes "Changing") r.state.gate)

abbrev pub attaches : ScriptRegion → ℕ → Doing → Option Outcome
attaches r k Doing.idle = Some (attach r k)
attaches r k _ = None

abbrev pub detach : ScriptRegion → ℕ → ScriptRegion
detach r k = does (with_act r k Leave) k Doing.idle

abbrev pub detaches : ScriptRegion → ℕ → Doing → Option Outcome
detaches r k Doing.attached = no_output (detach r k)
detaches r k _ = None

abbrev pub stores : ScriptRegion → ℕ → Option Act → Option Outcome
stores r k None = None
stores r k (Some act) = no_output (with_act r k act)

abbrev pub swaps : ScriptRegion → ℕ → ℕ → Option ℤ → Given → Doing → Option Outcome
swaps r k item instance value Doing.attached = stores r k (swap_of r.state.words item instance value)
swaps r k item instance value _ = None

abbrev pub adds : ScriptRegion → ℕ → ℕ → Option ℤ → ℤ → Doing → Option Outcome
adds r k item instance number Doing.attached = stores r k (add_of r.state.words item instance number)
adds r k item instance number _ = None

-- Changes of the layout

-- the new generation is the moment, or one more than the old where that is greater
abbrev pub new_generation : ScriptRegion → ℕ → ℕ
new_generation r moment = max moment (g1 r.state + 1)

abbrev pub with_take : ScriptRegion → ℕ → ScriptRegion
with_take r k = with_act (with_act r k Take) k (Load 1)

abbrev pub begin_outcome : ScriptRegion → ℕ → List ℕ → ℕ → Outcome
begin_outcome r k image n = (does (with_act (with_take r k) k (Begin n)) k (Doing.changing image n 0), one_number (codes "begun") n)

-- refused where the image is too large, the gate isn't free, or no generation is left, in this order
abbrev pub begin_ : ScriptRegion → ℕ → List ℕ → ℕ → Outcome
begin_ r k image moment =
    if nat_lt (capacity_of r) (length image) then (r, two_numbers (codes "TooLarge") (length image) (capacity_of r)) else
    if nat_lt 0 r.state.gate then (with_act r k Take, one_number (codes "Busy") r.state.gate) else
    if g1 r.state == 2 ^ 64 - 1 then (with_act (with_take r k) k Free, one_number (codes "Spent") (g1 r.state)) else
    begin_outcome r k image (new_generation r moment)

abbrev pub begins : ScriptRegion → ℕ → List ℕ → ℕ → Doing → Option Outcome
begins r k image moment Doing.idle = Some (begin_ r k image moment)
begins r k image moment _ = None

-- the next word of the image, if one is left
abbrev pub next_word : ScriptRegion → ℕ → List ℕ → ℕ → ℕ → ScriptRegion
next_word r k image n next =
    if left_from next image == 0 then r else does (with_act r k (Put next (slice_index image next))) k (Doing.changing image n (next_after next))

abbrev pub steps_on : ScriptRegion → ℕ → Doing → Option Outcome
steps_on r k (Doing.changing image n next) = no_output (next_word r k image n next)
steps_on r k _ = None

-- the words that are left, the second generation, and the gate
abbrev pub finish : ScriptRegion → ℕ → List ℕ → ℕ → ℕ → ScriptRegion
finish r k image n next = does (all_acted r k (puts_left next image ++ (End n ∷ Free ∷ []))) k Doing.idle

abbrev pub finishes : ScriptRegion → ℕ → Doing → Option Outcome
finishes r k (Doing.changing image n next) = no_output (finish r k image n next)
finishes r k _ = None

-- Readings

abbrev pub loads : ScriptRegion → ℕ → Doing → Option Outcome
loads r k Doing.idle = no_output (does (with_act r k (Load 2)) k (Doing.reading (g2 r.state)))
loads r k _ = None

abbrev pub reads : ScriptRegion → ℕ → ℕ → Doing → Option Outcome
reads r k index (Doing.reading first) =
    if nat_lt index (capacity_of r) then Some (with_act r k (Load index), one_number (codes "word") (word r.state index)) else None
reads r k index _ = None

abbrev pub end_reading : ScriptRegion → ℕ → ScriptRegion
end_reading r k = does (with_act r k (Load 1)) k Doing.idle

-- stable where the generation found last is the first
abbrev pub end_line : ℕ → ℕ → List ℕ
end_line first last = if first == last then one_number (codes "stable") first else two_numbers (codes "Again") first last

abbrev pub ends : ScriptRegion → ℕ → Doing → Option Outcome
ends r k (Doing.reading first) = Some (end_reading r k, end_line first (g1 r.state))
ends r k _ = None
