-- The script that a number makes: three regions, to whose counters four threads each add, and the first of which has a
-- metric more, or has it no more, at each 256th tick. Draws are of a linear congruential generator.
use Rattle.std.specs.Prelude.{ℕ, zero, suc, pos, ◌+◌, ◌*◌, ◌/◌, ◌%◌, ◌==◌, Bool, true, false, if◌then◌else◌, List, [], ◌∷◌, ◌++◌, map, length, Some, None, codes}
use Rattle.std.specs.Fmt.{decimal}
use Rattle.pcp_base.specs.declared.kind.Kind.{Kind}
use Rattle.pcp_base.specs.declared.kind.Kind.TheVariants as kinds
use Rattle.pcp_base.specs.declared.kind.Semantics.TheVariants as meanings
use Rattle.mmv_layout.specs.declared.rows.IndomRow.{IndomRow}
use Rattle.mmv_layout.specs.declared.rows.MetricRow.{MetricRow}
use Rattle.mmv_layout.specs.declared.rows.ValueRow.{ValueRow}
use Rattle.mmv_layout.specs.declared.rows.Content.TheVariants as contents
use Rattle.mmv_layout.specs.declared.rows.Layout.{Layout}
use Rattle.mmv_writer.specs.Spelling.{image_words}
use Rattle.log_schedule.specs.declared.config.Group.{Group}
use Rattle.run_script.specs.declared.script.RegionRow.{RegionRow}
use Rattle.run_script.specs.declared.script.Line.{Line}
use Rattle.run_script.specs.declared.script.Line.TheVariants as lines
use Rattle.run_script.specs.declared.script.Script.{Script}

-- so many numbers from one on
unfoldable pub numbers : ℕ → ℕ → List ℕ
numbers from zero = []
numbers from (suc count) = from ∷ numbers (from + 1) count

-- Images

-- a metric without help texts, whose unit is one thing counted
abbrev pub counter : List ℕ → ℕ → Kind → MetricRow
counter name item kind = record { name = name; item = item; kind = kind; semantics = meanings.Counter; units = 1048576; serial = None; short = None; long = None }

-- the metrics c1 to c12
abbrev pub single : ℕ → MetricRow
single k = counter (codes "c" ++ decimal k) k kinds.U32

-- the metric of the domain
abbrev pub domain_metric : MetricRow
domain_metric = record (counter (codes "per") 13 kinds.U64) { serial = Some 1 }

-- the metric that the first region's second image has besides
abbrev pub late_metric : MetricRow
late_metric = record {
  name = codes "late";
  item = 14;
  kind = kinds.I32;
  semantics = meanings.Instant;
  units = 0;
  serial = None;
  short = None;
  long = None;
}

-- the domain, with the instances i0 to i15
abbrev pub domain : IndomRow
domain = record { serial = 1; instances = map (λ k. (pos k, codes "i" ++ decimal k)) (numbers 0 16); short = None; long = None }

-- each value is 0
abbrev pub plain_value : ℕ → ValueRow
plain_value item = record { item = item; instance = None; content = contents.Number 0 }

abbrev pub instance_value : ℕ → ValueRow
instance_value id = record { item = 13; instance = Some (pos id); content = contents.Number 0 }

abbrev pub if_late : {A : Type 0} → Bool → A → List A
if_late has x = if has then x ∷ [] else []

-- the layout of a cluster's image, with the metric `late_metric` or without
unfoldable pub layout : ℕ → Bool → Layout
layout cluster has_late = record {
  version = 1;
  generation = 1;
  flags = 0;
  pid = 0;
  cluster = cluster;
  indoms = domain ∷ [];
  metrics = map single (numbers 1 12) ++ domain_metric ∷ if_late has_late late_metric;
  values = map plain_value (numbers 1 12) ++ map instance_value (numbers 0 16) ++ if_late has_late (plain_value 14);
  strings = [];
}

-- the images r0, r1, r2 and r0late
unfoldable pub images : List (List ℕ × List ℕ)
images =
    (codes "r0", image_words (layout 1 false)) ∷ (codes "r1", image_words (layout 2 false))
    ∷ (codes "r2", image_words (layout 3 false)) ∷ (codes "r0late", image_words (layout 1 true)) ∷ []

-- The head. An image's text has 59 lines, that of r0late two more; with the lines `image` and `end` they are 246 lines.

abbrev pub region : List ℕ → ℕ → RegionRow
region file k = record { file = file; image = k; capacity = 2048; passes = 4; line = 247 + k }

unfoldable pub regions : List RegionRow
regions = region (codes "r0") 0 ∷ region (codes "r1") 1 ∷ region (codes "r2") 2 ∷ []

-- each second, all metrics
abbrev pub group : Group
group = record { interval = Some 1000; names = codes "mmv" ∷ [] }

-- Draws

abbrev pub next : ℕ → ℕ
next x = (x * 6364136223846793005 + 1442695040888963407) % 18446744073709551616

-- the generator's number behind so many draws
unfoldable pub number_behind : ℕ → ℕ → ℕ
number_behind number zero = number
number_behind number (suc count) = next (number_behind number count)

-- the draw of a number of the generator: its upper half
abbrev pub draw : ℕ → ℕ
draw x = x / 4294967296

-- the add of a draw: what, to which counter, in which region and by which pass
abbrev pub add_of : ℕ → Line
add_of d = lines.Add (d % 3) (d / 3 % 4) (1 + d / 12 % 12) None (pos (1 + d / 65536 % 100))

-- Steps

-- a step of each pass of a region
abbrev pub by_passes : (ℕ → Line) → List Line
by_passes step = step 0 ∷ step 1 ∷ step 2 ∷ step 3 ∷ []

abbrev pub attach_lines : ℕ → List Line
attach_lines region = by_passes (λ pass. lines.Attach region pass)

abbrev pub detach_lines : ℕ → List Line
detach_lines region = by_passes (λ pass. lines.Detach region pass)

-- the first region gets another layout
abbrev pub change_lines : ℕ → List Line
change_lines image = detach_lines 0 ++ (lines.Begin 0 0 image 0 ∷ lines.Finish 0 0 ∷ attach_lines 0)

-- at an odd multiple of 256 to the second image, at an even one back
abbrev pub change_at : ℕ → List Line
change_at k = if k % 256 == 0 then change_lines (if k / 256 % 2 == 1 then 3 else 0) else []

-- three draws behind a number each make an add
abbrev pub three_adds : ℕ → List Line
three_adds x = add_of (draw (next x)) ∷ add_of (draw (next (next x))) ∷ add_of (draw (next (next (next x)))) ∷ []

abbrev pub flush_lines : ℕ → List Line
flush_lines k = if k % 10 == 0 then lines.Flush ∷ [] else []

abbrev pub tick_at : ℕ → Line
tick_at k = lines.Tick (record { sec = k; usec = 0 })

-- the steps of a tick, which comes behind the draws of the ticks before it
unfoldable pub tick_steps : ℕ → ℕ → List Line
tick_steps x k = change_at k ++ (three_adds x ++ (tick_at k ∷ flush_lines k))

-- the steps of so many ticks
unfoldable pub all_ticks : ℕ → ℕ → List Line
all_ticks number zero = []
all_ticks number (suc count) = all_ticks number count ++ tick_steps (number_behind number (3 * count)) (suc count)

unfoldable pub all_steps : ℕ → ℕ → List Line
all_steps number ticks =
    (attach_lines 0 ++ (attach_lines 1 ++ attach_lines 2)) ++ (all_ticks number ticks ++ (detach_lines 0 ++ (detach_lines 1 ++ detach_lines 2)))

-- steps with the numbers of their lines, the first of which is given
unfoldable pub with_line_numbers : ℕ → List Line → List (ℕ × Line)
with_line_numbers from [] = []
with_line_numbers from (step ∷ steps) = (from, step) ∷ with_line_numbers (from + 1) steps

-- steps behind those that stand, each with the number of its line
abbrev pub with_steps : List (ℕ × Line) → List Line → List (ℕ × Line)
with_steps steps more = steps ++ with_line_numbers (252 + length steps) more

-- The script of a number and so many ticks; its line `start` is the 251st.
unfoldable pub generated_script : ℕ → ℕ → Script
generated_script number ticks = record {
  images = images;
  regions = regions;
  config = record { groups = group ∷ [] };
  steps = with_line_numbers 252 (all_steps number ticks);
}
