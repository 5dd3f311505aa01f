-- Worked scripts: what their steps write, and what a tick behind them asks for and shows. Image A has the number 7 as `hits`, under
-- generation 5; B has 9 as `hits`; C has 1 as `misses`, of another item; D has 4294967295 as `hits`, unsigned; E has the text `off` as
-- `state`, and the string `on` before it.
use Rattle.std.specs.Prelude.{◌≡◌, ℕ, pos, negsuc, ◌+◌, ◌*◌, List, [], ◌∷◌, ◌++◌, codes, map, option_map, replicate, Option, Some, None}
use Rattle.pcp_base.specs.declared.result.Body.TheVariants.{InPlace, Blocks, Status}
use Rattle.pcp_base.specs.declared.result.ValueSet.{ValueSet}
use Rattle.fetch_answers.specs.Names.{names_of}
use Rattle.fetch_answers.specs.Readings.{reading_of}
use Rattle.log_schedule.specs.declared.config.Group.{Group}
use Rattle.run_script.specs.declared.script.Line.{Line}
use Rattle.run_script.specs.declared.script.Line.TheVariants.{Attach, Detach, Swap, Add, Begin, Step, Finish, Load, Word, Done}
use Rattle.run_script.specs.declared.script.Script.{Script}
use Rattle.run_script.specs.declared.lines.Given.TheVariants.{Choice}
use Rattle.script_runs.specs.Regions.{ScriptRegion, made_regions}
use Rattle.script_runs.specs.Groups.{shots_of, metrics_of, with_metrics}
use Rattle.script_runs.specs.Steps.{Regions, steps_behind, fetched_from}

-- an image of one metric without a domain, and its value
abbrev pub one_metric : ℕ → ℕ → ℕ → ℕ → ℕ → List ℕ
one_metric generation name item kind value =
    4300623181 ∷ generation ∷ generation ∷ 2 ∷ 4294967296 ∷ 4294967299 ∷ 72 ∷ 4294967300 ∷ 176 ∷ name ∷ 0 ∷ 0 ∷ 0 ∷ 0 ∷ 0 ∷ 0 ∷ 0
    ∷ (item + 4294967296 * kind) ∷ 4503599627370497 ∷ 4294967295 ∷ 0 ∷ 0 ∷ value ∷ 0 ∷ 72 ∷ 0 ∷ []

abbrev pub hits : ℕ
hits = 1937009000

abbrev pub misses : ℕ
misses = 126879565834605

-- a metric `state` of texts, and two strings, to the second of which its value leads
abbrev pub with_strings : List ℕ
with_strings =
    4300623181 ∷ 5 ∷ 5 ∷ 3 ∷ 4294967296 ∷ 4294967299 ∷ 88 ∷ 4294967300 ∷ 192 ∷ 8589934597 ∷ 224 ∷ 435744240755 ∷ 0 ∷ 0 ∷ 0 ∷ 0 ∷ 0 ∷ 0 ∷ 0
    ∷ (5 + 4294967296 * 6) ∷ 4 ∷ 4294967295 ∷ 0 ∷ 0 ∷ 0 ∷ 480 ∷ 88 ∷ 0 ∷ 28271 ∷ (replicate 31 0 ++ (6710895 ∷ replicate 31 0))

abbrev pub images : List (List ℕ × List ℕ)
images =
    (codes "A", one_metric 5 hits 2 0 7) ∷ (codes "B", one_metric 1 hits 2 0 9) ∷ (codes "C", one_metric 1 misses 3 0 1)
    ∷ (codes "D", one_metric 5 hits 2 1 4294967295) ∷ (codes "E", with_strings) ∷ (codes "F", one_metric 18446744073709551615 hits 2 0 7) ∷ []

abbrev pub group : Group
group = record { interval = Some 1000; names = codes "mmv" ∷ [] }

-- a script of one region, which opens on this image
abbrev pub script_on : ℕ → ℕ → Script
script_on image capacity = record {
  images = images;
  regions = record { file = codes "app"; image = image; capacity = capacity; passes = 3; line = 16 } ∷ [];
  config = record { groups = group ∷ [] };
  steps = [];
}

abbrev pub with_line_zero : List Line → List (ℕ × Line)
with_line_zero steps = map (λ step. (0, step)) steps

abbrev pub regions_behind : ℕ → ℕ → List Line → Option Regions
regions_behind image capacity steps = steps_behind (script_on image capacity) (with_line_zero steps) (made_regions (script_on image capacity), [])

-- what steps write
abbrev pub writes : ℕ → List Line → Option (List ℕ)
writes image steps = option_map (λ found. found.1) (regions_behind image 32 steps)

-- what a tick behind them asks for beside what was asked for before, and what it shows
abbrev pub asks : List ℕ → List ScriptRegion → List ℕ
asks before regions = with_metrics before (metrics_of (names_of (shots_of regions)) group)

abbrev pub answers : List ℕ → List ScriptRegion → List ValueSet
answers before regions = (fetched_from (map reading_of (shots_of regions)) (asks before regions) (record { sec = 100; usec = 0 })).result.sets

abbrev pub shows : ℕ → ℕ → List ℕ → List Line → Option (List ValueSet)
shows image capacity before steps = option_map (λ found. answers before found.0) (regions_behind image capacity steps)

abbrev pub hits_number : ℕ
hits_number = 293602306

-- a pass adds 1 to 4294967295, whose low 32 bits are then 0
abbrev pub AddsOne : Type 0
AddsOne = shows 3 32 [] (Attach 0 0 ∷ Add 0 0 2 None (pos 1) ∷ Detach 0 0 ∷ []) ≡ Some (record { pmid = hits_number; body = InPlace ((negsuc 0, 0) ∷ []) } ∷ [])

-- a reading around a change is refused, and one behind it is stable and finds the new value
abbrev pub ReadsAround : Type 0
ReadsAround = writes 0 (Load 0 0 ∷ Begin 0 1 1 0 ∷ Finish 0 1 ∷ Done 0 0 ∷ []) ≡ Some (codes "begun 6\nAgain 5 6\n")

abbrev pub ReadsBehind : Type 0
ReadsBehind = writes 0 (Begin 0 1 1 0 ∷ Finish 0 1 ∷ Load 0 0 ∷ Word 0 0 22 ∷ Done 0 0 ∷ []) ≡ Some (codes "begun 6\nword 9\nstable 6\n")

-- while a pass is attached no change begins, and the value stays
abbrev pub IsBusy : Type 0
IsBusy = writes 0 (Attach 0 0 ∷ Begin 0 1 1 0 ∷ []) ≡ Some (codes "attached\nBusy 1\n")

abbrev pub ShowsBusy : Type 0
ShowsBusy = shows 0 32 [] (Attach 0 0 ∷ Begin 0 1 1 0 ∷ []) ≡ Some (record { pmid = hits_number; body = InPlace ((negsuc 0, 7) ∷ []) } ∷ [])

-- while a change is open none attaches
abbrev pub IsBounced : Type 0
IsBounced = writes 0 (Begin 0 1 1 0 ∷ Attach 0 0 ∷ Finish 0 1 ∷ Attach 0 0 ∷ Detach 0 0 ∷ []) ≡ Some (codes "begun 6\nChanging 9223372036854775808\nattached\n")

-- behind the last generation none comes, and the gate is free
abbrev pub IsSpent : Type 0
IsSpent = writes 5 (Begin 0 1 1 0 ∷ Attach 0 0 ∷ Detach 0 0 ∷ []) ≡ Some (codes "Spent 18446744073709551615\nattached\n")

-- an image of too many words, and a moment above the old generation
abbrev pub IsTooLarge : Type 0
IsTooLarge = writes 0 (Begin 0 1 4 0 ∷ Begin 0 1 1 100 ∷ Step 0 1 ∷ Finish 0 1 ∷ []) ≡ Some (codes "TooLarge 92 32\nbegun 100\n")

-- a metric that is gone, and the one that came
abbrev pub ShowsOther : Type 0
ShowsOther = shows 0 32 (hits_number ∷ []) (Begin 0 1 2 0 ∷ Finish 0 1 ∷ []) ≡ Some (record { pmid = hits_number; body = Status (negsuc 12357) } ∷ record { pmid = 293602307; body = InPlace ((negsuc 0, 1) ∷ []) } ∷ [])

-- a region is missed while its change is open, and none of its metrics is asked for then
abbrev pub ShowsMissed : Type 0
ShowsMissed = shows 0 32 (hits_number ∷ []) (Begin 0 1 1 0 ∷ []) ≡ Some (record { pmid = hits_number; body = Status (negsuc 12388) } ∷ [])

-- another string is stored
abbrev pub ShowsText : Type 0
ShowsText = shows 4 128 [] (Attach 0 0 ∷ Swap 0 0 5 None (Choice (codes "on")) ∷ []) ≡ Some (record { pmid = 293602309; body = Blocks ((negsuc 0, record { code = 6; bytes = codes "on" ++ 0 ∷ [] }) ∷ []) } ∷ [])

-- steps whose conditions fail
abbrev pub AreRefused : Type 0
AreRefused =
    (writes 0 (Detach 0 0 ∷ []) ≡ None) × (writes 0 (Attach 0 0 ∷ Attach 0 0 ∷ []) ≡ None) × (writes 0 (Attach 0 0 ∷ Add 0 0 3 None (pos 1) ∷ []) ≡ None)
    × (writes 0 (Load 0 0 ∷ Word 0 0 32 ∷ []) ≡ None) × (writes 0 (Begin 0 0 1 0 ∷ Load 0 0 ∷ []) ≡ None)
