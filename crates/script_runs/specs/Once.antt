-- The run of one image as that of a script: one region under the name of its file, whose words are its capacity, all of whose
-- metrics are logged once at one tick.
use Rattle.std.specs.Prelude.{ℕ, List, [], ◌∷◌, length, codes, None}
use Rattle.pcp_base.specs.Time.{Moment}
use Rattle.log_schedule.specs.declared.config.Group.{Group}
use Rattle.run_script.specs.declared.script.RegionRow.{RegionRow}
use Rattle.run_script.specs.declared.script.Line.TheVariants.{Tick}
use Rattle.run_script.specs.declared.script.Script.{Script}

-- `log mandatory on once { mmv }`
abbrev pub once_group : Group
once_group = record { interval = None; names = codes "mmv" ∷ [] }

abbrev pub once_region : List ℕ → List ℕ → RegionRow
once_region file words = record { file = file; image = 0; capacity = length words; passes = 1; line = 1 }

abbrev pub once_script : Moment → List ℕ → List ℕ → Script
once_script stamp file words = record {
  images = (file, words) ∷ [];
  regions = once_region file words ∷ [];
  config = record { groups = once_group ∷ [] };
  steps = (2, Tick stamp) ∷ [];
}

-- its volume limit
abbrev pub once_limit : ℕ
once_limit = 1073741824
