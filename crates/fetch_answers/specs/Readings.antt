-- What is known of regions: what each said when it was read, or that it was missed.
use Rattle.std.specs.Prelude.{ℕ, ◌<◌, ◌≤◌, ◌+◌, List, [], ◌∷◌, Option, option_map, All}
use Rattle.mmv_layout.specs.declared.rows.Layout.{Layout}
use Rattle.mmv_layout.specs.Rows.{layout_of}
use Rattle.fetch_answers.specs.declared.shot.Shot.{Shot}

-- the name of the region's file, the cluster in which it is served, and what it said; nothing where it was missed
pub record RegionReading : Type 0 where
  pub file : List ℕ
  pub cluster : ℕ
  pub layout : Option Layout

abbrev pub reading_of : Shot → RegionReading
reading_of shot = record { file = shot.file; cluster = shot.cluster; layout = option_map layout_of shot.image }

-- clusters have 12 bits and ascend
abbrev pub AscendFrom : ℕ → List Shot → Type 0
AscendFrom least [] = Unit {0}
AscendFrom least (shot ∷ shots) = (least ≤ shot.cluster) × AscendFrom (shot.cluster + 1) shots

pub record AreInOrder (shots : List Shot) : Type 0 where
  pub clusters : All (λ shot. shot.cluster < 4096) shots
  pub ascend : AscendFrom 0 shots
