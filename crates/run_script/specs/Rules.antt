-- The rules that each script keeps which is read.
use Rattle.std.specs.Prelude.{◌≡◌, ◌≢◌, ℕ, ◌<◌, ◌≤◌, List, length, slice_get, Option, Some, option_map}
use Rattle.pcp_base.specs.Names.{IsComponent}
use Rattle.pcp_base.specs.Time.{Moment, microseconds}
use Rattle.mmv_layout.specs.Contents.{cluster_in}
use Rattle.run_script.specs.declared.script.RegionRow.{RegionRow}
use Rattle.run_script.specs.declared.script.Line.{Line}
use Rattle.run_script.specs.declared.script.Line.TheVariants as lines
use Rattle.run_script.specs.declared.script.Script.{Script}

-- this holds of each item of a list
abbrev pub AtEach : {A : Type 0} → (A → Type 0) → List A → Type 0
AtEach {A} P items = (i : ℕ) (x : A) → slice_get items i ≡ Some x → P x

-- this holds of each item and each that stands behind it
abbrev pub AtPairs : {A : Type 0} → (A → A → Type 0) → List A → Type 0
AtPairs {A} R items = (i j : ℕ) (x y : A) → i < j → slice_get items i ≡ Some x → slice_get items j ≡ Some y → R x y

-- the cluster of the image that a region opens on
abbrev pub cluster_of : List (List ℕ × List ℕ) → RegionRow → Option ℕ
cluster_of images row = option_map (λ image. cluster_in image.1) (slice_get images row.image)

-- a region opens on an image that stands before it, with room for its words, and has passes
pub record IsRegion (images : List (List ℕ × List ℕ)) (row : RegionRow) : Type 0 where
  pub name : IsComponent row.file
  pub opens : (image : List ℕ × List ℕ) × (slice_get images row.image ≡ Some image) × (length image.1 ≤ row.capacity)
  pub capacity : row.capacity ≤ 65536
  pub passes : (1 ≤ row.passes) × (row.passes ≤ 255)

-- some region at this position has this pass
abbrev pub HasPass : List RegionRow → ℕ → ℕ → Type 0
HasPass rows region pass = (row : RegionRow) × (slice_get rows region ≡ Some row) × (pass < row.passes)

-- the region, the pass and the image that a step names are there
abbrev pub IsPlaced : List (List ℕ × List ℕ) → List RegionRow → Line → Type 0
IsPlaced images rows (lines.Attach region pass) = HasPass rows region pass
IsPlaced images rows (lines.Detach region pass) = HasPass rows region pass
IsPlaced images rows (lines.Swap region pass item instance value) = HasPass rows region pass
IsPlaced images rows (lines.Add region pass item instance number) = HasPass rows region pass
IsPlaced images rows (lines.Begin region pass image moment) = HasPass rows region pass × (image < length images)
IsPlaced images rows (lines.Step region pass) = HasPass rows region pass
IsPlaced images rows (lines.Finish region pass) = HasPass rows region pass
IsPlaced images rows (lines.Load region pass) = HasPass rows region pass
IsPlaced images rows (lines.Word region pass index) = HasPass rows region pass
IsPlaced images rows (lines.Done region pass) = HasPass rows region pass
IsPlaced images rows (lines.Tick stamp) = Unit {0}
IsPlaced images rows lines.Flush = Unit {0}

-- a tick is before a stamp
abbrev pub IsBefore : Line → Moment → Type 0
IsBefore (lines.Tick s) t = microseconds s < microseconds t
IsBefore line t = Unit {0}

-- of two ticks the one behind is later
abbrev pub Rises : Line → Line → Type 0
Rises line (lines.Tick t) = IsBefore line t
Rises line later = Unit {0}

-- the rules of images, of at most 64 regions, and of steps
pub record AreRuled (images : List (List ℕ × List ℕ)) (rows : List RegionRow) (steps : List (ℕ × Line)) : Type 0 where
  pub few : length rows ≤ 64
  pub named : AtEach (λ image. IsComponent image.0) images
  pub names : AtPairs (λ a b. a.0 ≢ b.0) images
  pub opened : AtEach (IsRegion images) rows
  pub files : AtPairs (λ a b. a.file ≢ b.file) rows
  pub clusters : AtPairs (λ a b. cluster_of images a ≢ cluster_of images b) rows
  pub placed : AtEach (λ step. IsPlaced images rows step.1) steps
  pub rise : AtPairs (λ a b. Rises a.1 b.1) steps

-- a script keeps the rules
abbrev pub KeepsRules : Script → Type 0
KeepsRules script = AreRuled script.images script.regions script.steps
