-- A region as a script's steps see it: its state, what each of its passes is doing, and the entries that they made.
use Rattle.std.specs.Prelude.{ℕ, ◌+◌, List, [], ◌∷◌, ◌++◌, length, map, replicate, slice_get, slice_set, Option, Some, None}
use Rattle.mmv_layout.specs.Contents.{cluster_in}
use Rattle.region_core.specs.declared.act.Act.{Act}
use Rattle.region_core.specs.declared.act.Entry.{Entry}
use Rattle.region_core.specs.State.{State, after, opening, with_zeros}
use Rattle.run_script.specs.declared.script.RegionRow.{RegionRow}
use Rattle.run_script.specs.declared.script.Script.{Script}

-- What a pass is doing: nothing; it is attached; it changes the layout to this image, under this generation, and stores this
-- word next; or it reads, and found this generation first.
pub data Doing : Type 0 where
  idle : Doing
  attached : Doing
  changing : List ℕ → ℕ → ℕ → Doing
  reading : ℕ → Doing

-- a region by its file and the cluster in which it is served
pub record ScriptRegion : Type 0 where
  pub file : List ℕ
  pub cluster : ℕ
  pub state : State
  pub doing : List Doing
  pub log : List Entry

-- the words that fit into it
abbrev pub capacity_of : ScriptRegion → ℕ
capacity_of r = length r.state.words

-- an act of pass k
abbrev pub with_act : ScriptRegion → ℕ → Act → ScriptRegion
with_act r k act = record r { state = after r.state k act; log = r.log ++ record { by = k; act = act } ∷ [] }

abbrev pub all_acted : ScriptRegion → ℕ → List Act → ScriptRegion
all_acted r k [] = r
all_acted r k (act ∷ acts) = all_acted (with_act r k act) k acts

-- from now on pass k does this
abbrev pub does : ScriptRegion → ℕ → Doing → ScriptRegion
does r k doing = record r { doing = slice_set r.doing k doing }

-- what pass k does; one that the region doesn't have does nothing
abbrev pub or_idle : Option Doing → Doing
or_idle None = Doing.idle
or_idle (Some doing) = doing

abbrev pub doing_of : ScriptRegion → ℕ → Doing
doing_of r k = or_idle (slice_get r.doing k)

-- the words of an image of a script; of one that isn't there none
abbrev pub words_or_none : Option (List ℕ × List ℕ) → List ℕ
words_or_none None = []
words_or_none (Some image) = image.1

abbrev pub words_at : List (List ℕ × List ℕ) → ℕ → List ℕ
words_at images at = words_or_none (slice_get images at)

-- A region as it is made: on its image, with a pass more than the script names, which is the logger's and comes last.
abbrev pub made_region : List (List ℕ × List ℕ) → RegionRow → ScriptRegion
made_region images row = record {
  file = row.file;
  cluster = cluster_in (words_at images row.image);
  state = opening (with_zeros (words_at images row.image) row.capacity) (row.passes + 1);
  doing = replicate row.passes Doing.idle;
  log = [];
}

abbrev pub made_regions : Script → List ScriptRegion
made_regions script = map (made_region script.images) script.regions
