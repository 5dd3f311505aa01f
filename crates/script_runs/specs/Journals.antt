-- What the journal of a region says of the passes of a script: its entries without the logger's loads, and without the loads of
-- passes that are attached, which only look at the layout.
use Rattle.std.specs.Prelude.{ℕ, ◌==◌, Bool, true, false, ◌&&◌, ◌||◌, if◌then◌else◌, List, [], ◌∷◌, slice_get, Option, Some}
use Rattle.region_core.specs.declared.act.Act.{Act}
use Rattle.region_core.specs.declared.act.Act.TheVariants.{Load}
use Rattle.region_core.specs.declared.act.Entry.{Entry}
use Rattle.region_core.specs.declared.mode.Mode.{Mode}
use Rattle.region_core.specs.declared.mode.Mode.TheVariants.{Attached}
use Rattle.region_core.specs.State.{State, after}

abbrev pub is_load : Act → Bool
is_load (Load w) = true
is_load _ = false

abbrev pub is_attached : Option Mode → Bool
is_attached (Some Attached) = true
is_attached _ = false

-- a load of the logger's pass, or of one that is attached
abbrev pub is_look : State → ℕ → Entry → Bool
is_look s logger e = is_load e.act && (e.by == logger || is_attached (slice_get s.modes e.by))

-- a journal without such loads
abbrev pub without_looks : State → ℕ → List Entry → List Entry
without_looks s logger [] = []
without_looks s logger (e ∷ es) =
    if is_look s logger e then without_looks (after s e.by e.act) logger es else e ∷ without_looks (after s e.by e.act) logger es
