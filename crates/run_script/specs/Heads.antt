-- What the lines of a script's head say.
use Rattle.std.specs.Prelude.{ℕ, ◌==◌, Bool, false, ◌&&◌, not, nat_le, if◌then◌else◌, List, [], ◌∷◌, ◌++◌, length, slice_get, bytes_eq, Option, Some, None, Result, Ok, Err}
use Rattle.std.specs.List.{list_any}
use Rattle.pcp_base.specs.Names.{spells_component}
use Rattle.mmv_layout.specs.Contents.{cluster_in}
use Rattle.log_schedule.specs.declared.config.Group.{Group}
use Rattle.log_schedule.specs.declared.stage.Stage.TheVariants as scans
use Rattle.log_schedule.specs.Scanning.{State, run, at_start}
use Rattle.mmv_writer.specs.declared.line_fault.LineFault.TheVariants.{Grammar, Condition}
use Rattle.run_script.specs.declared.fault.ScriptLineFault.{ScriptLineFault}
use Rattle.run_script.specs.declared.fault.ScriptLineFault.TheVariants.{Line, Regions}
use Rattle.run_script.specs.declared.script.RegionRow.{RegionRow}
use Rattle.run_script.specs.declared.said.Said.{Said}
use Rattle.run_script.specs.Names.{image_named}

-- some region has this FILE
abbrev pub has_file : List RegionRow → List ℕ → Bool
has_file regions file = list_any (λ row. bytes_eq row.file file) regions

-- an image, if there is one, is of this cluster
abbrev pub is_of : ℕ → Option (List ℕ × List ℕ) → Bool
is_of cluster None = false
is_of cluster (Some image) = cluster_in image.1 == cluster

-- some region's image is of this cluster
abbrev pub has_cluster : List (List ℕ × List ℕ) → List RegionRow → ℕ → Bool
has_cluster images regions cluster = list_any (λ row. is_of cluster (slice_get images row.image)) regions

-- numbers that a region may have: as many words as its image at least, 65,536 at most, and 1 to 255 passes
abbrev pub fits_image : List ℕ → ℕ → ℕ → Bool
fits_image words capacity passes =
    (nat_le (length words) capacity && nat_le capacity 65536) && (nat_le 1 passes && nat_le passes 255)

-- a region that may be added: its FILE is a component that no other has, and its image's cluster is no other's
abbrev pub may_open : Said → List ℕ → List ℕ → ℕ → ℕ → Bool
may_open said file words capacity passes =
    ((spells_component file && not (has_file said.regions file)) && fits_image words capacity passes)
    && not (has_cluster said.images said.regions (cluster_in words))

abbrev pub with_row : Said → RegionRow → Said
with_row said row = record said { regions = said.regions ++ row ∷ [] }

-- a region that opens on this image, which stands at this position
abbrev pub opens : Option (List ℕ × List ℕ) → ℕ → ℕ → Said → List ℕ → ℕ → ℕ → Result Said ScriptLineFault
opens None at number said file capacity passes = Err (Line Condition)
opens (Some image) at number said file capacity passes =
    if may_open said file image.1 capacity passes
    then Ok (with_row said (record { file = file; image = at; capacity = capacity; passes = passes; line = number }))
    else Err (Line Condition)

abbrev pub opened_on : Option ℕ → ℕ → Said → List ℕ → ℕ → ℕ → Result Said ScriptLineFault
opened_on None number said file capacity passes = Err (Line Condition)
opened_on (Some at) number said file capacity passes = opens (slice_get said.images at) at number said file capacity passes

-- a region whose image stands here, if it is there: at most 64 regions are opened
unfoldable pub region_at : Option ℕ → ℕ → Said → List ℕ → ℕ → ℕ → Result Said ScriptLineFault
region_at place number said file capacity passes =
    if nat_le 64 (length said.regions) then Err Regions else opened_on place number said file capacity passes

-- a region's line
abbrev pub with_region : ℕ → Said → List ℕ → List ℕ → ℕ → ℕ → Result Said ScriptLineFault
with_region number said file image capacity passes = region_at (image_named said.images image) number said file capacity passes

-- what a single group is
abbrev pub single : List Group → Option Group
single [] = None
single (group ∷ []) = Some group
single (group ∷ other ∷ groups) = None

abbrev pub group_of_scan : Option State → Option Group
group_of_scan (Some (scans.Between, found)) = single found.groups
group_of_scan _ = None

-- the group of a line that is one statement of the configuration
unfoldable pub statement_of : List ℕ → Option Group
statement_of line = group_of_scan (run at_start line)

abbrev pub with_group : Said → Option Group → Result Said ScriptLineFault
with_group said None = Err (Line Grammar)
with_group said (Some group) = Ok (record said { groups = said.groups ++ group ∷ [] })
