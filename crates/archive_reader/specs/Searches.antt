-- What is asked of an archive's items by time: the last one that isn't stamped after a moment, and those between two moments.
-- A reader needn't look at all items for it: it goes from a place on up to the first item stamped after the later moment.
use Rattle.std.specs.Prelude.{ℕ, Bool, ◌||◌, nat_lt, nat_eq, if◌then◌else◌, List, [], ◌∷◌, ◌++◌, length, take, drop, Option, Some, None}
use Rattle.pcp_base.specs.Time.{Moment, microseconds}
use Rattle.pcp_base.specs.declared.file.FileId.TheVariants.{Volume}
use Rattle.pcp_base.specs.declared.result.Item.{Item}
use Rattle.pcp_model.specs.declared.records.Entry.{Entry}
use Rattle.pcp_model.specs.Archive.{items_of}
use Rattle.pcp_model.specs.Disk.{Files}
use Rattle.pcp_model.specs.Payload.{stamp_of}

-- an item is stamped after a moment, or before it
abbrev pub is_after : Moment → Item → Bool
is_after t x = nat_lt (microseconds t) (microseconds (stamp_of x))

abbrev pub is_before : Moment → Item → Bool
is_before t x = nat_lt (microseconds (stamp_of x)) (microseconds t)

-- the first of two that is there
abbrev pub or_else : {A : Type 0} → Option A → Option A → Option A
or_else (Some x) other = Some x
or_else None other = other

abbrev pub last_of : {A : Type 0} → List A → Option A
last_of [] = None
last_of (x ∷ xs) = or_else (last_of xs) (Some x)

-- the last item that isn't stamped after t
abbrev pub at : Moment → List Item → Option Item
at t [] = None
at t (x ∷ items) = or_else (at t items) (if is_after t x then None else Some x)

-- the items stamped neither before the first moment nor after the second
abbrev pub between : Moment → Moment → List Item → List Item
between from to [] = []
between from to (x ∷ items) = if is_before from x || is_after to x then between from to items else x ∷ between from to items

-- the items up to the first one stamped after t
abbrev pub segment : Moment → List Item → List Item
segment t [] = []
segment t (x ∷ items) = if is_after t x then [] else x ∷ segment t items

-- the items before a place, which is a volume and how many of its records stand before it
abbrev pub items_before : ℕ → ℕ → List (ℕ × List Item) → List Item
items_before volume count [] = []
items_before volume count (v ∷ vs) =
    if nat_lt v.0 volume then v.1 ++ items_before volume count vs else (if nat_eq v.0 volume then take count v.1 else [])

-- and those from the place on, over the ends of volumes
abbrev pub items_from : ℕ → ℕ → List (ℕ × List Item) → List Item
items_from volume count [] = []
items_from volume count (v ∷ vs) =
    if nat_lt v.0 volume then items_from volume count vs else (if nat_eq v.0 volume then drop count v.1 ++ items_of vs else v.1 ++ items_of vs)

-- the number of the first volume that isn't empty
abbrev pub first_number : List (ℕ × List Item) → ℕ
first_number [] = 0
first_number (v ∷ vs) = v.0

-- Where a search begins, a volume and an offset in it: where the entry that was found says, unless its volume is empty; without
-- such an entry at the first record.
abbrev pub chosen_place : Files → List (ℕ × List Item) → Option Entry → ℕ × ℕ
chosen_place files volumes None = (first_number volumes, 132)
chosen_place files volumes (Some e) = if nat_eq (length (files (Volume e.volume))) 0 then (first_number volumes, 132) else (e.volume, e.offset)
