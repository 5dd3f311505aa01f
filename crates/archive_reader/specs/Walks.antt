-- Records of volumes as they stand, one behind another, over the ends of volumes. A place is the volumes from one on, and an
-- offset in the first of them.
use Rattle.std.specs.Prelude.{◌≡◌, ℕ, List, [], ◌∷◌, drop, nat_lt, nat_eq, if◌then◌else◌}
use Rattle.pcp_base.specs.declared.file.FileId.{FileId}
use Rattle.pcp_base.specs.declared.file.FileId.TheVariants.{Volume}
use Rattle.pcp_base.specs.declared.result.Item.{Item}
use Rattle.pcp_model.specs.Disk.{Files}
use Rattle.pcp_model.specs.Frame.{IsTorn}
use Rattle.archive_loading.specs.Standing.{ItemStands, NoItemStands}

-- the volumes from a number on
abbrev pub volumes_from : ℕ → List (ℕ × ℕ) → List (ℕ × ℕ)
volumes_from n [] = []
volumes_from n (v ∷ vs) = if nat_lt v.0 n then volumes_from n vs else v ∷ vs

-- where the next record would begin: behind the end of a volume, where the records of the next one do
abbrev pub next_volumes : List (ℕ × ℕ) → ℕ → List (ℕ × ℕ)
next_volumes [] at = []
next_volumes (v ∷ []) at = v ∷ []
next_volumes (v ∷ w ∷ vs) at = if nat_eq at v.1 then next_volumes (w ∷ vs) 132 else v ∷ w ∷ vs

abbrev pub next_offset : List (ℕ × ℕ) → ℕ → ℕ
next_offset [] at = at
next_offset (v ∷ []) at = at
next_offset (v ∷ w ∷ vs) at = if nat_eq at v.1 then next_offset (w ∷ vs) 132 else at

-- the next record is this item's, up to that offset of the volume that it stands in
abbrev pub StandsNext : Files → List (ℕ × ℕ) → ℕ → Item → ℕ → Type 0
StandsNext files [] at x to = ⊥
StandsNext files (v ∷ vs) at x to = ItemStands (files (Volume v.0)) at to x

pub record StepsOver (files : Files) (vs : List (ℕ × ℕ)) (at : ℕ) (x : Item) (ws : List (ℕ × ℕ)) (to : ℕ) : Type 0 where
  pub volumes : ws ≡ next_volumes vs at
  pub stands : StandsNext files ws (next_offset vs at) x to

-- no record follows: the last volume ends, or a record begins there that was not written whole
abbrev pub EndsThere : Files → List (ℕ × ℕ) → ℕ → Type 0
EndsThere files [] at = Unit {0}
EndsThere files (v ∷ []) at = IsTorn (drop at (files (Volume v.0)))
EndsThere files (v ∷ w ∷ vs) at = ⊥

abbrev pub IsEnd : Files → List (ℕ × ℕ) → ℕ → Type 0
IsEnd files vs at = EndsThere files (next_volumes vs at) (next_offset vs at)

-- or bytes that are no item's record, from this byte of that file on
abbrev pub IsBadThere : Files → List (ℕ × ℕ) → ℕ → FileId → ℕ → Type 0
IsBadThere files [] at file offset = ⊥
IsBadThere files (v ∷ vs) at file offset =
    (file ≡ Volume v.0) × (offset ≡ at) × NoItemStands (files (Volume v.0)) at × (EndsThere files (v ∷ vs) at → ⊥)

abbrev pub IsBad : Files → List (ℕ × ℕ) → ℕ → FileId → ℕ → Type 0
IsBad files vs at file offset = IsBadThere files (next_volumes vs at) (next_offset vs at) file offset

-- from one place up to another stand the records of these items
abbrev pub Leads : Files → List (ℕ × ℕ) → ℕ → List Item → List (ℕ × ℕ) → ℕ → Type 0
Leads files vs at [] ws to = (ws ≡ vs) × (to ≡ at)
Leads files vs at (x ∷ items) ws to = (us : List (ℕ × ℕ)) × (next : ℕ) × StepsOver files vs at x us next × Leads files us next items ws to

-- the records from a place on, to the end, are those of these items
pub record AllFrom (files : Files) (vs : List (ℕ × ℕ)) (at : ℕ) (items : List Item) : Type 0 where
  pub last : List (ℕ × ℕ)
  pub to : ℕ
  pub leads : Leads files vs at items last to
  pub ends : IsEnd files last to

-- or up to a first one that is no item's record
pub record StopsAt (files : Files) (vs : List (ℕ × ℕ)) (at : ℕ) (items : List Item) (file : FileId) (offset : ℕ) : Type 0 where
  pub last : List (ℕ × ℕ)
  pub to : ℕ
  pub leads : Leads files vs at items last to
  pub bad : IsBad files last to file offset

-- ---- within the first of these volumes

-- it ends there
abbrev pub EndsInFirst : Files → List (ℕ × ℕ) → ℕ → Type 0
EndsInFirst files [] at = Unit {0}
EndsInFirst files (v ∷ []) at = IsTorn (drop at (files (Volume v.0)))
EndsInFirst files (v ∷ w ∷ vs) at = at ≡ v.1

-- the file is that volume
abbrev pub IsFirst : List (ℕ × ℕ) → FileId → Type 0
IsFirst [] file = ⊥
IsFirst (v ∷ vs) file = file ≡ Volume v.0

-- the first record that is no item's is one of its
pub record StopsInFirst (files : Files) (vs : List (ℕ × ℕ)) (file : FileId) (offset : ℕ) : Type 0 where
  pub items : List Item
  pub stops : StopsAt files vs 132 items file offset
  pub first : IsFirst vs file
