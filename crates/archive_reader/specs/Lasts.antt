-- The last item of a segment, and where a search may begin that looks back too.
use Rattle.std.specs.Prelude.{◌≡◌, ◌⊎◌, ℕ, ◌≤◌, List, [], ◌∷◌, Option}
use Rattle.pcp_base.specs.Time.{Moment}
use Rattle.pcp_base.specs.declared.result.Item.{Item}
use Rattle.pcp_model.specs.Disk.{Files}
use Rattle.archive_reader.specs.declared.beginning.Begin.{Begin}
use Rattle.archive_reader.specs.declared.beginning.Begin.TheVariants.{At, Outside}
use Rattle.archive_reader.specs.Asked.{HasSegment}
use Rattle.archive_reader.specs.Searches.{last_of}
use Rattle.archive_reader.specs.Walks.{volumes_from}

pub record IsLastOn (files : Files) (vs : List (ℕ × ℕ)) (at : ℕ) (t : Moment) (found : Option Item) : Type 0 where
  pub items : List Item
  pub segment : HasSegment files vs at t items
  pub is : found ≡ last_of items

-- an offset lies in the first of these volumes, if there is one
abbrev pub StartsIn : List (ℕ × ℕ) → ℕ → Type 0
StartsIn [] offset = Unit {0}
StartsIn (v ∷ vs) offset = offset ≤ v.1

-- a search begins at the start of a volume's records, or within its volume
abbrev pub BeginsWithin : List (ℕ × ℕ) → Begin → Type 0
BeginsWithin volumes (At n offset) = (offset ≡ 132) ⊎ StartsIn (volumes_from n volumes) offset
BeginsWithin volumes (Outside n offset) = Unit {0}
