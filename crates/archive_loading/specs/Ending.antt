-- What ends at an offset of a volume, behind its label.
use Rattle.std.specs.Prelude.{◌≡◌, ℕ, ◌-◌, ◌≤◌, List, length}
use Rattle.pcp_base.specs.Fields.{number_at}
use Rattle.pcp_base.specs.declared.result.Item.{Item as AnItem}
use Rattle.pcp_model.specs.Payload.{IsItem}
use Rattle.archive_frame.specs.Steps.{Stands}
use Rattle.archive_loading.specs.Standing.{ItemStands}
use Rattle.archive_loading.specs.declared.backward.Last.{Last}
use Rattle.archive_loading.specs.declared.backward.Last.TheVariants.{Nothing, Bad, Item}

-- no record that begins behind the label ends there
abbrev pub NoFrameEnds : List ℕ → ℕ → Type 0
NoFrameEnds bytes at = (payload : List ℕ) (first : ℕ) → 132 ≤ first → Stands bytes payload first at → ⊥

-- a record of an item ends there
pub record ItemEnds (bytes : List ℕ) (at : ℕ) (x : AnItem) : Type 0 where
  pub first : ℕ
  pub behind : 132 ≤ first
  pub stands : ItemStands bytes first at x

-- or one of no item, from this offset on
pub record OtherEnds (bytes : List ℕ) (first at : ℕ) : Type 0 where
  pub behind : 132 ≤ first
  pub payload : List ℕ
  pub stands : Stands bytes payload first at
  pub none : (x : AnItem) → IsItem payload x → ⊥

abbrev pub IsLastRecord : List ℕ → ℕ → Last → Type 0
IsLastRecord bytes at Nothing = NoFrameEnds bytes at
IsLastRecord bytes at (Bad first) = OtherEnds bytes first at
IsLastRecord bytes at (Item x) = ItemEnds bytes at x

-- bytes whose last word says how many they are
abbrev pub IsTailed : List ℕ → Type 0
IsTailed frame = number_at frame (length frame - 4) ≡ length frame

-- what record these bytes are, which stand in a volume from an offset on
abbrev pub IsWholeRecord : List ℕ → ℕ → Last → Type 0
IsWholeRecord frame first Nothing = (payload : List ℕ) → Stands frame payload 0 (length frame) → ⊥
IsWholeRecord frame first (Bad offset) = (offset ≡ first) × (payload : List ℕ) × Stands frame payload 0 (length frame) × ((x : AnItem) → IsItem payload x → ⊥)
IsWholeRecord frame first (Item x) = ItemStands frame 0 (length frame) x
