-- What stands at an offset of a file, and what ends there.
use Rattle.std.specs.Prelude.{◌≡◌, ℕ, ◌+◌, ◌<◌, ◌≤◌, List, length, take, drop, Option, Some, None}
use Rattle.pcp_base.specs.Fields.{number_at}
use Rattle.pcp_base.specs.declared.result.Item.{Item as AnItem}
use Rattle.pcp_model.specs.Frame.{IsTorn}
use Rattle.pcp_model.specs.Payload.{IsItem}
use Rattle.archive_frame.specs.Steps.{Stands, IsSize}
use Rattle.archive_loading.specs.declared.forward.Taken.{Taken}
use Rattle.archive_loading.specs.declared.forward.Taken.TheVariants.{Torn, Wrong, Frame}
use Rattle.archive_loading.specs.declared.forward.Said.{Said}
use Rattle.archive_loading.specs.declared.forward.Said.TheVariants.{Torn as SaysTorn, Wrong as SaysWrong, Whole}
use Rattle.archive_loading.specs.declared.forward.Next.{Next}
use Rattle.archive_loading.specs.declared.forward.Next.TheVariants.{End, Bad, Item}

-- an item's record stands in the bytes, from its first byte up to the one behind it
pub record ItemStands (bytes : List ℕ) (at next : ℕ) (x : AnItem) : Type 0 where
  pub payload : List ℕ
  pub stands : Stands bytes payload at next
  pub reads : IsItem payload x

abbrev pub NoItemStands : List ℕ → ℕ → Type 0
NoItemStands bytes at = (next : ℕ) (x : AnItem) → ItemStands bytes at next x → ⊥

abbrev pub NoFrameStands : List ℕ → ℕ → Type 0
NoFrameStands bytes at = (payload : List ℕ) (next : ℕ) → Stands bytes payload at next → ⊥

-- bytes whose length word says how many they are
pub record IsSized (frame : List ℕ) : Type 0 where
  pub size : IsSize (length frame)
  pub word : number_at frame 0 ≡ length frame

-- they were taken from there
pub record WasTaken (bytes : List ℕ) (at : ℕ) (frame : List ℕ) : Type 0 where
  pub sized : IsSized frame
  pub within : at + length frame ≤ length bytes
  pub is : frame ≡ take (length frame) (drop at bytes)

-- Fewer bytes than a record stand there, perhaps none; or a length word that no record has; or as many bytes as it says, and
-- these are the buffer's.
abbrev pub IsTaken : List ℕ → ℕ → List ℕ → Taken → Type 0
IsTaken bytes at frame Torn = IsTorn (drop at bytes)
IsTaken bytes at frame Wrong = NoFrameStands bytes at × (IsTorn (drop at bytes) → ⊥)
IsTaken bytes at frame Frame = WasTaken bytes at frame

-- which a file of this length has
abbrev pub FitsIn : ℕ → ℕ → List ℕ → Taken → Type 0
FitsIn end at frame Torn = Unit {0}
FitsIn end at frame Wrong = Unit {0}
FitsIn end at frame Frame = IsSized frame × (at + length frame ≤ end)

-- what a length word says where so many bytes are left
abbrev pub IsSaid : ℕ → ℕ → Said → Type 0
IsSaid word left SaysTorn = IsSize word × (left < word)
IsSaid word left SaysWrong = IsSize word → ⊥
IsSaid word left (Whole size) = (size ≡ word) × IsSize word × (word ≤ left)

-- the item that a payload is
abbrev pub IsItemOf : List ℕ → Option AnItem → Type 0
IsItemOf payload None = (x : AnItem) → IsItem payload x → ⊥
IsItemOf payload (Some x) = IsItem payload x

-- the item whose record the bytes are
abbrev pub IsItemIn : List ℕ → Option AnItem → Type 0
IsItemIn frame None = NoItemStands frame 0
IsItemIn frame (Some x) = ItemStands frame 0 (length frame) x

-- what stands there: no whole record, bytes that are no item's record, or an item's, up to the offset behind it
abbrev pub IsNextRecord : List ℕ → ℕ → Next → Type 0
IsNextRecord bytes at End = IsTorn (drop at bytes)
IsNextRecord bytes at Bad = NoItemStands bytes at × (IsTorn (drop at bytes) → ⊥)
IsNextRecord bytes at (Item x next) = ItemStands bytes at next x

-- a record of a file of this length has bytes, all within the file
abbrev pub FitsNext : ℕ → ℕ → Next → Type 0
FitsNext end at End = Unit {0}
FitsNext end at Bad = Unit {0}
FitsNext end at (Item x next) = (at < next) × (next ≤ end)

-- the first bytes of a file, at most so many, and its length
abbrev pub IsFront : List ℕ → ℕ → List ℕ × ℕ → Type 0
IsFront bytes most front = (front.0 ≡ take most bytes) × (front.1 ≡ length bytes)
