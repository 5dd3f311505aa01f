-- What one volume's bytes say, and what its items come to between two moments.
use Rattle.std.specs.Prelude.{◌≡◌, ℕ, Bool, true, false, List, [], ◌∷◌, length, drop}
use Rattle.pcp_base.specs.Time.{Moment}
use Rattle.pcp_base.specs.declared.result.Item.{Item}
use Rattle.pcp_model.specs.declared.records.MetaRecord.{MetaRecord}
use Rattle.pcp_model.specs.Frame.{IsTorn}
use Rattle.archive_frame.specs.declared.fault.FrameFault.{FrameFault}
use Rattle.archive_frame.specs.declared.fault.FrameFault.TheVariants.{Torn, Size, Lengths, Label, NoMemory as Refused}
use Rattle.archive_loading.specs.Standing.{ItemStands, NoItemStands}
use Rattle.archive_reader.specs.Searches.{between}
use Rattle.log_summary.specs.Tables.{Rows, table_of}
use Rattle.log_summary.specs.Values.{values_of}

-- a record that isn't whole, of the refusals of a step
abbrev pub is_torn : FrameFault → Bool
is_torn (Torn at) = true
is_torn (Size at found) = false
is_torn (Lengths at head tail) = false
is_torn (Label at) = false
is_torn Refused = false

-- what items between two moments come to
abbrev pub table_between : List MetaRecord → Moment → Moment → List Item → Rows
table_between records from to items = table_of (values_of records (between from to items))

-- from one offset up to another stand the records of these items
abbrev pub StandUpTo : List ℕ → ℕ → List Item → ℕ → Type 0
StandUpTo bytes at [] end = end ≡ at
StandUpTo bytes at (x ∷ items) end = (next : ℕ) × ItemStands bytes at next x × StandUpTo bytes next items end

-- the table is that of the items of the volume up to an offset
pub record SoFar (bytes : List ℕ) (records : List MetaRecord) (from to : Moment) (at : ℕ) (table : Rows) : Type 0 where
  pub items : List Item
  pub stand : StandUpTo bytes 132 items at
  pub is : table ≡ table_between records from to items

-- the last volume may end in a record that isn't whole
pub record EndsAt (bytes : List ℕ) (is_last : Bool) (at : ℕ) : Type 0 where
  pub torn : IsTorn (drop at bytes)
  pub whole : is_last ≡ false → at ≡ length bytes

-- no record of an item stands there, and the volume doesn't end there
pub record BreaksAt (bytes : List ℕ) (is_last : Bool) (at : ℕ) : Type 0 where
  pub none : NoItemStands bytes at
  pub torn : is_last ≡ true → IsTorn (drop at bytes) → ⊥
  pub ends : is_last ≡ false → at ≡ length bytes → ⊥

-- the table is that of all items of the volume
pub record IsCounted (bytes : List ℕ) (is_last : Bool) (records : List MetaRecord) (from to : Moment) (table : Rows) : Type 0 where
  pub items : List Item
  pub end : ℕ
  pub stand : StandUpTo bytes 132 items end
  pub ends : EndsAt bytes is_last end
  pub is : table ≡ table_between records from to items

-- at this offset the volume's items break off
pub record IsBroken (bytes : List ℕ) (is_last : Bool) (at : ℕ) : Type 0 where
  pub items : List Item
  pub stand : StandUpTo bytes 132 items at
  pub breaks : BreaksAt bytes is_last at
