-- What is known of the offsets of files: a file by its code, and an offset in bytes.
use Rattle.std.specs.Prelude.{◌≡◌, ℕ, ◌+◌, Bool, false, ◌&&◌, nat_eq, Option, Some}
use Rattle.pcp_base.specs.declared.file.FileId.{FileId}
use Rattle.pcp_base.specs.declared.file.FileId.TheVariants.{Meta, Index, Volume}
use Rattle.pcp_model.specs.declared.records.Entry.{Entry}
use Rattle.indexmap.specs.IndexMap.{IndexMap, get}
use Rattle.archive_check.specs.declared.marks.Mark.{Mark}
use Rattle.archive_check.specs.declared.marks.Mark.TheVariants.{Ahead, Passed}

-- 0 of Meta, one more than its number of a volume
abbrev pub code_of : FileId → ℕ
code_of Meta = 0
code_of Index = 0
code_of (Volume n) = n + 1

-- the marks at offsets
abbrev pub Known : Type 0
Known = ℕ → ℕ → Option Mark

abbrev pub same_place : ℕ × ℕ → ℕ × ℕ → Bool
same_place p q = nat_eq p.0 q.0 && nat_eq p.1 q.1

abbrev pub mark_at : {S : Type 0} → IndexMap (ℕ × ℕ) Mark S → Known
mark_at marks code offset = get same_place marks (code, offset)

-- what was ahead still is
abbrev pub Keeps : Known → Known → Type 0
Keeps old new = (code offset : ℕ) → old code offset ≡ Some Ahead → new code offset ≡ Some Ahead

-- an offset is ahead, and what was before
pub record Puts (code offset : ℕ) (old new : Known) : Type 0 where
  pub here : new code offset ≡ Some Ahead
  pub others : Keeps old new

-- the places of an entry are ahead, and the one where its volume's records begin
pub record IsPut (known : Known) (e : Entry) : Type 0 where
  pub meta : known 0 e.meta ≡ Some Ahead
  pub start : known (e.volume + 1) 132 ≡ Some Ahead
  pub volume : known (e.volume + 1) e.offset ≡ Some Ahead

-- An offset that has a mark is passed; the other marks stay.
pub record Passes (code at time : ℕ) (old new : Known) : Type 0 where
  pub here : (m : Mark) → old code at ≡ Some m → new code at ≡ Some (Passed time)
  pub others : (other offset : ℕ) → same_place (code, at) (other, offset) ≡ false → new other offset ≡ old other offset
