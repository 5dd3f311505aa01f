-- What is known of an index's entries after a pass over all files.
use Rattle.std.specs.Prelude.{◌≡◌, ℕ, ◌+◌, ◌≤◌, Bool, true, false, ◌||◌, nat_lt, List, [], ◌∷◌, ◌++◌, length, take, drop, map, Contains, Option, Some, None}
use Rattle.std.specs.List.{AllByRecursion}
use Rattle.pcp_base.specs.Time.{Moment, microseconds}
use Rattle.pcp_base.specs.declared.file.FileId.TheVariants.{Meta, Volume}
use Rattle.pcp_base.specs.declared.result.Item.{Item}
use Rattle.pcp_model.specs.declared.records.Entry.{Entry}
use Rattle.pcp_model.specs.declared.records.MetaRecord.{MetaRecord}
use Rattle.pcp_model.specs.Archive.{ArchiveContents}
use Rattle.pcp_model.specs.Disk.{Files}
use Rattle.pcp_model.specs.Payload.{stamp_of}
use Rattle.pcp_model.specs.Sound.{IsBoundary}
use Rattle.archive_loading.specs.Loaded.{Rises, numbers}
use Rattle.archive_loading.specs.Stamps.{domain_stamps}
use Rattle.archive_reader.specs.Searches.{items_before}
use Rattle.archive_check.specs.declared.pointing.Look.{Look}
use Rattle.archive_check.specs.declared.pointing.Look.TheVariants.{Above, Skipped, Misses, Points}
use Rattle.archive_check.specs.declared.marks.Mark.{Mark}
use Rattle.archive_check.specs.declared.marks.Mark.TheVariants.{Ahead, Passed}
use Rattle.archive_check.specs.Breaches.{AtBoundary, IsFilled, StandsAbove}
use Rattle.archive_check.specs.Marks.{Known}
use Rattle.archive_check.specs.Stamped.{Holds}
use Rattle.archive_check.specs.Tallies.{latest}
use Rattle.archive_check.specs.Walked.{HoldItems}

-- ---- one entry

-- the latest time before an offset that is a boundary
abbrev pub time_in : Option Mark → Option ℕ
time_in None = None
time_in (Some Ahead) = None
time_in (Some (Passed time)) = Some time

abbrev pub top_of : List (ℕ × ℕ) → Option ℕ
top_of [] = None
top_of (v ∷ []) = Some v.0
top_of (v ∷ w ∷ vs) = top_of (w ∷ vs)

abbrev pub is_above : Option ℕ → ℕ → Bool
is_above None n = true
is_above (Some top) n = nat_lt top n

abbrev pub look_at : Bool → Option ℕ → Option ℕ → Option ℕ → Entry → Look
look_at true start meta volume e = Above
look_at false None meta volume e = Skipped
look_at false (Some n) None volume e = Misses Meta e.meta
look_at false (Some n) (Some domain) None e = Misses (Volume e.volume) e.offset
look_at false (Some n) (Some domain) (Some item) e = Points domain item

abbrev pub look_of : Known → Option ℕ → Entry → Look
look_of known top e = look_at (is_above top e.volume) (time_in (known (e.volume + 1) 132)) (time_in (known 0 e.meta)) (time_in (known (e.volume + 1) e.offset)) e

abbrev pub misses : Look → Bool
misses Above = true
misses (Misses file offset) = true
misses Skipped = false
misses (Points domain item) = false

abbrev pub is_late : Look → Moment → Bool
is_late (Points domain item) t = nat_lt (microseconds t) domain || nat_lt (microseconds t) item
is_late Above t = false
is_late (Misses file offset) t = false
is_late Skipped t = false

abbrev pub is_bad : Bool → Look → Moment → Bool
is_bad true look t = is_late look t
is_bad false look t = misses look

-- the first entry that passes a test, and its position
pub record IsFirst (test : Entry → Bool) (es : List Entry) (found : ℕ × Entry) : Type 0 where
  pub front : List Entry
  pub behind : List Entry
  pub are : es ≡ front ++ found.1 ∷ behind
  pub at_is : found.0 ≡ length front
  pub before : AllByRecursion (λ e. test e ≡ false) front
  pub here : test found.1 ≡ true

-- ---- what a pass over the files finds out of an entry

abbrev pub MetaSays : Files → List MetaRecord → ℕ → Option ℕ → Type 0
MetaSays files records offset None = AtBoundary (files Meta) offset → ⊥
MetaSays files records offset (Some time) = (k : ℕ) × IsBoundary (files Meta) offset k × (time ≡ latest (domain_stamps (take k records)))

abbrev pub VolumeSays : Files → List (ℕ × List Item) → ℕ → ℕ → Option ℕ → Type 0
VolumeSays files volumes n offset None = AtBoundary (files (Volume n)) offset → ⊥
VolumeSays files volumes n offset (Some time) = (k : ℕ) × IsBoundary (files (Volume n)) offset k × (time ≡ latest (map stamp_of (items_before n k volumes)))

pub record EntryKnown (files : Files) (c : ArchiveContents) (top : Option ℕ) (known : Known) (e : Entry) : Type 0 where
  pub above : is_above top e.volume ≡ true → StandsAbove files e
  pub not_above : is_above top e.volume ≡ false → (n : ℕ) × IsFilled files n × (e.volume ≤ n)
  pub empty : time_in (known (e.volume + 1) 132) ≡ None → IsFilled files e.volume → ⊥
  pub filled : (n : ℕ) → time_in (known (e.volume + 1) 132) ≡ Some n → IsFilled files e.volume
  pub meta : MetaSays files c.records e.meta (time_in (known 0 e.meta))
  pub volume : IsFilled files e.volume → VolumeSays files c.volumes e.volume e.offset (time_in (known (e.volume + 1) e.offset))

-- the records of Meta by their stamps
abbrev pub domains_of : List MetaRecord → List (List Moment)
domains_of [] = []
domains_of (r ∷ records) = domain_stamps (r ∷ []) ∷ domains_of records

-- the files are readable as these contents
pub record IsRead (files : Files) (c : ArchiveContents) (vs : List (ℕ × ℕ)) (entries : List Entry) : Type 0 where
  pub entries_are : c.entries ≡ entries
  pub meta : Holds Meta (drop 132 (files Meta)) (domains_of c.records)
  pub items : HoldItems files vs c.volumes
  pub rises : Rises vs
  pub filled : AllByRecursion (λ (v : ℕ × ℕ). IsFilled files v.0) vs
  pub others : (n : ℕ) → (Contains (numbers vs) n → ⊥) → files (Volume n) ≡ []

-- and each entry is known
pub record IsSeen (files : Files) (c : ArchiveContents) (vs : List (ℕ × ℕ)) (entries : List Entry) (known : Known) : Type 0 where
  pub read : IsRead files c vs entries
  pub known_all : AllByRecursion (EntryKnown files c (top_of vs) known) entries
