-- The laws of legal journals, each over every journal of a shape, and over all positions.
use Rattle.std.specs.Prelude.{◌≡◌, ◌≢◌, ℕ, ◌<◌, ◌≤◌, ◌⊎◌, List, [], ◌++◌, length, take, All, Some, slice_get, slice_index}
use mathlib.Core.Option.{some}
use lib.ListN.{get_elem?}
use Rattle.region_core.specs.declared.mode.Mode.{Mode}
use Rattle.region_core.specs.declared.mode.Mode.TheVariants.{Idle, Attached, Bounced, Changing}
use Rattle.region_core.specs.declared.act.Act.TheVariants.{Begin}
use Rattle.region_core.specs.declared.act.Entry.{Entry}
use Rattle.region_core.specs.Shape.{Shaping, IsLike}
use Rattle.region_core.specs.State.{State, word, g1, g2, opening, with_zeros, IsIn, IsStable}
use Rattle.region_core.specs.Journal.{state_at, own, IsJournal}
use Rattle.region_core.specs.Gate.{IsGated}
use Rattle.region_core.specs.Events.{IsEvent, events_of, after_events}
use Rattle.region_core.specs.Replay.{IsRunnable, IsFirstShut}
use Rattle.region_core.specs.Readings.{LoadsAt, IsFoundBetween, HasLayout, Reading, IsShownBetween, Shown, IsAgainBetween, IsAgain, Missed}

-- the state of a region of these words and passes after the first p entries
abbrev pub region_at : List ℕ → ℕ → List Entry → ℕ → State
region_at words passes log p = state_at (opening words passes) log p

-- no change begins between the positions p and q
abbrev pub HasNoBegin : List Entry → ℕ → ℕ → Type 0
HasNoBegin log p q = (r n : ℕ) (e : Entry) → p ≤ r → r < q → get_elem? log r ≡ some e → e.act ≢ Begin n

module _ (S : Shaping) where
  -- the second generation is never above the first, and neither falls
  abbrev pub GenerationsRise : Type 0
  GenerationsRise = (words : List ℕ) (passes : ℕ) (log : List Entry) (p q : ℕ) → IsJournal S words passes log → p ≤ q
      → (g2 (region_at words passes log p) ≤ g1 (region_at words passes log p))
      × (g1 (region_at words passes log p) ≤ g1 (region_at words passes log q))
      × (g2 (region_at words passes log p) ≤ g2 (region_at words passes log q))

  -- where the second generation at one position is the first at a later one, every state between has it twice, and one form
  abbrev pub HasOneFormBetween : Type 0
  HasOneFormBetween = (words : List ℕ) (passes : ℕ) (log : List Entry) (p r q : ℕ) → IsJournal S words passes log → p ≤ r → r ≤ q
      → g2 (region_at words passes log p) ≡ g1 (region_at words passes log q)
      → HasLayout S (region_at words passes log r) (g2 (region_at words passes log p)) (S.form (region_at words passes log p).words)

  -- two states that have one generation twice have one form
  abbrev pub HasOneFormEach : Type 0
  HasOneFormEach = (words : List ℕ) (passes : ℕ) (log : List Entry) (p q generation : ℕ) (form other : S.Form) → IsJournal S words passes log
      → HasLayout S (region_at words passes log p) generation form → HasLayout S (region_at words passes log q) generation other → form ≡ other

  -- words found between such positions, each at a moment of its own, are together an image of that form
  abbrev pub WordsAreAnImage : Type 0
  WordsAreAnImage = (words : List ℕ) (passes : ℕ) (log : List Entry) (p q : ℕ) (found : List ℕ) → IsJournal S words passes log → p ≤ q
      → g2 (region_at words passes log p) ≡ g1 (region_at words passes log q)
      → length found ≡ length words
      → ((w : ℕ) → w < length words → (r : ℕ) × (p ≤ r) × (r ≤ q) × (slice_index found w ≡ word (region_at words passes log r) w))
      → IsLike S (region_at words passes log p).words found

  -- the gate is the number of passes inside or bounced, and 2^63 more where one is changing
  abbrev pub GateCounts : Type 0
  GateCounts = (words : List ℕ) (passes : ℕ) (log : List Entry) (p : ℕ) → IsJournal S words passes log
      → IsGated (region_at words passes log p).gate (region_at words passes log p).modes

  -- while a pass is changing, each other one is idle or bounced
  abbrev pub OnePassChanges : Type 0
  OnePassChanges = (words : List ℕ) (passes : ℕ) (log : List Entry) (p j k : ℕ) (m : Mode) → IsJournal S words passes log
      → IsIn Changing (region_at words passes log p) k → j ≢ k → IsIn m (region_at words passes log p) j → (m ≡ Idle) ⊎ (m ≡ Bounced)

  -- and each event is its own
  abbrev pub ChangesAlone : Type 0
  ChangesAlone = (words : List ℕ) (passes : ℕ) (log : List Entry) (p k : ℕ) (e : Entry) → IsJournal S words passes log
      → IsIn Changing (region_at words passes log p) k → get_elem? log p ≡ some e → IsEvent e → e.by ≡ k

  -- while a pass is inside, no change begins
  abbrev pub NoChangeBegins : Type 0
  NoChangeBegins = (words : List ℕ) (passes : ℕ) (log : List Entry) (p k n : ℕ) (e : Entry) → IsJournal S words passes log
      → IsIn Attached (region_at words passes log p) k → get_elem? log p ≡ some e → e.act ≢ Begin n

  -- a reading whose two loaded numbers agree is a shown one
  abbrev pub AgreementShows : Type 0
  AgreementShows = (words : List ℕ) (passes : ℕ) (log : List Entry) (from k p q : ℕ) (found : List (ℕ × ℕ)) → IsJournal S words passes log
      → from ≤ p → p < q → LoadsAt log k p 2 → LoadsAt log k q 1
      → g2 (region_at words passes log p) ≡ g1 (region_at words passes log q)
      → All (IsFoundBetween S (opening words passes) log k p q) found
      → IsShownBetween S (opening words passes) log from k
      (record { generation = g2 (region_at words passes log p); form = S.form (region_at words passes log p).words; found = found }) p q

  -- and where it loaded every word, these are together an image of the form that it shows
  abbrev pub ShownWordsAreAnImage : Type 0
  ShownWordsAreAnImage = (words : List ℕ) (passes : ℕ) (log : List Entry) (from k p q : ℕ) (reading : Reading S) (found : List ℕ) → IsJournal S words passes log
      → IsShownBetween S (opening words passes) log from k reading p q
      → length found ≡ length words
      → ((w : ℕ) → w < length words → (i : ℕ) × (slice_get reading.found i ≡ Some (w, slice_index found w)))
      → S.IsImage found × (S.form found ≡ reading.form)

  -- an image with zeros behind it is an image of the same form
  abbrev pub PaddingKeepsTheForm : Type 0
  PaddingKeepsTheForm = (image : List ℕ) (capacity : ℕ) → S.IsImage image → length image ≤ capacity → capacity ≤ 65536 → IsLike S image (with_zeros image capacity)

  -- a legal journal can be replayed to its end
  abbrev pub LegalRuns : Type 0
  LegalRuns = (words : List ℕ) (passes : ℕ) (log : List Entry) → IsJournal S words passes log → IsRunnable (opening words passes) log

  -- and one with an entry that modes, generations or the capacity don't allow is not legal
  abbrev pub StoppedIsIllegal : Type 0
  StoppedIsIllegal = (words : List ℕ) (passes : ℕ) (log : List Entry) (position : ℕ) → IsFirstShut (opening words passes) log position → IsJournal S words passes log → ⊥

  -- a reading that began while the generations agreed, and during which no change begins, is not refused
  abbrev pub QuietReadingsAgree : Type 0
  QuietReadingsAgree = (words : List ℕ) (passes : ℕ) (log : List Entry) (from k first last p q : ℕ) → IsJournal S words passes log
      → IsStable (region_at words passes log p) → HasNoBegin log p q
      → IsAgainBetween (opening words passes) log from k first last p q → ⊥

  -- the generations agree where no pass is changing
  abbrev pub UnchangingIsStable : Type 0
  UnchangingIsStable = (words : List ℕ) (passes : ℕ) (log : List Entry) (p : ℕ) → IsJournal S words passes log
      → ((k : ℕ) → IsIn Changing (region_at words passes log p) k → ⊥) → IsStable (region_at words passes log p)

  -- and so where each pass is idle
  abbrev pub IdleIsStable : Type 0
  IdleIsStable = (words : List ℕ) (passes : ℕ) (log : List Entry) (p : ℕ) → IsJournal S words passes log
      → ((k : ℕ) → k < passes → IsIn Idle (region_at words passes log p) k) → IsStable (region_at words passes log p)

  -- a number from the count of passes on has no entry
  abbrev pub PassesAlone : Type 0
  PassesAlone = (words : List ℕ) (passes : ℕ) (log : List Entry) (k : ℕ) → IsJournal S words passes log → passes ≤ k → own k log ≡ []

  -- what is shown stays so in any longer journal, and may be said from any earlier position
  abbrev pub ShownLasts : Type 0
  ShownLasts = (start : State) (log more : List Entry) (earlier from k : ℕ) (reading : Reading S) → earlier ≤ from
      → Shown S start log from k reading → Shown S start (log ++ more) earlier k reading

-- so is what was refused
abbrev pub AgainLasts : Type 0
AgainLasts = (start : State) (log more : List Entry) (earlier from k first last : ℕ) → earlier ≤ from
    → IsAgain start log from k first last → IsAgain start (log ++ more) earlier k first last

-- and what was missed
abbrev pub MissedLasts : Type 0
MissedLasts = (start : State) (log more : List Entry) (earlier from k : ℕ) → earlier ≤ from
    → Missed start log from k → Missed start (log ++ more) earlier k

-- the words of a state are the replay of the events before it over the opening words
abbrev pub WordsAreReplayed : Type 0
WordsAreReplayed = (words : List ℕ) (passes : ℕ) (log : List Entry) (p : ℕ)
    → (region_at words passes log p).words ≡ after_events words (events_of (take p log))
