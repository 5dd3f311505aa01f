-- What a seat keeps of a region: the words of the image that it read last, each of which stood in the region while it had
-- their generation.
use Rattle.std.specs.Prelude.{◌≡◌, ◌≢◌, ℕ, ◌<◌, ◌≤◌, List, [], ◌∷◌, length, slice_get, slice_index, get_or, All, Option, Some, None, IfSome, option_map}
use Rattle.mmv_layout.specs.Form.{form_of}
use Rattle.mmv_layout.specs.Rows.{layout_of}
use Rattle.region_core.specs.declared.act.Act.TheVariants.{Load}
use Rattle.region_core.specs.declared.mode.Mode.TheVariants.{Idle}
use Rattle.region_core.specs.State.{word, g2}
use Rattle.region_core.specs.Journal.{state_at}
use Rattle.region_rule.specs.declared.view.View.{View}
use Rattle.region_rule.specs.declared.fault.ReadFault.{ReadFault}
use Rattle.region_rule.specs.declared.fault.ReadFault.TheVariants.{Again as Crossed, NoMemory}
use Rattle.region_rule.specs.declared.fault.ValueFault.{ValueFault}
use Rattle.region_rule.specs.declared.fault.ValueFault.TheVariants.{Newer, Again}
use Rattle.region_rule.specs.Steps.{Extends}
use Rattle.region_rule.specs.Views.{opening_of}
use Rattle.region_rule.specs.Seats.{Token, IsSame}
use Rattle.region_rule.specs.Reads.{ReadsAgain}
use Rattle.region_words.specs.Images.{mmv}
use Rattle.fetch_engine.specs.Servers.{Seated}
use Rattle.fetch_engine.specs.Tries.{ShowsBy, RefusesBy}
use Rattle.fetch_engine.specs.Visits.{IsReadAtKeeping, ShowsAtOnce, IsRefused}
use Rattle.pmns_core.specs.Pairs.{Pair}
use Rattle.fetch_answers.specs.Names.{missed_of, names_of, pairs_of}
use Rattle.fetch_answers.specs.Readings.{reading_of}
use Rattle.fetch_answers.specs.declared.names.Named.{Named}
use Rattle.fetch_answers.specs.declared.shot.Shot.{Shot}
use Rattle.fetch_engine.specs.declared.server.Mounted.{Mounted}

-- from a position on, at which the region's second generation is that of the words, each of them was the region's
pub record IsKept (v : View) (words : List ℕ) : Type 0 where
  pub whole : length words ≡ length v.start
  pub at : ℕ
  pub before : at < length v.seen
  pub generation : slice_index words 1 ≡ g2 (state_at (opening_of v) v.seen at)
  pub each : (w : ℕ) → w < length words → (r : ℕ) × (at ≤ r) × (r < length v.seen) × (slice_index words w ≡ word (state_at (opening_of v) v.seen r) w)

-- and so a pass knows it of its region
pub record IsKeptBy (token : Token) (words : List ℕ) : Type 0 where
  pub start : token.view.start ≡ token.region.words
  pub kept : IsKept token.view words

-- what is kept of each region is kept by the pass at its place
pub record AreKept (tokens : List Token) (kept : List (Option (List ℕ))) : Type 0 where
  pub many : length kept ≡ length tokens
  pub each : (i : ℕ) (d : Token) (e : Option (List ℕ)) → i < length tokens → IfSome (get_or kept i e) (IsKeptBy (get_or tokens i d))

-- what is kept of a region: what it showed when it was read last, or what was kept when it was missed
abbrev pub kept_of : Option (List ℕ) → Option (List ℕ) → Option (List ℕ)
kept_of None spare = spare
kept_of (Some words) spare = Some words

-- and of each region
abbrev pub kept_in : List Shot → List (Option (List ℕ)) → List (Option (List ℕ))
kept_in [] spares = []
kept_in (shot ∷ shots) [] = []
kept_in (shot ∷ shots) (spare ∷ spares) = kept_of shot.image spare ∷ kept_in shots spares

-- a seat with these passes, and with what is kept so
abbrev pub seated_by : List Token → List Shot → List (Option (List ℕ)) → Option Named → Seated
seated_by tokens shots spares named = record { tokens = tokens; kept = kept_in shots spares; named = named }

-- the region at a position alone was read, and what it showed is known there
abbrev pub ReadAtKeeping : List Mounted → Seated → ℕ → List Shot → Seated → Type 0
ReadAtKeeping rows old at known new = (shot : Shot) × (slice_get known at ≡ Some shot) × IsReadAtKeeping rows old at (reading_of shot ∷ []) new

-- words that have one form, and so say the same of their metrics
pub record IsOneForm (old new : List ℕ) : Type 0 where
  pub form : form_of new ≡ form_of old
  pub flags : (layout_of new).flags ≡ (layout_of old).flags
  pub metrics : (layout_of new).metrics ≡ (layout_of old).metrics

-- the value words were read again, and the words with these values have the form of those that were kept
pub record ReadsAgainBy (kept : List ℕ) (v : View) (words : List ℕ) (w : View) : Type 0 where
  pub shows : ShowsAtOnce v (layout_of words) w
  pub keeping : ShowsBy (Some kept) v words w
  pub form : IsOneForm kept words

-- why the value words weren't read again: another generation was found, and nothing else was loaded, or the try was refused
abbrev pub ValuesFail : List ℕ → View → View → ValueFault → Type 0
ValuesFail kept v w (Newer found) = (found ≢ slice_index kept 1) × Extends mmv v (Load 2) found w
ValuesFail kept v w (Again first last) = IsRefused v w × RefusesBy (Some kept) v w

-- a reading of all words that found two numbers; nothing is said where there was no memory
abbrev pub WholeFails : View → View → ReadFault → Type 0
WholeFails v w (Crossed first last) = ReadsAgain mmv v first last w
WholeFails v w NoMemory = Unit {0}

-- a try that showed what these words say
abbrev pub ShowsTold : Option (List ℕ) → View → Option (List ℕ) → View → Type 0
ShowsTold kept v None w = ⊥
ShowsTold kept v (Some words) w = ShowsAtOnce v (layout_of words) w × ShowsBy kept v words w

-- a try that was refused, and what is kept stays; nothing is said where there was no memory
abbrev pub TryFails : Option (List ℕ) → View → Option (List ℕ) → View → ReadFault → Type 0
TryFails kept v still w (Crossed first last) = IsRefused v w × RefusesBy kept v w × (still ≡ kept)
TryFails kept v still w NoMemory = Unit {0}

-- what stays after a try that failed
abbrev pub TryStays : Token → Token → ReadFault → Type 0
TryStays old new (Crossed first last) = IsSame Idle Idle old new
TryStays old new NoMemory = Unit {0}

-- words of one form are kept before and after
abbrev pub HaveOneForm : Option (List ℕ) → Option (List ℕ) → Type 0
HaveOneForm (Some old) (Some new) = IsOneForm old new
HaveOneForm _ _ = ⊥

-- what a region adds to the name space: its cluster, and its names, or nothing where it was missed
abbrev pub adding_of : Shot → ℕ × Option (List Pair)
adding_of shot = (shot.cluster, option_map (pairs_of shot.cluster shot.file) (option_map layout_of shot.image))

-- a name space is that of what is known of the regions
pub record AreNamesOf (known : List Shot) (named : Named) : Type 0 where
  pub names : named.names ≡ names_of known
  pub missing : named.missing ≡ missed_of known

-- there is one, and it is that
abbrev pub HasNamesOf : List Shot → Option Named → Type 0
HasNamesOf known None = ⊥
HasNamesOf known (Some named) = AreNamesOf known named

-- what is known of the region at a position, alone
abbrev pub alone : Option Shot → List Shot
alone None = []
alone (Some shot) = shot ∷ []

abbrev pub known_at : List Shot → Option ℕ → List Shot
known_at known None = []
known_at known (Some at) = alone (slice_get known at)

-- so many regions of which nothing is known
pub record AreUnknown (count : ℕ) (shots : List Shot) : Type 0 where
  pub many : length shots ≡ count
  pub none : All (λ (shot : Shot). shot.image ≡ None) shots
