-- What reading regions tells: of each the layout that it showed, or that it was missed in three tries.
use Rattle.std.specs.Prelude.{◌≡◌, ◌≢◌, ◌⊎◌, ℕ, ◌+◌, ◌*◌, ◌/◌, ◌==◌, Bool, zero, suc, ◌<◌, ◌≤◌, List, [], ◌∷◌, fold, map, length, position, slice_get, slice_index, slice_set, Contains, All, Option, Some, None}
use Rattle.pcp_base.specs.Time.{Moment}
use Rattle.pcp_base.specs.declared.result.PmResult.{PmResult}
use Rattle.pmns_core.specs.Pairs.{Pair}
use Rattle.profile_filter.specs.Kept.{Settings}
use Rattle.archive_meta.specs.declared.facts.Facts.{Facts}
use Rattle.mmv_layout.specs.declared.rows.Layout.{Layout}
use Rattle.mmv_layout.specs.declared.rows.Slot.{Slot}
use Rattle.mmv_layout.specs.Form.{slots_of}
use Rattle.mmv_layout.specs.Rows.{layout_of}
use Rattle.region_core.specs.declared.act.Act.TheVariants.{Load}
use Rattle.region_core.specs.declared.mode.Mode.TheVariants.{Idle}
use Rattle.region_core.specs.Readings.{Missed}
use Rattle.region_rule.specs.declared.view.View.{View}
use Rattle.region_rule.specs.Views.{opening_of}
use Rattle.region_rule.specs.Reads.{WholeReading, ShowsIn, RefusedIn}
use Rattle.region_rule.specs.Seats.{Token, IsSame}
use Rattle.region_rule.specs.Steps.{Extends}
use Rattle.region_words.specs.Calls.{Loads}
use Rattle.region_words.specs.Images.{mmv}
use Rattle.fetch_answers.specs.Names.{with_region, with_missed}
use Rattle.fetch_answers.specs.Answers.{answer_of, facts_of}
use Rattle.fetch_answers.specs.Readings.{RegionReading}
use Rattle.fetch_answers.specs.declared.names.Named.{Named}
use Rattle.fetch_engine.specs.Servers.{Seated}
use Rattle.fetch_engine.specs.Tries.{ReadsKeeping}
use Rattle.fetch_engine.specs.declared.server.Mounted.{Mounted}

-- From the end of what v had seen on, the pass read this layout while the region had its generation and its form: the value of
-- each value word was found by a load of the pass's own
pub record ShowsLayout (v : View) (layout : Layout) (w : View) : Type 0 where
  pub words : List ℕ
  pub image : mmv.IsImage words
  pub says : layout ≡ layout_of words
  pub generation : ℕ
  pub found : List (ℕ × ℕ)
  pub shown : ShowsIn mmv v (record { generation = generation; form = mmv.form words; found = found }) w
  pub values : (slot : Slot) → Contains (slots_of words) slot → Contains found (slot.word, slice_index words slot.word)

-- one load of generation 2, or nothing
abbrev pub IsLone : View → View → Type 0
IsLone v u = (u ≡ v) ⊎ ((found : ℕ) × Extends mmv v (Load 2) found u)

-- a try that showed this layout: it loaded generation 2, some words and generation 1, with one load of generation 2 in front
-- where that found another one than the kept one, and nothing else
pub record ShowsAtOnce (v : View) (layout : Layout) (w : View) : Type 0 where
  pub begun : View
  pub lone : IsLone v begun
  pub generation : ℕ
  pub found : List (ℕ × ℕ)
  pub loads : WholeReading mmv begun generation found generation w
  pub shows : ShowsLayout v layout w

-- a try that was refused: the two numbers that it loaded differ
pub record IsRefused (v w : View) : Type 0 where
  pub begun : View
  pub lone : IsLone v begun
  pub first : ℕ
  pub last : ℕ
  pub found : List (ℕ × ℕ)
  pub loads : WholeReading mmv begun first found last w
  pub differ : first ≢ last
  pub again : RefusedIn v first last w

-- so many tries one behind another, each refused
abbrev pub AreRefused : ℕ → View → View → Type 0
AreRefused zero v w = w ≡ v
AreRefused (suc tries) v w = (u : View) × IsRefused v u × AreRefused tries u w

-- a region was read in one of three tries, or missed in all three
abbrev pub IsRead : View → Option Layout → View → Type 0
IsRead v None w = AreRefused 3 v w
IsRead v (Some layout) w = (tries : ℕ) × (tries < 3) × (u : View) × AreRefused tries v u × ShowsAtOnce u layout w

-- A region that wasn't read was missed, and what was read is shown, from the end of what the pass had seen before the first try
abbrev pub MissesAreMissed : Type 0
MissesAreMissed = (v w : View) → IsRead v None w → Missed (opening_of v) w.seen (length v.seen) v.number

abbrev pub ReadIsShown : Type 0
ReadIsShown = (v w : View) (layout : Layout) → IsRead v (Some layout) w → ShowsLayout v layout w

-- a pass did nothing but loads
pub record IsLoaded (old new : Token) : Type 0 where
  pub region : new.region ≡ old.region
  pub loads : Loads old.view new.view

-- and with them it read its region, or missed it
pub record IsReadBy (old : Token) (layout : Option Layout) (new : Token) : Type 0 where
  pub read : IsRead old.view layout new.view
  pub stays : IsSame Idle Idle old new
  pub loaded : IsLoaded old new

-- the reading of a region by a pass, with what was kept of the region before and what is kept behind it
pub record Visit : Type 0 where
  pub row : Mounted
  pub before : Token
  pub kept : Option (List ℕ)
  pub reading : RegionReading
  pub after : Token
  pub keeps : Option (List ℕ)

pub record IsVisit (visit : Visit) : Type 0 where
  pub file : visit.reading.file ≡ visit.row.file
  pub cluster : visit.reading.cluster ≡ visit.row.cluster
  pub read : IsReadBy visit.before visit.reading.layout visit.after
  pub keeping : ReadsKeeping visit.kept visit.before.view visit.reading.layout visit.keeps visit.after.view

-- each region was read once, by its own pass
pub record AreRead (rows : List Mounted) (old : List Token) (readings : List RegionReading) (new : List Token) : Type 0 where
  pub visits : List Visit
  pub each : All IsVisit visits
  pub rows_are : map (λ (visit : Visit). visit.row) visits ≡ rows
  pub old_are : map (λ (visit : Visit). visit.before) visits ≡ old
  pub readings_are : map (λ (visit : Visit). visit.reading) visits ≡ readings
  pub new_are : map (λ (visit : Visit). visit.after) visits ≡ new

-- and by what the seat kept of it; the seat keeps then what it showed, or what was kept where it was missed
pub record AreReadKeeping (rows : List Mounted) (old : Seated) (readings : List RegionReading) (new : Seated) : Type 0 where
  pub read : AreRead rows old.tokens readings new.tokens
  pub kept_are : map (λ (visit : Visit). visit.kept) read.visits ≡ old.kept
  pub keeps_are : map (λ (visit : Visit). visit.keeps) read.visits ≡ new.kept

-- there are such readings
abbrev pub ReadKeeping : List Mounted → Seated → Seated → Type 0
ReadKeeping rows old new = (readings : List RegionReading) × AreReadKeeping rows old readings new

-- a number of a metric or of a domain lies in a region's cluster
abbrev pub lies_in : ℕ → Mounted → Bool
lies_in word row = word / 1024 == 70 * 4096 + row.cluster

-- one region was read once, by its own pass, and no other one
pub record IsReadAt (rows : List Mounted) (old : List Token) (at : ℕ) (readings : List RegionReading) (new : List Token) : Type 0 where
  pub visit : Visit
  pub is : IsVisit visit
  pub row_is : slice_get rows at ≡ Some visit.row
  pub old_is : slice_get old at ≡ Some visit.before
  pub readings_are : readings ≡ visit.reading ∷ []
  pub new_are : new ≡ slice_set old at visit.after

-- that at a position, or none where there is no such region
abbrev pub IsReadIf : List Mounted → List Token → Option ℕ → List RegionReading → List Token → Type 0
IsReadIf rows old None readings new = (readings ≡ []) × (new ≡ old)
IsReadIf rows old (Some at) readings new = IsReadAt rows old at readings new

-- the region in whose cluster a number lies was read
abbrev pub IsReadFor : ℕ → List Mounted → List Token → List RegionReading → List Token → Type 0
IsReadFor word rows old readings new = IsReadIf rows old (position (lies_in word) rows) readings new

-- and by what the seat kept of it, and what it keeps of the other regions stays
pub record IsReadAtKeeping (rows : List Mounted) (old : Seated) (at : ℕ) (readings : List RegionReading) (new : Seated) : Type 0 where
  pub read : IsReadAt rows old.tokens at readings new.tokens
  pub kept_is : slice_get old.kept at ≡ Some read.visit.kept
  pub keeps_are : new.kept ≡ slice_set old.kept at read.visit.keeps

abbrev pub IsReadIfKeeping : List Mounted → Seated → Option ℕ → List RegionReading → Seated → Type 0
IsReadIfKeeping rows old None readings new = (readings ≡ []) × (new ≡ old)
IsReadIfKeeping rows old (Some at) readings new = IsReadAtKeeping rows old at readings new

abbrev pub IsReadForKeeping : ℕ → List Mounted → Seated → List RegionReading → Seated → Type 0
IsReadForKeeping word rows old readings new = IsReadIfKeeping rows old (position (lies_in word) rows) readings new

abbrev pub ReadKeepingFor : ℕ → List Mounted → Seated → Seated → Type 0
ReadKeepingFor word rows old new = (readings : List RegionReading) × IsReadForKeeping word rows old readings new

-- each pass did nothing but loads
abbrev pub AreLoaded : List Token → List Token → Type 0
AreLoaded [] [] = Unit {0}
AreLoaded (old ∷ olds) (new ∷ news) = IsLoaded old new × AreLoaded olds news
AreLoaded _ _ = ⊥

-- a fetch was answered by one reading of each region
pub record IsFetched (rows : List Mounted) (old : List Token) (profile : Settings) (pmids : List ℕ) (stamp : Moment) (result : PmResult) (facts : Facts) (new : List Token) : Type 0 where
  pub few : length pmids ≤ 1024
  pub readings : List RegionReading
  pub read : AreRead rows old readings new
  pub result_is : result ≡ answer_of readings profile pmids stamp
  pub facts_are : facts ≡ facts_of readings result.sets

-- and so it is without what describes it
pub record IsAnswered (rows : List Mounted) (old : List Token) (profile : Settings) (pmids : List ℕ) (stamp : Moment) (result : PmResult) (new : List Token) : Type 0 where
  pub few : length pmids ≤ 1024
  pub readings : List RegionReading
  pub read : AreRead rows old readings new
  pub result_is : result ≡ answer_of readings profile pmids stamp

-- the name space of what was read, and the clusters of the regions that were missed
abbrev pub names_in : List RegionReading → List Pair
names_in readings = fold with_region [] readings

abbrev pub missed_in : List RegionReading → List ℕ
missed_in readings = fold (λ clusters reading. with_missed clusters reading.cluster reading.layout) [] readings

pub record AreNamed (rows : List Mounted) (old : List Token) (names : List Pair) (missing : List ℕ) (new : List Token) : Type 0 where
  pub readings : List RegionReading
  pub read : AreRead rows old readings new
  pub names_are : names ≡ names_in readings
  pub missing_are : missing ≡ missed_in readings

-- there is a name space, and it is that of one reading of each region
abbrev pub AreNamedBy : List Mounted → List Token → Option Named → List Token → Type 0
AreNamedBy rows old None new = ⊥
AreNamedBy rows old (Some named) new = AreNamed rows old named.names named.missing new
