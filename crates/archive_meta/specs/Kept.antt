-- What is kept beside the records, to find them: where each metric is first described, and where each domain's records
-- stand, in order.
use Rattle.std.specs.Prelude.{◌≡◌, ℕ, suc, ◌<◌, ◌≤◌, ◌⊎◌, Bool, true, false, ◌&&◌, nat_eq, if◌then◌else◌, List, [], ◌∷◌, ◌++◌, Option, Some, None, option_map, length, slice_get}
use Rattle.std.specs.BTreeSet.{BTreeSet, contains}
use Rattle.indexmap.specs.IndexMap.{IndexMap, get, keys}
use Rattle.pcp_model.specs.declared.records.MetaRecord.{MetaRecord}
use Rattle.pcp_model.specs.declared.records.MetaRecord.TheVariants.{Description, Domain, Other}
use Rattle.pcp_base.specs.Time.{microseconds}
use Rattle.pcp_model.specs.Records.{AreConsistent}
use Rattle.archive_meta.specs.declared.moments.Listing.{Listing}
use Rattle.archive_meta.specs.Order.{moment_order}
use Rattle.archive_meta.specs.Said.{describes, described_metrics}
use Rattle.archive_meta.specs.Woven.{with_other_records, AreMarked}

-- where the first record stands that describes a metric
abbrev pub position_of : ℕ → List MetaRecord → Option ℕ
position_of pmid [] = None
position_of pmid (r ∷ records) = if describes pmid r then Some 0 else option_map suc (position_of pmid records)

pub record HasDescriptions {S : Type 0} (descriptions : IndexMap ℕ ℕ S) (records : List MetaRecord) : Type 0 where
  pub order : keys descriptions ≡ described_metrics records
  pub positions : (pmid : ℕ) → get nat_eq descriptions pmid ≡ position_of pmid records

-- whether a record is of a domain, from a moment on
abbrev pub is_stamped : ℕ → ℕ → MetaRecord → Bool
is_stamped indom time (Description d names) = false
is_stamped indom time (Domain t i pairs) = nat_eq i indom && nat_eq (microseconds t) time
is_stamped indom time Other = false

abbrev pub stamped_at : ℕ → ℕ → Option MetaRecord → Bool
stamped_at indom time None = false
stamped_at indom time (Some r) = is_stamped indom time r

abbrev pub listing : ℕ → ℕ → ℕ → Listing
listing indom from at = record { indom = indom; at = at; from = from }

-- the set has each record of a domain: the domain, the moment, and where the record stands
abbrev pub HasMoments : BTreeSet Listing → List MetaRecord → Type 0
HasMoments moments records = (indom time at : ℕ) → contains moment_order moments (listing indom time at) ≡ stamped_at indom time (slice_get records at)

-- what is kept beside records of which no position is above 2^32 - 1
pub record IsKept {S : Type 0} (records : List MetaRecord) (descriptions : IndexMap ℕ ℕ S) (moments : BTreeSet Listing) : Type 0 where
  pub few : length records < 4294967296
  pub metrics : HasDescriptions descriptions records
  pub domains : HasMoments moments records

-- all records are told by those that are kept and by marks
pub record IsState {S : Type 0} (records : List MetaRecord) (marks : List Bool) (descriptions : IndexMap ℕ ℕ S) (moments : BTreeSet Listing) : Type 0 where
  pub kept : IsKept records descriptions moments
  pub marked : AreMarked marks records
  pub consistent : AreConsistent (with_other_records marks records)

-- the last of a domain's entries not after a time: no other of them is later, or as late and further behind
pub record IsLastEntry (moments : BTreeSet Listing) (indom time at : ℕ) : Type 0 where
  pub from : ℕ
  pub there : contains moment_order moments (listing indom from at) ≡ true
  pub not_after : from ≤ time
  pub last : (other position : ℕ) → contains moment_order moments (listing indom other position) ≡ true → other ≤ time → position < 4294967296
      → (other < from) ⊎ ((other ≡ from) × (position ≤ at))

abbrev pub HasNoEntry : BTreeSet Listing → ℕ → ℕ → Type 0
HasNoEntry moments indom time = (other position : ℕ) → contains moment_order moments (listing indom other position) ≡ true → other ≤ time → position < 4294967296 → ⊥

-- a metric's position is noted, unless it has one
pub record NotesMetric {S : Type 0} (pmid at : ℕ) (old new : IndexMap ℕ ℕ S) : Type 0 where
  pub there : (k : ℕ) → get nat_eq old pmid ≡ Some k → new.entries ≡ old.entries
  pub order : get nat_eq old pmid ≡ None → keys new ≡ keys old ++ pmid ∷ []
  pub positions : get nat_eq old pmid ≡ None → (q : ℕ) → get nat_eq new q ≡ if nat_eq pmid q then Some at else get nat_eq old q

-- the last metric noted is dropped, if it was noted with this position
pub record DropsMetric {S : Type 0} (pmid at : ℕ) (old new : IndexMap ℕ ℕ S) : Type 0 where
  pub other : (get nat_eq old pmid ≡ Some at → ⊥) → new.entries ≡ old.entries
  pub last : ℕ
  pub order : get nat_eq old pmid ≡ Some at → keys old ≡ keys new ++ last ∷ []
  pub positions : get nat_eq old pmid ≡ Some at → (q : ℕ) → get nat_eq new q ≡ if nat_eq last q then None else get nat_eq old q
