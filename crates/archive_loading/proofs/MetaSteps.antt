-- Meta, record by record.
use Rattle.std.proofs.Common.{◌≡◌, inr, ℕ, negsuc, ◌+◌, ◌-◌, ◌<◌, ◌≤◌, List, [], ◌∷◌, ◌++◌, length, take, drop, sym, ap, ◌∙◌, subst, arith, Option, None, Result, Err}
use Rattle.std.specs.Prelude.{option_to_list}
use Rattle.std.proofs.lemmas.List.{length-drop, length-take, drop-drop}
use Rattle.pcp_base.specs.Time.{Moment}
use Rattle.pcp_model.specs.declared.records.MetaRecord.{MetaRecord}
use Rattle.pcp_model.specs.Archive.{IsMeta}
use Rattle.pcp_model.specs.Frame.{IsTorn}
use Rattle.pcp_model.specs.LabelFields.{LabelFields}
use Rattle.pcp_model.specs.Labels.{IsLabel, BeginsLabel}
use Rattle.pcp_model.specs.Records.{AreConsistent}
use Rattle.archive_meta.specs.declared.fault.MetaFault.{MetaFault}
use Rattle.archive_meta.specs.declared.fault.MetaFault.TheVariants.{Record as BadRecord, NoMemory}
use Rattle.archive_meta.specs.Framed.{RecordStands}
use Rattle.archive_meta.specs.Records.{AreRecords, Adds, AreFound, IsFrontFault}
use Rattle.archive_meta.proofs.Frames.{adds_none, adds_one}
use Rattle.archive_meta.proofs.Torn.{has_front, end_torn}
use Rattle.archive_loading.specs.Standing.{WasTaken, NoFrameStands}
use Rattle.archive_loading.proofs.Frames.{whole_not_torn}
use Rattle.archive_loading.proofs.PartsRead.{label_long, part_of, meta_is}
use Rattle.archive_loading.specs.Metadata.{FrameIsAdded, FrameIsBad, NoRecordFits, MetaSoFar, AreAllRecords}
use Rattle.archive_loading.specs.Loaded.{contents_with}
use Rattle.archive_loading.specs.Stamps.{domain_stamps, IsLatest, IsLatestOn}
use Rattle.archive_loading.proofs.Framed.{domain_stamps-append, taken_behind, stands_in, stands_there, none_behind}

-- ---- one frame

pub frame_added : (frame : List ℕ) (old new : List MetaRecord) (before after : Option Moment) (found : Option Moment) → Adds old frame new → ((records : List MetaRecord) → AreRecords frame records → domain_stamps records ≡ option_to_list found)
    → IsLatestOn before (option_to_list found) after → FrameIsAdded frame old new before after
frame_added frame old new before after found adds stamp noted = record {
  adds = adds;
  records = adds.records;
  are = adds.read;
  is = adds.is;
  latest = subst (λ ms. IsLatestOn before ms after) (sym (stamp adds.records adds.read)) noted;
}

pub frame_bad : {X : Type 0} (Says : X → List MetaRecord → Type 0) (frame : List ℕ) (old new : List MetaRecord) (result : Result X MetaFault) (at : ℕ) → result ≡ Err (BadRecord at) → new ≡ old
    → ((records : List MetaRecord) → AreRecords frame records → AreConsistent (old ++ records) → AreFound Says records result) → FrameIsBad frame old new
frame_bad Says frame old new result at is same only = record {
  same = same;
  bad = λ records are good. let e : BadRecord at ≡ NoMemory = subst (λ r. AreFound Says records r) is (only records are good) in cc;
}

-- ---- one step

module _ (bytes : List ℕ) (at k : ℕ) (is_behind : at ≡ 132 + k) (long : 132 ≤ length bytes) where
  same_rest : drop at bytes ≡ drop k (drop 132 bytes)
  same_rest = ap (λ n. drop n bytes) is_behind ∙ sym (drop-drop k 132 bytes)

  pub torn_behind : IsTorn (drop at bytes) → IsTorn (drop k (drop 132 bytes))
  torn_behind t = subst IsTorn same_rest t

  pub not_torn_behind : (IsTorn (drop at bytes) → ⊥) → IsTorn (drop k (drop 132 bytes)) → ⊥
  not_torn_behind none t = none (subst IsTorn (sym same_rest) t)

  pub no_frame_fits : (old : List MetaRecord) → NoFrameStands bytes at → NoRecordFits (drop 132 bytes) k old
  no_frame_fits old none next r s good = none_behind bytes k next r long (subst (NoFrameStands bytes) is_behind none) s

  module _ (frame : List ℕ) (taken : WasTaken bytes at frame) where
    behind : WasTaken (drop 132 bytes) k frame
    behind = taken_behind bytes frame k (subst (λ n. WasTaken bytes n frame) is_behind taken)

    pub frame_not_torn : IsTorn (drop k (drop 132 bytes)) → ⊥
    frame_not_torn = whole_not_torn (drop 132 bytes) frame k behind

    pub bad_fits : (old new : List MetaRecord) → FrameIsBad frame old new → NoRecordFits (drop 132 bytes) k old
    bad_fits old new b next r s good = b.bad (r ∷ []) (stands_in (drop 132 bytes) frame k next r behind s) good

    pub frame_stands : (old new : List MetaRecord) (before after : Option Moment) (next : ℕ) → next ≡ at + length frame → FrameIsAdded frame old new before after
        → (r : MetaRecord) × RecordStands (drop 132 bytes) k (next - 132) r × (new ≡ old ++ r ∷ []) × AreConsistent new × IsLatestOn before (domain_stamps (r ∷ [])) after
    frame_stands old new before after next is a =
        let one = stands_there (drop 132 bytes) frame k a.records behind a.are in
        let there : k + length frame ≡ next - 132 = omega (arith, is, is_behind) in (
          one.0,
          subst (λ n. RecordStands (drop 132 bytes) k n one.0) there one.2,
          a.is ∙ ap (λ (l : List MetaRecord). old ++ l) one.1,
          a.adds.consistent,
          subst (λ (l : List MetaRecord). IsLatestOn before (domain_stamps l) after) one.1 a.latest,
        )

-- ---- record after record

pub no_record_yet : (bytes : List ℕ) (records : List MetaRecord) (last : Option Moment) → records ≡ [] → last ≡ None → MetaSoFar bytes 132 records last
no_record_yet bytes records last none no_stamp = record {
  added = subst (Adds [] (take 0 (drop 132 bytes))) (sym none) (adds_none [] (drop 132 bytes) tt);
  latest = subst (λ (o : Option _). IsLatest (domain_stamps records) o) (sym no_stamp) (ap domain_stamps none);
}

pub one_record_more : (bytes : List ℕ) (at next : ℕ) (old new : List MetaRecord) (before after : Option Moment) → 132 ≤ at → MetaSoFar bytes at old before
    → (r : MetaRecord) × RecordStands (drop 132 bytes) (at - 132) (next - 132) r × (new ≡ old ++ r ∷ []) × AreConsistent new × IsLatestOn before (domain_stamps (r ∷ [])) after → MetaSoFar bytes next new after
one_record_more bytes at next old new before after low so_far (r, stands, is, good, noted) = record {
  added = adds_one [] old new (drop 132 bytes) (at - 132) (next - 132) r so_far.added stands is (subst AreConsistent is good);
  latest = subst (λ ms. IsLatest ms after) (sym (ap domain_stamps is ∙ domain_stamps-append old (r ∷ []))) (noted (domain_stamps old) so_far.latest);
}

pub same_so_far : (bytes : List ℕ) (at : ℕ) (old new : List MetaRecord) (before after : Option Moment) → new ≡ old → after ≡ before → MetaSoFar bytes at old before → MetaSoFar bytes at new after
same_so_far bytes at old new before after same as_before s = subst (λ (rs : List MetaRecord). MetaSoFar bytes at rs after) (sym same) (subst (MetaSoFar bytes at old) (sym as_before) s)

pub all_records : (bytes : List ℕ) (at end : ℕ) (records : List MetaRecord) (last : Option Moment) → end ≡ length bytes → 132 ≤ at → at ≤ end → MetaSoFar bytes at records last → IsTorn (drop (at - 132) (drop 132 bytes)) → AreAllRecords bytes records at last
all_records bytes at end records last size low within so_far torn = record {
  low = low;
  front = has_front (drop 132 bytes) records (at - 132) (omega (arith, size, within, length-drop 132 bytes)) so_far.added torn;
  latest = so_far.latest;
}

pub at_their_end : (bytes : List ℕ) (at end : ℕ) → end ≡ length bytes → end ≤ at → IsTorn (drop (at - 132) (drop 132 bytes))
at_their_end bytes at end size past = end_torn (drop 132 bytes) (at - 132) (omega (arith, size, past, length-drop 132 bytes))

pub record_stops : (bytes : List ℕ) (at end : ℕ) (records : List MetaRecord) (last : Option Moment) → end ≡ length bytes → 132 ≤ at → at < end → MetaSoFar bytes at records last
    → NoRecordFits (drop 132 bytes) (at - 132) records → (IsTorn (drop (at - 132) (drop 132 bytes)) → ⊥) → (k : ℕ) × (at ≡ 132 + k) × IsFrontFault [] (drop 132 bytes) (BadRecord k)
record_stops bytes at end records last size low within so_far none not_torn = (
  at - 132,
  omega (arith, low),
  (
    record {
      within = omega (arith, within, size, low, length-drop 132 bytes);
      records = so_far.added.records;
      good = so_far.added.read;
      consistent = subst AreConsistent so_far.added.is so_far.added.consistent;
      bad = λ next r s good. none next r s (subst (λ (l : List MetaRecord). AreConsistent (l ++ r ∷ [])) (sym so_far.added.is) good);
    },
    not_torn,
  ),
)

-- ---- the label

pub is_long : (bytes head : List ℕ) (l : LabelFields) → head ≡ take 132 bytes → IsLabel head l (negsuc 0) → 132 ≤ length bytes
is_long bytes head l is label =
    let size : length (take 132 bytes) ≡ 132 = ap length (sym is) ∙ label_long head l (negsuc 0) label in
    omega (arith, size, length-take 132 bytes)

pub begun : (bytes head : List ℕ) → head ≡ take 132 bytes → (l : LabelFields) × BeginsLabel head l (negsuc 0) → (l : LabelFields) × BeginsLabel bytes l (negsuc 0)
begun bytes head is (l, b) = (l, part_of bytes l (negsuc 0) (subst (λ t. BeginsLabel t l (negsuc 0)) is b))

-- ---- the whole

-- what was read is what Meta is
pub meta_reads : (bytes : List ℕ) (l : LabelFields) (records : List MetaRecord) (end : ℕ) (last : Option Moment) → IsLabel (take 132 bytes) l (negsuc 0) → AreAllRecords bytes records end last → IsMeta bytes (contents_with l records [] [])
meta_reads bytes l records end last label all = meta_is bytes l records (end - 132) label all.front.read all.front.consistent (record { within = all.front.within; end = inr all.front.torn })
