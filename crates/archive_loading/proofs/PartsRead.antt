-- Meta, the index and the labels of volumes, as they were read.
use Rattle.std.proofs.Common.{◌≡◌, ◌≢◌, inl, inr, ⊎_elim, ℕ, ℤ, negsuc, ◌-◌, ◌<◌, List, [], ◌++◌, length, take, drop, refl, sym, ap, ◌∙◌, subst, arith, Some, None, Ok}
use Rattle.std.proofs.lemmas.Bool.{cases_lt}
use Rattle.std.proofs.lemmas.List.{take_all, take-append-drop, length-append, length-take, length-drop}
use Rattle.pcp_model.specs.declared.records.MetaRecord.{MetaRecord}
use Rattle.pcp_model.specs.declared.records.Entry.{Entry}
use Rattle.pcp_model.specs.Archive.{IsMeta, IsIndex}
use Rattle.pcp_model.specs.LabelFields.{LabelFields}
use Rattle.pcp_model.specs.Labels.{label_head, IsLabel, BeginsLabel}
use Rattle.pcp_model.proofs.Lengths.{length-frame, length-label_head}
use Rattle.pcp_model.specs.Records.{AreConsistent}
use Rattle.archive_frame.specs.Heads.{IsHeadFault, IsMetaHeadFault}
use Rattle.archive_frame.specs.declared.fault.FrameFault.{FrameFault}
use Rattle.archive_frame.specs.declared.fault.FrameFault.TheVariants.{Torn, Size, Lengths, Label as Misfit, NoMemory as Lacking}
use Rattle.archive_meta.specs.Records.{AreRecords, IsWholeEnd}
use Rattle.temporal_index.specs.Entries.{AreEntries, Gives}
use Rattle.archive_loading.specs.Loaded.{contents_with}
use Rattle.archive_loading.specs.LoadFaults.{LabelStops, MetaLabelStops, label_offset, whole_entries}

pub label_long : (t : List ℕ) (l : LabelFields) (n : ℤ) → IsLabel t l n → length t ≡ 132
label_long t l n h =
    let host : length h.host ≡ 64 = h.has_host.wide in
    let zone : length h.zone ≡ 40 = h.has_zone.wide in
    let payload : List ℕ = label_head l n ++ (h.host ++ h.zone) in
    omega (arith, ap length h.is, length-frame payload, length-append (label_head l n) (h.host ++ h.zone), length-append h.host h.zone, length-label_head l n, host, zone)

-- ---- labels

pub stops_at : (bytes : List ℕ) (l : LabelFields) (n : ℤ) (fault : FrameFault) (at : ℕ) → label_offset fault ≡ Some at → IsHeadFault l n bytes fault → LabelStops bytes l n at
stops_at bytes l n (Misfit a) at is f = subst (λ p. IsHeadFault l n bytes (Misfit p)) (let e : a ≡ at = cc in e) f
stops_at bytes l n (Torn a) at is f = absurd f
stops_at bytes l n (Size a found) at is f = absurd f
stops_at bytes l n (Lengths a head tail) at is f = absurd f
stops_at bytes l n Lacking at is f = absurd f

pub stops_somewhere : (bytes : List ℕ) (l : LabelFields) (n : ℤ) (fault : FrameFault) → label_offset fault ≡ None → IsHeadFault l n bytes fault → ⊥
stops_somewhere bytes l n (Misfit a) is f = let both : Some a ≡ None = is in cc
stops_somewhere bytes l n (Torn a) is f = f
stops_somewhere bytes l n (Size a found) is f = f
stops_somewhere bytes l n (Lengths a head tail) is f = f
stops_somewhere bytes l n Lacking is f = f

pub meta_stops_at : (bytes : List ℕ) (fault : FrameFault) (at : ℕ) → label_offset fault ≡ Some at → IsMetaHeadFault bytes fault → MetaLabelStops bytes at
meta_stops_at bytes (Misfit a) at is f = subst (λ p. IsMetaHeadFault bytes (Misfit p)) (let e : a ≡ at = cc in e) f
meta_stops_at bytes (Torn a) at is f = absurd f
meta_stops_at bytes (Size a found) at is f = absurd f
meta_stops_at bytes (Lengths a head tail) at is f = absurd f
meta_stops_at bytes Lacking at is f = let both : None ≡ Some at = is in cc

-- a file's first bytes, where the file ends within them
pub part_of : (bytes : List ℕ) (l : LabelFields) (n : ℤ) → BeginsLabel (take 132 bytes) l n → BeginsLabel bytes l n
part_of bytes l n b =
    let few : length bytes < 132 = ⊎_elim (λ h. h) (λ h. absurd (omega (arith, b.short, length-take 132 bytes, h))) (cases_lt (length bytes) 132) in
    subst (λ t. BeginsLabel t l n) (take_all 132 bytes (omega (arith, few))) b

-- ---- Meta

pub meta_is : (bytes : List ℕ) (l : LabelFields) (records : List MetaRecord) (end : ℕ) → IsLabel (take 132 bytes) l (negsuc 0) → AreRecords (take end (drop 132 bytes)) records → AreConsistent records → IsWholeEnd (drop 132 bytes) end
    → IsMeta bytes (contents_with l records [] [])
meta_is bytes l records end label are good whole = record {
  torn = drop end (drop 132 bytes);
  is_torn = ⊎_elim (λ e. inl (omega (arith, length-drop end (drop 132 bytes), e))) (λ t. t) whole.end;
  holds = record {
    head = take 132 bytes;
    label = label;
    payloads = are.payloads;
    read = are.read;
    is = sym (take-append-drop 132 bytes) ∙ ap (λ t. take 132 bytes ++ t) (sym (take-append-drop end (drop 132 bytes)) ∙ ap (λ t. t ++ drop end (drop 132 bytes)) are.is);
  };
  consistent = good;
}

-- ---- the index

pub index_is : (bytes : List ℕ) (l : LabelFields) (es : List Entry) → IsLabel (take 132 bytes) l (negsuc 1) → AreEntries (take (whole_entries (length bytes - 132)) (drop 132 bytes)) es → IsIndex bytes (contents_with l [] es [])
index_is bytes l es label are =
    let size : ℕ = length bytes - 132 in
    let whole : ℕ = whole_entries size in
    let rest : List ℕ = drop whole (drop 132 bytes) in
    inr (record {
      head = take 132 bytes;
      label = label;
      fit = are.fit;
      rest = rest;
      short = omega (arith, length-drop whole (drop 132 bytes), length-drop 132 bytes);
      is = sym (take-append-drop 132 bytes) ∙ ap (λ t. take 132 bytes ++ t) (sym (take-append-drop whole (drop 132 bytes)) ∙ ap (λ t. t ++ rest) are.is);
    })

pub index_begun : (bytes : List ℕ) (l : LabelFields) (es : List Entry) → es ≡ [] → BeginsLabel bytes l (negsuc 1) → IsIndex bytes (contents_with l [] es [])
index_begun bytes l es none b = inl (none, b)

pub index_at : (bytes : List ℕ) (l : LabelFields) (es : List Entry) (n : ℕ) → IsLabel (take 132 bytes) l (negsuc 1) → AreEntries (take n (drop 132 bytes)) es → n ≡ whole_entries (length bytes - 132) → IsIndex bytes (contents_with l [] es [])
index_at bytes l es n label are is = index_is bytes l es label (subst (λ k. AreEntries (take k (drop 132 bytes)) es) is are)

-- no bytes are no entry
pub no_entry : (es : List Entry) → ((all : List Entry) → AreEntries [] all → Gives (Ok es) (Ok all)) → es ≡ []
no_entry es only = let same : Ok [] ≡ Ok es = only [] (record { fit = tt; is = refl }) in cc

pub above_none : (n : ℕ) → n ≢ 0 → 0 < n
above_none n some = ⊎_elim (λ lt. lt) (λ le. absurd (some (omega arith))) (cases_lt 0 n)

-- as many bytes as there are
pub few_first : (bytes : List ℕ) → length bytes < 132 → bytes ≡ take 132 bytes
few_first bytes few = sym (take_all 132 bytes (omega (arith, few)))
