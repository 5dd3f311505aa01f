-- One file on which recovery is on its way: Meta or a volume that is cut behind its whole records, and the index.
use Rattle.std.proofs.Common.{◌≡◌, inl, inr, ⊎_elim, ℕ, ℤ, ◌<◌, ◌≤◌, negsuc, List, [], ◌++◌, length, take, refl, sym, ap, ◌∙◌, subst, append_assoc, arith}
use Rattle.std.specs.Int.{w32}
use Rattle.std.proofs.lemmas.Bool.{cases_lt}
use Rattle.std.proofs.lemmas.Int.{fits_signed_from_abs}
use Rattle.std.proofs.lemmas.List.{append-nil, take_all}
use Rattle.pcp_base.specs.declared.result.Item.{Item}
use Rattle.pcp_model.specs.declared.records.MetaRecord.{MetaRecord}
use Rattle.pcp_model.specs.Archive.{ArchiveContents, LabelledFile, IsIndex}
use Rattle.pcp_model.specs.Frame.{IsTorn, frames}
use Rattle.pcp_model.specs.LabelFields.{LabelFields}
use Rattle.pcp_model.specs.Labels.{label}
use Rattle.pcp_model.specs.Recovered.{IsMended, IsMendedIndex}
use Rattle.pcp_model.specs.Records.{entries}
use Rattle.pcp_model.proofs.CutArchive.{IndexPart, index_part}
use Rattle.pcp_model.proofs.Cuts.{SpelledLabel, is_label, cut_label}
use Rattle.pcp_model.proofs.CutsOfAny.{front_of_torn}
use Rattle.pcp_model.proofs.Lengths.{length-label}
use Rattle.archive_recovery.specs.Halfway.{IsCutBehind, IsHalfIndex}

module _ {X : Type 0} (R : List ℕ → X → Type 0) (bytes : List ℕ) (l : LabelFields) (number : ℤ) (values : List X) (image : List ℕ) (h : IsCutBehind R bytes l number values image) where
  abbrev pub torn_left : List ℕ
  torn_left = take h.n h.mended.torn

  pub still_torn : IsTorn torn_left
  still_torn = front_of_torn h.n h.mended.torn h.mended.is_torn

  -- it has the same whole records
  pub still_holds : LabelledFile R image l number values torn_left
  still_holds = record {
    head = h.mended.whole.head;
    label = h.mended.whole.label;
    payloads = h.mended.whole.payloads;
    read = h.mended.whole.read;
    is = h.is ∙ ap (λ t. t ++ torn_left) (h.mended.whole.is ∙ ap (λ t. h.mended.whole.head ++ t) (append-nil (frames h.mended.whole.payloads))) ∙ append_assoc h.mended.whole.head (frames h.mended.whole.payloads) torn_left;
  }

  pub still_mended : IsMended R image l number values h.left
  still_mended = record { torn = torn_left; is_torn = still_torn; is = h.is; whole = h.mended.whole }

-- what is left of the index
pub record HalfIndex (image : List ℕ) (c : ArchiveContents) (records : List MetaRecord) (volumes : List (ℕ × List Item)) : Type 0 where
  pub k : ℕ
  pub is : IsIndex image (record { label = c.label; records = records; entries = take k c.entries; volumes = volumes })

pub half_index : (bytes image : List ℕ) (c : ArchiveContents) (records : List MetaRecord) (volumes : List (ℕ × List Item)) → IsIndex bytes c → SpelledLabel c.label → IsHalfIndex bytes c.label image → HalfIndex image c records volumes
half_index bytes image c records volumes is s (inl cut) =
    let p : IndexPart bytes c cut.0 records volumes = index_part bytes c cut.0 records volumes is in
    record { k = p.k; is = subst (λ t. IsIndex t (record { label = c.label; records = records; entries = take p.k c.entries; volumes = volumes })) (sym cut.1) p.is }
half_index bytes image c records volumes is s (inr written) =
    ⊎_elim (λ (lt : written.1 < 132). record {
      k = 0;
      is = subst (λ t. IsIndex t (record { label = c.label; records = records; entries = []; volumes = volumes })) (sym written.2)
          (inl (refl, cut_label c.label (negsuc 1) written.1 s (fits_signed_from_abs w32 (negsuc 1) (omega arith)) lt));
    })
    (λ (ge : 132 ≤ written.1). let long : length (label c.label (negsuc 1)) ≡ 132 = length-label c.label (negsuc 1) s.fits in
    record {
      k = 0;
      is = inr (record {
        head = label c.label (negsuc 1);
        label = is_label c.label (negsuc 1) s (fits_signed_from_abs w32 (negsuc 1) (omega arith));
        fit = tt;
        rest = [];
        short = omega arith;
        is = written.2 ∙ take_all written.1 (label c.label (negsuc 1)) (omega arith) ∙ sym (append-nil (label c.label (negsuc 1)));
      });
    }) (cases_lt written.1 132)

-- an index can be mended
pub can_mend : (bytes : List ℕ) (c : ArchiveContents) → IsIndex bytes c → (left : List ℕ) × IsMendedIndex bytes c left
can_mend bytes c (inl begins) = (label c.label (negsuc 1), inl (begins.1.short, refl))
can_mend bytes c (inr has) = (has.head ++ entries c.entries, inr (has, refl))
