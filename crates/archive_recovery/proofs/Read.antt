-- Files on which recovery is on its way are read, and recovery makes the same of them.
use Rattle.std.proofs.Common.{◌≡◌, inl, inr, ⊎_elim, ℕ, ◌≤◌, negsuc, List, [], length, take, map, refl, sym, ap, ◌∙◌, subst}
use Rattle.std.specs.Prelude.{Contains}
use Rattle.std.proofs.Math.Seq.{take-nil}
use Rattle.pcp_base.specs.declared.file.FileId.TheVariants.{Meta, Index, Volume}
use Rattle.pcp_base.specs.declared.result.Item.{Item}
use Rattle.pcp_model.specs.Archive.{ArchiveContents, ArchiveReading, IsArchive}
use Rattle.pcp_model.specs.Disk.{Files}
use Rattle.pcp_model.specs.Recovered.{IsMended, labelled_volumes, IsRecovered}
use Rattle.pcp_model.specs.Records.{IsRecord}
use Rattle.pcp_model.proofs.Cuts.{SpelledLabel}
use Rattle.pcp_model.proofs.OneRecord.{one_record}
use Rattle.pcp_model.proofs.OneRecovery.{one_mended, one_recovery}
use Rattle.pcp_model.proofs.Recovered.{spelled_of}
use Rattle.archive_recovery.specs.Halfway.{LastIsCut, FirstIsBegun, IsHalfway}
use Rattle.archive_recovery.specs.Laws.{IsReadOn, SameArchive}
use Rattle.archive_recovery.proofs.Parts.{torn_left, still_torn, still_holds, still_mended, HalfIndex, half_index, can_mend}
use Rattle.archive_recovery.proofs.Volumes.{HalfVolumes, begun, last_cut, mended_to}

module _ (files image : Files) (c : ArchiveContents) (is : IsArchive files c) (h : IsHalfway files c image) where
  spelled : SpelledLabel c.label
  spelled = spelled_of is.meta.holds.head c.label (negsuc 0) is.meta.holds.label

  pub volumes_now : HalfVolumes files image c
  volumes_now = ⊎_elim (λ (cut : LastIsCut files image c). last_cut files image c is cut) (λ (first : FirstIsBegun files image c). begun files image c is spelled first) h.volumes

  pub index_now : HalfIndex (image Index) c c.records volumes_now.volumes
  index_now = half_index (files Index) (image Index) c c.records volumes_now.volumes is.index spelled h.index

  abbrev pub contents_now : ArchiveContents
  contents_now = record { label = c.label; records = c.records; entries = take index_now.k c.entries; volumes = volumes_now.volumes }

  pub is_now : IsArchive image contents_now
  is_now = record {
    meta = record {
      torn = torn_left IsRecord (files Meta) c.label (negsuc 0) c.records (image Meta) h.meta;
      is_torn = still_torn IsRecord (files Meta) c.label (negsuc 0) c.records (image Meta) h.meta;
      holds = still_holds IsRecord (files Meta) c.label (negsuc 0) c.records (image Meta) h.meta;
      consistent = is.meta.consistent;
    };
    index = index_now.is;
    volumes = volumes_now.are;
    others = volumes_now.others;
    labelled = ⊎_elim (λ (none : c.entries ≡ []). inl (ap (take index_now.k) none ∙ take-nil index_now.k)) (λ (some : (n : ℕ) × (132 ≤ length (image (Volume n)))). inr some) volumes_now.labelled;
  }

  pub read_now : IsReadOn image (ArchiveReading.archive c)
  read_now = record { new = ArchiveReading.archive contents_now; is = is_now; items = volumes_now.items; records = refl; k = index_now.k; entries = refl }

  -- ---- recovery again

  module _ (left : Files) (r : IsRecovered files c left) where
    -- what it leaves then
    expected : Files
    expected Meta = left Meta
    expected Index = (can_mend (image Index) contents_now index_now.is).0
    expected (Volume n) = left (Volume n)

    meta_again : IsMended IsRecord (image Meta) c.label (negsuc 0) c.records (left Meta)
    meta_again = subst (IsMended IsRecord (image Meta) c.label (negsuc 0) c.records)
        (one_mended IsRecord (files Meta) c.label (negsuc 0) c.records one_record h.meta.left (left Meta) h.meta.mended r.meta)
        (still_mended IsRecord (files Meta) c.label (negsuc 0) c.records (image Meta) h.meta)

    recovered_again : IsRecovered image contents_now expected
    unfolding expected
    recovered_again = record {
      meta = meta_again;
      index = (can_mend (image Index) contents_now index_now.is).1;
      volumes = mended_to image left expected c.label (labelled_volumes image volumes_now.volumes) (λ n. refl) (volumes_now.mended left r.volumes);
      others = λ n none. r.others n (λ has. none (subst (λ (vs : List (ℕ × List Item)). Contains (map (λ (v : ℕ × List Item). v.0) vs) n) (sym volumes_now.same) has));
    }

    pub same_again : (again : Files) → IsRecovered image contents_now again → SameArchive left again
    unfolding expected
    same_again again q = record {
      meta = one_recovery image again expected (ArchiveReading.archive contents_now) q recovered_again Meta;
      volumes = λ n. one_recovery image again expected (ArchiveReading.archive contents_now) q recovered_again (Volume n);
    }
