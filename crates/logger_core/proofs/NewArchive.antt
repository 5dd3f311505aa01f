-- A new archive is what its logger keeps.
use Rattle.std.proofs.Common.{zero, suc, ◌≡◌, inl, inr, ℕ, pos, negsuc, List, [], ◌∷◌, length, refl, sym, ap, ◌∙◌, arith, cond, None}
use Rattle.std.specs.Prelude.{Contains}
use Rattle.std.specs.Prelude.{map}
use Rattle.std.proofs.lemmas.List.{append-nil}
use Rattle.std.proofs.Math.Dec.{eqb-suc-zero}
use Rattle.pcp_base.specs.Time.{Moment}
use Rattle.pcp_base.specs.declared.file.FileId.TheVariants.{Meta, Index, Volume}
use Rattle.pcp_base.specs.declared.result.Item.{Item}
use Rattle.pcp_model.specs.Archive.{IsArchive}
use Rattle.pcp_model.specs.Disk.{Held, Holdings, bytes_of}
use Rattle.pcp_model.specs.LabelFields.{LabelFields}
use Rattle.pcp_model.specs.Labels.{label}
use Rattle.pcp_model.specs.Payload.{IsItem}
use Rattle.pcp_model.specs.Records.{IsRecord}
use Rattle.pcp_model.specs.Written.{created_files}
use Rattle.pcp_model.proofs.Added.{no_torn_end}
use Rattle.pcp_model.proofs.Cuts.{SpelledLabel, is_label}
use Rattle.pcp_model.proofs.Lengths.{length-label}
use Rattle.archive_frame.specs.Labels.{LabelInRange}
use Rattle.std.proofs.Common.{subst, false}
use Rattle.pcp_model.specs.declared.records.MetaRecord.{MetaRecord}
use Rattle.logger_core.specs.Created.{HoldsLabels, no_items, new_archive, first_ends, IsCreated}
use Rattle.logger_core.specs.Laws.{IsWhole}
use Rattle.logger_core.specs.Meant.{IsAt, Kept}
use Rattle.logger_core.specs.Steps.{IsStampIn}
use Rattle.logger_core.proofs.NoItems.{spelled, alone, meta_fits, index_fits, first_fits}
use Rattle.logger_core.proofs.Whole.{whole_is_kept}

module _ (l : LabelFields) (held : Holdings) (r : LabelInRange l (pos 0)) (labels : HoldsLabels l held) where
  s : SpelledLabel l
  s = spelled l (pos 0) r

  later_volume : (k : ℕ) → created_files l (Volume (suc k)) ≡ []
  later_volume k = ap (λ b. cond b (label l (pos 0)) []) (eqb-suc-zero k)

  no_other : (n : ℕ) → (Contains (map (λ (v : ℕ × List Item). v.0) ((0, []) ∷ [])) n → ⊥) → created_files l (Volume n) ≡ []
  no_other zero other = absurd (other (0, omega arith, refl))
  no_other (suc n) other = later_volume n

  is_archive : IsArchive (created_files l) (no_items l)
  is_archive = record {
    meta = record { torn = []; is_torn = no_torn_end; holds = alone IsRecord l (negsuc 0) s meta_fits (label l (negsuc 0)) refl; consistent = tt };
    index = inr (record { head = label l (negsuc 1); label = is_label l (negsuc 1) s index_fits; fit = tt; rest = []; short = omega arith; is = sym (append-nil (label l (negsuc 1))) });
    volumes = inr ([], no_torn_end, alone IsItem l (pos 0) s first_fits (label l (pos 0)) refl);
    others = no_other;
    labelled = inl refl;
  }

  is_whole : IsWhole (created_files l) (no_items l) 0 held
  is_whole = record {
    is = is_archive;
    last = record { before = []; items = []; are = refl; whole = alone IsItem l (pos 0) s first_fits (label l (pos 0)) refl };
    indexed = (record { head = label l (negsuc 1); label = is_label l (negsuc 1) s index_fits; fit = tt; rest = []; short = omega arith; is = sym (append-nil (label l (negsuc 1))) }, refl);
    meta = alone IsRecord l (negsuc 0) s meta_fits (label l (negsuc 0)) refl;
    sure = labels;
  }

  none_stamped : (t : Moment) → IsStampIn (no_items l) t → ⊥
  none_stamped t (inl item) = omega (arith, item.1.1)
  none_stamped t (inr (inl domain)) = omega (arith, domain.2.1)
  none_stamped t (inr (inr entry)) = omega (arith, entry.1.1)

  pub new_at : IsAt (new_archive l) (record { meta = 132; index = 132; volume = 0; length = 132; greatest = None; entry = None; logged = 0; acknowledged = 0 }) held
  new_at = record {
    stands = record {
      keeps = whole_is_kept (created_files l) (no_items l) 0 held is_whole;
      written = λ file. ap bytes_of (labels file) ∙ append-nil (created_files l file);
      sure = ap (λ (h : Held). h.rest) (labels Meta);
      indexed = omega (arith, ap (λ (h : Held). length h.sure) (labels Index), length-label l (negsuc 1) r.fits);
      headed = omega (arith, ap (λ (h : Held). length h.sure) (labels (Volume 0)), length-label l (pos 0) r.fits);
    };
    ends = record {
      meta = sym (length-label l (negsuc 0) r.fits);
      index = sym (length-label l (negsuc 1) r.fits);
      length_is = sym (length-label l (pos 0) r.fits);
      greatest = refl;
      moment = tt;
      above = none_stamped;
      found = λ none. none_stamped;
      entry = refl;
      logged = refl;
      acknowledged_is = refl;
    };
  }

-- the logger that was made keeps it
pub created_is : (l copy : LabelFields) (limit : ℕ) (rs : List MetaRecord) (k : Kept) (held : Holdings) → copy ≡ l → LabelInRange copy (pos 0) → HoldsLabels copy held → rs ≡ [] → k ≡ record { label = copy; records = rs; ends = first_ends; limit = limit; closed = false } → IsCreated l limit k held
created_is l copy limit rs k held same range labels none is =
    subst (λ x. IsCreated x limit k held) same (subst (λ q. IsCreated copy limit q held) (sym is)
    record { labels = labels; is = record { at = new_at copy held range labels; label_is = refl; records_are = sym none }; open_ = refl; limit_is = refl })
