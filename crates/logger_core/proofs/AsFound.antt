-- What recovery told is what a logger keeps of the archive that it left.
use Rattle.std.proofs.Common.{zero, suc, pos, true, false, ◌==◌, ◌-◌, take, ◌≡◌, ⊎_elim, ℕ, ◌+◌, ◌*◌, ◌<◌, ◌≤◌, negsuc, List, [], ◌∷◌, ◌++◌, length, Some, refl, sym, ap, ◌∙◌, subst, arith, length-append}
use Rattle.std.specs.Prelude.{slice_get}
use Rattle.std.proofs.Math.Seq.{take-nil}
use Rattle.std.proofs.lemmas.Bool.{cases_lt}
use Rattle.std.proofs.lemmas.Option.{none-some, same_Some}
use Rattle.pcp_base.specs.declared.file.FileId.{FileId}
use Rattle.pcp_base.specs.declared.file.FileId.TheVariants.{Meta, Index, Volume}
use Rattle.pcp_model.specs.declared.records.Entry.{Entry}
use Rattle.pcp_model.specs.Archive.{ArchiveContents, ArchiveReading, HasEntries, Reads}
use Rattle.pcp_model.specs.Disk.{Files, Holdings, CrashImage, bytes_of, contents_of}
use Rattle.pcp_model.specs.Payload.{IsItem}
use Rattle.pcp_model.specs.Records.{entries}
use Rattle.pcp_model.specs.Recovered.{Recovers, recovered_contents, recovered_reading}
use Rattle.pcp_model.proofs.Cuts.{length_of_label}
use Rattle.pcp_model.proofs.CutsOfAny.{length-entries}
use Rattle.pcp_model.proofs.OneReading.{entries_long}
use Rattle.pcp_model.proofs.Sound.{labelled_long}
use Rattle.archive_recovery.specs.declared.outcome.Archive.{Archive}
use Rattle.archive_recovery.specs.Told.{IsTold, IsToldOf}
use Rattle.logger_core.specs.Laws.{IsWhole}
use Rattle.logger_core.specs.declared.ends.Ends.{Ends}
use Rattle.logger_core.specs.Meant.{Stands, AreEnds, IsAt, Kept}
use Rattle.logger_core.specs.Reopening.{IsLeft, IsReopened, SameFiles, as_found, ends_of}
use Rattle.logger_core.specs.Steps.{greatest_in, last_entry}
use Rattle.logger_core.proofs.Greatest.{greatest_above, greatest_found, greatest_in_is, greatest_timely, latest_is_greatest}
use Rattle.logger_core.proofs.Items.{above_empty}
use Rattle.logger_core.proofs.Reopened.{recovered_whole}
use Rattle.logger_core.proofs.Rests.{sure_from}
use Rattle.logger_core.proofs.Whole.{whole_is_kept}

-- ---- the last entry

some_last : (es : List Entry) (k : ℕ) → length es ≡ suc k → slice_get es k ≡ last_entry es
some_last [] k many = absurd (omega (arith, many))
some_last (e ∷ []) zero many = refl
some_last (e ∷ []) (suc k) many = absurd (omega (arith, many))
some_last (e ∷ f ∷ es) zero many = absurd (omega (arith, many))
some_last (e ∷ f ∷ es) (suc k) many = some_last (f ∷ es) k (omega (arith, many))

pub last_get : (es : List Entry) → (length es == 0) ≡ false → slice_get es (length es - 1) ≡ last_entry es
last_get [] some = let no : true ≡ false = some in cc
last_get (e ∷ es) some =
    let same : length es ≡ length (e ∷ es) - 1 = omega arith in
    subst (λ (k : ℕ). slice_get (e ∷ es) k ≡ last_entry (e ∷ es)) same (some_last (e ∷ es) (length es) refl)

-- ---- where all is sure a crash changes nothing

pub same_files : (held : Holdings) → ((file : FileId) → (held file).rest ≡ []) → (image : Files) → CrashImage held image → SameFiles held image
same_files held sure image crash = λ file. (crash file).1 ∙ ap (λ t. (held file).sure ++ t) (ap (λ r. take (crash file).0 r) (sure file) ∙ take-nil (crash file).0 ∙ sym (sure file))

-- ---- the archive that was left

module _ (held : Holdings) (a : Archive) (limit : ℕ) (kept : Kept) (few : a.items < 18446744073709551616) (named : Some kept.label ≡ a.label) (records_are : kept.records ≡ a.meta) (ends_are : kept.ends ≡ ends_of a) (limit_is : kept.limit ≡ limit)
    (open_ : kept.closed ≡ false) (sure : (file : FileId) → (held file).rest ≡ []) where
  abbrev left : Files
  left = contents_of held

  module _ (d : ArchiveContents) (number : ℕ) (w : IsWhole left d number held) (told : IsTold left d a) where
    volume_long : 132 ≤ length (left (Volume number))
    volume_long = labelled_long IsItem (left (Volume number)) d.label (pos number) w.last.items [] w.last.whole

    -- the last volume that isn't empty is the one that was told
    same_volume : number ≡ a.volume
    same_volume = ⊎_elim
        (λ (low : number < a.volume). absurd (omega (arith, told.filled, ap length (above_empty left d number w.is w.last a.volume low))))
        (λ (le : a.volume ≤ number). ⊎_elim
        (λ (low : a.volume < number). absurd (omega (arith, volume_long, ap length (told.above number low))))
        (λ (ge : number ≤ a.volume). omega (arith, le, ge)) (cases_lt a.volume number))
        (cases_lt number a.volume)

    index_sure : 132 ≤ length (held Index).sure
    index_sure = omega (arith, entries_long (left Index) d w.indexed.0, ap length (sure Index), length-append (held Index).sure (held Index).rest)

    volume_sure : 132 ≤ length (held (Volume number)).sure
    volume_sure = omega (arith, volume_long, ap length (sure (Volume number)), length-append (held (Volume number)).sure (held (Volume number)).rest)

    stands : Stands (as_found left d) a.volume held
    stands = subst (λ (n : ℕ). Stands (as_found left d) n held) same_volume record { keeps = whole_is_kept left d number held w; written = λ file. refl; sure = sure Meta; indexed = index_sure; headed = volume_sure }

    index_is : 132 + 20 * length a.index ≡ length (left Index)
    index_is =
        let has : HasEntries (left Index) d = w.indexed.0 in
        omega (arith, ap length told.entries, length_of_label has.head d.label (negsuc 1) has.label, length-entries d.entries, ap length w.indexed.1, ap length has.is, length-append has.head (entries d.entries ++ has.rest), length-append (entries d.entries) has.rest)

    ends : AreEnds (as_found left d) (ends_of a)
    ends = record {
      meta = told.meta_ends;
      index = index_is;
      length_is = told.volume_ends;
      greatest = greatest_found left d w.is a.last (latest_is_greatest d a.last told.latest);
      moment = greatest_timely left d w.is (greatest_in d) (greatest_in_is d);
      above = greatest_above d (greatest_in d) (greatest_in_is d);
      found = λ none. greatest_in_is d;
      entry = ap last_entry told.entries;
      logged = omega (arith, told.counted, few);
      acknowledged_is = omega (arith, told.counted, few);
    }

    keeps_it : IsReopened limit kept held
    keeps_it = record {
      contents = d;
      is = record {
        at = subst (λ (e : Ends). IsAt (as_found left d) e held) (sym ends_are) record { stands = stands; ends = ends };
        label_is = same_Some d.label kept.label (sym told.says ∙ sym named);
        records_are = sym told.records ∙ sym records_are;
      };
      open_ = open_;
      limit_is = limit_is;
    }

  by_reading : (files : Files) (r : ArchiveReading) → Reads files r → Recovers files r left → IsToldOf left (recovered_reading files r) a → IsReopened limit kept held
  by_reading files ArchiveReading.nothing reads recovered told = absurd (none-some kept.label (sym told.no_label ∙ sym named))
  by_reading files (ArchiveReading.archive c) reads recovered told =
      let whole = recovered_whole files left c held reads recovered (λ file. sure_from (held file) (bytes_of (held file)) (sure file) refl) in
      keeps_it (recovered_contents files c) whole.0 whole.1 told

pub reopened_is : (held : Holdings) (a : Archive) (limit : ℕ) (kept : Kept) → a.items < 18446744073709551616 → Some kept.label ≡ a.label → kept.records ≡ a.meta → kept.ends ≡ ends_of a → kept.limit ≡ limit → kept.closed ≡ false
    → IsLeft a held → IsReopened limit kept held
reopened_is held a limit kept few named records_are ends_are limit_is open_ left =
    by_reading held a limit kept few named records_are ends_are limit_is open_ left.sure left.files left.recovered.reading left.recovered.was left.recovered.recovered left.recovered.told
