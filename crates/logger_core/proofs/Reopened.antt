-- What recovery leaves, wholly sure, is a whole archive.
use Rattle.std.proofs.Common.{◌≡◌, inl, inr, ℕ, pos, negsuc, List, [], ◌∷◌, ◌++◌, length, refl, ap, ◌∙◌, arith, length-append}
use Rattle.std.specs.List.{AllByRecursion}
use Rattle.std.proofs.lemmas.List.{nil_from_length}
use Rattle.pcp_base.specs.declared.file.FileId.{FileId}
use Rattle.pcp_base.specs.declared.file.FileId.TheVariants.{Index, Volume}
use Rattle.pcp_base.specs.declared.result.Item.{Item}
use Rattle.pcp_model.specs.Archive.{ArchiveContents, HasEntries, IsArchive}
use Rattle.pcp_model.specs.Disk.{Files, Holdings}
use Rattle.pcp_model.specs.Laws.{EndsWhole}
use Rattle.pcp_model.specs.Payload.{IsItem}
use Rattle.pcp_model.specs.Records.{entries}
use Rattle.pcp_model.specs.Recovered.{AreMended, IsMended, IsMendedIndex, IsRecovered, labelled_volumes, or_first_volume, recovered_contents}
use Rattle.pcp_model.proofs.Cuts.{SpelledLabel}
use Rattle.pcp_model.proofs.Lengths.{length-label}
use Rattle.pcp_model.proofs.Recovered.{recovered_is, recovered_stays, spelled_of}
use Rattle.logger_core.specs.Keeps.{is_sure}
use Rattle.logger_core.specs.Laws.{IsWhole}
use Rattle.logger_core.proofs.NoItems.{alone, first_fits}

-- the last of a list, of which all have something
record LastOf (P : ℕ × List Item → Type 0) (vs : List (ℕ × List Item)) : Type 0 where
  pub before : List (ℕ × List Item)
  pub last : ℕ × List Item
  pub are : vs ≡ before ++ last ∷ []
  pub has : P last

last_in : (P : ℕ × List Item → Type 0) (v : ℕ × List Item) (vs : List (ℕ × List Item)) → AllByRecursion P (v ∷ vs) → LastOf P (v ∷ vs)
last_in P v [] all = record { before = []; last = v; are = refl; has = all.0 }
last_in P v (w ∷ ws) all =
    let rest : LastOf P (w ∷ ws) = last_in P w ws all.1 in
    record { before = v ∷ rest.before; last = rest.last; are = ap (λ xs. v ∷ xs) rest.are; has = rest.has }

module _ (files left : Files) (c : ArchiveContents) (held : Holdings) (is : IsArchive files c) (r : IsRecovered files c left) (sure : (file : FileId) → held file ≡ is_sure (left file)) where
  abbrev found : ArchiveContents
  found = recovered_contents files c

  s : SpelledLabel c.label
  s = spelled_of is.meta.holds.head c.label (negsuc 0) is.meta.holds.label

  ends_of : (vs : List (ℕ × List Item)) → AreMended files c.label left vs → or_first_volume (labelled_volumes files c.volumes) ≡ or_first_volume vs → (number : ℕ) × EndsWhole left found number
  ends_of [] mended same = (0, record { before = []; items = []; are = same; whole = alone IsItem c.label (pos 0) s first_fits (left (Volume 0)) mended })
  ends_of (v ∷ vs) mended same =
      let l : LastOf (λ w. IsMended IsItem (files (Volume w.0)) c.label (pos w.0) w.1 (left (Volume w.0))) (v ∷ vs) = last_in (λ w. IsMended IsItem (files (Volume w.0)) c.label (pos w.0) w.1 (left (Volume w.0))) v vs mended in
      (l.last.0, record { before = l.before; items = l.last.1; are = same ∙ l.are; whole = l.has.whole })

  indexed : IsMendedIndex (left Index) found (left Index) → (has : HasEntries (left Index) found) × (has.rest ≡ [])
  indexed (inl short) = absurd (omega (arith, short.0, ap length short.1, length-label c.label (negsuc 1) s.fits))
  indexed (inr whole) =
      (whole.0, nil_from_length whole.0.rest (omega (arith, ap length whole.0.is, ap length whole.1, length-append whole.0.head (entries c.entries ++ whole.0.rest), length-append (entries c.entries) whole.0.rest, length-append whole.0.head (entries c.entries))))

  pub recovered_whole : (number : ℕ) × IsWhole left found number held
  recovered_whole =
      let last : (number : ℕ) × EndsWhole left found number = ends_of (labelled_volumes files c.volumes) r.volumes refl in (
        last.0,
        record {
          is = recovered_is files left c is r;
          last = last.1;
          indexed = indexed (recovered_stays files left c is r).index;
          meta = r.meta.whole;
          sure = sure;
        },
      )
