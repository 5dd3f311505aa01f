-- The three laws of files on which recovery is on its way: they are read, recovered the same, and sound then.
use Rattle.std.proofs.Common.{◌≡◌, inl, inr, ℕ, ◌<◌, negsuc, List, [], length, take, refl, sym, ap, ◌∙◌, subst, arith}
use Rattle.std.specs.List.{AllByRecursion}
use Rattle.std.proofs.lemmas.List.{take_all}
use Rattle.pcp_base.specs.declared.file.FileId.TheVariants.{Meta, Volume}
use Rattle.pcp_base.specs.declared.result.Item.{Item}
use Rattle.pcp_model.specs.declared.records.Entry.{Entry}
use Rattle.pcp_model.specs.declared.records.MetaRecord.{MetaRecord}
use Rattle.pcp_model.specs.Archive.{ArchiveContents, ArchiveReading, Reads, items_of}
use Rattle.pcp_model.specs.Disk.{Files}
use Rattle.pcp_model.specs.LabelFields.{LabelFields}
use Rattle.pcp_model.specs.Labels.{BeginsLabel}
use Rattle.pcp_model.specs.Recovered.{Recovers, recovered_reading, labelled_volumes, or_first_volume}
use Rattle.pcp_model.specs.Sound.{IsBoundary, IsSound, IsSoundEntry, NeverFalls, NoItemAfter, PointsWell}
use Rattle.pcp_model.proofs.CutsOfAny.{cut_beginning}
use Rattle.pcp_model.proofs.Lists.{each-first, each-map}
use Rattle.pcp_model.proofs.OneReading.{one_reading}
use Rattle.archive_recovery.specs.Halfway.{IsLess, HalfwayFrom}
use Rattle.archive_recovery.specs.Laws.{IsReadOn, SameArchive}
use Rattle.archive_recovery.proofs.Read.{contents_now, is_now, read_now, same_again, volumes_now, index_now}

-- ---- a stopped creation

less_reads : (files image : Files) → Reads files ArchiveReading.nothing → IsLess files image → Reads image ArchiveReading.nothing
less_reads files image is h = record {
  meta = elim is.meta [
    | inl none ↦ inl (h.meta ∙ ap (take h.n) none ∙ take_all h.n [] (omega arith))
    | inr begins ↦ inr (begins.0, subst (λ t. BeginsLabel t begins.0 (negsuc 0)) (sym h.meta) (cut_beginning (files Meta) begins.0 (negsuc 0) h.n begins.1))
  ];
  index = h.index;
  volumes = h.volumes;
}

pub reads_on : (files image : Files) (r : ArchiveReading) → Reads files r → HalfwayFrom files r image → IsReadOn image r
reads_on files image ArchiveReading.nothing is h = record { new = ArchiveReading.nothing; is = less_reads files image is h; items = refl; records = refl; k = 0; entries = refl }
reads_on files image (ArchiveReading.archive c) is h = read_now files image c is h

pub recovers_same : (files image left again : Files) (r new : ArchiveReading) → Reads files r → HalfwayFrom files r image → Reads image new → Recovers files r left → Recovers image new again → SameArchive left again
recovers_same files image left again ArchiveReading.nothing new is h now p q =
    let none : Recovers image ArchiveReading.nothing again = subst (λ x. Recovers image x again) (one_reading image new ArchiveReading.nothing now (less_reads files image is h)) q in
    record { meta = none Meta ∙ sym (p Meta); volumes = λ n. none (Volume n) ∙ sym (p (Volume n)) }
recovers_same files image left again (ArchiveReading.archive c) new is h now p q =
    same_again files image c is h left p again (subst (λ x. Recovers image x again) (one_reading image new (ArchiveReading.archive (contents_now files image c is h)) now (is_now files image c is h)) q)

-- ---- soundness

module _ (left again : Files) (same : SameArchive left again) (l : LabelFields) (records : List MetaRecord) (es fs : List Entry) (vs ws : List (ℕ × List Item)) (volumes : ws ≡ vs) where
  abbrev before : ArchiveContents
  before = record { label = l; records = records; entries = es; volumes = vs }

  abbrev after : ArchiveContents
  after = record { label = l; records = records; entries = fs; volumes = ws }

  points_again : (e : Entry) → PointsWell left before e → PointsWell again after e
  points_again e p = record {
    records = p.records;
    meta = subst (λ t. IsBoundary t e.meta p.records) (sym same.meta) p.meta;
    domains = p.domains;
    items = p.items;
    volume = subst (λ t. IsBoundary t e.offset p.items) (sym (same.volumes e.volume)) p.volume;
    before = subst (AllByRecursion (λ (v : ℕ × List Item). v.0 ≡ e.volume → NoItemAfter e.stamp (take p.items v.1))) (sym volumes) p.before;
    earlier = subst (AllByRecursion (λ (v : ℕ × List Item). v.0 < e.volume → NoItemAfter e.stamp v.1)) (sym volumes) p.earlier;
  }

  entry_again : (e : Entry) → IsSoundEntry left before e → IsSoundEntry again after e
  entry_again e s = record {
    not_above = (s.not_above.0, subst (λ t. 0 < length t) (sym (same.volumes s.not_above.0)) s.not_above.1, s.not_above.2);
    points = λ some. points_again e (s.points (subst (λ t. 0 < length t) (same.volumes e.volume) some));
  }

  sound_again : (k : ℕ) → fs ≡ take k es → IsSound left (ArchiveReading.archive before) → IsSound again (ArchiveReading.archive after)
  sound_again k first s = (
    subst (λ xs. NeverFalls (items_of xs)) (sym volumes) s.0,
    subst (AllByRecursion (IsSoundEntry again after)) (sym first) (each-first (IsSoundEntry again after) k es (each-map (IsSoundEntry left before) (IsSoundEntry again after) entry_again es s.1)),
  )

pub recovers_sound : (files image left again : Files) (r new : ArchiveReading) → Reads files r → HalfwayFrom files r image → Reads image new → Recovers files r left → Recovers image new again → IsSound left (recovered_reading files r)
    → IsSound again (recovered_reading image new)
recovers_sound files image left again ArchiveReading.nothing new is h now p q s = subst (λ x. IsSound again (recovered_reading image x)) (one_reading image ArchiveReading.nothing new (less_reads files image is h) now) tt
recovers_sound files image left again (ArchiveReading.archive c) new is h now p q s =
    let one : new ≡ ArchiveReading.archive (contents_now files image c is h) = one_reading image new (ArchiveReading.archive (contents_now files image c is h)) now (is_now files image c is h) in
    let same : SameArchive left again = same_again files image c is h left p again (subst (λ x. Recovers image x again) one q) in
    subst (λ x. IsSound again (recovered_reading image x)) (sym one)
    (sound_again left again same c.label c.records c.entries (take (index_now files image c is h).k c.entries) (or_first_volume (labelled_volumes files c.volumes)) (or_first_volume (labelled_volumes image (volumes_now files image c is h).volumes))
    (volumes_now files image c is h).same (index_now files image c is h).k refl s)
