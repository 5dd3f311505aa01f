-- A readable archive is sound, or has one breach.
use Rattle.std.proofs.Common.{◌≡◌, ◌⊎◌, inl, inr, ⊎_elim, ℕ, ap, ◌∙◌}
use Rattle.std.specs.List.{AllByRecursion}
use Rattle.pcp_base.specs.Time.{Moment}
use Rattle.pcp_base.specs.declared.file.FileId.{FileId}
use Rattle.pcp_model.specs.Archive.{ArchiveContents, ArchiveReading, IsArchive, Reads, items_of}
use Rattle.pcp_model.specs.Disk.{Files}
use Rattle.pcp_model.specs.Sound.{IsSound, IsSoundEntry, NeverFalls}
use Rattle.pcp_model.proofs.Lists.{each-all, each-map}
use Rattle.archive_check.specs.declared.fault.CheckFault.{CheckFault}
use Rattle.archive_check.specs.declared.fault.CheckFault.TheVariants.{Items, Boundary, Late, Reader}
use Rattle.archive_check.specs.Breaches.{Falls, IsBreach, IsBreachOf, IsFirstBad, IsTooEarly, MissesBoundary, PointsToBoundaries}
use Rattle.archive_check.specs.Laws.{IsJudged}
use Rattle.archive_check.proofs.Entries.{Missed, Misses, misses_none, one_early, one_missed, points_or_misses, sound_in_time, sound_or_early, sound_points}
use Rattle.archive_check.proofs.Falling.{falls_once, falls_or_not, never_falls}
use Rattle.archive_check.proofs.FirstBad.{bad_or_none, not_all_good, one_bad}

-- ---- a sound archive has none

module _ (files : Files) (c : ArchiveContents) where
  abbrev Misplaced : ℕ → FileId → ℕ → ℕ → Type 0
  Misplaced at file below above = IsFirstBad c.entries (PointsToBoundaries files) (λ e. MissesBoundary files e file below above) at

  abbrev TooEarly : ℕ → Moment → Type 0
  TooEarly at stamp = IsFirstBad c.entries (IsSoundEntry files c) (λ e. IsTooEarly files c e stamp) at

  all_point : (at : ℕ) (file : FileId) (below above : ℕ) → Misplaced at file below above → AllByRecursion (PointsToBoundaries files) c.entries → ⊥
  all_point at file below above b all = not_all_good (PointsToBoundaries files) (λ e. MissesBoundary files e file below above) c.entries at (λ e. misses_none files e file below above) b all

  none_of : (fault : CheckFault) → IsBreachOf files c fault → IsSound files (ArchiveReading.archive c) → ⊥
  none_of (Items first second) b sound = never_falls (items_of c.volumes) first second sound.0 b
  none_of (Boundary at file below above) b sound = all_point at file below above b.1 (each-map (IsSoundEntry files c) (PointsToBoundaries files) (sound_points files c) c.entries sound.1)
  none_of (Late at stamp) b sound = not_all_good (IsSoundEntry files c) (λ e. IsTooEarly files c e stamp) c.entries at (λ e. sound_in_time files c e stamp) b.2 sound.1
  none_of (Reader fault) b sound = b

  -- ---- one at most

  same_boundary : (m n : ℕ) (f g : FileId) (a b i j : ℕ) → m ≡ n → (f ≡ g) × (a ≡ i) × (b ≡ j) → Boundary m f a b ≡ Boundary n g i j
  same_boundary m n f g a b i j at same = ap (λ k. Boundary k f a b) at ∙ ap (λ k. Boundary n k a b) same.0 ∙ ap (λ k. Boundary n g k b) same.1 ∙ ap (λ k. Boundary n g i k) same.2

  one_of : (a b : CheckFault) → IsBreachOf files c a → IsBreachOf files c b → a ≡ b
  one_of (Items s t) (Items u v) p q = let same : (s ≡ u) × (t ≡ v) = falls_once (items_of c.volumes) s t u v p q in ap (λ k. Items k t) same.0 ∙ ap (λ k. Items u k) same.1
  one_of (Items s t) (Boundary n g i j) p q = absurd (never_falls (items_of c.volumes) s t q.0 p)
  one_of (Items s t) (Late n u) p q = absurd (never_falls (items_of c.volumes) s t q.0 p)
  one_of (Items s t) (Reader fault) p q = absurd q
  one_of (Boundary m f a b) (Items s t) p q = absurd (never_falls (items_of c.volumes) s t p.0 q)
  one_of (Boundary m f a b) (Boundary n g i j) p q =
      let found = one_bad (PointsToBoundaries files) (λ e. MissesBoundary files e f a b) (λ e. MissesBoundary files e g i j) c.entries m n (λ e. misses_none files e f a b) (λ e. misses_none files e g i j) p.1 q.1 in
      same_boundary m n f g a b i j found.0 (one_missed files found.1.0 f a b g i j found.1.1 found.1.2)
  one_of (Boundary m f a b) (Late n u) p q = absurd (all_point m f a b p.1 q.1)
  one_of (Boundary m f a b) (Reader fault) p q = absurd q
  one_of (Late m s) (Items u v) p q = absurd (never_falls (items_of c.volumes) u v p.0 q)
  one_of (Late m s) (Boundary n g i j) p q = absurd (all_point n g i j q.1 p.1)
  one_of (Late m s) (Late n u) p q =
      let found = one_bad (IsSoundEntry files c) (λ e. IsTooEarly files c e s) (λ e. IsTooEarly files c e u) c.entries m n (λ e. sound_in_time files c e s) (λ e. sound_in_time files c e u) p.2 q.2 in
      ap (λ k. Late k s) found.0 ∙ ap (λ k. Late n k) (one_early files c found.1.0 s u found.1.1 found.1.2)
  one_of (Late m s) (Reader fault) p q = absurd q
  one_of (Reader fault) b p q = absurd p

  -- ---- either

  abbrev SoundOrNot : Type 0
  SoundOrNot = IsSound files (ArchiveReading.archive c) ⊎ ((fault : CheckFault) × IsBreachOf files c fault)

  module _ (is : IsArchive files c) (rises : NeverFalls (items_of c.volumes)) where
    by_entries : AllByRecursion (PointsToBoundaries files) c.entries → SoundOrNot
    by_entries points =
        ⊎_elim (λ (sound : AllByRecursion (IsSoundEntry files c) c.entries). let so : SoundOrNot = inl (rises, sound) in so)
        (λ (b : (at : ℕ) × (stamp : Moment) × TooEarly at stamp). let so : SoundOrNot = inr (Late b.0 b.1, (rises, points, b.2)) in so)
        (bad_or_none (PointsToBoundaries files) (IsSoundEntry files c) (λ stamp e. IsTooEarly files c e stamp) (λ e p. sound_or_early files c is e p) c.entries points)

    by_boundaries : SoundOrNot
    by_boundaries =
        ⊎_elim (λ (points : AllByRecursion (PointsToBoundaries files) c.entries). by_entries points)
        (λ (b : (at : ℕ) × (m : Missed) × Misplaced at m.0 m.1 m.2). let so : SoundOrNot = inr (Boundary b.0 b.1.0 b.1.1 b.1.2, (rises, b.2)) in so)
        (bad_or_none (λ e. Unit {0}) (PointsToBoundaries files) (Misses files) (λ e u. points_or_misses files c is e) c.entries (each-all (λ e. Unit {0}) (λ e. tt) c.entries))

  either_of : IsArchive files c → SoundOrNot
  either_of is =
      ⊎_elim (λ (rises : NeverFalls (items_of c.volumes)). by_boundaries is rises)
      (λ (f : (first : Moment) × (second : Moment) × Falls (items_of c.volumes) first second). let so : SoundOrNot = inr (Items f.0 f.1, f.2) in so) (falls_or_not (items_of c.volumes))

-- ---- whatever files are read as

pub sound_has_none : (files : Files) (reading : ArchiveReading) (fault : CheckFault) → IsBreach files reading fault → IsSound files reading → ⊥
sound_has_none files ArchiveReading.nothing fault b sound = b
sound_has_none files (ArchiveReading.archive c) fault b sound = none_of files c fault b sound

one_breach : (files : Files) (reading : ArchiveReading) (a b : CheckFault) → IsBreach files reading a → IsBreach files reading b → a ≡ b
one_breach files ArchiveReading.nothing a b p q = absurd p
one_breach files (ArchiveReading.archive c) a b p q = one_of files c a b p q

sound_or_breach : (files : Files) (reading : ArchiveReading) → Reads files reading → IsSound files reading ⊎ ((fault : CheckFault) × IsBreach files reading fault)
sound_or_breach files ArchiveReading.nothing reads = inl tt
sound_or_breach files (ArchiveReading.archive c) reads = either_of files c reads

pub judged : (files : Files) (reading : ArchiveReading) → Reads files reading → IsJudged files reading
judged files reading reads = record { either = sound_or_breach files reading reads; one = one_breach files reading; none = sound_has_none files reading }
