-- What is left without old volumes is sound where the whole was.
use Rattle.std.proofs.Common.{◌≡◌, ⊎_elim, ℕ, ◌<◌, ◌≤◌, List, [], ◌∷◌, ◌++◌, length, take, sym, ap, subst, arith}
use Rattle.std.proofs.lemmas.Bool.{cases_lt}
use Rattle.pcp_base.specs.declared.file.FileId.TheVariants.{Volume}
use Rattle.pcp_base.specs.declared.result.Item.{Item}
use Rattle.pcp_model.specs.declared.records.Entry.{Entry}
use Rattle.pcp_model.specs.Archive.{ArchiveContents, ArchiveReading, IsArchive, items_of}
use Rattle.pcp_model.specs.Disk.{Files}
use Rattle.pcp_model.specs.Sound.{IsBoundary, IsSound, IsSoundEntry, NeverFalls, NoItemAfter, PointsWell}
use Rattle.pcp_model.proofs.Lists.{each-map}
use Rattle.logger_core.specs.Retiring.{RetiredIsRead, contents_without, volumes_below, without}
use Rattle.logger_core.proofs.Without.{each_from, items_split, left, not_gone, still_archive}

-- items behind others
tail_falls : (x : Item) (xs : List Item) → NeverFalls (x ∷ xs) → NeverFalls xs
tail_falls x [] falls = tt
tail_falls x (y ∷ xs) falls = falls.1

falls_behind : (xs ys : List Item) → NeverFalls (xs ++ ys) → NeverFalls ys
falls_behind [] ys falls = falls
falls_behind (x ∷ xs) ys falls = falls_behind xs ys (tail_falls x (xs ++ ys) falls)

module _ (files : Files) (c : ArchiveContents) (j n : ℕ) (is : IsArchive files c) (high : j ≤ n) (long : 132 ≤ length (files (Volume n))) where
  abbrev rest : Files
  rest = without files j

  abbrev d : ArchiveContents
  d = contents_without c j

  still_points : (e : Entry) → j ≤ e.volume → PointsWell files c e → PointsWell rest d e
  still_points e stays p = record {
    records = p.records;
    meta = p.meta;
    domains = p.domains;
    items = p.items;
    volume = subst (λ t. IsBoundary t e.offset p.items) (sym (left files j e.volume stays)) p.volume;
    before = each_from (λ (v : ℕ × List Item). v.0 ≡ e.volume → NoItemAfter e.stamp (take p.items v.1)) j c.volumes p.before;
    earlier = each_from (λ (v : ℕ × List Item). v.0 < e.volume → NoItemAfter e.stamp v.1) j c.volumes p.earlier;
  }

  -- where the volume above an entry is retired, the labelled one is above it
  not_above : (e : Entry) (k : ℕ) → 0 < length (files (Volume k)) → e.volume ≤ k → (m : ℕ) × (0 < length (rest (Volume m))) × (e.volume ≤ m)
  not_above e k some le = ⊎_elim
      (λ (low : k < j). (n, omega (arith, long, ap length (left files j n high)), omega (arith, le, low, high)))
      (λ (stays : j ≤ k). (k, omega (arith, some, ap length (left files j k stays)), le)) (cases_lt k j)

  still_entry : (e : Entry) → IsSoundEntry files c e → IsSoundEntry rest d e
  still_entry e s = record {
    not_above = not_above e s.not_above.0 s.not_above.1 s.not_above.2;
    points = λ some.
        let stays : j ≤ e.volume = not_gone files j e.volume some in
        still_points e stays (s.points (omega (arith, some, ap length (left files j e.volume stays))));
  }

  pub still_sound : IsSound files (ArchiveReading.archive c) → IsSound rest (ArchiveReading.archive d)
  still_sound s = (
    falls_behind (items_of (volumes_below j c.volumes)) (items_of d.volumes) (subst NeverFalls (items_split files c.label j c.volumes is.volumes) s.0),
    each-map (IsSoundEntry files c) (IsSoundEntry rest d) still_entry c.entries s.1,
  )

pub is_read : RetiredIsRead
is_read files c below n is high long = (still_archive files c below n is high long, still_sound files c below n is high long)
