-- A sound archive that is cut stays sound, where the entries that are left point into what is left.
use Rattle.std.proofs.Common.{zero, suc, ◌≡◌, ◌⊎◌, ⊎_elim, ℕ, ◌<◌, ◌≤◌, List, [], ◌∷◌, ◌++◌, length, take, sym, ap, ◌∙◌, subst, arith, length-take}
use Rattle.std.specs.List.{AllByRecursion}
use Rattle.std.proofs.lemmas.Bool.{cases_lt}
use Rattle.pcp_base.specs.declared.file.FileId.TheVariants.{Meta, Volume}
use Rattle.pcp_base.specs.declared.result.Item.{Item}
use Rattle.pcp_model.specs.declared.records.Entry.{Entry}
use Rattle.pcp_model.specs.Archive.{ArchiveContents, ArchiveReading, items_of}
use Rattle.pcp_model.specs.Disk.{Files}
use Rattle.pcp_model.specs.Laws.{HasLast, IsCutOf, FirstPart, IsKeptBy}
use Rattle.pcp_model.specs.Sound.{NeverFalls, IsItemBy, NoItemAfter, IsRecordBy, IsBoundary, PointsWell, IsSoundEntry, IsSound}
use Rattle.pcp_model.proofs.Boundaries.{boundary_survives}
use Rattle.pcp_model.proofs.Lists.{each-append, each-split, each-first}

pub never_falls_first : (k : ℕ) (items : List Item) → NeverFalls items → NeverFalls (take k items)
never_falls_first zero items rise = tt
never_falls_first (suc k) [] rise = tt
never_falls_first (suc zero) (x ∷ items) rise = tt
never_falls_first (suc (suc k)) (x ∷ []) rise = tt
never_falls_first (suc (suc k)) (x ∷ y ∷ items) rise = (rise.0, never_falls_first (suc k) (y ∷ items) rise.1)

-- the first of the first
first_of_first : {X : Type 0} (P : X → Type 0) (a b : ℕ) (xs : List X) → AllByRecursion P (take a xs) → AllByRecursion P (take a (take b xs))
first_of_first P zero b xs all = tt
first_of_first P (suc a) zero xs all = tt
first_of_first P (suc a) (suc b) [] all = tt
first_of_first P (suc a) (suc b) (x ∷ xs) all = (all.0, first_of_first P a b xs all.1)

each-both : {X : Type 0} (P Q S : X → Type 0) → ((x : X) → P x → Q x → S x) → (xs : List X) → AllByRecursion P xs → AllByRecursion Q xs → AllByRecursion S xs
each-both P Q S f [] p q = tt
each-both P Q S f (x ∷ xs) p q = (f x p.0 q.0, each-both P Q S f xs p.1 q.1)

-- a property of each volume that is kept by fewer items is one of each volume that is left
each_of_shape : (c : ArchiveContents) (last : HasLast c) (P : (ℕ × List Item) → Type 0) → ((n p : ℕ) (items : List Item) → P (n, items) → P (n, take p items)) → (vs : List (ℕ × List Item))
    → (vs ≡ last.before) ⊎ ((p : ℕ) × (vs ≡ last.before ++ (last.number, take p last.items) ∷ [])) → AllByRecursion P c.volumes → AllByRecursion P vs
each_of_shape c last P fewer vs shape all =
    let both : AllByRecursion P last.before × AllByRecursion P ((last.number, last.items) ∷ []) = each-split P last.before ((last.number, last.items) ∷ []) (subst (AllByRecursion P) last.are all) in
    ⊎_elim (λ (gone : vs ≡ last.before). subst (AllByRecursion P) (sym gone) both.0)
    (λ (some : (p : ℕ) × (vs ≡ last.before ++ (last.number, take p last.items) ∷ [])). subst (AllByRecursion P) (sym some.1)
    (each-append P last.before ((last.number, take some.0 last.items) ∷ []) both.0 (fewer last.number some.0 last.items both.1.0, tt))) shape

module _ (files image : Files) (c : ArchiveContents) (m i v : ℕ) (last : HasLast c) (cut : IsCutOf files image last.number m i v) (f : FirstPart files image c last m i v) where
  -- a volume that has bytes had some
  had_bytes : (n : ℕ) → 0 < length (image (Volume n)) → 0 < length (files (Volume n))
  had_bytes n some =
      ⊎_elim (λ (low : n < last.number). had (cut.others n (λ same. omega arith)))
      (λ (ge : last.number ≤ n). ⊎_elim (λ (high : last.number < n). had (cut.others n (λ same. omega arith))) (λ (le : n ≤ last.number). here (let e : last.number ≡ n = omega arith in e)) (cases_lt last.number n)) (cases_lt n last.number)
    where
      had : image (Volume n) ≡ files (Volume n) → 0 < length (files (Volume n))
      had same = omega (arith, ap length same)

      here : last.number ≡ n → 0 < length (files (Volume n))
      here same = subst (λ k. 0 < length (files (Volume k))) same (let some_here : 0 < length (image (Volume last.number)) = subst (λ k. 0 < length (image (Volume k))) (sym same) some in
          omega (arith, ap length cut.volume, length-take v (files (Volume last.number))))

  volume_boundary : (e : Entry) (count : ℕ) → IsKeptBy image last.number m v e → IsBoundary (files (Volume e.volume)) e.offset count → IsBoundary (image (Volume e.volume)) e.offset count
  volume_boundary e count kept b =
      ⊎_elim (λ (low : e.volume < last.number). stays (cut.others e.volume (λ same. omega arith)))
      (λ (ge : last.number ≤ e.volume). ⊎_elim (λ (high : last.number < e.volume). stays (cut.others e.volume (λ same. omega arith))) (λ (le : e.volume ≤ last.number). here (let same : e.volume ≡ last.number = omega arith in same)) (cases_lt last.number e.volume)) (cases_lt e.volume last.number)
    where
      stays : image (Volume e.volume) ≡ files (Volume e.volume) → IsBoundary (image (Volume e.volume)) e.offset count
      stays same = subst (λ t. IsBoundary t e.offset count) (sym same) b

      here : e.volume ≡ last.number → IsBoundary (image (Volume e.volume)) e.offset count
      here same = subst (λ t. IsBoundary t e.offset count) (sym (ap (λ n. image (Volume n)) same ∙ cut.volume ∙ ap (λ n. take v (files (Volume n))) (sym same)))
          (boundary_survives (files (Volume e.volume)) v e.offset count (kept.offset same) b)

  entry_survives : (e : Entry) → IsSoundEntry files c e → IsKeptBy image last.number m v e → IsSoundEntry image f.new e
  entry_survives e sound kept = record {
    not_above = kept.not_above;
    points = λ some.
        let was : PointsWell files c e = sound.points (had_bytes e.volume some) in
        record {
          records = was.records;
          meta = subst (λ t. IsBoundary t e.meta was.records) (sym cut.meta) (boundary_survives (files Meta) m e.meta was.records (kept.meta some) was.meta);
          domains = subst (λ rs. AllByRecursion (IsRecordBy e.stamp) (take was.records rs)) (sym f.records) (first_of_first (IsRecordBy e.stamp) was.records f.j c.records was.domains);
          items = was.items;
          volume = volume_boundary e was.items kept was.volume;
          before = each_of_shape c last (λ (w : ℕ × List Item). w.0 ≡ e.volume → NoItemAfter e.stamp (take was.items w.1)) (λ n p items all same. first_of_first (IsItemBy e.stamp) was.items p items (all same)) f.new.volumes f.shape was.before;
          earlier = each_of_shape c last (λ (w : ℕ × List Item). w.0 < e.volume → NoItemAfter e.stamp w.1) (λ n p items all low. each-first (IsItemBy e.stamp) p items (all low)) f.new.volumes f.shape was.earlier;
        };
  }

  pub sound_part : IsSound files (ArchiveReading.archive c) → AllByRecursion (IsKeptBy image last.number m v) f.new.entries → IsSound image (ArchiveReading.archive f.new)
  sound_part sound kept = (
    subst NeverFalls (sym f.items) (never_falls_first f.q (items_of c.volumes) sound.0),
    each-both (IsSoundEntry files c) (IsKeptBy image last.number m v) (IsSoundEntry image f.new) entry_survives f.new.entries
        (subst (AllByRecursion (IsSoundEntry files c)) (sym f.entries) (each-first (IsSoundEntry files c) f.k c.entries sound.1)) kept,
  )
