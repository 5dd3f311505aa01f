-- A whole archive whose bytes are all sure.
use Rattle.std.proofs.Common.{suc, ◌≡◌, ◌⊎◌, inl, inr, ⊎_elim, ℕ, ◌+◌, ◌<◌, ◌≤◌, pos, negsuc, List, [], ◌∷◌, ◌++◌, length, take, refl, sym, ap, ◌∙◌, subst, arith, length-append}
use Rattle.std.specs.Prelude.{Contains}
use Rattle.std.specs.List.{AllByRecursion}
use Rattle.std.proofs.lemmas.Bool.{cases_lt}
use Rattle.std.proofs.lemmas.List.{append-nil, take_all, length-drop}
use Rattle.pcp_base.specs.declared.file.FileId.{FileId}
use Rattle.pcp_base.specs.declared.file.FileId.TheVariants.{Meta, Index, Volume}
use Rattle.pcp_model.specs.declared.records.Entry.{Entry}
use Rattle.pcp_model.specs.Archive.{ArchiveContents, ArchiveReading, items_of}
use Rattle.pcp_model.specs.Described.{Described}
use Rattle.pcp_model.specs.Disk.{Files, Held, Holdings, bytes_of}
use Rattle.pcp_model.specs.Frame.{frames}
use Rattle.pcp_model.specs.Payload.{IsItem}
use Rattle.pcp_model.specs.Records.{IsRecord}
use Rattle.pcp_model.specs.Sound.{IsBoundary, IsSoundEntry}
use Rattle.pcp_model.proofs.Cuts.{as_many, length_of_label}
use Rattle.pcp_model.proofs.Lists.{each-map}
use Rattle.pcp_model.proofs.Sound.{labelled_long}
use Rattle.logger_core.specs.Keeps.{Start, WasDescribed, IsPart, PointsSurely, Keeps, end_of}
use Rattle.logger_core.specs.Laws.{IsWhole}
use Rattle.logger_core.proofs.Items.{above_empty}
use Rattle.logger_core.proofs.Nearer.{all_acknowledged}

-- each of a list is in it
pub next_contains : {X : Type 0} (y : X) (ys : List X) (x : X) → Contains ys x → Contains (y ∷ ys) x
next_contains y ys x c = (suc c.0, omega (arith, c.1), c.2)

pub contains_last : {X : Type 0} (xs : List X) (x : X) → Contains (xs ++ x ∷ []) x
contains_last [] x = (0, omega arith, refl)
contains_last (y ∷ ys) x = next_contains y (ys ++ x ∷ []) x (contains_last ys x)

pub each_contained : {X : Type 0} (xs : List X) → AllByRecursion (λ x. Contains xs x) xs
each_contained [] = tt
each_contained (x ∷ xs) = ((0, omega arith, refl), each-map (λ y. Contains xs y) (λ y. Contains (x ∷ xs) y) (λ y c. next_contains x xs y c) xs (each_contained xs))

-- a boundary lies within the file
within : (bytes : List ℕ) (offset count : ℕ) → 132 ≤ length bytes → IsBoundary bytes offset count → offset ≤ length bytes
within bytes offset count long b = omega (arith, b.is, ap length b.stand, length-append (frames b.payloads) b.behind, length-drop 132 bytes)

module _ (files : Files) (c : ArchiveContents) (number : ℕ) (held : Holdings) (w : IsWhole files c number held) where
  abbrev start : Start
  start = record { files = files; reading = ArchiveReading.archive c }

  part : (file : FileId) → IsPart (held file) (files file)
  part file = record { more = []; is = append-nil (bytes_of (held file)) ∙ ap bytes_of (w.sure file) ∙ append-nil (files file) }

  size : (file : FileId) → length (held file).sure ≡ length (files file)
  size file = ap (λ (h : Held). length h.sure) (w.sure file)

  meta_long : 132 ≤ length (files Meta)
  meta_long = labelled_long IsRecord (files Meta) c.label (negsuc 0) c.records [] w.meta

  volume_long : 132 ≤ length (files (Volume number))
  volume_long = labelled_long IsItem (files (Volume number)) c.label (pos number) w.last.items [] w.last.whole

  top : (n : ℕ) → 0 < length (files (Volume n)) → n ≤ number
  top n some = ⊎_elim (λ (low : number < n). absurd (omega (arith, some, ap length (above_empty files c number w.is w.last n low)))) (λ (le : n ≤ number). le) (cases_lt number n)

  points : (e : Entry) → IsSoundEntry files c e → PointsSurely files held number e
  points e s = record {
    meta = λ some. omega (arith, size Meta, within (files Meta) e.meta (s.points some).records meta_long (s.points some).meta);
    offset = λ same.
        let some : 0 < length (files (Volume e.volume)) = subst (λ (m : ℕ). 0 < length (files (Volume m))) (sym same) (omega (arith, volume_long)) in
        let stands : IsBoundary (files (Volume number)) e.offset (s.points some).items = subst (λ (m : ℕ). IsBoundary (files (Volume m)) e.offset (s.points some).items) same (s.points some).volume in
        omega (arith, size (Volume number), within (files (Volume number)) e.offset (s.points some).items volume_long stands);
    below = (number, omega (arith, size (Volume number), volume_long), omega (arith, s.not_above.2, top s.not_above.0 s.not_above.1));
  }

  labelled : (c.entries ≡ []) ⊎ ((n : ℕ) × (132 ≤ length (held (Volume n)).sure))
  labelled = inr (number, omega (arith, size (Volume number), volume_long))

  all_end : end_of (length c.records) w.meta.payloads ≡ 132 + length (frames w.meta.payloads)
  all_end = ap (λ ps. 132 + length (frames ps)) (take_all (length c.records) w.meta.payloads (omega (arith, as_many IsRecord w.meta.payloads c.records w.meta.read)))

  described : (k : ℕ) → length c.records ≤ k → AllByRecursion (λ x. WasDescribed start x → Described (take k c.records) x) (items_of c.volumes)
  described k le = each-map (λ x. Contains (items_of c.volumes) x) (λ x. WasDescribed start x → Described (take k c.records) x)
      (λ x there was. subst (λ rs. Described rs x) (sym (take_all k c.records le)) (was there)) (items_of c.volumes) (each_contained (items_of c.volumes))

  kept_at_first : Keeps start files c number (length c.records) (length (items_of w.last.before)) held
  kept_at_first = record {
    is = w.is;
    last = w.last;
    indexed = w.indexed;
    whole = w.meta;
    meta = part Meta;
    index = part Index;
    volume = part (Volume number);
    others = λ n other. w.sure (Volume n);
    few = omega arith;
    sure = omega (arith, size Meta, all_end, ap length w.meta.is, length-append w.meta.head (frames w.meta.payloads ++ []), ap length (append-nil (frames w.meta.payloads)), length_of_label w.meta.head c.label (negsuc 0) w.meta.label);
    described = described;
    sound = λ was. was;
    labelled = labelled;
    points = λ was. each-map (IsSoundEntry files c) (PointsSurely files held number) points c.entries was.1;
    items = inl (omega arith);
    earlier = omega arith;
  }

  pub whole_is_kept : Keeps start files c number (length c.records) (length (items_of c.volumes)) held
  whole_is_kept = all_acknowledged start files c number (length c.records) (length (items_of w.last.before)) held kept_at_first (w.sure (Volume number))
