-- Volumes on which recovery is on its way.
use Rattle.std.proofs.Common.{zero, suc, ◌≡◌, ◌≢◌, ◌⊎◌, inl, inr, ⊎_elim, ℕ, ◌<◌, ◌≤◌, pos, Bool, true, false, List, [], ◌∷◌, ◌++◌, length, take, map, refl, sym, ap, ◌∙◌, subst, arith, length-append, length-take, nat_lt}
use Rattle.std.specs.Prelude.{if◌then◌else◌, Contains, slice_index_or}
use Rattle.std.specs.Int.{w32}
use Rattle.std.specs.List.{AllByRecursion}
use Rattle.std.proofs.lemmas.Bool.{cases_lt, ltb-true, lt-ltb}
use Rattle.std.proofs.lemmas.Int.{fits_signed_from_abs}
use Rattle.std.proofs.lemmas.List.{append-nil, take_all, length-take-le, nil_from_length}
use Rattle.pcp_base.specs.declared.file.FileId.TheVariants.{Volume}
use Rattle.pcp_base.specs.declared.result.Item.{Item}
use Rattle.pcp_model.specs.Archive.{ArchiveContents, LabelledFile, IsLastVolume, AreVolumes, IsArchive, items_of}
use Rattle.pcp_model.specs.Disk.{Files}
use Rattle.pcp_model.specs.LabelFields.{LabelFields}
use Rattle.pcp_model.specs.Labels.{label, BeginsLabel}
use Rattle.pcp_model.specs.Payload.{IsItem}
use Rattle.pcp_model.specs.Recovered.{IsMended, labelled_volumes, or_first_volume, AreMended}
use Rattle.pcp_model.proofs.Added.{before_last, last_replaced, last_listed}
use Rattle.pcp_model.proofs.CutArchive.{without_last, none_appended, last_of}
use Rattle.pcp_model.proofs.Cuts.{SpelledLabel, is_label, cut_label}
use Rattle.pcp_model.proofs.CutsOfAny.{cut_beginning}
use Rattle.pcp_model.proofs.Lengths.{length-label}
use Rattle.pcp_model.proofs.Lists.{each-append, each-split}
use Rattle.pcp_model.proofs.OneItem.{one_item}
use Rattle.pcp_model.proofs.OneRecovery.{one_mended}
use Rattle.pcp_model.proofs.Recovered.{nothing_torn, no_item, labelled_all, same_items}
use Rattle.pcp_model.proofs.Sound.{labelled_long}
use Rattle.archive_recovery.specs.Halfway.{IsCutBehind, LastIsCut, FirstIsBegun}
use Rattle.archive_recovery.proofs.Parts.{torn_left, still_torn, still_holds, still_mended}

-- what the volumes are then read as, and that recovery makes the same of them
pub record HalfVolumes (files image : Files) (c : ArchiveContents) : Type 0 where
  pub volumes : List (ℕ × List Item)
  pub are : AreVolumes image c.label volumes
  pub others : (n : ℕ) → (Contains (map (λ (v : ℕ × List Item). v.0) volumes) n → ⊥) → image (Volume n) ≡ []
  pub items : items_of volumes ≡ items_of c.volumes
  pub labelled : (c.entries ≡ []) ⊎ ((n : ℕ) × (132 ≤ length (image (Volume n))))
  pub same : or_first_volume (labelled_volumes image volumes) ≡ or_first_volume (labelled_volumes files c.volumes)
  pub mended : (left : Files) → AreMended files c.label left (labelled_volumes files c.volumes) → AreMended image c.label left (labelled_volumes image volumes)

-- ---- which volumes have their label

-- the last one has none
pub labelled_short : (files : Files) (number : ℕ) (items : List Item) (before : List (ℕ × List Item)) → length (files (Volume number)) < 132 → labelled_volumes files (before ++ (number, items) ∷ []) ≡ before
labelled_short files number items [] short = ap (λ (b : Bool). if b then [] else (number, items) ∷ []) (lt-ltb (length (files (Volume number))) 132 short)
labelled_short files number items (v ∷ []) short = ap (λ xs. v ∷ xs) (labelled_short files number items [] short)
labelled_short files number items (v ∷ w ∷ vs) short = ap (λ xs. v ∷ xs) (labelled_short files number items (w ∷ vs) short)

-- those before the last one have theirs
pub before_long : (files : Files) (l : LabelFields) (number : ℕ) (items : List Item) (before : List (ℕ × List Item)) → AreVolumes files l (before ++ (number, items) ∷ []) → AllByRecursion (λ (v : ℕ × List Item). 132 ≤ length (files (Volume v.0))) before
before_long files l number items [] are = tt
before_long files l number items (v ∷ []) are = (labelled_long IsItem (files (Volume v.0)) l (pos v.0) v.1 [] are.0, tt)
before_long files l number items (v ∷ w ∷ vs) are = (labelled_long IsItem (files (Volume v.0)) l (pos v.0) v.1 [] are.0, before_long files l number items (w ∷ vs) are.2)

-- where no volume has its label, none is that long
not_short : (b : Bool) (v : ℕ × List Item) → (if b then [] else v ∷ []) ≡ [] → b ≡ true
not_short true v e = refl
not_short false v e = absurd (omega (arith, ap length e))

one_listed : (n m : ℕ) → m ≢ n → (k : ℕ) → k < 1 → slice_index_or (m ∷ []) k n ≡ n → ⊥
one_listed n m other zero h is = other is
one_listed n m other (suc k) h is = omega arith

pub none_long : (files : Files) (vs : List (ℕ × List Item)) → ((n : ℕ) → (Contains (map (λ (v : ℕ × List Item). v.0) vs) n → ⊥) → files (Volume n) ≡ []) → labelled_volumes files vs ≡ [] → (n : ℕ) → 132 ≤ length (files (Volume n)) → ⊥
none_long files [] others none n long = omega (arith, ap length (others n (λ c. omega (arith, c.1))))
none_long files (v ∷ []) others none n long =
    let short : length (files (Volume v.0)) < 132 = ltb-true (length (files (Volume v.0))) 132 (not_short (nat_lt (length (files (Volume v.0))) 132) v none) in
    let other : (v.0 ≢ n) → ⊥ = λ other. omega (arith, ap length (others n (λ c. one_listed n v.0 other c.0 c.1 c.2))) in
    other (λ e. let s : length (files (Volume n)) < 132 = subst (λ m. length (files (Volume m)) < 132) e short in omega arith)
none_long files (v ∷ w ∷ vs) others none n long = omega (arith, ap length none)

-- ---- mended volumes

module _ (files image left : Files) (l : LabelFields) where
  abbrev Mended : Files → (ℕ × List Item) → Type 0
  Mended gs v = IsMended IsItem (gs (Volume v.0)) l (pos v.0) v.1 (left (Volume v.0))

  pub each_mended : (gs : Files) (vs : List (ℕ × List Item)) → AreMended gs l left vs → AllByRecursion (Mended gs) vs
  each_mended gs [] mended = tt
  each_mended gs (v ∷ vs) mended = mended

  before_mended : (number : ℕ) (before : List (ℕ × List Item)) → ((n : ℕ) → n < number → image (Volume n) ≡ files (Volume n)) → AllByRecursion (λ (v : ℕ × List Item). v.0 < number) before
      → AllByRecursion (Mended files) before → AllByRecursion (Mended image) before
  before_mended number [] same low all = tt
  before_mended number (v ∷ vs) same low all = (subst (λ t. IsMended IsItem t l (pos v.0) v.1 (left (Volume v.0))) (sym (same v.0 low.0)) all.0, before_mended number vs same low.1 all.1)

  are_mended_before : (number : ℕ) (before : List (ℕ × List Item)) → ((n : ℕ) → n < number → image (Volume n) ≡ files (Volume n)) → AllByRecursion (λ (v : ℕ × List Item). v.0 < number) before
      → AreMended files l left before → AreMended image l left before
  are_mended_before number [] same low mended = mended
  are_mended_before number (v ∷ vs) same low mended = before_mended number (v ∷ vs) same low mended

  pub some_mended : (gs : Files) (before : List (ℕ × List Item)) (v : ℕ × List Item) → AllByRecursion (Mended gs) (before ++ v ∷ []) → AreMended gs l left (before ++ v ∷ [])
  some_mended gs [] v all = all
  some_mended gs (w ∷ before) v all = all

-- files that hold the same volumes are mended alike
module _ (files left other : Files) (l : LabelFields) where
  all_mended_to : (vs : List (ℕ × List Item)) → ((n : ℕ) → other (Volume n) ≡ left (Volume n)) → AllByRecursion (λ (v : ℕ × List Item). IsMended IsItem (files (Volume v.0)) l (pos v.0) v.1 (left (Volume v.0))) vs
      → AllByRecursion (λ (v : ℕ × List Item). IsMended IsItem (files (Volume v.0)) l (pos v.0) v.1 (other (Volume v.0))) vs
  all_mended_to [] same all = tt
  all_mended_to (v ∷ vs) same all = (subst (IsMended IsItem (files (Volume v.0)) l (pos v.0) v.1) (sym (same v.0)) all.0, all_mended_to vs same all.1)

  pub mended_to : (vs : List (ℕ × List Item)) → ((n : ℕ) → other (Volume n) ≡ left (Volume n)) → AreMended files l left vs → AreMended files l other vs
  mended_to [] same mended = same 0 ∙ mended
  mended_to (v ∷ vs) same mended = all_mended_to (v ∷ vs) same mended

-- ---- the first volume's label is begun

module _ (files image : Files) (c : ArchiveContents) (is : IsArchive files c) (s : SpelledLabel c.label) (first : FirstIsBegun files image c) where
  no_entries : c.entries ≡ []
  no_entries = ⊎_elim (λ (none : c.entries ≡ []). none) (λ (some : (n : ℕ) × (132 ≤ length (files (Volume n)))). absurd (none_long files c.volumes is.others first.none some.0 some.1)) is.labelled

  no_items : items_of c.volumes ≡ []
  no_items = sym (same_items files c.label c.volumes is.volumes) ∙ ap items_of first.none

  label_long : length (label c.label (pos 0)) ≡ 132
  label_long = length-label c.label (pos 0) s.fits

  none_begun : first.n ≡ 0 → (n : ℕ) → image (Volume n) ≡ []
  none_begun none zero = first.first ∙ ap (λ n. take n (label c.label (pos 0))) none
  none_begun none (suc n) = first.others (suc n) (λ e. omega (arith, e))

  without_zero : (n : ℕ) → (Contains (0 ∷ []) n → ⊥) → image (Volume n) ≡ []
  without_zero zero none = absurd (none (0, omega arith, refl))
  without_zero (suc n) none = first.others (suc n) (λ e. omega (arith, e))

  -- the first label is what stands there
  mended_alone : (left : Files) → AreMended files c.label left (labelled_volumes files c.volumes) → left (Volume 0) ≡ label c.label (pos 0)
  mended_alone left mended = subst (AreMended files c.label left) first.none mended

  begun_none : first.n ≡ 0 → HalfVolumes files image c
  begun_none none = record {
    volumes = [];
    are = tt;
    others = λ n absent. none_begun none n;
    items = sym no_items;
    labelled = inl no_entries;
    same = ap or_first_volume (sym first.none);
    mended = mended_alone;
  }

  begun_short : 0 < first.n → first.n < 132 → HalfVolumes files image c
  begun_short some lt =
      let long : length (image (Volume 0)) ≡ first.n = ap length first.first ∙ length-take-le first.n (label c.label (pos 0)) (omega (arith, label_long)) in
      let none : labelled_volumes image ((0, []) ∷ []) ≡ [] = labelled_short image 0 [] [] (omega arith) in
      record {
        volumes = (0, []) ∷ [];
        are = inl (omega arith, refl, subst (λ t. BeginsLabel t c.label (pos 0)) (sym first.first) (cut_label c.label (pos 0) first.n s (fits_signed_from_abs w32 (pos 0) (omega arith)) lt));
        others = without_zero;
        items = sym no_items;
        labelled = inl no_entries;
        same = ap or_first_volume (none ∙ sym first.none);
        mended = λ left mended. subst (AreMended image c.label left) (sym none) (mended_alone left mended);
      }

  begun_whole : 132 ≤ first.n → HalfVolumes files image c
  begun_whole ge =
      let whole : image (Volume 0) ≡ label c.label (pos 0) = first.first ∙ take_all first.n (label c.label (pos 0)) (omega (arith, label_long)) in
      let holds : LabelledFile IsItem (image (Volume 0)) c.label (pos 0) [] [] = record {
        head = label c.label (pos 0);
        label = is_label c.label (pos 0) s (fits_signed_from_abs w32 (pos 0) (omega arith));
        payloads = [];
        read = tt;
        is = whole ∙ sym (append-nil (label c.label (pos 0)));
      } in
      let long : 132 ≤ length (image (Volume 0)) = labelled_long IsItem (image (Volume 0)) c.label (pos 0) [] [] holds in
      let all : labelled_volumes image ((0, []) ∷ []) ≡ (0, []) ∷ [] = labelled_all image ((0, []) ∷ []) (long, tt) in
      record {
        volumes = (0, []) ∷ [];
        are = inr ([], nothing_torn, holds);
        others = without_zero;
        items = sym no_items;
        labelled = inl no_entries;
        same = ap or_first_volume all ∙ ap or_first_volume (sym first.none);
        mended = λ left mended. subst (AreMended image c.label left) (sym all) (
          record {
            torn = [];
            is_torn = nothing_torn;
            is = whole ∙ sym (mended_alone left mended) ∙ sym (append-nil (left (Volume 0)));
            whole = subst (λ t. LabelledFile IsItem t c.label (pos 0) [] []) (whole ∙ sym (mended_alone left mended)) holds;
          },
          tt,
        );
      }

  pub begun : HalfVolumes files image c
  begun = ⊎_elim (λ (none : first.n < 1). begun_none (omega arith)) (λ (some : 1 ≤ first.n). ⊎_elim (λ (lt : first.n < 132). begun_short (omega arith) lt) begun_whole (cases_lt first.n 132)) (cases_lt first.n 1)

-- ---- the last volume is cut

module _ (files image : Files) (c : ArchiveContents) (is : IsArchive files c) (h : LastIsCut files image c) where
  abbrev number : ℕ
  number = h.last.number

  listed : AreVolumes files c.label (h.last.before ++ (number, h.last.items) ∷ [])
  listed = subst (AreVolumes files c.label) h.last.are is.volumes

  below : AllByRecursion (λ (v : ℕ × List Item). v.0 < number) h.last.before
  below = before_last files image c.label number h.last.items h.last.before listed

  earlier : (n : ℕ) → n < number → image (Volume n) ≡ files (Volume n)
  earlier n low = h.others n (λ e. omega arith)

  same_others : (n : ℕ) → (Contains (map (λ (v : ℕ × List Item). v.0) c.volumes) n → ⊥) → image (Volume n) ≡ []
  same_others n none =
      let other : n ≢ number = λ e. none (subst (Contains (map (λ (v : ℕ × List Item). v.0) c.volumes)) (sym e)
      (subst (λ (vs : List (ℕ × List Item)). Contains (map (λ (v : ℕ × List Item). v.0) vs) number) (sym h.last.are) (last_listed h.last.before number h.last.items))) in
      h.others n other ∙ is.others n none

  before_still_long : AllByRecursion (λ (v : ℕ × List Item). 132 ≤ length (image (Volume v.0))) h.last.before
  before_still_long = still_long h.last.before below (before_long files c.label number h.last.items h.last.before listed)
    where
      still_long : (vs : List (ℕ × List Item)) → AllByRecursion (λ (v : ℕ × List Item). v.0 < h.last.number) vs → AllByRecursion (λ (v : ℕ × List Item). 132 ≤ length (files (Volume v.0))) vs → AllByRecursion (λ (v : ℕ × List Item). 132 ≤ length (image (Volume v.0))) vs
      still_long [] low long = tt
      still_long (v ∷ vs) low long = (subst (λ t. 132 ≤ length t) (sym (h.others v.0 (λ e. omega (arith, low.0)))) long.0, still_long vs low.1 long.1)

  -- ---- behind its whole records

  module _ (cut : IsCutBehind IsItem (files (Volume number)) c.label (pos number) h.last.items (image (Volume number))) where
    cut_long : 132 ≤ length (image (Volume number))
    cut_long = labelled_long IsItem (image (Volume number)) c.label (pos number) h.last.items (torn_left IsItem (files (Volume number)) c.label (pos number) h.last.items (image (Volume number)) cut)
        (still_holds IsItem (files (Volume number)) c.label (pos number) h.last.items (image (Volume number)) cut)

    files_long : 132 ≤ length (files (Volume number))
    files_long = omega (arith, ap length cut.mended.is, length-append cut.left cut.mended.torn, labelled_long IsItem cut.left c.label (pos number) h.last.items [] cut.mended.whole)

    all_in : (gs : Files) → AllByRecursion (λ (v : ℕ × List Item). 132 ≤ length (gs (Volume v.0))) h.last.before → 132 ≤ length (gs (Volume number)) → labelled_volumes gs c.volumes ≡ c.volumes
    all_in gs before last =
        labelled_all gs c.volumes (subst (AllByRecursion (λ (v : ℕ × List Item). 132 ≤ length (gs (Volume v.0)))) (sym h.last.are)
        (each-append (λ (v : ℕ × List Item). 132 ≤ length (gs (Volume v.0))) h.last.before ((number, h.last.items) ∷ []) before (last, tt)))

    in_files : labelled_volumes files c.volumes ≡ c.volumes
    in_files = all_in files (before_long files c.label number h.last.items h.last.before listed) files_long

    in_image : labelled_volumes image c.volumes ≡ c.volumes
    in_image = all_in image before_still_long cut_long

    last_mended : (left : Files) → IsMended IsItem (files (Volume number)) c.label (pos number) h.last.items (left (Volume number)) → IsMended IsItem (image (Volume number)) c.label (pos number) h.last.items (left (Volume number))
    last_mended left mended =
        subst (IsMended IsItem (image (Volume number)) c.label (pos number) h.last.items)
        (one_mended IsItem (files (Volume number)) c.label (pos number) h.last.items one_item cut.left (left (Volume number)) cut.mended mended)
        (still_mended IsItem (files (Volume number)) c.label (pos number) h.last.items (image (Volume number)) cut)

    all_mended : (left : Files) → AreMended files c.label left c.volumes → AreMended image c.label left c.volumes
    all_mended left mended =
        let in_order : AreMended files c.label left (h.last.before ++ (number, h.last.items) ∷ []) = subst (AreMended files c.label left) h.last.are mended in
        let both : AllByRecursion (Mended files image left c.label files) h.last.before × AllByRecursion (Mended files image left c.label files) ((number, h.last.items) ∷ []) =
        each-split (Mended files image left c.label files) h.last.before ((number, h.last.items) ∷ []) (each_mended files image left c.label files (h.last.before ++ (number, h.last.items) ∷ []) in_order) in
        subst (AreMended image c.label left) (sym h.last.are) (some_mended files image left c.label image h.last.before (number, h.last.items)
        (each-append (Mended files image left c.label image) h.last.before ((number, h.last.items) ∷ []) (before_mended files image left c.label number h.last.before earlier below both.0) (last_mended left both.1.0, tt)))

    behind : HalfVolumes files image c
    behind = record {
      volumes = c.volumes;
      are = subst (AreVolumes image c.label) (sym h.last.are) (last_replaced files image c.label number h.last.items h.last.before h.last.items listed earlier
          (inr (torn_left IsItem (files (Volume number)) c.label (pos number) h.last.items (image (Volume number)) cut, still_torn IsItem (files (Volume number)) c.label (pos number) h.last.items (image (Volume number)) cut, still_holds IsItem (files (Volume number)) c.label (pos number) h.last.items (image (Volume number)) cut)));
      others = same_others;
      items = refl;
      labelled = inr (number, cut_long);
      same = ap or_first_volume (in_image ∙ sym in_files);
      mended = λ left mended. subst (AreMended image c.label left) (sym in_image) (all_mended left (subst (AreMended files c.label left) in_files mended));
    }

  -- ---- within its label

  module _ (short : length (files (Volume number)) < 132) (n : ℕ) (cut : image (Volume number) ≡ take n (files (Volume number))) where
    files_last : IsLastVolume (files (Volume number)) c.label number h.last.items
    files_last = last_of files c.label number h.last.items h.last.before listed

    no_last_item : h.last.items ≡ []
    no_last_item = no_item (files (Volume number)) c.label number h.last.items files_last short

    only_before : labelled_volumes files c.volumes ≡ h.last.before
    only_before = ap (labelled_volumes files) h.last.are ∙ labelled_short files number h.last.items h.last.before short

    label_elsewhere : (c.entries ≡ []) ⊎ ((n : ℕ) × (132 ≤ length (image (Volume n))))
    label_elsewhere = ⊎_elim (λ (none : c.entries ≡ []). inl none)
        (λ (some : (n : ℕ) × (132 ≤ length (files (Volume n)))). inr (some.0, subst (λ t. 132 ≤ length t) (sym (h.others some.0 (λ e. let s : length (files (Volume some.0)) < 132 = subst (λ m. length (files (Volume m)) < 132) (sym e) short in omega (arith, some.1)))) some.1)) is.labelled

    mended_before : (left : Files) → AreMended files c.label left (labelled_volumes files c.volumes) → AreMended image c.label left h.last.before
    mended_before left mended = are_mended_before files image left c.label number h.last.before earlier below (subst (AreMended files c.label left) only_before mended)

    items_before : items_of h.last.before ≡ items_of c.volumes
    items_before = ap items_of (sym only_before) ∙ same_items files c.label c.volumes is.volumes

    gone_others : image (Volume number) ≡ [] → (k : ℕ) → (Contains (map (λ (v : ℕ × List Item). v.0) h.last.before) k → ⊥) → image (Volume k) ≡ []
    gone_others gone k none = by (cases_lt k number) (cases_lt number k)
      where
        apart : k ≢ h.last.number → image (Volume k) ≡ []
        apart other = h.others k other ∙ is.others k (λ has. none_appended k h.last.number h.last.items h.last.before other none (listed_in has).0 (listed_in has).1 (listed_in has).2)
          where
            listed_in : Contains (map (λ (v : ℕ × List Item). v.0) c.volumes) k → Contains (map (λ (v : ℕ × List Item). v.0) (h.last.before ++ (h.last.number, h.last.items) ∷ [])) k
            listed_in has = subst (λ (vs : List (ℕ × List Item)). Contains (map (λ (v : ℕ × List Item). v.0) vs) k) h.last.are has

        by : (k < h.last.number) ⊎ (h.last.number ≤ k) → (h.last.number < k) ⊎ (k ≤ h.last.number) → image (Volume k) ≡ []
        by (inl low) high = apart (λ e. omega arith)
        by (inr ge) (inl high) = apart (λ e. omega arith)
        by (inr ge) (inr le) = subst (λ (m : ℕ). image (Volume m) ≡ []) (let e : h.last.number ≡ k = omega arith in e) gone

    gone_volume : length (image (Volume number)) < 1 → HalfVolumes files image c
    gone_volume none =
        let gone : image (Volume number) ≡ [] = nil_from_length (image (Volume number)) (omega arith) in
        let all : labelled_volumes image h.last.before ≡ h.last.before = labelled_all image h.last.before before_still_long in
        record {
          volumes = h.last.before;
          are = without_last files image c.label number h.last.items h.last.before listed earlier;
          others = gone_others gone;
          items = items_before;
          labelled = label_elsewhere;
          same = ap or_first_volume (all ∙ sym only_before);
          mended = λ left mended. subst (AreMended image c.label left) (sym all) (mended_before left mended);
        }

    image_short : length (image (Volume number)) < 132
    image_short = omega (arith, ap length cut, length-take n (files (Volume number)))

    begins : IsLastVolume (files (Volume number)) c.label number h.last.items → BeginsLabel (image (Volume number)) c.label (pos number)
    begins (inl b) = subst (λ t. BeginsLabel t c.label (pos number)) (sym cut) (cut_beginning (files (Volume number)) c.label (pos number) n b.2)
    begins (inr whole) = absurd (omega (arith, labelled_long IsItem (files (Volume number)) c.label (pos number) h.last.items whole.0 whole.2))

    some_volume : 1 ≤ length (image (Volume number)) → HalfVolumes files image c
    some_volume some =
        let all : labelled_volumes image c.volumes ≡ h.last.before = ap (labelled_volumes image) h.last.are ∙ labelled_short image number h.last.items h.last.before image_short in
        record {
          volumes = c.volumes;
          are = subst (AreVolumes image c.label) (sym h.last.are) (last_replaced files image c.label number h.last.items h.last.before h.last.items listed earlier (inl (omega arith, no_last_item, begins files_last)));
          others = same_others;
          items = refl;
          labelled = label_elsewhere;
          same = ap or_first_volume (all ∙ sym only_before);
          mended = λ left mended. subst (AreMended image c.label left) (sym all) (mended_before left mended);
        }

    within : HalfVolumes files image c
    within = ⊎_elim gone_volume some_volume (cases_lt (length (image (Volume number))) 1)

  pub last_cut : HalfVolumes files image c
  last_cut = ⊎_elim behind (λ (low : (length (files (Volume number)) < 132) × (n : ℕ) × (image (Volume number) ≡ take n (files (Volume number)))). within low.0 low.1 low.2) h.cut
