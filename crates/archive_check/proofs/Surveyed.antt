-- After a pass over all files each entry of the index is known.
use Rattle.std.proofs.Common.{zero, suc, ◌≡◌, ◌⊎◌, inl, inr, ⊎_elim, ℕ, pos, ◌+◌, ◌<◌, ◌≤◌, true, false, List, [], ◌∷◌, ◌++◌, length, get_or, take, drop, map, refl, sym, ap, ◌∙◌, subst, append_assoc, arith, length-append, Option, Some, None, ltb-true}
use Rattle.std.specs.Prelude.{Contains}
use Rattle.std.specs.List.{AllByRecursion}
use Rattle.std.proofs.lemmas.Bool.{ltb-false}
use Rattle.std.proofs.lemmas.List.{append-nil, drop_at, drop_all}
use Rattle.pcp_base.specs.Time.{Moment, microseconds}
use Rattle.pcp_base.specs.declared.file.FileId.TheVariants.{Meta, Volume}
use Rattle.pcp_base.specs.declared.result.Item.{Item}
use Rattle.pcp_model.specs.declared.records.Entry.{Entry}
use Rattle.pcp_model.specs.declared.records.MetaRecord.{MetaRecord}
use Rattle.pcp_model.specs.Archive.{ArchiveContents, AreRead, LabelledFile, IsMeta, IsLastVolume, AreVolumes, IsArchive, items_of}
use Rattle.pcp_model.specs.Disk.{Files}
use Rattle.pcp_model.specs.Frame.{frames, IsTorn}
use Rattle.pcp_model.specs.LabelFields.{LabelFields}
use Rattle.pcp_model.specs.Payload.{stamp_of, IsItem}
use Rattle.pcp_model.specs.Records.{IsRecord}
use Rattle.pcp_model.specs.Sound.{NeverFalls, IsBoundary}
use Rattle.pcp_model.proofs.Cuts.{length_of_label}
use Rattle.pcp_model.proofs.Lists.{each-map}
use Rattle.pcp_model.proofs.Sound.{label_boundary}
use Rattle.pcp_outside.specs.Causes.{shown_count}
use Rattle.archive_loading.specs.Loaded.{IsHeaded, Rises, IsLabelledArchive, numbers}
use Rattle.archive_loading.specs.Stamps.{domain_stamps}
use Rattle.archive_reader.specs.Searches.{items_before}
use Rattle.archive_reader.proofs.Archives.{Matches, IsSameAs, same_as}
use Rattle.archive_reader.proofs.Founds.{IsOf, is_of, up}
use Rattle.archive_check.specs.declared.marks.Mark.{Mark}
use Rattle.archive_check.specs.declared.marks.Mark.TheVariants.{Ahead, Passed}
use Rattle.archive_check.specs.declared.tally.Tally.{Tally}
use Rattle.archive_check.specs.Breaches.{AtBoundary, IsFilled, Falls}
use Rattle.archive_check.specs.Looked.{time_in, top_of, is_above, MetaSays, VolumeSays, EntryKnown, domains_of, IsRead, IsSeen}
use Rattle.archive_check.specs.Marks.{Known, IsPut}
use Rattle.archive_check.specs.Stamped.{Stamps, Holds, all_of}
use Rattle.archive_check.specs.Tallies.{Climbs, FirstFall, IsTally, latest}
use Rattle.archive_check.specs.Walked.{MarkSays, Walked, stamped, HoldItems, AllWalked}
use Rattle.archive_check.proofs.Deciding.{Climb, before_here, before_later, all_domains}
use Rattle.archive_check.proofs.Seeking.{all_stamped}
use Rattle.archive_check.proofs.Tallied.{all_append}

-- ---- files that are read

meta_read : (ps : List (List ℕ)) (rs : List MetaRecord) → AreRead IsRecord ps rs → AreRead (Stamps Meta) ps (domains_of rs)
meta_read [] [] read = tt
meta_read [] (r ∷ rs) read = absurd (read tt)
meta_read (p ∷ ps) [] read = absurd (read tt)
meta_read (p ∷ ps) (r ∷ rs) read = (read.0, (r, read.1, refl), meta_read ps rs read.2)

items_read : (n : ℕ) (ps : List (List ℕ)) (xs : List Item) → AreRead IsItem ps xs → AreRead (Stamps (Volume n)) ps (stamped xs)
items_read n [] [] read = tt
items_read n [] (x ∷ xs) read = absurd (read tt)
items_read n (p ∷ ps) [] read = absurd (read tt)
items_read n (p ∷ ps) (x ∷ xs) read = (read.0, (x, read.1, refl), items_read n ps xs read.2)

pub meta_holds : (bytes : List ℕ) (c : ArchiveContents) → IsMeta bytes c → Holds Meta (drop 132 bytes) (domains_of c.records)
meta_holds bytes c m = record {
  payloads = m.holds.payloads;
  read = meta_read m.holds.payloads c.records m.holds.read;
  torn = m.torn;
  is_torn = m.is_torn;
  stand = ap (drop 132) m.holds.is ∙ drop_at m.holds.head (frames m.holds.payloads ++ m.torn) 132 (length_of_label m.holds.head c.label _ m.holds.label);
}

file_holds : (bytes : List ℕ) (l : LabelFields) (n number : ℕ) (items : List Item) (torn : List ℕ) → IsTorn torn → LabelledFile IsItem bytes l (pos n) items torn → Holds (Volume number) (drop 132 bytes) (stamped items)
file_holds bytes l n number items torn is_torn h = record {
  payloads = h.payloads;
  read = items_read number h.payloads items h.read;
  torn = torn;
  is_torn = is_torn;
  stand = ap (drop 132) h.is ∙ drop_at h.head (frames h.payloads ++ torn) 132 (length_of_label h.head l (pos n) h.label);
}

last_holds : (bytes : List ℕ) (l : LabelFields) (n number : ℕ) (items : List Item) → IsLastVolume bytes l n items → Holds (Volume number) (drop 132 bytes) (stamped items)
last_holds bytes l n number items (inl (some, none, begins)) =
    subst (λ xs. Holds (Volume number) (drop 132 bytes) (stamped xs)) (sym none) (record { payloads = []; read = tt; torn = []; is_torn = inl (omega arith); stand = drop_all 132 bytes (omega (arith, begins.short)) })
last_holds bytes l n number items (inr (torn, is_torn, h)) = file_holds bytes l n number items torn is_torn h

pub items_hold : (files : Files) (l : LabelFields) (vs : List (ℕ × ℕ)) (cs : List (ℕ × List Item)) → Matches files vs cs → AreVolumes files l cs → HoldItems files vs cs
items_hold files l [] [] match are = tt
items_hold files l [] (c ∷ cs) match are = absurd match
items_hold files l (v ∷ vs) [] match are = absurd match
items_hold files l (v ∷ vs) (c ∷ []) match are =
    (match.0, subst (λ k. Holds (Volume v.0) (drop 132 (files (Volume k))) (stamped c.1)) (sym match.0) (last_holds (files (Volume c.0)) l c.0 v.0 c.1 are), items_hold files l vs [] match.2 tt)
items_hold files l (v ∷ vs) (c ∷ d ∷ cs) match are =
    (match.0, subst (λ k. Holds (Volume v.0) (drop 132 (files (Volume k))) (stamped c.1)) (sym match.0) (file_holds (files (Volume c.0)) l c.0 v.0 c.1 [] (inl (omega arith)) are.0), items_hold files l vs (d ∷ cs) match.2 are.2)

headed_filled : (files : Files) (l : LabelFields) (vs : List (ℕ × ℕ)) → AllByRecursion (IsHeaded files l) vs → AllByRecursion (λ (v : ℕ × ℕ). IsFilled files v.0) vs
headed_filled files l vs all = each-map (IsHeaded files l) (λ (v : ℕ × ℕ). IsFilled files v.0) (λ v h. omega (arith, h.0, h.1)) vs all

pub is_read : (files : Files) (c : ArchiveContents) (l : LabelFields) (records : List MetaRecord) (entries : List Entry) (vs : List (ℕ × ℕ)) → IsArchive files c → IsLabelledArchive files l records entries vs → IsRead files c vs entries
is_read files c l records entries vs archive kept =
    let same : IsSameAs files c l records entries vs = same_as files c l records entries vs archive kept in
    record {
      entries_are = same.entries_are;
      meta = meta_holds (files Meta) c archive.meta;
      items = items_hold files l vs c.volumes same.volumes same.are;
      rises = kept.labelled.1;
      filled = headed_filled files l vs kept.labelled.0;
      others = kept.others;
    }

-- ---- volumes one behind another

-- the items' numbers rise as those of the volumes
pub climbs : (files : Files) (vs : List (ℕ × ℕ)) (cs : List (ℕ × List Item)) → HoldItems files vs cs → Rises vs → Climb cs
climbs files [] [] hold rises = tt
climbs files [] (c ∷ cs) hold rises = absurd hold
climbs files (v ∷ vs) [] hold rises = absurd hold
climbs files (v ∷ vs) (c ∷ cs) hold rises = (above vs cs hold.2 rises.0, climbs files vs cs hold.2 rises.1)
  where
    above : (ws : List (ℕ × ℕ)) (ds : List (ℕ × List Item)) → HoldItems files ws ds → AllByRecursion (λ (w : ℕ × ℕ). v.0 < w.0) ws → AllByRecursion (λ (d : ℕ × List Item). c.0 < d.0) ds
    above [] [] h all = tt
    above [] (d ∷ ds) h all = absurd h
    above (w ∷ ws) [] h all = absurd h
    above (w ∷ ws) (d ∷ ds) h all = (omega (arith, all.0, hold.0, h.0), above ws ds h.2 all.1)

abbrev pub IsIn : ℕ → List (ℕ × List Item) → Type 0
IsIn n [] = ⊥
IsIn n (c ∷ cs) = (c.0 ≡ n) ⊎ IsIn n cs

above_in : (n : ℕ) (c : ℕ × List Item) (cs : List (ℕ × List Item)) → AllByRecursion (λ (d : ℕ × List Item). c.0 < d.0) cs → IsIn n cs → c.0 < n
above_in n c [] all there = absurd there
above_in n c (d ∷ cs) all (inl same) = omega (arith, all.0, same)
above_in n c (d ∷ cs) all (inr there) = above_in n c cs all.1 there

stamped_append : (xs ys : List Item) → stamped (xs ++ ys) ≡ stamped xs ++ stamped ys
stamped_append [] ys = refl
stamped_append (x ∷ xs) ys = ap (λ l. (stamp_of x ∷ []) ∷ l) (stamped_append xs ys)

take_stamped : (k : ℕ) (xs : List Item) → take k (stamped xs) ≡ stamped (take k xs)
take_stamped zero xs = refl
take_stamped (suc k) [] = refl
take_stamped (suc k) (x ∷ xs) = ap (λ l. (stamp_of x ∷ []) ∷ l) (take_stamped k xs)

take_domains : (k : ℕ) (rs : List MetaRecord) → take k (domains_of rs) ≡ domains_of (take k rs)
take_domains zero rs = refl
take_domains (suc k) [] = refl
take_domains (suc k) (r ∷ rs) = ap (λ l. domain_stamps (r ∷ []) ∷ l) (take_domains k rs)

-- no walk of a volume touches other codes
untouched : (files : Files) (before : List (List Moment)) (cs : List (ℕ × List Item)) (old new : Known) (t : Tally) → AllWalked files before cs old new t → (code : ℕ) → AllByRecursion (λ (d : ℕ × List Item). d.0 + 1 ≡ code → ⊥) cs → (offset : ℕ) → new code offset ≡ old code offset
untouched files before [] old new t w code apart offset = ap (λ (k : Known). k code offset) w.0
untouched files before (c ∷ cs) old new t (mid, u, first, more) code apart offset = untouched files (before ++ stamped c.1) cs mid new t more code apart.1 offset ∙ first.others code offset apart.0

pub tally_of : (files : Files) (before : List (List Moment)) (cs : List (ℕ × List Item)) (old new : Known) (t : Tally) → AllWalked files before cs old new t → IsTally (before ++ stamped (items_of cs)) t
tally_of files before [] old new t w = subst (λ l. IsTally l t) (sym (append-nil before)) w.1
tally_of files before (c ∷ cs) old new t (mid, u, first, more) =
    subst (λ l. IsTally l t) (append_assoc before (stamped c.1) (stamped (items_of cs)) ∙ ap (λ l. before ++ l) (sym (stamped_append c.1 (items_of cs)))) (tally_of files (before ++ stamped c.1) cs mid new t more)

-- the mark of an offset of a volume
abbrev pub SaysIn : Files → List Moment → List (ℕ × List Item) → ℕ → ℕ → Option Mark → Type 0
SaysIn files before cs n offset None = ⊥
SaysIn files before cs n offset (Some Ahead) = AtBoundary (files (Volume n)) offset → ⊥
SaysIn files before cs n offset (Some (Passed time)) = (k : ℕ) × IsBoundary (files (Volume n)) offset k × (time ≡ latest (before ++ map stamp_of (items_before n k cs)))

says_here : (files : Files) (before : List Moment) (c : ℕ × List Item) (cs : List (ℕ × List Item)) (n offset : ℕ) → c.0 ≡ n → (m : Option Mark) → MarkSays (files (Volume c.0)) before (stamped c.1) offset m → SaysIn files before (c ∷ cs) n offset m
says_here files before c cs n offset same None f = f
says_here files before c cs n offset same (Some Ahead) f = λ there. f (subst (λ k. AtBoundary (files (Volume k)) offset) (sym same) there)
says_here files before c cs n offset same (Some (Passed time)) (k, b, is) = (
  k,
  subst (λ i. IsBoundary (files (Volume i)) offset k) same b,
  is ∙ ap (λ l. latest (before ++ l)) (ap all_of (take_stamped k c.1) ∙ all_stamped (take k c.1) ∙ ap (map stamp_of) (sym (before_here n k c cs same))),
)

says_later : (files : Files) (before : List (List Moment)) (c : ℕ × List Item) (cs : List (ℕ × List Item)) (n offset : ℕ) → c.0 < n → (m : Option Mark) → SaysIn files (all_of (before ++ stamped c.1)) cs n offset m → SaysIn files (all_of before) (c ∷ cs) n offset m
says_later files before c cs n offset lt None f = f
says_later files before c cs n offset lt (Some Ahead) f = f
says_later files before c cs n offset lt (Some (Passed time)) (k, b, is) = (
  k,
  b,
  is ∙ ap (λ l. latest (l ++ map stamp_of (items_before n k cs))) (all_append before (stamped c.1) ∙ ap (λ l. all_of before ++ l) (all_stamped c.1))
      ∙ ap latest (append_assoc (all_of before) (map stamp_of c.1) (map stamp_of (items_before n k cs)) ∙ ap (λ l. all_of before ++ l) (sym (map_append c.1 (items_before n k cs)) ∙ ap (map stamp_of) (sym (before_later n k c cs lt)))),
)
  where
    map_append : (xs ys : List Item) → map stamp_of (xs ++ ys) ≡ map stamp_of xs ++ map stamp_of ys
    map_append [] ys = refl
    map_append (x ∷ xs) ys = ap (λ l. stamp_of x ∷ l) (map_append xs ys)

apart_above : (c : ℕ × List Item) (cs : List (ℕ × List Item)) → AllByRecursion (λ (d : ℕ × List Item). c.0 < d.0) cs → AllByRecursion (λ (d : ℕ × List Item). d.0 + 1 ≡ c.0 + 1 → ⊥) cs
apart_above c cs all = each-map (λ (d : ℕ × List Item). c.0 < d.0) (λ (d : ℕ × List Item). d.0 + 1 ≡ c.0 + 1 → ⊥) (λ d lt same. omega (arith, lt, same)) cs all

pub mark_in : (files : Files) (before : List (List Moment)) (cs : List (ℕ × List Item)) (old new : Known) (t : Tally) → AllWalked files before cs old new t → Climb cs → (n offset : ℕ) → IsIn n cs → old (n + 1) offset ≡ Some Ahead → SaysIn files (all_of before) cs n offset (new (n + 1) offset)
mark_in files before [] old new t w climb n offset there ahead = absurd there
mark_in files before (c ∷ cs) old new t (mid, u, first, more) climb n offset (inl same) ahead =
    let here : old (c.0 + 1) offset ≡ Some Ahead = subst (λ k. old (k + 1) offset ≡ Some Ahead) (sym same) ahead in
    let said : SaysIn files (all_of before) (c ∷ cs) n offset (mid (c.0 + 1) offset) = says_here files (all_of before) c cs n offset same (mid (c.0 + 1) offset) (first.marks offset here) in
    let later : new (c.0 + 1) offset ≡ mid (c.0 + 1) offset = untouched files (before ++ stamped c.1) cs mid new t more (c.0 + 1) (apart_above c cs climb.0) offset in
    subst (SaysIn files (all_of before) (c ∷ cs) n offset) (sym later ∙ ap (λ k. new (k + 1) offset) same) said
mark_in files before (c ∷ cs) old new t (mid, u, first, more) climb n offset (inr there) ahead =
    let lt : c.0 < n = above_in n c cs climb.0 there in
    let still : mid (n + 1) offset ≡ Some Ahead = first.others (n + 1) offset (λ same. omega (arith, lt, same)) ∙ ahead in
    says_later files before c cs n offset lt (new (n + 1) offset) (mark_in files (before ++ stamped c.1) cs mid new t more climb.1 n offset there still)

-- ---- filled volumes

in_of : (files : Files) (n : ℕ) (vs : List (ℕ × ℕ)) (cs : List (ℕ × List Item)) → HoldItems files vs cs → IsOf n vs → IsIn n cs
in_of files n [] cs hold there = absurd there
in_of files n (v ∷ vs) [] hold there = absurd hold
in_of files n (v ∷ vs) (c ∷ cs) hold (inl same) = inl (sym hold.0 ∙ same)
in_of files n (v ∷ vs) (c ∷ cs) hold (inr there) = inr (in_of files n vs cs hold.2 there)

filled_of : (files : Files) (n : ℕ) (vs : List (ℕ × ℕ)) → AllByRecursion (λ (v : ℕ × ℕ). IsFilled files v.0) vs → IsOf n vs → IsFilled files n
filled_of files n [] all there = absurd there
filled_of files n (v ∷ vs) all (inl same) = subst (IsFilled files) same all.0
filled_of files n (v ∷ vs) all (inr there) = filled_of files n vs all.1 there

apart_from : (files : Files) (n : ℕ) (vs : List (ℕ × ℕ)) (cs : List (ℕ × List Item)) → HoldItems files vs cs → (Contains (numbers vs) n → ⊥) → AllByRecursion (λ (d : ℕ × List Item). d.0 + 1 ≡ n + 1 → ⊥) cs
apart_from files n [] [] hold none = tt
apart_from files n [] (c ∷ cs) hold none = absurd hold
apart_from files n (v ∷ vs) [] hold none = absurd hold
apart_from files n (v ∷ vs) (c ∷ cs) hold none =
    (λ same. none (0, omega arith, let e : v.0 ≡ n = omega (arith, same, hold.0) in e), apart_from files n vs cs hold.2 (λ (k, lt, is). none (suc k, omega (arith, lt), is)))

apart_zero : (cs : List (ℕ × List Item)) → AllByRecursion (λ (d : ℕ × List Item). d.0 + 1 ≡ 0 → ⊥) cs
apart_zero [] = tt
apart_zero (c ∷ cs) = (λ same. omega (arith, same), apart_zero cs)

top_of_all : (files : Files) (vs : List (ℕ × ℕ)) → Rises vs → (top : ℕ) → top_of vs ≡ Some top → IsOf top vs × ((n : ℕ) → IsOf n vs → n ≤ top)
top_of_all files [] rises top is = absurd (let both : None ≡ Some top = is in cc)
top_of_all files (v ∷ []) rises top is = let same : v.0 ≡ top = (let both : Some v.0 ≡ Some top = is in cc) in (inl same, one same)
  where
    one : v.0 ≡ top → (n : ℕ) → IsOf n (v ∷ []) → n ≤ top
    one same n (inl e) = omega (arith, same, e)
    one same n (inr e) = absurd e
top_of_all files (v ∷ w ∷ vs) rises top is = let more = top_of_all files (w ∷ vs) rises.1 top is in (inr more.0, each more.0 more.1)
  where
    each : IsOf top (w ∷ vs) → ((n : ℕ) → IsOf n (w ∷ vs) → n ≤ top) → (n : ℕ) → IsOf n (v ∷ w ∷ vs) → n ≤ top
    each there all n (inl e) = let lt : v.0 < top = up v top (w ∷ vs) rises.0 there in omega (arith, lt, e)
    each there all n (inr e) = all n e

none_top : (vs : List (ℕ × ℕ)) → top_of vs ≡ None → (n : ℕ) → IsOf n vs → ⊥
none_top [] is n there = there
none_top (v ∷ []) is n there = let both : Some v.0 ≡ None = is in cc
none_top (v ∷ w ∷ vs) is n there = none_top (w ∷ vs) is w.0 (inl refl)

-- ---- the last volume

pub top_last : (vs : List (ℕ × ℕ)) (k : ℕ) (d : ℕ × ℕ) → length vs ≡ suc k → Some (get_or vs k d).0 ≡ top_of vs
top_last [] k d e = absurd (omega (arith, e))
top_last (v ∷ []) zero d e = refl
top_last (v ∷ []) (suc k) d e = absurd (omega (arith, e))
top_last (v ∷ w ∷ vs) zero d e = absurd (omega (arith, e))
top_last (v ∷ w ∷ vs) (suc k) d e = top_last (w ∷ vs) k d (omega (arith, e))

pub no_top : (vs : List (ℕ × ℕ)) → length vs ≡ 0 → None ≡ top_of vs
no_top [] e = refl
no_top (v ∷ vs) e = absurd (omega (arith, e))

-- ---- each entry

module _ (files : Files) (c : ArchiveContents) (vs : List (ℕ × ℕ)) (entries : List Entry) (r : IsRead files c vs entries) where
  pub filled_is : (n : ℕ) → IsFilled files n → IsOf n vs
  filled_is n some = ⊎_elim (λ (there : IsOf n vs). there) (λ (none : Contains (numbers vs) n → ⊥). absurd (let empty : files (Volume n) ≡ [] = r.others n none in omega (arith, some, ap length empty))) (is_of n vs)

  above_is : (n : ℕ) (o : Option ℕ) → top_of vs ≡ o → is_above o n ≡ true → (m : ℕ) → IsFilled files m → m < n
  above_is n None is so m some = absurd (none_top vs is m (filled_is m some))
  above_is n (Some top) is so m some = let le : m ≤ top = (top_of_all files vs r.rises top is).1 m (filled_is m some) in let lt : top < n = ltb-true top n so in omega (arith, le, lt)

  not_above_is : (n : ℕ) (o : Option ℕ) → top_of vs ≡ o → is_above o n ≡ false → (m : ℕ) × IsFilled files m × (n ≤ m)
  not_above_is n None is so = absurd (let both : true ≡ false = so in cc)
  not_above_is n (Some top) is so = (top, filled_of files top vs r.filled (top_of_all files vs r.rises top is).0, ltb-false top n so)

  meta_says : (offset : ℕ) (m : Option Mark) → MarkSays (files Meta) [] (domains_of c.records) offset m → MetaSays files c.records offset (time_in m)
  meta_says offset None f = absurd f
  meta_says offset (Some Ahead) f = f
  meta_says offset (Some (Passed time)) (k, b, is) = (k, b, is ∙ ap latest (ap all_of (take_domains k c.records) ∙ all_domains (take k c.records)))

  volume_says : (n offset : ℕ) (m : Option Mark) → SaysIn files [] c.volumes n offset m → VolumeSays files c.volumes n offset (time_in m)
  volume_says n offset None f = absurd f
  volume_says n offset (Some Ahead) f = f
  volume_says n offset (Some (Passed time)) f = f

  start_passed : (n : ℕ) (m : Option Mark) → SaysIn files [] c.volumes n 132 m → time_in m ≡ None → ⊥
  start_passed n None f e = f
  start_passed n (Some Ahead) f e = f (0, label_boundary (files (Volume n)))
  start_passed n (Some (Passed time)) f e = let both : Some time ≡ None = e in cc

  module _ (first mid last : Known) (t u : Tally) (meta : Walked Meta (files Meta) [] (domains_of c.records) first mid t) (volumes : AllWalked files [] c.volumes mid last u) where
    climb : Climb c.volumes
    climb = climbs files vs c.volumes r.items r.rises

    mid_ahead : (n offset : ℕ) → first (n + 1) offset ≡ Some Ahead → mid (n + 1) offset ≡ Some Ahead
    mid_ahead n offset ahead = meta.others (n + 1) offset (λ same. omega (arith, same)) ∙ ahead

    says_of : (n offset : ℕ) → first (n + 1) offset ≡ Some Ahead → IsFilled files n → SaysIn files [] c.volumes n offset (last (n + 1) offset)
    says_of n offset ahead some = mark_in files [] c.volumes mid last u volumes climb n offset (in_of files n vs c.volumes r.items (filled_is n some)) (mid_ahead n offset ahead)

    unfilled : (n offset : ℕ) → first (n + 1) offset ≡ Some Ahead → (Contains (numbers vs) n → ⊥) → last (n + 1) offset ≡ Some Ahead
    unfilled n offset ahead none = untouched files [] c.volumes mid last u volumes (n + 1) (apart_from files n vs c.volumes r.items none) offset ∙ mid_ahead n offset ahead

    entry_known : (e : Entry) → IsPut first e → EntryKnown files c (top_of vs) last e
    entry_known e put = record {
      above = λ so n some. above_is e.volume (top_of vs) refl so n some;
      not_above = not_above_is e.volume (top_of vs) refl;
      empty = λ none some. start_passed e.volume (last (e.volume + 1) 132) (says_of e.volume 132 put.start some) none;
      filled = λ n is. ⊎_elim (λ (there : IsOf e.volume vs). filled_of files e.volume vs r.filled there)
          (λ (none : Contains (numbers vs) e.volume → ⊥). absurd (let both : None ≡ Some n = sym (ap time_in (unfilled e.volume 132 put.start none)) ∙ is in cc)) (is_of e.volume vs);
      meta = meta_says e.meta (last 0 e.meta) (subst (MarkSays (files Meta) [] (domains_of c.records) e.meta) (sym (untouched files [] c.volumes mid last u volumes 0 (apart_zero c.volumes) e.meta)) (meta.marks e.meta put.meta));
      volume = λ some. volume_says e.volume e.offset (last (e.volume + 1) e.offset) (says_of e.volume e.offset put.volume some);
    }

    all_known : (es : List Entry) → AllByRecursion (IsPut first) es → AllByRecursion (EntryKnown files c (top_of vs) last) es
    all_known es all = each-map (IsPut first) (EntryKnown files c (top_of vs) last) entry_known es all

    pub is_seen : AllByRecursion (IsPut first) entries → IsSeen files c vs entries last
    is_seen all = record { read = r; known_all = all_known entries all }

    pub tally_is : IsTally (stamped (items_of c.volumes)) u
    tally_is = tally_of files [] c.volumes mid last u volumes

-- ---- items that fall

count_stamped : (items : List Item) → length (stamped items) ≡ length items
count_stamped [] = refl
count_stamped (x ∷ items) = ap suc (count_stamped items)

pub never_falls : (items : List Item) → Climbs (map stamp_of items) → NeverFalls items
never_falls [] rise = tt
never_falls (x ∷ []) rise = tt
never_falls (x ∷ y ∷ items) rise = (rise.0, never_falls (y ∷ items) rise.1)

-- items by their stamps, parted
record Parted (xs : List Item) (front : List Moment) (a b : Moment) : Type 0 where
  pub pre : List Item
  pub x : Item
  pub y : Item
  pub post : List Item
  pub are : xs ≡ pre ++ x ∷ y ∷ post
  pub pre_is : map stamp_of pre ≡ front
  pub x_is : stamp_of x ≡ a
  pub y_is : stamp_of y ≡ b

head_of : (a b : Moment) (xs ys : List Moment) → a ∷ xs ≡ b ∷ ys → (a ≡ b) × (xs ≡ ys)
head_of a b xs ys e = (let one : a ≡ b = cc in one, let two : xs ≡ ys = cc in two)

parted : (a b : Moment) (behind : List Moment) (xs : List Item) (front : List Moment) → map stamp_of xs ≡ front ++ a ∷ b ∷ behind → Parted xs front a b
parted a b behind [] front e = absurd (omega (arith, ap length e, length-append front (a ∷ b ∷ behind)))
parted a b behind (x ∷ []) [] e = absurd (omega (arith, ap length e))
parted a b behind (x ∷ y ∷ xs) [] e =
    let one = head_of (stamp_of x) a (stamp_of y ∷ map stamp_of xs) (b ∷ behind) e in
    let two = head_of (stamp_of y) b (map stamp_of xs) behind one.1 in
    record { pre = []; x = x; y = y; post = xs; are = refl; pre_is = refl; x_is = one.0; y_is = two.0 }
parted a b behind (x ∷ xs) (m ∷ front) e =
    let one = head_of (stamp_of x) m (map stamp_of xs) (front ++ a ∷ b ∷ behind) e in
    let more : Parted xs front a b = parted a b behind xs front one.1 in
    record { pre = x ∷ more.pre; x = more.x; y = more.y; post = more.post; are = ap (λ l. x ∷ l) more.are; pre_is = ap (λ l. stamp_of x ∷ l) more.pre_is ∙ ap (λ n. n ∷ front) one.0; x_is = more.x_is; y_is = more.y_is }

map_push : (xs : List Item) (x : Item) → map stamp_of (xs ++ x ∷ []) ≡ map stamp_of xs ++ stamp_of x ∷ []
map_push [] x = refl
map_push (y ∷ xs) x = ap (λ l. stamp_of y ∷ l) (map_push xs x)

pub falls_in : (items : List Item) (fall : Moment × Moment) → FirstFall (map stamp_of items) fall → Falls items fall.0 fall.1
falls_in items fall f =
    let p : Parted items f.front fall.0 fall.1 = parted fall.0 fall.1 f.behind items f.front f.are in
    record {
      front = p.pre;
      x = p.x;
      y = p.y;
      behind = p.post;
      are = p.are;
      good = never_falls (p.pre ++ p.x ∷ []) (subst Climbs (sym (map_push p.pre p.x ∙ ap (λ l. l ++ stamp_of p.x ∷ []) p.pre_is ∙ ap (λ s. f.front ++ s ∷ []) p.x_is)) f.good);
      first_is = sym p.x_is;
      second_is = sym p.y_is;
      falls = omega (arith, f.falls, ap microseconds p.x_is, ap microseconds p.y_is);
    }

pub count_is : (items : List Item) (t : Tally) → IsTally (stamped items) t → t.count ≡ shown_count (length items)
count_is items t is = is.count_is ∙ ap shown_count (count_stamped items)
