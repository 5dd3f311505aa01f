-- Where the record before a place ends, and the last item from there on or before it.
use Rattle.std.proofs.Common.{◌≡◌, ◌⊎◌, inl, inr, ⊎_elim, ℕ, ◌+◌, ◌<◌, ◌≤◌, Bool, true, false, List, [], ◌∷◌, ◌++◌, length, take, drop, refl, sym, ap, ◌∙◌, subst, arith, eq-eqb, Option, Some, None, Result, Ok, Err}
use Rattle.std.proofs.lemmas.Bool.{lt-ltb, le-ltb, ltb-false}
use Rattle.std.proofs.lemmas.List.{take_at, take_more, length-append, length-drop}
use Rattle.std.specs.List.{AllByRecursion}
use Rattle.std.specs.Prelude.{if◌then◌else◌, nat_lt, nat_eq, get_or, IfSome, IfErr}
use Rattle.pcp_base.specs.Time.{Moment}
use Rattle.pcp_base.specs.declared.file.FileId.TheVariants.{Volume}
use Rattle.pcp_base.specs.declared.result.Item.{Item}
use Rattle.pcp_model.proofs.Lists.{each-map}
use Rattle.pcp_model.specs.declared.records.Entry.{Entry}
use Rattle.pcp_model.specs.Disk.{Files}
use Rattle.archive_reader.specs.declared.beginning.Begin.TheVariants.{At, Outside}
use Rattle.archive_reader.specs.declared.fault.ReaderFault.{ReaderFault}
use Rattle.archive_reader.specs.Asked.{HasSegment, own_length, length_of, begin_in, begin_of, volumes_below, last_filled, first_at, back_end, IsBackAt, IsBackFault, IsLastOr, IsAtOn, IsAtOnFault}
use Rattle.archive_reader.specs.Lasts.{IsLastOn, StartsIn, BeginsWithin}
use Rattle.archive_loading.specs.Loaded.{IsMeasured, IsReachable}
use Rattle.archive_reader.specs.Searches.{or_else, last_of}
use Rattle.archive_reader.specs.Takes.{TakesSegment, TookLast, TakesAround}
use Rattle.archive_reader.specs.Walks.{volumes_from}

-- ---- volumes below a number and from it on

below_part : (n : ℕ) (vs : List (ℕ × ℕ)) → vs ≡ volumes_below n vs ++ volumes_from n vs
below_part n [] = refl
below_part n (v ∷ vs) = go (nat_lt v.0 n) (below_part n vs)
  where
    go : (b : Bool) → vs ≡ volumes_below n vs ++ volumes_from n vs → v ∷ vs ≡ (if b then v ∷ volumes_below n vs else []) ++ (if b then volumes_from n vs else v ∷ vs)
    go true more = ap (λ l. v ∷ l) more
    go false more = refl

pub below_is : (n : ℕ) (vs : List (ℕ × ℕ)) (i : ℕ) → drop i vs ≡ volumes_from n vs → i ≤ length vs → take i vs ≡ volumes_below n vs
below_is n vs i from within =
    let long : length (volumes_below n vs) ≡ i = omega (arith, within, ap length from, length-drop i vs, ap length (below_part n vs), length-append (volumes_below n vs) (volumes_from n vs)) in
    ap (take i) (below_part n vs) ∙ take_at (volumes_below n vs) (volumes_from n vs) i long

pub one_filled : (xs : List (ℕ × ℕ)) (v : ℕ × ℕ) → last_filled (xs ++ v ∷ []) ≡ (if nat_lt 132 v.1 then Some v else last_filled xs)
one_filled [] v = refl
one_filled (x ∷ xs) v = ap (λ o. or_else o (if nat_lt 132 x.1 then Some x else None)) (one_filled xs v) ∙ go (nat_lt 132 v.1)
  where
    go : (b : Bool) → or_else (if b then Some v else last_filled xs) (if nat_lt 132 x.1 then Some x else None) ≡ (if b then Some v else or_else (last_filled xs) (if nat_lt 132 x.1 then Some x else None))
    go true = refl
    go false = refl

-- the last of some volumes holds more than its label, or it doesn't
pub filled_here : (vs : List (ℕ × ℕ)) (i : ℕ) → i < length vs → 132 < (get_or vs i (0, 0)).1 → last_filled (take (i + 1) vs) ≡ Some (get_or vs i (0, 0))
filled_here vs i within more =
    ap last_filled (take_more vs i (0, 0) within) ∙ one_filled (take i vs) (get_or vs i (0, 0))
    ∙ ap (λ (b : Bool). if b then Some (get_or vs i (0, 0)) else last_filled (take i vs)) (lt-ltb 132 (get_or vs i (0, 0)).1 more)

pub filled_before : (vs : List (ℕ × ℕ)) (i : ℕ) → i < length vs → (get_or vs i (0, 0)).1 ≤ 132 → last_filled (take (i + 1) vs) ≡ last_filled (take i vs)
filled_before vs i within few =
    ap last_filled (take_more vs i (0, 0) within) ∙ one_filled (take i vs) (get_or vs i (0, 0))
    ∙ ap (λ (b : Bool). if b then Some (get_or vs i (0, 0)) else last_filled (take i vs)) (le-ltb 132 (get_or vs i (0, 0)).1 few)

-- ---- what holds of where the record before ends

filled_has : (P : ℕ × ℕ → Type 0) (vs : List (ℕ × ℕ)) → AllByRecursion P vs → IfSome (last_filled vs) P
filled_has P [] all = tt
filled_has P (v ∷ vs) all = go (last_filled vs) (nat_lt 132 v.1) (filled_has P vs all.1)
  where
    go : (o : Option (ℕ × ℕ)) (b : Bool) → IfSome o P → IfSome (or_else o (if b then Some v else None)) P
    go (Some w) b has = has
    go None true has = all.0
    go None false has = tt

below_has : (P : ℕ × ℕ → Type 0) (n : ℕ) (vs : List (ℕ × ℕ)) → AllByRecursion P vs → AllByRecursion P (volumes_below n vs)
below_has P n [] all = tt
below_has P n (v ∷ vs) all = go (nat_lt v.0 n) (below_has P n vs all.1)
  where
    go : (b : Bool) → AllByRecursion P (volumes_below n vs) → AllByRecursion P (if b then v ∷ volumes_below n vs else [])
    go true more = (all.0, more)
    go false more = tt

pub from_has : (P : ℕ × ℕ → Type 0) (n : ℕ) (vs : List (ℕ × ℕ)) → AllByRecursion P vs → AllByRecursion P (volumes_from n vs)
from_has P n [] all = tt
from_has P n (v ∷ vs) all = go (nat_lt v.0 n) (from_has P n vs all.1)
  where
    go : (b : Bool) → AllByRecursion P (volumes_from n vs) → AllByRecursion P (if b then volumes_from n vs else v ∷ vs)
    go true more = more
    go false more = all

back_has : (P : ℕ × ℕ → Type 0) (volumes : List (ℕ × ℕ)) (n offset : ℕ) → AllByRecursion P volumes → ((offset ≡ 132 → ⊥) → IfSome (first_at offset (volumes_from n volumes)) P) → IfSome (back_end volumes n offset) P
back_has P volumes n offset all other = go (nat_eq offset 132) refl
  where
    go : (b : Bool) → nat_eq offset 132 ≡ b → IfSome (if b then last_filled (volumes_below n volumes) else first_at offset (volumes_from n volumes)) P
    go true e = filled_has P (volumes_below n volumes) (below_has P n volumes all)
    go false e = other (λ same. let both : true ≡ false = sym (eq-eqb offset 132 same) ∙ e in cc)

first_numbered : (offset : ℕ) (vs : List (ℕ × ℕ)) → IsReachable vs → IfSome (first_at offset vs) (λ v. v.0 < 4294967295)
first_numbered offset [] all = tt
first_numbered offset (v ∷ vs) all = all.0

pub back_numbered : (volumes : List (ℕ × ℕ)) (n offset : ℕ) → IsReachable volumes → IfSome (back_end volumes n offset) (λ v. v.0 < 4294967295)
back_numbered volumes n offset all =
    back_has (λ v. v.0 < 4294967295) volumes n offset all (λ other. first_numbered offset (volumes_from n volumes) (from_has (λ v. v.0 < 4294967295) n volumes all))

first_within : (files : Files) (offset : ℕ) (vs : List (ℕ × ℕ)) → AllByRecursion (IsMeasured files) vs → StartsIn vs offset → IfSome (first_at offset vs) (λ v. v.1 ≤ length (files (Volume v.0)))
first_within files offset [] all starts = tt
first_within files offset (v ∷ vs) all starts = omega (arith, all.0, starts)

pub back_within : (files : Files) (volumes : List (ℕ × ℕ)) (n offset : ℕ) → AllByRecursion (IsMeasured files) volumes → (offset ≡ 132) ⊎ StartsIn (volumes_from n volumes) offset
    → IfSome (back_end volumes n offset) (λ v. v.1 ≤ length (files (Volume v.0)))
back_within files volumes n offset all begins =
    back_has (λ v. v.1 ≤ length (files (Volume v.0))) volumes n offset (each-map (IsMeasured files) (λ (v : ℕ × ℕ). v.1 ≤ length (files (Volume v.0))) (λ v same. omega (arith, same)) volumes all)
    (λ other. first_within files offset (volumes_from n volumes) (from_has (IsMeasured files) n volumes all) (⊎_elim (λ same. absurd (other same)) (λ starts. starts) begins))

-- ---- where a search begins

starts_in : (n : ℕ) (vs : List (ℕ × ℕ)) (end offset : ℕ) → own_length n vs ≡ Some end → offset ≤ end → StartsIn vs offset
starts_in n [] end offset is le = tt
starts_in n (v ∷ vs) end offset is le = go (nat_eq v.0 n) is
  where
    go : (b : Bool) → (if b then Some v.1 else None) ≡ Some end → offset ≤ v.1
    go true same = let e : v.1 ≡ end = cc in omega (arith, e, le)
    go false none = absurd (let e : None ≡ Some end = none in cc)

pub begins_within : (volumes : List (ℕ × ℕ)) (entry : Option Entry) → BeginsWithin volumes (begin_of volumes entry)
begins_within volumes None = inl refl
begins_within volumes (Some e) = go (length_of e.volume volumes) refl
  where
    test : (end : ℕ) → length_of e.volume volumes ≡ Some end → (b c : Bool) → nat_lt end e.offset ≡ c
        → BeginsWithin volumes (if b then Outside e.volume e.offset else (if c then Outside e.volume e.offset else At e.volume e.offset))
    test end is true c le = tt
    test end is false true le = tt
    test end is false false le = inr (starts_in e.volume (volumes_from e.volume volumes) end e.offset is (ltb-false end e.offset le))

    go : (o : Option ℕ) → length_of e.volume volumes ≡ o → BeginsWithin volumes (begin_in volumes e o)
    go None is = inl refl
    go (Some end) is = test end is (nat_lt e.offset 132) (nat_lt end e.offset) refl

-- ---- the last item

none_last : (items : List Item) → None ≡ last_of items → items ≡ []
none_last [] none = refl
none_last (x ∷ items) none = absurd (go (last_of items) none)
  where
    go : (o : Option Item) → None ≡ or_else o (Some x) → ⊥
    go None e = cc
    go (Some y) e = cc

module _ (files : Files) (vs : List (ℕ × ℕ)) (at : ℕ) (back : Option (ℕ × ℕ)) (t : Moment) where
  pub last_is_in : (x : Item) → IsLastOn files vs at t (Some x) → IsAtOn files vs at back t (Some x)
  last_is_in x l = record { items = l.items; segment = l.segment; is = subst (λ o. IsLastOr files back t o (Some x)) l.is refl }

  pub last_is_before : (found : Option Item) → IsLastOn files vs at t None → IsBackAt files back t found → IsAtOn files vs at back t found
  last_is_before found l b = record { items = l.items; segment = l.segment; is = subst (λ o. IsLastOr files back t o found) l.is b }

  pub none_before : (e : ReaderFault) → IsLastOn files vs at t None → IsBackFault files back e → IsAtOnFault files vs at back t e
  none_before e l b = inr (subst (HasSegment files vs at t) (none_last l.items l.is) l.segment, b)

  pub none_faults : (r : Result (Option Item) ReaderFault) → IsLastOn files vs at t None → IfErr r (IsBackFault files back) → IfErr r (IsAtOnFault files vs at back t)
  none_faults (Ok x) l f = tt
  none_faults (Err e) l f = none_before e l f

  back_untouched : (o : Option (ℕ × ℕ)) (n : ℕ) → TookLast files o n n
  back_untouched None n = omega arith
  back_untouched (Some v) n = record { count = 0; part = inl refl; most = omega arith }

  pub segment_alone : (before after : ℕ) → TakesSegment files vs at t before after → TakesAround files vs at back t before after
  segment_alone before after s = record { mid = after; segment = s; back_part = back_untouched back after }
