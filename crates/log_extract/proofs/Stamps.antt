-- The sets of a stamp, taken from one source and from both.
use Rattle.std.proofs.Common.{◌≡◌, ℕ, Bool, true, false, List, [], ◌∷◌, ◌++◌, length, take, drop, refl, sym, ap, ◌∙◌, subst, arith, length-append, Option, Some, None}
use Rattle.std.specs.List.{AllByRecursion}
use Rattle.std.proofs.lemmas.Bool.{eqb-true, eqb-false}
use Rattle.std.proofs.lemmas.List.Sums.{fold-append}
use Rattle.std.proofs.Math.Seq.{drop-append_seam}
use Rattle.pcp_base.specs.Time.{Moment, microseconds}
use Rattle.pcp_base.specs.declared.result.Item.{Item}
use Rattle.pcp_base.specs.declared.result.PmResult.{PmResult}
use Rattle.pcp_base.specs.declared.result.ValueSet.{ValueSet}
use Rattle.pcp_model.proofs.Lists.{each-map}
use Rattle.pcp_model.specs.Disk.{Files}
use Rattle.archive_loading.specs.Loaded.{IsOver, Loaded}
use Rattle.archive_reader.specs.declared.places.Place.{Place}
use Rattle.archive_reader.specs.Walks.{AllFrom, volumes_from}
use Rattle.archive_merge.specs.Merging.{IsNew, is_at, samples_of, sets_at, sets_of_both, sets_of_first, with_set, with_sets}
use Rattle.archive_merge.specs.Order.{AllBehind, Behind, NoneBefore, NotBefore, Rises, after}
use Rattle.archive_merge.proofs.Grown.{Grows, grown}
use Rattle.archive_merge.proofs.Steps.{all_after, none_at, one_after, one_at}
use Rattle.log_extract.specs.declared.cursor.Cursor.{Cursor}
use Rattle.log_extract.specs.Cursors.{AreBehind, AreParted, IsNextSample, Leaves, StandFrom, TakesBoth, TakesStamp, is_due}
use Rattle.log_extract.proofs.Steps.{IsHead}

-- ---- one result on

-- what was found is what the cursor then has
abbrev pub NowAt : Cursor → Option (PmResult × Place) → Type 0
NowAt cursor None = cursor.next ≡ None
NowAt cursor (Some found) = (cursor.next ≡ Some found.0) × (cursor.place ≡ found.1)

-- the results behind the next one
pub record GoesOn (files : Files) (n : PmResult) (results : List PmResult) (new : Cursor) : Type 0 where
  pub rest : List PmResult
  pub is : results ≡ n ∷ rest
  pub leaves : Leaves files new rest

-- what is behind it then
behind_now : (files : Files) (volumes : List (ℕ × ℕ)) (new : Cursor) (items : List Item) (o : Option (PmResult × Place)) → NowAt new o → IsNextSample files volumes items o → AreBehind files volumes new.place new.next (samples_of items)
behind_now files volumes new items None at none = subst (λ (next : Option PmResult). AreBehind files volumes new.place next (samples_of items)) (sym at) none
behind_now files volumes new items (Some f) at (rest, is, stand) =
    subst (λ (next : Option PmResult). AreBehind files volumes new.place next (samples_of items)) (sym at.0)
    (rest, is, subst (λ (p : Place). StandFrom files volumes p rest) (sym at.1) stand)

pub stands_now : (files : Files) (reader : Loaded) (new : Cursor) (items : List Item) (o : Option (PmResult × Place)) → IsOver files reader → new.reader ≡ reader → NowAt new o → IsNextSample files reader.volumes items o → Leaves files new (samples_of items)
stands_now files reader new items o over same at finds = record {
  over = subst (λ (r : Loaded). IsOver files r) (sym same) over;
  behind = subst (λ (r : Loaded). AreBehind files r.volumes new.place new.next (samples_of items)) (sym same) (behind_now files reader.volumes new items o at finds);
}

-- the items behind the next result
pub record HasNext (files : Files) (cursor : Cursor) (n : PmResult) (results : List PmResult) : Type 0 where
  pub items : List Item
  pub is : results ≡ n ∷ samples_of items
  pub stand : StandFrom files cursor.reader.volumes cursor.place items

pub has_next : (files : Files) (cursor : Cursor) (n : PmResult) (results : List PmResult) → cursor.next ≡ Some n → Leaves files cursor results → HasNext files cursor n results
has_next files cursor n results is leaves =
    let (items, are, stand) = subst (λ (next : Option PmResult). AreBehind files cursor.reader.volumes cursor.place next results) is leaves.behind in
    record { items = items; is = are; stand = stand }

-- one result on
pub goes_on : (files : Files) (old new : Cursor) (n : PmResult) (results : List PmResult) (o : Option (PmResult × Place)) → new.reader ≡ old.reader → NowAt new o → old.next ≡ Some n → Leaves files old results
    → ((items : List Item) → StandFrom files old.reader.volumes old.place items → IsNextSample files old.reader.volumes items o) → GoesOn files n results new
goes_on files old new n results o same at is leaves finds =
    let h : HasNext files old n results = has_next files old n results is leaves in
    record { rest = samples_of h.items; is = h.is; leaves = stands_now files old.reader new h.items o leaves.over same at (finds h.items h.stand) }

-- of these results
pub goes_to : (files : Files) (n r : PmResult) (results : List PmResult) (new : Cursor) → GoesOn files n (r ∷ results) new → (n.sets ≡ r.sets) × Leaves files new results
goes_to files n r results new g =
    let is : r ∷ results ≡ n ∷ g.rest = g.is in
    let first : r ≡ n = cc in
    let rest : results ≡ g.rest = cc in
    (ap (λ (x : PmResult). x.sets) (sym first), subst (Leaves files new) (sym rest) g.leaves)

-- the first place of an archive
pub start_stands : (files : Files) (volumes : List (ℕ × ℕ)) (start : Place) (items : List Item) → volumes_from start.volume volumes ≡ volumes → start.offset ≡ 132 → AllFrom files volumes 132 items → StandFrom files volumes start items
start_stands files volumes start items own first all =
    subst (λ (vs : List (ℕ × ℕ)). AllFrom files vs start.offset items) (sym own) (subst (λ (o : ℕ). AllFrom files volumes o items) (sym first) all)

-- the next result is the first of those that are left
pub head_of : (files : Files) (cursor : Cursor) (results : List PmResult) → Leaves files cursor results → IsHead cursor.next results
head_of files cursor results leaves = by cursor.next leaves.behind
  where
    by : (o : Option PmResult) → AreBehind files cursor.reader.volumes cursor.place o results → IsHead o results
    by None none = none
    by (Some r) (items, is, stand) = (samples_of items, is)

-- ---- the sets of one source

module _ (files : Files) (t : Moment) (results : List PmResult) (sets : List ValueSet) where
  -- the sets taken so far and those of what is left are all
  pub record TakenSoFar (all : List ValueSet) (cursor : Cursor) : Type 0 where
    pub rest : List PmResult
    pub leaves : Leaves files cursor rest
    pub low : NoneBefore t rest
    pub rises : Rises rest
    pub taken : with_sets all (sets_at t rest) ≡ with_sets sets (sets_at t results)
    pub left : after t rest ≡ after t results

  due_at : (o : Option PmResult) (r : PmResult) (rest : List PmResult) (b : Bool) → IsHead o (r ∷ rest) → is_due t o ≡ b → is_at t r ≡ b
  due_at None r rest b none due = absurd (cc)
  due_at (Some n) r rest b (more, is) due = let same : r ≡ n = cc in ap (is_at t) same ∙ due

  not_due : (o : Option PmResult) → IsHead o [] → is_due t o ≡ true → ⊥
  not_due None none due = cc
  not_due (Some n) (more, is) due = cc

  pub taken_on : (all now : List ValueSet) (cursor new : Cursor) (more : List ValueSet) → TakenSoFar all cursor → is_due t cursor.next ≡ true
      → ((r : PmResult) (rs : List PmResult) → Leaves files cursor (r ∷ rs) → (more ≡ r.sets) × Leaves files new rs) → now ≡ with_sets all more → TakenSoFar now new
  taken_on all now cursor new more far due on is = by far.rest far.leaves far.low far.rises far.taken far.left
    where
      by : (rest : List PmResult) → Leaves files cursor rest → NoneBefore t rest → Rises rest → with_sets all (sets_at t rest) ≡ with_sets sets (sets_at t results) → after t rest ≡ after t results → TakenSoFar now new
      by [] leaves low rises taken left = absurd (not_due cursor.next (head_of files cursor [] leaves) due)
      by (r ∷ rs) leaves low rises taken left =
          let (sets_are, next) = on r rs leaves in
          let at : microseconds r.stamp ≡ microseconds t = eqb-true (microseconds r.stamp) (microseconds t) (due_at cursor.next r rs true (head_of files cursor (r ∷ rs) leaves) due) in
          record {
            rest = rs;
            leaves = next;
            low = low.1;
            rises = rises.1;
            taken =
                ap (λ (l : List ValueSet). with_sets l (sets_at t rs)) (is ∙ ap (with_sets all) sets_are)
                ∙ sym (fold-append with_set all r.sets (sets_at t rs)) ∙ ap (with_sets all) (sym (one_at t r rs at)) ∙ taken;
            left = sym (one_after t r rs at) ∙ left;
          }

  pub taken_all : (all : List ValueSet) (cursor : Cursor) → TakenSoFar all cursor → is_due t cursor.next ≡ false → TakesStamp files t results sets all cursor
  taken_all all cursor far due = by far.rest far.leaves far.low far.rises far.taken far.left
    where
      by : (rest : List PmResult) → Leaves files cursor rest → NoneBefore t rest → Rises rest → with_sets all (sets_at t rest) ≡ with_sets sets (sets_at t results) → after t rest ≡ after t results → TakesStamp files t results sets all cursor
      by [] leaves low rises taken left = record { taken = taken; left = subst (Leaves files cursor) left leaves }
      by (r ∷ rs) leaves low rises taken left =
          let apart = eqb-false (microseconds r.stamp) (microseconds t) (due_at cursor.next r rs false (head_of files cursor (r ∷ rs) leaves) due) in
          let first = low.0 in
          let behind : Behind t r.stamp = omega (arith, first, apart) in
          let all_behind : AllBehind t (r ∷ rs) = (behind, each-map (λ q. NotBefore r.stamp q.stamp) (λ q. Behind t q.stamp) (λ q h. omega (arith, h, behind)) rs rises.0) in
          record {
            taken = ap (with_sets all) (sym (none_at t (r ∷ rs) all_behind)) ∙ taken;
            left = subst (Leaves files cursor) (sym (all_after t (r ∷ rs) all_behind) ∙ left) leaves;
          }

-- ---- the sets of both

take_front : (xs ys : List ValueSet) → take (length xs) (xs ++ ys) ≡ xs
take_front [] ys = refl
take_front (x ∷ xs) ys = ap (λ (l : List ValueSet). x ∷ l) (take_front xs ys)

pub parted_so : (ours more sets : List ValueSet) (count : ℕ) → sets ≡ with_sets ours more → count ≡ length ours → AreParted sets count
parted_so ours more sets count is many =
    let g : Grows ours more = grown ours more in
    let all : sets ≡ ours ++ g.others = is ∙ g.is in
    let front : take count sets ≡ ours = ap (λ (n : ℕ). take n sets) many ∙ ap (take (length ours)) all ∙ take_front ours g.others in
    let behind : drop count sets ≡ g.others = ap (λ (n : ℕ). drop n sets) many ∙ ap (drop (length ours)) all ∙ drop-append_seam ours g.others in
    record {
      within = let long = ap length all in let both = length-append ours g.others in omega (arith, many, long, both);
      new = subst (λ (l : List ValueSet). AllByRecursion (IsNew l) (drop count sets)) (sym front) (subst (AllByRecursion (IsNew ours)) (sym behind) g.new);
    }

-- both were taken
pub took_both : (files others : Files) (t : Moment) (xs ys : List PmResult) (mine sets : List ValueSet) (count : ℕ) (first second : Cursor) → TakesStamp files t xs [] mine first → TakesStamp others t ys mine sets second → count ≡ length mine → TakesBoth files others t xs ys sets count first second
took_both files others t xs ys mine sets count first second one two many =
    let g : Grows (sets_of_first (sets_at t xs)) (sets_at t ys) = grown (sets_of_first (sets_at t xs)) (sets_at t ys) in
    let number : count ≡ length (sets_of_first (sets_at t xs)) = many ∙ ap length one.taken in
    let all : sets ≡ sets_of_both (sets_at t xs) (sets_at t ys) = two.taken ∙ ap (λ (l : List ValueSet). with_sets l (sets_at t ys)) one.taken in
    record {
      count_is = number;
      taken = all;
      front = ap (λ (n : ℕ). take n sets) number ∙ ap (take (length (sets_of_first (sets_at t xs)))) (all ∙ g.is) ∙ take_front (sets_of_first (sets_at t xs)) g.others;
      first_left = one.left;
      second_left = two.left;
    }
