-- The merge of two lists whose stamps never fall: the earliest stamp's item, and the merge of what is stamped after it.
use Rattle.std.proofs.Common.{◌≡◌, inl, inr, Bool, true, false, cond, List, [], ◌∷◌, ◌++◌, map, refl, sym, ap, ◌∙◌, subst, arith}
use Rattle.std.specs.Prelude.{filter}
use Rattle.std.specs.List.{AllByRecursion}
use Rattle.std.proofs.lemmas.Bool.{eqb-true, ltb-true, ltb-false, lt-ltb, le-ltb, eq-eqb}
use Rattle.std.proofs.lemmas.List.Elements.{filter-append}
use Rattle.pcp_base.specs.Time.{Moment, microseconds}
use Rattle.pcp_base.specs.declared.result.PmResult.{PmResult}
use Rattle.pcp_base.specs.declared.result.ValueSet.{ValueSet}
use Rattle.pcp_model.proofs.Lists.{each-append, each-map}
use Rattle.archive_merge.specs.Merging.{at_each, is_at, sets_at, stamps_of, with_stamp}
use Rattle.archive_merge.specs.Laws.{HasStamp, IsOfOne, StandsOnce}
use Rattle.archive_merge.specs.Order.{AllBehind, Behind, NoneBefore, NotBefore, Rises, Rising, after, is_behind, later}

-- ---- one stamp among others

behind_so : (t s : Moment) → Behind t s → is_behind t s ≡ true
behind_so t s h = lt-ltb (microseconds t) (microseconds s) h

not_behind : (t s : Moment) → NotBefore s t → is_behind t s ≡ false
not_behind t s h = le-ltb (microseconds t) (microseconds s) h

-- how two moments stand
data Order (t s : Moment) : Type 0 where
  sooner : Behind t s → Order t s
  at_once : microseconds t ≡ microseconds s → Order t s
  afterwards : Behind s t → Order t s

order : (t s : Moment) → Order t s
order t s = by (is_behind t s) refl (is_behind s t) refl
  where
    by : (c : Bool) → is_behind t s ≡ c → (d : Bool) → is_behind s t ≡ d → Order t s
    by true e d f = Order.sooner (ltb-true (microseconds t) (microseconds s) e)
    by false e true f = Order.afterwards (ltb-true (microseconds s) (microseconds t) f)
    by false e false f = Order.at_once (omega (arith, ltb-false (microseconds t) (microseconds s) e, ltb-false (microseconds s) (microseconds t) f))

module _ (s x : Moment) (stamps : List Moment) where
  abbrev Chosen : Bool → Bool → List Moment
  Chosen c d = cond c (x ∷ with_stamp s stamps) (cond d (s ∷ x ∷ stamps) (s ∷ stamps))

  goes_behind : Behind x s → with_stamp s (x ∷ stamps) ≡ x ∷ with_stamp s stamps
  goes_behind h = ap (λ (c : Bool). Chosen c (is_behind s x)) (behind_so x s h)

  goes_before : Behind s x → with_stamp s (x ∷ stamps) ≡ s ∷ x ∷ stamps
  goes_before h = ap (λ (c : Bool). Chosen c (is_behind s x)) (not_behind x s (omega (arith, h))) ∙ ap (λ (d : Bool). Chosen false d) (behind_so s x h)

  goes_in_place : microseconds s ≡ microseconds x → with_stamp s (x ∷ stamps) ≡ s ∷ stamps
  goes_in_place h =
      ap (λ (c : Bool). Chosen c (is_behind s x)) (not_behind x s (omega (arith, h)))
      ∙ ap (λ (d : Bool). Chosen false d) (not_behind s x (omega (arith, h)))

-- what holds of all
pub stamp_all : (P : Moment → Type 0) (s : Moment) (stamps : List Moment) → P s → AllByRecursion P stamps → AllByRecursion P (with_stamp s stamps)
stamp_all P s [] p all = (p, tt)
stamp_all P s (x ∷ stamps) p all = by (order s x) (stamp_all P s stamps p all.1)
  where
    by : Order s x → AllByRecursion P (with_stamp s stamps) → AllByRecursion P (with_stamp s (x ∷ stamps))
    by (Order.sooner h) more = subst (AllByRecursion P) (sym (goes_before s x stamps h)) (p, all)
    by (Order.at_once h) more = subst (AllByRecursion P) (sym (goes_in_place s x stamps h)) (p, all.1)
    by (Order.afterwards h) more = subst (AllByRecursion P) (sym (goes_behind s x stamps h)) (all.0, more)

pub stamp_rises : (s : Moment) (stamps : List Moment) → Rising stamps → Rising (with_stamp s stamps)
stamp_rises s [] r = (tt, tt)
stamp_rises s (x ∷ stamps) r = by (order s x) (stamp_rises s stamps r.1)
  where
    by : Order s x → Rising (with_stamp s stamps) → Rising (with_stamp s (x ∷ stamps))
    by (Order.sooner h) more = subst Rising (sym (goes_before s x stamps h)) ((h, each-map (Behind x) (Behind s) (λ u g. omega (arith, h, g)) stamps r.0), r)
    by (Order.at_once h) more = subst Rising (sym (goes_in_place s x stamps h)) (each-map (Behind x) (Behind s) (λ u g. omega (arith, h, g)) stamps r.0, r.1)
    by (Order.afterwards h) more = subst Rising (sym (goes_behind s x stamps h)) (stamp_all (Behind x) s stamps h r.0, more)

-- a stamp that was put among others is there, and those that were still are
has_stamp : (t : Moment) (stamps : List Moment) → HasStamp (with_stamp t stamps) t
has_stamp t [] = inl refl
has_stamp t (x ∷ stamps) = by (order t x) (has_stamp t stamps)
  where
    by : Order t x → HasStamp (with_stamp t stamps) t → HasStamp (with_stamp t (x ∷ stamps)) t
    by (Order.sooner h) more = subst (λ (l : List Moment). HasStamp l t) (sym (goes_before t x stamps h)) (inl refl)
    by (Order.at_once h) more = subst (λ (l : List Moment). HasStamp l t) (sym (goes_in_place t x stamps h)) (inl refl)
    by (Order.afterwards h) more = subst (λ (l : List Moment). HasStamp l t) (sym (goes_behind t x stamps h)) (inr more)

has_still : (s : Moment) (stamps : List Moment) (t : Moment) → HasStamp stamps t → HasStamp (with_stamp s stamps) t
has_still s [] t h = absurd h
has_still s (x ∷ stamps) t h = by (order s x) h (has_still s stamps t)
  where
    by : Order s x → HasStamp (x ∷ stamps) t → (HasStamp stamps t → HasStamp (with_stamp s stamps) t) → HasStamp (with_stamp s (x ∷ stamps)) t
    by (Order.sooner g) there more = subst (λ (l : List Moment). HasStamp l t) (sym (goes_before s x stamps g)) (inr there)
    by (Order.at_once g) (inl is) more = subst (λ (l : List Moment). HasStamp l t) (sym (goes_in_place s x stamps g)) (inl (g ∙ is))
    by (Order.at_once g) (inr there) more = subst (λ (l : List Moment). HasStamp l t) (sym (goes_in_place s x stamps g)) (inr there)
    by (Order.afterwards g) (inl is) more = subst (λ (l : List Moment). HasStamp l t) (sym (goes_behind s x stamps g)) (inl is)
    by (Order.afterwards g) (inr there) more = subst (λ (l : List Moment). HasStamp l t) (sym (goes_behind s x stamps g)) (inr (more there))

theirs_with : (r : PmResult) (results : List PmResult) (stamps : List Moment) → AllByRecursion (IsOfOne results) stamps → AllByRecursion (IsOfOne (r ∷ results)) stamps
theirs_with r results stamps all = each-map (IsOfOne results) (IsOfOne (r ∷ results)) (λ t h. inr h) stamps all

stamps_theirs : (results : List PmResult) → AllByRecursion (IsOfOne results) (stamps_of results)
stamps_theirs [] = tt
stamps_theirs (r ∷ results) = stamp_all (IsOfOne (r ∷ results)) r.stamp (stamps_of results) (inl refl) (theirs_with r results (stamps_of results) (stamps_theirs results))

stamps_there : (results : List PmResult) → AllByRecursion (λ r. HasStamp (stamps_of results) r.stamp) results
stamps_there [] = tt
stamps_there (r ∷ results) =
    (has_stamp r.stamp (stamps_of results), each-map (λ q. HasStamp (stamps_of results) q.stamp) (λ q. HasStamp (with_stamp r.stamp (stamps_of results)) q.stamp) (λ q h. has_still r.stamp (stamps_of results) q.stamp h) results (stamps_there results))

pub stamps_rise : (results : List PmResult) → Rising (stamps_of results)
stamps_rise [] = tt
stamps_rise (r ∷ results) = stamp_rises r.stamp (stamps_of results) (stamps_rise results)

pub stamps_all : (P : Moment → Type 0) (results : List PmResult) → AllByRecursion (λ r. P r.stamp) results → AllByRecursion P (stamps_of results)
stamps_all P [] all = tt
stamps_all P (r ∷ results) all = stamp_all P r.stamp (stamps_of results) all.0 (stamps_all P results all.1)

pub stands_once : (results : List PmResult) → StandsOnce results
stands_once results = record { rises = stamps_rise results; theirs = stamps_theirs results; all = stamps_there results }

-- ---- what is left behind a stamp

module _ {X : Type 0} (test : X → Bool) where
  keeps : (x : X) (xs : List X) → test x ≡ true → filter test (x ∷ xs) ≡ x ∷ filter test xs
  keeps x xs e = ap (λ (c : Bool). cond c (x ∷ filter test xs) (filter test xs)) e

  drops : (x : X) (xs : List X) → test x ≡ false → filter test (x ∷ xs) ≡ filter test xs
  drops x xs e = ap (λ (c : Bool). cond c (x ∷ filter test xs) (filter test xs)) e

  keeps_all : (xs : List X) → AllByRecursion (λ x. test x ≡ true) xs → filter test xs ≡ xs
  keeps_all [] all = refl
  keeps_all (x ∷ xs) all = keeps x xs all.0 ∙ ap (λ l. x ∷ l) (keeps_all xs all.1)

  all_kept : (xs : List X) → AllByRecursion (λ x. test x ≡ true) (filter test xs)
  all_kept [] = tt
  all_kept (x ∷ xs) = by (test x) refl (all_kept xs)
    where
      by : (c : Bool) → test x ≡ c → AllByRecursion (λ y. test y ≡ true) (filter test xs) → AllByRecursion (λ y. test y ≡ true) (cond c (x ∷ filter test xs) (filter test xs))
      by true e more = (e, more)
      by false e more = more

module _ (t : Moment) where
  abbrev Left : List Moment → List Moment
  Left stamps = filter (is_behind t) stamps

  abbrev Given : Moment → List Moment → Bool → List Moment
  Given s stamps c = cond c (with_stamp s (Left stamps)) (Left stamps)

  module _ (s x : Moment) (stamps : List Moment) where
    abbrev Kept : Type 0
    Kept = Left (with_stamp s (x ∷ stamps)) ≡ Given s (x ∷ stamps) (is_behind t s)

    given_yes : Behind t s → Given s (x ∷ stamps) (is_behind t s) ≡ with_stamp s (Left (x ∷ stamps))
    given_yes h = ap (Given s (x ∷ stamps)) (behind_so t s h)

    given_no : NotBefore s t → Given s (x ∷ stamps) (is_behind t s) ≡ Left (x ∷ stamps)
    given_no h = ap (Given s (x ∷ stamps)) (not_behind t s h)

    kept_yes : Behind t x → Left (x ∷ stamps) ≡ x ∷ Left stamps
    kept_yes h = keeps (is_behind t) x stamps (behind_so t x h)

    kept_no : NotBefore x t → Left (x ∷ stamps) ≡ Left stamps
    kept_no h = drops (is_behind t) x stamps (not_behind t x h)

    left_before : Behind s x → Kept
    left_before h = by (order t s)
      where
        by : Order t s → Kept
        by (Order.sooner g) =
            ap Left (goes_before s x stamps h) ∙ keeps (is_behind t) s (x ∷ stamps) (behind_so t s g)
            ∙ ap (λ l. s ∷ l) (kept_yes (omega (arith, g, h))) ∙ sym (goes_before s x (Left stamps) h) ∙ ap (with_stamp s) (sym (kept_yes (omega (arith, g, h)))) ∙ sym (given_yes g)
        by (Order.at_once g) = ap Left (goes_before s x stamps h) ∙ drops (is_behind t) s (x ∷ stamps) (not_behind t s (omega (arith, g))) ∙ sym (given_no (omega (arith, g)))
        by (Order.afterwards g) = ap Left (goes_before s x stamps h) ∙ drops (is_behind t) s (x ∷ stamps) (not_behind t s (omega (arith, g))) ∙ sym (given_no (omega (arith, g)))

    left_same : microseconds s ≡ microseconds x → Kept
    left_same h = by (order t s)
      where
        by : Order t s → Kept
        by (Order.sooner g) =
            ap Left (goes_in_place s x stamps h) ∙ keeps (is_behind t) s stamps (behind_so t s g)
            ∙ sym (goes_in_place s x (Left stamps) h) ∙ ap (with_stamp s) (sym (kept_yes (omega (arith, g, h)))) ∙ sym (given_yes g)
        by (Order.at_once g) =
            ap Left (goes_in_place s x stamps h) ∙ drops (is_behind t) s stamps (not_behind t s (omega (arith, g)))
            ∙ sym (kept_no (omega (arith, g, h))) ∙ sym (given_no (omega (arith, g)))
        by (Order.afterwards g) =
            ap Left (goes_in_place s x stamps h) ∙ drops (is_behind t) s stamps (not_behind t s (omega (arith, g)))
            ∙ sym (kept_no (omega (arith, g, h))) ∙ sym (given_no (omega (arith, g)))

    left_behind : Behind x s → Left (with_stamp s stamps) ≡ Given s stamps (is_behind t s) → Kept
    left_behind h more = by (order t x)
      where
        there : Behind t x → Kept
        there g =
            ap Left (goes_behind s x stamps h) ∙ keeps (is_behind t) x (with_stamp s stamps) (behind_so t x g)
            ∙ ap (λ l. x ∷ l) (more ∙ ap (Given s stamps) (behind_so t s (omega (arith, g, h))))
            ∙ sym (goes_behind s x (Left stamps) h) ∙ ap (with_stamp s) (sym (kept_yes g)) ∙ sym (given_yes (omega (arith, g, h)))

        gone : NotBefore x t → Kept
        gone g =
            ap Left (goes_behind s x stamps h) ∙ drops (is_behind t) x (with_stamp s stamps) (not_behind t x g) ∙ more
            ∙ ap (λ (l : List Moment). cond (is_behind t s) (with_stamp s l) l) (sym (kept_no g))

        by : Order t x → Kept
        by (Order.sooner g) = there g
        by (Order.at_once g) = gone (omega (arith, g))
        by (Order.afterwards g) = gone (omega (arith, g))

  left_with : (s : Moment) (stamps : List Moment) → Left (with_stamp s stamps) ≡ Given s stamps (is_behind t s)
  left_with s [] = refl
  left_with s (x ∷ stamps) = by (order s x) (left_with s stamps)
    where
      by : Order s x → Left (with_stamp s stamps) ≡ Given s stamps (is_behind t s) → Left (with_stamp s (x ∷ stamps)) ≡ Given s (x ∷ stamps) (is_behind t s)
      by (Order.sooner h) more = left_before s x stamps h
      by (Order.at_once h) more = left_same s x stamps h
      by (Order.afterwards h) more = left_behind s x stamps h more

  -- the stamps of what is left are those that are left
  pub stamps_left : (results : List PmResult) → stamps_of (after t results) ≡ Left (stamps_of results)
  stamps_left [] = refl
  stamps_left (r ∷ results) = by (later t r) refl (stamps_left results)
    where
      by : (c : Bool) → later t r ≡ c → stamps_of (after t results) ≡ Left (stamps_of results) → stamps_of (cond c (r ∷ after t results) (after t results)) ≡ Left (with_stamp r.stamp (stamps_of results))
      by true e more = ap (with_stamp r.stamp) more ∙ sym (left_with r.stamp (stamps_of results) ∙ ap (Given r.stamp (stamps_of results)) e)
      by false e more = more ∙ sym (left_with r.stamp (stamps_of results) ∙ ap (Given r.stamp (stamps_of results)) e)

  -- ---- the earliest stamp

  abbrev First : List Moment → Type 0
  First stamps = stamps ≡ t ∷ Left stamps

  all_left : (stamps : List Moment) → AllByRecursion (Behind t) stamps → Left stamps ≡ stamps
  all_left stamps all = keeps_all (is_behind t) stamps (each-map (Behind t) (λ s. is_behind t s ≡ true) (λ s h. behind_so t s h) stamps all)

  first_with : (stamps : List Moment) → AllByRecursion (NotBefore t) stamps → Rising stamps → First (with_stamp t stamps)
  first_with [] all rises = ap (λ l. t ∷ l) (sym (drops (is_behind t) t [] (not_behind t t (omega (arith)))))
  first_with (x ∷ stamps) all rises = by (order t x)
    where
      by : Order t x → First (with_stamp t (x ∷ stamps))
      by (Order.sooner h) =
          let behind_all : AllByRecursion (Behind t) (x ∷ stamps) = (h, each-map (Behind x) (Behind t) (λ u g. omega (arith, h, g)) stamps rises.0) in
          subst First (sym (goes_before t x stamps h)) (ap (λ l. t ∷ l) (sym (drops (is_behind t) t (x ∷ stamps) (not_behind t t (omega (arith))) ∙ all_left (x ∷ stamps) behind_all)))
      by (Order.at_once h) =
          let behind_all : AllByRecursion (Behind t) stamps = each-map (Behind x) (Behind t) (λ u g. omega (arith, h, g)) stamps rises.0 in
          subst First (sym (goes_in_place t x stamps h)) (ap (λ l. t ∷ l) (sym (drops (is_behind t) t stamps (not_behind t t (omega (arith))) ∙ all_left stamps behind_all)))
      by (Order.afterwards h) = let low = all.0 in absurd (omega (arith, h, low))

  first_behind : (s : Moment) (stamps : List Moment) → Behind t s → First stamps → First (with_stamp s stamps)
  first_behind s stamps h is =
      ap (with_stamp s) is ∙ goes_behind s t (Left stamps) h
      ∙ ap (λ l. t ∷ l) (sym (left_with s stamps ∙ ap (Given s stamps) (behind_so t s h)))

  -- a result of this stamp stands among later ones, and behind it none is earlier
  pub first_stamp : (front : List PmResult) (r : PmResult) (rest : List PmResult) → AllBehind t front → r.stamp ≡ t → NoneBefore t rest → First (stamps_of (front ++ r ∷ rest))
  first_stamp [] r rest all is none =
      subst (λ (s : Moment). First (with_stamp s (stamps_of rest))) (sym is) (first_with (stamps_of rest) (stamps_all (NotBefore t) rest none) (stamps_rise rest))
  first_stamp (f ∷ front) r rest all is none = first_behind f.stamp (stamps_of (front ++ r ∷ rest)) all.0 (first_stamp front r rest all.1 is none)

  -- ---- sets of later stamps

  pub sets_left : (s : Moment) (results : List PmResult) → Behind t s → sets_at s results ≡ sets_at s (after t results)
  sets_left s [] h = refl
  sets_left s (r ∷ results) h = by (is_at s r) refl (later t r) refl (sets_left s results h)
    where
      by : (c : Bool) → is_at s r ≡ c → (d : Bool) → later t r ≡ d → sets_at s results ≡ sets_at s (after t results)
          → cond c (r.sets ++ sets_at s results) (sets_at s results) ≡ sets_at s (cond d (r ∷ after t results) (after t results))
      by true e true f more = ap (λ l. r.sets ++ l) more ∙ sym (ap (λ (b : Bool). cond b (r.sets ++ sets_at s (after t results)) (sets_at s (after t results))) e)
      by true e false f more = absurd (omega (arith, eqb-true (microseconds r.stamp) (microseconds s) e, ltb-false (microseconds t) (microseconds r.stamp) f, h))
      by false e true f more = more ∙ sym (ap (λ (b : Bool). cond b (r.sets ++ sets_at s (after t results)) (sets_at s (after t results))) e)
      by false e false f more = more

  -- none is left where all are later, and of a result of the stamp its sets are
  pub none_at : (results : List PmResult) → AllBehind t results → sets_at t results ≡ []
  none_at [] all = refl
  none_at (r ∷ results) all = by (is_at t r) refl (none_at results all.1)
    where
      by : (c : Bool) → is_at t r ≡ c → sets_at t results ≡ [] → cond c (r.sets ++ sets_at t results) (sets_at t results) ≡ []
      by true e more = let h = all.0 in absurd (omega (arith, eqb-true (microseconds r.stamp) (microseconds t) e, h))
      by false e more = more

  pub all_after : (results : List PmResult) → AllBehind t results → after t results ≡ results
  all_after results all = keeps_all (later t) results (each-map (λ r. Behind t r.stamp) (λ r. later t r ≡ true) (λ r h. behind_so t r.stamp h) results all)

  pub one_at : (r : PmResult) (results : List PmResult) → microseconds r.stamp ≡ microseconds t → sets_at t (r ∷ results) ≡ r.sets ++ sets_at t results
  one_at r results same = ap (λ (b : Bool). cond b (r.sets ++ sets_at t results) (sets_at t results)) (eq-eqb (microseconds r.stamp) (microseconds t) same)

  pub one_after : (r : PmResult) (results : List PmResult) → microseconds r.stamp ≡ microseconds t → after t (r ∷ results) ≡ after t results
  one_after r results same = drops (later t) r results (not_behind t r.stamp (omega (arith, same)))

  -- ---- the step

  module _ {X : Type 0} (make : Moment → List ValueSet → List ValueSet → X) (first second : List PmResult) where
    abbrev Made : List PmResult → List PmResult → Moment → X
    Made a b s = make s (sets_at s a) (sets_at s b)

    same_made : (stamps : List Moment) → AllByRecursion (λ s. is_behind t s ≡ true) stamps → map (Made first second) stamps ≡ map (Made (after t first) (after t second)) stamps
    same_made [] all = refl
    same_made (s ∷ stamps) all =
        let h : Behind t s = ltb-true (microseconds t) (microseconds s) all.0 in
        ap (λ (x : X). x ∷ map (Made first second) stamps) (ap (λ a. make s a (sets_at s second)) (sets_left s first h) ∙ ap (λ b. make s (sets_at s (after t first)) b) (sets_left s second h))
        ∙ ap (λ l. Made (after t first) (after t second) s ∷ l) (same_made stamps all.1)

    pub one_made : First (stamps_of (first ++ second)) → at_each make first second ≡ make t (sets_at t first) (sets_at t second) ∷ at_each make (after t first) (after t second)
    one_made is =
        ap (map (Made first second)) is
        ∙ ap (λ l. make t (sets_at t first) (sets_at t second) ∷ l)
        (same_made (Left (stamps_of (first ++ second))) (all_kept (is_behind t) (stamps_of (first ++ second)))
        ∙ ap (map (Made (after t first) (after t second))) (sym (stamps_left (first ++ second)) ∙ ap stamps_of (filter-append (later t) first second)))

-- ---- the earliest of two lists

none_before : (t s : Moment) (results : List PmResult) → NotBefore t s → NoneBefore s results → NoneBefore t results
none_before t s results h all = each-map (λ r. NotBefore s r.stamp) (λ r. NotBefore t r.stamp) (λ r g. omega (arith, h, g)) results all

-- the first list's first stamp, where the second's first isn't earlier
pub first_comes : {X : Type 0} (make : Moment → List ValueSet → List ValueSet → X) (r : PmResult) (first second : List PmResult) → NoneBefore r.stamp first → NoneBefore r.stamp second
    → at_each make (r ∷ first) second ≡ make r.stamp (sets_at r.stamp (r ∷ first)) (sets_at r.stamp second) ∷ at_each make (after r.stamp (r ∷ first)) (after r.stamp second)
first_comes make r first second low other =
    one_made r.stamp make (r ∷ first) second (first_stamp r.stamp [] r (first ++ second) tt refl (each-append (λ q. NotBefore r.stamp q.stamp) first second low other))

-- the second's, where all of the first are later
pub second_comes : {X : Type 0} (make : Moment → List ValueSet → List ValueSet → X) (r : PmResult) (first second : List PmResult) → AllBehind r.stamp first → NoneBefore r.stamp second
    → at_each make first (r ∷ second) ≡ make r.stamp (sets_at r.stamp first) (sets_at r.stamp (r ∷ second)) ∷ at_each make (after r.stamp first) (after r.stamp (r ∷ second))
second_comes make r first second later low = one_made r.stamp make first (r ∷ second) (first_stamp r.stamp first r second later refl low)

-- what is left never falls, and isn't earlier
pub after_rises : (t : Moment) (results : List PmResult) → Rises results → Rises (after t results)
after_rises t [] rises = tt
after_rises t (r ∷ results) rises = by (later t r) (after_rises t results rises.1)
  where
    by : (c : Bool) → Rises (after t results) → Rises (cond c (r ∷ after t results) (after t results))
    by true more = (kept results rises.0, more)
      where
        kept : (rs : List PmResult) → NoneBefore r.stamp rs → NoneBefore r.stamp (after t rs)
        kept [] all = tt
        kept (q ∷ rs) all = one (later t q) (kept rs all.1)
          where
            one : (c : Bool) → NoneBefore r.stamp (after t rs) → NoneBefore r.stamp (cond c (q ∷ after t rs) (after t rs))
            one true rest = (all.0, rest)
            one false rest = rest
    by false more = more
