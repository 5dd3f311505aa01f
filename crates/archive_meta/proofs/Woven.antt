-- All records out of those that are kept.
use Rattle.std.proofs.Common.{suc, ◌≡◌, ℕ, ℤ, ◌-◌, ◌≤◌, ◌<◌, Bool, true, false, cond, List, [], ◌∷◌, ◌++◌, length, take, Option, Some, None, refl, sym, ap, ap₂, ◌∙◌, subst, arith}
use Rattle.std.specs.Prelude.{fold, MatchOption}
use Rattle.pcp_base.specs.Time.{Moment, microseconds}
use Rattle.pcp_model.specs.declared.records.MetaRecord.{MetaRecord}
use Rattle.pcp_model.specs.declared.records.MetaRecord.TheVariants.{Description, Domain, Other}
use Rattle.pcp_model.specs.Described.{EachStamp, HoldsAt}
use Rattle.archive_meta.specs.Said.{describes, description_of, seen_after, described_metrics}
use Rattle.archive_meta.specs.Woven.{with_other_records, AreMarked}

-- as many as there are marks
pub woven_length : (marks : List Bool) (records : List MetaRecord) → AreMarked marks records → length (with_other_records marks records) ≡ length marks
woven_length [] records m = refl
woven_length (false ∷ marks) records m = ap suc (woven_length marks records m)
woven_length (true ∷ marks) [] m = absurd m
woven_length (true ∷ marks) (r ∷ records) m = ap suc (woven_length marks records m)

-- records of other kinds describe nothing
pub woven_description : (pmid : ℕ) (marks : List Bool) (records : List MetaRecord) → AreMarked marks records → description_of pmid (with_other_records marks records) ≡ description_of pmid records
woven_description pmid [] [] m = refl
woven_description pmid [] (r ∷ records) m = absurd m
woven_description pmid (false ∷ marks) records m = woven_description pmid marks records m
woven_description pmid (true ∷ marks) [] m = absurd m
woven_description pmid (true ∷ marks) (r ∷ records) m = ap (cond (describes pmid r) (Some r)) (woven_description pmid marks records m)

seen_woven : (seen : List ℕ) (marks : List Bool) (records : List MetaRecord) → AreMarked marks records → fold seen_after seen (with_other_records marks records) ≡ fold seen_after seen records
seen_woven seen [] [] m = refl
seen_woven seen [] (r ∷ records) m = absurd m
seen_woven seen (false ∷ marks) records m = seen_woven seen marks records m
seen_woven seen (true ∷ marks) [] m = absurd m
seen_woven seen (true ∷ marks) (r ∷ records) m = seen_woven (seen_after seen r) marks records m

pub woven_described : (marks : List Bool) (records : List MetaRecord) → AreMarked marks records → described_metrics (with_other_records marks records) ≡ described_metrics records
woven_described marks records m = seen_woven [] marks records m

-- ---- one record more

pub marked_other : (marks : List Bool) (records : List MetaRecord) → AreMarked marks records → AreMarked (marks ++ false ∷ []) records
marked_other [] [] m = tt
marked_other [] (r ∷ records) m = absurd m
marked_other (false ∷ marks) records m = marked_other marks records m
marked_other (true ∷ marks) [] m = absurd m
marked_other (true ∷ marks) (r ∷ records) m = marked_other marks records m

pub woven_other : (marks : List Bool) (records : List MetaRecord) → AreMarked marks records → with_other_records (marks ++ false ∷ []) records ≡ with_other_records marks records ++ Other ∷ []
woven_other [] [] m = refl
woven_other [] (r ∷ records) m = absurd m
woven_other (false ∷ marks) records m = ap (λ l. Other ∷ l) (woven_other marks records m)
woven_other (true ∷ marks) [] m = absurd m
woven_other (true ∷ marks) (r ∷ records) m = ap (λ l. r ∷ l) (woven_other marks records m)

pub marked_more : (marks : List Bool) (records : List MetaRecord) (x : MetaRecord) → AreMarked marks records → AreMarked (marks ++ true ∷ []) (records ++ x ∷ [])
marked_more [] [] x m = tt
marked_more [] (r ∷ records) x m = absurd m
marked_more (false ∷ marks) records x m = marked_more marks records x m
marked_more (true ∷ marks) [] x m = absurd m
marked_more (true ∷ marks) (r ∷ records) x m = marked_more marks records x m

pub woven_more : (marks : List Bool) (records : List MetaRecord) (x : MetaRecord) → AreMarked marks records → with_other_records (marks ++ true ∷ []) (records ++ x ∷ []) ≡ with_other_records marks records ++ x ∷ []
woven_more [] [] x m = refl
woven_more [] (r ∷ records) x m = absurd m
woven_more (false ∷ marks) records x m = ap (λ l. Other ∷ l) (woven_more marks records x m)
woven_more (true ∷ marks) [] x m = absurd m
woven_more (true ∷ marks) (r ∷ records) x m = ap (λ l. r ∷ l) (woven_more marks records x m)

-- ---- one record less

front_of : {X : Type 0} (xs : List X) (x : X) → take (length (xs ++ x ∷ []) - 1) (xs ++ x ∷ []) ≡ xs
front_of {X = X} xs x = let size : length (xs ++ x ∷ []) - 1 ≡ length xs = omega (arith, more xs) in ap (λ n. take n (xs ++ x ∷ [])) size ∙ front xs
  where
    more : (ys : List X) → length (ys ++ x ∷ []) ≡ suc (length ys)
    more [] = refl
    more (y ∷ ys) = ap suc (more ys)

    front : (ys : List X) → take (length ys) (ys ++ x ∷ []) ≡ ys
    front [] = refl
    front (y ∷ ys) = ap (λ l. y ∷ l) (front ys)

-- a last mark is the last record's
record HasLast (marks : List Bool) (records : List MetaRecord) : Type 0 where
  front : List MetaRecord
  last : MetaRecord
  is : records ≡ front ++ last ∷ []
  marked : AreMarked marks front

has_last : (marks : List Bool) (records : List MetaRecord) → AreMarked (marks ++ true ∷ []) records → HasLast marks records
has_last [] [] m = absurd m
has_last [] (r ∷ []) m = record { front = []; last = r; is = refl; marked = tt }
has_last [] (r ∷ x ∷ records) m = absurd m
has_last (false ∷ marks) records m = let h = has_last marks records m in record { front = h.front; last = h.last; is = h.is; marked = h.marked }
has_last (true ∷ marks) [] m = absurd m
has_last (true ∷ marks) (r ∷ records) m = let h = has_last marks records m in record { front = r ∷ h.front; last = h.last; is = ap (λ l. r ∷ l) h.is; marked = h.marked }

unmarked_other : (marks : List Bool) (records : List MetaRecord) → AreMarked (marks ++ false ∷ []) records → AreMarked marks records
unmarked_other [] [] m = tt
unmarked_other [] (r ∷ records) m = absurd m
unmarked_other (false ∷ marks) records m = unmarked_other marks records m
unmarked_other (true ∷ marks) [] m = absurd m
unmarked_other (true ∷ marks) (r ∷ records) m = unmarked_other marks records m

-- what is left without the last mark, and its record if it has one
pub record IsLess (all : List MetaRecord) (marks : List Bool) (records : List MetaRecord) : Type 0 where
  pub marked : AreMarked marks records
  pub last : MetaRecord
  pub is : all ≡ with_other_records marks records ++ last ∷ []

pub less_kept : (marks : List Bool) (records left : List MetaRecord) → AreMarked (marks ++ true ∷ []) records → left ≡ take (length records - 1) records → IsLess (with_other_records (marks ++ true ∷ []) records) marks left
less_kept marks records left m is =
    let h = has_last marks records m in
    let same : left ≡ h.front = is ∙ ap (λ l. take (length l - 1) l) h.is ∙ front_of h.front h.last in
    record {
      marked = subst (AreMarked marks) (sym same) h.marked;
      last = h.last;
      is = ap (with_other_records (marks ++ true ∷ [])) h.is ∙ woven_more marks h.front h.last h.marked ∙ ap (λ l. with_other_records marks l ++ h.last ∷ []) (sym same);
    }

pub less_other : (marks : List Bool) (records : List MetaRecord) → AreMarked (marks ++ false ∷ []) records → IsLess (with_other_records (marks ++ false ∷ []) records) marks records
less_other marks records m = let front = unmarked_other marks records m in record { marked = front; last = Other; is = woven_other marks records front }

pub less_front : (all : List MetaRecord) (marks : List Bool) (records : List MetaRecord) → IsLess all marks records → with_other_records marks records ≡ take (length all - 1) all
less_front all marks records h = sym (ap (λ l. take (length l - 1) l) h.is ∙ front_of (with_other_records marks records) h.last)

-- ---- what holds of a domain

module _ (indom : ℕ) (P : Moment → Type 0) where
  each_woven : (marks : List Bool) (records : List MetaRecord) → AreMarked marks records → EachStamp indom P records → EachStamp indom P (with_other_records marks records)
  each_woven [] records m e = tt
  each_woven (false ∷ marks) records m e = each_woven marks records m e
  each_woven (true ∷ marks) [] m e = absurd m
  each_woven (true ∷ marks) (Description d names ∷ records) m e = each_woven marks records m e
  each_woven (true ∷ marks) (Domain t i pairs ∷ records) m e = (e.0, each_woven marks records m e.1)
  each_woven (true ∷ marks) (Other ∷ records) m e = each_woven marks records m e

  each_kept : (marks : List Bool) (records : List MetaRecord) → AreMarked marks records → EachStamp indom P (with_other_records marks records) → EachStamp indom P records
  each_kept [] [] m e = tt
  each_kept [] (r ∷ records) m e = absurd m
  each_kept (false ∷ marks) records m e = each_kept marks records m e
  each_kept (true ∷ marks) [] m e = absurd m
  each_kept (true ∷ marks) (Description d names ∷ records) m e = each_kept marks records m e
  each_kept (true ∷ marks) (Domain t i pairs ∷ records) m e = (e.0, each_kept marks records m e.1)
  each_kept (true ∷ marks) (Other ∷ records) m e = each_kept marks records m e

-- records before one and behind it, and their marks
record IsSplit (marks : List Bool) (records before : List MetaRecord) (r : MetaRecord) (behind : List MetaRecord) : Type 0 where
  marks_before : List Bool
  records_before : List MetaRecord
  marks_behind : List Bool
  records_behind : List MetaRecord
  marked_before : AreMarked marks_before records_before
  marked_behind : AreMarked marks_behind records_behind
  kept : records ≡ records_before ++ r ∷ records_behind
  all : with_other_records marks records ≡ with_other_records marks_before records_before ++ r ∷ with_other_records marks_behind records_behind
  is_before : before ≡ with_other_records marks_before records_before
  is_behind : behind ≡ with_other_records marks_behind records_behind

heads : {X : Type 0} (x y : X) (xs ys : List X) → x ∷ xs ≡ y ∷ ys → (x ≡ y) × (xs ≡ ys)
heads x y xs ys e = (cc, cc)

-- split where one of all stands that isn't of another kind
split_all : (marks : List Bool) (records before : List MetaRecord) (t : Moment) (i : ℕ) (pairs : List (ℤ × List ℕ)) (behind : List MetaRecord) → AreMarked marks records
    → with_other_records marks records ≡ before ++ Domain t i pairs ∷ behind → IsSplit marks records before (Domain t i pairs) behind
split_all [] [] [] t i pairs behind m e = absurd cc
split_all [] [] (x ∷ before) t i pairs behind m e = absurd cc
split_all [] (r ∷ records) before t i pairs behind m e = absurd m
split_all (false ∷ marks) records [] t i pairs behind m e = absurd (let h = heads Other (Domain t i pairs) (with_other_records marks records) behind e in let d : Other ≡ Domain t i pairs = h.0 in cc)
split_all (false ∷ marks) records (x ∷ before) t i pairs behind m e =
    let h = heads Other x (with_other_records marks records) (before ++ Domain t i pairs ∷ behind) e in
    let s = split_all marks records before t i pairs behind m h.1 in
    record {
      marks_before = false ∷ s.marks_before;
      records_before = s.records_before;
      marks_behind = s.marks_behind;
      records_behind = s.records_behind;
      marked_before = s.marked_before;
      marked_behind = s.marked_behind;
      kept = s.kept;
      all = ap (λ l. Other ∷ l) s.all;
      is_before = ap₂ (λ (y : MetaRecord) (l : List MetaRecord). y ∷ l) (sym h.0) s.is_before;
      is_behind = s.is_behind;
    }
split_all (true ∷ marks) [] before t i pairs behind m e = absurd m
split_all (true ∷ marks) (r ∷ records) [] t i pairs behind m e =
    let h = heads r (Domain t i pairs) (with_other_records marks records) behind e in
    record {
      marks_before = [];
      records_before = [];
      marks_behind = marks;
      records_behind = records;
      marked_before = tt;
      marked_behind = m;
      kept = ap (λ y. y ∷ records) h.0;
      all = ap (λ y. y ∷ with_other_records marks records) h.0;
      is_before = refl;
      is_behind = sym h.1;
    }
split_all (true ∷ marks) (r ∷ records) (x ∷ before) t i pairs behind m e =
    let h = heads r x (with_other_records marks records) (before ++ Domain t i pairs ∷ behind) e in
    let s = split_all marks records before t i pairs behind m h.1 in
    record {
      marks_before = true ∷ s.marks_before;
      records_before = r ∷ s.records_before;
      marks_behind = s.marks_behind;
      records_behind = s.records_behind;
      marked_before = s.marked_before;
      marked_behind = s.marked_behind;
      kept = ap (λ l. r ∷ l) s.kept;
      all = ap (λ l. r ∷ l) s.all;
      is_before = ap₂ (λ (y : MetaRecord) (l : List MetaRecord). y ∷ l) (sym h.0) s.is_before;
      is_behind = s.is_behind;
    }

-- split where one stands that is kept
split_kept : (marks : List Bool) (before : List MetaRecord) (r : MetaRecord) (behind : List MetaRecord) → AreMarked marks (before ++ r ∷ behind)
    → (b : List Bool) × (a : List Bool) × AreMarked b before × AreMarked a behind × (with_other_records marks (before ++ r ∷ behind) ≡ with_other_records b before ++ r ∷ with_other_records a behind)
split_kept [] [] r behind m = absurd m
split_kept [] (x ∷ before) r behind m = absurd m
split_kept (false ∷ marks) before r behind m = let s = split_kept marks before r behind m in (false ∷ s.0, s.1, s.2, s.3, ap (λ l. Other ∷ l) s.4)
split_kept (true ∷ marks) [] r behind m = ([], marks, tt, m, refl)
split_kept (true ∷ marks) (x ∷ before) r behind m = let s = split_kept marks before r behind m in (true ∷ s.0, s.1, s.2, s.3, ap (λ l. x ∷ l) s.4)

module _ (marks : List Bool) (records : List MetaRecord) (indom : ℕ) (t : Moment) (m : AreMarked marks records) where
  pub holds_in_all : (pairs : List (ℤ × List ℕ)) → HoldsAt records indom t pairs → HoldsAt (with_other_records marks records) indom t pairs
  holds_in_all pairs h =
      let s = split_kept marks h.before (Domain h.stamp indom pairs) h.behind (subst (AreMarked marks) h.is m) in
      record {
        stamp = h.stamp;
        not_after = h.not_after;
        before = with_other_records s.0 h.before;
        behind = with_other_records s.1 h.behind;
        is = ap (with_other_records marks) h.is ∙ s.4;
        greatest = each_woven indom (λ u. microseconds u ≤ microseconds t → microseconds u ≤ microseconds h.stamp) s.0 h.before s.2 h.greatest;
        last = each_woven indom (λ u. microseconds u ≤ microseconds t → microseconds u < microseconds h.stamp) s.1 h.behind s.3 h.last;
      }

  holds_in_kept : (pairs : List (ℤ × List ℕ)) → HoldsAt (with_other_records marks records) indom t pairs → HoldsAt records indom t pairs
  holds_in_kept pairs h =
      let s = split_all marks records h.before h.stamp indom pairs h.behind m h.is in
      record {
        stamp = h.stamp;
        not_after = h.not_after;
        before = s.records_before;
        behind = s.records_behind;
        is = s.kept;
        greatest = each_kept indom (λ u. microseconds u ≤ microseconds t → microseconds u ≤ microseconds h.stamp) s.marks_before s.records_before s.marked_before
            (subst (EachStamp indom (λ u. microseconds u ≤ microseconds t → microseconds u ≤ microseconds h.stamp)) s.is_before h.greatest);
        last = each_kept indom (λ u. microseconds u ≤ microseconds t → microseconds u < microseconds h.stamp) s.marks_behind s.records_behind s.marked_behind
            (subst (EachStamp indom (λ u. microseconds u ≤ microseconds t → microseconds u < microseconds h.stamp)) s.is_behind h.last);
      }

  -- what is told of the records that are kept is told of all
  pub holds_told : (o : Option (List (ℤ × List ℕ))) → MatchOption o ((pairs : List (ℤ × List ℕ)) → HoldsAt records indom t pairs → ⊥) (HoldsAt records indom t)
      → MatchOption o ((pairs : List (ℤ × List ℕ)) → HoldsAt (with_other_records marks records) indom t pairs → ⊥) (HoldsAt (with_other_records marks records) indom t)
  holds_told (Some pairs) h = holds_in_all pairs h
  holds_told None h = λ pairs there. h pairs (holds_in_kept pairs there)
