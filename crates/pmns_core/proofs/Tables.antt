-- What a table's calls answer, of the pairs that it shows.
use Rattle.std.proofs.Common.{◌≡◌, ℕ, ◌<◌, ◌++◌, length, take, drop, get_or, inl, inr, Bool, true, false, ◌||◌, cond, if◌then◌else◌, List, [], ◌∷◌, map, Option, Some, None, Ok, Err, is_some, refl, sym, ap, ◌∙◌, subst, arith, suc, append_assoc, length-append, take-append-drop, drop-cons}
use Rattle.std.specs.declared.cmp.Ordering.{Ordering}
use Rattle.std.specs.declared.cmp.Ordering.TheVariants.{Less, Equal, Greater}
use Rattle.std.specs.Prelude.{nat_eq, not, ◌&&◌}
use Rattle.std.specs.Ordering.{is_eq, is_lt, is_le, match_ordering}
use Rattle.std.proofs.Math.Seq.{take-append_seam, get_or-append_seam}
use Rattle.std.specs.List.{list_any, filter, starts_with, AllByRecursion}
use Rattle.std.specs.Map.{remove_entry}
use Rattle.std.specs.BTreeMap.{insert_entry}
use Rattle.pcp_base.specs.Texts.{IsText}
use Rattle.pmns_core.proofs.Bytes.{same_name, same_itself, before_trans, before_other, front_le, front_between, starts_split, starts_join, or_cases, or_left, or_right, no_then, any_weaker}
use Rattle.std.specs.Map.{lookup}
use Rattle.std.specs.Global.{Vec}
use Rattle.std.specs.BTreeMap.{is_at}
use Rattle.pmns_core.specs.Order.{byte_order, is_same, is_before, continues}
use Rattle.pmns_core.specs.Pairs.{Pair, pmid_of, with_pair, pairs_without, least_name, lesser, least_with, IsInOrder}
use Rattle.pmns_core.specs.Adding.{is_there, is_under, is_above, misfit, unless_fault, after_adding, Adds, AddsOne}
use Rattle.pmns_core.specs.declared.fault.NamesFault.{NamesFault}
use Rattle.pmns_core.specs.declared.fault.NamesFault.TheVariants as faults

abbrev pub pair : Vec ℕ × ℕ → Pair
pair e = (e.0.items, e.1)

pub lookup_shown : (es : List (Vec ℕ × ℕ)) (name : List ℕ) → lookup (is_at (λ (k : Vec ℕ). byte_order name k.items)) es ≡ pmid_of (map pair es) name
lookup_shown [] name = refl
lookup_shown (e ∷ es) name = ap (λ r. cond (is_same name e.0.items) (Some e.1) r) (lookup_shown es name)

pub there_some : (pairs : List Pair) (name : List ℕ) → is_some (pmid_of pairs name) ≡ is_there pairs name
there_some [] name = refl
there_some (p ∷ pairs) name = by (is_same name p.0) (there_some pairs name)
  where
    by : (t : Bool) → is_some (pmid_of pairs name) ≡ is_there pairs name → is_some (if t then Some p.1 else pmid_of pairs name) ≡ (t || is_there pairs name)
    by true again = refl
    by false again = again

-- where the name continues one that is there, a front of it that ends before a `.` is there
pub under_there : (pairs : List Pair) (name : List ℕ) → is_under pairs name ≡ true → (k : ℕ) × (k < length name) × (get_or name k 0 ≡ 46) × (is_there pairs (take k name) ≡ true)
under_there [] name h = cc h
under_there (p ∷ pairs) name h = elim (or_cases (continues name p.0) (is_under pairs name) h) [
  | inl here ↦
      let split = starts_split name (p.0 ++ 46 ∷ []) here in
      let at = point_at name p.0 (drop (length (p.0 ++ 46 ∷ [])) name) (split ∙ append_assoc p.0 (46 ∷ []) (drop (length (p.0 ++ 46 ∷ [])) name)) in
      (length p.0, at.0, at.1, or_left (is_same (take (length p.0) name) p.0) (is_there pairs (take (length p.0) name)) (ap (λ n. is_same n p.0) at.2 ∙ ap is_eq (same_itself p.0)))
  | inr later ↦ let r = under_there pairs name later in (r.0, r.1, r.2, or_right (is_same (take r.0 name) p.0) (is_there pairs (take r.0 name)) r.3)
]
  where
    point_at : (name p rest : List ℕ) → name ≡ p ++ 46 ∷ rest → (length p < length name) × (get_or name (length p) 0 ≡ 46) × (take (length p) name ≡ p)
    point_at name p rest e = (
      subst (λ (n : List ℕ). length p < length n) (sym e) (simp length-append (omega arith)),
      ap (λ n. get_or n (length p) 0) e ∙ get_or-append_seam p 46 rest 0,
      ap (take (length p)) e ∙ take-append_seam p (46 ∷ rest),
    )

-- the other way
pub there_under : (pairs : List Pair) (name : List ℕ) (k : ℕ) → k < length name → get_or name k 0 ≡ 46 → is_there pairs (take k name) ≡ true → is_under pairs name ≡ true
there_under pairs name k within point there = any_weaker (λ (p : Pair). is_same (take k name) p.0) (λ (p : Pair). continues name p.0) pairs (λ (p : Pair) (same : is_same (take k name) p.0 ≡ true).
    let e : take k name ≡ p.0 = same_name (take k name) p.0 same in
    let whole : name ≡ take k name ++ get_or name k 0 ∷ drop (suc k) name = sym (take-append-drop k name) ∙ ap (λ bs. take k name ++ bs) (drop-cons name k 0 within) in
    starts_join name (p.0 ++ 46 ∷ []) (drop (suc k) name) (whole ∙ ap (λ n. take k name ++ n ∷ drop (suc k) name) point ∙ ap (λ n. n ++ 46 ∷ drop (suc k) name) e ∙ sym (append_assoc p.0 (46 ∷ []) (drop (suc k) name)))) there

-- entries not before a front, in order
abbrev pub from_front : List ℕ → List (Vec ℕ × ℕ) → List (Vec ℕ × ℕ)
from_front front es = filter (λ (e : Vec ℕ × ℕ). is_le (byte_order front e.0.items) && not false) es

abbrev pub head_begins : List ℕ → List (Vec ℕ × ℕ) → Bool
head_begins front [] = false
head_begins front (e ∷ es) = starts_with nat_eq e.0.items front

-- after a name that isn't before a front and doesn't begin with it, none does
pub none_after : (front x : List ℕ) (pairs : List Pair) → is_le (byte_order front x) ≡ true → starts_with nat_eq x front ≡ false → AllByRecursion (λ (q : Pair). is_before x q.0 ≡ true) pairs → list_any (λ (p : Pair). starts_with nat_eq p.0 front) pairs ≡ false
none_after front x [] le other all = refl
none_after front x (q ∷ pairs) le other (before, all) =
    let no_q : starts_with nat_eq q.0 front ≡ false = no_then (starts_with nat_eq q.0 front) (λ (s : starts_with nat_eq q.0 front ≡ true). let both : true ≡ false = sym (front_between front x q.0 le before s) ∙ other in cc both) in
    ap (λ b. b || list_any (λ (p : Pair). starts_with nat_eq p.0 front) pairs) no_q ∙ none_after front x pairs le other all

-- whether a name begins with a front is seen at the first that isn't before it
pub front_seen : (front : List ℕ) (es : List (Vec ℕ × ℕ)) → IsInOrder (map pair es) → list_any (λ (p : Pair). starts_with nat_eq p.0 front) (map pair es) ≡ head_begins front (from_front front es)
front_seen front [] order = refl
front_seen front (e ∷ es) (all, text, order) = by (is_le (byte_order front e.0.items)) refl (front_seen front es order)
  where
    any : Bool
    any = list_any (λ (p : Pair). starts_with nat_eq p.0 front) (map pair es)

    starts : Bool
    starts = starts_with nat_eq e.0.items front

    true_or : (b : Bool) → (b ≡ false → any ≡ false) → (b || any) ≡ b
    true_or true h = refl
    true_or false h = h refl

    by : (t : Bool) → is_le (byte_order front e.0.items) ≡ t → any ≡ head_begins front (from_front front es) → (starts || any) ≡ head_begins front (cond (t && not false) (e ∷ from_front front es) (from_front front es))
    by true le again = true_or starts (λ (other : starts ≡ false). none_after front e.0.items (map pair es) le other all)
    by false le again =
        let no : starts ≡ false = no_then starts (λ (s : starts ≡ true). let both : true ≡ false = sym (front_le front e.0.items s) ∙ le in cc both) in
        ap (λ b. b || any) no ∙ again

-- a new name takes its place
pub insert_is_with_pair : (es : List (Vec ℕ × ℕ)) (key : Vec ℕ) (pmid : ℕ) → is_there (map pair es) key.items ≡ false → map pair (insert_entry (λ (a b : Vec ℕ). byte_order a.items b.items) es key pmid) ≡ with_pair (map pair es) key.items pmid
insert_is_with_pair [] key pmid absent = refl
insert_is_with_pair (e ∷ es) key pmid absent = by (byte_order key.items e.0.items) absent (λ later. insert_is_with_pair es key pmid later)
  where
    rest : List (Vec ℕ × ℕ)
    rest = insert_entry (λ (a b : Vec ℕ). byte_order a.items b.items) es key pmid

    by : (o : Ordering) → (is_eq o || is_there (map pair es) key.items) ≡ false → (is_there (map pair es) key.items ≡ false → map pair rest ≡ with_pair (map pair es) key.items pmid)
        → map pair (match_ordering o ((key, pmid) ∷ e ∷ es) ((e.0, pmid) ∷ es) (e ∷ rest)) ≡ (if is_lt o then (key.items, pmid) ∷ pair e ∷ map pair es else pair e ∷ with_pair (map pair es) key.items pmid)
    by Less absent again = refl
    by Equal absent again = cc absent
    by Greater absent again = ap (λ ps. pair e ∷ ps) (again absent)

-- a new name taken out leaves what was there
pub remove_shown : (es : List (Vec ℕ × ℕ)) (name : List ℕ) → map pair (remove_entry (is_at (λ (k : Vec ℕ). byte_order name k.items)) es) ≡ pairs_without (map pair es) name
remove_shown [] name = refl
remove_shown (e ∷ es) name = by (is_same name e.0.items) (remove_shown es name)
  where
    rest : List (Vec ℕ × ℕ)
    rest = remove_entry (is_at (λ (k : Vec ℕ). byte_order name k.items)) es

    by : (t : Bool) → map pair rest ≡ pairs_without (map pair es) name → map pair (cond t es (e ∷ rest)) ≡ (if t then map pair es else pair e ∷ pairs_without (map pair es) name)
    by true again = refl
    by false again = ap (λ ps. pair e ∷ ps) again

pub without_placed : (pairs : List Pair) (name : List ℕ) (pmid : ℕ) → is_there pairs name ≡ false → pairs_without (with_pair pairs name pmid) name ≡ pairs
without_placed [] name pmid absent = ap (λ t. if t then [] else (name, pmid) ∷ []) (ap is_eq (same_itself name))
without_placed (p ∷ pairs) name pmid absent = by (byte_order name p.0) refl absent (λ later. without_placed pairs name pmid later)
  where
    by : (o : Ordering) → byte_order name p.0 ≡ o → (is_eq o || is_there pairs name) ≡ false → (is_there pairs name ≡ false → pairs_without (with_pair pairs name pmid) name ≡ pairs)
        → pairs_without (if is_lt o then (name, pmid) ∷ p ∷ pairs else p ∷ with_pair pairs name pmid) name ≡ p ∷ pairs
    by Less e absent again = ap (λ t. if t then p ∷ pairs else (name, pmid) ∷ pairs_without (p ∷ pairs) name) (ap is_eq (same_itself name))
    by Equal e absent again = cc absent
    by Greater e absent again = ap (λ o. if is_eq o then with_pair pairs name pmid else p ∷ pairs_without (with_pair pairs name pmid) name) e ∙ ap (λ ps. p ∷ ps) (again absent)

-- a new name keeps the order
all_with_pair : (x name : List ℕ) (pmid : ℕ) (pairs : List Pair) → is_before x name ≡ true → AllByRecursion (λ (q : Pair). is_before x q.0 ≡ true) pairs → AllByRecursion (λ (q : Pair). is_before x q.0 ≡ true) (with_pair pairs name pmid)
all_with_pair x name pmid [] here all = (here, tt)
all_with_pair x name pmid (q ∷ pairs) here (before, all) = by (is_before name q.0) (all_with_pair x name pmid pairs here all)
  where
    by : (t : Bool) → AllByRecursion (λ (q : Pair). is_before x q.0 ≡ true) (with_pair pairs name pmid) → AllByRecursion (λ (q : Pair). is_before x q.0 ≡ true) (if t then (name, pmid) ∷ q ∷ pairs else q ∷ with_pair pairs name pmid)
    by true again = (here, (before, all))
    by false again = (before, again)

all_before : (name x : List ℕ) (pairs : List Pair) → is_before name x ≡ true → AllByRecursion (λ (q : Pair). is_before x q.0 ≡ true) pairs → AllByRecursion (λ (q : Pair). is_before name q.0 ≡ true) pairs
all_before name x [] here all = tt
all_before name x (q ∷ pairs) here (before, all) = (before_trans name x q.0 here before, all_before name x pairs here all)

pub pair_put_in_order : (pairs : List Pair) (name : List ℕ) (pmid : ℕ) → IsText name → is_there pairs name ≡ false → IsInOrder pairs → IsInOrder (with_pair pairs name pmid)
pair_put_in_order [] name pmid text absent order = (tt, text, tt)
pair_put_in_order (p ∷ pairs) name pmid text absent (all, text_p, order) = by (byte_order name p.0) refl absent (λ later. pair_put_in_order pairs name pmid text later order)
  where
    by : (o : Ordering) → byte_order name p.0 ≡ o → (is_eq o || is_there pairs name) ≡ false → (is_there pairs name ≡ false → IsInOrder (with_pair pairs name pmid))
        → IsInOrder (if is_lt o then (name, pmid) ∷ p ∷ pairs else p ∷ with_pair pairs name pmid)
    by Less e absent again = ((ap is_lt e, all_before name p.0 pairs (ap is_lt e) all), text, (all, text_p, order))
    by Equal e absent again = cc absent
    by Greater e absent again = (all_with_pair p.0 name pmid pairs (before_other name p.0 (ap is_lt e) (ap is_eq e)) all, text_p, again absent)

-- a name that is not there, under nothing and above nothing fits
pub fits_in : (pairs : List Pair) (name : List ℕ) → is_there pairs name ≡ false → is_under pairs name ≡ false → is_above pairs name ≡ false → misfit pairs name ≡ None
fits_in pairs name there under above =
    ap (λ t. if t then Some (faults.Duplicate name) else if is_under pairs name then Some (faults.LeafAndNode name) else if is_above pairs name then Some (faults.LeafAndNode name) else None) there
    ∙ ap (λ t. if t then Some (faults.LeafAndNode name) else if is_above pairs name then Some (faults.LeafAndNode name) else None) under
    ∙ ap (λ t. if t then Some (faults.LeafAndNode name) else None) above

-- pairs added after others
pub after_adding-append : (xs ys before es : List Pair) → after_adding xs before ≡ Ok es → after_adding (xs ++ ys) before ≡ after_adding ys es
after_adding-append [] ys before es e = let same : before ≡ es = cc e in ap (after_adding ys) same
after_adding-append (x ∷ xs) ys before es e = by (misfit before x.0) e (λ later. after_adding-append xs ys (with_pair before x.0 x.1) es later)
  where
    placed' : List Pair
    placed' = with_pair before x.0 x.1

    by : (o : Option NamesFault) → unless_fault o (after_adding xs placed') ≡ Ok es → (after_adding xs placed' ≡ Ok es → after_adding (xs ++ ys) placed' ≡ after_adding ys es) → unless_fault o (after_adding (xs ++ ys) placed') ≡ after_adding ys es
    by None e again = again e
    by (Some fault) e again = cc e

-- the last of pairs that were added fitted in
pub record LastOf (xs : List Pair) (p : Pair) (before after : List Pair) : Type 0 where
  pub middle : List Pair
  pub first : after_adding xs before ≡ Ok middle
  pub fitted : misfit middle p.0 ≡ None
  pub last : after ≡ with_pair middle p.0 p.1

pub added_last : (xs : List Pair) (p : Pair) (before after : List Pair) → after_adding (xs ++ p ∷ []) before ≡ Ok after → LastOf xs p before after
added_last [] p before after e = by (misfit before p.0) refl e
  where
    by : (o : Option NamesFault) → misfit before p.0 ≡ o → unless_fault o (Ok (with_pair before p.0 p.1)) ≡ Ok after → LastOf [] p before after
    by None fitted e = record { middle = before; first = refl; fitted = fitted; last = let same : with_pair before p.0 p.1 ≡ after = cc e in sym same }
    by (Some fault) fitted e = cc e
added_last (x ∷ xs) p before after e = by (misfit before x.0) refl e (λ later. added_last xs p (with_pair before x.0 x.1) after later)
  where
    placed' : List Pair
    placed' = with_pair before x.0 x.1

    by : (o : Option NamesFault) → misfit before x.0 ≡ o → unless_fault o (after_adding (xs ++ p ∷ []) placed') ≡ Ok after → (after_adding (xs ++ p ∷ []) placed' ≡ Ok after → LastOf xs p placed' after) → LastOf (x ∷ xs) p before after
    by None fitted e again = let r = again e in record { middle = r.middle; first = ap (λ o. unless_fault o (after_adding xs placed')) fitted ∙ r.first; fitted = r.fitted; last = r.last }
    by (Some fault) fitted e again = cc e

pub fitted_absent : (pairs : List Pair) (name : List ℕ) → misfit pairs name ≡ None → is_there pairs name ≡ false
fitted_absent pairs name e = by (is_there pairs name) e
  where
    by : (t : Bool) → (if t then Some (faults.Duplicate name) else if is_under pairs name then Some (faults.LeafAndNode name) else if is_above pairs name then Some (faults.LeafAndNode name) else None) ≡ None → t ≡ false
    by true e = cc e
    by false e = refl

-- the first pair that doesn't fit is the fault, and what was added before it is taken out
pub refused : (fault : NamesFault) (xs rest pairs : List Pair) (p : Pair) (before es new back : List Pair) → pairs ≡ xs ++ p ∷ rest → after_adding xs before ≡ Ok es → AddsOne (Err fault) es new p.0 p.1
    → ((b : List Pair) → after_adding xs b ≡ Ok new → back ≡ b) → Adds (Err fault) pairs before back
refused faults.NoMemory xs rest pairs p before es new back split first same undo = undo before (first ∙ ap (λ (ps : List Pair). Ok ps) (sym same))
refused (faults.Duplicate name) xs rest pairs p before es new back split first one undo = (
  ap (λ (ps : List Pair). after_adding ps before) split ∙ after_adding-append xs (p ∷ rest) before es first ∙ ap (λ o. unless_fault o (after_adding rest (with_pair es p.0 p.1))) one.0,
  undo before (first ∙ ap (λ (ps : List Pair). Ok ps) (sym one.1)),
)
refused (faults.LeafAndNode name) xs rest pairs p before es new back split first one undo = (
  ap (λ (ps : List Pair). after_adding ps before) split ∙ after_adding-append xs (p ∷ rest) before es first ∙ ap (λ o. unless_fault o (after_adding rest (with_pair es p.0 p.1))) one.0,
  undo before (first ∙ ap (λ (ps : List Pair). Ok ps) (sym one.1)),
)

-- one more pair fits
pub one_more : (xs ys : List Pair) (p : Pair) (before es new : List Pair) → ys ≡ xs ++ p ∷ [] → after_adding xs before ≡ Ok es → AddsOne (Ok tt) es new p.0 p.1 → after_adding ys before ≡ Ok new
one_more xs ys p before es new split first one =
    ap (λ (ps : List Pair). after_adding ps before) split ∙ after_adding-append xs (p ∷ []) before es first ∙ ap (λ o. unless_fault o (Ok (with_pair es p.0 p.1))) one.0 ∙ ap (λ (ps : List Pair). Ok ps) (sym one.1)

-- a name before all others is less than the least of them
lesser_of : (name : List ℕ) (pairs : List Pair) (q : ℕ) → AllByRecursion (λ (p : Pair). is_before name p.0 ≡ true) pairs → lesser name (least_name pairs q) ≡ name
lesser_of name [] q all = refl
lesser_of name (p ∷ pairs) q (before, all) = by (nat_eq p.1 q) (lesser_of name pairs q all)
  where
    by : (t : Bool) → lesser name (least_name pairs q) ≡ name → lesser name (if t then Some p.0 else least_name pairs q) ≡ name
    by true again = ap (λ t. if t then name else p.0) before
    by false again = again

-- the least name once a pair is in its place
pub least_with_pair : (pairs : List Pair) (name : List ℕ) (pmid q : ℕ) → is_there pairs name ≡ false → IsInOrder pairs → least_name (with_pair pairs name pmid) q ≡ least_with q (least_name pairs q) (name, pmid)
least_with_pair [] name pmid q absent order = refl
least_with_pair (p ∷ pairs) name pmid q absent (all, text, order) = by (byte_order name p.0) refl absent (λ later. least_with_pair pairs name pmid q later order)
  where
    first : Option (List ℕ)
    first = least_name (p ∷ pairs) q

    by_pmid : (o : Ordering) → o ≡ Greater → byte_order name p.0 ≡ o → (t : Bool) → least_name (with_pair pairs name pmid) q ≡ least_with q (least_name pairs q) (name, pmid)
        → (if t then Some p.0 else least_name (with_pair pairs name pmid) q) ≡ least_with q (if t then Some p.0 else least_name pairs q) (name, pmid)
    by_pmid o is e true again = stays (nat_eq pmid q)
      where
        stays : (t : Bool) → Some p.0 ≡ (if t then Some (if is_lt (byte_order name p.0) then name else p.0) else Some p.0)
        stays true = ap (λ r. Some (if is_lt r then name else p.0)) (sym (e ∙ is))
        stays false = refl
    by_pmid o is e false again = again

    by : (o : Ordering) → byte_order name p.0 ≡ o → (is_eq o || is_there pairs name) ≡ false → (is_there pairs name ≡ false → least_name (with_pair pairs name pmid) q ≡ least_with q (least_name pairs q) (name, pmid))
        → least_name (if is_lt o then (name, pmid) ∷ p ∷ pairs else p ∷ with_pair pairs name pmid) q ≡ least_with q first (name, pmid)
    by Less e absent again =
        let less : lesser name first ≡ name = lesser_of name (p ∷ pairs) q (ap is_lt e, all_before name p.0 pairs (ap is_lt e) all) in
        ap (λ n. if nat_eq pmid q then Some n else first) (sym less)
    by Equal e absent again = cc absent
    by Greater e absent again = by_pmid Greater refl e (nat_eq p.1 q) (again absent)
