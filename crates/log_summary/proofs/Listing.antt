-- The lines of values: which there are, and in which order.
use Rattle.std.proofs.Common.{◌≡◌, ℕ, Bool, true, false, cond, ◌&&◌, nat_eq, List, [], ◌∷◌, Option, Some, None, fold, refl, sym, ap, ◌∙◌}
use Rattle.std.specs.Prelude.{option_map, bytes_eq}
use Rattle.std.proofs.lemmas.Bool.{eqb-true}
use Rattle.std.proofs.lemmas.Cmp.{int_cmp_total, nat_cmp_total, nat_list_cmp_total, on_total, then_total, tied_itself}
use Rattle.std.proofs.lemmas.Map.Text.{is_eq-slice_cmp}
use Rattle.std.specs.BTreeMap.{is_at}
use Rattle.std.specs.Cmp.{IsTotalOrder, unsigned_tied}
use Rattle.std.specs.Cmp.Lexicographic.{slice_cmp}
use Rattle.std.specs.List.{AllByRecursion}
use Rattle.std.specs.Map.{lookup}
use Rattle.std.specs.Ordering.{int_cmp, int_eq, is_eq, nat_cmp, ordering_then}
use Rattle.std.specs.declared.cmp.Ordering.{Ordering}
use Rattle.std.specs.declared.cmp.Ordering.TheVariants.{Less, Equal, Greater}
use Rattle.pcp_model.specs.declared.records.MetaRecord.{MetaRecord}
use Rattle.log_summary.specs.declared.tally.Tally.{Tally}
use Rattle.log_summary.specs.Laws.{AreLinesOf, Ascend, place_of}
use Rattle.log_summary.specs.Lines.{Line, LineKey, line_of, line_order, lines_of, metric_name, with_line}
use Rattle.log_summary.specs.Tables.{Key, Row, Rows, counted, row_of, same_key, table_of}
use Rattle.log_summary.specs.Tallies.{joined}
use Rattle.log_summary.specs.Values.{Value}
use Rattle.log_summary.proofs.Ascending.{Rise, all_behind, found_behind, rise_behind}
use Rattle.log_summary.proofs.Joining.{joined_assoc}
use Rattle.log_summary.proofs.Merging.{Differ, differ_after}
use Rattle.log_summary.proofs.Tabled.{same_is, same_own}
use Rattle.log_summary.proofs.Telling.{table_tells}

pub line_total : IsTotalOrder line_order
line_total =
    then_total (then_total (on_total (λ (k : LineKey). k.0) nat_list_cmp_total) (on_total (λ (k : LineKey). k.1) nat_cmp_total)) (on_total (λ (k : LineKey). k.2) int_cmp_total)

-- ---- one place for each metric's instance

both_equal : (a b : Ordering) → is_eq (ordering_then a b) ≡ is_eq a && is_eq b
both_equal Less b = refl
both_equal Equal b = refl
both_equal Greater b = refl

nat_same : (a b : ℕ) → is_eq (nat_cmp a b) ≡ nat_eq a b
nat_same a b = unsigned_tied a b

and_false : (b : Bool) → b && false ≡ false
and_false true = refl
and_false false = refl

names_same : (records : List MetaRecord) (p q : ℕ) → bytes_eq (metric_name records p) (metric_name records q) && nat_eq p q ≡ nat_eq p q
names_same records p q = by (nat_eq p q) refl
  where
    own : is_eq (slice_cmp nat_cmp (metric_name records p) (metric_name records p)) ≡ true
    own = ap is_eq (tied_itself nat_list_cmp_total (metric_name records p))

    by : (b : Bool) → nat_eq p q ≡ b → bytes_eq (metric_name records p) (metric_name records q) && b ≡ b
    by true e =
        let same : bytes_eq (metric_name records p) (metric_name records q) ≡ true =
        ap (λ r. bytes_eq (metric_name records p) (metric_name records r)) (sym (eqb-true p q e)) ∙ sym (is_eq-slice_cmp (metric_name records p) (metric_name records p)) ∙ own in
        ap (λ b. b && true) same
    by false e = and_false (bytes_eq (metric_name records p) (metric_name records q))

places_same : (records : List MetaRecord) (a b : Key) → is_eq (line_order (place_of records a) (place_of records b)) ≡ same_key a b
places_same records a b =
    both_equal (ordering_then (slice_cmp nat_cmp (metric_name records a.0) (metric_name records b.0)) (nat_cmp a.0 b.0)) (int_cmp a.1 b.1)
    ∙ ap (λ c. c && int_eq a.1 b.1) (
    both_equal (slice_cmp nat_cmp (metric_name records a.0) (metric_name records b.0)) (nat_cmp a.0 b.0)
    ∙ ap (λ c. c && is_eq (nat_cmp a.0 b.0)) (is_eq-slice_cmp (metric_name records a.0) (metric_name records b.0))
    ∙ ap (λ c. bytes_eq (metric_name records a.0) (metric_name records b.0) && c) (nat_same a.0 b.0)
    ∙ names_same records a.0 b.0
    )

-- ---- rows of different keys

abbrev AreApart : Rows → Type 0
AreApart rows = Differ same_key same_is same_own joined joined_assoc rows

counted_apart : (values : List Value) (rows : Rows) → AreApart rows → AreApart (fold counted rows values)
counted_apart [] rows apart = apart
counted_apart (v ∷ values) rows apart = counted_apart values (counted rows v) (differ_after same_key same_is same_own joined joined_assoc rows (row_of v) apart)

-- ---- the lines

module _ (records : List MetaRecord) where
  -- a line, if there is something to tell
  abbrev line_at : Key → Option Tally → Option (List ℕ)
  line_at key o = option_map (λ (a : Tally). line_of records (key, a)) o

  -- what the rows tell, or else what was there
  abbrev over : Option (List ℕ) → Option (List ℕ) → Option (List ℕ)
  over None other = other
  over (Some line) other = Some line

  abbrev found : Key → List Line → Option (List ℕ)
  found key lines = lookup (is_at (line_order (place_of records key))) lines

  found_one : (key : Key) (row : Row) (lines : List Line) → found key (with_line records lines row) ≡ cond (same_key key row.0) (Some (line_of records row)) (found key lines)
  found_one key row lines =
      found_behind line_order line_total (place_of records key) (place_of records row.0) (line_of records row) lines
      ∙ ap (λ b. cond b (Some (line_of records row)) (found key lines)) (places_same records key row.0)

  found_all : (key : Key) (rows : Rows) → AreApart rows → (lines : List Line) → found key (fold (with_line records) lines rows) ≡ over (line_at key (lookup (same_key key) rows)) (found key lines)
  found_all key [] apart lines = refl
  found_all key (row ∷ rows) apart lines = found_all key rows apart.1 (with_line records lines row) ∙ ap (over (line_at key (lookup (same_key key) rows))) (found_one key row lines) ∙ by (same_key key row.0) refl
    where
      by : (b : Bool) → same_key key row.0 ≡ b
          → over (line_at key (lookup (same_key key) rows)) (cond b (Some (line_of records row)) (found key lines)) ≡ over (line_at key (cond b (Some row.1) (lookup (same_key key) rows))) (found key lines)
      by true e =
          let same : key ≡ row.0 = same_is key row.0 e in
          let none : lookup (same_key key) rows ≡ None = ap (λ (k : Key). lookup (same_key k) rows) same ∙ apart.0 in
          ap (λ (o : Option Tally). over (line_at key o) (Some (line_of records row))) none ∙ ap (λ (k : Key). Some (line_of records (k, row.1))) (sym same)
      by false e = refl

  or_nothing : (o : Option (List ℕ)) → over o None ≡ o
  or_nothing None = refl
  or_nothing (Some line) = refl

  rises : (lines : List Line) → Ascend lines → Rise line_order line_total lines
  rises [] ascend = tt
  rises (l ∷ lines) ascend = (ascend.0, rises lines ascend.1)

  ascends : (lines : List Line) → Rise line_order line_total lines → Ascend lines
  ascends [] rise = tt
  ascends (l ∷ lines) rise = (rise.0, ascends lines rise.1)

  all_ascend : (rows : Rows) (lines : List Line) → Ascend lines → Ascend (fold (with_line records) lines rows)
  all_ascend [] lines ascend = ascend
  all_ascend (row ∷ rows) lines ascend = all_ascend rows (with_line records lines row) (
      ascends (with_line records lines row) (rise_behind line_order line_total (place_of records row.0) (line_of records row) lines (rises lines ascend))
      )

  abbrev Named : LineKey → Type 0
  Named k = k ≡ place_of records (k.1, k.2)

  all_named : (rows : Rows) (lines : List Line) → AllByRecursion (λ (l : Line). Named l.0) lines → AllByRecursion (λ (l : Line). Named l.0) (fold (with_line records) lines rows)
  all_named [] lines named = named
  all_named (row ∷ rows) lines named = all_named rows (with_line records lines row) (all_behind line_order line_total Named (place_of records row.0) (line_of records row) lines named refl)

  pub lines_tell : (values : List Value) → AreLinesOf records values (lines_of records (table_of values))
  lines_tell values = record {
    ascend = all_ascend (table_of values) [] tt;
    each = λ key.
        found_all key (table_of values) (counted_apart values [] tt) [] ∙ or_nothing (line_at key (lookup (same_key key) (table_of values)))
        ∙ ap (line_at key) (table_tells key values);
    named = all_named (table_of values) [] tt;
  }
