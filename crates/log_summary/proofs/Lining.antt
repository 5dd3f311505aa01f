-- The map of lines takes one more.
use Rattle.std.proofs.Common.{◌≡◌, ℕ, ℤ, true, false, not, ◌&&◌, List, [], ◌∷◌, map, refl, ap}
use Rattle.std.specs.declared.cmp.Ordering.{Ordering}
use Rattle.std.specs.declared.cmp.Ordering.TheVariants.{Less, Equal, Greater}
use Rattle.std.specs.Ordering.{match_ordering, nat_cmp, int_cmp, ordering_then}
use Rattle.std.specs.Cmp.Lexicographic.{slice_cmp}
use Rattle.std.specs.Global.{Vec}
use Rattle.std.specs.List.{filter}
use Rattle.std.specs.BTreeMap.{insert_entry}
use Rattle.log_summary.specs.Lines.{Line, line_order}
use Rattle.log_summary.specs.Listed.{line}

abbrev Key : Type 0
Key = Vec ℕ × ℕ × ℤ

abbrev Entry : Type 0
Entry = Key × Vec ℕ

abbrev key_order : Key → Key → Ordering
key_order a b = ordering_then (ordering_then (slice_cmp nat_cmp a.0.items b.0.items) (nat_cmp a.1 b.1)) (int_cmp a.2 b.2)

pub insert_lines : (es : List Entry) (name : Vec ℕ) (pmid : ℕ) (i : ℤ) (text : Vec ℕ)
    → map line (insert_entry key_order es (name, pmid, i) text) ≡ insert_entry line_order (map line es) (name.items, pmid, i) text.items
insert_lines [] name pmid i text = refl
insert_lines (e ∷ es) name pmid i text = by (key_order (name, pmid, i) e.0) (insert_lines es name pmid i text)
  where
    rest : List Entry
    rest = insert_entry key_order es (name, pmid, i) text

    lines : List Line
    lines = insert_entry line_order (map line es) (name.items, pmid, i) text.items

    by : (o : Ordering) → map line rest ≡ lines
        → map line (match_ordering o (((name, pmid, i), text) ∷ e ∷ es) ((e.0, text) ∷ es) (e ∷ rest))
        ≡ match_ordering o (((name.items, pmid, i), text.items) ∷ line e ∷ map line es) ((line (e.0, text)) ∷ map line es) (line e ∷ lines)
    by Less again = refl
    by Equal again = refl
    by Greater again = ap (λ (ls : List Line). line e ∷ ls) again

-- a range without bounds is all
pub unbounded : (es : List Entry) → filter (λ (e : Entry). true && not false) es ≡ es
unbounded [] = refl
unbounded (e ∷ es) = ap (λ (ps : List Entry). e ∷ ps) (unbounded es)
