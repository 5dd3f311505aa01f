-- The table of rows takes one more; what stands at a name's position.
use Rattle.std.proofs.Common.{◌≡◌, ℕ, true, false, not, ◌&&◌, List, [], ◌∷◌, length, map, refl, sym, ap, ◌∙◌}
use Rattle.std.specs.declared.cmp.Ordering.{Ordering}
use Rattle.std.specs.declared.cmp.Ordering.TheVariants.{Less, Equal, Greater}
use Rattle.std.specs.Ordering.{match_ordering, nat_cmp, ordering_then}
use Rattle.std.specs.Cmp.Lexicographic.{slice_cmp}
use Rattle.std.proofs.lemmas.List.{length-map}
use Rattle.std.specs.Global.{Vec}
use Rattle.std.specs.List.{filter}
use Rattle.std.specs.BTreeMap.{BTreeMap, insert_entry}
use Rattle.pcp_base.specs.declared.desc.Desc.{Desc}
use Rattle.pm_print.specs.Infos.{Row, row_order}
use Rattle.pm_print.specs.Rows.{row, listed_rows}

abbrev pub key_order : Vec ℕ × ℕ → Vec ℕ × ℕ → Ordering
key_order a b = ordering_then (slice_cmp nat_cmp a.0.items b.0.items) (nat_cmp a.1 b.1)

pub insert_rows : (es : List ((Vec ℕ × ℕ) × Desc)) (key : Vec ℕ) (at : ℕ) (d : Desc) → map row (insert_entry key_order es (key, at) d) ≡ insert_entry row_order (map row es) (key.items, at) d
insert_rows [] key at d = refl
insert_rows (e ∷ es) key at d = by (key_order (key, at) e.0) (insert_rows es key at d)
  where
    rest : List ((Vec ℕ × ℕ) × Desc)
    rest = insert_entry key_order es (key, at) d

    rows : List Row
    rows = insert_entry row_order (map row es) (key.items, at) d

    by : (o : Ordering) → map row rest ≡ rows → map row (match_ordering o (((key, at), d) ∷ e ∷ es) ((e.0, d) ∷ es) (e ∷ rest)) ≡ match_ordering o (((key.items, at), d) ∷ row e ∷ map row es) (((e.0.0.items, e.0.1), d) ∷ map row es) (row e ∷ rows)
    by Less again = refl
    by Equal again = refl
    by Greater again = ap (λ (ps : List Row). row e ∷ ps) again

-- a range without bounds is all
pub unbounded : (es : List ((Vec ℕ × ℕ) × Desc)) → filter (λ (e : (Vec ℕ × ℕ) × Desc). true && not false) es ≡ es
unbounded [] = refl
unbounded (e ∷ es) = ap (λ (ps : List ((Vec ℕ × ℕ) × Desc)). e ∷ ps) (unbounded es)

-- how many rows there are
pub long_rows : (rows : BTreeMap (Vec ℕ × ℕ) Desc) (n : ℕ) → n ≡ length rows.entries → n ≡ length (listed_rows rows)
long_rows rows n e = e ∙ sym (length-map rows.entries row)
