-- A table of components takes one more.
use Rattle.std.proofs.Common.{◌≡◌, ℕ, true, false, not, ◌&&◌, Bool, List, [], ◌∷◌, map, refl, ap}
use Rattle.std.specs.declared.cmp.Ordering.{Ordering}
use Rattle.std.specs.declared.cmp.Ordering.TheVariants.{Less, Equal, Greater}
use Rattle.std.specs.Ordering.{match_ordering}
use Rattle.std.specs.Global.{Vec}
use Rattle.std.specs.List.{filter}
use Rattle.std.specs.BTreeMap.{insert_entry}
use Rattle.pcp_base.specs.Texts.{IsText}
use Rattle.pmns_core.specs.Order.{byte_order}
use Rattle.pmns_core.specs.Tables.{AreTextParts}

abbrev pub part : Vec ℕ × Bool → List ℕ × Bool
part e = (e.0.items, e.1)

pub insert_parts : (es : List (Vec ℕ × Bool)) (key : Vec ℕ) (leaf : Bool) → map part (insert_entry (λ (a b : Vec ℕ). byte_order a.items b.items) es key leaf) ≡ insert_entry byte_order (map part es) key.items leaf
insert_parts [] key leaf = refl
insert_parts (e ∷ es) key leaf = by (byte_order key.items e.0.items) (insert_parts es key leaf)
  where
    rest : List (Vec ℕ × Bool)
    rest = insert_entry (λ (a b : Vec ℕ). byte_order a.items b.items) es key leaf

    pairs_of : List (List ℕ × Bool)
    pairs_of = insert_entry byte_order (map part es) key.items leaf

    by : (o : Ordering) → map part rest ≡ pairs_of → map part (match_ordering o ((key, leaf) ∷ e ∷ es) ((e.0, leaf) ∷ es) (e ∷ rest)) ≡ match_ordering o ((key.items, leaf) ∷ part e ∷ map part es) ((e.0.items, leaf) ∷ map part es) (part e ∷ pairs_of)
    by Less again = refl
    by Equal again = refl
    by Greater again = ap (λ (ps : List (List ℕ × Bool)). part e ∷ ps) again

pub insert_texts : (list : List (List ℕ × Bool)) (name : List ℕ) (leaf : Bool) → IsText name → AreTextParts list → AreTextParts (insert_entry byte_order list name leaf)
insert_texts [] name leaf text texts = (text, tt)
insert_texts (c ∷ list) name leaf text (here, later) = by (byte_order name c.0) (insert_texts list name leaf text later)
  where
    by : (o : Ordering) → AreTextParts (insert_entry byte_order list name leaf) → AreTextParts (match_ordering o ((name, leaf) ∷ c ∷ list) ((c.0, leaf) ∷ list) (c ∷ insert_entry byte_order list name leaf))
    by Less again = (text, (here, later))
    by Equal again = (here, later)
    by Greater again = (here, again)

-- a range without bounds is all
pub unbounded : (es : List (Vec ℕ × Bool)) → filter (λ (e : Vec ℕ × Bool). true && not false) es ≡ es
unbounded [] = refl
unbounded (e ∷ es) = ap (λ (ps : List (Vec ℕ × Bool)). e ∷ ps) (unbounded es)
