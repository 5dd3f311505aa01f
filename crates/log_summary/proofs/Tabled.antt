-- The table of two lists of values, one behind the other, is the table of the one with that of the other behind it.
use Rattle.std.proofs.Common.{◌≡◌, ℤ, Bool, true, false, ◌&&◌, nat_eq, List, [], ◌∷◌, ◌++◌, refl, sym, ap, ◌∙◌, fold, map, true≢false}
use Rattle.std.proofs.lemmas.Bool.{eqb-true, eq-eqb}
use Rattle.std.proofs.lemmas.Bool.Decides.{Decides-int_eq}
use Rattle.std.proofs.lemmas.List.Sums.{fold-append}
use Rattle.std.specs.Ordering.{int_eq}
use Rattle.log_summary.specs.Tallies.{joined}
use Rattle.log_summary.specs.Tables.{Key, Rows, same_key, row_of, put, counted, merged, table_of}
use Rattle.log_summary.specs.Values.{Value}
use Rattle.log_summary.proofs.Joining.{joined_assoc}
use Rattle.log_summary.proofs.Merging.{all_more}

int_exact : (x y : ℤ) → int_eq x y ≡ true → x ≡ y
int_exact x y h = (Decides-int_eq x y).0 h

int_own : (x : ℤ) → int_eq x x ≡ true
int_own x = (Decides-int_eq x x).1 refl

pub same_is : (a b : Key) → same_key a b ≡ true → a ≡ b
same_is a b h = by (nat_eq a.0 b.0) refl (int_eq a.1 b.1) refl h
  where
    by : (x : Bool) → nat_eq a.0 b.0 ≡ x → (y : Bool) → int_eq a.1 b.1 ≡ y → x && y ≡ true → a ≡ b
    by true p true q e = λ i. (eqb-true a.0 b.0 p i, int_exact a.1 b.1 q i)
    by true p false q e = absurd (true≢false (sym e))
    by false p y q e = absurd (true≢false (sym e))

pub same_own : (a : Key) → same_key a a ≡ true
same_own a = ap (λ b. b && int_eq a.1 a.1) (eq-eqb a.0 a.0 refl) ∙ int_own a.1

as_rows : (rows : Rows) (vs : List Value) → fold counted rows vs ≡ fold put rows (map row_of vs)
as_rows rows [] = refl
as_rows rows (v ∷ vs) = as_rows (counted rows v) vs

pub counted_behind : (rows : Rows) (ys : List Value) → merged rows (table_of ys) ≡ fold counted rows ys
counted_behind rows ys =
    ap (fold put rows) (as_rows [] ys) ∙ all_more same_key same_is same_own joined joined_assoc (map row_of ys) [] tt rows ∙ sym (as_rows rows ys)

pub tables_merge : (xs ys : List Value) → table_of (xs ++ ys) ≡ merged (table_of xs) (table_of ys)
tables_merge xs ys = fold-append counted [] xs ys ∙ sym (counted_behind (table_of xs) ys)
