-- The last change of a region's layout stores each word of its image.
use Rattle.std.proofs.Common.{◌≡◌, ◌≢◌, ◌⊎◌, inl, inr, ℕ, suc, ◌+◌, ◌<◌, ◌≤◌, Bool, eq-eqb, if◌then◌else◌, List, [], ◌∷◌, ◌++◌, drop, length, length-drop, map, slice_index, Some, None, sym, refl, ap, ◌∙◌, arith}
use mathlib.Core.Logic.{dite}
use native.Mathlib.Decide.{ℕ_discrete}
use Rattle.region_core.specs.declared.act.Act.{Act}
use Rattle.region_core.specs.declared.act.Act.TheVariants.{Put, End, Free}
use Rattle.region_core.specs.declared.act.Entry.{Entry}
use Rattle.region_core.specs.Journal.{own}
use Rattle.region_rule.specs.Changes.{puts_at}
use Rattle.region_rule.specs.Steps.{entry}
use Rattle.record_run.specs.Sums.{IsStored, stored_by}
use Rattle.record_run.proofs.Behind.{head_same, own_mine, own_other, tail_same}
use Rattle.record_run.proofs.Relaid.{change_acts}

-- Acts among which a word is stored

abbrev Puts : ℕ → List Act → Type 0
Puts w [] = ⊥
Puts w (act ∷ acts) = ((v : ℕ) × (act ≡ Put w v)) ⊎ Puts w acts

puts_front : (w : ℕ) (xs ys : List Act) → Puts w xs → Puts w (xs ++ ys)
puts_front w [] ys h = absurd h
puts_front w (x ∷ xs) ys (inl e) = inl e
puts_front w (x ∷ xs) ys (inr h) = inr (puts_front w xs ys h)

puts_in : (at w : ℕ) (xs : List ℕ) → at ≤ w → w < at + length xs → Puts w (puts_at at xs)
puts_in at w [] low high = absurd (omega arith)
puts_in at w (x ∷ xs) low high = dite (ℕ_discrete at w)
    (λ (same : at ≡ w). inl (x, ap (λ (n : ℕ). Put n x) same))
    (λ (differ : at ≢ w). inr (puts_in (suc at) w xs (omega arith) (omega arith)))

-- a change stores each word of its image but the generations
puts_change : (image : List ℕ) (n w : ℕ) → w < length image → w ≢ 1 → w ≢ 2 → Puts w (change_acts 0 image n)
puts_change image n w below one two = dite (ℕ_discrete 0 w)
    (λ (same : 0 ≡ w). inl (slice_index image 0, ap (λ (m : ℕ). Put m (slice_index image 0)) same))
    (λ (differ : 0 ≢ w).
    let long = length-drop 3 image in
    inr (puts_front w (puts_at 3 (drop 3 image)) (End n ∷ Free ∷ []) (puts_in 3 w (drop 3 image) (omega arith) (omega arith))))

-- Entries among which it is stored

stored_more : (w : ℕ) (e : Entry) (es : List Entry) → IsStored w es → IsStored w (e ∷ es)
stored_more w e es h = record { front = e ∷ h.front; entry = h.entry; rest = h.rest; is = ap (λ (l : List Entry). e ∷ l) h.is; number = h.number; stores = h.stores }

pub stored_behind : (w : ℕ) (xs ys : List Entry) → IsStored w ys → IsStored w (xs ++ ys)
stored_behind w [] ys h = h
stored_behind w (x ∷ xs) ys h = stored_more w x (xs ++ ys) (stored_behind w xs ys h)

put_stores : (w v : ℕ) (act : Act) → act ≡ Put w v → stored_by w act ≡ Some v
put_stores w v act e = ap (λ (a : Act). stored_by w a) e ∙ ap (λ (b : Bool). if b then Some v else None) (eq-eqb w w refl)

stored_acts : (w k : ℕ) (acts : List Act) (behind : List Entry) → Puts w acts → IsStored w (map (λ (act : Act). entry k act) acts ++ behind)
stored_acts w k [] behind h = absurd h
stored_acts w k (act ∷ acts) behind (inl p) = record {
  front = [];
  entry = entry k act;
  rest = map (λ (a : Act). entry k a) acts ++ behind;
  is = refl;
  number = p.0;
  stores = put_stores w p.0 act p.1;
}
stored_acts w k (act ∷ acts) behind (inr h) = stored_more w (entry k act) (map (λ (a : Act). entry k a) acts ++ behind) (stored_acts w k acts behind h)

-- what a pass stores stands in the journal
own_stored : (w k : ℕ) (es front rest : List Entry) (x : Entry) (v : ℕ) → own k es ≡ front ++ x ∷ rest → stored_by w x.act ≡ Some v → IsStored w es
own_stored w k [] front rest x v is stores = absurd (nothing front is)
  where
    nothing : (xs : List Entry) → [] ≡ xs ++ x ∷ rest → ⊥
    nothing [] e = cc
    nothing (y ∷ ys) e = cc
own_stored w k (e ∷ es) front rest x v is stores = dite (ℕ_discrete e.by k)
    (λ (same : e.by ≡ k). by_front front (sym (own_mine e es k same) ∙ is) (λ xs more. own_stored w k es xs rest x v more stores))
    (λ (differ : e.by ≢ k). stored_more w e es (own_stored w k es front rest x v (sym (own_other e es k differ) ∙ is) stores))
  where
    by_front : (xs : List Entry) → e ∷ own k es ≡ xs ++ x ∷ rest → ((ys : List Entry) → own k es ≡ ys ++ x ∷ rest → IsStored w es) → IsStored w (e ∷ es)
    by_front [] same more = record { front = []; entry = e; rest = es; is = refl; number = v; stores = ap (λ (y : Entry). stored_by w y.act) (head_same e x (own k es) rest same) ∙ stores }
    by_front (y ∷ ys) same more = stored_more w e es (more ys (tail_same e y (own k es) (ys ++ x ∷ rest) same))

pub change_stores : (w k n : ℕ) (image : List ℕ) (es behind : List Entry) → own k es ≡ map (λ (act : Act). entry k act) (change_acts 0 image n) ++ behind → w < length image → w ≢ 1 → w ≢ 2 → IsStored w es
change_stores w k n image es behind is below one two =
    let h : IsStored w (map (λ (act : Act). entry k act) (change_acts 0 image n) ++ behind) = stored_acts w k (change_acts 0 image n) behind (puts_change image n w below one two) in
    own_stored w k es h.front h.rest h.entry h.number (is ∙ h.is) h.stores
