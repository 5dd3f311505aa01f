-- Whether facts tell of a set what describes it.
use Rattle.std.proofs.Common.{◌≡◌, ℕ, zero, suc, ℤ, ◌<◌, Bool, true, false, ◌&&◌, ◌||◌, nat_eq, List, [], ◌∷◌, length, refl, sym, ap, ◌∙◌, arith, Decides, cond, slice_index_or, Option, Some, None, ⊎_elim, inl, inr, true≢false}
use Rattle.std.specs.List.{list_all, AllByRecursion}
use Rattle.std.specs.Ordering.{int_eq}
use Rattle.std.proofs.lemmas.Bool.{eqb-true, eq-eqb}
use Rattle.std.proofs.lemmas.Bool.Decides.{Decides-int_eq}
use Rattle.pcp_base.specs.Ids.{null_indom}
use Rattle.pcp_base.specs.declared.desc.Desc.{Desc}
use Rattle.pcp_base.specs.declared.result.Body.{Body}
use Rattle.pcp_base.specs.declared.result.Body.TheVariants.{InPlace, Blocks, Status}
use Rattle.pcp_base.specs.declared.result.ValueSet.{ValueSet}
use Rattle.archive_meta.specs.declared.facts.Facts.{Facts}
use Rattle.archive_meta.specs.Enough.{IsListed, AreListed, IsTold}
use Rattle.archive_meta.specs.Facts.{fact_of, listed_of}
use Rattle.pmcd_client.specs.Items.{lists_instance, lists_all, lists_shown, tells_of, tells}
use Rattle.pmcd_client.specs.Replies.{Listed}

and_split : (a b : Bool) → (a && b) ≡ true → (a ≡ true) × (b ≡ true)
and_split true b e = (refl, e)
and_split false b e = absurd (true≢false (sym e))

and_join : (a b : Bool) → a ≡ true → b ≡ true → (a && b) ≡ true
and_join true b p q = q
and_join false b p q = p

or_left : (a b : Bool) → a ≡ true → (a || b) ≡ true
or_left true b p = refl
or_left false b p = absurd (true≢false (sym p))

or_right : (a b : Bool) → b ≡ true → (a || b) ≡ true
or_right true b p = refl
or_right false b p = p

-- a test of each decides all
all_Decides : {X : Type 0} (t : X → Bool) (P : X → Type 0) → ((x : X) → Decides (t x) (P x)) → (xs : List X) → Decides (list_all t xs) (AllByRecursion P xs)
all_Decides t P each [] = ((λ _. tt), (λ _. refl))
all_Decides t P each (x ∷ xs) =
    let rest = all_Decides t P each xs in (
      (λ (e : (t x && list_all t xs) ≡ true). let s = and_split (t x) (list_all t xs) e in ((each x).0 s.0, rest.0 s.1)),
      (λ (h : P x × AllByRecursion P xs). and_join (t x) (list_all t xs) ((each x).1 h.0) (rest.1 h.1)),
    )

-- ---- instances

instance_sound : (n : ℤ) (ps : List (ℤ × List ℕ)) → lists_instance ps n ≡ true → IsListed ps n
instance_sound n [] h = absurd (true≢false (sym h))
instance_sound n (p ∷ ps) h = go (int_eq p.0 n) refl h (instance_sound n ps)
  where
    go : (b : Bool) → int_eq p.0 n ≡ b → (b || lists_instance ps n) ≡ true → (lists_instance ps n ≡ true → IsListed ps n) → IsListed (p ∷ ps) n
    go true e k rest = (p.1, (zero, omega arith, ap (λ (m : ℤ). (m, p.1)) ((Decides-int_eq p.0 n).0 e)))
    go false e k rest = let f = rest k in let below = f.1.1 in (f.0, (suc f.1.0, omega arith, f.1.2))

instance_complete : (n : ℤ) (name : List ℕ) (ps : List (ℤ × List ℕ)) (k : ℕ) → k < length ps → slice_index_or ps k (n, name) ≡ (n, name) → lists_instance ps n ≡ true
instance_complete n name [] k below at = absurd (omega arith)
instance_complete n name (p ∷ ps) zero below at = or_left (int_eq p.0 n) (lists_instance ps n) ((Decides-int_eq p.0 n).1 (ap (λ (q : ℤ × List ℕ). q.0) at))
instance_complete n name (p ∷ ps) (suc k) below at = or_right (int_eq p.0 n) (lists_instance ps n) (instance_complete n name ps k (omega arith) at)

instance_Decides : (ps : List (ℤ × List ℕ)) (n : ℤ) → Decides (lists_instance ps n) (IsListed ps n)
instance_Decides ps n = (instance_sound n ps, (λ (h : IsListed ps n). instance_complete n h.0 ps h.1.0 h.1.1 h.1.2))

lists_Decides : (pairs : List (ℤ × List ℕ)) (body : Body) → Decides (lists_all pairs body) (AreListed pairs body)
lists_Decides pairs (InPlace shown) = all_Decides (λ p. lists_instance pairs p.0) (λ p. IsListed pairs p.0) (λ p. instance_Decides pairs p.0) shown
lists_Decides pairs (Blocks shown) = all_Decides (λ p. lists_instance pairs p.0) (λ p. IsListed pairs p.0) (λ p. instance_Decides pairs p.0) shown
lists_Decides pairs (Status n) = ((λ _. tt), (λ _. refl))

-- ---- facts

-- what is found under a key has it
under_key : (k : ℕ) (ls : List Listed) (l : Listed) → listed_of ls k ≡ Some l → l.0 ≡ k
under_key k [] l h = absurd (let none : None ≡ Some l = h in cc)
under_key k (m ∷ ls) l h = go (nat_eq m.0 k) refl h (under_key k ls l)
  where
    go : (b : Bool) → nat_eq m.0 k ≡ b → cond b (Some m) (listed_of ls k) ≡ Some l → (listed_of ls k ≡ Some l → l.0 ≡ k) → l.0 ≡ k
    go true e f rest = let same : m ≡ l = cc in ap (λ (x : Listed). x.0) (sym same) ∙ eqb-true m.0 k e
    go false e f rest = rest f

shown_sound : (k : ℕ) (body : Body) (ls : List Listed) (o : Option Listed) → listed_of ls k ≡ o → lists_shown o body ≡ true → (pairs : List (ℤ × List ℕ)) × (listed_of ls k ≡ Some (k, pairs)) × AreListed pairs body
shown_sound k body ls None is h = absurd (true≢false (sym h))
shown_sound k body ls (Some l) is h = (l.1, is ∙ ap (λ (n : ℕ). Some (n, l.1)) (under_key k ls l is), (lists_Decides l.1 body).0 h)

told_sound : (facts : Facts) (set : ValueSet) (o : Option (Desc × List ℕ)) → fact_of facts.metrics set.pmid ≡ o → tells_of facts set o ≡ true → IsTold facts set
told_sound facts set None is h = absurd (true≢false (sym h))
told_sound facts set (Some fact) is h = go (nat_eq fact.0.indom null_indom) refl h
  where
    go : (b : Bool) → nat_eq fact.0.indom null_indom ≡ b → (b || lists_shown (listed_of facts.domains fact.0.indom) set.body) ≡ true → IsTold facts set
    go true e k = record { fact = fact; found = is; named = inl (eqb-true fact.0.indom null_indom e) }
    go false e k = record { fact = fact; found = is; named = inr (shown_sound fact.0.indom set.body facts.domains (listed_of facts.domains fact.0.indom) refl k) }

told_complete : (facts : Facts) (set : ValueSet) → IsTold facts set → tells facts set ≡ true
told_complete facts set t =
    let shown = lists_shown (listed_of facts.domains t.fact.0.indom) set.body in
    ap (tells_of facts set) t.found
    ∙ ⊎_elim (λ (null : t.fact.0.indom ≡ null_indom). or_left (nat_eq t.fact.0.indom null_indom) shown (eq-eqb t.fact.0.indom null_indom null))
    (λ (listed : (pairs : List (ℤ × List ℕ)) × (listed_of facts.domains t.fact.0.indom ≡ Some (t.fact.0.indom, pairs)) × AreListed pairs set.body).
    or_right (nat_eq t.fact.0.indom null_indom) shown (ap (λ (o : Option Listed). lists_shown o set.body) listed.1 ∙ (lists_Decides listed.0 set.body).1 listed.2)) t.named

pub tells_Decides : (facts : Facts) (set : ValueSet) → Decides (tells facts set) (IsTold facts set)
tells_Decides facts set = (told_sound facts set (fact_of facts.metrics set.pmid) refl, told_complete facts set)
