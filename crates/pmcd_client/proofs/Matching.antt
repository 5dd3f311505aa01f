-- What fits a question: distinct numbers, and one set for each metric.
use Rattle.std.proofs.Common.{◌≡◌, ◌≢◌, ℕ, zero, suc, ℤ, ◌<◌, ◌≤◌, Bool, true, false, not, ◌&&◌, ◌||◌, List, [], ◌∷◌, length, map, filter, ◌++◌, get_or, drop, refl, sym, ap, ◌∙◌, arith, Decides, ◌↔◌, All, AllPairs, ⊎_elim, ◌⊎◌, true≢false}
use Rattle.std.specs.Ordering.{int_eq}
use Rattle.std.proofs.lemmas.Bool.Decides.{Decides-int_eq}
use Rattle.std.proofs.lemmas.List.Elements.{All-cons, All-nil}
use Rattle.std.proofs.lemmas.List.Kept.{AllPairs-cons}
use Rattle.pcp_base.specs.declared.result.ValueSet.{ValueSet}
use Rattle.pmcd_client.specs.Items.{lists_instance}
use Rattle.std.proofs.lemmas.List.{append-nil, at_drop_all}
use Rattle.pmcd_client.specs.Replies.{Listed, metrics_behind}
use Rattle.pmcd_client.specs.Turns.{numbers, pmids_of}

-- no number stands again behind
abbrev pub are_apart : List (ℤ × List ℕ) → Bool
are_apart [] = true
are_apart (p ∷ ps) = not (lists_instance ps p.0) && are_apart ps

-- a list without a number
lacks_all : (n : ℤ) (ps : List (ℤ × List ℕ)) → lists_instance ps n ≡ false → All (λ m. n ≢ m) (numbers ps)
lacks_all n [] h = All-nil (λ m. n ≢ m)
lacks_all n (p ∷ ps) h = go (int_eq p.0 n) refl h (lacks_all n ps)
  where
    go : (b : Bool) → int_eq p.0 n ≡ b → (b || lists_instance ps n) ≡ false → (lists_instance ps n ≡ false → All (λ m. n ≢ m) (numbers ps)) → All (λ m. n ≢ m) (p.0 ∷ numbers ps)
    go true e k rest = absurd (true≢false k)
    go false e k rest = All-cons (λ m. n ≢ m) p.0 (numbers ps) (λ (same : n ≡ p.0). true≢false (sym ((Decides-int_eq p.0 n).1 (sym same)) ∙ e)) (rest k)

apart_sound : (ps : List (ℤ × List ℕ)) → are_apart ps ≡ true → AllPairs (λ a b. a ≢ b) (numbers ps)
apart_sound [] h = λ i j d lt within. absurd (omega arith)
apart_sound (p ∷ ps) h = go (lists_instance ps p.0) refl h (apart_sound ps)
  where
    go : (b : Bool) → lists_instance ps p.0 ≡ b → (not b && are_apart ps) ≡ true → (are_apart ps ≡ true → AllPairs (λ a b. a ≢ b) (numbers ps)) → AllPairs (λ a b. a ≢ b) (p.0 ∷ numbers ps)
    go true e k rest = absurd (true≢false (sym k))
    go false e k rest = AllPairs-cons (λ a b. a ≢ b) p.0 (numbers ps) (lacks_all p.0 ps e) (rest k)

-- a number that a list has stands somewhere in it
found_at : (n : ℤ) (ps : List (ℤ × List ℕ)) → lists_instance ps n ≡ true → (k : ℕ) × (k < length (numbers ps)) × (get_or (numbers ps) k n ≡ n)
found_at n [] h = absurd (true≢false (sym h))
found_at n (p ∷ ps) h = go (int_eq p.0 n) refl h (found_at n ps)
  where
    go : (b : Bool) → int_eq p.0 n ≡ b → (b || lists_instance ps n) ≡ true → (lists_instance ps n ≡ true → (k : ℕ) × (k < length (numbers ps)) × (get_or (numbers ps) k n ≡ n)) → (k : ℕ) × (k < length (p.0 ∷ numbers ps)) × (get_or (p.0 ∷ numbers ps) k n ≡ n)
    go true e k rest = (zero, omega arith, (Decides-int_eq p.0 n).0 e)
    go false e k rest = let f = rest k in let below = f.1 in (suc f.0, omega arith, f.2)

apart_complete : (ps : List (ℤ × List ℕ)) → AllPairs (λ a b. a ≢ b) (numbers ps) → are_apart ps ≡ true
apart_complete [] h = refl
apart_complete (p ∷ ps) h = go (lists_instance ps p.0) refl (apart_complete ps (λ i j d lt within. h (suc i) (suc j) d (omega arith) (omega arith)))
  where
    go : (b : Bool) → lists_instance ps p.0 ≡ b → are_apart ps ≡ true → (not b && are_apart ps) ≡ true
    go true e k = let f = found_at p.0 ps e in let below = f.1 in absurd (h zero (suc f.0) p.0 (omega arith) (omega arith) (sym f.2))
    go false e k = k

pub apart_Decides : (ps : List (ℤ × List ℕ)) → Decides (are_apart ps) (AllPairs (λ a b. a ≢ b) (numbers ps))
apart_Decides ps = (apart_sound ps, apart_complete ps)

-- ---- sets and metrics, one for each

-- the first ones match, so the rest decides
pub pmids_more : (P : Type 0) (s : ValueSet) (n : ℕ) (sets : List ValueSet) (pmids : List ℕ) → s.pmid ≡ n → ((pmids_of (s ∷ sets) ≡ n ∷ pmids) ↔ P) → ((pmids_of sets ≡ pmids) ↔ P)
pmids_more P s n sets pmids same both = (
  (λ (e : pmids_of sets ≡ pmids). both.0 (let one : s.pmid ∷ pmids_of sets ≡ n ∷ pmids = cc in one)),
  (λ (q : P). let all : s.pmid ∷ pmids_of sets ≡ n ∷ pmids = both.1 q in let rest : pmids_of sets ≡ pmids = cc in rest),
)

pub pmids_differ : (s : ValueSet) (n : ℕ) (sets : List ValueSet) (pmids : List ℕ) → s.pmid ≢ n → pmids_of (s ∷ sets) ≡ n ∷ pmids → ⊥
pmids_differ s n sets pmids other all = other (let all2 : s.pmid ∷ pmids_of sets ≡ n ∷ pmids = all in let first : s.pmid ≡ n = cc in first)

-- none is left of either
pub pmids_all : (P : Type 0) (sets : List ValueSet) (pmids : List ℕ) → length sets ≡ length pmids → (sets ≡ []) ⊎ (pmids ≡ []) → ((pmids_of sets ≡ pmids) ↔ P) → P
pmids_all P [] [] same ends both = both.0 refl
pmids_all P [] (n ∷ pmids) same ends both = absurd (omega arith)
pmids_all P (s ∷ sets) [] same ends both = absurd (omega arith)
pmids_all P (s ∷ sets) (n ∷ pmids) same ends both = absurd (⊎_elim (λ (e : s ∷ sets ≡ []). cc) (λ (e : n ∷ pmids ≡ []). cc) ends)

pub metrics_end : (seen : List (ℕ × List ℕ)) (pmids : List ℕ) (names : List (List ℕ)) → (pmids ≡ []) ⊎ (names ≡ []) → metrics_behind seen pmids names ≡ seen
metrics_end seen [] names ends = refl
metrics_end seen (n ∷ pmids) [] ends = refl
metrics_end seen (n ∷ pmids) (name ∷ names) ends = absurd (⊎_elim (λ (e : n ∷ pmids ≡ []). cc) (λ (e : name ∷ names ≡ []). cc) ends)

-- some number stands twice
pub twice : (ps : List (ℤ × List ℕ)) → are_apart ps ≡ false → AllPairs (λ a b. a ≢ b) (numbers ps) → ⊥
twice ps h all = true≢false (sym (apart_complete ps all) ∙ h)

-- nothing is left behind what was found
pub none_behind : (p : Listed → Bool) (found all : List ℕ) (domains : List Listed) (at : ℕ) → length domains ≤ at → found ++ map (λ listed. listed.0) (filter p (drop at domains)) ≡ all → found ≡ all
none_behind p found all domains at end is =
    sym (append-nil found) ∙ ap (λ (l : List ℕ). found ++ l) (sym (at_drop_all (λ (ds : List Listed). map (λ listed. listed.0) (filter p ds)) domains at end)) ∙ is
