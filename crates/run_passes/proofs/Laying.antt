-- Writers laid down one after another, the last first; and passes taken up, the first first.
use Rattle.std.proofs.Common.{◌≡◌, ◌≢◌, ◌⊎◌, inl, inr, ⊎_elim, ℕ, zero, suc, ◌+◌, ◌<◌, ◌≤◌, List, [], ◌∷◌, ◌++◌, length, length-append, length-set, get_or, map, replicate, take, drop, slice_get, slice_set, append-nil, append_assoc, Option, Some, None, sym, refl, ap, ◌∙◌, subst, arith}
use Rattle.std.proofs.lemmas.Option.{slice_get_within}
use Rattle.region_rule.specs.Seats.{Token}
use Rattle.fetch_engine.specs.declared.server.Mounted.{Mounted}
use Rattle.run_passes.proofs.Crewing.{get_set_same, get_set_other, same_or_other}
use Rattle.run_passes.specs.declared.writer.Writer.{Writer}
use Rattle.run_passes.specs.declared.writer.Writer.TheVariants as writers
use Rattle.run_passes.specs.Writers.{IsWriter}
use Rattle.run_passes.specs.Hands.{AreLaidDown, AreWriters, LaidDown}
use Rattle.run_passes.proofs.WriterPlaces.{the_same}

le_split : (n j : ℕ) → n ≤ j → (n < j) ⊎ (n ≡ j)
le_split zero zero h = inr refl
le_split zero (suc j) h = inl (omega arith)
le_split (suc n) zero h = absurd (omega arith)
le_split (suc n) (suc j) h = ⊎_elim (λ (less : n < j). inl (omega arith)) (λ (same : n ≡ j). inr (ap suc same)) (le_split n j (omega arith))

further : (j n m : ℕ) → n ≤ j → j ≢ n → m ≡ n + 1 → m ≤ j
further j n m past other long = ⊎_elim (λ (less : n < j). omega arith) (λ (same : n ≡ j). absurd (other (sym same))) (le_split n j past)

-- the first ones of a list are left, and the others are laid down
pub record LaidFrom (server : List Mounted) (number : ℕ) (list left : List Writer) (passes : List (Option Token)) : Type 0 where
  pub gone : List Writer
  pub is : list ≡ left ++ gone
  pub laid : (j : ℕ) (mounted : Mounted) (writer : Writer) → length left ≤ j → slice_get server j ≡ Some mounted → slice_get list j ≡ Some writer
      → (pass : Option Token) × (slice_get passes j ≡ Some pass) × LaidDown mounted.region number writer pass

pub laid_none : (server : List Mounted) (number : ℕ) (list : List Writer) (passes : List (Option Token)) → LaidFrom server number list list passes
laid_none server number list passes = record {
  gone = [];
  is = sym (append-nil list);
  laid = λ j mounted writer past e f. let within = slice_get_within list j writer f in absurd (omega arith);
}

pub get_seam : {A : Type 0} (xs : List A) (y : A) (zs : List A) → slice_get (xs ++ y ∷ zs) (length xs) ≡ Some y
get_seam [] y zs = refl
get_seam (x ∷ xs) y zs = get_seam xs y zs

-- the writer that is popped
pub popped_at : (server : List Mounted) (number : ℕ) (list left rest : List Writer) (writer : Writer) (passes : List (Option Token)) → LaidFrom server number list left passes → left ≡ rest ++ writer ∷ [] → slice_get list (length rest) ≡ Some writer
popped_at server number list left rest writer passes l e =
    ap (λ (xs : List Writer). slice_get xs (length rest)) (l.is ∙ (ap (λ (xs : List Writer). xs ++ l.gone) e ∙ append_assoc rest (writer ∷ []) l.gone)) ∙ get_seam rest writer l.gone

pub laid_more : (server : List Mounted) (number : ℕ) (list left rest : List Writer) (writer : Writer) (passes : List (Option Token)) (laid : Option Token) → length passes ≡ length server → length list ≡ length server
    → LaidFrom server number list left passes → left ≡ rest ++ writer ∷ []
    → ((mounted : Mounted) → slice_get server (length rest) ≡ Some mounted → LaidDown mounted.region number writer laid) → LaidFrom server number list rest (slice_set passes (length rest) laid)
laid_more server number list left rest writer passes laid long many l e down = record {
  gone = writer ∷ l.gone;
  is = l.is ∙ (ap (λ (xs : List Writer). xs ++ l.gone) e ∙ append_assoc rest (writer ∷ []) l.gone);
  laid = λ j mounted other past f g. ⊎_elim
      (λ (same : j ≡ length rest).
      let here : writer ≡ other = the_same list (length rest) j writer other (popped_at server number list left rest writer passes l e) g (sym same) in
      let within = slice_get_within server j mounted f in
      let set : slice_get (slice_set passes (length rest) laid) j ≡ Some laid =
      ap (λ (n : ℕ). slice_get (slice_set passes (length rest) laid) n) same ∙ get_set_same passes (length rest) laid (omega arith) in
      (laid, set, subst (λ (w : Writer). LaidDown mounted.region number w laid) here (down mounted (ap (λ (n : ℕ). slice_get server n) (sym same) ∙ f))))
      (λ (n : j ≢ length rest).
      let long_left : length left ≡ length rest + 1 = ap (λ (xs : List Writer). length xs) e ∙ length-append rest (writer ∷ []) in
      let old = l.laid j mounted other (further j (length rest) (length left) past n long_left) f g in
      (old.0, get_set_other passes (length rest) j laid n ∙ old.1, old.2))
      (same_or_other j (length rest));
}

-- the writer that is popped is laid down at its place
pub laid_next : (server : List Mounted) (number : ℕ) (list left rest : List Writer) (writer : Writer) (passes : List (Option Token)) (laid : Option Token) (at : ℕ) → at ≡ length rest → length passes ≡ length server → AreWriters server number list
    → LaidFrom server number list left passes → left ≡ rest ++ writer ∷ []
    → ((k : ℕ) (mounted : Mounted) → slice_get server at ≡ Some mounted → (writer ≡ writers.Away) ⊎ IsWriter mounted.region k writer → LaidDown mounted.region k writer laid)
    → (length (slice_set passes at laid) ≡ length server) × LaidFrom server number list rest (slice_set passes at laid)
laid_next server number list left rest writer passes laid at is long writers_are l e down = (
  length-set passes at laid ∙ long,
  subst (λ (n : ℕ). LaidFrom server number list rest (slice_set passes n laid)) (sym is)
      (laid_more server number list left rest writer passes laid long writers_are.as_many l e
      (λ mounted there. let here : slice_get server at ≡ Some mounted = ap (λ (n : ℕ). slice_get server n) is ∙ there in
      down number mounted here (writers_are.each at mounted writer here (ap (λ (n : ℕ). slice_get list n) is ∙ popped_at server number list left rest writer passes l e)))),
)

pub all_laid : (server : List Mounted) (number : ℕ) (list left : List Writer) (passes : List (Option Token)) → length left ≡ 0 → LaidFrom server number list left passes → AreLaidDown server number list passes
all_laid server number list left passes none l j mounted writer e f = l.laid j mounted writer (omega arith) e f

-- Taking up

pub set_seam : {A : Type 0} (xs : List A) (y z : A) (zs : List A) (n : ℕ) → length xs ≡ n → slice_set (xs ++ y ∷ zs) n z ≡ xs ++ z ∷ zs
set_seam [] y z zs zero h = refl
set_seam [] y z zs (suc n) h = absurd (omega arith)
set_seam (x ∷ xs) y z zs zero h = absurd (omega arith)
set_seam {A} (x ∷ xs) y z zs (suc n) h = ap (λ (l : List A). x ∷ l) (set_seam xs y z zs n (omega arith))

pub drop_more : {A : Type 0} (xs : List A) (n : ℕ) (x : A) → slice_get xs n ≡ Some x → drop n xs ≡ x ∷ drop (suc n) xs
drop_more [] n x e = absurd (cc)
drop_more (y ∷ ys) zero x e = let same : y ≡ x = cc in ap (λ z. z ∷ ys) same
drop_more (y ∷ ys) (suc n) x e = drop_more ys n x e

pub map_more : {A B : Type 0} (f : A → B) (xs : List A) (n : ℕ) (x : A) → slice_get xs n ≡ Some x → map f (take (suc n) xs) ≡ map f (take n xs) ++ f x ∷ []
map_more f [] n x e = absurd (cc)
map_more f (y ∷ ys) zero x e = let same : y ≡ x = cc in ap (λ z. f z ∷ []) same
map_more {A} {B} f (y ∷ ys) (suc n) x e = ap (λ (l : List B). f y ∷ l) (map_more f ys n x e)

pub map_next : {A B : Type 0} (f : A → B) (xs : List A) (n : ℕ) (x : A) → slice_get xs n ≡ Some x → map f (take (n + 1) xs) ≡ map f (take n xs) ++ f x ∷ []
map_next f xs n x e = let same : suc n ≡ n + 1 = omega arith in subst (λ (m : ℕ). map f (take m xs) ≡ map f (take n xs) ++ f x ∷ []) same (map_more f xs n x e)

pub replicate_more : {A : Type 0} (n : ℕ) (x : A) → replicate (suc n) x ≡ replicate n x ++ x ∷ []
replicate_more zero x = refl
replicate_more {A} (suc n) x = ap (λ (l : List A). x ∷ l) (replicate_more n x)

pub replicate_long : {A : Type 0} (n : ℕ) (x : A) → length (replicate n x) ≡ n
replicate_long zero x = refl
replicate_long (suc n) x = ap suc (replicate_long n x)

-- where the first ones are taken, the next one lies
at_seam : {A : Type 0} (xs : List A) (y d : A) (zs : List A) (n : ℕ) → length xs ≡ n → get_or (xs ++ y ∷ zs) n d ≡ y
at_seam [] y d zs zero h = refl
at_seam [] y d zs (suc n) h = absurd (omega arith)
at_seam (x ∷ xs) y d zs zero h = absurd (omega arith)
at_seam (x ∷ xs) y d zs (suc n) h = at_seam xs y d zs n (omega arith)

pub left_at : (ps : List (Option Token)) (n : ℕ) (x : Option Token) → slice_get ps n ≡ Some x → (d : Option Token) → get_or (replicate n None ++ drop n ps) n d ≡ x
left_at ps n x e d = ap (λ (l : List (Option Token)). get_or (replicate n None ++ l) n d) (drop_more ps n x e) ∙ at_seam (replicate n None) x d (drop (suc n) ps) n (replicate_long n None)

-- and is taken
pub set_none : (ps : List (Option Token)) (n : ℕ) (x : Option Token) → slice_get ps n ≡ Some x → slice_set (replicate n None ++ drop n ps) n None ≡ replicate (n + 1) None ++ drop (n + 1) ps
set_none ps n x e =
    let next : suc n ≡ n + 1 = omega arith in
    let both : replicate n None ++ None ∷ drop (suc n) ps ≡ replicate (suc n) None ++ drop (suc n) ps =
    sym (ap (λ (l : List (Option Token)). l ++ drop (suc n) ps) (replicate_more n None) ∙ append_assoc (replicate n None) (None ∷ []) (drop (suc n) ps)) in
    ap (λ (l : List (Option Token)). slice_set (replicate n None ++ l) n None) (drop_more ps n x e)
    ∙ (set_seam (replicate n None) x None (drop (suc n) ps) n (replicate_long n None) ∙ (both ∙ ap (λ (m : ℕ). replicate m None ++ drop m ps) next))
