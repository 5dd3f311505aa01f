-- How many metrics a tick asks for at most, where all names lead to some few numbers.
use Rattle.std.proofs.Common.{◌≡◌, ℕ, ◌+◌, ◌≤◌, Bool, true, false, ◌||◌, cond, ◌==◌, List, [], ◌∷◌, ◌++◌, length, map, fold, Result, Ok, Err, Option, Some, None, refl, sym, ap, ◌∙◌, subst, arith, length-append}
use Rattle.std.specs.Prelude.{filter, flat_map, if◌then◌else◌}
use Rattle.std.specs.List.{AllByRecursion as Each, list_any}
use Rattle.std.proofs.lemmas.Bool.{eqb-true, eq-eqb}
use Rattle.pcp_base.specs.Time.{Moment}
use Rattle.pmns_core.specs.Adding.{misfit, unless_fault, after_adding}
use Rattle.pmns_core.specs.Order.{is_same, is_before, continues}
use Rattle.pmns_core.specs.Pairs.{Pair, with_pair}
use Rattle.pmns_core.specs.Below.{below}
use Rattle.pmns_core.specs.declared.fault.NamesFault.{NamesFault}
use Rattle.fetch_answers.specs.Names.{served_word}
use Rattle.log_schedule.specs.declared.config.Group.{Group}
use Rattle.script_runs.specs.Groups.{Plan, metrics_below, metrics_of, with_metric, with_metrics, plans_at_start, asks_more, is_due, asking, if_due, asked_for}

-- what holds of each item of lists holds of those behind each other, of what is made of them, and of those that a test keeps
pub each_append : {A : Type 0} (P : A → Type 0) (xs ys : List A) → Each P xs → Each P ys → Each P (xs ++ ys)
each_append P [] ys h g = g
each_append P (x ∷ xs) ys h g = (h.0, each_append P xs ys h.1 g)

pub each_mapped : {A B : Type 0} (P : B → Type 0) (f : A → B) (xs : List A) → Each (λ x. P (f x)) xs → Each P (map f xs)
each_mapped P f [] h = tt
each_mapped P f (x ∷ xs) h = (h.0, each_mapped P f xs h.1)

each_filtered : {A : Type 0} (P : A → Type 0) (test : A → Bool) (xs : List A) → Each P xs → Each P (filter test xs)
each_filtered P test [] h = tt
each_filtered P test (x ∷ xs) h = by_test (test x) (each_filtered P test xs h.1)
  where
    by_test : (b : Bool) → Each P (filter test xs) → Each P (cond b (x ∷ filter test xs) (filter test xs))
    by_test true rest = (h.0, rest)
    by_test false rest = rest

each_flat : {A B : Type 0} (P : B → Type 0) (f : A → List B) (xs : List A) → ((x : A) → Each P (f x)) → Each P (flat_map f xs)
each_flat P f [] h = tt
each_flat P f (x ∷ xs) h = each_append P (f x) (flat_map f xs) (h x) (each_flat P f xs h)

-- The numbers of the metrics of three clusters with at most 14 items each

abbrev pub items : List ℕ
items = 1 ∷ 2 ∷ 3 ∷ 4 ∷ 5 ∷ 6 ∷ 7 ∷ 8 ∷ 9 ∷ 10 ∷ 11 ∷ 12 ∷ 13 ∷ 14 ∷ []

-- they are 42
abbrev pub known : List ℕ
known = map (served_word 1) items ++ (map (served_word 2) items ++ map (served_word 3) items)

abbrev pub is_among : List ℕ → ℕ → Bool
is_among numbers n = list_any (λ other. other == n) numbers

-- a number is one of them
abbrev pub IsKnown : ℕ → Type 0
IsKnown n = is_among known n ≡ true

-- Names

-- each name leads to one
abbrev pub AreKnown : List Pair → Type 0
AreKnown pairs = Each (λ pair. IsKnown pair.1) pairs

-- so it stays where a pair comes
known_with : (pairs : List Pair) (name : List ℕ) (pmid : ℕ) → IsKnown pmid → AreKnown pairs → AreKnown (with_pair pairs name pmid)
known_with [] name pmid is h = (is, tt)
known_with (p ∷ pairs) name pmid is h = by_test (is_before name p.0) (known_with pairs name pmid is h.1)
  where
    by_test : (b : Bool) → AreKnown (with_pair pairs name pmid) → AreKnown (if b then (name, pmid) ∷ p ∷ pairs else p ∷ with_pair pairs name pmid)
    by_test true rest = (is, h)
    by_test false rest = (h.0, rest)

-- of a result, if it is one
abbrev pub KnownOk : Result (List Pair) NamesFault → Type 0
KnownOk (Ok pairs) = AreKnown pairs
KnownOk (Err fault) = Unit {0}

-- or several
pub known_added : (more pairs : List Pair) → AreKnown more → AreKnown pairs → KnownOk (after_adding more pairs)
known_added [] pairs m h = h
known_added (p ∷ more) pairs m h = by_fault (misfit pairs p.0) (after_adding more (with_pair pairs p.0 p.1)) (known_added more (with_pair pairs p.0 p.1) m.1 (known_with pairs p.0 p.1 m.0 h))
  where
    by_fault : (fault : Option NamesFault) (result : Result (List Pair) NamesFault) → KnownOk result → KnownOk (unless_fault fault result)
    by_fault None result k = k
    by_fault (Some fault) result k = tt

-- What is asked for

-- metrics that are all of them
abbrev pub Numbers : List ℕ → Type 0
Numbers pmids = Each IsKnown pmids

-- to such metrics a group's names lead
named : (names : List Pair) → AreKnown names → (group : Group) → Numbers (metrics_of names group)
named names h group = each_flat IsKnown (metrics_below names) group.names (λ name. each_mapped IsKnown (λ (pair : Pair). pair.1) (below names name) (each_filtered (λ (pair : Pair). IsKnown pair.1) (λ p. is_same name p.0 || continues p.0 name) names h))

-- such metrics with others are such
with_one : (pmids : List ℕ) (pmid : ℕ) → Numbers pmids → IsKnown pmid → Numbers (with_metric pmids pmid)
with_one pmids pmid h is = by_test (list_any (λ other. other == pmid) pmids)
  where
    by_test : (b : Bool) → Numbers (if b then pmids else pmids ++ pmid ∷ [])
    by_test true = h
    by_test false = each_append IsKnown pmids (pmid ∷ []) h (is, tt)

with_more : (pmids more : List ℕ) → Numbers pmids → Numbers more → Numbers (with_metrics pmids more)
with_more pmids [] h m = h
with_more pmids (n ∷ more) h m = with_more (with_metric pmids n) more (with_one pmids n h m.0) m.1

-- each group has asked for such metrics alone
abbrev pub HaveAsked : List Plan → Type 0
HaveAsked plans = Each Numbers (map (λ plan. plan.asked) plans)

-- at the start no group has asked for any
pub none_asked : (groups : List Group) (now : Moment) → HaveAsked (plans_at_start groups now)
none_asked [] now = tt
none_asked (group ∷ groups) now = (tt, none_asked groups now)

-- and at a tick where names lead to such metrics each asks for such alone
pub all_asking : (names : List Pair) (now : Moment) (plans : List Plan) → AreKnown names → HaveAsked plans → HaveAsked (asking names now plans)
all_asking names now [] n h = tt
all_asking names now (plan ∷ plans) n h = (by_test (is_due now plan), all_asking names now plans n h.1)
  where
    by_test : (b : Bool) → Numbers (if b then asks_more names plan else plan).asked
    by_test true = with_more plan.asked (metrics_of names plan.group) h.0 (named names n plan.group)
    by_test false = h.0

-- Counting

-- 1 for one that is not there
abbrev pub lack : Bool → ℕ
lack true = 0
lack false = 1

-- how many of some numbers are not among others
abbrev pub missing : List ℕ → List ℕ → ℕ
missing [] pmids = 0
missing (n ∷ numbers) pmids = lack (is_among pmids n) + missing numbers pmids

-- no number stands twice, as far as counts tell
abbrev pub IsFew : List ℕ → Type 0
IsFew pmids = length pmids + missing known pmids ≤ 42

-- with another number more of them are there
less_with : (a b : Bool) → lack (a || b) ≤ lack a
less_with true b = omega arith
less_with false true = omega arith
less_with false false = omega arith

among_more : (pmids : List ℕ) (p n : ℕ) → is_among (pmids ++ p ∷ []) n ≡ (is_among pmids n || (p == n))
among_more [] p n = by_test (p == n)
  where
    by_test : (b : Bool) → (b || false) ≡ (false || b)
    by_test true = refl
    by_test false = refl
among_more (x ∷ xs) p n = by_test (x == n) (among_more xs p n)
  where
    by_test : (b : Bool) → is_among (xs ++ p ∷ []) n ≡ (is_among xs n || (p == n)) → (b || is_among (xs ++ p ∷ []) n) ≡ ((b || is_among xs n) || (p == n))
    by_test true same = refl
    by_test false same = same

one_less : (pmids : List ℕ) (p n : ℕ) → lack (is_among (pmids ++ p ∷ []) n) ≤ lack (is_among pmids n)
one_less pmids p n = subst (λ (b : Bool). lack b ≤ lack (is_among pmids n)) (sym (among_more pmids p n)) (less_with (is_among pmids n) (p == n))

none_more : (numbers pmids : List ℕ) (p : ℕ) → missing numbers (pmids ++ p ∷ []) ≤ missing numbers pmids
none_more [] pmids p = omega arith
none_more (n ∷ numbers) pmids p = let first = one_less pmids p n in let rest = none_more numbers pmids p in omega arith

-- one of them comes, which wasn't there
one_fewer : (numbers pmids : List ℕ) (p : ℕ) → is_among numbers p ≡ true → is_among pmids p ≡ false → missing numbers (pmids ++ p ∷ []) + 1 ≤ missing numbers pmids
one_fewer [] pmids p is new = absurd (cc)
one_fewer (n ∷ numbers) pmids p is new = by_test (n == p) refl (one_fewer numbers pmids p)
  where
    by_test : (b : Bool) → (n == p) ≡ b → (is_among numbers p ≡ true → is_among pmids p ≡ false → missing numbers (pmids ++ p ∷ []) + 1 ≤ missing numbers pmids)
        → missing (n ∷ numbers) (pmids ++ p ∷ []) + 1 ≤ missing (n ∷ numbers) pmids
    by_test true e later =
        let same : n ≡ p = eqb-true n p e in
        let here : lack (is_among (pmids ++ p ∷ []) n) ≡ 0 =
        ap lack (among_more pmids p n) ∙ (ap (λ (b : Bool). lack (is_among pmids n || b)) (eq-eqb p n (sym same)) ∙ ap (λ (b : Bool). lack (b || true)) (ap (is_among pmids) same ∙ new)) in
        let before : lack (is_among pmids n) ≡ 1 = ap lack (ap (is_among pmids) same ∙ new) in
        let rest = none_more numbers pmids p in
        omega arith
    by_test false e later =
        let first = one_less pmids p n in
        let there : is_among numbers p ≡ true = sym (ap (λ (b : Bool). b || is_among numbers p) e) ∙ is in
        let rest = later there new in
        omega arith

-- another metric of them is counted once
few_with : (pmids : List ℕ) (p : ℕ) → IsFew pmids → IsKnown p → IsFew (with_metric pmids p)
few_with pmids p few is = by_test (is_among pmids p) refl
  where
    by_test : (b : Bool) → is_among pmids p ≡ b → IsFew (if b then pmids else pmids ++ p ∷ [])
    by_test true e = few
    by_test false e =
        let long : length (pmids ++ p ∷ []) ≡ length pmids + 1 = length-append pmids (p ∷ []) in
        let less = one_fewer known pmids p is e in
        omega arith

few_more : (pmids more : List ℕ) → IsFew pmids → Numbers more → IsFew (with_metrics pmids more)
few_more pmids [] few m = few
few_more pmids (n ∷ more) few m = few_more (with_metric pmids n) more (few_with pmids n few m.0) m.1

few_due : (now : Moment) (pmids : List ℕ) (plans : List Plan) → IsFew pmids → HaveAsked plans → IsFew (fold (if_due now) pmids plans)
few_due now pmids [] few h = few
few_due now pmids (plan ∷ plans) few h = few_due now (if_due now pmids plan) plans (by_test (is_due now plan)) h.1
  where
    by_test : (b : Bool) → IsFew (if b then with_metrics pmids plan.asked else pmids)
    by_test true = few_more pmids plan.asked few h.0
    by_test false = few

few_none : IsFew []
few_none = omega arith

-- so a tick asks for 42 metrics at most
pub few_asked : (now : Moment) (plans : List Plan) → HaveAsked plans → length (asked_for now plans) ≤ 42
few_asked now plans h = let few : IsFew (asked_for now plans) = few_due now [] plans few_none h in omega arith
