-- Groups beside their timetables and metrics.
use Rattle.std.proofs.Common.{◌≡◌, ℕ, zero, suc, ◌+◌, ◌<◌, ◌≤◌, Bool, true, false, List, [], ◌∷◌, ◌++◌, length, drop, fold, map, Option, Some, None, refl, sym, ap, ap₂, ◌∙◌, arith, cond, get_or}
use Rattle.std.specs.Prelude.{◌↔◌, IfSome, IsTrue, replicate, slice_get, if◌then◌else◌}
use Rattle.std.proofs.lemmas.Bool.{le-leb, leb-true}
use Rattle.std.proofs.Math.Dec.{leb}
use Rattle.std.proofs.lemmas.List.Sums.{fold-append}
use Rattle.pcp_base.specs.Time.{Moment, microseconds}
use Rattle.pmns_core.specs.Pairs.{Pair}
use Rattle.log_schedule.specs.declared.config.Group.{Group}
use Rattle.log_schedule.specs.Instants.{Timetable, timetable_from, Due}
use Rattle.run_archive.specs.Plans.{AreBeside, plans_of}
use Rattle.script_runs.specs.Groups.{Plan, asking, asks_more, if_due, is_due, is_not_after, metrics_of, plans_at_start, with_metric, with_metrics}

-- ---- the parts of plans

pub groups_in : (gs : List Group) (ts : List Timetable) (ms : List (List ℕ)) → length ts ≡ length gs → length ms ≡ length gs → map (λ plan. plan.group) (plans_of gs ts ms) ≡ gs
groups_in [] ts ms timed kept = refl
groups_in (g ∷ gs) [] ms timed kept = absurd (omega (arith, timed))
groups_in (g ∷ gs) (t ∷ ts) [] timed kept = absurd (omega (arith, kept))
groups_in (g ∷ gs) (t ∷ ts) (m ∷ ms) timed kept = ap (λ (rest : List Group). g ∷ rest) (groups_in gs ts ms (omega (arith, timed)) (omega (arith, kept)))

pub timetables_in : (gs : List Group) (ts : List Timetable) (ms : List (List ℕ)) → length ts ≡ length gs → length ms ≡ length gs → map (λ plan. plan.timetable) (plans_of gs ts ms) ≡ ts
timetables_in [] [] ms timed kept = refl
timetables_in [] (t ∷ ts) ms timed kept = absurd (omega (arith, timed))
timetables_in (g ∷ gs) [] ms timed kept = absurd (omega (arith, timed))
timetables_in (g ∷ gs) (t ∷ ts) [] timed kept = absurd (omega (arith, kept))
timetables_in (g ∷ gs) (t ∷ ts) (m ∷ ms) timed kept = ap (λ (rest : List Timetable). t ∷ rest) (timetables_in gs ts ms (omega (arith, timed)) (omega (arith, kept)))

pub asked_in : (gs : List Group) (ts : List Timetable) (ms : List (List ℕ)) → length ts ≡ length gs → length ms ≡ length gs → map (λ plan. plan.asked) (plans_of gs ts ms) ≡ ms
asked_in [] ts [] timed kept = refl
asked_in [] ts (m ∷ ms) timed kept = absurd (omega (arith, kept))
asked_in (g ∷ gs) [] ms timed kept = absurd (omega (arith, timed))
asked_in (g ∷ gs) (t ∷ ts) [] timed kept = absurd (omega (arith, kept))
asked_in (g ∷ gs) (t ∷ ts) (m ∷ ms) timed kept = ap (λ (rest : List (List ℕ)). m ∷ rest) (asked_in gs ts ms (omega (arith, timed)) (omega (arith, kept)))

pub just_started : (gs : List Group) (now : Moment) → plans_of gs (map (timetable_from now) gs) (replicate (length gs) []) ≡ plans_at_start gs now
just_started [] now = refl
just_started (g ∷ gs) now = ap (λ (rest : List Plan). record { group = g; timetable = timetable_from now g; asked = [] } ∷ rest) (just_started gs now)

-- ---- which groups are due

due_by : (now : Moment) (o : Option Moment) (b : Bool) → (IsTrue b ↔ ((m : Moment) × (o ≡ Some m) × (microseconds m ≤ microseconds now))) → b ≡ is_not_after o now
due_by now None true same = absurd (let no : None ≡ Some (same.0 refl).0 = (same.0 refl).1 in cc)
due_by now None false same = refl
due_by now (Some m) true same =
    let is : Some m ≡ Some (same.0 refl).0 = (same.0 refl).1 in
    let one : m ≡ (same.0 refl).0 = cc in
    sym (le-leb (microseconds m) (microseconds now) (omega (arith, ap microseconds one, (same.0 refl).2)))
due_by now (Some m) false same = by (leb (microseconds m) (microseconds now)) refl
  where
    by : (b : Bool) → leb (microseconds m) (microseconds now) ≡ b → false ≡ b
    by true is = absurd (let no : false ≡ true = same.1 (m, refl, leb-true (microseconds m) (microseconds now) is) in cc)
    by false is = refl

pub due_is : (now : Moment) (t : Timetable) (b : Bool) → (IsTrue b ↔ Due t now) → b ≡ is_not_after t.next now
due_is now t b same = due_by now t.next b same

-- ---- what each asks for

-- the metrics of a group after it was asked, if it is due
abbrev pub then_asked : List Pair → Moment → Group → Timetable → List ℕ → List ℕ
then_asked names now group timetable pmids = cond (is_not_after timetable.next now) (with_metrics pmids (metrics_of names group)) pmids

one_asked : (names : List Pair) (now : Moment) (g : Group) (t : Timetable) (old new : List ℕ) → new ≡ then_asked names now g t old
    → record { group = g; timetable = t; asked = new } ≡ (if is_due now (record { group = g; timetable = t; asked = old }) then asks_more names (record { group = g; timetable = t; asked = old }) else record { group = g; timetable = t; asked = old })
one_asked names now g t old new is = by (is_not_after t.next now) is
  where
    by : (b : Bool) → new ≡ cond b (with_metrics old (metrics_of names g)) old
        → record { group = g; timetable = t; asked = new } ≡ cond b (asks_more names (record { group = g; timetable = t; asked = old })) (record { group = g; timetable = t; asked = old })
    by true e = ap (λ (pmids : List ℕ). record { group = g; timetable = t; asked = pmids }) e
    by false e = ap (λ (pmids : List ℕ). record { group = g; timetable = t; asked = pmids }) e

pub all_asked : (names : List Pair) (now : Moment) (gs : List Group) (ts : List Timetable) (old new : List (List ℕ)) → length ts ≡ length gs → length old ≡ length gs → length new ≡ length gs
    → ((k : ℕ) (g : Group) (t : Timetable) (d : List ℕ) → k < length gs → get_or new k d ≡ then_asked names now (get_or gs k g) (get_or ts k t) (get_or old k d))
    → plans_of gs ts new ≡ asking names now (plans_of gs ts old)
all_asked names now [] ts old new timed was kept each = refl
all_asked names now (g ∷ gs) [] old new timed was kept each = absurd (omega (arith, timed))
all_asked names now (g ∷ gs) (t ∷ ts) [] new timed was kept each = absurd (omega (arith, was))
all_asked names now (g ∷ gs) (t ∷ ts) (o ∷ os) [] timed was kept each = absurd (omega (arith, kept))
all_asked names now (g ∷ gs) (t ∷ ts) (o ∷ os) (n ∷ ns) timed was kept each =
    ap₂ (λ (plan : Plan) (rest : List Plan). plan ∷ rest) (one_asked names now g t o n (each 0 g t [] (omega arith)))
    (all_asked names now gs ts os ns (omega (arith, timed)) (omega (arith, was)) (omega (arith, kept)) (λ k h u d low. each (suc k) h u d (omega (arith, low))))

-- metrics are added one behind another
pub then_more : (pmids xs ys : List ℕ) → with_metrics pmids (xs ++ ys) ≡ with_metrics (with_metrics pmids xs) ys
then_more pmids xs ys = fold-append with_metric pmids xs ys

-- ---- one plan and those behind it

pub plans_from : (gs : List Group) (ts : List Timetable) (ms : List (List ℕ)) (at : ℕ) (g : Group) (t : Timetable) (d : List ℕ) → length ts ≡ length gs → length ms ≡ length gs → at < length gs
    → drop at (plans_of gs ts ms) ≡ record { group = get_or gs at g; timetable = get_or ts at t; asked = get_or ms at d } ∷ drop (suc at) (plans_of gs ts ms)
plans_from [] ts ms at g t d timed kept low = absurd (omega (arith, low))
plans_from (h ∷ gs) [] ms at g t d timed kept low = absurd (omega (arith, timed))
plans_from (h ∷ gs) (u ∷ ts) [] at g t d timed kept low = absurd (omega (arith, kept))
plans_from (h ∷ gs) (u ∷ ts) (m ∷ ms) zero g t d timed kept low = refl
plans_from (h ∷ gs) (u ∷ ts) (m ∷ ms) (suc at) g t d timed kept low = plans_from gs ts ms at g t d (omega (arith, timed)) (omega (arith, kept)) (omega (arith, low))

pub plans_end : (gs : List Group) (ts : List Timetable) (ms : List (List ℕ)) (at : ℕ) → length gs ≤ at → drop at (plans_of gs ts ms) ≡ []
plans_end [] ts ms zero low = refl
plans_end [] ts ms (suc at) low = refl
plans_end (g ∷ gs) ts ms zero low = absurd (omega (arith, low))
plans_end (g ∷ gs) [] ms (suc at) low = refl
plans_end (g ∷ gs) (t ∷ ts) [] (suc at) low = refl
plans_end (g ∷ gs) (t ∷ ts) (m ∷ ms) (suc at) low = plans_end gs ts ms at (omega (arith, low))

-- ---- one group more is joined

some_at : (ts : List Timetable) (at : ℕ) (t : Timetable) (P : Timetable → Type 0) → at < length ts → IfSome (slice_get ts at) P → P (get_or ts at t)
some_at [] at t P low some = absurd (omega (arith, low))
some_at (u ∷ ts) zero t P low some = some
some_at (u ∷ ts) (suc at) t P low some = some_at ts at t P (omega (arith, low)) some

abbrev any_group : Group
any_group = record { interval = None; names = [] }

abbrev any_timetable : Timetable
any_timetable = record { start = record { sec = 0; usec = 0 }; interval = None; next = None }

pub join_step : (now : Moment) (gs : List Group) (ts : List Timetable) (ms : List (List ℕ)) (at : ℕ) (all one joined whole : List ℕ) (b : Bool) → AreBeside gs ts ms → at < length gs → IfSome (slice_get ts at) (λ t. IsTrue b ↔ Due t now)
    → one ≡ get_or ms at one → joined ≡ (if b then with_metrics all one else all) → fold (if_due now) all (drop at (plans_of gs ts ms)) ≡ whole → fold (if_due now) joined (drop (at + 1) (plans_of gs ts ms)) ≡ whole
join_step now gs ts ms at all one joined whole b beside low due here is so_far =
    let t : Timetable = get_or ts at any_timetable in
    let told : b ≡ is_not_after t.next now = due_is now t b (some_at ts at any_timetable (λ t. IsTrue b ↔ Due t now) (omega (arith, low, beside.timed)) due) in
    let next : at + 1 ≡ suc at = omega arith in
    ap (λ (k : ℕ). fold (if_due now) joined (drop k (plans_of gs ts ms))) next
    ∙ ap (λ (pmids : List ℕ). fold (if_due now) pmids (drop (suc at) (plans_of gs ts ms))) (is ∙ ap₂ (λ (c : Bool) (pmids : List ℕ). cond c (with_metrics all pmids) all) told here)
    ∙ ap (λ (plans : List Plan). fold (if_due now) all plans) (sym (plans_from gs ts ms at any_group any_timetable one beside.timed beside.kept low)) ∙ so_far

pub join_end : (now : Moment) (gs : List Group) (ts : List Timetable) (ms : List (List ℕ)) (at : ℕ) (all whole : List ℕ) → length gs ≤ at → fold (if_due now) all (drop at (plans_of gs ts ms)) ≡ whole → all ≡ whole
join_end now gs ts ms at all whole high so_far = sym (ap (λ (plans : List Plan). fold (if_due now) all plans) (plans_end gs ts ms at high)) ∙ so_far

pub start_is : (gs hs : List Group) (ts : List Timetable) (ms : List (List ℕ)) (now : Moment) → hs ≡ gs → ts ≡ map (timetable_from now) gs → ms ≡ replicate (length hs) [] → plans_of hs ts ms ≡ plans_at_start gs now
start_is gs hs ts ms now same timed none =
    ap₂ (λ (us : List Timetable) (ns : List (List ℕ)). plans_of hs us ns) timed none
    ∙ ap (λ (ks : List Group). plans_of ks (map (timetable_from now) gs) (replicate (length ks) [])) same ∙ just_started gs now
