-- Lines one after another: what they make together, and where a pass stands behind them.
use Rattle.std.proofs.Common.{◌≡◌, ◌⊎◌, inl, inr, ⊎_elim, ℕ, zero, suc, Bool, true, false, ◌&&◌, ◌||◌, eqb, eqb-true, List, [], ◌∷◌, ◌++◌, take, slice_get, if◌then◌else◌, Option, Some, None, append-nil, append_assoc, sym, refl, ap, ◌∙◌, subst}
use Rattle.std.specs.Prelude.{IsSome}
use Rattle.region_core.specs.declared.act.Entry.{Entry}
use Rattle.region_core.specs.State.{State}
use Rattle.region_core.specs.Journal.{state}
use Rattle.region_core.proofs.Journals.{state-append}
use Rattle.region_rule.specs.Seats.{MadeRegion}
use Rattle.region_rule.specs.Views.{now}
use Rattle.run_script.specs.Rules.{HasPass, IsPlaced}
use Rattle.run_script.specs.declared.script.RegionRow.{RegionRow}
use Rattle.run_script.specs.declared.script.Line.{Line}
use Rattle.run_script.specs.declared.script.Line.TheVariants as lines
use Rattle.run_script.specs.declared.script.Script.{Script}
use Rattle.run_passes.specs.declared.writer.Writer.{Writer}
use Rattle.run_script.specs.Recording.{Stage, place_of, is_at, lines_of, stage_after, stage_behind, is_idle, may_come, comes_at, suits, or_else, high_region, wrong_step, has_more, all_rest, unrest_line, line_behind, refused_line}
use Rattle.run_passes.specs.LineEntries.{Writing, LineMakes, LinesMake, BeginsChange, StepsOn, Finishes}
use Rattle.run_passes.specs.Writers.{RunsLine, RunsLines, stage_of, view_of, writing_of}
use Rattle.run_passes.proofs.Entries.{grew_refl, grew_trans, now_grown}

-- Joining

pub lines_join : (images : List (List ℕ × List ℕ)) (k : ℕ) (s : State) (a b c : Writing) (xs ys : List Line) (es fs : List Entry)
    → LinesMake images k s a xs es b → LinesMake images k (state s es) b ys fs c → LinesMake images k s a (xs ++ ys) (es ++ fs) c
lines_join images k s a b c [] ys es fs l m =
    let at_start : LinesMake images k s b ys fs c = subst (λ (x : List Entry). LinesMake images k (state s x) b ys fs c) l.0 m in
    subst (λ (x : List Entry). LinesMake images k s a ys (x ++ fs) c) (sym l.0) (subst (λ (w : Writing). LinesMake images k s w ys fs c) l.1 at_start)
lines_join images k s a b c (x ∷ xs) ys es fs l m =
    let made : List Entry = l.0 in
    let rest : List Entry = l.1 in
    let behind : state s es ≡ state (state s made) rest = ap (λ (r : List Entry). state s r) l.3 ∙ state-append s made rest in (
      made,
      rest ++ fs,
      l.2,
      ap (λ (r : List Entry). r ++ fs) l.3 ∙ append_assoc made rest fs,
      l.4,
      lines_join images k (state s made) l.2 b c xs ys rest fs l.5 (subst (λ (t : State). LinesMake images k t b ys fs c) behind m),
    )

pub runs_none : (images : List (List ℕ × List ℕ)) (a : Writer) → RunsLines images [] a a
runs_none images a = record { more = []; grew = grew_refl (view_of a); makes = (refl, refl) }

pub runs_one : (region : MadeRegion) (images : List (List ℕ × List ℕ)) (line : Line) (a b : Writer) → RunsLine region images line a b → RunsLines images (line ∷ []) a b
runs_one region images line a b d = record { more = d.more; grew = d.grew; makes = (d.more, [], writing_of b, sym (append-nil d.more), d.is, (refl, refl)) }

pub runs_join : (images : List (List ℕ × List ℕ)) (xs ys : List Line) (a b c : Writer) → RunsLines images xs a b → RunsLines images ys b c → RunsLines images (xs ++ ys) a c
runs_join images xs ys a b c r q =
    let numbered : LinesMake images (view_of a).number (now (view_of b)) (writing_of b) ys q.more (writing_of c) =
    subst (λ (k : ℕ). LinesMake images k (now (view_of b)) (writing_of b) ys q.more (writing_of c)) r.grew.number q.makes in
    let stated : LinesMake images (view_of a).number (state (now (view_of a)) r.more) (writing_of b) ys q.more (writing_of c) =
    subst (λ (s : State). LinesMake images (view_of a).number s (writing_of b) ys q.more (writing_of c)) (now_grown (view_of a) (view_of b) r.more r.grew) numbered in
    record {
      more = r.more ++ q.more;
      grew = grew_trans (view_of a) (view_of b) (view_of c) r.more q.more r.grew q.grew;
      makes = lines_join images (view_of a).number (now (view_of a)) (writing_of a) (writing_of b) (writing_of c) xs ys r.more q.more r.makes stated;
    }

-- Where a pass stands behind its lines

stage_begun : (k : ℕ) (s : State) (image : List ℕ) (moment : ℕ) (es : List Entry) (next : Writing) → BeginsChange k s image moment es next → stage_of next ≡ Stage.changing
stage_begun k s image moment es next (inl b) = ap stage_of b.2
stage_begun k s image moment es next (inr b) = ap stage_of b.1

stage_stepped : (k : ℕ) (w : Writing) (es : List Entry) (next : Writing) → StepsOn k w es next → stage_of next ≡ Stage.changing
stage_stepped k (Writing.changing image n at) es next m = ap stage_of m.1
stage_stepped k Writing.refused es next m = ap stage_of m.1
stage_stepped k Writing.idle es next m = absurd m
stage_stepped k Writing.attached es next m = absurd m

stage_finished : (k : ℕ) (w : Writing) (es : List Entry) (next : Writing) → Finishes k w es next → stage_of next ≡ Stage.idle
stage_finished k (Writing.changing image n at) es next m = ap stage_of m.1
stage_finished k Writing.refused es next m = ap stage_of m.1
stage_finished k Writing.idle es next m = absurd m
stage_finished k Writing.attached es next m = absurd m

stage_line : (images : List (List ℕ × List ℕ)) (k : ℕ) (s : State) (w : Writing) (line : Line) (es : List Entry) (next : Writing) → LineMakes images k s w line es next → stage_of next ≡ stage_after line
stage_line images k s w (lines.Attach r p) es next m = ap stage_of m.2
stage_line images k s w (lines.Detach r p) es next m = ap stage_of m.2
stage_line images k s w (lines.Swap r p item instance value) es next m = ap stage_of m.2
stage_line images k s w (lines.Add r p item instance number) es next m = ap stage_of m.2
stage_line images k s w (lines.Begin r p image moment) es next m = stage_begun k s _ moment es next m.1
stage_line images k s w (lines.Step r p) es next m = stage_stepped k w es next m
stage_line images k s w (lines.Finish r p) es next m = stage_finished k w es next m
stage_line images k s w (lines.Load r p) es next m = absurd m
stage_line images k s w (lines.Word r p index) es next m = absurd m
stage_line images k s w (lines.Done r p) es next m = absurd m
stage_line images k s w (lines.Tick stamp) es next m = absurd m
stage_line images k s w lines.Flush es next m = absurd m

stage_lines : (images : List (List ℕ × List ℕ)) (k : ℕ) (s : State) (a b : Writing) (xs : List Line) (es : List Entry) → LinesMake images k s a xs es b → stage_of b ≡ stage_behind (stage_of a) xs
stage_lines images k s a b [] es l = ap stage_of l.1
stage_lines images k s a b (x ∷ xs) es l =
    stage_lines images k (state s l.0) l.2 b xs l.1 l.5 ∙ ap (λ (t : Stage). stage_behind t xs) (stage_line images k s a x l.0 l.2 l.4)

pub stage_run : (images : List (List ℕ × List ℕ)) (xs : List Line) (a b : Writer) → RunsLines images xs a b → stage_of (writing_of b) ≡ stage_behind (stage_of (writing_of a)) xs
stage_run images xs a b r = stage_lines images (view_of a).number (now (view_of a)) (writing_of a) (writing_of b) xs r.more r.makes

abbrev IsNotIdle : Stage → Type 0
IsNotIdle Stage.idle = ⊥
IsNotIdle Stage.attached = Unit {0}
IsNotIdle Stage.changing = Unit {0}

-- a writer at rest does nothing
pub rests_idle : (w : Writing) → stage_of w ≡ Stage.idle → w ≡ Writing.idle
rests_idle Writing.idle e = refl
rests_idle Writing.attached e = absurd (subst IsNotIdle e tt)
rests_idle (Writing.changing image n next) e = absurd (subst IsNotIdle e tt)
rests_idle Writing.refused e = absurd (subst IsNotIdle e tt)

-- Own lines of two stretches

pub lines_of_join : (i k : ℕ) (xs ys : List (ℕ × Line)) → lines_of i k (xs ++ ys) ≡ lines_of i k xs ++ lines_of i k ys
lines_of_join i k [] ys = refl
lines_of_join i k (x ∷ xs) ys = by_test (is_at i k (place_of x.1)) (lines_of_join i k xs ys)
  where
    by_test : (b : Bool) → lines_of i k (xs ++ ys) ≡ lines_of i k xs ++ lines_of i k ys
        → (if b then x.1 ∷ lines_of i k (xs ++ ys) else lines_of i k (xs ++ ys)) ≡ (if b then x.1 ∷ lines_of i k xs else lines_of i k xs) ++ lines_of i k ys
    by_test true more = ap (λ (l : List Line). x.1 ∷ l) more
    by_test false more = more

-- What a script keeps that a recording takes

or_none : (a b : Option ℕ) → or_else a b ≡ None → (a ≡ None) × (b ≡ None)
or_none None b e = (refl, e)
or_none (Some x) b e = absurd (cc)

pub both_true : (a b : Bool) → (a && b) ≡ true → (a ≡ true) × (b ≡ true)
both_true true true e = (refl, refl)
both_true true false e = absurd (cc)
both_true false b e = absurd (cc)

either_true : (a b : Bool) → (a || b) ≡ true → (a ≡ true) ⊎ (b ≡ true)
either_true true b e = inl refl
either_true false b e = inr e

-- each step may come where it stands, and suits
pub record MayStand (script : Script) (before : List (ℕ × Line)) (line : Line) : Type 0 where
  pub comes : comes_at before line (place_of line) ≡ true
  pub suits_it : suits script line ≡ true

none_wrong : (script : Script) (before steps : List (ℕ × Line)) (n : ℕ) (step : ℕ × Line) → wrong_step script before steps ≡ None → slice_get steps n ≡ Some step → MayStand script (before ++ take n steps) step.1
none_wrong script before [] n step e f = absurd (cc)
none_wrong script before (x ∷ xs) n step e f = by_test (comes_at before x.1 (place_of x.1) && suits script x.1) refl e (λ rest m g. none_wrong script (before ++ x ∷ []) xs m step rest g)
  where
    at : (m : ℕ) → slice_get (x ∷ xs) m ≡ Some step → comes_at before x.1 (place_of x.1) && suits script x.1 ≡ true → wrong_step script (before ++ x ∷ []) xs ≡ None
        → ((m : ℕ) → slice_get xs m ≡ Some step → MayStand script ((before ++ x ∷ []) ++ take m xs) step.1) → MayStand script (before ++ take m (x ∷ xs)) step.1
    at zero g ok rest more =
        let same : x ≡ step = cc in
        let both = both_true (comes_at before x.1 (place_of x.1)) (suits script x.1) ok in
        subst (λ (s : ℕ × Line). MayStand script (before ++ []) s.1) same (subst (λ (l : List (ℕ × Line)). MayStand script l x.1) (sym (append-nil before)) (record { comes = both.0; suits_it = both.1 }))
    at (suc m) g ok rest more = subst (λ (l : List (ℕ × Line)). MayStand script l step.1) (append_assoc before (x ∷ []) (take m xs)) (more m g)

    by_test : (b : Bool) → (comes_at before x.1 (place_of x.1) && suits script x.1) ≡ b → (if b then wrong_step script (before ++ x ∷ []) xs else Some x.0) ≡ None
        → (wrong_step script (before ++ x ∷ []) xs ≡ None → (m : ℕ) → slice_get xs m ≡ Some step → MayStand script ((before ++ x ∷ []) ++ take m xs) step.1)
        → MayStand script (before ++ take n (x ∷ xs)) step.1
    by_test true ok rest more = at n f ok rest (more rest)
    by_test false ok rest more = absurd (cc)

pub may_stand : (script : Script) (n : ℕ) (step : ℕ × Line) → refused_line script ≡ None → slice_get script.steps n ≡ Some step → MayStand script (take n script.steps) step.1
may_stand script n step e f =
    let first = or_none (high_region script script.regions) (or_else (wrong_step script [] script.steps) (unrest_line script.steps)) e in
    let second = or_none (wrong_step script [] script.steps) (unrest_line script.steps) first.1 in
    none_wrong script [] script.steps n step second.0 f

-- the place that a line names is the one that it is at
pub at_place : (i k : ℕ) (place : Option (ℕ × ℕ)) → is_at i k place ≡ true → place ≡ Some (i, k)
at_place i k None e = absurd (cc)
at_place i k (Some p) e =
    let both = both_true (eqb p.0 i) (eqb p.1 k) e in
    λ j. Some (eqb-true p.0 i both.0 j, eqb-true p.1 k both.1 j)

pub comes_there : (before : List (ℕ × Line)) (line : Line) (i k : ℕ) → comes_at before line (place_of line) ≡ true → is_at i k (place_of line) ≡ true → may_come (stage_behind Stage.idle (lines_of i k before)) line ≡ true
comes_there before line i k e f = sym (ap (λ (o : Option (ℕ × ℕ)). comes_at before line o) (at_place i k (place_of line) f)) ∙ e

-- no pass is left at work
ends_idle : (stage : Stage) (i k : ℕ) (steps : List (ℕ × Line)) → all_rest steps ≡ true → (has_more (Some (i, k)) steps ≡ true) ⊎ (stage ≡ Stage.idle) → stage_behind stage (lines_of i k steps) ≡ Stage.idle
ends_idle stage i k [] e (inl more) = absurd (cc)
ends_idle stage i k [] e (inr idle) = idle
ends_idle stage i k (x ∷ xs) e h = by_test (is_at i k (place_of x.1)) refl (λ t g. ends_idle t i k xs both.1 g)
  where
    both : ((is_idle (stage_after x.1) || has_more (place_of x.1) xs) ≡ true) × (all_rest xs ≡ true)
    both = both_true (is_idle (stage_after x.1) || has_more (place_of x.1) xs) (all_rest xs) e

    idle_is : (t : Stage) → is_idle t ≡ true → t ≡ Stage.idle
    idle_is Stage.idle f = refl
    idle_is Stage.attached f = absurd (cc)
    idle_is Stage.changing f = absurd (cc)

    goes : is_at i k (place_of x.1) ≡ true → (has_more (Some (i, k)) xs ≡ true) ⊎ (stage_after x.1 ≡ Stage.idle)
    goes f = ⊎_elim
        (λ (g : is_idle (stage_after x.1) ≡ true). inr (idle_is (stage_after x.1) g))
        (λ (g : has_more (place_of x.1) xs ≡ true). inl (sym (ap (λ (o : Option (ℕ × ℕ)). has_more o xs) (at_place i k (place_of x.1) f)) ∙ g))
        (either_true (is_idle (stage_after x.1)) (has_more (place_of x.1) xs) both.0)

    stays : is_at i k (place_of x.1) ≡ false → (has_more (Some (i, k)) (x ∷ xs) ≡ true) ⊎ (stage ≡ Stage.idle) → (has_more (Some (i, k)) xs ≡ true) ⊎ (stage ≡ Stage.idle)
    stays f (inl g) = inl (sym (ap (λ (b : Bool). b || has_more (Some (i, k)) xs) f) ∙ g)
    stays f (inr g) = inr g

    by_test : (b : Bool) → is_at i k (place_of x.1) ≡ b → ((t : Stage) → (has_more (Some (i, k)) xs ≡ true) ⊎ (t ≡ Stage.idle) → stage_behind t (lines_of i k xs) ≡ Stage.idle)
        → stage_behind stage (if b then x.1 ∷ lines_of i k xs else lines_of i k xs) ≡ Stage.idle
    by_test true f more = more (stage_after x.1) (goes f)
    by_test false f more = more stage (stays f h)

rested : (steps : List (ℕ × Line)) → unrest_line steps ≡ None → all_rest steps ≡ true
rested steps e = by_test (all_rest steps) refl e
  where
    by_test : (b : Bool) → all_rest steps ≡ b → (if b then None else Some (line_behind steps)) ≡ None → all_rest steps ≡ true
    by_test true f g = f
    by_test false f g = absurd (cc)

pub all_end : (script : Script) (i k : ℕ) → refused_line script ≡ None → stage_behind Stage.idle (lines_of i k script.steps) ≡ Stage.idle
all_end script i k e =
    let first = or_none (high_region script script.regions) (or_else (wrong_step script [] script.steps) (unrest_line script.steps)) e in
    let second = or_none (wrong_step script [] script.steps) (unrest_line script.steps) first.1 in
    ends_idle Stage.idle i k script.steps (rested script.steps second.1) (inr refl)

-- the parts of a place
abbrev pub region_in : Option (ℕ × ℕ) → ℕ
region_in None = 0
region_in (Some place) = place.0

abbrev pub pass_in : Option (ℕ × ℕ) → ℕ
pass_in None = 0
pass_in (Some place) = place.1

here : (rows : List RegionRow) (r p i k : ℕ) → HasPass rows r p → ◌≡◌ {A = Option (ℕ × ℕ)} (Some (r, p)) (Some (i, k)) → HasPass rows i k
here rows r p i k h e = subst (λ (x : ℕ). HasPass rows x k) (ap region_in e) (subst (λ (x : ℕ). HasPass rows r x) (ap pass_in e) h)

-- a line names a region and a pass that are there
pub names_pass : (images : List (List ℕ × List ℕ)) (rows : List RegionRow) (line : Line) (i k : ℕ) → IsPlaced images rows line → place_of line ≡ Some (i, k) → HasPass rows i k
names_pass images rows (lines.Attach r p) i k h e = here rows r p i k h e
names_pass images rows (lines.Detach r p) i k h e = here rows r p i k h e
names_pass images rows (lines.Swap r p item instance value) i k h e = here rows r p i k h e
names_pass images rows (lines.Add r p item instance number) i k h e = here rows r p i k h e
names_pass images rows (lines.Begin r p image moment) i k h e = here rows r p i k h.0 e
names_pass images rows (lines.Step r p) i k h e = here rows r p i k h e
names_pass images rows (lines.Finish r p) i k h e = here rows r p i k h e
names_pass images rows (lines.Load r p) i k h e = here rows r p i k h e
names_pass images rows (lines.Word r p index) i k h e = here rows r p i k h e
names_pass images rows (lines.Done r p) i k h e = here rows r p i k h e
names_pass images rows (lines.Tick stamp) i k h e = absurd (cc)
names_pass images rows lines.Flush i k h e = absurd (cc)

-- a step that may come names a pass
pub names_some : (before : List (ℕ × Line)) (line : Line) (place : Option (ℕ × ℕ)) → comes_at before line place ≡ true → IsSome place
names_some before line None e = absurd (cc)
names_some before line (Some p) e = refl
