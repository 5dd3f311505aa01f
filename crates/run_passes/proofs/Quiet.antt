-- Calls of a pass while nobody else acts: what it sees grows by its own entries alone, and its region as it sees it goes on as in
-- the fold.
use Rattle.std.proofs.Common.{◌≡◌, ◌≢◌, ℕ, ◌+◌, Bool, true, false, ◌||◌, List, [], ◌∷◌, ◌++◌, length, length-append, eqb, eqb-true, append-nil, slice_get, Some, if◌then◌else◌, sym, refl, ap, ◌∙◌, subst, arith}
use Rattle.region_core.specs.declared.act.Act.{Act}
use Rattle.region_core.specs.declared.act.Act.TheVariants.{Load}
use Rattle.region_core.specs.declared.act.Entry.{Entry}
use Rattle.region_core.specs.declared.mode.Mode.{Mode}
use Rattle.region_core.specs.State.{State, after, next_mode, IsIn}
use Rattle.region_core.specs.Journal.{state}
use Rattle.region_core.proofs.Journals.{state-snoc}
use Rattle.region_core.proofs.Lists.{get_at}
use Rattle.region_rule.specs.declared.view.View.{View}
use Rattle.region_rule.specs.Views.{opening_of, now}
use Rattle.region_rule.specs.Steps.{entry, found_by, view_after, Extends}
use Rattle.region_words.specs.Images.{mmv}
use Rattle.script_runs.specs.Journals.{is_attached, is_look, without_looks}
use Rattle.script_runs.specs.Regions.{Doing, ScriptRegion, with_act}
use Rattle.run_passes.specs.Works.{Grows, Quiet, seen_log, region_seen}

-- Growing

pub grows_refl : (v : View) → Grows v v
grows_refl v = record { made = omega arith; seen = omega arith }

pub grows_trans : (v u w : View) → Grows v u → Grows u w → Grows v w
grows_trans v u w a b = let a1 = a.made in let a2 = a.seen in let b1 = b.made in let b2 = b.seen in record { made = omega arith; seen = omega arith }

pub quiet_first : (v u w : View) → Grows v u → Grows u w → Quiet v w → Quiet v u
quiet_first v u w a b q = let b2 = b.seen in omega arith

pub quiet_last : (v u w : View) → Grows v u → Grows u w → Quiet v w → Quiet u w
quiet_last v u w a b q = let a2 = a.seen in omega arith

-- One call

made_more : (v w : View) (act : Act) (n : ℕ) → Extends mmv v act n w → length w.own ≡ length v.own + 1
made_more v w act n e = ap (λ (x : View). length x.own) e.is ∙ length-append v.own (entry v.number act ∷ [])

seen_more : (v w : View) (act : Act) (n : ℕ) (e : Extends mmv v act n w) → length w.seen ≡ length v.seen + length e.between + 1
seen_more v w act n e = ap (λ (x : View). length x.seen) e.is ∙ (length-append (v.seen ++ e.between) (entry v.number act ∷ []) ∙ ap (λ (n : ℕ). n + 1) (length-append v.seen e.between))

pub grows_step : (v w : View) (act : Act) (n : ℕ) → Extends mmv v act n w → Grows v w
grows_step v w act n e = let a = made_more v w act n e in let b = seen_more v w act n e in record { made = omega arith; seen = omega arith }

none_long : {A : Type 0} (xs : List A) → length xs ≡ 0 → xs ≡ []
none_long [] e = refl
none_long (x ∷ xs) e = absurd (omega arith)

none_between : (v w : View) (act : Act) (n : ℕ) (e : Extends mmv v act n w) → Quiet v w → e.between ≡ []
none_between v w act n e q =
    let a = made_more v w act n e in let b = seen_more v w act n e in
    none_long e.between (omega arith)

-- A journal without looks, and one entry more

pub with_look : (s : State) (logger : ℕ) (es : List Entry) (e : Entry) → is_look (state s es) logger e ≡ true → without_looks s logger (es ++ e ∷ []) ≡ without_looks s logger es
with_look s logger [] e t = ap (λ (b : Bool). if b then [] else e ∷ []) t
with_look s logger (x ∷ xs) e t =
    ap (λ (more : List Entry). if is_look s logger x then more else x ∷ more) (with_look (after s x.by x.act) logger xs e t)

pub with_deed : (s : State) (logger : ℕ) (es : List Entry) (e : Entry) → is_look (state s es) logger e ≡ false → without_looks s logger (es ++ e ∷ []) ≡ without_looks s logger es ++ e ∷ []
with_deed s logger [] e t = ap (λ (b : Bool). if b then [] else e ∷ []) t
with_deed s logger (x ∷ xs) e t =
    ap (λ (more : List Entry). if is_look s logger x then more else x ∷ more) (with_deed (after s x.by x.act) logger xs e t) ∙ apart (is_look s logger x)
  where
    apart : (b : Bool) → (if b then without_looks (after s x.by x.act) logger xs ++ e ∷ [] else x ∷ (without_looks (after s x.by x.act) logger xs ++ e ∷ []))
        ≡ (if b then without_looks (after s x.by x.act) logger xs else x ∷ without_looks (after s x.by x.act) logger xs) ++ e ∷ []
    apart true = refl
    apart false = refl

-- what a call leaves of the pass
pub record Left (v w : View) (act : Act) (n : ℕ) : Type 0 where
  pub state : now w ≡ after (now v) v.number act
  pub found : n ≡ found_by act (now v)
  pub number : w.number ≡ v.number
  pub mode : w.mode ≡ next_mode n v.mode act
  pub there : IsIn w.mode (now w) v.number
  pub seen : w.seen ≡ v.seen ++ entry v.number act ∷ []
  pub start : opening_of w ≡ opening_of v

pub left_by : (v w : View) (act : Act) (n : ℕ) → Extends mmv v act n w → Quiet v w → Left v w act n
left_by v w act n e q =
    let none = none_between v w act n e q in
    let front : v.seen ++ e.between ≡ v.seen = ap (λ (es : List Entry). v.seen ++ es) none ∙ append-nil v.seen in
    let is : w ≡ view_after v [] act n = e.is ∙ ap (λ (es : List Entry). view_after v es act n) none in
    let seen : w.seen ≡ v.seen ++ entry v.number act ∷ [] = ap (λ (x : View). x.seen) e.is ∙ ap (λ (es : List Entry). es ++ entry v.number act ∷ []) front in
    let start : opening_of w ≡ opening_of v = ap (λ (x : View). opening_of x) e.is in
    record {
      state = ap (λ (x : View). now x) e.is ∙ (ap (λ (es : List Entry). state (opening_of v) (es ++ entry v.number act ∷ [])) front ∙ state-snoc (opening_of v) v.seen (entry v.number act));
      found = e.found ∙ ap (λ (es : List Entry). found_by act (state (opening_of v) es)) front;
      number = ap (λ (x : View). x.number) e.is;
      mode = ap (λ (x : View). x.mode) e.is;
      there = let k : w.number ≡ v.number = ap (λ (x : View). x.number) e.is in subst (λ (k : ℕ). IsIn w.mode (now w) k) k e.mode;
      seen = seen;
      start = start;
    }

log_of : (logger : ℕ) (v w : View) (act : Act) (n : ℕ) → Left v w act n → seen_log logger w ≡ without_looks (opening_of v) logger (v.seen ++ entry v.number act ∷ [])
log_of logger v w act n l = ap (λ (s : State). without_looks s logger w.seen) l.start ∙ ap (λ (es : List Entry). without_looks (opening_of v) logger es) l.seen

-- The region as it is seen

-- a look leaves it
pub looked : (r : ScriptRegion) (logger : ℕ) (v w : View) (i n : ℕ) (doing : List Doing) → Left v w (Load i) n → is_look (now v) logger (entry v.number (Load i)) ≡ true
    → region_seen r logger w doing ≡ region_seen r logger v doing
looked r logger v w i n doing l t =
    let log : seen_log logger w ≡ seen_log logger v = log_of logger v w (Load i) n l ∙ with_look (opening_of v) logger v.seen (entry v.number (Load i)) t in
    λ j. record { file = r.file; cluster = r.cluster; state = l.state j; doing = doing; log = log j }

-- any other call is an act of the fold
pub did : (r : ScriptRegion) (logger : ℕ) (v w : View) (act : Act) (n : ℕ) (doing : List Doing) → Left v w act n → is_look (now v) logger (entry v.number act) ≡ false
    → with_act (region_seen r logger v doing) v.number act ≡ region_seen r logger w doing
did r logger v w act n doing l t =
    let log : seen_log logger v ++ entry v.number act ∷ [] ≡ seen_log logger w = sym (log_of logger v w act n l ∙ with_deed (opening_of v) logger v.seen (entry v.number act) t) in
    λ j. record { file = r.file; cluster = r.cluster; state = sym l.state j; doing = doing; log = log j }

-- a load by a pass that isn't attached, and not the logger's, is no look
pub no_look : (s : State) (logger k i : ℕ) (m : Mode) → k ≢ logger → IsIn m s k → is_attached (Some m) ≡ false → is_look s logger (entry k (Load i)) ≡ false
no_look s logger k i m other there out = by_test (eqb k logger) refl
  where
    there_is : is_attached (slice_get s.modes k) ≡ false
    there_is = ap is_attached (get_at s.modes k m there) ∙ out

    by_test : (b : Bool) → eqb k logger ≡ b → (b || is_attached (slice_get s.modes k)) ≡ false
    by_test true e = absurd (other (eqb-true k logger e))
    by_test false e = there_is
