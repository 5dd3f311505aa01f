-- Beginnings of one list, and what a view may say of a longer one.
use Rattle.std.proofs.Common.{◌≡◌, ℕ, ◌+◌, ◌≤◌, Bool, true, false, cond, List, [], ◌∷◌, ◌++◌, length, ltb, append_assoc, append-nil, sym, refl, ap, ◌∙◌, subst, arith}
use Rattle.region_core.specs.declared.act.Entry.{Entry}
use Rattle.region_core.specs.declared.mode.Mode.TheVariants.{Idle}
use Rattle.region_core.specs.State.{State, opening, IsIn}
use Rattle.region_core.specs.Journal.{state, own}
use Rattle.region_core.proofs.Journals.{state-append, own-append}
use Rattle.region_core.proofs.Runs.{mode_run}
use Rattle.region_rule.specs.declared.view.View.{View}
use Rattle.region_rule.specs.Views.{opening_of, now, IsFront, HasNone, Agrees, Owns, count}
use Rattle.region_core.specs.Shape.{Shaping}
use Rattle.region_rule.specs.Tokens.{HasLists, AreIdle, Knows, after_learning, longer, shorter}
use Rattle.region_rule.specs.Calls.{Learns}

pub record Front (a b ra rb : List Entry) : Type 0 where
  pub mid : List Entry
  pub is : b ≡ a ++ mid
  pub rest : ra ≡ mid ++ rb

-- of two beginnings of one list the shorter begins the other
pub front : (a b ra rb : List Entry) → a ++ ra ≡ b ++ rb → length a ≤ length b → Front a b ra rb
front [] b ra rb e h = record { mid = b; is = refl; rest = e }
front (x ∷ a) [] ra rb e h = absurd (omega arith)
front (x ∷ a) (y ∷ b) ra rb e h =
    let heads : x ≡ y = cc in
    let tails : a ++ ra ≡ b ++ rb = cc in
    let f = front a b ra rb tails (omega arith) in
    record { mid = f.mid; is = (λ i. sym heads i ∷ b) ∙ ap (λ (l : List Entry). x ∷ l) f.is; rest = f.rest }

none_front : (xs ys : List Entry) → xs ++ ys ≡ [] → xs ≡ []
none_front [] ys e = refl
none_front (x ∷ xs) ys e = absurd (cc)

none_back : (xs ys : List Entry) → xs ++ ys ≡ [] → ys ≡ []
none_back [] ys e = e
none_back (x ∷ xs) ys e = absurd (cc)

-- where a pass has no entry in two lists together, it has none in either
pub own_front : (k : ℕ) (mid rest : List Entry) → own k (mid ++ rest) ≡ [] → own k mid ≡ []
own_front k mid rest e = none_front (own k mid) (own k rest) (sym (own-append k mid rest) ∙ e)

pub own_back : (k : ℕ) (mid rest : List Entry) → own k (mid ++ rest) ≡ [] → own k rest ≡ []
own_back k mid rest e = none_back (own k mid) (own k rest) (sym (own-append k mid rest) ∙ e)

-- a list in which a pass has no entry adds none
pub own_same : (k : ℕ) (seen mid : List Entry) → own k mid ≡ [] → own k (seen ++ mid) ≡ own k seen
own_same k seen mid e = own-append k seen mid ∙ ap (λ (es : List Entry). own k seen ++ es) e ∙ append-nil (own k seen)

pub agrees_further : (start : State) (seen mid rest : List Entry) (kept : List (ℕ × List Entry)) → Agrees start seen (mid ++ rest) kept → Agrees start (seen ++ mid) rest kept
agrees_further start seen mid rest [] a = tt
agrees_further start seen mid rest (x ∷ xs) a =
    let none : own x.0 mid ≡ [] = own_front x.0 mid rest a.1 in (
      own_same x.0 seen mid none ∙ a.0,
      own_back x.0 mid rest a.1,
      subst (λ (s : State). IsIn Idle s x.0) (sym (state-append start seen mid)) (mode_run (state start seen) x.0 Idle mid none a.2),
      agrees_further start seen mid rest xs a.3,
    )

pub agrees_both : (start : State) (seen rest : List Entry) (xs ys : List (ℕ × List Entry)) → Agrees start seen rest xs → Agrees start seen rest ys → Agrees start seen rest (xs ++ ys)
agrees_both start seen rest [] ys a b = b
agrees_both start seen rest (x ∷ xs) ys a b = (a.0, a.1, a.2, agrees_both start seen rest xs ys a.3 b)

pub lists_of : (start : State) (seen rest : List Entry) (kept : List (ℕ × List Entry)) → Agrees start seen rest kept → HasLists seen kept
lists_of start seen rest [] a = tt
lists_of start seen rest (x ∷ xs) a = (a.0, lists_of start seen rest xs a.3)

pub idle_of : (start : State) (seen rest : List Entry) (kept : List (ℕ × List Entry)) → Agrees start seen rest kept → AreIdle (state start seen) kept
idle_of start seen rest [] a = tt
idle_of start seen rest (x ∷ xs) a = (a.2, idle_of start seen rest xs a.3)

-- passes that add no entry stay idle
pub idle_further : (s : State) (es : List Entry) (kept : List (ℕ × List Entry)) → HasNone es kept → AreIdle s kept → AreIdle (state s es) kept
idle_further s es [] none idle = tt
idle_further s es (x ∷ xs) none idle = (mode_run s x.0 Idle es none.0 idle.0, idle_further s es xs none.1 idle.1)

pub count-append : (k : ℕ) (xs ys : List (ℕ × List Entry)) → count k (xs ++ ys) ≡ count k xs + count k ys
count-append k [] ys = omega arith
count-append k (x ∷ xs) ys = let h = count-append k xs ys in omega arith

-- a view that has seen further
pub owns_further : (words : List ℕ) (passes : ℕ) (log mid rest : List Entry) (v : View) → Owns words passes log (mid ++ rest) v → Owns words passes log rest (record v { seen = v.seen ++ mid; told = v.seen })
owns_further words passes log mid rest v o =
    let none : own v.number mid ≡ [] = own_front v.number mid rest o.none in
    record {
      sees = record { start = o.sees.start; passes_are = o.sees.passes_are; is = o.sees.is ∙ sym (append_assoc v.seen mid rest); told = (mid, refl) };
      had = own_same v.number v.seen mid none ∙ o.had;
      none = own_back v.number mid rest o.none;
      mode = subst (λ (s : State). IsIn v.mode s v.number) (sym (state-append (opening_of v) v.seen mid)) (mode_run (now v) v.number v.mode mid none o.mode);
      kept = agrees_further (opening words passes) v.seen mid rest v.kept o.kept;
    }

-- of two lists the longer begins with both, if it begins with the shorter
both_begin : (b : Bool) (xs ys : List Entry) → IsFront (cond b xs ys) (cond b ys xs) → IsFront xs (cond b ys xs) × IsFront ys (cond b ys xs)
both_begin true xs ys h = (h, ([], sym (append-nil ys)))
both_begin false xs ys h = (([], sym (append-nil xs)), h)

-- what a join tells, once the rule has confirmed it
pub learned : (S : Shaping) (v w new : View) → new ≡ after_learning v w → Knows S new → Learns S v w new
learned S v w new is knows =
    let told : IsFront (shorter v.seen w.seen) (longer v.seen w.seen) = subst (λ (x : View). IsFront x.told x.seen) is knows.told in
    let both = both_begin (ltb (length v.seen) (length w.seen)) v.seen w.seen told in
    record { is = is; mine = subst (λ (x : View). IsFront v.seen x.seen) (sym is) both.0; theirs = subst (λ (x : View). IsFront w.seen x.seen) (sym is) both.1; knows = knows }
