-- A replay of a journal entry by entry.
use Rattle.std.proofs.Common.{◌≡◌, ℕ, suc, ◌+◌, ◌<◌, List, [], ◌∷◌, ◌++◌, length, take, add-one, get_or, Bool, false, IsTrue, true≢false, sym, ap, ◌∙◌, subst}
use mathlib.Core.Option.{some}
use lib.ListN.{get_elem?}
use Rattle.region_core.specs.declared.act.Entry.{Entry}
use Rattle.region_core.specs.Shape.{Shaping}
use Rattle.region_core.specs.State.{State, after, IsOpen}
use Rattle.region_core.specs.Journal.{state, state_at, IsLegal}
use Rattle.region_core.specs.Replay.{IsRunnable, IsFirstShut}
use Rattle.region_core.proofs.Lists.{take_next, at_or}
use Rattle.region_core.proofs.Journals.{state-snoc}

-- the first entries were open, and led to this state
pub record Ran (s : State) (log : List Entry) (position : ℕ) (t : State) : Type 0 where
  pub is : t ≡ state_at s log position
  pub runs : IsRunnable s (take position log)

runnable-snoc : (s : State) (es : List Entry) (e : Entry) → IsRunnable s es → IsOpen (state s es) e.by e.act → IsRunnable s (es ++ e ∷ [])
runnable-snoc s [] e r o = (o, tt)
runnable-snoc s (x ∷ xs) e r o = (r.0, runnable-snoc (after s x.by x.act) xs e r.1 o)

-- one more entry, which is open
pub ran_more : (s : State) (log : List Entry) (position : ℕ) (t : State) (e : Entry) → get_elem? log position ≡ some e → Ran s log position t → IsOpen t e.by e.act → Ran s log (suc position) (after t e.by e.act)
ran_more s log position t e there ran o =
    let next : take (suc position) log ≡ take position log ++ e ∷ [] = take_next log position e there in
    record {
      is = ap (λ (u : State). after u e.by e.act) ran.is ∙ sym (state-snoc s (take position log) e) ∙ ap (λ (es : List Entry). state s es) (sym next);
      runs = subst (λ (es : List Entry). IsRunnable s es) (sym next) (runnable-snoc s (take position log) e ran.runs (subst (λ (u : State). IsOpen u e.by e.act) ran.is o));
    }

-- the entry that stopped a replay
pub ran_until : (s : State) (log : List Entry) (position : ℕ) (t : State) (e : Entry) → get_elem? log position ≡ some e → Ran s log position t → (IsOpen t e.by e.act → ⊥) → IsFirstShut s log position
ran_until s log position t e there ran shut = record { entry = e; there = there; before = ran.runs; shut = λ o. shut (subst (λ (u : State). IsOpen u e.by e.act) (sym ran.is) o) }

-- the same of the entry at a position below the length
pub ran_more_at : (s : State) (log : List Entry) (position : ℕ) (t : State) (d : Entry) → position < length log → Ran s log position t → IsOpen t (get_or log position d).by (get_or log position d).act → Ran s log (position + 1) (after t (get_or log position d).by (get_or log position d).act)
ran_more_at s log position t d h ran o = rw add-one (ran_more s log position t (get_or log position d) (at_or log position d h) ran o)

pub ran_until_at : (s : State) (log : List Entry) (position : ℕ) (t : State) (d : Entry) (b : Bool) → position < length log → Ran s log position t → (IsOpen t (get_or log position d).by (get_or log position d).act → IsTrue b) → b ≡ false → IsFirstShut s log position
ran_until_at s log position t d b h ran o no_way = ran_until s log position t (get_or log position d) (at_or log position d h) ran (λ p. true≢false (sym (o p) ∙ no_way))

-- a legal journal's entries are all open
pub legal_runs : (S : Shaping) (s : State) (es : List Entry) → IsLegal S s es → IsRunnable s es
legal_runs S s [] l = tt
legal_runs S s (e ∷ es) l = (l.0.ready, legal_runs S (after s e.by e.act) es l.1)
