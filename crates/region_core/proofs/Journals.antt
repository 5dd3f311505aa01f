-- States, own entries and legality over two lists of entries one after the other.
use Rattle.std.proofs.Common.{◌≡◌, ◌≢◌, ℕ, eq-eqb, ne_eqb, append-nil, Bool, true, false, List, [], ◌∷◌, ◌++◌, eqb, refl, ap, ◌∙◌}
use Rattle.region_core.specs.declared.act.Act.{Act}
use Rattle.region_core.specs.declared.act.Entry.{Entry}
use Rattle.region_core.specs.Shape.{Shaping}
use Rattle.region_core.specs.State.{State, after, opening, IsAllowed}
use Rattle.region_core.specs.Journal.{state, own, own_then, IsLegal, IsJournal}

-- the state after two lists
pub state-append : (s : State) (es fs : List Entry) → state s (es ++ fs) ≡ state (state s es) fs
state-append s [] fs = refl
state-append s (e ∷ es) fs = state-append (after s e.by e.act) es fs

-- the state after one more entry
pub state-snoc : (s : State) (es : List Entry) (e : Entry) → state s (es ++ e ∷ []) ≡ after (state s es) e.by e.act
state-snoc s es e = state-append s es (e ∷ [])

own_then-append : (b : Bool) (e : Entry) (es fs gs : List Entry) → gs ≡ es ++ fs → own_then b e gs ≡ own_then b e es ++ fs
own_then-append true e es fs gs h = ap (λ (r : List Entry). e ∷ r) h
own_then-append false e es fs gs h = h

-- the own entries of two lists
pub own-append : (k : ℕ) (es fs : List Entry) → own k (es ++ fs) ≡ own k es ++ own k fs
own-append k [] fs = refl
own-append k (e ∷ es) fs = own_then-append (eqb e.by k) e (own k es) (own k fs) (own k (es ++ fs)) (own-append k es fs)

-- one more entry, of pass k itself
pub own-mine : (k : ℕ) (es : List Entry) (act : Act) → own k (es ++ record { by = k; act = act } ∷ []) ≡ own k es ++ record { by = k; act = act } ∷ []
own-mine k es act =
    let e : Entry = record { by = k; act = act } in
    own-append k es (e ∷ []) ∙ ap (λ (b : Bool). own k es ++ own_then b e []) (eq-eqb k k refl)

-- and of another pass
pub own-others : (j k : ℕ) (es : List Entry) (act : Act) → j ≢ k → own k (es ++ record { by = j; act = act } ∷ []) ≡ own k es
own-others j k es act n =
    let e : Entry = record { by = j; act = act } in
    own-append k es (e ∷ []) ∙ ap (λ (b : Bool). own k es ++ own_then b e []) (ne_eqb j k n) ∙ append-nil (own k es)

module _ (S : Shaping) where
  -- two legal lists, the second from where the first ends, are one
  pub legal-join : (s : State) (es fs : List Entry) → IsLegal S s es → IsLegal S (state s es) fs → IsLegal S s (es ++ fs)
  legal-join s [] fs l m = m
  legal-join s (e ∷ es) fs l m = (l.0, legal-join (after s e.by e.act) es fs l.1 m)

  -- the front of a legal list is legal
  pub legal-front : (s : State) (es fs : List Entry) → IsLegal S s (es ++ fs) → IsLegal S s es
  legal-front s [] fs l = tt
  legal-front s (e ∷ es) fs l = (l.0, legal-front (after s e.by e.act) es fs l.1)

  -- and so is what follows it, from the state there
  pub legal-back : (s : State) (es fs : List Entry) → IsLegal S s (es ++ fs) → IsLegal S (state s es) fs
  legal-back s [] fs l = l
  legal-back s (e ∷ es) fs l = legal-back (after s e.by e.act) es fs l.1

  -- a legal list goes on by one entry that is allowed at its end
  pub legal-snoc : (s : State) (es : List Entry) (e : Entry) → IsLegal S s es → IsAllowed S (state s es) e.by e.act → IsLegal S s (es ++ e ∷ [])
  legal-snoc s es e l a = legal-join s es (e ∷ []) l (a, tt)

  -- and a journal
  pub journal-snoc : (words : List ℕ) (passes : ℕ) (log : List Entry) (e : Entry) → IsJournal S words passes log → IsAllowed S (state (opening words passes) log) e.by e.act → IsJournal S words passes (log ++ e ∷ [])
  journal-snoc words passes log e journal allowed = record { image = journal.image; wide = journal.wide; few = journal.few; legal = legal-snoc (opening words passes) log e journal.legal allowed }
