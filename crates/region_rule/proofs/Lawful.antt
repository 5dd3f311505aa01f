-- What follows from the clauses of the calls.
use Rattle.std.proofs.Common.{◌≡◌, ◌≢◌, ℕ, ◌<◌, ◌≤◌, Bool, true, false, List, [], ◌∷◌, ◌++◌, length, eqb, eqb-true, sym, refl, ap, ◌∙◌, subst, arith}
use Rattle.std.proofs.lemmas.List.{length-replicate}
use mathlib.Core.Logic.{dite}
use native.Mathlib.Decide.{ℕ_discrete, dec_le}
use Rattle.region_core.specs.declared.mode.Mode.{Mode}
use Rattle.region_core.specs.declared.mode.Mode.TheVariants.{Idle, Attached}
use Rattle.region_core.specs.declared.act.Act.{Act}
use Rattle.region_core.specs.declared.act.Entry.{Entry}
use Rattle.region_core.specs.Shape.{Shaping, IsShape}
use Rattle.region_core.specs.State.{State, after, opening, IsIn, IsAllowed}
use Rattle.region_core.specs.Journal.{state, own, IsLegal, IsJournal}
use Rattle.region_core.proofs.Journals.{state-append, own-append, legal-front, legal-back}
use Rattle.region_core.proofs.Sound.{IsSound, sound_run, sound_opening, inside_shut}
use Rattle.region_core.proofs.Stretch.{IsStill, quiet_act}
use Rattle.region_core.proofs.Runs.{mode_run, count_run, none_past, other_first}
use Rattle.region_rule.specs.declared.view.View.{View}
use Rattle.region_rule.specs.Views.{opening_of, now, HasNone, one_if, count}
use Rattle.region_rule.specs.Steps.{entry, Extends}
use Rattle.region_rule.specs.Tokens.{IsLast}
use Rattle.region_rule.specs.Calls.{Closes, Learns}
use Rattle.region_rule.proofs.Keeps.{ahead}
use Rattle.region_rule.proofs.Acts.{form_inside}
use Rattle.region_rule.proofs.Relaying.{now_after}

none_of : (j : ℕ) (entries : List Entry) (kept : List (ℕ × List Entry)) → HasNone entries kept → 0 < count j kept → own j entries ≡ []
none_of j entries [] h some_of = absurd (omega arith)
none_of j entries (x ∷ xs) h some_of = by_test (eqb x.0 j) refl (λ more. none_of j entries xs h.1 more)
  where
    by_test : (b : Bool) → eqb x.0 j ≡ b → (0 < count j xs → own j entries ≡ []) → own j entries ≡ []
    by_test true e rest = subst (λ (k : ℕ). own k entries ≡ []) (eqb-true x.0 j e) h.0
    by_test false e rest = let none : one_if (eqb x.0 j) ≡ 0 = ap (λ (b : Bool). one_if b) e in rest (omega arith)

-- whose entry is the first one has an entry
has_first : (e : Entry) (es : List Entry) → own e.by (e ∷ es) ≡ [] → ⊥
has_first e es h = other_first e.by e es h refl

module _ (S : Shaping) where
  -- entries of nobody are none
  pub nobody : (v : View) (es : List Entry) → IsLegal S (now v) es → own v.number es ≡ [] → HasNone es v.kept → IsLast v → es ≡ []
  nobody v [] l mine kept last = refl
  nobody v (e ∷ es) l mine kept last = dite (ℕ_discrete e.by v.number)
      (λ (same : e.by ≡ v.number). absurd (has_first e es (subst (λ (k : ℕ). own k (e ∷ es) ≡ []) (sym same) mine)))
      (λ (other : e.by ≢ v.number). dite (dec_le v.passes e.by)
      (λ (past : v.passes ≤ e.by). let many : length (now v).modes ≡ v.passes = count_run (opening_of v) v.seen ∙ length-replicate v.passes Idle in
      absurd (has_first e es (none_past S (now v) e.by (e ∷ es) l (omega arith))))
      (λ (below : ¬ (v.passes ≤ e.by)). absurd (has_first e es (none_of e.by (e ∷ es) v.kept kept (last e.by (omega arith) other)))))

  pub sees_all : (v w : View) (act : Act) (n : ℕ) (e : Extends S v act n w) → IsLast v → e.between ≡ []
  sees_all v w act n e last = nobody v e.between
      (legal-back S (opening_of v) v.seen e.between (legal-front S (opening_of v) (v.seen ++ e.between) (entry v.number act ∷ []) e.journal.legal)) e.others e.gathered last

  pub closes_all : (v : View) (words : List ℕ) (c : Closes S v words) → IsLast v → c.rest ≡ []
  closes_all v words c last = nobody v c.rest (legal-back S (opening_of v) v.seen c.rest c.journal.legal) c.others c.gathered_none last

  module _ (laws : IsShape S) where
    pub stays_inside : (v : View) (rest : List Entry) → IsJournal S v.start v.passes (v.seen ++ rest) → own v.number rest ≡ [] → v.mode ≡ Attached → IsIn v.mode (now v) v.number
        → S.form (state (opening_of v) (v.seen ++ rest)).words ≡ S.form (now v).words
    stays_inside v rest journal none mode there =
        ap (λ (s : State). S.form s.words) (state-append (opening_of v) v.seen rest) ∙ form_inside S laws v rest mode (ahead S laws v rest journal none there)

    pub steps_inside : (v w : View) (act : Act) (n : ℕ) → Extends S v act n w → v.mode ≡ Attached → IsIn v.mode (now v) v.number → S.form (now w).words ≡ S.form (now v).words
    steps_inside v w act n e mode there =
        let t : State = state (opening_of v) (v.seen ++ e.between) in
        let legal : IsLegal S (opening_of v) (v.seen ++ e.between) = legal-front S (opening_of v) (v.seen ++ e.between) (entry v.number act ∷ []) e.journal.legal in
        let allowed : IsAllowed S t v.number act = (legal-back S (opening_of v) (v.seen ++ e.between) (entry v.number act ∷ []) e.journal.legal).0 in
        let sound : IsSound S t = sound_run S laws (opening_of v) (v.seen ++ e.between) (sound_opening S laws v.start v.passes e.journal.image e.journal.few) legal in
        let here : IsIn Attached t v.number = subst (λ (s : State). IsIn Attached s v.number) (sym (state-append (opening_of v) v.seen e.between))
        (mode_run (now v) v.number Attached e.between e.others (subst (λ (m : Mode). IsIn m (now v) v.number) mode there)) in
        let still : IsStill S t.words (after t v.number act).words = quiet_act S laws t v.number act sound allowed (inside_shut t.gate t.modes v.number sound.gated here) in
        let before : IsJournal S v.start v.passes (v.seen ++ e.between) = record { image = e.journal.image; wide = e.journal.wide; few = e.journal.few; legal = legal } in
        ap (λ (s : State). S.form s.words) (now_after S v w act n e) ∙ still.form_is ∙ stays_inside v e.between before e.others mode there

    none_added : (xs ys : List Entry) → xs ++ ys ≡ xs → ys ≡ []
    none_added [] ys e = e
    none_added (x ∷ xs) ys e = none_added xs ys (cc)

    -- and so does learning what a note has seen
    pub informed_inside : (v w new : View) → v.mode ≡ Attached → IsIn v.mode (now v) v.number → own v.number v.seen ≡ v.own → Learns S v w new → S.form (now new).words ≡ S.form (now v).words
    informed_inside v w new mode there mine l =
        let mid : List Entry = l.mine.0 in
        let seen : new.seen ≡ v.seen ++ mid = l.mine.1 in
        let had : own v.number (v.seen ++ mid) ≡ own v.number v.seen =
        ap (λ (es : List Entry). own v.number es) (sym seen) ∙ ap (λ (x : View). own x.number new.seen) (sym l.is) ∙ l.knows.had ∙ ap (λ (x : View). x.own) l.is ∙ sym mine in
        let none : own v.number mid ≡ [] = none_added (own v.number v.seen) (own v.number mid) (sym (own-append v.number v.seen mid) ∙ had) in
        let start : new.start ≡ v.start = ap (λ (x : View). x.start) l.is in
        let count_is : new.passes ≡ v.passes = ap (λ (x : View). x.passes) l.is in
        let journal : IsJournal S v.start v.passes (v.seen ++ mid) = subst (λ (es : List Entry). IsJournal S v.start v.passes es) seen
        (subst (λ (n : ℕ). IsJournal S v.start n new.seen) count_is (subst (λ (ws : List ℕ). IsJournal S ws new.passes new.seen) start l.knows.journal)) in
        (λ i. S.form (state (opening (start i) (count_is i)) (seen i)).words) ∙ stays_inside v mid journal none mode there
