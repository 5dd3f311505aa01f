-- An act of one view that is allowed keeps the rule.
use Rattle.std.proofs.Common.{◌≡◌, ◌≢◌, ℕ, ◌+◌, ◌≤◌, Bool, true, false, List, [], ◌∷◌, ◌++◌, set, slice_index, eqb, ltb, eq-eqb, append_assoc, append-nil, sym, refl, ap, ◌∙◌, subst, ⊎_elim, arith}
use mathlib.Core.Option.{some}
use lib.ListN.{get_elem?}
use Rattle.atomic_table.specs.Table.{State as Table, keeps, Allows}
use Rattle.atomic_table.proofs.Lists.{at_set}
use Rattle.region_core.specs.declared.mode.Mode.{Mode}
use Rattle.region_core.specs.declared.mode.Mode.TheVariants.{Idle}
use Rattle.region_core.specs.declared.act.Act.{Act}
use Rattle.region_core.specs.declared.act.Act.TheVariants.{Load, Swap, Add, Enter, Leave, Take, Begin, Put, End, Free}
use Rattle.region_core.specs.declared.act.Entry.{Entry}
use Rattle.region_core.specs.Shape.{Shaping, IsShape}
use Rattle.region_core.specs.State.{State, opening, after, next_mode, IsIn, IsAllowed}
use Rattle.region_core.specs.Journal.{state, own, IsLegal, IsJournal}
use Rattle.region_core.specs.Gate.{total}
use Rattle.region_core.proofs.Totals.{total-set, le_total, two_le_total}
use Rattle.region_core.proofs.Journals.{state-append, state-snoc, own-append, own-mine, own-others, legal-front, legal-back, journal-snoc}
use Rattle.region_core.proofs.Sound.{IsSound, sound_run, sound_opening}
use Rattle.region_core.proofs.Runs.{mode_run, mode_own}
use Rattle.region_rule.specs.declared.view.View.{View}
use Rattle.region_rule.specs.declared.view.Role.{Role}
use Rattle.region_rule.specs.declared.view.Role.TheVariants.{Spent, Copied, Numbered}
use Rattle.region_rule.specs.Views.{table_words, opening_of, now, Agrees, HasNone, Sees, Owns, fits_as, Fits, one_if, count, times_in_as, times_in, IsOneJournal}
use Rattle.region_rule.specs.Steps.{entry, found_by, view_after, Extends}

-- a number that isn't counted is another one
pub not_counted : (m k : ℕ) → one_if (eqb m k) ≡ 0 → m ≢ k
not_counted m k h e = let one : one_if (eqb m k) ≡ 1 = ap (λ (b : Bool). one_if b) (eq-eqb m k e) in omega arith

pub counted : (k : ℕ) → one_if (eqb k k) ≡ 1
counted k = ap (λ (b : Bool). one_if b) (eq-eqb k k refl)

at_most_one : (b : Bool) → one_if b ≤ 1
at_most_one true = omega arith
at_most_one false = omega arith

-- the lists that are kept agree with a longer journal, whose last entry is of another pass
agrees_longer : (start : State) (k : ℕ) (act : Act) (seen rest : List Entry) (kept : List (ℕ × List Entry)) → count k kept ≡ 0 → Agrees start seen rest kept → Agrees start seen (rest ++ entry k act ∷ []) kept
agrees_longer start k act seen rest [] c a = tt
agrees_longer start k act seen rest (x ∷ xs) c a =
    let differ : x.0 ≢ k = not_counted x.0 k (omega arith) in
    (a.0, own-others k x.0 rest act (λ e. differ (sym e)) ∙ a.1, a.2, agrees_longer start k act seen rest xs (omega arith) a.3)

-- and with what was seen of it, once it was seen to its end
agrees_whole : (start : State) (k : ℕ) (act : Act) (seen rest : List Entry) (kept : List (ℕ × List Entry)) → count k kept ≡ 0 → Agrees start seen rest kept → Agrees start ((seen ++ rest) ++ entry k act ∷ []) [] kept
agrees_whole start k act seen rest [] c a = tt
agrees_whole start k act seen rest (x ∷ xs) c a =
    let differ : x.0 ≢ k = not_counted x.0 k (omega arith) in
    let more : List Entry = rest ++ entry k act ∷ [] in
    let none : own x.0 more ≡ [] = own-others k x.0 rest act (λ e. differ (sym e)) ∙ a.1 in
    let there : state (state start seen) more ≡ state start ((seen ++ rest) ++ entry k act ∷ []) =
    sym (state-append start seen more) ∙ ap (λ (es : List Entry). state start es) (sym (append_assoc seen rest (entry k act ∷ []))) in
    let both : own x.0 (seen ++ rest) ≡ x.1 = own-append x.0 seen rest ∙ ap (λ (es : List Entry). own x.0 seen ++ es) a.1 ∙ append-nil (own x.0 seen) ∙ a.0 in
    (own-others k x.0 (seen ++ rest) act (λ e. differ (sym e)) ∙ both, refl, subst (λ (s : State). IsIn Idle s x.0) there (mode_run (state start seen) x.0 Idle more none a.2), agrees_whole start k act seen rest xs (omega arith) a.3)

-- none of the numbers that are kept has an entry in the rest
pub none_kept : (start : State) (seen rest : List Entry) (kept : List (ℕ × List Entry)) → Agrees start seen rest kept → HasNone rest kept
none_kept start seen rest [] a = tt
none_kept start seen rest (x ∷ xs) a = (a.1, none_kept start seen rest xs a.3)

sees_longer : (words : List ℕ) (passes : ℕ) (log rest es : List Entry) (v : View) → Sees words passes log rest v → Sees words passes (log ++ es) (rest ++ es) v
sees_longer words passes log rest es v s = record {
  start = s.start;
  passes_are = s.passes_are;
  is = ap (λ (l : List Entry). l ++ es) s.is ∙ append_assoc v.seen rest es;
  told = s.told;
}

-- a view without the acting pass's number fits the longer journal
fits_longer : (r : Role) (words : List ℕ) (passes : ℕ) (log : List Entry) (v : View) (k : ℕ) (act : Act) → times_in_as r k v.number v.kept ≡ 0 → fits_as r words passes log v → fits_as r words passes (log ++ entry k act ∷ []) v
fits_longer Spent words passes log v k act h f = tt
fits_longer Copied words passes log v k act h f = (f.0 ++ entry k act ∷ [], sees_longer words passes log f.0 (entry k act ∷ []) v f.1)
fits_longer Numbered words passes log v k act h f =
    let differ : v.number ≢ k = not_counted v.number k (omega arith) in
    let o = f.1 in (
      f.0 ++ entry k act ∷ [],
      record {
        sees = sees_longer words passes log f.0 (entry k act ∷ []) v o.sees;
        had = o.had;
        none = own-others k v.number f.0 act (λ e. differ (sym e)) ∙ o.none;
        mode = o.mode;
        kept = agrees_longer (opening words passes) k act v.seen f.0 v.kept (omega arith) o.kept;
      },
    )

-- a view with a number fits as one that has all its entries
pub numbered : (words : List ℕ) (passes : ℕ) (log : List Entry) (v : View) → v.role ≡ Numbered → Fits words passes log v → (rest : List Entry) × Owns words passes log rest v
numbered words passes log v is fit = subst (λ (r : Role). fits_as r words passes log v) is fit

-- the mode after an act goes by the number that it found
mode_found : (t : State) (m : Mode) (act : Act) → next_mode t.gate m act ≡ next_mode (found_by act t) m act
mode_found t m (Load w) = refl
mode_found t m (Swap w v) = refl
mode_found t m (Add w d) = refl
mode_found t m Enter = refl
mode_found t m Leave = refl
mode_found t m Take = refl
mode_found t m (Begin n) = refl
mode_found t m (Put w v) = refl
mode_found t m (End n) = refl
mode_found t m Free = refl

module _ (S : Shaping) where
  -- what a pass may count on where the journal went on from what it has seen, by entries of others
  pub record Ahead (v : View) (rest : List Entry) : Type 0 where
    pub journal : IsJournal S v.start v.passes (v.seen ++ rest)
    pub legal : IsLegal S (now v) rest
    pub none : own v.number rest ≡ []
    pub sound_now : IsSound S (now v)
    pub sound : IsSound S (state (now v) rest)
    pub mode_now : IsIn v.mode (now v) v.number
    pub mode : IsIn v.mode (state (now v) rest) v.number

  -- an act is allowed in a state, does to the table's word what it does to the state, and tells what it found
  pub record Fitting (v : View) (act : Act) (i : ℕ) (f tell : ℕ → ℕ) (t : State) : Type 0 where
    pub allowed : IsAllowed S t v.number act
    pub moves : set (table_words t) i (f (slice_index (table_words t) i)) ≡ table_words (after t v.number act)
    pub tells : found_by act t ≡ tell (slice_index (table_words t) i)

  abbrev pub Steady : View → (State → Type 0) → Type 0
  Steady v P = (rest : List Entry) → Ahead v rest → P (state (now v) rest)

  module _ (laws : IsShape S) where
    pub ahead : (v : View) (rest : List Entry) → IsJournal S v.start v.passes (v.seen ++ rest) → own v.number rest ≡ [] → IsIn v.mode (now v) v.number → Ahead v rest
    ahead v rest journal none mode =
        let legal : IsLegal S (now v) rest = legal-back S (opening_of v) v.seen rest journal.legal in
        let sound_now : IsSound S (now v) = sound_run S laws (opening_of v) v.seen (sound_opening S laws v.start v.passes journal.image journal.few) (legal-front S (opening_of v) v.seen rest journal.legal) in
        record {
          journal = journal;
          legal = legal;
          none = none;
          sound_now = sound_now;
          sound = sound_run S laws (now v) rest sound_now legal;
          mode_now = mode;
          mode = mode_run (now v) v.number v.mode rest none mode;
        }

    -- the acting view fits the longer journal
    owns_acted : (v : View) (rest : List Entry) (act : Act) → Owns v.start v.passes (v.seen ++ rest) rest v → count v.number v.kept ≡ 0
        → Owns v.start v.passes ((v.seen ++ rest) ++ entry v.number act ∷ []) [] (view_after v rest act (found_by act (state (opening_of v) (v.seen ++ rest))))
    owns_acted v rest act o alone =
        let t : State = state (opening_of v) (v.seen ++ rest) in
        let e : Entry = entry v.number act in
        let whole : own v.number (v.seen ++ rest) ≡ v.own = own-append v.number v.seen rest ∙ ap (λ (es : List Entry). own v.number v.seen ++ es) o.none ∙ append-nil (own v.number v.seen) ∙ o.had in
        let here : IsIn v.mode t v.number = subst (λ (s : State). IsIn v.mode s v.number) (sym (state-append (opening_of v) v.seen rest)) (mode_run (now v) v.number v.mode rest o.none o.mode) in
        let there : IsIn (next_mode (found_by act t) v.mode act) (after t v.number act) v.number =
        subst (λ (m : Mode). IsIn m (after t v.number act) v.number) (mode_found t v.mode act) (mode_own t v.number v.mode act here) in
        record {
          sees = record { start = refl; passes_are = refl; is = sym (append-nil ((v.seen ++ rest) ++ e ∷ [])); told = ((v.seen ++ rest) ++ e ∷ [], refl) };
          had = own-mine v.number (v.seen ++ rest) act ∙ ap (λ (es : List Entry). es ++ e ∷ []) whole;
          none = refl;
          mode = subst (λ (s : State). IsIn (next_mode (found_by act t) v.mode act) s v.number) (sym (state-snoc (opening_of v) (v.seen ++ rest) e)) there;
          kept = agrees_whole (opening_of v) v.number act v.seen rest v.kept alone o.kept;
        }

    -- two views that both have a number would be one too many
    apart : (passes : ℕ) (views : List View) (id j : ℕ) (v u : View) → ((k : ℕ) → total (times_in k) views ≡ one_if (ltb k passes)) → v.role ≡ Numbered
        → get_elem? views id ≡ some v → get_elem? views j ≡ some u → j ≢ id → times_in v.number u ≡ 0
    apart passes views id j v u once is at there differ =
        let two : times_in v.number v + times_in v.number u ≤ total (times_in v.number) views = two_le_total (times_in v.number) views id j v u (λ e. differ (sym e)) at there in
        let most : one_if (ltb v.number passes) ≤ 1 = at_most_one (ltb v.number passes) in
        let sum : total (times_in v.number) views ≡ one_if (ltb v.number passes) = once v.number in
        let mine : times_in v.number v ≡ one_if (eqb v.number v.number) + count v.number v.kept = ap (λ (r : Role). times_in_as r v.number v.number v.kept) is in
        let one : one_if (eqb v.number v.number) ≡ 1 = counted v.number in
        omega arith

    -- nor does a view keep its own number
    keeps_others : (passes : ℕ) (views : List View) (id : ℕ) (v : View) → ((k : ℕ) → total (times_in k) views ≡ one_if (ltb k passes)) → v.role ≡ Numbered
        → get_elem? views id ≡ some v → count v.number v.kept ≡ 0
    keeps_others passes views id v once is at =
        let some_of : times_in v.number v ≤ total (times_in v.number) views = le_total (times_in v.number) views id v at in
        let most : one_if (ltb v.number passes) ≤ 1 = at_most_one (ltb v.number passes) in
        let sum : total (times_in v.number) views ≡ one_if (ltb v.number passes) = once v.number in
        let mine : times_in v.number v ≡ one_if (eqb v.number v.number) + count v.number v.kept = ap (λ (r : Role). times_in_as r v.number v.number v.kept) is in
        let one : one_if (eqb v.number v.number) ≡ 1 = counted v.number in
        omega arith

    record Stepped (v : View) (rest : List Entry) (act : Act) (found : List ℕ) (views : List View) (id n : ℕ) : Type 0 where
      kept : IsOneJournal S v.start v.passes found (set views id (view_after v rest act n))
      extends : Extends S v act n (view_after v rest act n)

    step : (v : View) (rest : List Entry) (act : Act) (views : List View) (id : ℕ) → v.role ≡ Numbered → get_elem? views id ≡ some v
        → IsJournal S v.start v.passes (v.seen ++ rest)
        → ((j : ℕ) (u : View) → get_elem? views j ≡ some u → Fits v.start v.passes (v.seen ++ rest) u)
        → ((k : ℕ) → total (times_in k) views ≡ one_if (ltb k v.passes))
        → Owns v.start v.passes (v.seen ++ rest) rest v
        → IsAllowed S (state (opening_of v) (v.seen ++ rest)) v.number act
        → Stepped v rest act (table_words (after (state (opening_of v) (v.seen ++ rest)) v.number act)) views id (found_by act (state (opening_of v) (v.seen ++ rest)))
    step v rest act views id is at journal fits once o allowed =
        let t : State = state (opening_of v) (v.seen ++ rest) in
        let e : Entry = entry v.number act in
        let log : List Entry = (v.seen ++ rest) ++ e ∷ [] in
        let w : View = view_after v rest act (found_by act t) in
        let alone : count v.number v.kept ≡ 0 = keeps_others v.passes views id v once is at in
        let mine : Owns v.start v.passes log [] w = owns_acted v rest act o alone in
        let longer : IsJournal S v.start v.passes log = journal-snoc S v.start v.passes (v.seen ++ rest) e journal allowed in
        record {
          kept = record {
            log = log;
            journal = longer;
            is = ap (λ (s : State). table_words s) (sym (state-snoc (opening_of v) (v.seen ++ rest) e));
            fits = λ j u there. ⊎_elim
                (λ (b : (j ≡ id) × (w ≡ u)). subst (λ (x : View). Fits v.start v.passes log x) b.1
                (subst (λ (r : Role). fits_as r v.start v.passes log w) (sym is) ([], mine)))
                (λ (b : (j ≢ id) × (get_elem? views j ≡ some u)). fits_longer u.role v.start v.passes (v.seen ++ rest) u v.number act
                (apart v.passes views id j v u once is at b.1 b.0) (fits j u b.1))
                (at_set views id j w u there);
            once = λ k. let sums = total-set (times_in k) views id v w at in let before = once k in let same : times_in k w ≡ times_in k v = refl in omega arith;
          };
          extends = record {
            between = rest;
            others = o.none;
            gathered = none_kept (opening_of v) v.seen rest v.kept o.kept;
            is = refl;
            found = refl;
            journal = longer;
            mode = mine.mode;
            had = mine.had;
          };
        }

    -- THE STEP: an act that is allowed wherever the journal may have gone keeps the rule, and tells what it found
    pub allows : (v : View) (c : List (ℕ × Unit {0})) (act : Act) (i : ℕ) (f tell : ℕ → ℕ) (slots id : ℕ) → v.role ≡ Numbered → Steady v (Fitting v act i f tell)
        → Allows (λ (s : Table (Unit {0}) View). IsOneJournal S v.start v.passes s.words s.views) slots id (v, c) i f (λ n me. Extends S v act (tell n) me.0 × (me.1 ≡ c))
    allows v c act i f tell slots id is steady s kept wide at small =
        let own_rest = numbered v.start v.passes kept.log v is (kept.fits id v at) in
        let rest : List Entry = own_rest.0 in
        let o : Owns v.start v.passes kept.log rest v = own_rest.1 in
        let same : kept.log ≡ v.seen ++ rest = o.sees.is in
        let journal : IsJournal S v.start v.passes (v.seen ++ rest) = subst (λ (l : List Entry). IsJournal S v.start v.passes l) same kept.journal in
        let t : State = state (opening_of v) (v.seen ++ rest) in
        let o' : Owns v.start v.passes (v.seen ++ rest) rest v = subst (λ (l : List Entry). Owns v.start v.passes l rest v) same o in
        let fits = subst (λ (l : List Entry). (j : ℕ) (u : View) → get_elem? s.views j ≡ some u → Fits v.start v.passes l u) same kept.fits in
        let words : s.words ≡ table_words t = kept.is ∙ ap (λ (l : List Entry). table_words (state (opening_of v) l)) same in
        let fitting : Fitting v act i f tell t = subst (λ (u : State). Fitting v act i f tell u) (sym (state-append (opening_of v) v.seen rest)) (steady rest (ahead v rest journal o.none o.mode)) in
        let stepped : Stepped v rest act (table_words (after t v.number act)) s.views id (found_by act t) = step v rest act s.views id is at journal fits kept.once o' fitting.allowed in
        let moved : Stepped v rest act (set (table_words t) i (f (slice_index (table_words t) i))) s.views id (tell (slice_index (table_words t) i)) =
        subst (λ (xs : List ℕ). Stepped v rest act xs s.views id (tell (slice_index (table_words t) i))) (sym fitting.moves)
        (subst (λ (n : ℕ). Stepped v rest act (table_words (after t v.number act)) s.views id n) fitting.tells stepped) in
        let last : Stepped v rest act (set s.words i (f (slice_index s.words i))) s.views id (tell (slice_index s.words i)) =
        subst (λ (xs : List ℕ). Stepped v rest act (set xs i (f (slice_index xs i))) s.views id (tell (slice_index xs i))) (sym words) moved in
        (view_after v rest act (tell (slice_index s.words i)), keeps, tt, last.kept, (last.extends, refl))
