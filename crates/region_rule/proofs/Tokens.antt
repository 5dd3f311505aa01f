-- Views that are cut in two or joined keep the rule, and so does a look at the table.
use Rattle.std.proofs.Common.{◌≡◌, ◌≢◌, ℕ, zero, suc, ◌+◌, ◌-◌, ◌^◌, ◌<◌, ◌≤◌, Bool, true, false, cond, List, [], ◌∷◌, ◌++◌, length, set, slice_index, replicate, eqb, ltb, ltb-true, eq-eqb, ne_eqb, add-zero, sym, refl, ap, ◌∙◌, subst, ⊎_elim, arith}
use Rattle.std.proofs.lemmas.Bool.{lt-ltb, le-ltb, ltb-false}
use Rattle.std.proofs.lemmas.List.{length-replicate}
use lib.Seq.{set-get_or}
use mathlib.Core.Option.{some, some-injective, some-ne-none}
use mathlib.Core.Logic.{dite}
use native.Mathlib.Decide.{ℕ_discrete}
use lib.ListN.{get_elem?}
use Rattle.atomic_table.specs.Table.{State as Table, keeps, Allows, Splits, Joins}
use Rattle.atomic_table.proofs.Lists.{at_set, at_snoc, set_again, set_else}
use Rattle.region_core.specs.declared.mode.Mode.{Mode}
use Rattle.region_core.specs.declared.mode.Mode.TheVariants.{Idle}
use Rattle.region_core.specs.declared.act.Entry.{Entry}
use Rattle.region_core.specs.Shape.{Shaping}
use Rattle.region_core.specs.State.{State, opening, IsIn}
use Rattle.region_core.specs.Journal.{state, IsLegal, IsJournal}
use Rattle.region_core.specs.Gate.{total}
use Rattle.region_core.proofs.Lists.{at_some, at_copies}
use Rattle.region_core.proofs.Totals.{total-set, le_total, total-snoc}
use Rattle.region_core.proofs.Journals.{legal-front}
use Rattle.region_rule.specs.declared.view.View.{View}
use Rattle.region_rule.specs.declared.view.Role.{Role}
use Rattle.region_rule.specs.declared.view.Role.TheVariants.{Copied, Numbered}
use Rattle.region_rule.specs.Views.{now, Agrees, Owns, fits_as, Fits, one_if, count, times_in_as, times_in, IsOneJournal, numbers_from, fresh_view, first_view}
use Rattle.region_rule.specs.Tokens.{after_giving, next_pass, note_of, spent_view, after_learning, after_gathering, AreIdle, Knows}
use Rattle.region_rule.proofs.Keeps.{numbered, counted}
use Rattle.region_rule.proofs.Fronts.{Front, front, agrees_further, agrees_both, lists_of, idle_of, count-append, owns_further}

some_true : (b : Bool) → 1 ≤ one_if b → b ≡ true
some_true true h = refl
some_true false h = absurd (omega arith)

-- each pass is idle at the start
idle_there : (words : List ℕ) (passes k : ℕ) → k < passes → IsIn Idle (opening words passes) k
idle_there words passes k below =
    let wide = length-replicate passes Idle in
    let there = at_some (replicate passes Idle) k (omega arith) in
    there.1 ∙ ap some (sym (at_copies passes Idle k there.0 there.1))

-- a number below the next one is the number itself or below it
next_below : (k i : ℕ) → one_if (eqb i k) + one_if (ltb k i) ≡ one_if (ltb k (suc i))
next_below k i = dite (ℕ_discrete i k)
    (λ (e : i ≡ k).
    let a : one_if (eqb i k) ≡ 1 = ap (λ (b : Bool). one_if b) (eq-eqb i k e) in
    let b : one_if (ltb k i) ≡ 0 = ap (λ (b : Bool). one_if b) (not_below k i (omega arith)) in
    let c : one_if (ltb k (suc i)) ≡ 1 = ap (λ (b : Bool). one_if b) (lt-ltb k (suc i) (omega arith)) in
    omega arith)
    (λ (n : i ≢ k).
    let a : one_if (eqb i k) ≡ 0 = ap (λ (b : Bool). one_if b) (ne_eqb i k n) in
    let b : one_if (ltb k i) ≡ one_if (ltb k (suc i)) = ap (λ (b : Bool). one_if b) (same_below k i n) in
    omega arith)
  where
    not_below : (k i : ℕ) → i ≤ k → ltb k i ≡ false
    not_below k i h = le-ltb k i h

    same_below : (k i : ℕ) → i ≢ k → ltb k i ≡ ltb k (suc i)
    same_below k i n = decided (ltb k i) refl
      where
        decided : (b : Bool) → ltb k i ≡ b → ltb k i ≡ ltb k (suc i)
        decided true e = let h = ltb-true k i e in e ∙ sym (lt-ltb k (suc i) (omega arith))
        decided false e = let h = ltb-false k i e in e ∙ sym (le-ltb k (suc i) (omega arith))

-- the numbers that wait are those from the first on
counts_waiting : (k i n : ℕ) → count k (numbers_from i n) + one_if (ltb k i) ≡ one_if (ltb k (i + n))
counts_waiting k i zero = let e : one_if (ltb k (i + 0)) ≡ one_if (ltb k i) = ap (λ (m : ℕ). one_if (ltb k m)) (add-zero i) in omega arith
counts_waiting k i (suc n) =
    let h : count k (numbers_from (suc i) n) + one_if (ltb k (suc i)) ≡ one_if (ltb k (suc i + n)) = counts_waiting k (suc i) n in
    let e : one_if (ltb k (suc i + n)) ≡ one_if (ltb k (i + suc n)) = ap (λ (m : ℕ). one_if (ltb k m)) (omega arith) in
    let one = next_below k i in
    omega arith

agrees_waiting : (words : List ℕ) (passes i n : ℕ) → i + n ≤ passes → Agrees (opening words passes) [] [] (numbers_from i n)
agrees_waiting words passes i zero h = tt
agrees_waiting words passes i (suc n) h = (refl, refl, idle_there words passes i (omega arith), agrees_waiting words passes (suc i) n (omega arith))

-- where a view with a number says that it keeps another one, that one is a pass's
kept_below : (passes : ℕ) (views : List View) (id k : ℕ) (v : View) → total (times_in k) views ≡ one_if (ltb k passes) → get_elem? views id ≡ some v → 1 ≤ times_in k v → k < passes
kept_below passes views id k v once at some_of =
    let h : times_in k v ≤ total (times_in k) views = le_total (times_in k) views id v at in
    ltb-true k passes (some_true (ltb k passes) (omega arith))

at_one : (v u : View) (id : ℕ) → get_elem? (v ∷ []) id ≡ some u → v ≡ u
at_one v u zero e = some-injective v u e
at_one v u (suc id) e = absurd (some-ne-none u (sym e))

record Joined (words : List ℕ) (passes : ℕ) (log rw : List Entry) (v w : View) (b : Bool) : Type 0 where
  rest : List Entry
  owns : Owns words passes log rest (record v { seen = cond b w.seen v.seen; told = cond b v.seen w.seen })
  others : (kept : List (ℕ × List Entry)) → Agrees (opening words passes) w.seen rw kept → Agrees (opening words passes) (cond b w.seen v.seen) rest kept

-- a view that has taken the longer of two beginnings
joined : (words : List ℕ) (passes : ℕ) (log rv rw : List Entry) (v w : View) (b : Bool) → ltb (length v.seen) (length w.seen) ≡ b
    → Owns words passes log rv v → log ≡ w.seen ++ rw → Joined words passes log rw v w b
joined words passes log rv rw v w true b o there =
    let below : length v.seen < length w.seen = ltb-true (length v.seen) (length w.seen) b in
    let f : Front v.seen w.seen rv rw = front v.seen w.seen rv rw (sym o.sees.is ∙ there) (omega arith) in
    let further : Owns words passes log rw (record v { seen = v.seen ++ f.mid; told = v.seen }) =
    owns_further words passes log f.mid rw v (subst (λ (r : List Entry). Owns words passes log r v) f.rest o) in
    record {
      rest = rw;
      owns = subst (λ (es : List Entry). Owns words passes log rw (record v { seen = es; told = v.seen })) (sym f.is) further;
      others = λ kept a. a;
    }
joined words passes log rv rw v w false b o there =
    let above : length w.seen ≤ length v.seen = ltb-false (length v.seen) (length w.seen) b in
    let f : Front w.seen v.seen rw rv = front w.seen v.seen rw rv (sym there ∙ o.sees.is) above in
    record {
      rest = rv;
      owns = record {
        sees = record { start = o.sees.start; passes_are = o.sees.passes_are; is = o.sees.is; told = (f.mid, f.is) };
        had = o.had;
        none = o.none;
        mode = o.mode;
        kept = o.kept;
      };
      others = λ kept a. subst (λ (es : List Entry). Agrees (opening words passes) es rv kept) (sym f.is) (agrees_further (opening words passes) w.seen f.mid rv kept (subst (λ (r : List Entry). Agrees (opening words passes) w.seen r kept) f.rest a));
    }

-- a view that keeps other numbers
keeping : (words : List ℕ) (passes : ℕ) (log rest : List Entry) (v : View) (kept : List (ℕ × List Entry)) → Owns words passes log rest v → Agrees (opening words passes) v.seen rest kept → Owns words passes log rest (record v { kept = kept })
keeping words passes log rest v kept o a = record {
  sees = record { start = o.sees.start; passes_are = o.sees.passes_are; is = o.sees.is; told = o.sees.told };
  had = o.had;
  none = o.none;
  mode = o.mode;
  kept = a;
}

module _ (S : Shaping) (words : List ℕ) (passes : ℕ) where
  -- the rule of this region
  abbrev pub IsRuled : Table (Unit {0}) View → Type 0
  IsRuled s = IsOneJournal S words passes s.words s.views

  -- at the start there is one pass, which keeps all other numbers
  pub starts : S.IsImage words → length words ≤ 65536 → passes < 2 ^ 32 → 0 < passes → IsOneJournal S words passes (0 ∷ words) (first_view words passes ∷ [])
  starts image wide few some_of =
      let v : View = first_view words passes in
      record {
        log = [];
        journal = record { image = image; wide = wide; few = few; legal = tt };
        is = refl;
        fits = λ id u at. subst (λ (x : View). Fits words passes [] x) (at_one v u id at) (
          [],
          record {
            sees = record { start = refl; passes_are = refl; is = refl; told = ([], refl) };
            had = refl;
            none = refl;
            mode = idle_there words passes 0 some_of;
            kept = agrees_waiting words passes 1 (passes - 1) (omega arith);
          },
        );
        once = λ k.
            let first = next_below k 0 in
            let others : count k (numbers_from 1 (passes - 1)) + one_if (ltb k 1) ≡ one_if (ltb k (1 + (passes - 1))) = counts_waiting k 1 (passes - 1) in
            let all : one_if (ltb k (1 + (passes - 1))) ≡ one_if (ltb k passes) = ap (λ (m : ℕ). one_if (ltb k m)) (omega arith) in
            let none : one_if (ltb k 0) ≡ 0 = ap (λ (b : Bool). one_if b) (le-ltb k 0 (omega arith)) in
            omega arith;
      }

  -- a new view beside the others, and another one for its giver
  split : (s : Table (Unit {0}) View) (id : ℕ) (v left right : View) (kept : IsRuled s) → get_elem? s.views id ≡ some v → Fits words passes kept.log left → Fits words passes kept.log right
      → ((k : ℕ) → times_in k left + times_in k right ≡ times_in k v) → IsOneJournal S words passes s.words (set s.views id left ++ right ∷ [])
  split s id v left right kept at fits_left fits_right sum = record {
    log = kept.log;
    journal = kept.journal;
    is = kept.is;
    fits = λ j u there. ⊎_elim
        (λ (e : get_elem? (set s.views id left) j ≡ some u). ⊎_elim
        (λ (b : (j ≡ id) × (left ≡ u)). subst (λ (x : View). Fits words passes kept.log x) b.1 fits_left)
        (λ (b : (j ≢ id) × (get_elem? s.views j ≡ some u)). kept.fits j u b.1)
        (at_set s.views id j left u e))
        (λ (e : right ≡ u). subst (λ (x : View). Fits words passes kept.log x) e fits_right)
        (at_snoc (set s.views id left) right u j there);
    once = λ k.
        let snoc = total-snoc (times_in k) (set s.views id left) right in
        let sums = total-set (times_in k) s.views id v left at in
        let all = kept.once k in
        let both = sum k in
        omega arith;
  }

  -- a pass hands on the numbers that wait
  pub gives : (id number : ℕ) (x : ℕ × List Entry) (xs : List (ℕ × List Entry)) → let v : View = fresh_view words passes number (x ∷ xs) in Splits IsRuled id v (after_giving v) (next_pass v)
  gives id number x xs s kept at =
      let v : View = fresh_view words passes number (x ∷ xs) in
      let own_rest = numbered words passes kept.log v refl (kept.fits id v at) in
      let rest : List Entry = own_rest.0 in
      let o : Owns words passes kept.log rest v = own_rest.1 in
      let one : one_if (eqb x.0 x.0) ≡ 1 = counted x.0 in
      let below : x.0 < passes = kept_below passes s.views id x.0 v (kept.once x.0) at (omega arith) in
      split s id v (after_giving v) (next_pass v) kept at
      (rest, keeping words passes kept.log rest v [] o tt) (
        rest,
        record {
          sees = record { start = refl; passes_are = refl; is = o.sees.is; told = ([], refl) };
          had = refl;
          none = o.kept.1;
          mode = idle_there words passes x.0 below;
          kept = o.kept.3;
        },
      )
      (λ k. omega arith)

  -- a note has seen what its pass has seen
  pub notes : (id : ℕ) (v : View) → v.role ≡ Numbered → Splits IsRuled id v v (note_of v)
  notes id v is s kept at =
      let own_rest = numbered words passes kept.log v is (kept.fits id v at) in
      let o : Owns words passes kept.log own_rest.0 v = own_rest.1 in
      split s id v v (note_of v) kept at (kept.fits id v at)
      (own_rest.0, record { start = o.sees.start; passes_are = o.sees.passes_are; is = o.sees.is; told = (v.seen, refl) })
      (λ k. omega arith)

  -- two views become one, and the other is spent
  join : (s : Table (Unit {0}) View) (id other : ℕ) (v w both : View) (kept : IsRuled s) → get_elem? s.views id ≡ some v → other ≢ id → get_elem? (set s.views id both) other ≡ some w
      → Fits words passes kept.log both → ((k : ℕ) → times_in k both ≡ times_in k v + times_in k w) → IsOneJournal S words passes s.words (set (set s.views id both) other spent_view)
  join s id other v w both kept at differ there fits sum = record {
    log = kept.log;
    journal = kept.journal;
    is = kept.is;
    fits = λ j u here. ⊎_elim
        (λ (b : (j ≡ other) × (spent_view ≡ u)). subst (λ (x : View). Fits words passes kept.log x) b.1 tt)
        (λ (b : (j ≢ other) × (get_elem? (set s.views id both) j ≡ some u)). ⊎_elim
        (λ (c : (j ≡ id) × (both ≡ u)). subst (λ (x : View). Fits words passes kept.log x) c.1 fits)
        (λ (c : (j ≢ id) × (get_elem? s.views j ≡ some u)). kept.fits j u c.1)
        (at_set s.views id j both u b.1))
        (at_set (set s.views id both) other j spent_view u here);
    once = λ k.
        let first = total-set (times_in k) s.views id v both at in
        let second = total-set (times_in k) (set s.views id both) other w spent_view there in
        let all = kept.once k in
        let whole = sum k in
        let none : times_in k spent_view ≡ 0 = refl in
        omega arith;
  }

  -- a pass learns what a note has seen
  pub learns : (id other : ℕ) (v w : View) → v.role ≡ Numbered → w.role ≡ Copied → Joins IsRuled id v other w (after_learning v w) spent_view
  learns id other v w is copied s kept at differ there =
      let there' : get_elem? s.views other ≡ some w = sym (set_else s.views id other (after_learning v w) differ) ∙ there in
      let own_rest = numbered words passes kept.log v is (kept.fits id v at) in
      let sees = subst (λ (r : Role). fits_as r words passes kept.log w) copied (kept.fits other w there') in
      let j : Joined words passes kept.log sees.0 v w (ltb (length v.seen) (length w.seen)) =
      joined words passes kept.log own_rest.0 sees.0 v w (ltb (length v.seen) (length w.seen)) refl own_rest.1 sees.1.is in
      join s id other v w (after_learning v w) kept at differ there
      (subst (λ (r : Role). fits_as r words passes kept.log (after_learning v w)) (sym is) (j.rest, j.owns))
      (λ k. let none : times_in k w ≡ 0 = ap (λ (r : Role). times_in_as r k w.number w.kept) copied in let same : times_in k (after_learning v w) ≡ times_in k v = refl in omega arith)

  -- a pass ends another one, and keeps its entries
  pub gathers : (id other : ℕ) (v w : View) → v.role ≡ Numbered → w.role ≡ Numbered → w.mode ≡ Idle → Joins IsRuled id v other w (after_gathering v w) spent_view
  gathers id other v w is ended idle s kept at differ there =
      let there' : get_elem? s.views other ≡ some w = sym (set_else s.views id other (after_gathering v w) differ) ∙ there in
      let own_rest = numbered words passes kept.log v is (kept.fits id v at) in
      let its_rest = numbered words passes kept.log w ended (kept.fits other w there') in
      let o : Owns words passes kept.log its_rest.0 w = its_rest.1 in
      let b : Bool = ltb (length v.seen) (length w.seen) in
      let j : Joined words passes kept.log its_rest.0 v w b = joined words passes kept.log own_rest.0 its_rest.0 v w b refl own_rest.1 o.sees.is in
      let resting : IsIn Idle (state (opening words passes) w.seen) w.number =
      subst (λ (t : State). IsIn Idle t w.number) (λ i. state (opening (o.sees.start i) (o.sees.passes_are i)) w.seen) (subst (λ (m : Mode). IsIn m (now w) w.number) idle o.mode) in
      let its : Agrees (opening words passes) (cond b w.seen v.seen) j.rest ((w.number, w.own) ∷ w.kept) = j.others ((w.number, w.own) ∷ w.kept) (o.had, o.none, resting, o.kept) in
      join s id other v w (after_gathering v w) kept at differ there
      (subst (λ (r : Role). fits_as r words passes kept.log (after_gathering v w)) (sym is) (
        j.rest,
        keeping words passes kept.log j.rest (after_learning v w) ((w.number, w.own) ∷ (w.kept ++ v.kept)) j.owns
            (its.0, its.1, its.2, agrees_both (opening words passes) (cond b w.seen v.seen) j.rest w.kept v.kept its.3 j.owns.kept),
      ))
      (λ k.
      let mine : times_in k v ≡ one_if (eqb v.number k) + count k v.kept = ap (λ (r : Role). times_in_as r k v.number v.kept) is in
      let theirs : times_in k w ≡ one_if (eqb w.number k) + count k w.kept = ap (λ (r : Role). times_in_as r k w.number w.kept) ended in
      let whole : times_in k (after_gathering v w) ≡ one_if (eqb v.number k) + (one_if (eqb w.number k) + count k (w.kept ++ v.kept)) = ap (λ (r : Role). times_in_as r k v.number ((w.number, w.own) ∷ (w.kept ++ v.kept))) is in
      let lists = count-append k w.kept v.kept in
      omega arith)

  -- a look at the table tells a pass what the rule says of its own view
  pub looks : (slots id : ℕ) (v : View) (c : List (ℕ × Unit {0})) → v.role ≡ Numbered → Allows IsRuled slots id (v, c) 0 (λ n. n) (λ n me. (me ≡ (v, c)) × Knows S v)
  looks slots id v c is s kept wide at small =
      let own_rest = numbered words passes kept.log v is (kept.fits id v at) in
      let o : Owns words passes kept.log own_rest.0 v = own_rest.1 in
      let start : words ≡ v.start = sym o.sees.start in
      let count_is : passes ≡ v.passes = sym o.sees.passes_are in
      let seen : IsJournal S words passes v.seen = record {
        image = kept.journal.image;
        wide = kept.journal.wide;
        few = kept.journal.few;
        legal = legal-front S (opening words passes) v.seen own_rest.0 (subst (λ (es : List Entry). IsLegal S (opening words passes) es) o.sees.is kept.journal.legal);
      } in
      let same : IsOneJournal S words passes (set s.words 0 (slice_index s.words 0)) (set s.views id v) =
      subst (λ (xs : List ℕ). IsOneJournal S words passes xs (set s.views id v)) (sym (set-get_or s.words 0 0))
      (subst (λ (us : List View). IsOneJournal S words passes s.words us) (sym (set_again s.views id v at)) kept) in (
        v,
        keeps,
        tt,
        same,
        (
          refl,
          record {
            journal = subst (λ (n : ℕ). IsJournal S v.start n v.seen) count_is (subst (λ (ws : List ℕ). IsJournal S ws passes v.seen) start seen);
            told = o.sees.told;
            had = o.had;
            mode = o.mode;
            lists = lists_of (opening words passes) v.seen own_rest.0 v.kept o.kept;
            idle = subst (λ (t : State). AreIdle t v.kept) (λ i. state (opening (start i) (count_is i)) v.seen) (idle_of (opening words passes) v.seen own_rest.0 v.kept o.kept);
          },
        ),
      )

-- the first of the numbers that wait, and those after it
pub waiting_next : (k m p : ℕ) → m ≡ k + 1 → k < p → numbers_from k (p - k) ≡ (k, []) ∷ numbers_from m (p - m)
waiting_next k m p next below =
    let more : p - k ≡ suc (p - m) = omega arith in
    let after : suc k ≡ m = omega arith in
    ap (λ (n : ℕ). numbers_from k n) more ∙ ap (λ (j : ℕ). (k, []) ∷ numbers_from j (p - m)) after
