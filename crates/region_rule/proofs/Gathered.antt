-- What a pass that has gathered every other one reads: the last state.
use Rattle.std.proofs.Common.{◌≡◌, ℕ, zero, suc, ◌+◌, ◌<◌, Bool, true, false, List, [], ◌∷◌, ◌++◌, All, length, get_or, slice_index, eqb, eqb-true, ext_get_or, append-nil, sym, refl, ap, ◌∙◌, subst, arith}
use Rattle.region_core.specs.declared.act.Act.TheVariants.{Load}
use Rattle.region_core.specs.declared.act.Entry.{Entry}
use Rattle.region_core.specs.declared.mode.Mode.TheVariants.{Idle}
use Rattle.region_core.specs.Shape.{Shaping}
use Rattle.region_core.specs.State.{State, word, g1, IsIn}
use Rattle.region_core.specs.Journal.{state}
use Rattle.region_core.proofs.Runs.{wide_run}
use Rattle.region_rule.specs.declared.view.View.{View}
use Rattle.region_rule.specs.Views.{opening_of, now, one_if, count}
use Rattle.region_rule.specs.Steps.{Extends}
use Rattle.region_rule.specs.Tokens.{AreIdle, IsLast}
use Rattle.region_rule.specs.Reads.{Reads, numbered_from, WholeReading}
use Rattle.region_rule.specs.Laws.{ReadsLast}
use Rattle.region_rule.proofs.Showing.{numbered_or, length-numbered}
use Rattle.region_rule.proofs.Relaying.{now_after}
use Rattle.region_rule.proofs.Lawful.{sees_all}

-- the pass of a number that is kept is idle
pub idle_in : (s : State) (j : ℕ) (kept : List (ℕ × List Entry)) → AreIdle s kept → 0 < count j kept → IsIn Idle s j
idle_in s j [] h some_of = absurd (omega arith)
idle_in s j (x ∷ xs) h some_of = by_test (eqb x.0 j) refl (λ more. idle_in s j xs h.1 more)
  where
    by_test : (b : Bool) → eqb x.0 j ≡ b → (0 < count j xs → IsIn Idle s j) → IsIn Idle s j
    by_test true e rest = subst (λ (k : ℕ). IsIn Idle s k) (eqb-true x.0 j e) h.0
    by_test false e rest = let none : one_if (eqb x.0 j) ≡ 0 = ap (λ (b : Bool). one_if b) e in rest (omega arith)

module _ (S : Shaping) where
  record Loaded (v u : View) (i n : ℕ) : Type 0 where
    same : now u ≡ now v
    found : n ≡ word (now v) i
    last : IsLast u

  -- one load
  loaded : (v u : View) (i n : ℕ) → Extends S v (Load i) n u → IsLast v → Loaded v u i n
  loaded v u i n e last =
      let none : e.between ≡ [] = sees_all S v u (Load i) n e last in
      let here : state (opening_of v) (v.seen ++ e.between) ≡ now v = ap (λ (es : List Entry). state (opening_of v) (v.seen ++ es)) none ∙ ap (λ (es : List Entry). state (opening_of v) es) (append-nil v.seen) in
      record {
        same = now_after S v u (Load i) n e ∙ here;
        found = e.found ∙ ap (λ (s : State). word s i) here;
        last = subst (λ (x : View). IsLast x) (sym e.is) last;
      }

  record Row (v w : View) (found : List (ℕ × ℕ)) : Type 0 where
    same : now w ≡ now v
    each : All (λ (x : ℕ × ℕ). x.1 ≡ word (now v) x.0) found
    last : IsLast w

  -- a row of them
  row : (v w : View) (found : List (ℕ × ℕ)) → Reads S v found w → IsLast v → Row v w found
  row v w [] r last = record { same = ap (λ (x : View). now x) r; each = λ i d b. absurd (omega arith); last = subst (λ (x : View). IsLast x) (sym r) last }
  row v w (x ∷ xs) r last =
      let one : Loaded v r.0 x.0 x.1 = loaded v r.0 x.0 x.1 r.1 last in
      let rest : Row r.0 w xs = row r.0 w xs r.2 one.last in
      record { same = rest.same ∙ one.same; each = each one rest; last = rest.last }
    where
      each : Loaded v r.0 x.0 x.1 → Row r.0 w xs → (k : ℕ) (d : ℕ × ℕ) → k < length (x ∷ xs) → (get_or (x ∷ xs) k d).1 ≡ word (now v) (get_or (x ∷ xs) k d).0
      each one rest zero d h = one.found
      each one rest (suc k) d h = rest.each k d (omega arith) ∙ ap (λ (s : State). word s (get_or xs k d).0) one.same

  pub reads_last : (v w : View) (first last : ℕ) (found : List (ℕ × ℕ)) → WholeReading S v first found last w → IsLast v → ReadsLast v w first found last
  reads_last v w first last found r gathered =
      let a : Loaded v r.begun 2 first = loaded v r.begun 2 first r.opens gathered in
      let b : Row r.begun r.ended found = row r.begun r.ended found r.each a.last in
      let c : Loaded r.ended w 1 last = loaded r.ended w 1 last r.closes b.last in
      let same : now r.ended ≡ now v = b.same ∙ a.same in
      record {
        first_is = a.found;
        last_is = c.found ∙ ap (λ (s : State). g1 s) same;
        each = λ k d h. b.each k d h ∙ ap (λ (s : State). word s (get_or found k d).0) a.same;
        same = c.same ∙ same;
        still_last = c.last;
      }

  pub reads_words : (v w : View) (first last : ℕ) (words : List ℕ) → WholeReading S v first (numbered_from 0 words) last w → IsLast v → length words ≡ length v.start → words ≡ (now v).words
  reads_words v w first last words r gathered wide =
      let all : ReadsLast v w first (numbered_from 0 words) last = reads_last v w first last (numbered_from 0 words) r gathered in
      let long : length (now v).words ≡ length v.start = wide_run (opening_of v) v.seen in
      let count_is = length-numbered 0 words in
      ext_get_or 0 words (now v).words (wide ∙ sym long) (λ i h.
      let x : get_or (numbered_from 0 words) i (0, 0) ≡ (0 + i, slice_index words i) = numbered_or 0 words i (0, 0) h in
      let here = all.each i (0, 0) (omega arith) in
      let zero_is : 0 + i ≡ i = omega arith in
      sym (ap (λ (y : ℕ × ℕ). y.1) x) ∙ here ∙ ap (λ (y : ℕ × ℕ). word (now v) y.0) x ∙ ap (λ (k : ℕ). word (now v) k) zero_is)
