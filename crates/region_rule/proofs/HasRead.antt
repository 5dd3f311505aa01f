-- A reading under way goes on over loads and over what it learns, and shows or is refused at its end.
use Rattle.std.proofs.Common.{◌≡◌, ◌≢◌, ℕ, ◌+◌, ◌<◌, ◌≤◌, List, [], ◌∷◌, ◌++◌, All, length, get_or, length-append, sym, ap, ◌∙◌, subst, arith}
use Rattle.std.proofs.lemmas.List.Elements.{All-push}
use Rattle.region_core.specs.declared.act.Act.TheVariants.{Load}
use Rattle.region_core.specs.declared.act.Entry.{Entry}
use Rattle.region_core.specs.Shape.{Shaping, IsShape}
use Rattle.region_core.specs.State.{State, word, g1, g2, opening}
use Rattle.region_core.specs.Journal.{state_at, IsJournal}
use Rattle.region_core.specs.Readings.{LoadsAt, IsFoundBetween, HasLayout}
use Rattle.region_core.proofs.Lasting.{state_longer, loads_longer, found_longer}
use Rattle.region_core.proofs.Positions.{layout_at}
use Rattle.region_rule.specs.declared.view.View.{View}
use Rattle.region_rule.specs.Views.{opening_of}
use Rattle.region_rule.specs.Steps.{Extends}
use Rattle.region_rule.specs.Calls.{Learns}
use Rattle.region_rule.specs.Reads.{HasRead, ShowsIn, RefusedIn}
use Rattle.region_rule.proofs.Showing.{Spot, Follows, follows_step, spot_step}

-- what a pass learned goes on from what it had seen
follows_learning : (S : Shaping) (v w new : View) → Learns S v w new → Follows v new
follows_learning S v w new l = record {
  number = ap (λ (x : View). x.number) l.is;
  start = ap (λ (x : View). x.start) l.is;
  passes = ap (λ (x : View). x.passes) l.is;
  seen = l.mine;
}

module _ (S : Shaping) where
  has_further : (v u w : View) (first : ℕ) (found : List (ℕ × ℕ)) → HasRead S v first found u → Follows u w → HasRead S v first found w
  has_further v u w first found h f =
      let more : List Entry = f.seen.0 in
      let wide : length w.seen ≡ length u.seen + length more = ap length f.seen.1 ∙ length-append u.seen more in
      let below = h.before in
      record {
        number = f.number ∙ h.number;
        start = f.start ∙ h.start;
        passes = f.passes ∙ h.passes;
        at = h.at;
        since = h.since;
        before = omega arith;
        opens = subst (λ (es : List Entry). LoadsAt es v.number h.at 2) (sym f.seen.1) (loads_longer u.seen more v.number h.at 2 h.opens);
        first_is = h.first_is ∙ ap (λ (s : State). g2 s) (sym (state_longer (opening_of v) u.seen more h.at (omega arith))) ∙ ap (λ (es : List Entry). g2 (state_at (opening_of v) es h.at)) (sym f.seen.1);
        each = λ i d b. let x : ℕ × ℕ = get_or found i d in
            subst (λ (es : List Entry). IsFoundBetween S (opening_of v) es v.number h.at (length w.seen) x) (sym f.seen.1)
            (found_longer S (opening_of v) u.seen more v.number h.at (length u.seen) (length w.seen) x (omega arith) (h.each i d b));
      }

  -- the first load begins a reading
  pub has_begun : (v w : View) (first : ℕ) → Extends S v (Load 2) first w → HasRead S v first [] w
  has_begun v w first e =
      let f : Follows v w = follows_step S v w (Load 2) first e in
      let s : Spot (opening_of v) w.seen v.number (length v.seen) 2 first = spot_step S v w 2 first e in
      record { number = f.number; start = f.start; passes = f.passes; at = s.at; since = s.since; before = s.before; opens = s.loads; first_is = s.found; each = λ i d b. absurd (omega arith) }

  -- a load is one word more
  pub has_more : (v u w : View) (first i n : ℕ) (found : List (ℕ × ℕ)) → HasRead S v first found u → Extends S u (Load i) n w → HasRead S v first (found ++ (i, n) ∷ []) w
  unfolding has_further
  has_more v u w first i n found h e =
      let further : HasRead S v first found w = has_further v u w first found h (follows_step S u w (Load i) n e) in
      let s : Spot (opening_of u) w.seen u.number (length u.seen) i n = spot_step S u w i n e in
      let before = h.before in
      let since = s.since in
      let one : IsFoundBetween S (opening_of v) w.seen v.number h.at (length w.seen) (i, n) = (
        s.at,
        omega arith,
        s.before,
        subst (λ (k : ℕ). LoadsAt w.seen k s.at i) h.number s.loads,
        s.found ∙ (λ j. word (state_at (opening (h.start j) (h.passes j)) w.seen s.at) i),
      ) in
      record {
        number = further.number;
        start = further.start;
        passes = further.passes;
        at = h.at;
        since = further.since;
        before = further.before;
        opens = further.opens;
        first_is = further.first_is;
        each = All-push (λ (x : ℕ × ℕ). IsFoundBetween S (opening_of v) w.seen v.number h.at (length w.seen) x) found (i, n) further.each one;
      }

  -- what the pass learns leaves it as it is
  pub has_learned : (v u note w : View) (first : ℕ) (found : List (ℕ × ℕ)) → HasRead S v first found u → Learns S u note w → HasRead S v first found w
  has_learned v u note w first found h l = has_further v u w first found h (follows_learning S u note w l)

  -- where its loads stand, once it has ended
  record Closed (v w : View) (first : ℕ) (found : List (ℕ × ℕ)) (last : ℕ) : Type 0 where
    p : ℕ
    q : ℕ
    since : length v.seen ≤ p
    order : p < q
    opens : LoadsAt w.seen v.number p 2
    closes : LoadsAt w.seen v.number q 1
    first_is : first ≡ g2 (state_at (opening_of v) w.seen p)
    last_is : last ≡ g1 (state_at (opening_of v) w.seen q)
    each : All (IsFoundBetween S (opening_of v) w.seen v.number p q) found
    journal : IsJournal S v.start v.passes w.seen

  closed : (v u w : View) (first last : ℕ) (found : List (ℕ × ℕ)) → HasRead S v first found u → Extends S u (Load 1) last w → Closed v w first found last
  unfolding has_further
  closed v u w first last found h e =
      let f : Follows u w = follows_step S u w (Load 1) last e in
      let more : List Entry = f.seen.0 in
      let further : HasRead S v first found w = has_further v u w first found h f in
      let s : Spot (opening_of u) w.seen u.number (length u.seen) 1 last = spot_step S u w 1 last e in
      let before = h.before in
      let since = s.since in
      record {
        p = h.at;
        q = s.at;
        since = h.since;
        order = omega arith;
        opens = further.opens;
        closes = subst (λ (k : ℕ). LoadsAt w.seen k s.at 1) h.number s.loads;
        first_is = further.first_is;
        last_is = s.found ∙ (λ j. word (state_at (opening (h.start j) (h.passes j)) w.seen s.at) 1);
        each = λ i d b. let x : ℕ × ℕ = get_or found i d in
            subst (λ (es : List Entry). IsFoundBetween S (opening_of v) es v.number h.at s.at x) (sym f.seen.1)
            (found_longer S (opening_of v) u.seen more v.number h.at (length u.seen) s.at x since (h.each i d b));
        journal = subst (λ (n : ℕ). IsJournal S v.start n w.seen) h.passes (subst (λ (ws : List ℕ). IsJournal S ws u.passes w.seen) h.start
            (subst (λ (es : List Entry). IsJournal S u.start u.passes es) (sym (ap (λ (x : View). x.seen) e.is)) e.journal));
      }

  -- one that found two numbers was refused
  pub has_refused : (v u w : View) (first last : ℕ) (found : List (ℕ × ℕ)) → HasRead S v first found u → Extends S u (Load 1) last w → first ≢ last → RefusedIn v first last w
  has_refused v u w first last found h e differ =
      let t = closed v u w first last found h e in
      (t.p, t.q, record { since = t.since; order = t.order; opens = t.opens; closes = t.closes; first_is = t.first_is; last_is = t.last_is; differ = differ })

  -- and one that found one number is shown
  pub has_shown : IsShape S → (v u w : View) (first last : ℕ) (found : List (ℕ × ℕ)) → HasRead S v first found u → Extends S u (Load 1) last w → first ≡ last
      → (form : S.Form) × ShowsIn S v (record { generation = first; form = form; found = found }) w
  has_shown laws v u w first last found h e same =
      let t = closed v u w first last found h e in
      let one : g2 (state_at (opening_of v) w.seen t.p) ≡ g1 (state_at (opening_of v) w.seen t.q) = sym t.first_is ∙ same ∙ t.last_is in
      let form : S.Form = S.form (state_at (opening_of v) w.seen t.p).words in (
        form,
        (
          t.p,
          t.q,
          record {
            since = t.since;
            order = t.order;
            opens = t.opens;
            closes = t.closes;
            each = t.each;
            stretch = λ k after before. subst (λ (n : ℕ). HasLayout S (state_at (opening_of v) w.seen k) n form) (sym t.first_is) (layout_at S laws v.start v.passes w.seen t.journal t.p k t.q after before one);
          },
        ),
      )
