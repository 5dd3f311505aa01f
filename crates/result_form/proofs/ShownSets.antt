-- The sets that reading finds are those that are shown.
use Rattle.std.proofs.Common.{◌≡◌, ℕ, ℤ, zero, suc, ◌+◌, ◌*◌, ◌<◌, ◌≤◌, Bool, true, false, cond, eqb, List, [], ◌∷◌, length, drop, Result, Ok, refl, sym, ap, ◌∙◌, subst, arith, inl, inr}
use Rattle.std.specs.Int.{w32, cast_signed}
use Rattle.std.proofs.lemmas.Bool.{cases_lt, eq-eqb, ne_eqb}
use Rattle.std.proofs.lemmas.List.{drop-drop}
use Rattle.pcp_base.specs.Fields.{number_at}
use Rattle.pcp_base.specs.Typed.{TypedBytes}
use Rattle.pcp_base.specs.declared.result.Body.{Body}
use Rattle.pcp_base.specs.declared.result.Body.TheVariants as bodies
use Rattle.pcp_base.specs.declared.result.ValueSet.{ValueSet}
use Rattle.result_form.specs.declared.fault.FormFault.{FormFault}
use Rattle.result_form.specs.Counts.{Counted}
use Rattle.result_form.specs.Decoding.{◌>>=◌, counted_at, values_from, blocks_from, body_of, set_at, set_end, sets_from}
use Rattle.result_form.specs.Faults.{IsStatus, HasMode, pairs_end, SetStands, SetsStand}
use Rattle.result_form.proofs.Again.{low_test, high_test}
use Rattle.result_form.proofs.FaultRules.{word_stands, counts_in_place, run_made}
use Rattle.result_form.proofs.FaultsFound.{a_set, from_counted, in_blocks, at_status, at_blocks, set_ends}
use Rattle.result_form.proofs.Spans.{bind_ok, ok_is}
use Rattle.result_form.specs.Shown.{word_in, is_status, shown_values, shown_blocks, shown_body, shown_set, set_size, shown_sets}
use Rattle.result_form.proofs.ShownWords.{word_left}
use Rattle.result_form.proofs.ShownPairs.{values_are, blocks_are}

-- ---- values in place, as reading finds them

set_from : (bytes : List ℕ) (end at before : ℕ) (c : Counted) → at + 4 ≤ length bytes → counted_at bytes (at + 4) ≡ Ok c → set_at bytes end before at ≡ from_counted bytes end before (number_at bytes at) (Ok c)
unfolding set_at
set_from bytes end at before c h e =
    ap (λ r. r >>= λ pmid. from_counted bytes end before pmid (counted_at bytes (at + 4))) (word_stands bytes at h)
    ∙ ap (λ r. from_counted bytes end before (number_at bytes at) r) e

abbrev with_body : ℕ → Result (Body × ℕ) FormFault → Result (ValueSet × ℕ) FormFault
with_body pmid r = r >>= λ content. Ok (a_set pmid content.0, content.1)

abbrev in_place : ℕ → List (ℤ × ℕ) → Result (Body × ℕ) FormFault
in_place before pairs = Ok (bodies.InPlace pairs, before)

abbrev with_values : ℕ → ℕ → Result (List (ℤ × ℕ)) FormFault → Result (ValueSet × ℕ) FormFault
with_values pmid before r = with_body pmid (r >>= in_place before)

abbrev in_their_blocks : List (ℤ × TypedBytes) × ℕ → Result (Body × ℕ) FormFault
in_their_blocks pairs = Ok (bodies.Blocks pairs.0, pairs.1)

abbrev with_pmid : ℕ → Body × ℕ → Result (ValueSet × ℕ) FormFault
with_pmid pmid content = Ok (a_set pmid content.0, content.1)

pub at_place : (bytes : List ℕ) (end at before : ℕ) → HasMode bytes at → pairs_end bytes at ≤ length bytes → number_at bytes (at + 8) ≡ 0
    → set_at bytes end before at ≡ Ok (a_set (number_at bytes at) (bodies.InPlace (shown_values (number_at bytes (at + 4)) (drop (at + 12) bytes))), before)
unfolding body_of
at_place bytes end at before m whole e =
    let room : at + 12 ≤ length bytes = m.1 in
    let from : at + 4 + 4 + 4 ≡ at + 12 = omega arith in
    set_from bytes end at before (Counted.InPlace (run_made bytes at (number_at bytes (at + 4)))) (omega arith) (counts_in_place bytes at m.0 m.1 e)
    ∙ ap (λ k. with_values (number_at bytes at) before (values_from bytes (number_at bytes (at + 4)) k)) from
    ∙ ap (with_values (number_at bytes at) before) (values_are bytes (number_at bytes (at + 4)) (at + 12) whole)

-- ---- what is shown, by the words that stand

module _ (bytes : List ℕ) (at : ℕ) where
  pmid_is : at + 4 ≤ length bytes → word_in (drop at bytes) 0 ≡ number_at bytes at
  pmid_is h = word_left bytes at 0 at (omega arith) h

  count_is : at + 8 ≤ length bytes → word_in (drop at bytes) 4 ≡ number_at bytes (at + 4)
  count_is h = word_left bytes at 4 (at + 4) refl (omega arith)

  mode_is : at + 12 ≤ length bytes → word_in (drop at bytes) 8 ≡ number_at bytes (at + 8)
  mode_is h = word_left bytes at 8 (at + 8) refl (omega arith)

  abbrev content : Bool → ℕ → Bool → List ℕ → Body
  content low n first pairs = cond low (bodies.Status (cast_signed w32 n)) (cond first (bodies.InPlace (shown_values n pairs)) (bodies.Blocks (shown_blocks bytes n pairs)))

  body_is : (n mode : ℕ) → word_in (drop at bytes) 4 ≡ n → word_in (drop at bytes) 8 ≡ mode → shown_body bytes (drop at bytes) ≡ content (is_status n) n (eqb mode 0) (drop (at + 12) bytes)
  unfolding shown_body
  body_is n mode e f =
      ap (λ k. content (is_status k) k (eqb (word_in (drop at bytes) 8) 0) (drop 12 (drop at bytes))) e
      ∙ ap (λ m. content (is_status n) n (eqb m 0) (drop 12 (drop at bytes))) f
      ∙ ap (content (is_status n) n (eqb mode 0)) (drop-drop 12 at bytes)

  size_is : (n : ℕ) → word_in (drop at bytes) 4 ≡ n → set_size (drop at bytes) ≡ cond (is_status n) 8 (12 + 8 * n)
  unfolding set_size
  size_is n e = ap (λ k. cond (is_status k) 8 (12 + 8 * k)) e

  shown_is : (pmid : ℕ) (body : Body) → word_in (drop at bytes) 0 ≡ pmid → shown_body bytes (drop at bytes) ≡ body → shown_set bytes (drop at bytes) ≡ a_set pmid body
  shown_is pmid body e f = ap (λ p. a_set p (shown_body bytes (drop at bytes))) e ∙ ap (a_set pmid) f

-- what a set that stands shows, and where it ends
pub record SetIs (bytes : List ℕ) (at next : ℕ) (set : ValueSet) : Type 0 where
  pub shown : shown_set bytes (drop at bytes) ≡ set
  pub size : next ≡ at + set_size (drop at bytes)

module _ (bytes : List ℕ) (end at before next : ℕ) (x : ValueSet × ℕ) (e : set_at bytes end before at ≡ Ok x) where
  status_is : next ≡ at + 8 → at + 8 ≤ length bytes → IsStatus (number_at bytes (at + 4)) → SetIs bytes at next x.0
  status_is step h s =
      let n : ℕ = number_at bytes (at + 4) in
      let low : is_status n ≡ true = low_test n s in
      let body : shown_body bytes (drop at bytes) ≡ bodies.Status (cast_signed w32 n) =
      body_is bytes at n (word_in (drop at bytes) 8) (count_is bytes at h) refl ∙ ap (λ b. content bytes at b n (eqb (word_in (drop at bytes) 8) 0) (drop (at + 12) bytes)) low in
      let size : set_size (drop at bytes) ≡ 8 = size_is bytes at n (count_is bytes at h) ∙ ap (λ b. cond b 8 (12 + 8 * n)) low in
      let found : a_set (number_at bytes at) (bodies.Status (cast_signed w32 n)) ≡ x.0 = ap (λ y. y.0) (ok_is (a_set (number_at bytes at) (bodies.Status (cast_signed w32 n)), before) x (sym (at_status bytes end at before h s) ∙ e)) in
      record { shown = shown_is bytes at (number_at bytes at) (bodies.Status (cast_signed w32 n)) (pmid_is bytes at (omega arith)) body ∙ found; size = omega (arith, size) }

  pairs_size : HasMode bytes at → set_size (drop at bytes) ≡ 12 + 8 * number_at bytes (at + 4)
  pairs_size m =
      let n : ℕ = number_at bytes (at + 4) in
      let room : at + 12 ≤ length bytes = m.1 in
      size_is bytes at n (count_is bytes at (omega arith)) ∙ ap (λ b. cond b 8 (12 + 8 * n)) (high_test n m.0.1 m.0.2)

  pairs_body : (first : Bool) → HasMode bytes at → eqb (number_at bytes (at + 8)) 0 ≡ first → shown_body bytes (drop at bytes) ≡ content bytes at false (number_at bytes (at + 4)) first (drop (at + 12) bytes)
  pairs_body first m f =
      let n : ℕ = number_at bytes (at + 4) in
      let room : at + 12 ≤ length bytes = m.1 in
      body_is bytes at n (number_at bytes (at + 8)) (count_is bytes at (omega arith)) (mode_is bytes at room)
      ∙ ap (λ b. content bytes at b n (eqb (number_at bytes (at + 8)) 0) (drop (at + 12) bytes)) (high_test n m.0.1 m.0.2)
      ∙ ap (λ b. content bytes at false n b (drop (at + 12) bytes)) f

  place_is : next ≡ pairs_end bytes at → HasMode bytes at → pairs_end bytes at ≤ length bytes → number_at bytes (at + 8) ≡ 0 → SetIs bytes at next x.0
  place_is step m whole zero_ =
      let n : ℕ = number_at bytes (at + 4) in
      let room : at + 12 ≤ length bytes = m.1 in
      let held : Body = bodies.InPlace (shown_values n (drop (at + 12) bytes)) in
      let found : a_set (number_at bytes at) held ≡ x.0 = ap (λ y. y.0) (ok_is (a_set (number_at bytes at) held, before) x (sym (at_place bytes end at before m whole zero_) ∙ e)) in
      record {
        shown = shown_is bytes at (number_at bytes at) held (pmid_is bytes at (omega arith)) (pairs_body true m (eq-eqb (number_at bytes (at + 8)) 0 zero_)) ∙ found;
        size = omega (arith, pairs_size m);
      }

  block_is : next ≡ pairs_end bytes at → HasMode bytes at → pairs_end bytes at ≤ length bytes → number_at bytes (at + 8) ≡ 1 → SetIs bytes at next x.0
  block_is step m whole one =
      let n : ℕ = number_at bytes (at + 4) in
      let room : at + 12 ≤ length bytes = m.1 in
      let r : Result (List (ℤ × TypedBytes) × ℕ) FormFault = blocks_from bytes end before n (at + 12) in
      let all : in_blocks (number_at bytes at) r ≡ Ok x = sym (at_blocks bytes end at before m one) ∙ e in
      let a = bind_ok (r >>= in_their_blocks) (with_pmid (number_at bytes at)) x all in
      let b = bind_ok r in_their_blocks a.0 a.1 in
      let pairs : shown_blocks bytes n (drop (at + 12) bytes) ≡ b.0.0 = sym (blocks_are bytes end before n (at + 12) b.0 whole b.1) in
      let held : bodies.Blocks b.0.0 ≡ a.0.0 = ap (λ y. y.0) (ok_is (bodies.Blocks b.0.0, b.0.1) a.0 b.2) in
      let found : a_set (number_at bytes at) a.0.0 ≡ x.0 = ap (λ y. y.0) (ok_is (a_set (number_at bytes at) a.0.0, a.0.1) x a.2) in
      let body : shown_body bytes (drop at bytes) ≡ a.0.0 = pairs_body false m (ne_eqb (number_at bytes (at + 8)) 0 (λ (h : number_at bytes (at + 8) ≡ 0). omega arith)) ∙ ap (λ t. bodies.Blocks t) pairs ∙ held in
      record {
        shown = shown_is bytes at (number_at bytes at) a.0.0 (pmid_is bytes at (omega arith)) body ∙ found;
        size = omega (arith, pairs_size m);
      }

  set_is : SetStands bytes at next → SetIs bytes at next x.0
  set_is (inl s) = status_is s.0 s.1 s.2
  set_is (inr p) =
      let low : number_at bytes (at + 8) < 2 = p.1.2 in
      elim (cases_lt (number_at bytes (at + 8)) 1) [
        | inl none ↦ place_is p.0 p.1 p.2 (omega arith)
        | inr one ↦ block_is p.0 p.1 p.2 (omega arith)
      ]

pub sets_are : (bytes : List ℕ) (end before n at stop : ℕ) (x : List ValueSet × ℕ) → SetsStand bytes n at stop → sets_from bytes end before n at ≡ Ok x → x.0 ≡ shown_sets bytes n (drop at bytes)
unfolding sets_from shown_sets
sets_are bytes end before zero at stop x all e = ap (λ y. y.0) (sym (ok_is ([], before) x e))
sets_are bytes end before (suc n) at stop x all e =
    let a = bind_ok (set_at bytes end before at) (λ first. set_end bytes at >>= λ next. sets_from bytes end first.1 n next >>= λ others. Ok (first.0 ∷ others.0, others.1)) x e in
    let b = bind_ok (set_end bytes at) (λ next. sets_from bytes end a.0.1 n next >>= λ others. Ok (a.0.0 ∷ others.0, others.1)) x a.2 in
    let c = bind_ok (sets_from bytes end a.0.1 n b.0) (λ others. Ok (a.0.0 ∷ others.0, others.1)) x b.2 in
    let next : all.0 ≡ b.0 = ok_is all.0 b.0 (sym (set_ends bytes at all.0 all.1) ∙ b.1) in
    let s = set_is bytes end at before all.0 a.0 a.1 all.1 in
    let more : c.0.0 ≡ shown_sets bytes n (drop b.0 bytes) = sets_are bytes end a.0.1 n b.0 stop c.0 (subst (λ k. SetsStand bytes n k stop) next all.2) c.1 in
    let step : at + set_size (drop at bytes) ≡ b.0 = sym s.size ∙ next in
    let left : drop (set_size (drop at bytes)) (drop at bytes) ≡ drop b.0 bytes = drop-drop (set_size (drop at bytes)) at bytes ∙ ap (λ k. drop k bytes) step in
    ap (λ y. y.0) (sym (ok_is (a.0.0 ∷ c.0.0, c.0.1) x c.2))
    ∙ ap (λ t. a.0.0 ∷ t) (more ∙ ap (shown_sets bytes n) (sym left))
    ∙ ap (λ t. t ∷ shown_sets bytes n (drop (set_size (drop at bytes)) (drop at bytes))) (sym s.shown)
