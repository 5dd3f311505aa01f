-- Sets: what is read stands so, and what stands so is read.
use Rattle.std.proofs.Common.{◌≡◌, ℕ, ℤ, zero, suc, ◌+◌, ◌-◌, ◌*◌, ◌/◌, ◌<◌, ◌≤◌, Bool, true, false, cond, ltb, leb, eqb, max, List, [], ◌∷◌, ◌++◌, length, drop, Ok, Err, refl, sym, ap, ◌∙◌, subst, arith, inl, inr, ⊎_elim}
use Rattle.std.specs.Prelude.{◌⊎◌, FitsSigned, ◌||◌, ◌≤ℤ◌, pos}
use Rattle.std.specs.Int.{w32, cast_signed}
use Rattle.std.specs.List.{AllByRecursion}
use Rattle.std.proofs.lemmas.Bool.{eqb-true, eqb-false, leb-true, leb-false, or_cases}
use Rattle.pcp_base.proofs.Bytes.{IsBytes}
use Rattle.pcp_base.specs.Typed.{TypedBytes}
use Rattle.pcp_base.specs.Results.{HasContent}
use Rattle.pcp_base.specs.declared.result.Body.{Body}
use Rattle.pcp_base.specs.declared.result.Body.TheVariants as bodies
use Rattle.pcp_base.specs.declared.result.ValueSet.{ValueSet}
use Rattle.pcp_model.specs.Words.{word, signed_word}
use Rattle.pcp_model.specs.Payload.{blocks_in, blocks_of, value_pairs, offset_pairs, body_words, set_words, body_length, sets_length, reach, BlocksStand, BodyInRange, SetInRange}
use Rattle.result_form.specs.declared.fault.FormFault.TheVariants.{Short, Mode}
use Rattle.result_form.specs.Counts.{Run, Counted}
use Rattle.result_form.specs.Decoding.{◌>>=◌, word_at, run_at, counted_at, run_end, end_of, set_end, sets_end, values_from, blocks_from, body_of, set_at, sets_from}
use Rattle.result_form.proofs.Spans.{bind_ok, guard_ok, only_ok, ok_is, neither, Spans, nothing, joined, word_takes, signed_is, signed_fits, status_low}
use Rattle.result_form.proofs.Pairs.{moved, values_takes, blocks_takes}

either_way : {A : Type 0} (b : Bool) (x y z : A) → cond b x y ≡ z → ((b ≡ true) × (x ≡ z)) ⊎ ((b ≡ false) × (y ≡ z))
either_way true x y z e = inl (refl, e)
either_way false x y z e = inr (refl, e)

low : (n : ℕ) → (eqb n 0 ≡ true) ⊎ (leb 2147483648 n ≡ true) → (n ≡ 0) ⊎ (2147483648 ≤ n)
low n (inl e) = inl (eqb-true n 0 e)
low n (inr e) = inr (leb-true 2147483648 n e)

above : (n : ℕ) → eqb n 0 ≡ false → 0 < n
above n e = let h : n ≡ 0 → ⊥ = eqb-false n 0 e in omega arith

-- ---- what a set counts

pub record RunSpans (bytes : List ℕ) (at mode : ℕ) (run : Run) : Type 0 where
  pub from : run.from ≡ at + 8
  pub some : 0 < run.count
  pub few : run.count < 2147483648
  pub first : Spans bytes at (word run.count) (at + 4)
  pub second : Spans bytes (at + 4) (word mode) run.from

abbrev pub Counts : List ℕ → ℕ → Counted → Type 0
Counts bytes at (Counted.Status z) = Spans bytes at (signed_word z) (at + 4) × FitsSigned w32 z × (z ≤ℤ pos 0)
Counts bytes at (Counted.InPlace run) = RunSpans bytes at 0 run
Counts bytes at (Counted.Blocks run) = RunSpans bytes at 1 run

run_takes : (bytes : List ℕ) (at n : ℕ) (c : Counted) → IsBytes bytes → Spans bytes at (word n) (at + 4) → 0 < n → n < 2147483648 → run_at bytes (at + 4) n ≡ Ok c → Counts bytes at c
unfolding run_at
run_takes bytes at n c fits first some few e =
    let run : Run = record { from = at + 4 + 4; count = n } in
    let a = bind_ok (word_at bytes (at + 4)) (λ mode. cond (eqb mode 0) (Ok (Counted.InPlace run)) (cond (eqb mode 1) (Ok (Counted.Blocks run)) (Err (Mode (at + 4))))) c e in
    let w = word_takes bytes (at + 4) (at + 4 + 4) a.0 fits refl a.1 in
    ⊎_elim
    (λ (h : (eqb a.0 0 ≡ true) × (Ok (Counted.InPlace run) ≡ Ok c)).
    subst (Counts bytes at) (ok_is (Counted.InPlace run) c h.1)
    (record { from = omega arith; some = some; few = few; first = first; second = subst (λ m. Spans bytes (at + 4) (word m) (at + 4 + 4)) (eqb-true a.0 0 h.0) w.0 }))
    (λ (h : (eqb a.0 0 ≡ false) × (cond (eqb a.0 1) (Ok (Counted.Blocks run)) (Err (Mode (at + 4))) ≡ Ok c)).
    let g = only_ok (eqb a.0 1) (Mode (at + 4)) (Counted.Blocks run) c h.1 in
    subst (Counts bytes at) g.1
    (record { from = omega arith; some = some; few = few; first = first; second = subst (λ m. Spans bytes (at + 4) (word m) (at + 4 + 4)) (eqb-true a.0 1 g.0) w.0 }))
    (either_way (eqb a.0 0) (Ok (Counted.InPlace run)) (cond (eqb a.0 1) (Ok (Counted.Blocks run)) (Err (Mode (at + 4)))) (Ok c) a.2)

counted_takes : (bytes : List ℕ) (at : ℕ) (c : Counted) → IsBytes bytes → counted_at bytes at ≡ Ok c → Counts bytes at c
unfolding counted_at
counted_takes bytes at c fits e =
    let a = bind_ok (word_at bytes at) (λ n. cond (eqb n 0 || leb 2147483648 n) (Ok (Counted.Status (cast_signed w32 n))) (run_at bytes (at + 4) n)) c e in
    let n : ℕ = a.0 in
    let w = word_takes bytes at (at + 4) n fits refl a.1 in
    ⊎_elim
    (λ (h : ((eqb n 0 || leb 2147483648 n) ≡ true) × (Ok (Counted.Status (cast_signed w32 n)) ≡ Ok c)).
    subst (Counts bytes at) (ok_is (Counted.Status (cast_signed w32 n)) c h.1)
    (subst (λ t. Spans bytes at t (at + 4)) (sym (signed_is n w.1)) w.0, signed_fits n w.1, status_low n w.1 (low n (or_cases (eqb n 0) (leb 2147483648 n) h.0))))
    (λ (h : ((eqb n 0 || leb 2147483648 n) ≡ false) × (run_at bytes (at + 4) n ≡ Ok c)).
    let g = neither (eqb n 0) (leb 2147483648 n) h.0 in
    run_takes bytes at n c fits w.0 (above n g.0) (leb-false 2147483648 n g.1) h.1)
    (either_way (eqb n 0 || leb 2147483648 n) (Ok (Counted.Status (cast_signed w32 n))) (run_at bytes (at + 4) n) (Ok c) a.2)

-- how many bytes stand there
abbrev counted_length : Counted → ℕ
counted_length (Counted.Status z) = 4
counted_length (Counted.InPlace run) = 8 + 8 * run.count
counted_length (Counted.Blocks run) = 8 + 8 * run.count

run_end_is : (bytes : List ℕ) (at mode next : ℕ) (run : Run) → RunSpans bytes at mode run → run_end bytes run ≡ Ok next → next ≡ at + (8 + 8 * run.count)
run_end_is bytes at mode next run s e =
    let g = guard_ok (ltb ((length bytes - run.from) / 8) run.count) (Short (run.from + (length bytes - run.from) / 4 * 4)) (run.from + 8 * run.count) next e in
    omega (arith, g.1, s.from)

end_is : (bytes : List ℕ) (at next : ℕ) (c : Counted) → Counts bytes at c → end_of bytes at c ≡ Ok next → next ≡ at + counted_length c
end_is bytes at next (Counted.Status z) s e = sym (ok_is (at + 4) next e)
end_is bytes at next (Counted.InPlace run) s e = run_end_is bytes at 0 next run s e
end_is bytes at next (Counted.Blocks run) s e = run_end_is bytes at 1 next run s e

-- sets end behind their beginning
set_grows : (bytes : List ℕ) (at next : ℕ) → IsBytes bytes → set_end bytes at ≡ Ok next → at ≤ next
unfolding set_end
set_grows bytes at next fits e =
    let a = bind_ok (word_at bytes at) (λ pmid. counted_at bytes (at + 4) >>= λ body. end_of bytes (at + 4) body) next e in
    let b = bind_ok (counted_at bytes (at + 4)) (λ body. end_of bytes (at + 4) body) next a.2 in
    let n : next ≡ at + 4 + counted_length b.0 = end_is bytes (at + 4) next b.0 (counted_takes bytes (at + 4) b.0 fits b.1) b.2 in
    omega (arith, n)

pub sets_grow : (bytes : List ℕ) (n at end : ℕ) → IsBytes bytes → sets_end bytes n at ≡ Ok end → at ≤ end
unfolding sets_end
sets_grow bytes zero at end fits e = let h : at ≡ end = ok_is at end e in omega arith
sets_grow bytes (suc n) at end fits e =
    let a = bind_ok (set_end bytes at) (λ next. sets_end bytes n next) end e in
    omega (arith, set_grows bytes at a.0 fits a.1, sets_grow bytes n a.0 end fits a.2)

-- ---- what a set holds

record BodyRead (bytes : List ℕ) (end reached at next : ℕ) (x : Body × ℕ) (others : List ℕ) (more : List TypedBytes) : Type 0 where
  offsets : List ℕ
  spans : Spans bytes at (body_words offsets x.0) next
  size : next ≡ at + body_length x.0
  content : HasContent x.0
  range : BodyInRange x.0
  stand : BlocksStand bytes end offsets (blocks_in x.0 ++ more)
  behind : drop (length (blocks_in x.0)) offsets ≡ others
  grows : reached ≤ x.1
  whole : max reached (reach end offsets (blocks_in x.0 ++ more)) ≡ max x.1 (reach end others more)

body_takes : (bytes : List ℕ) (end reached at next : ℕ) (c : Counted) (x : Body × ℕ) (others : List ℕ) (more : List TypedBytes) → IsBytes bytes → 0 < end → BlocksStand bytes end others more → Counts bytes at c → end_of bytes at c ≡ Ok next
    → body_of bytes end reached c ≡ Ok x → BodyRead bytes end reached at next x others more
unfolding body_of
body_takes bytes end reached at next (Counted.Status z) x others more fits some stand s n e =
    subst (λ y. BodyRead bytes end reached at next y others more) (ok_is (bodies.Status z, reached) x e)
    (record {
      offsets = others;
      spans = moved bytes at (signed_word z) (at + 4) next (ok_is (at + 4) next n) s.0;
      size = sym (ok_is (at + 4) next n);
      content = s.2;
      range = s.1;
      stand = stand;
      behind = refl;
      grows = omega arith;
      whole = refl;
    })
body_takes bytes end reached at next (Counted.InPlace run) x others more fits some stand s n e =
    let a = bind_ok (values_from bytes run.count run.from) (λ pairs. Ok (bodies.InPlace pairs, reached)) x e in
    let pairs : List (ℤ × ℕ) = a.0 in
    let q = values_takes bytes run.count run.from pairs fits s.second.within a.1 in
    let step : next ≡ at + (8 + 8 * run.count) = run_end_is bytes at 0 next run s n in
    let last : Spans bytes run.from (value_pairs pairs) next = moved bytes run.from (value_pairs pairs) (run.from + 8 * run.count) next (omega (arith, step, s.from)) q.spans in
    let whole : Spans bytes at (word run.count ++ (word 0 ++ value_pairs pairs)) next =
    joined bytes at (at + 4) next (word run.count) (word 0 ++ value_pairs pairs) s.first (joined bytes (at + 4) run.from next (word 0) (value_pairs pairs) s.second last) in
    subst (λ y. BodyRead bytes end reached at next y others more) (ok_is (bodies.InPlace pairs, reached) x a.2)
    (record {
      offsets = others;
      spans = subst (λ k. Spans bytes at (word k ++ (word 0 ++ value_pairs pairs)) next) (sym q.count) whole;
      size = omega (arith, step, q.count);
      content = omega (arith, q.count, s.some);
      range = (omega (arith, q.count, s.few), q.fits);
      stand = stand;
      behind = refl;
      grows = omega arith;
      whole = refl;
    })
body_takes bytes end reached at next (Counted.Blocks run) x others more fits some stand s n e =
    let a = bind_ok (blocks_from bytes end reached run.count run.from) (λ pairs. Ok (bodies.Blocks pairs.0, pairs.1)) x e in
    let pairs : List (ℤ × TypedBytes) = a.0.0 in
    let q = blocks_takes bytes end reached run.count run.from a.0 others more fits some s.second.within stand a.1 in
    let step : next ≡ at + (8 + 8 * run.count) = run_end_is bytes at 1 next run s n in
    let text : List ℕ = offset_pairs q.offsets pairs in
    let last : Spans bytes run.from text next = moved bytes run.from text (run.from + 8 * run.count) next (omega (arith, step, s.from)) q.spans in
    let whole : Spans bytes at (word run.count ++ (word 1 ++ text)) next =
    joined bytes at (at + 4) next (word run.count) (word 1 ++ text) s.first (joined bytes (at + 4) run.from next (word 1) text s.second last) in
    subst (λ y. BodyRead bytes end reached at next y others more) (ok_is (bodies.Blocks pairs, a.0.1) x a.2)
    (record {
      offsets = q.offsets;
      spans = subst (λ k. Spans bytes at (word k ++ (word 1 ++ text)) next) (sym q.count) whole;
      size = omega (arith, step, q.count);
      content = omega (arith, q.count, s.some);
      range = (omega (arith, q.count, s.few), q.fits);
      stand = q.stand;
      behind = q.behind;
      grows = q.grows;
      whole = q.whole;
    })

record SetRead (bytes : List ℕ) (end reached at next : ℕ) (x : ValueSet × ℕ) (others : List ℕ) (more : List TypedBytes) : Type 0 where
  first : Spans bytes at (word x.0.pmid) (at + 4)
  fits : x.0.pmid < 4294967296
  body : BodyRead bytes end reached (at + 4) next (x.0.body, x.1) others more

set_takes : (bytes : List ℕ) (end reached at next : ℕ) (x : ValueSet × ℕ) (others : List ℕ) (more : List TypedBytes) → IsBytes bytes → 0 < end → BlocksStand bytes end others more → set_at bytes end reached at ≡ Ok x → set_end bytes at ≡ Ok next
    → SetRead bytes end reached at next x others more
unfolding set_at set_end
set_takes bytes end reached at next x others more fits some stand e n =
    let a = bind_ok (word_at bytes at) (λ pmid. counted_at bytes (at + 4) >>= λ body. body_of bytes end reached body >>= λ content. Ok (record { pmid = pmid; body = content.0 }, content.1)) x e in
    let b = bind_ok (counted_at bytes (at + 4)) (λ body. body_of bytes end reached body >>= λ content. Ok (record { pmid = a.0; body = content.0 }, content.1)) x a.2 in
    let c = bind_ok (body_of bytes end reached b.0) (λ content. Ok (record { pmid = a.0; body = content.0 }, content.1)) x b.2 in
    let w = word_takes bytes at (at + 4) a.0 fits refl a.1 in
    let stop : end_of bytes (at + 4) b.0 ≡ Ok next = rw (a.1, b.1) at n in
    let made : ValueSet × ℕ = (record { pmid = a.0; body = c.0.0 }, c.0.1) in
    subst (λ y. SetRead bytes end reached at next y others more) (ok_is made x c.2)
    (record { first = w.0; fits = w.1; body = body_takes bytes end reached (at + 4) next b.0 c.0 others more fits some stand (counted_takes bytes (at + 4) b.0 fits b.1) stop c.1 })

pub record SetsRead (bytes : List ℕ) (end reached n at : ℕ) (x : List ValueSet × ℕ) : Type 0 where
  pub offsets : List ℕ
  pub spans : Spans bytes at (set_words offsets x.0) (at + sets_length x.0)
  pub count : length x.0 ≡ n
  pub fits : AllByRecursion SetInRange x.0
  pub stand : BlocksStand bytes end offsets (blocks_of x.0)
  pub grows : reached ≤ x.1
  pub whole : max reached (reach end offsets (blocks_of x.0)) ≡ max x.1 end
  pub ends : sets_end bytes n at ≡ Ok (at + sets_length x.0)

pub sets_takes : (bytes : List ℕ) (end reached n at : ℕ) (x : List ValueSet × ℕ) → IsBytes bytes → 0 < end → at ≤ length bytes → sets_from bytes end reached n at ≡ Ok x → SetsRead bytes end reached n at x
unfolding sets_from sets_end
sets_takes bytes end reached zero at x fits some within e =
    subst (SetsRead bytes end reached 0 at) (ok_is ([], reached) x e)
    (record {
      offsets = [];
      spans = nothing bytes at (at + 0) (omega arith) within;
      count = refl;
      fits = tt;
      stand = tt;
      grows = omega arith;
      whole = refl;
      ends = ap Ok (let n : at ≡ at + 0 = omega arith in n);
    })
sets_takes bytes end reached (suc n) at x fits some within e =
    let a = bind_ok (set_at bytes end reached at) (λ first. set_end bytes at >>= λ next. sets_from bytes end first.1 n next >>= λ others. Ok (first.0 ∷ others.0, others.1)) x e in
    let b = bind_ok (set_end bytes at) (λ next. sets_from bytes end a.0.1 n next >>= λ others. Ok (a.0.0 ∷ others.0, others.1)) x a.2 in
    let c = bind_ok (sets_from bytes end a.0.1 n b.0) (λ others. Ok (a.0.0 ∷ others.0, others.1)) x b.2 in
    let alone = set_takes bytes end reached at b.0 a.0 [] [] fits some tt a.1 b.1 in
    let q = sets_takes bytes end a.0.1 n b.0 c.0 fits some alone.body.spans.within c.1 in
    let s = set_takes bytes end reached at b.0 a.0 q.offsets (blocks_of c.0.0) fits some q.stand a.1 b.1 in
    let set : ValueSet = a.0.0 in
    let sets : List ValueSet = c.0.0 in
    let size : b.0 + sets_length sets ≡ at + sets_length (set ∷ sets) = omega (arith, s.body.size) in
    let tail : Spans bytes b.0 (set_words q.offsets sets) (at + sets_length (set ∷ sets)) = moved bytes b.0 (set_words q.offsets sets) (b.0 + sets_length sets) (at + sets_length (set ∷ sets)) size q.spans in
    let words : Spans bytes at (word set.pmid ++ (body_words s.body.offsets set.body ++ set_words q.offsets sets)) (at + sets_length (set ∷ sets)) =
    joined bytes at (at + 4) (at + sets_length (set ∷ sets)) (word set.pmid) (body_words s.body.offsets set.body ++ set_words q.offsets sets) s.first
    (joined bytes (at + 4) b.0 (at + sets_length (set ∷ sets)) (body_words s.body.offsets set.body) (set_words q.offsets sets) s.body.spans tail) in
    subst (SetsRead bytes end reached (suc n) at) (ok_is (set ∷ sets, c.0.1) x c.2)
    (record {
      offsets = s.body.offsets;
      spans = subst (λ ps. Spans bytes at (word set.pmid ++ (body_words s.body.offsets set.body ++ set_words ps sets)) (at + sets_length (set ∷ sets))) (sym s.body.behind) words;
      count = ap suc q.count;
      fits = ((s.fits, s.body.content, s.body.range), q.fits);
      stand = s.body.stand;
      grows = omega (arith, s.body.grows, q.grows);
      whole = s.body.whole ∙ q.whole;
      ends = ap (λ r. r >>= λ next. sets_end bytes n next) b.1 ∙ (q.ends ∙ ap Ok size);
    })
