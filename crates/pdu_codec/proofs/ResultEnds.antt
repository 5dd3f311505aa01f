-- Where bytes stop being like a result's payload, some payload goes on from what stands before.
use Rattle.std.proofs.Common.{◌≡◌, ℕ, ◌+◌, ◌-◌, ◌*◌, ◌%◌, ◌<◌, ◌≤◌, Bool, true, false, cond, ltb, eqb, max, map, List, ◌++◌, length, get_or, take, Result, Ok, Err, refl, sym, ap, ◌∙◌, subst, arith, inl, inr}
use Rattle.std.specs.Prelude.{min}
use Rattle.std.specs.List.{range_with_len}
use Rattle.std.proofs.lemmas.Bool.{cases_lt, lt-ltb, le-ltb, ltb-true, ltb-false, eq-eqb}
use Rattle.std.proofs.lemmas.List.{length-append, length-take-le, get_or_append_left, get_or-append_right, get_or-take, get_or_past}
use Rattle.std.proofs.lemmas.List.FromFn.{length-map-range_with_len, get_or-map-range_with_len}
use Rattle.pcp_base.specs.Fields.{number_at}
use Rattle.pcp_base.specs.declared.result.PmResult.{PmResult}
use Rattle.pcp_base.proofs.Bytes.{IsBytes}
use Rattle.pcp_model.specs.Payload.{IsPayload}
use Rattle.archive_frame.specs.Misfits.{BeginsOne}
use Rattle.pdu_codec.specs.declared.misfit.Blocks.{Blocks}
use Rattle.pdu_codec.specs.declared.misfit.Sets.{Sets}
use Rattle.pdu_codec.specs.declared.pdu.Pdu.TheVariants as pdus
use Rattle.pdu_codec.specs.declared.types.PduType.TheVariants as types
use Rattle.pdu_codec.specs.Faults.{SomeBody}
use Rattle.pdu_codec.specs.ResultMisfit.{word_between, sets_at, no_blocks, stop_behind, walk_of_sets, stop_of, result_misfit}
use Rattle.pdu_codec.proofs.ResultFills.{Ends, ends_on, ends_or, word_of, filled, word_put, WordIs, WordStops, word_ends}
use Rattle.pdu_codec.proofs.ResultRead.{Spells, SetsRead, zero_sets, whole_read}
use Rattle.pdu_codec.proofs.ResultBlocks.{GoesOn, word_same, as_filled, Covers}
use Rattle.pdu_codec.proofs.ResultSets.{same_word, SetsWell, SetsStop, sets_go}

-- From bytes with no end all words are read, and all blocks.
record AllRead (g : ℕ → ℕ) (end far : ℕ) : Type 0 where
  sec : word_of g 0 < 2147483648
  usec : word_of g 4 < 1000000
  few : word_of g 8 < 2147483648
  grows : end ≤ far
  reads : (t : List ℕ) → Spells t g → far ≤ length t → end ≤ length t → SetsRead t end end (word_of g 8) 12 end far

-- All sets of these bytes stand, or they stop here.
record Stands (bytes : List ℕ) (after : Sets) : Type 0 where
  within : after.at ≤ length bytes
  first : 12 ≤ after.at
  aligned : after.at % 4 ≡ 0
  ends : after.at ≤ after.blocks.limit
  stop : after.blocks.stop ≤ length bytes
  kept : after.at ≤ after.blocks.stop
  reads : (g : ℕ → ℕ) (k : ℕ) → GoesOn bytes k after.at g → after.at ≤ k → k ≤ after.blocks.stop → (far : ℕ) × Covers bytes k after.blocks far × AllRead g after.at far

record Stops (bytes : List ℕ) (k : ℕ) : Type 0 where
  within : k ≤ length bytes
  full : ℕ
  end : ℕ
  past : k ≤ end
  low : full ≤ end
  first : 12 ≤ end
  aligned : end % 4 ≡ 0
  reads : (g : ℕ → ℕ) → GoesOn bytes k end g → ((i : ℕ) → k ≤ i → i < full → g i ≡ 255) → ((i : ℕ) → k ≤ i → full ≤ i → i < end → g i ≡ 0) → (far : ℕ) × AllRead g end far

-- In front of the sets zeros follow.
head_stops : (bytes : List ℕ) (k : ℕ) → k ≤ 12 → k ≤ length bytes → word_of (filled bytes k 0) 0 < 2147483648 → word_of (filled bytes k 0) 4 < 1000000 → word_of (filled bytes k 0) 8 < 2147483648 → Stops bytes k
head_stops bytes k early within sec usec few =
    let n : ℕ = word_of (filled bytes k 0) 8 in
    let end : ℕ = 12 + 8 * n in
    record {
      within = within;
      full = 0;
      end = end;
      past = omega arith;
      low = omega arith;
      first = omega arith;
      aligned = omega arith;
      reads = λ g on full zeros.
          let a : word_of (filled bytes k 0) 0 ≡ word_of g 0 = as_filled bytes k 0 g 0 on.same (λ i le lt. zeros i le (omega arith) (omega arith)) in
          let b : word_of (filled bytes k 0) 4 ≡ word_of g 4 = as_filled bytes k 0 g 4 on.same (λ i le lt. zeros i le (omega arith) (omega arith)) in
          let c : word_of (filled bytes k 0) 8 ≡ word_of g 8 = as_filled bytes k 0 g 8 on.same (λ i le lt. zeros i le (omega arith) (omega arith)) in (
            end,
            record {
              sec = omega arith;
              usec = omega arith;
              few = omega arith;
              grows = omega arith;
              reads = λ t s long inside. zero_sets t g end end (word_of g 8) 12 end s (λ i le lt. zeros i (omega arith) (omega arith) lt) (omega arith) inside;
            },
          );
    }

walk_ends : (bytes : List ℕ) → IsBytes bytes → Ends (Stands bytes) (Stops bytes) (walk_of_sets bytes)
unfolding walk_of_sets
walk_ends bytes fits =
    ends_on (WordIs bytes 0 0 2147483647) (Stands bytes) (WordStops bytes 0 0 2147483647) (Stops bytes) (word_between bytes 0 0 2147483647) _ (word_ends bytes 0 0 2147483647 fits (omega arith) (omega arith) (omega arith))
    (λ k w. let before : k < 4 = w.before in let high : word_of (filled bytes k 0) 0 ≤ 2147483647 = w.high in let a : word_of (filled bytes k 0) 4 ≡ 0 = word_put bytes k 0 4 (omega arith) in let b : word_of (filled bytes k 0) 8 ≡ 0 = word_put bytes k 0 8 (omega arith) in
    head_stops bytes k (omega arith) w.within (omega arith) (omega arith) (omega arith))
    (λ sec p. ends_on (WordIs bytes 4 0 999999) (Stands bytes) (WordStops bytes 4 0 999999) (Stops bytes) (word_between bytes 4 0 999999) _ (word_ends bytes 4 0 999999 fits p.room (omega arith) (omega arith))
    (λ k w. let from : 4 ≤ k = w.from in let before : k < 8 = w.before in let high : word_of (filled bytes k 0) 4 ≤ 999999 = w.high in let a : word_of (filled bytes k 0) 0 ≡ number_at bytes 0 = same_word bytes k 0 (omega arith) in let b : word_of (filled bytes k 0) 8 ≡ 0 = word_put bytes k 0 8 (omega arith) in
    head_stops bytes k (omega arith) w.within (omega (arith, p.is, p.high)) (omega arith) (omega arith))
    (λ usec q. ends_on (WordIs bytes 8 0 2147483647) (Stands bytes) (WordStops bytes 8 0 2147483647) (Stops bytes) (word_between bytes 8 0 2147483647) _ (word_ends bytes 8 0 2147483647 fits q.room (omega arith) (omega arith))
    (λ k w. let from : 8 ≤ k = w.from in let before : k < 12 = w.before in let high : word_of (filled bytes k 0) 8 ≤ 2147483647 = w.high in let a : word_of (filled bytes k 0) 0 ≡ number_at bytes 0 = same_word bytes k 0 (omega arith) in let b : word_of (filled bytes k 0) 4 ≡ number_at bytes 4 = same_word bytes k 4 (omega arith) in
    head_stops bytes k (omega arith) w.within (omega (arith, p.is, p.high)) (omega (arith, q.is, q.high)) (omega arith))
    (λ count r. let few : count ≤ 2147483647 = r.high in
    let start : Sets = record { at = 12; blocks = no_blocks bytes } in
    let heads : (g : ℕ → ℕ) (k : ℕ) → ((i : ℕ) → i < k → g i ≡ get_or bytes i 0) → 12 ≤ k → (word_of g 0 < 2147483648) × (word_of g 4 < 1000000) × (word_of g 8 ≡ count) =
    λ g k same past. (
      omega (arith, p.is, p.high, word_same bytes k g 0 same (omega arith)),
      omega (arith, q.is, q.high, word_same bytes k g 4 same (omega arith)),
      omega (arith, r.is, word_same bytes k g 8 same (omega arith)),
    ) in
    ends_or (SetsWell bytes count 12 (no_blocks bytes)) (Stands bytes) (SetsStop bytes count 12 (no_blocks bytes)) (Stops bytes) (sets_at bytes count start) (sets_go bytes fits count start r.room (omega arith) (omega arith))
    (λ k w. let from : 12 ≤ k = w.from in let past : k ≤ w.end = w.past in record {
      within = w.within;
      full = w.full;
      end = w.end;
      past = w.past;
      low = w.low;
      first = omega arith;
      aligned = w.aligned;
      reads = λ g on full zeros.
          let h = heads g k on.same from in
          let all = w.reads g w.end on full zeros w.within past in
          (all.0, record { sec = h.0; usec = h.1; few = omega (arith, h.2); grows = all.1; reads = λ t s long inside. subst (λ n. SetsRead t w.end w.end n 12 w.end all.0) (sym h.2) (all.2 t s long inside) });
    })
    (λ after w. let first : 12 ≤ after.at = w.grows in record {
      within = w.within;
      first = first;
      aligned = w.aligned;
      ends = w.ends;
      stop = w.stop;
      kept = w.kept after.at w.within w.within w.ends;
      reads = λ g k on past last.
          let h = heads g k on.same (omega arith) in
          let all = w.reads g k after.at after.at on past w.ends last (inr (omega arith, refl, omega arith)) in
          (all.0, all.1, record { sec = h.0; usec = h.1; few = omega (arith, h.2); grows = all.2; reads = λ t s long inside. subst (λ n. SetsRead t after.at after.at n 12 after.at all.0) (sym h.2) (all.3 t s long inside) });
    }))))

-- ---- bytes that go on

-- First the highest bytes, up to the end of the sets zeros, and behind it the heads of blocks of no bytes.
abbrev tail : ℕ → ℕ → ℕ → ℕ
tail full end i = cond (ltb i full) 255 (cond (ltb i end) 0 (cond (eqb (i % 4) 3) 4 0))

abbrev going_on : List ℕ → ℕ → ℕ → ℕ → ℕ → ℕ
going_on bytes k full end i = cond (ltb i k) (get_or bytes i 0) (tail full end i)

module _ (bytes : List ℕ) (k full end : ℕ) where
  stays : (i : ℕ) → i < k → going_on bytes k full end i ≡ get_or bytes i 0
  stays i h = ap (λ b. cond b (get_or bytes i 0) (tail full end i)) (lt-ltb i k h)

  goes : (i : ℕ) → k ≤ i → going_on bytes k full end i ≡ tail full end i
  goes i h = ap (λ b. cond b (get_or bytes i 0) (tail full end i)) (le-ltb i k h)

  highest : (i : ℕ) → k ≤ i → i < full → going_on bytes k full end i ≡ 255
  highest i h g = goes i h ∙ ap (λ b. cond b 255 (cond (ltb i end) 0 (cond (eqb (i % 4) 3) 4 0))) (lt-ltb i full g)

  behind_full : (i : ℕ) → k ≤ i → full ≤ i → going_on bytes k full end i ≡ cond (ltb i end) 0 (cond (eqb (i % 4) 3) 4 0)
  behind_full i h g = goes i h ∙ ap (λ b. cond b 255 (cond (ltb i end) 0 (cond (eqb (i % 4) 3) 4 0))) (le-ltb i full g)

  zeros : (i : ℕ) → k ≤ i → full ≤ i → i < end → going_on bytes k full end i ≡ 0
  zeros i h g f = behind_full i h g ∙ ap (λ b. cond b 0 (cond (eqb (i % 4) 3) 4 0)) (lt-ltb i end f)

  fours : (i : ℕ) → k ≤ i → full ≤ i → end ≤ i → i % 4 ≡ 3 → going_on bytes k full end i ≡ 4
  fours i h g f e = behind_full i h g ∙ ap (λ b. cond b 0 (cond (eqb (i % 4) 3) 4 0)) (le-ltb i end f) ∙ ap (λ b. cond b 4 0) (eq-eqb (i % 4) 3 e)

  byte : (a b c : Bool) → cond a 255 (cond b 0 (cond c 4 0)) < 256
  byte true b c = omega arith
  byte false true c = omega arith
  byte false false true = omega arith
  byte false false false = omega arith

  all_bytes : IsBytes bytes → (i : ℕ) → going_on bytes k full end i < 256
  all_bytes fits i = by (ltb i k)
    where
      by : (b : Bool) → cond b (get_or bytes i 0) (tail full end i) < 256
      by true = fits i
      by false = byte (ltb i full) (ltb i end) (eqb (i % 4) 3)

  going : IsBytes bytes → k ≤ length bytes → full ≤ end → GoesOn bytes k end (going_on bytes k full end)
  going fits within low = record {
    within = within;
    same = stays;
    heads = λ p behind aligned late.
        let a : going_on bytes k full end (p + 1) < 256 = all_bytes fits (p + 1) in
        let b : going_on bytes k full end (p + 2) < 256 = all_bytes fits (p + 2) in
        let c : going_on bytes k full end (p + 3) ≡ 4 = fours (p + 3) (omega arith) (omega arith) (omega arith) (omega arith) in
        omega arith;
  }

  -- so far as the last block reaches they are a payload
  payload_goes : IsBytes bytes → (far : ℕ) → k ≤ length bytes → k ≤ far → 12 ≤ end → AllRead (going_on bytes k full end) end far → BeginsOne (λ text. (r : PmResult) × IsPayload text r) (take k bytes)
  payload_goes fits far within past first all =
      let g : ℕ → ℕ = going_on bytes k full end in
      let front : List ℕ = take k bytes in
      let more : List ℕ = map g (range_with_len k (far - k)) in
      let a : length front ≡ k = length-take-le k bytes within in
      let b : length more ≡ far - k = length-map-range_with_len g k (far - k) in
      let size : length (front ++ more) ≡ far = omega (arith, length-append front more) in
      let grows : end ≤ far = all.grows in
      let spells : Spells (front ++ more) g = λ i lt. elim (cases_lt i k) [
        | inl in_front ↦ get_or_append_left front more 0 i (omega arith) ∙ get_or-take k bytes i 0 in_front ∙ sym (stays i in_front)
        | inr behind ↦ get_or-append_right front more k i 0 a behind ∙ get_or-map-range_with_len g k (far - k) (i - k) i 0 (omega arith) (omega arith)
      ] in
      let small : IsBytes (front ++ more) = λ i. elim (cases_lt i (length (front ++ more))) [
        | inl lt ↦ subst (λ x. x < 256) (sym (spells i lt)) (all_bytes fits i)
        | inr le ↦ subst (λ x. x < 256) (sym (get_or_past (front ++ more) i 0 le)) (omega arith)
      ] in
      (more, whole_read (front ++ more) g end far small spells (omega arith) all.sec all.usec all.few (all.reads (front ++ more) spells (omega arith) (omega arith)) (omega arith))

-- ---- where bytes stop

stop_is : (b c : Bool) (stop long at reach : ℕ) → (b ≡ true → stop < long) → (b ≡ false → long ≤ stop) → min (cond b stop (cond c long (min long (max at reach)))) long ≤ stop
stop_is true c stop long at reach f g = omega arith
stop_is false c stop long at reach f g = let more : long ≤ stop = g refl in omega arith

at_is : (b c : Bool) (stop long at reach : ℕ) → at ≤ stop → at ≤ long → at ≤ min (cond b stop (cond c long (min long (max at reach)))) long
at_is true c stop long at reach f g = omega arith
at_is false true stop long at reach f g = omega arith
at_is false false stop long at reach f g = omega arith

far_is : (b c : Bool) (stop long at reach far : ℕ) → (b ≡ true → stop < long) → long ≤ stop → c ≡ false → at ≤ far → reach ≤ far → min (cond b stop (cond c long (min long (max at reach)))) long ≤ far
far_is true c stop long at reach far f g e h r = let less : stop < long = f refl in absurd (omega arith)
far_is false true stop long at reach far f g e h r = absurd cc
far_is false false stop long at reach far f g e h r = omega arith

stop_goes : (bytes : List ℕ) (r : Result Sets ℕ) → IsBytes bytes → Ends (Stands bytes) (Stops bytes) r → BeginsOne (λ text. (r : PmResult) × IsPayload text r) (take (min (stop_of bytes r) (length bytes)) bytes)
stop_goes bytes (Err k) fits s =
    let within : k ≤ length bytes = s.within in
    let same : min k (length bytes) ≡ k = omega arith in
    let all = s.reads (going_on bytes k s.full s.end) (going bytes k s.full s.end fits s.within s.low) (highest bytes k s.full s.end) (zeros bytes k s.full s.end) in
    subst (λ m. BeginsOne (λ text. (r : PmResult) × IsPayload text r) (take m bytes)) (sym same) (payload_goes bytes k s.full s.end fits all.0 within (omega (arith, s.past, all.1.grows)) s.first all.1)
stop_goes bytes (Ok after) fits s =
    let long : ℕ = length bytes in
    let b : Blocks = after.blocks in
    let k : ℕ = min (stop_behind bytes after) long in
    let low : k ≤ b.stop = stop_is (ltb b.stop long) b.is_open b.stop long after.at b.reach (ltb-true b.stop long) (ltb-false b.stop long) in
    let past : after.at ≤ k = at_is (ltb b.stop long) b.is_open b.stop long after.at b.reach s.kept s.within in
    let all = s.reads (going_on bytes k 0 after.at) k (going bytes k 0 after.at fits (omega arith) (omega arith)) past low in
    let grows : after.at ≤ all.0 = all.2.grows in
    let far : k ≤ all.0 = elim all.1 [
      | inl h ↦ h
      | inr h ↦ far_is (ltb b.stop long) b.is_open b.stop long after.at b.reach all.0 (ltb-true b.stop long) h.0 h.1 grows h.2
    ] in
    payload_goes bytes k 0 after.at fits all.0 (omega arith) far s.first all.2

pub results_begin : (bytes : List ℕ) → IsBytes bytes → BeginsOne (SomeBody types.Result) (take (result_misfit bytes) bytes)
results_begin bytes fits =
    let begin = stop_goes bytes (walk_of_sets bytes) fits (walk_ends bytes fits) in
    let answer : PmResult = begin.1.0 in
    (begin.0, (pdus.Result answer, record { answer = answer; is = refl; payload = begin.1.1 }))
