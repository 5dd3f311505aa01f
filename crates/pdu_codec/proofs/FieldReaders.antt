-- The readers of fields, by their grammars.
use Rattle.std.proofs.Common.{◌≡◌, ℕ, ℤ, zero, suc, ◌+◌, ◌-◌, ◌<◌, ◌≤◌, Bool, true, false, cond, ltb, eqb, Option, Some, None, List, [], ◌∷◌, ◌++◌, length, get_or, take, drop, Result, Ok, Err, refl, sym, ap, ◌∙◌, subst, arith, inl, inr}
use Rattle.std.specs.Prelude.{slice_get, FitsSigned}
use Rattle.std.specs.Int.{w32, from_be_bytes, to_be_bytes, cast_signed, cast_unsigned}
use Rattle.std.proofs.lemmas.Bool.{cases_lt, ltb-true, ltb-false, le-ltb, eqb-true, eqb-false, eq-eqb, cond-false}
use Rattle.std.proofs.lemmas.List.{take_at, take_all, length-append, length-drop, length-replicate, append-nil, get_or_append_left, get_or-append_right, get_or-replicate, get_or_past, get_or-drop, take-append-drop, drop-drop, drop_more, drop_all}
use Rattle.std.proofs.lemmas.Option.{none-some, slice_get_within, slice_get-get_or, get_or_from_slice_get}
use Rattle.std.proofs.lemmas.Nat.{be_bytes_4, from_be_bytes-to_be_bytes_4}
use Rattle.pcp_base.proofs.Bytes.{IsBytes, IsBytes-drop}
use Rattle.pcp_base.specs.Fields.{be_field, number_at}
use Rattle.pcp_model.specs.Words.{word, signed_word, length-word, zeros}
use Rattle.archive_frame.specs.Misfits.{BeginsOne}
use Rattle.result_form.specs.Decoding.{or_short}
use Rattle.result_form.proofs.Spans.{word_takes, word_again, signed_is, signed_fits, unsigned_fits, signed_back, word_of_signed}
use Rattle.pdu_codec.specs.declared.fault.PduFault.{PduFault}
use Rattle.pdu_codec.specs.declared.fault.PduFault.TheVariants.{Body}
use Rattle.pdu_codec.specs.Reading.{◌>>=◌, or_end, word_at, signed_at, common, given_at, state_of, state_at}
use Rattle.pdu_codec.specs.Grammar.{Is, Both, IsExactly, Word, Signed, State, state_word}
use Rattle.pdu_codec.proofs.Misfits.{Stops, short_stops}
use Rattle.pdu_codec.proofs.Misfits.{Some as Texts}
use Rattle.pdu_codec.proofs.Readers.{StopsAt, Reads, Code, code, plain, next, same_grammar, same_reads, done, failed, ok_is, not_both, err_is}

-- ---- words

end_ok : (bytes : List ℕ) (at : ℕ) (o : Option ℕ) (n next : ℕ) → or_end bytes at o ≡ Ok (n, next) → (o ≡ Some n) × (next ≡ at + 4)
end_ok bytes at (Some m) n next e = let same : (m, at + 4) ≡ (n, next) = ok_is (m, at + 4) (n, next) e in (ap (λ (p : ℕ × ℕ). Some p.0) same, sym (ap (λ (p : ℕ × ℕ). p.1) same))
end_ok bytes at None n next e = absurd (not_both (n, next) (Body (length bytes)) (sym e))

end_err : (bytes : List ℕ) (at : ℕ) (o : Option ℕ) (e : PduFault) → or_end bytes at o ≡ Err e → (o ≡ None) × (e ≡ Body (length bytes))
end_err bytes at (Some m) e h = absurd (not_both (m, at + 4) e h)
end_err bytes at None e h = (refl, sym (err_is (ℕ × ℕ) (Body (length bytes)) e h))

short_some : (at n : ℕ) (o : Option ℕ) → or_short at o ≡ Ok n → o ≡ Some n
short_some at n (Some m) e = cc
short_some at n None e = absurd cc

none_short : (b : Bool) (m : ℕ) → cond b None (Some m) ≡ None → b ≡ true
none_short true m e = refl
none_short false m e = absurd cc

be_below : (bytes : List ℕ) → IsBytes bytes → from_be_bytes w32 bytes < 4294967296
be_below bytes fits = omega (arith, fits 0, fits 1, fits 2, fits 3)

-- four bytes are a word
pub four_bytes : (xs : List ℕ) → length xs ≡ 4 → IsBytes xs → Word xs (from_be_bytes w32 xs)
unfolding word
four_bytes xs four fits = (sym (be_bytes_4 xs (from_be_bytes w32 xs) four fits refl), be_below xs fits)

pub padded_bytes : (t : List ℕ) (m : ℕ) → IsBytes t → IsBytes (t ++ zeros m)
padded_bytes t m fits i =
    elim (cases_lt i (length t)) [
      | inl lt ↦ rw (get_or_append_left t (zeros m) 0 i lt) (fits i)
      | inr le ↦ rw (get_or-append_right t (zeros m) (length t) i 0 refl le)
          (elim (cases_lt (i - length t) m) [
            | inl lt ↦ rw (get_or-replicate {A = ℕ} m (i - length t) 0 0 lt) (omega arith)
            | inr ge ↦ rw (get_or_past (zeros m) (i - length t) 0 (omega (arith, length-replicate {A = ℕ} m 0))) (omega arith)
          ])
    ]

word_stops : (bytes : List ℕ) (at : ℕ) (e : PduFault) → IsBytes bytes → at ≤ length bytes → word_at bytes at ≡ Err e → StopsAt Word bytes at e
word_stops bytes at e fits h is =
    let g = end_err bytes at (be_field w32 at bytes) e is in
    let few : length bytes < at + 4 = ltb-true (length bytes) (at + 4) (none_short (ltb (length bytes) (at + 4)) (from_be_bytes w32 (take 4 (drop at bytes))) g.0) in
    let t : List ℕ = drop at bytes in
    let size : length t ≡ length bytes - at = length-drop at bytes in
    let more : List ℕ = zeros (4 - length t) in
    let four : length (t ++ more) ≡ 4 = omega (arith, length-append t more, length-replicate {A = ℕ} (4 - length t) 0) in
    let whole = four_bytes (t ++ more) four (padded_bytes t (4 - length t) (IsBytes-drop at bytes fits)) in
    record {
      k = length t;
      is = g.1 ∙ ap Body (let p : length bytes ≡ at + length t = omega arith in p);
      stops = short_stops Word t more (from_be_bytes w32 (t ++ more)) whole
          (λ f n w. let long : length f ≡ 4 = ap length w.0 ∙ length-word n in let lt : length t < length f = omega arith in lt);
    }

pub word_reads : Reads Word word_at
word_reads = record {
  takes = λ bytes at next n fits h e.
      let g = end_ok bytes at (be_field w32 at bytes) n next e in
      let w = word_takes bytes at next n fits g.1 (ap (or_short at) g.0) in
      record { text = word n; spans = w.0; fits = (refl, w.1) };
  again = λ bytes at text rest n h e w.
      let read : be_field w32 at bytes ≡ Some n = short_some at n (be_field w32 at bytes) (word_again bytes at n rest w.1 (e ∙ ap (λ x. x ++ rest) w.0)) in
      let long : at + 4 ≡ at + length text = let size : length text ≡ 4 = ap length w.0 ∙ length-word n in omega arith in
      ap (or_end bytes at) read ∙ ap (λ m. done (n, m)) long;
  stops = word_stops;
  some = (word 0, 0, (refl, omega arith));
}

-- a word that lies in the bytes
pub word_found : (bytes : List ℕ) (at : ℕ) → at + 4 ≤ length bytes → be_field w32 at bytes ≡ Some (number_at bytes at)
word_found bytes at h = cond-false (ltb (length bytes) (at + 4)) None (Some (number_at bytes at)) (le-ltb (length bytes) (at + 4) h)

-- its number
pub word_field : (bytes : List ℕ) (at n : ℕ) (rest : List ℕ) → n < 4294967296 → drop at bytes ≡ word n ++ rest → number_at bytes at ≡ n
unfolding word
word_field bytes at n rest lt e =
    ap (λ t. from_be_bytes w32 (take 4 t)) e ∙ ap (from_be_bytes w32) (take_at (to_be_bytes w32 n) rest 4 refl) ∙ from_be_bytes-to_be_bytes_4 n lt

abbrev pub word_code : Code ℕ
word_code = code Word word_at word_reads

-- ---- words with a sign

abbrev signed_code : Code ℤ
signed_code = next word_code (λ n. plain (cast_signed w32 n))

signed_from_word : (f : List ℕ) (z : ℤ) → Both Word (λ n. Is (cast_signed w32 n)) f z → Signed f z
signed_from_word f z b =
    let n : ℕ = b.value in
    let is : f ≡ word n = b.cut ∙ ap (λ x. b.front ++ x) b.second.0 ∙ append-nil b.front ∙ b.first.0 in
    (is ∙ sym (signed_is n b.first.1) ∙ ap signed_word (sym b.second.1), subst (FitsSigned w32) (sym b.second.1) (signed_fits n b.first.1))

word_from_signed : (f : List ℕ) (z : ℤ) → Signed f z → Both Word (λ n. Is (cast_signed w32 n)) f z
word_from_signed f z s = record {
  value = cast_unsigned w32 z;
  front = f;
  back = [];
  cut = sym (append-nil f);
  first = (s.0 ∙ word_of_signed z, unsigned_fits z s.1);
  second = (refl, sym (signed_back z s.1));
}

pub signed_reads : Reads Signed signed_at
unfolding signed_at
signed_reads = same_grammar (Both Word (λ n. Is (cast_signed w32 n))) Signed signed_at signed_from_word word_from_signed signed_code.reads

-- ---- bytes that have to stand there

common_le : (wanted t : List ℕ) → (common wanted t ≤ length wanted) × (common wanted t ≤ length t)
unfolding common
common_le [] t = (omega arith, omega arith)
common_le (b ∷ wanted) [] = (omega arith, omega arith)
common_le (b ∷ wanted) (c ∷ t) =
    let r = common_le wanted t in
    elim (eqb b c) as (λ x. (cond x (suc (common wanted t)) 0 ≤ suc (length wanted)) × (cond x (suc (common wanted t)) 0 ≤ suc (length t))) [
      | true ↦ (omega (arith, r.0), omega (arith, r.1))
      | false ↦ (omega arith, omega arith)
    ]

same_step : (x : Bool) (b c m : ℕ) (wanted t : List ℕ) → (x ≡ true → b ≡ c) → take m t ≡ take m wanted → take (cond x (suc m) 0) (c ∷ t) ≡ take (cond x (suc m) 0) (b ∷ wanted)
same_step true b c m wanted t h e = ap (λ v. v ∷ take m t) (sym (h refl)) ∙ ap (λ v. b ∷ v) e
same_step false b c m wanted t h e = refl

common_same : (wanted t : List ℕ) → take (common wanted t) t ≡ take (common wanted t) wanted
unfolding common
common_same [] t = refl
common_same (b ∷ wanted) [] = refl
common_same (b ∷ wanted) (c ∷ t) = same_step (eqb b c) b c (common wanted t) wanted t (eqb-true b c) (common_same wanted t)

-- no longer front is wanted
common_longest : (wanted t more : List ℕ) (n : ℕ) → n ≤ length t → take n t ++ more ≡ wanted → n ≤ common wanted t
unfolding common
common_longest wanted t more zero h e = omega arith
common_longest wanted [] more (suc n) h e = absurd (omega arith)
common_longest [] (c ∷ t) more (suc n) h e = absurd cc
common_longest (b ∷ wanted) (c ∷ t) more (suc n) h e =
    let heads : c ≡ b = ap (λ x. get_or x 0 0) e in
    let tails : take n t ++ more ≡ wanted = ap (drop 1) e in
    let rest : n ≤ common wanted t = common_longest wanted t more n (omega arith) tails in
    subst (λ x. suc n ≤ cond x (suc (common wanted t)) 0) (sym (eq-eqb b c (sym heads))) (let r : suc n ≤ suc (common wanted t) = omega arith in r)

common_whole : (wanted rest : List ℕ) → common wanted (wanted ++ rest) ≡ length wanted
unfolding common
common_whole [] rest = refl
common_whole (b ∷ wanted) rest = ap (λ x. cond x (suc (common wanted (wanted ++ rest))) 0) (eq-eqb b b refl) ∙ ap suc (common_whole wanted rest)

-- an answer that tells how many bytes stand there
abbrev pub numbered : ℕ → ℕ → Result (ℕ × ℕ) PduFault
numbered n behind = Ok (n, behind)

-- the reader, as one that tells it
abbrev pub given_read : List ℕ → List ℕ → ℕ → Result (ℕ × ℕ) PduFault
given_read wanted bytes at = given_at wanted bytes at >>= numbered (length wanted)

given_ok : (b : Bool) (wanted : List ℕ) (fault to n next : ℕ) → (cond b (failed ℕ (Body fault)) (Ok to) >>= numbered (length wanted)) ≡ Ok (n, next) → (b ≡ false) × (n ≡ length wanted) × (next ≡ to)
given_ok true wanted fault to n next e = absurd (not_both (n, next) (Body fault) (sym e))
given_ok false wanted fault to n next e = let same : (length wanted, to) ≡ (n, next) = ok_is (length wanted, to) (n, next) e in (refl, sym (ap (λ (p : ℕ × ℕ). p.0) same), sym (ap (λ (p : ℕ × ℕ). p.1) same))

given_err : (b : Bool) (wanted : List ℕ) (fault to : ℕ) (e : PduFault) → (cond b (failed ℕ (Body fault)) (Ok to) >>= numbered (length wanted)) ≡ Err e → (b ≡ true) × (e ≡ Body fault)
given_err true wanted fault to e h = (refl, sym (err_is (ℕ × ℕ) (Body fault) e h))
given_err false wanted fault to e h = absurd (not_both (length wanted, to) e h)

given_stands : (wanted t : List ℕ) → length wanted ≤ common wanted t → t ≡ wanted ++ drop (length wanted) t
given_stands wanted t h =
    let le = common_le wanted t in
    let all : common wanted t ≡ length wanted = omega (arith, le.0) in
    let same : take (length wanted) t ≡ take (length wanted) wanted = subst (λ n. take n t ≡ take n wanted) all (common_same wanted t) in
    sym (take-append-drop (length wanted) t) ∙ ap (λ x. x ++ drop (length wanted) t) (same ∙ take_all (length wanted) wanted (omega arith))

given_stops : (wanted t : List ℕ) → common wanted t < length wanted → Stops (IsExactly wanted) t (common wanted t)
given_stops wanted t lt =
    let c : ℕ = common wanted t in
    let le = common_le wanted t in
    record {
      within = le.1;
      begins = (drop c wanted, (length wanted, (ap (λ x. x ++ drop c wanted) (common_same wanted t) ∙ take-append-drop c wanted, refl)));
      longest = λ n h b. common_longest wanted t b.0 n h b.1.1.0;
      unfinished = λ f r n e g. let same : common wanted t ≡ length wanted = ap (common wanted) (e ∙ ap (λ x. x ++ r) g.0) ∙ common_whole wanted r in absurd (omega arith);
    }

drop_drop : (n at next : ℕ) (bytes : List ℕ) → next ≡ at + n → drop n (drop at bytes) ≡ drop next bytes
drop_drop n at next bytes e = drop-drop n at bytes ∙ ap (λ k. drop k bytes) (sym e)

pub given_reads : (wanted : List ℕ) → Reads (IsExactly wanted) (given_read wanted)
given_reads wanted = record {
  takes = λ bytes at next n fits h e.
      let t : List ℕ = drop at bytes in
      let c : ℕ = common wanted t in
      let g = given_ok (ltb c (length wanted)) wanted (at + c) (at + length wanted) n next e in
      let all : length wanted ≤ c = ltb-false c (length wanted) g.0 in
      let cut : t ≡ wanted ++ drop (length wanted) t = given_stands wanted t all in
      let size : length t ≡ length bytes - at = length-drop at bytes in
      let behind : drop (length wanted) t ≡ drop next bytes = drop_drop (length wanted) at next bytes g.2 in
      record {
        text = wanted;
        spans = record {
          cut = cut ∙ ap (λ x. wanted ++ x) behind;
          size = g.2;
          within = let le = common_le wanted t in omega (arith, le.1, g.2);
        };
        fits = (refl, g.1);
      };
  again = λ bytes at text rest n h e g.
      let t : List ℕ = drop at bytes in
      let all : common wanted t ≡ length wanted = ap (common wanted) (e ∙ ap (λ x. x ++ rest) g.0) ∙ common_whole wanted rest in
      let test : ltb (common wanted t) (length wanted) ≡ false = le-ltb (common wanted t) (length wanted) (let h : length wanted ≤ common wanted t = omega arith in h) in
      let long : at + length wanted ≡ at + length text = ap (λ x. at + length x) (sym g.0) in
      ap (λ b. cond b (failed ℕ (Body (at + common wanted t))) (Ok (at + length wanted)) >>= numbered (length wanted)) test ∙ ap (λ m. done (length wanted, m)) long ∙ ap (λ m. done (m, at + length text)) (sym g.1);
  stops = λ bytes at e fits h is.
      let t : List ℕ = drop at bytes in
      let g = given_err (ltb (common wanted t) (length wanted)) wanted (at + common wanted t) (at + length wanted) e is in
      record { k = common wanted t; is = g.1; stops = given_stops wanted t (ltb-true (common wanted t) (length wanted) g.0) };
  some = (wanted, length wanted, (refl, refl));
}

abbrev pub given_code : List ℕ → Code ℕ
given_code wanted = code (IsExactly wanted) (given_read wanted) (given_reads wanted)

-- bytes that have to stand there before something
pub regroup : {A : Type 0} (r : Result ℕ PduFault) (n : ℕ) (f : ℕ → Result A PduFault) → (r >>= f) ≡ ((r >>= numbered n) >>= λ p. f p.1)
regroup (Ok behind) n f = refl
regroup (Err e) n f = refl

abbrev pub skip : {Y : Type 0} → List ℕ → Code Y → Code Y
skip wanted a = record {
  grammar = Both (IsExactly wanted) (λ n. a.grammar);
  read = λ bytes at. given_at wanted bytes at >>= λ behind. a.read bytes behind;
  reads = same_reads (Both (IsExactly wanted) (λ n. a.grammar)) (next (given_code wanted) (λ n. a)).read (λ bytes at. given_at wanted bytes at >>= λ behind. a.read bytes behind) (next (given_code wanted) (λ n. a)).reads
      (λ bytes at. regroup (given_at wanted bytes at) (length wanted) (λ behind. a.read bytes behind));
}

-- ---- states

-- the last byte of a state
abbrev Bit : List ℕ → Bool → Type 0
Bit text include = text ≡ state_word include ∷ []

bit_tail : (include : Bool) (rest : List ℕ) (b : ℕ) (t more : List ℕ) → b ∷ t ≡ (state_word include ∷ []) ++ more → b ≡ state_word include
bit_tail include rest b t more e = ap (λ x. get_or x 0 9) e

bit_longest : (b : ℕ) (t : List ℕ) (n : ℕ) → ((include : Bool) → b ≡ state_word include → ⊥) → BeginsOne (Texts Bit) (take n (b ∷ t)) → n ≤ 0
bit_longest b t zero never x = omega arith
bit_longest b t (suc n) never x = absurd (never x.1.0 (ap (λ y. get_or y 0 9) x.1.1))

not_bit : (b : ℕ) (t : List ℕ) → (b ≡ 0 → ⊥) → (b ≡ 1 → ⊥) → Stops Bit (b ∷ t) 0
not_bit b t no_zero no_one =
    let neither : (include : Bool) → b ≡ state_word include → ⊥ = λ include. elim include as (λ x. b ≡ state_word x → ⊥) [ true ↦ no_zero | false ↦ no_one ] in
    record {
      within = omega arith;
      begins = (0 ∷ [], (true, refl));
      longest = λ n h x. bit_longest b t n neither x;
      unfinished = λ f r include e g. neither include (ap (λ x. get_or x 0 9) (e ∙ ap (λ x. x ++ r) g));
    }

abbrev bit : Bool → ℕ → Result (Bool × ℕ) PduFault
bit include next = Ok (include, next)

state_ok : (x y : Bool) (b at next : ℕ) (include : Bool) → (x ≡ true → b ≡ 0) → (y ≡ true → b ≡ 1) → cond x (bit true (at + 1)) (cond y (bit false (at + 1)) (Err (Body at))) ≡ Ok (include, next) → (Some b ≡ Some (state_word include)) × (next ≡ at + 1)
state_ok true y b at next include h k e = let same : (true, at + 1) ≡ (include, next) = ok_is (true, at + 1) (include, next) e in (ap Some (h refl ∙ ap (λ (p : Bool × ℕ). state_word p.0) same), sym (ap (λ (p : Bool × ℕ). p.1) same))
state_ok false true b at next include h k e = let same : (false, at + 1) ≡ (include, next) = ok_is (false, at + 1) (include, next) e in (ap Some (k refl ∙ ap (λ (p : Bool × ℕ). state_word p.0) same), sym (ap (λ (p : Bool × ℕ). p.1) same))
state_ok false false b at next include h k e = absurd (not_both (include, next) (Body at) (sym e))

bit_read_ok : (bytes : List ℕ) (at next : ℕ) (include : Bool) (o : Option ℕ) → state_of at o ≡ Ok (include, next) → (o ≡ Some (state_word include)) × (next ≡ at + 1)
bit_read_ok bytes at next include None e = absurd (not_both (include, next) (Body at) (sym e))
bit_read_ok bytes at next include (Some b) e = state_ok (eqb b 0) (eqb b 1) b at next include (eqb-true b 0) (eqb-true b 1) e

data BitFault (at : ℕ) (o : Option ℕ) (e : PduFault) : Type 0 where
  ended : o ≡ None → e ≡ Body at → BitFault at o e
  other : (b : ℕ) → o ≡ Some b → (b ≡ 0 → ⊥) → (b ≡ 1 → ⊥) → e ≡ Body at → BitFault at o e

state_err : (x y : Bool) (b at : ℕ) (e : PduFault) → (x ≡ false → b ≡ 0 → ⊥) → (y ≡ false → b ≡ 1 → ⊥) → cond x (bit true (at + 1)) (cond y (bit false (at + 1)) (Err (Body at))) ≡ Err e → BitFault at (Some b) e
state_err true y b at e no_zero no_one h = absurd (not_both (true, at + 1) e h)
state_err false true b at e no_zero no_one h = absurd (not_both (false, at + 1) e h)
state_err false false b at e no_zero no_one h = other b refl (no_zero refl) (no_one refl) (sym (err_is (Bool × ℕ) (Body at) e h))

bit_read_err : (at : ℕ) (o : Option ℕ) (e : PduFault) → state_of at o ≡ Err e → BitFault at o e
bit_read_err at None e h = ended refl (sym (err_is (Bool × ℕ) (Body at) e h))
bit_read_err at (Some b) e h = state_err (eqb b 0) (eqb b 1) b at e (eqb-false b 0) (eqb-false b 1) h

-- a byte that is there begins what is left
got : (bytes : List ℕ) (at b : ℕ) → slice_get bytes at ≡ Some b → (at < length bytes) × (drop at bytes ≡ b ∷ drop (at + 1) bytes)
got bytes at b e =
    let inside : at < length bytes = slice_get_within bytes at b e in
    (inside, drop_more bytes at 0 inside ∙ ap (λ x. x ∷ drop (at + 1) bytes) (get_or_from_slice_get bytes at b 0 e))

missing : (bytes : List ℕ) (at : ℕ) → at ≤ length bytes → slice_get bytes at ≡ None → drop at bytes ≡ []
missing bytes at h e =
    elim (cases_lt at (length bytes)) [
      | inl lt ↦ absurd (none-some (get_or bytes at 0) (sym e ∙ slice_get-get_or bytes at 0 lt))
      | inr le ↦ drop_all at bytes le
    ]

get_front : (bytes : List ℕ) (at b : ℕ) (rest : List ℕ) → drop at bytes ≡ b ∷ rest → slice_get bytes at ≡ Some b
get_front bytes at b rest e =
    let size : length bytes - at ≡ suc (length rest) = sym (length-drop at bytes) ∙ ap length e in
    let inside : at < length bytes = omega arith in
    slice_get-get_or bytes at 0 inside ∙ ap Some (ap (λ n. get_or bytes n 0) (let z : at ≡ at + 0 = omega arith in z) ∙ sym (get_or-drop at bytes 0 0) ∙ ap (λ x. get_or x 0 0) e)

bit_stops : (bytes : List ℕ) (at : ℕ) (e : PduFault) → IsBytes bytes → at ≤ length bytes → state_of at (slice_get bytes at) ≡ Err e → StopsAt Bit bytes at e
bit_stops bytes at e fits h is =
    let here : Body at ≡ Body (at + 0) = ap Body (let z : at ≡ at + 0 = omega arith in z) in
    elim (bit_read_err at (slice_get bytes at) e is) [
      | ended none f ↦ let t = missing bytes at h none in
          record { k = 0; is = f ∙ here; stops = subst (λ x. Stops Bit x 0) (sym t) (short_stops Bit [] (0 ∷ []) true refl (λ f include g. let long : length f ≡ 1 = ap length g in omega arith)) }
      | other b some no_zero no_one f ↦ record { k = 0; is = f ∙ here; stops = subst (λ x. Stops Bit x 0) (sym (got bytes at b some).1) (not_bit b (drop (at + 1) bytes) no_zero no_one) }
    ]

state_again : (at : ℕ) (include : Bool) → state_of at (Some (state_word include)) ≡ Ok (include, at + 1)
state_again at true = refl
state_again at false = refl

bit_reads : Reads Bit (λ bytes at. state_of at (slice_get bytes at))
bit_reads = record {
  takes = λ bytes at next include fits h e.
      let g = bit_read_ok bytes at next include (slice_get bytes at) e in
      let t = got bytes at (state_word include) g.0 in
      record {
        text = state_word include ∷ [];
        spans = record { cut = t.1 ∙ ap (λ n. state_word include ∷ drop n bytes) (sym g.1); size = g.1; within = let a : at < length bytes = t.0 in omega (arith, g.1) };
        fits = refl;
      };
  again = λ bytes at text rest include h e g.
      let read : slice_get bytes at ≡ Some (state_word include) = get_front bytes at (state_word include) rest (e ∙ ap (λ x. x ++ rest) g) in
      ap (state_of at) read ∙ state_again at include ∙ ap (λ x. done (include, at + length x)) (sym g);
  stops = bit_stops;
  some = (0 ∷ [], true, refl);
}

abbrev state_code : Code Bool
state_code = skip (0 ∷ 0 ∷ 0 ∷ []) (code Bit (λ bytes at. state_of at (slice_get bytes at)) bit_reads)

abbrev StateBytes : List ℕ → Bool → Type 0
StateBytes = Both (IsExactly (0 ∷ 0 ∷ 0 ∷ [])) (λ n. Bit)

state_bytes : (include : Bool) → word (state_word include) ≡ 0 ∷ 0 ∷ 0 ∷ state_word include ∷ []
unfolding word
state_bytes true = refl
state_bytes false = refl

pub state_reads : Reads State state_at
unfolding state_at
state_reads = same_grammar StateBytes State state_at
    (λ f include b. b.cut ∙ ap (λ x. x ++ b.back) b.first.0 ∙ ap (λ x. (0 ∷ 0 ∷ 0 ∷ []) ++ x) b.second ∙ sym (state_bytes include))
    (λ f include s. record { value = 3; front = 0 ∷ 0 ∷ 0 ∷ []; back = state_word include ∷ []; cut = s ∙ state_bytes include; first = (refl, refl); second = refl })
    state_code.reads
