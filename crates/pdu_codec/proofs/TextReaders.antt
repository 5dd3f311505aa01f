-- The reader of texts, by their grammar.
use Rattle.std.proofs.Common.{◌≡◌, ◌≢◌, ℕ, ℤ, zero, suc, ◌+◌, ◌-◌, ◌<◌, ◌≤◌, Bool, true, false, cond, ltb, eqb, List, [], ◌∷◌, ◌++◌, length, get_or, take, drop, replicate, Result, Ok, Err, refl, sym, ap, ◌∙◌, subst, append_assoc, arith, inl, inr}
use Rattle.std.proofs.lemmas.Bool.{cases_lt, le-ltb, lt-ltb, eqb-true, eqb-false, cond-true, cond-false}
use Rattle.std.proofs.lemmas.List.{take_at, take_all, drop-drop, length-append, length-drop, length-take, length-replicate, get_or_append_left, get_or-append_right, get_or-replicate, get_or-take, take-append-drop, take-take, drop-take}
use Rattle.pcp_base.specs.Texts.{IsText}
use Rattle.pcp_model.specs.Words.{zeros}
use Rattle.pcp_model.specs.Payload.{filling}
use Rattle.pdu_codec.specs.declared.fault.PduFault.{PduFault}
use Rattle.pdu_codec.specs.declared.fault.PduFault.TheVariants.{Body}
use Rattle.pdu_codec.specs.Reading.{signed_at, clean_length, text_behind, text_at, pair_at}
use Rattle.pdu_codec.specs.Grammar.{Signed, TextOf, TextField, Pair}
use Rattle.pdu_codec.proofs.Misfits.{Stops, short_stops}
use Rattle.pdu_codec.proofs.Readers.{Takes, StopsAt, Reads, Code, code, plain, next, done, ok_is, not_both, err_is}
use Rattle.pdu_codec.proofs.FieldReaders.{word_code, signed_reads}

-- ---- bytes before the first zero byte

clean_le : (bytes : List ℕ) → clean_length bytes ≤ length bytes
unfolding clean_length
clean_le [] = omega arith
clean_le (b ∷ bytes) =
    elim (eqb b 0) as (λ x. cond x 0 (suc (clean_length bytes)) ≤ suc (length bytes)) [
      | true ↦ omega arith
      | false ↦ omega (arith, clean_le bytes)
    ]

below_step : (x : Bool) (b : ℕ) (bytes : List ℕ) (i d : ℕ) → (x ≡ false → b ≡ 0 → ⊥) → ((k : ℕ) → k < clean_length bytes → get_or bytes k d ≢ 0) → i < cond x 0 (suc (clean_length bytes)) → get_or (b ∷ bytes) i d ≢ 0
below_step true b bytes i d not_zero more h = absurd (omega arith)
below_step false b bytes zero d not_zero more h = not_zero refl
below_step false b bytes (suc i) d not_zero more h = more i (omega arith)

-- those before it aren't zero, and it is
clean_below : (bytes : List ℕ) (i d : ℕ) → i < clean_length bytes → get_or bytes i d ≢ 0
unfolding clean_length
clean_below [] i d h = absurd (omega arith)
clean_below (b ∷ bytes) i d h = below_step (eqb b 0) b bytes i d (eqb-false b 0) (λ k l. clean_below bytes k d l) h

at_step : (x : Bool) (b : ℕ) (bytes : List ℕ) (d : ℕ) → (x ≡ true → b ≡ 0) → (clean_length bytes < length bytes → get_or bytes (clean_length bytes) d ≡ 0) → cond x 0 (suc (clean_length bytes)) < suc (length bytes)
    → get_or (b ∷ bytes) (cond x 0 (suc (clean_length bytes))) d ≡ 0
at_step true b bytes d is more h = is refl
at_step false b bytes d is more h = more (omega arith)

clean_at : (bytes : List ℕ) (d : ℕ) → clean_length bytes < length bytes → get_or bytes (clean_length bytes) d ≡ 0
unfolding clean_length
clean_at [] d h = absurd (omega arith)
clean_at (b ∷ bytes) d h = at_step (eqb b 0) b bytes d (eqb-true b 0) (clean_at bytes d) h

pub clean_text : (bytes : List ℕ) → length bytes ≤ clean_length bytes → IsText bytes
clean_text bytes h k d lt = clean_below bytes k d (omega arith)

-- of a text all bytes count
pub text_clean : (bytes : List ℕ) → IsText bytes → clean_length bytes ≡ length bytes
text_clean bytes clean =
    elim (cases_lt (clean_length bytes) (length bytes)) [
      | inl lt ↦ absurd (clean (clean_length bytes) 0 lt (clean_at bytes 0 lt))
      | inr le ↦ let most : clean_length bytes ≤ length bytes = clean_le bytes in omega arith
    ]

-- ---- a text with its padding

abbrev whole : ℕ → ℕ
whole size = size + filling size

ones : ℕ → List ℕ
ones n = replicate n 1

-- a clean front, filled up
filled_text : (front : List ℕ) (size : ℕ) → length front ≤ size → IsText front → TextOf size (front ++ (ones (size - length front) ++ zeros (filling size))) (front ++ ones (size - length front))
unfolding ones
filled_text front size h clean =
    let more : List ℕ = replicate (size - length front) 1 in
    record {
      padding = zeros (filling size);
      cut = sym (append_assoc front more (zeros (filling size)));
      long = omega (arith, length-append front more, length-replicate {A = ℕ} (size - length front) 1);
      clean = λ k d lt.
          elim (cases_lt k (length front)) [
            | inl low ↦ λ e. clean k d low (sym (get_or_append_left front more d k low) ∙ e)
            | inr high ↦ let inside : k - length front < size - length front = omega (arith, length-append front more, length-replicate {A = ℕ} (size - length front) 1) in
                let one : get_or (front ++ more) k d ≡ 1 = get_or-append_right front more (length front) k d refl high ∙ get_or-replicate {A = ℕ} (size - length front) (k - length front) 1 d inside in
                λ e. let no : 1 ≡ 0 = sym one ∙ e in absurd (omega arith)
          ];
      filled = length-replicate (filling size) 0;
    }

text_long : (size : ℕ) (f t : List ℕ) → TextOf size f t → length f ≡ whole size
text_long size f t x = ap length x.cut ∙ length-append t x.padding ∙ (let e : length t + length x.padding ≡ size + filling size = omega (arith, x.long, x.filled) in e)

-- where a text's byte would be zero nothing fits
text_fits_not : (size : ℕ) (t more v : List ℕ) (m n : ℕ) → m < n → n ≤ length t → m < size → get_or t m 0 ≡ 0 → TextOf size (take n t ++ more) v → ⊥
text_fits_not size t more v m n lt h inside is x =
    let low : m < length (take n t) = omega (arith, length-take n t) in
    let here : m < length v = omega (arith, x.long) in
    x.clean m 0 here (sym (get_or_append_left v x.padding 0 m here) ∙ ap (λ q. get_or q m 0) (sym x.cut) ∙ get_or_append_left (take n t) more 0 m low ∙ get_or-take n t m 0 lt ∙ is)

zero_stops : (size : ℕ) (t : List ℕ) → clean_length (take size t) < length (take size t) → Stops (TextOf size) t (clean_length (take size t))
zero_stops size t lt =
    let m : ℕ = clean_length (take size t) in
    let small : length (take size t) ≤ size = omega (arith, length-take size t) in
    let inside : m < size = omega arith in
    let fits : m < length t = omega (arith, length-take size t) in
    let is : get_or t m 0 ≡ 0 = sym (get_or-take size t m 0 inside) ∙ clean_at (take size t) 0 lt in
    let front : List ℕ = take m t in
    let long : length front ≡ m = omega (arith, length-take m t) in
    let clean : IsText front = λ k d low e.
    let below : k < m = omega arith in
    clean_below (take size t) k d below (get_or-take size t k d (omega arith) ∙ sym (get_or-take m t k d below) ∙ e) in
    record {
      within = omega arith;
      begins = (ones (size - length front) ++ zeros (filling size), (front ++ ones (size - length front), filled_text front size (omega arith) clean));
      longest = λ n h b. elim (cases_lt m n) [
        | inl more ↦ absurd (text_fits_not size t b.0 b.1.0 m n more h inside is b.1.1)
        | inr le ↦ le
      ];
      unfinished = λ f r v e x.
          let all : take (length t) t ≡ t = take_all (length t) t (omega arith) in
          let size_f : length t ≡ length f + length r = ap length e ∙ length-append f r in
          let here : m < length v = omega (arith, x.long) in
          let front_v : m < length f = omega (arith, text_long size f v x) in
          x.clean m 0 here (sym (get_or_append_left v x.padding 0 m here) ∙ ap (λ q. get_or q m 0) (sym x.cut) ∙ sym (get_or_append_left f r 0 m front_v) ∙ ap (λ q. get_or q m 0) (sym e) ∙ is);
    }

-- a clean text that is too short
short_text : (size : ℕ) (t : List ℕ) → length (take size t) ≤ clean_length (take size t) → length t < whole size → Stops (TextOf size) t (length t)
short_text size t clean few =
    let front : List ℕ = take size t in
    let all : List ℕ = ones (size - length front) ++ zeros (filling size) in
    let small : length front ≤ size = omega (arith, length-take size t) in
    let made = filled_text front size small (clean_text front clean) in
    elim (cases_lt (length t) size) [
      | inl lt ↦ let same : front ≡ t = take_all size t (omega arith) in
          short_stops (TextOf size) t all (front ++ ones (size - length front)) (subst (λ q. TextOf size (q ++ all) (front ++ ones (size - length front))) same made)
          (λ f v x. let long : length f ≡ whole size = text_long size f v x in let r : length t < length f = omega arith in r)
      | inr le ↦ let long : length front ≡ size = omega (arith, length-take size t) in
          let rest : List ℕ = drop size t in
          let more : List ℕ = zeros (filling size - length rest) in
          let room : length rest ≡ length t - size = length-drop size t in
          short_stops (TextOf size) t more front
          (record {
            padding = rest ++ more;
            cut = ap (λ q. q ++ more) (sym (take-append-drop size t)) ∙ append_assoc front rest more;
            long = long;
            clean = clean_text front clean;
            filled = omega (arith, length-append rest more, length-replicate {A = ℕ} (filling size - length rest) 0);
          })
          (λ f v x. let wide : length f ≡ whole size = text_long size f v x in let r : length t < length f = omega arith in r)
    ]

-- ---- the reader

data TextRead (bytes : List ℕ) (size from : ℕ) (result : Result (List ℕ × ℕ) PduFault) : Type 0 where
  has_zero : clean_length (take size (drop from bytes)) < length (take size (drop from bytes)) → result ≡ Err (Body (from + clean_length (take size (drop from bytes)))) → TextRead bytes size from result
  ends : length (take size (drop from bytes)) ≤ clean_length (take size (drop from bytes)) → length bytes < from + whole size → result ≡ Err (Body (length bytes)) → TextRead bytes size from result
  stands : length (take size (drop from bytes)) ≤ clean_length (take size (drop from bytes)) → from + whole size ≤ length bytes → result ≡ Ok (take size (drop from bytes), from + whole size) → TextRead bytes size from result

text_read : (bytes : List ℕ) (size from : ℕ) → TextRead bytes size from (text_behind bytes size from)
text_read bytes size from =
    let t : List ℕ = take size (drop from bytes) in
    let c : ℕ = clean_length t in
    elim (cases_lt c (length t)) [
      | inl lt ↦ has_zero lt (cond-true (ltb c (length t)) (Err (Body (from + c))) (cond (ltb (length bytes) (from + whole size)) (Err (Body (length bytes))) (Ok (t, from + whole size))) (lt-ltb c (length t) lt))
      | inr le ↦ let first = cond-false (ltb c (length t)) (Err (Body (from + c))) (cond (ltb (length bytes) (from + whole size)) (Err (Body (length bytes))) (Ok (t, from + whole size))) (le-ltb c (length t) le) in
          elim (cases_lt (length bytes) (from + whole size)) [
            | inl few ↦ ends le few (first ∙ cond-true (ltb (length bytes) (from + whole size)) (Err (Body (length bytes))) (Ok (t, from + whole size)) (lt-ltb (length bytes) (from + whole size) few))
            | inr long ↦ stands le long (first ∙ cond-false (ltb (length bytes) (from + whole size)) (Err (Body (length bytes))) (Ok (t, from + whole size)) (le-ltb (length bytes) (from + whole size) long))
          ]
    ]

text_stands : (bytes : List ℕ) (size from : ℕ) → length (take size (drop from bytes)) ≤ clean_length (take size (drop from bytes)) → from + whole size ≤ length bytes
    → Takes (TextOf size) bytes from (take size (drop from bytes)) (from + whole size)
text_stands bytes size from clean long =
    let t : List ℕ = drop from bytes in
    let room : length t ≡ length bytes - from = length-drop from bytes in
    let text : List ℕ = take (whole size) t in
    let low : size ≤ whole size = omega arith in
    let split : text ≡ take size t ++ take (filling size) (drop size t) =
    sym (take-append-drop size text) ∙ ap (λ q. q ++ drop size text) (take-take size (whole size) t low) ∙ ap (λ q. take size t ++ q) (drop-take size (filling size) t) in
    let length_text : length text ≡ whole size = omega (arith, length-take (whole size) t) in
    record {
      text = text;
      spans = record {
        cut = sym (take-append-drop (whole size) t) ∙ ap (λ q. text ++ q) (drop-drop (whole size) from bytes);
        size = ap (λ n. from + n) (sym length_text);
        within = long;
      };
      fits = record {
        padding = take (filling size) (drop size t);
        cut = split;
        long = omega (arith, length-take size t);
        clean = clean_text (take size t) clean;
        filled = omega (arith, length-take (filling size) (drop size t), length-drop size t);
      };
    }

text_takes : (bytes : List ℕ) (size from next : ℕ) (v : List ℕ) → text_behind bytes size from ≡ Ok (v, next) → Takes (TextOf size) bytes from v next
text_takes bytes size from next v e =
    elim (text_read bytes size from) [
      | has_zero lt is ↦ absurd (not_both (v, next) (Body (from + clean_length (take size (drop from bytes)))) (sym e ∙ is))
      | ends le few is ↦ absurd (not_both (v, next) (Body (length bytes)) (sym e ∙ is))
      | stands le long is ↦ let same : (take size (drop from bytes), from + whole size) ≡ (v, next) = ok_is (take size (drop from bytes), from + whole size) (v, next) (sym is ∙ e) in
          subst (λ (p : List ℕ × ℕ). Takes (TextOf size) bytes from p.0 p.1) same (text_stands bytes size from le long)
    ]

text_again : (bytes : List ℕ) (size from : ℕ) (text rest v : List ℕ) → from ≤ length bytes → drop from bytes ≡ text ++ rest → TextOf size text v → text_behind bytes size from ≡ Ok (v, from + length text)
text_again bytes size from text rest v h e x =
    let t : List ℕ = drop from bytes in
    let wide : length text ≡ whole size = text_long size text v x in
    let room : length bytes - from ≡ length text + length rest = sym (length-drop from bytes) ∙ ap length e ∙ length-append text rest in
    let front : take size t ≡ v = ap (take size) (e ∙ ap (λ q. q ++ rest) x.cut ∙ append_assoc v x.padding rest) ∙ take_at v (x.padding ++ rest) size x.long in
    let clean : clean_length (take size t) ≡ length (take size t) = ap clean_length front ∙ text_clean v x.clean ∙ ap length (sym front) in
    elim (text_read bytes size from) [
      | has_zero lt is ↦ absurd (omega arith)
      | ends le few is ↦ absurd (omega arith)
      | stands le long is ↦ is ∙ ap (λ q. done (q, from + whole size)) front ∙ ap (λ n. done (v, from + n)) (sym wide)
    ]

text_stops : (bytes : List ℕ) (size from : ℕ) (e : PduFault) → from ≤ length bytes → text_behind bytes size from ≡ Err e → StopsAt (TextOf size) bytes from e
text_stops bytes size from e h is =
    let t : List ℕ = drop from bytes in
    let room : length t ≡ length bytes - from = length-drop from bytes in
    elim (text_read bytes size from) [
      | has_zero lt f ↦ record { k = clean_length (take size t); is = err_is (List ℕ × ℕ) e (Body (from + clean_length (take size t))) (sym is ∙ f); stops = zero_stops size t lt }
      | ends le few f ↦ let offset : length bytes ≡ from + length t = omega arith in
          record { k = length t; is = err_is (List ℕ × ℕ) e (Body (length bytes)) (sym is ∙ f) ∙ ap Body offset; stops = short_text size t le (omega arith) }
      | stands le long f ↦ absurd (not_both (take size t, from + whole size) e (sym f ∙ is))
    ]

all_ones : (size : ℕ) → TextOf size (ones size ++ zeros (filling size)) (ones size)
unfolding ones
all_ones size = record {
  padding = zeros (filling size);
  cut = refl;
  long = length-replicate size 1;
  clean = λ k d lt e. let inside : k < size = omega (arith, length-replicate {A = ℕ} size 1) in let no : 1 ≡ 0 = sym (get_or-replicate {A = ℕ} size k 1 d inside) ∙ e in absurd (omega arith);
  filled = length-replicate (filling size) 0;
}

pub text_of_reads : (size : ℕ) → Reads (TextOf size) (λ bytes from. text_behind bytes size from)
text_of_reads size = record {
  takes = λ bytes from next v fits h e. text_takes bytes size from next v e;
  again = λ bytes from text rest v h e x. text_again bytes size from text rest v h e x;
  stops = λ bytes from e fits h is. text_stops bytes size from e h is;
  some = (ones size ++ zeros (filling size), ones size, all_ones size);
}

abbrev text_code : Code (List ℕ)
text_code = next word_code (λ size. code (TextOf size) (λ bytes from. text_behind bytes size from) (text_of_reads size))

pub text_reads : Reads TextField text_at
unfolding text_at
text_reads = text_code.reads

abbrev pair_code : Code (ℤ × List ℕ)
pair_code = next (code Signed signed_at signed_reads) (λ instance. next (code TextField text_at text_reads) (λ name. plain (instance, name)))

pub pair_reads : Reads Pair pair_at
unfolding pair_at
pair_reads = pair_code.reads
