-- What a reader answers, by its grammar: it takes what stands there, takes it whatever stands behind, and tells where bytes
-- stop being like any text.
use Rattle.std.proofs.Common.{◌≡◌, ℕ, zero, suc, ◌+◌, ◌≤◌, List, [], ◌∷◌, ◌++◌, length, take, drop, Result, Ok, Err, refl, sym, ap, ◌∙◌, append_assoc, arith}
use Rattle.std.proofs.lemmas.List.{take_at, length-append, length-drop}
use Rattle.pcp_base.proofs.Bytes.{IsBytes}
use Rattle.result_form.proofs.Spans.{Spans, nothing, joined, behind_text}
use Rattle.pdu_codec.specs.declared.fault.PduFault.{PduFault}
use Rattle.pdu_codec.specs.declared.fault.PduFault.TheVariants.{Body}
use Rattle.pdu_codec.specs.Reading.{◌>>=◌, many}
use Rattle.pdu_codec.specs.Grammar.{Is, Both, Many}
use Rattle.pdu_codec.proofs.Misfits.{Stops, IsPrefixFree, Has, first_stops, later_stops, same_stops}

pub record Takes {X : Type 0} (G : List ℕ → X → Type 0) (bytes : List ℕ) (at : ℕ) (x : X) (next : ℕ) : Type 0 where
  pub text : List ℕ
  pub spans : Spans bytes at text next
  pub fits : G text x

pub record StopsAt {X : Type 0} (G : List ℕ → X → Type 0) (bytes : List ℕ) (at : ℕ) (e : PduFault) : Type 0 where
  pub k : ℕ
  pub is : e ≡ Body (at + k)
  pub stops : Stops G (drop at bytes) k

pub record Reads {X : Type 0} (G : List ℕ → X → Type 0) (read : List ℕ → ℕ → Result (X × ℕ) PduFault) : Type 0 where
  pub takes : (bytes : List ℕ) (at next : ℕ) (x : X) → IsBytes bytes → at ≤ length bytes → read bytes at ≡ Ok (x, next) → Takes G bytes at x next
  pub again : (bytes : List ℕ) (at : ℕ) (text rest : List ℕ) (x : X) → at ≤ length bytes → drop at bytes ≡ text ++ rest → G text x → read bytes at ≡ Ok (x, at + length text)
  pub stops : (bytes : List ℕ) (at : ℕ) (e : PduFault) → IsBytes bytes → at ≤ length bytes → read bytes at ≡ Err e → StopsAt G bytes at e
  pub some : Has G

abbrev pub done : {A : Type 0} → A → Result A PduFault
done x = Ok x

abbrev pub failed : (A : Type 0) → PduFault → Result A PduFault
failed A e = Err e

pub ok_is : {A : Type 0} (x y : A) → done x ≡ done y → x ≡ y
ok_is x y e = cc

pub not_both : {A : Type 0} (x : A) (e : PduFault) → done x ≡ failed A e → ⊥
not_both x e h = absurd cc

pub err_is : (A : Type 0) (e f : PduFault) → failed A e ≡ failed A f → e ≡ f
err_is A e f h = cc

-- the value of a step that did not fail
pub bind_ok : {A B : Type 0} (r : Result A PduFault) (f : A → Result B PduFault) (y : B) → (r >>= f) ≡ Ok y → (x : A) × (r ≡ Ok x) × (f x ≡ Ok y)
bind_ok (Ok x) f y e = (x, refl, e)
bind_ok {B = B} (Err d) f y e = absurd (not_both y d (sym e))

-- how a failure came
pub data Failure {A B : Type 0} (r : Result A PduFault) (f : A → Result B PduFault) (e : PduFault) : Type 0 where
  at_once : r ≡ Err e → Failure r f e
  later : (x : A) → r ≡ Ok x → f x ≡ Err e → Failure r f e

pub bind_err : {A B : Type 0} (r : Result A PduFault) (f : A → Result B PduFault) (e : PduFault) → (r >>= f) ≡ Err e → Failure r f e
bind_err (Ok x) f e h = later x refl h
bind_err {A = A} {B = B} (Err d) f e h = at_once (ap (failed A) (err_is B d e h))

-- readers tell grammars in which no text begins another
pub free_of : {X : Type 0} (G : List ℕ → X → Type 0) (read : List ℕ → ℕ → Result (X × ℕ) PduFault) → Reads G read → IsPrefixFree G
free_of {X = X} G read is f g r s x y one two e =
    let a : read (f ++ r) 0 ≡ Ok (x, 0 + length f) = is.again (f ++ r) 0 f r x (omega arith) refl one in
    let b : read (f ++ r) 0 ≡ Ok (y, 0 + length g) = is.again (f ++ r) 0 g s y (omega arith) e two in
    let same : (x, 0 + length f) ≡ (y, 0 + length g) = ok_is (x, 0 + length f) (y, 0 + length g) (sym a ∙ b) in
    let long : length f ≡ length g = let h : 0 + length f ≡ 0 + length g = ap (λ (p : X × ℕ). p.1) same in omega arith in
    (sym (take_at f r (length f) refl) ∙ ap (take (length f)) e ∙ take_at g s (length f) (sym long), ap (λ (p : X × ℕ). p.0) same)

-- the same bytes, read in another way
pub same_reads : {X : Type 0} (G : List ℕ → X → Type 0) (read other : List ℕ → ℕ → Result (X × ℕ) PduFault) → Reads G read → ((bytes : List ℕ) (at : ℕ) → other bytes at ≡ read bytes at) → Reads G other
same_reads G read other is same = record {
  takes = λ bytes at next x fits h e. is.takes bytes at next x fits h (sym (same bytes at) ∙ e);
  again = λ bytes at text rest x h e g. same bytes at ∙ is.again bytes at text rest x h e g;
  stops = λ bytes at f fits h e. is.stops bytes at f fits h (sym (same bytes at) ∙ e);
  some = is.some;
}

-- the same texts, told in another way
pub same_grammar : {X : Type 0} (G K : List ℕ → X → Type 0) (read : List ℕ → ℕ → Result (X × ℕ) PduFault) → ((f : List ℕ) (x : X) → G f x → K f x) → ((f : List ℕ) (x : X) → K f x → G f x) → Reads G read → Reads K read
same_grammar G K read to from is = record {
  takes = λ bytes at next x fits h e. let t = is.takes bytes at next x fits h e in record { text = t.text; spans = t.spans; fits = to t.text x t.fits };
  again = λ bytes at text rest x h e g. is.again bytes at text rest x h e (from text x g);
  stops = λ bytes at f fits h e. let s = is.stops bytes at f fits h e in record { k = s.k; is = s.is; stops = same_stops G K (drop at bytes) s.k to from s.stops };
  some = (is.some.0, is.some.1, to is.some.0 is.some.1 is.some.2);
}

-- nothing to read
pub is_reads : {X : Type 0} (x : X) → Reads (Is x) (λ bytes at. Ok (x, at))
is_reads {X = X} x = record {
  takes = λ bytes at next y fits h e.
      let same : (x, at) ≡ (y, next) = ok_is (x, at) (y, next) e in
      record { text = []; spans = nothing bytes at next (sym (ap (λ (p : X × ℕ). p.1) same)) h; fits = (refl, sym (ap (λ (p : X × ℕ). p.0) same)) };
  again = λ bytes at text rest y h e g.
      let none : length text ≡ 0 = ap length g.0 in
      let here : at ≡ at + length text = omega arith in
      ap (λ n. done (x, n)) here ∙ ap (λ v. done (v, at + length text)) (sym g.1);
  stops = λ bytes at e fits h is. absurd (not_both (x, at) e is);
  some = ([], x, (refl, refl));
}

module _ {X Y : Type 0} (G : List ℕ → X → Type 0) (H : X → List ℕ → Y → Type 0) (r : List ℕ → ℕ → Result (X × ℕ) PduFault) (s : X → List ℕ → ℕ → Result (Y × ℕ) PduFault) (one : Reads G r) (two : (x : X) → Reads (H x) (s x)) where
  abbrev both_read : List ℕ → ℕ → Result (Y × ℕ) PduFault
  both_read bytes at = r bytes at >>= λ p. s p.0 bytes p.1

  both_takes : (bytes : List ℕ) (at next : ℕ) (y : Y) → IsBytes bytes → at ≤ length bytes → both_read bytes at ≡ Ok (y, next) → Takes (Both G H) bytes at y next
  both_takes bytes at next y fits h e =
      let a = bind_ok (r bytes at) (λ p. s p.0 bytes p.1) (y, next) e in
      let first = one.takes bytes at a.0.1 a.0.0 fits h a.1 in
      let second = (two a.0.0).takes bytes a.0.1 next y fits first.spans.within a.2 in
      record {
        text = first.text ++ second.text;
        spans = joined bytes at a.0.1 next first.text second.text first.spans second.spans;
        fits = record { value = a.0.0; front = first.text; back = second.text; cut = refl; first = first.fits; second = second.fits };
      }

  both_again : (bytes : List ℕ) (at : ℕ) (text rest : List ℕ) (y : Y) → at ≤ length bytes → drop at bytes ≡ text ++ rest → Both G H text y → both_read bytes at ≡ Ok (y, at + length text)
  both_again bytes at text rest y h e g =
      let cut : drop at bytes ≡ g.front ++ (g.back ++ rest) = e ∙ ap (λ t. t ++ rest) g.cut ∙ append_assoc g.front g.back rest in
      let a : r bytes at ≡ Ok (g.value, at + length g.front) = one.again bytes at g.front (g.back ++ rest) g.value h cut g.first in
      let behind : drop (at + length g.front) bytes ≡ g.back ++ rest = behind_text bytes at (at + length g.front) g.front (g.back ++ rest) refl cut in
      let within : at + length g.front ≤ length bytes = omega (arith, h, length-drop at bytes, ap length cut, length-append g.front (g.back ++ rest)) in
      let b : s g.value bytes (at + length g.front) ≡ Ok (y, at + length g.front + length g.back) = (two g.value).again bytes (at + length g.front) g.back rest y within behind g.second in
      let long : at + length g.front + length g.back ≡ at + length text = omega (arith, ap length g.cut, length-append g.front g.back) in
      ap (λ (q : Result (X × ℕ) PduFault). q >>= λ p. s p.0 bytes p.1) a ∙ b ∙ ap (λ n. done (y, n)) long

  both_stops : (bytes : List ℕ) (at : ℕ) (e : PduFault) → IsBytes bytes → at ≤ length bytes → both_read bytes at ≡ Err e → StopsAt (Both G H) bytes at e
  both_stops bytes at e fits h is =
      elim (bind_err (r bytes at) (λ p. s p.0 bytes p.1) e is) [
        | at_once a ↦ let f = one.stops bytes at e fits h a in
            record { k = f.k; is = f.is; stops = first_stops G H (drop at bytes) f.k (λ x. (two x).some) f.stops }
        | later p a b ↦ let t = one.takes bytes at p.1 p.0 fits h a in
            let f = (two p.0).stops bytes p.1 e fits t.spans.within b in
            let offset : p.1 + f.k ≡ at + (length t.text + f.k) = omega (arith, t.spans.size) in
            record {
              k = length t.text + f.k;
              is = f.is ∙ ap Body offset;
              stops = later_stops G H (drop at bytes) t.text (drop p.1 bytes) p.0 f.k t.spans.cut (free_of G r one) t.fits f.stops;
            }
      ]

  both_some : Has (Both G H)
  both_some =
      let a = one.some in
      let b = (two a.1).some in
      (a.0 ++ b.0, b.1, record { value = a.1; front = a.0; back = b.0; cut = refl; first = a.2; second = b.2 })

  pub both_reads : Reads (Both G H) (λ bytes at. r bytes at >>= λ p. s p.0 bytes p.1)
  both_reads = record { takes = both_takes; again = both_again; stops = both_stops; some = both_some }

-- ---- a grammar with its reader

pub record Code (X : Type 0) : Type 1 where
  pub grammar : List ℕ → X → Type 0
  pub read : List ℕ → ℕ → Result (X × ℕ) PduFault
  pub reads : Reads grammar read

abbrev pub code : {X : Type 0} (G : List ℕ → X → Type 0) (read : List ℕ → ℕ → Result (X × ℕ) PduFault) → Reads G read → Code X
code G read is = record { grammar = G; read = read; reads = is }

abbrev pub plain : {X : Type 0} → X → Code X
plain x = record { grammar = Is x; read = λ bytes at. Ok (x, at); reads = is_reads x }

abbrev pub next : {X Y : Type 0} → Code X → (X → Code Y) → Code Y
next a f = record {
  grammar = Both a.grammar (λ x. (f x).grammar);
  read = λ bytes at. a.read bytes at >>= λ p. (f p.0).read bytes p.1;
  reads = both_reads a.grammar (λ x. (f x).grammar) a.read (λ x. (f x).read) a.reads (λ x. (f x).reads);
}

-- ---- so many, one behind another

pub many_reads : {X : Type 0} (G : List ℕ → X → Type 0) (read : List ℕ → ℕ → Result (X × ℕ) PduFault) → Reads G read → (n : ℕ) → Reads (Many G n) (λ bytes at. many read bytes n at)
unfolding many
many_reads G read is zero = is_reads []
many_reads {X = X} G read is (suc n) =
    (next (code G read is) (λ x. next (code (Many G n) (λ bytes at. many read bytes n at) (many_reads G read is n)) (λ xs. plain (x ∷ xs)))).reads

abbrev pub list_of : {X : Type 0} → Code X → ℕ → Code (List X)
list_of a n = record { grammar = Many a.grammar n; read = λ bytes at. many a.read bytes n at; reads = many_reads a.grammar a.read a.reads n }
