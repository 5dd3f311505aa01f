-- Where bytes stop being like any text of a grammar: of two texts one behind the other, the first offset is that of the
-- first, or else that of the second.
use Rattle.std.proofs.Common.{◌≡◌, ℕ, ◌+◌, ◌-◌, ◌<◌, ◌≤◌, List, [], ◌++◌, length, take, drop, refl, sym, ap, ◌∙◌, subst, append_assoc, arith, inl, inr}
use Rattle.std.proofs.lemmas.Bool.{cases_lt}
use Rattle.std.proofs.lemmas.List.{take_at, take-append-le, take_all, length-append, length-take-le, append-nil, append_cancel_left, take-append-drop}
use Rattle.std.proofs.Math.Seq.{take-append-add}
use Rattle.archive_frame.specs.Misfits.{BeginsOne, IsFirstMisfit}
use Rattle.pdu_codec.specs.Grammar.{Both}

-- a text of some value
abbrev pub Some : {X : Type 0} → (List ℕ → X → Type 0) → List ℕ → Type 0
Some {X = X} G text = (x : X) × G text x

-- Bytes go on like a text up to here and no further, and no text stands in front of them.
pub record Stops {X : Type 0} (G : List ℕ → X → Type 0) (t : List ℕ) (k : ℕ) : Type 0 where
  pub within : k ≤ length t
  pub begins : BeginsOne (Some G) (take k t)
  pub longest : (n : ℕ) → n ≤ length t → BeginsOne (Some G) (take n t) → n ≤ k
  pub unfinished : (f r : List ℕ) (x : X) → t ≡ f ++ r → G f x → ⊥

-- no text begins another, nor says two things
abbrev pub IsPrefixFree : {X : Type 0} → (List ℕ → X → Type 0) → Type 0
IsPrefixFree {X = X} G = (f g r s : List ℕ) (x y : X) → G f x → G g y → f ++ r ≡ g ++ s → (f ≡ g) × (x ≡ y)

-- some text
abbrev pub Has : {X : Type 0} → (List ℕ → X → Type 0) → Type 0
Has {X = X} G = (text : List ℕ) × (x : X) × G text x

-- the shorter of two fronts of bytes is the front of the longer
pub front_of : (a b f g : List ℕ) → a ++ b ≡ f ++ g → length f ≤ length a → (more : List ℕ) × (a ≡ f ++ more)
front_of a b f g e h =
    (drop (length f) a, sym (take-append-drop (length f) a) ∙ ap (λ t. t ++ drop (length f) a) (sym (take-append-le (length f) a b h) ∙ ap (take (length f)) e ∙ take_at f g (length f) refl))

module _ {X Y : Type 0} (G : List ℕ → X → Type 0) (H : X → List ℕ → Y → Type 0) where
  first_longest : (t : List ℕ) (k n : ℕ) → Stops G t k → n ≤ length t → BeginsOne (Some (Both G H)) (take n t) → n ≤ k
  first_longest t k n s h b =
      let both = b.1.1 in
      let long : length (take n t) ≡ n = length-take-le n t h in
      elim (cases_lt (length both.front) n) [
        | inl lt ↦ let more = front_of (take n t) b.0 both.front both.back both.cut (omega arith) in
            absurd (s.unfinished both.front (more.0 ++ drop n t) both.value (sym (take-append-drop n t) ∙ ap (λ x. x ++ drop n t) more.1 ∙ append_assoc both.front more.0 (drop n t)) both.first)
        | inr le ↦ let more = front_of both.front both.back (take n t) b.0 (sym both.cut) (omega arith) in
            s.longest n h (more.0, (both.value, subst (λ x. G x both.value) more.1 both.first))
      ]

  -- the first text stops
  pub first_stops : (t : List ℕ) (k : ℕ) → ((x : X) → Has (H x)) → Stops G t k → Stops (Both G H) t k
  first_stops t k some s =
      let more : List ℕ = s.begins.0 in
      let x : X = s.begins.1.0 in
      let back = some x in
      record {
        within = s.within;
        begins = (
          more ++ back.0,
          (back.1, record { value = x; front = take k t ++ more; back = back.0; cut = sym (append_assoc (take k t) more back.0); first = s.begins.1.1; second = back.2 }),
        );
        longest = λ n h b. first_longest t k n s h b;
        unfinished = λ f r y e both. s.unfinished both.front (both.back ++ r) both.value (e ∙ ap (λ q. q ++ r) both.cut ∙ append_assoc both.front both.back r) both.first;
      }

  later_longest : (t front rest : List ℕ) (x : X) (k n : ℕ) → t ≡ front ++ rest → IsPrefixFree G → G front x → Stops (H x) rest k → n ≤ length t → BeginsOne (Some (Both G H)) (take n t) → n ≤ length front + k
  later_longest t front rest x k n e free fits s h b =
      elim (cases_lt n (length front)) [
        | inl lt ↦ omega arith
        | inr le ↦ let both = b.1.1 in
            let m : ℕ = n - length front in
            let n_is : n ≡ length front + m = omega arith in
            let cut : take n t ≡ front ++ take m rest = ap (take n) e ∙ ap (λ i. take i (front ++ rest)) n_is ∙ take-append-add front rest m in
            let size : length t ≡ length front + length rest = ap length e ∙ length-append front rest in
            let all : front ++ (take m rest ++ b.0) ≡ both.front ++ both.back = sym (append_assoc front (take m rest) b.0) ∙ ap (λ q. q ++ b.0) (sym cut) ∙ both.cut in
            let same = free front both.front (take m rest ++ b.0) both.back x both.value fits both.first all in
            let behind : take m rest ++ b.0 ≡ both.back = append_cancel_left front (take m rest ++ b.0) both.back (all ∙ ap (λ q. q ++ both.back) (sym same.0)) in
            let few : m ≤ k = s.longest m (omega arith) (b.0, (b.1.0, subst (λ q. H x q b.1.0) (sym behind) (subst (λ v. H v both.back b.1.0) (sym same.1) both.second))) in
            omega arith
      ]

  -- the first text stands, and the second stops
  pub later_stops : (t front rest : List ℕ) (x : X) (k : ℕ) → t ≡ front ++ rest → IsPrefixFree G → G front x → Stops (H x) rest k → Stops (Both G H) t (length front + k)
  later_stops t front rest x k e free fits s =
      let size : length t ≡ length front + length rest = ap length e ∙ length-append front rest in
      let cut : take (length front + k) t ≡ front ++ take k rest = ap (take (length front + k)) e ∙ take-append-add front rest k in
      let more : List ℕ = s.begins.0 in
      record {
        within = omega (arith, s.within);
        begins = (
          more,
          (s.begins.1.0, record { value = x; front = front; back = take k rest ++ more; cut = ap (λ q. q ++ more) cut ∙ append_assoc front (take k rest) more; first = fits; second = s.begins.1.1 }),
        );
        longest = λ n h b. later_longest t front rest x k n e free fits s h b;
        unfinished = λ f r y is both.
            let all : front ++ rest ≡ both.front ++ (both.back ++ r) = sym e ∙ is ∙ ap (λ q. q ++ r) both.cut ∙ append_assoc both.front both.back r in
            let same = free front both.front rest (both.back ++ r) x both.value fits both.first all in
            let behind : rest ≡ both.back ++ r = append_cancel_left front rest (both.back ++ r) (all ∙ ap (λ q. q ++ (both.back ++ r)) (sym same.0)) in
            s.unfinished both.back r y behind (subst (λ v. H v both.back y) (sym same.1) both.second);
      }

-- bytes that are fewer than any text, and begin one
pub short_stops : {X : Type 0} (G : List ℕ → X → Type 0) (t more : List ℕ) (x : X) → G (t ++ more) x → ((f : List ℕ) (y : X) → G f y → length t < length f) → Stops G t (length t)
short_stops G t more x fits short = record {
  within = omega arith;
  begins = (more, (x, subst (λ q. G (q ++ more) x) (sym (take_all (length t) t (omega arith))) fits));
  longest = λ n h b. h;
  unfinished = λ f r y e g. let size : length t ≡ length f + length r = ap length e ∙ length-append f r in let more : length t < length f = short f y g in absurd (omega arith);
}

-- the same texts stop at the same offset
pub same_stops : {X : Type 0} (G K : List ℕ → X → Type 0) (t : List ℕ) (k : ℕ) → ((f : List ℕ) (x : X) → G f x → K f x) → ((f : List ℕ) (x : X) → K f x → G f x) → Stops G t k → Stops K t k
same_stops G K t k to from s = record {
  within = s.within;
  begins = (s.begins.0, (s.begins.1.0, to (take k t ++ s.begins.0) s.begins.1.0 s.begins.1.1));
  longest = λ n h b. s.longest n h (b.0, (b.1.0, from (take n t ++ b.0) b.1.0 b.1.1));
  unfinished = λ f r x e g. s.unfinished f r x e (from f x g);
}

-- ---- whole texts

-- what stops is none
pub stopped : {X : Type 0} (G : List ℕ → X → Type 0) (t : List ℕ) (k : ℕ) → Stops G t k → IsFirstMisfit (Some G) t k
stopped G t k s = record {
  none = λ g. s.unfinished t [] g.0 (sym (append-nil t)) g.1;
  within = s.within;
  begins = s.begins;
  longest = s.longest;
}

-- and so is a text with bytes behind it
pub exceeded : {X : Type 0} (G : List ℕ → X → Type 0) (t front rest : List ℕ) (x : X) → IsPrefixFree G → t ≡ front ++ rest → G front x → length front < length t → IsFirstMisfit (Some G) t (length front)
exceeded G t front rest x free e fits more =
    let same : take (length front) t ≡ front = ap (take (length front)) e ∙ take_at front rest (length front) refl in
    record {
      none = λ g. let one = free front t rest [] x g.0 fits g.1 (sym e ∙ sym (append-nil t)) in let size : length front ≡ length t = ap length one.0 in absurd (omega arith);
      within = omega arith;
      begins = ([], (x, subst (λ q. G q x) (sym (append-nil (take (length front) t) ∙ same)) fits));
      longest = λ n h b. elim (cases_lt (length front) n) [
        | inl lt ↦ let long : length (take n t) ≡ n = length-take-le n t h in
            let behind = front_of (take n t) (drop n t) front rest (take-append-drop n t ∙ e) (omega arith) in
            let all : front ++ (behind.0 ++ b.0) ≡ (take n t ++ b.0) ++ [] = sym (append_assoc front behind.0 b.0) ∙ ap (λ q. q ++ b.0) (sym behind.1) ∙ sym (append-nil (take n t ++ b.0)) in
            let one = free front (take n t ++ b.0) (behind.0 ++ b.0) [] x b.1.0 fits b.1.1 all in
            let size : length front ≡ length (take n t) + length b.0 = ap length one.0 ∙ length-append (take n t) b.0 in
            absurd (omega arith)
        | inr le ↦ le
      ];
    }
