-- What a text is, by the first zero byte.
use Rattle.std.proofs.Common.{◌≡◌, ◌≢◌, ◌⊎◌, inl, inr, ℕ, ◌+◌, ◌-◌, ◌<◌, ◌≤◌, Bool, true, false, cond, ltb, List, [], ◌∷◌, ◌++◌, length, get_or, take, drop, position, Option, Some, None, refl, sym, ap, ◌∙◌, subst, arith}
use Rattle.std.specs.Prelude.{is_none, IfSome, IfNone}
use Rattle.std.specs.List.{position_or_len}
use Rattle.std.proofs.lemmas.Bool.{cases_lt, lt-ltb, le-ltb, ltb-false, eqb-false, eqb-true, eq-eqb, ne_eqb}
use Rattle.std.proofs.lemmas.List.{take_at, take-take, take_more, length-append, length-take, length-drop, length-take-le, get_or-take, get_or_append_left, get_or-append_right}
use Rattle.std.proofs.lemmas.List.Sums.{position_or_len_is, fails_before_first}
use Rattle.std.proofs.lemmas.List.Quantifiers.{position-Some}
use Rattle.std.proofs.lemmas.Grind.{get_or_default_zero}
use Rattle.memchr.specs.Find.{Nowhere, Passes, IsFirstByte, is_byte}
use Rattle.pcp_base.specs.Texts.{IsText}
use Rattle.pcp_model.specs.Records.{NameStands}
use Rattle.pcp_model.specs.Instances.{◌>>=◌, is_zero, text_of, name_at}

-- the value of a step that gave one
pub bind_some : {A B : Type 0} (o : Option A) (f : A → Option B) (y : B) → (o >>= f) ≡ Some y → (x : A) × (o ≡ Some x) × (f x ≡ Some y)
bind_some (Some x) f y e = (x, refl, e)
bind_some None f y e = absurd cc

pub some_is : {A : Type 0} (x y : A) → Some x ≡ Some y → x ≡ y
some_is x y e = cc

-- tests that let a value through
pub past : {A : Type 0} (b : Bool) (o : Option A) (y : A) → cond b None o ≡ Some y → (b ≡ false) × (o ≡ Some y)
past true o y e = absurd cc
past false o y e = (refl, e)

pub only : {A : Type 0} (b : Bool) (o : Option A) (y : A) → cond b o None ≡ Some y → (b ≡ true) × (o ≡ Some y)
only true o y e = (refl, e)
only false o y e = absurd cc

abbrev first_zero : List ℕ → ℕ
first_zero bytes = position_or_len is_zero bytes

first_at : (bytes : List ℕ) (at : ℕ) → at < length bytes → get_or bytes at 0 ≡ 0 → ((k : ℕ) → k < at → get_or bytes k 0 ≢ 0) → first_zero bytes ≡ at
first_at bytes at within zero before =
    position_or_len_is is_zero bytes at 0 (omega arith) (λ k h. ne_eqb (get_or bytes k 0) 0 (before k h)) (λ _. eq-eqb (get_or bytes at 0) 0 zero)

pub position_at : (bytes : List ℕ) (at : ℕ) → at < length bytes → get_or bytes at 0 ≡ 0 → ((k : ℕ) → k < at → get_or bytes k 0 ≢ 0) → position is_zero bytes ≡ Some at
position_at bytes at within zero before =
    let e : first_zero bytes ≡ at = first_at bytes at within zero before in
    ap (λ b. cond b (Some (first_zero bytes)) None) (lt-ltb (first_zero bytes) (length bytes) (omega arith)) ∙ ap Some e

pub position_none : (bytes : List ℕ) → IsText bytes → position is_zero bytes ≡ None
position_none bytes clean =
    let e : first_zero bytes ≡ length bytes = position_or_len_is is_zero bytes (length bytes) 0 (omega arith) (λ k h. ne_eqb (get_or bytes k 0) 0 (clean k 0 h)) (λ h. absurd (omega arith)) in
    ap (λ b. cond b (Some (first_zero bytes)) None) (le-ltb (first_zero bytes) (length bytes) (omega arith))

clean_where : (bytes : List ℕ) → length bytes ≤ first_zero bytes → IsText bytes
clean_where bytes h k d lt = eqb-false (get_or bytes k d) 0 (fails_before_first is_zero bytes k d (omega arith))

-- none is zero, or those up to the first that is
pub zero_cases : (bytes : List ℕ) → IsText bytes ⊎ ((end : ℕ) × (position is_zero bytes ≡ Some end) × IsText (take end bytes))
zero_cases bytes =
    elim (cases_lt (first_zero bytes) (length bytes)) [
      | inl lt ↦ inr (first_zero bytes, ap (λ b. cond b (Some (first_zero bytes)) None) (lt-ltb (first_zero bytes) (length bytes) lt), clean)
      | inr le ↦ inl (clean_where bytes le)
    ]
  where
    clean : IsText (take (first_zero bytes) bytes)
    clean k d within =
        let low : k < first_zero bytes = omega (arith, length-take (first_zero bytes) bytes) in
        λ zero. eqb-false (get_or bytes k d) 0 (fails_before_first is_zero bytes k d low) (sym (get_or-take (first_zero bytes) bytes k d low) ∙ zero)

none_where : (b : Bool) (n : ℕ) → is_none (cond b (Some n) None) ≡ true → b ≡ false
none_where true n e = absurd cc
none_where false n e = refl

pub text_clean : (bytes : List ℕ) → IsText bytes → text_of bytes ≡ Some bytes
text_clean bytes clean = ap (λ o. cond (is_none o) (Some bytes) None) (position_none bytes clean)

-- ---- what a search for the first zero byte tells

nowhere_zero : (bytes : List ℕ) → Nowhere (Passes (is_byte 0) bytes) 0 (length bytes) → IsText bytes
nowhere_zero bytes none k d within = λ zero. none k (omega arith) within (eq-eqb (get_or bytes k 0) 0 (sym (get_or_default_zero bytes k d within) ∙ zero))

front_clean : (bytes : List ℕ) (at : ℕ) → at ≤ length bytes → Nowhere (Passes (is_byte 0) bytes) 0 at → IsText (take at bytes)
front_clean bytes at short none k d within =
    let low : k < at = omega (arith, length-take-le at bytes short) in
    let in_all : k < length bytes = omega arith in
    λ zero. none k (omega arith) low (eq-eqb (get_or bytes k 0) 0 (sym (get_or_default_zero bytes k d in_all) ∙ sym (get_or-take at bytes k d low) ∙ zero))

pub zero_offset : (bytes : List ℕ) (r : Option ℕ) → IsFirstByte (is_byte 0) bytes r → r ≡ position is_zero bytes
zero_offset bytes None h = sym (position_none bytes (nowhere_zero bytes h))
zero_offset bytes (Some at) h =
    sym (position_at bytes at h.0.high (eqb-true (get_or bytes at 0) 0 h.1) (λ k low zero. h.0.before k (omega arith) low (eq-eqb (get_or bytes k 0) 0 zero)))

pub zero_within : (bytes : List ℕ) (r : Option ℕ) → IsFirstByte (is_byte 0) bytes r → IfSome r (λ at. at < length bytes)
zero_within bytes None h = tt
zero_within bytes (Some at) h = h.0.high

pub zero_front : (bytes : List ℕ) (r : Option ℕ) → IsFirstByte (is_byte 0) bytes r → IfSome r (λ at. IsText (take at bytes))
zero_front bytes None h = tt
zero_front bytes (Some at) h = front_clean bytes at (let lt : at < length bytes = h.0.high in omega arith) h.0.before

pub zero_nowhere : (bytes : List ℕ) (r : Option ℕ) → IsFirstByte (is_byte 0) bytes r → IfNone r (IsText bytes)
zero_nowhere bytes None h = nowhere_zero bytes h
zero_nowhere bytes (Some at) h = tt

-- what is a text
pub text_is : (bytes name : List ℕ) → text_of bytes ≡ Some name → (bytes ≡ name) × IsText name
text_is bytes name e =
    let o = only (is_none (position is_zero bytes)) (Some bytes) name e in
    let same : bytes ≡ name = some_is bytes name o.1 in
    (same, subst IsText same (clean_where bytes (ltb-false (first_zero bytes) (length bytes) (none_where (ltb (first_zero bytes) (length bytes)) (first_zero bytes) o.0))))

-- ---- names that a zero byte ends

pub name_stands : (table name : List ℕ) (offset : ℕ) → name_at table offset ≡ Some name → NameStands table offset name
unfolding name_at
name_stands table name offset e =
    let rest : List ℕ = drop offset table in
    let b = bind_some (position is_zero rest) (λ end. text_of (take end rest)) name e in
    let p = position-Some is_zero rest b.0 0 b.1 in
    let t = text_is (take b.0 rest) name b.2 in
    let zero : get_or rest b.0 0 ≡ 0 = eqb-true (get_or rest b.0 0) 0 p.1 in
    let long : length name ≡ b.0 = ap length (sym t.0) ∙ length-take-le b.0 rest (let h : b.0 < length rest = p.0 in omega arith) in
    record {
      text = t.1;
      is = ap (λ n. take (n + 1) rest) long ∙ take_more rest b.0 0 p.0 ∙ ap (λ x. take b.0 rest ++ x ∷ []) zero ∙ ap (λ x. x ++ 0 ∷ []) t.0;
    }

ended_clean : (name : List ℕ) (k : ℕ) → IsText name → k < length name → get_or (name ++ 0 ∷ []) k 0 ≢ 0
ended_clean name k clean h = subst (λ n. n ≢ 0) (sym (get_or_append_left name (0 ∷ []) 0 k h)) (clean k 0 h)

pub name_again : (table name : List ℕ) (offset : ℕ) → NameStands table offset name → name_at table offset ≡ Some name
unfolding name_at
name_again table name offset s =
    let rest : List ℕ = drop offset table in
    let n : ℕ = length name in
    let ended : length (name ++ 0 ∷ []) ≡ n + 1 = length-append name (0 ∷ []) in
    let cut : take (n + 1) rest ≡ name ++ 0 ∷ [] = s.is in
    let long : n + 1 ≤ length rest = omega (arith, ap length cut, length-take (n + 1) rest) in
    let same : (k : ℕ) → k < n + 1 → get_or rest k 0 ≡ get_or (name ++ 0 ∷ []) k 0 = λ k h. sym (get_or-take (n + 1) rest k 0 h) ∙ ap (λ t. get_or t k 0) cut in
    let zero : get_or rest n 0 ≡ 0 = same n (omega arith) ∙ get_or-append_right name (0 ∷ []) n n 0 refl (omega arith) ∙ ap (λ k. get_or (0 ∷ []) k 0) (let z : n - n ≡ 0 = omega arith in z) in
    let found : position is_zero rest ≡ Some n =
    position_at rest n (omega arith) zero (λ k h. subst (λ m. m ≢ 0) (sym (same k (omega arith))) (ended_clean name k s.text h)) in
    let front : take n rest ≡ name = sym (take_front rest n) ∙ ap (take n) cut ∙ take_at name (0 ∷ []) n refl in
    ap (λ o. o >>= λ end. text_of (take end rest)) found ∙ ap text_of front ∙ text_clean name s.text
  where
    take_front : (rest : List ℕ) (n : ℕ) → take n (take (n + 1) rest) ≡ take n rest
    take_front rest n = take-take n (n + 1) rest (omega arith)

-- an offset lies in its table
pub offset_within : (table name : List ℕ) (offset : ℕ) → NameStands table offset name → offset < length table
offset_within table name offset s =
    omega (arith, ap length s.is, length-append name (0 ∷ []), length-take (length name + 1) (drop offset table), length-drop offset table)
