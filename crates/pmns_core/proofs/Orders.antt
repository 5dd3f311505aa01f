-- The order of bytes with "not after", and what lies between two names in it.
use Rattle.std.proofs.Common.{◌≡◌, ℕ, true, false, List, [], ◌∷◌, ◌++◌, refl, sym, ap, ◌∙◌, subst, inl, inr, ◌⊎◌, arith}
use Rattle.std.proofs.lemmas.Bool.{cases_lt}
use Rattle.std.proofs.lemmas.List.{append-nil}
use Rattle.std.specs.declared.cmp.Ordering.{Ordering}
use Rattle.std.specs.declared.cmp.Ordering.TheVariants.{Less, Equal, Greater}
use Rattle.std.specs.Ordering.{nat_cmp, is_eq, is_lt, is_le, ordering_then, ordering_reverse}
use Rattle.std.specs.Cmp.{nat_cmp_total, nat_cmp_is, tied_itself}
use Rattle.std.specs.Cmp.Lexicographic.{nat_list_cmp_total}
use Rattle.pmns_core.specs.Order.{byte_order, is_before}
use Rattle.pmns_core.proofs.Bytes.{order_less, same_name, before_trans, between}

le_cases : (a b : List ℕ) → is_le (byte_order a b) ≡ true → (is_before a b ≡ true) ⊎ (a ≡ b)
le_cases a b h = by (byte_order a b) refl h
  where
    by : (o : Ordering) → byte_order a b ≡ o → is_le o ≡ true → (is_before a b ≡ true) ⊎ (a ≡ b)
    by Less e h = inl (ap is_lt e)
    by Equal e h = inr (same_name a b (ap is_eq e))
    by Greater e h = cc h

pub before_le : (a b : List ℕ) → is_before a b ≡ true → is_le (byte_order a b) ≡ true
before_le a b h = ap is_le (order_less (byte_order a b) h)

pub le_before : (a b c : List ℕ) → is_le (byte_order a b) ≡ true → is_before b c ≡ true → is_before a c ≡ true
le_before a b c h g = elim (le_cases a b h) [
  | inl less ↦ before_trans a b c less g
  | inr same ↦ subst (λ (n : List ℕ). is_before n c ≡ true) (sym same) g
]

pub le_trans : (a b c : List ℕ) → is_le (byte_order a b) ≡ true → is_le (byte_order b c) ≡ true → is_le (byte_order a c) ≡ true
le_trans a b c h g = elim (le_cases b c g) [
  | inl less ↦ before_le a c (le_before a b c h less)
  | inr same ↦ subst (λ (n : List ℕ). is_le (byte_order a n) ≡ true) same h
]

pub not_le : (a b : List ℕ) → is_before b a ≡ true → is_le (byte_order a b) ≡ false
not_le a b h = ap is_le (nat_list_cmp_total.antisymm a b ∙ ap ordering_reverse (order_less (byte_order b a) h))

pub before_from_not_le : (a b : List ℕ) → is_le (byte_order a b) ≡ false → is_before b a ≡ true
before_from_not_le a b h = by (byte_order a b) refl h
  where
    by : (o : Ordering) → byte_order a b ≡ o → is_le o ≡ false → is_before b a ≡ true
    by Less e h = cc h
    by Equal e h = cc h
    by Greater e h = ap is_lt (nat_list_cmp_total.antisymm b a ∙ ap ordering_reverse e)

-- what stands before both doesn't count
pub behind_front : (front a b : List ℕ) → byte_order (front ++ a) (front ++ b) ≡ byte_order a b
behind_front [] a b = refl
behind_front (c ∷ front) a b = ap (λ (o : Ordering). ordering_then o (byte_order (front ++ a) (front ++ b))) (tied_itself nat_cmp_total c) ∙ behind_front front a b

-- a first byte decides
by_first : (x y : ℕ) (xs ys : List ℕ) (o : Ordering) → o ≡ nat_cmp x y → byte_order (x ∷ xs) (y ∷ ys) ≡ ordering_then o (byte_order xs ys)
by_first x y xs ys o e = ap (λ (p : Ordering). ordering_then p (byte_order xs ys)) (sym e)

none_before : (xs : List ℕ) → is_before xs [] ≡ false
none_before [] = refl
none_before (x ∷ xs) = refl

-- nothing but the name itself lies between it and the same with a zero byte behind
pub before_zero : (xs : List ℕ) → is_before xs (0 ∷ []) ≡ true → xs ≡ []
before_zero [] h = refl
before_zero (x ∷ xs) h = elim (cases_lt 0 x) [
  | inl above ↦
      let e : byte_order (x ∷ xs) (0 ∷ []) ≡ Greater = by_first x 0 xs [] Greater (nat_cmp_is x 0 Greater above) in
      let both : true ≡ false = sym h ∙ ap is_lt e in
      cc both
  | inr zero ↦
      let same : x ≡ 0 = omega arith in
      let e : byte_order (x ∷ xs) (0 ∷ []) ≡ byte_order xs [] = by_first x 0 xs [] Equal (nat_cmp_is x 0 Equal same) in
      let both : true ≡ false = sym h ∙ ap is_lt e ∙ none_before xs in
      cc both
]

-- what is not before `.` and before `/` begins with `.`
pub begins_with_point : (more xs : List ℕ) → is_le (byte_order (46 ∷ more) xs) ≡ true → is_before xs (47 ∷ []) ≡ true → (rest : List ℕ) × (xs ≡ 46 ∷ rest)
begins_with_point more [] h g = cc h
begins_with_point more (x ∷ xs) h g = elim (cases_lt x 46) [
  | inl below ↦
      let e : byte_order (46 ∷ more) (x ∷ xs) ≡ Greater = by_first 46 x more xs Greater (nat_cmp_is 46 x Greater below) in
      let both : true ≡ false = sym h ∙ ap is_le e in
      cc both
  | inr point ↦ elim (cases_lt 47 x) [
    | inl above ↦
        let e : byte_order (x ∷ xs) (47 ∷ []) ≡ Greater = by_first x 47 xs [] Greater (nat_cmp_is x 47 Greater above) in
        let both : true ≡ false = sym g ∙ ap is_lt e in
        cc both
    | inr below ↦ elim (cases_lt x 47) [
      | inl less ↦ let same : x ≡ 46 = omega arith in (xs, ap (λ (n : ℕ). n ∷ xs) same)
      | inr least ↦
          let same : x ≡ 47 = omega arith in
          let e : byte_order (x ∷ xs) (47 ∷ []) ≡ byte_order xs [] = by_first x 47 xs [] Equal (nat_cmp_is x 47 Equal same) in
          let both : true ≡ false = sym g ∙ ap is_lt e ∙ none_before xs in
          cc both
    ]
  ]
]

-- a name that lies between another and that one with a zero byte behind is that one
pub between_zero : (p x : List ℕ) → is_le (byte_order p x) ≡ true → is_before x (p ++ 0 ∷ []) ≡ true → x ≡ p
between_zero p x h g =
    let b = between p x (0 ∷ []) h g in
    let rest : is_before b.0 (0 ∷ []) ≡ true = ap is_lt (sym (behind_front p b.0 (0 ∷ [])) ∙ ap (λ (n : List ℕ). byte_order n (p ++ 0 ∷ [])) (sym b.1)) ∙ g in
    b.1 ∙ ap (λ (n : List ℕ). p ++ n) (before_zero b.0 rest) ∙ append-nil p

-- a name that lies between one with `.` behind a front, and the front with `/` behind it, has `.` there
pub between_points : (p more x : List ℕ) → is_le (byte_order (p ++ 46 ∷ more) x) ≡ true → is_before x (p ++ 47 ∷ []) ≡ true → is_le (byte_order p x) ≡ true → (rest : List ℕ) × (x ≡ p ++ 46 ∷ rest)
between_points p more x h g le =
    let b = between p x (47 ∷ []) le g in
    let low : is_le (byte_order (46 ∷ more) b.0) ≡ true = ap is_le (sym (behind_front p (46 ∷ more) b.0) ∙ ap (λ (n : List ℕ). byte_order (p ++ 46 ∷ more) n) (sym b.1)) ∙ h in
    let high : is_before b.0 (47 ∷ []) ≡ true = ap is_lt (sym (behind_front p b.0 (47 ∷ [])) ∙ ap (λ (n : List ℕ). byte_order n (p ++ 47 ∷ [])) (sym b.1)) ∙ g in
    let point = begins_with_point more b.0 low high in
    (point.0, b.1 ∙ ap (λ (n : List ℕ). p ++ n) point.1)
