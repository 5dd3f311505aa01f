-- What bytes list, one instance after another.
use Rattle.std.proofs.Common.{zero, suc, ◌≡◌, ◌⊎◌, inl, inr, ℕ, ℤ, pos, ◌+◌, ◌-◌, ◌*◌, ◌<◌, ◌≤◌, Bool, true, false, cond, ltb, List, [], ◌∷◌, ◌++◌, length, get_or, take, drop, Option, Some, None, refl, sym, ap, ◌∙◌, subst, arith}
use Rattle.std.specs.Prelude.{is_some, slice_get, unwrap_or, option_map}
use Rattle.std.specs.Int.{w32, cast_signed, from_be_bytes}
use Rattle.std.proofs.lemmas.Bool.{cases_lt, lt-ltb, le-ltb, eqb-true, eq-eqb}
use Rattle.std.proofs.lemmas.Option.{slice_get-get_or, slice_get_past}
use Rattle.std.proofs.lemmas.Grind.{get_or_default_zero}
use Rattle.std.proofs.lemmas.List.{take_at, take-take, take_more, drop-drop, drop_all, length-drop, get_or-drop}
use Rattle.memchr.specs.Find.{Nowhere, Passes, IsFirstByte, IsLastByte, is_byte}
use Rattle.pcp_base.specs.Fields.{be_field}
use Rattle.pcp_base.specs.Texts.{IsText}
use Rattle.pcp_model.specs.Instances.{◌>>=◌, text_of, name_at, pair_at, pairs_from, instance_at, instances_in, listed_in, ListsInstances}
use Rattle.pcp_model.proofs.ZeroBytes.{bind_some, some_is, text_clean, zero_offset, zero_front, position_none, zero_cases}

-- ---- names

-- what a search for the first zero byte tells of the name
pub name_found : (table : List ℕ) (offset : ℕ) (r : Option ℕ) → IsFirstByte (is_byte 0) (drop offset table) r → option_map (λ end. take end (drop offset table)) r ≡ name_at table offset
unfolding name_at
name_found table offset None h = ap (λ o. o >>= λ end. text_of (take end (drop offset table))) (zero_offset (drop offset table) None h)
name_found table offset (Some end) h =
    sym (text_clean (take end (drop offset table)) (zero_front (drop offset table) (Some end) h)) ∙ ap (λ o. o >>= λ end. text_of (take end (drop offset table))) (zero_offset (drop offset table) (Some end) h)

-- no name begins where no zero byte follows
no_name : (table : List ℕ) (offset : ℕ) → IsText (drop offset table) → name_at table offset ≡ None
unfolding name_at
no_name table offset clean = ap (λ o. o >>= λ end. text_of (take end (drop offset table))) (position_none (drop offset table) clean)

pub name_past : (table : List ℕ) (offset : ℕ) → length table ≤ offset → name_at table offset ≡ None
name_past table offset past = no_name table offset (subst IsText (sym (drop_all offset table past)) (λ k d within. absurd (omega arith)))

-- one begins where one follows
name_there : (table : List ℕ) (offset at : ℕ) → offset ≤ at → at < length table → get_or table at 0 ≡ 0 → is_some (name_at table offset) ≡ true
unfolding name_at
name_there table offset at low high ends =
    elim (zero_cases (drop offset table)) [
      | inl clean ↦ absurd (clean (at - offset) 0 (omega (arith, length-drop offset table)) (get_or-drop offset table (at - offset) 0 ∙ ap (λ k. get_or table k 0) (let e : offset + (at - offset) ≡ at = omega arith in e) ∙ ends))
      | inr found ↦ ap (λ o. is_some (o >>= λ end. text_of (take end (drop offset table)))) found.1 ∙ ap is_some (text_clean (take found.0 (drop offset table)) found.2)
    ]

-- bytes that begin with a name and a zero byte
pub ended : (bytes name : List ℕ) → length name < length bytes → get_or bytes (length name) 0 ≡ 0 → take (length name) bytes ≡ name → take (length name + 1) bytes ≡ name ++ 0 ∷ []
ended bytes name lt ends same = take_more bytes (length name) 0 lt ∙ ap (λ b. take (length name) bytes ++ b ∷ []) ends ∙ ap (λ x. x ++ 0 ∷ []) same

pub ended_front : (bytes name : List ℕ) → take (length name + 1) bytes ≡ name ++ 0 ∷ [] → take (length name) bytes ≡ name
ended_front bytes name e = sym (take-take (length name) (length name + 1) bytes (omega arith)) ∙ ap (take (length name)) e ∙ take_at name (0 ∷ []) (length name) refl

text_behind : (table : List ℕ) (from offset : ℕ) → Nowhere (Passes (is_byte 0) table) from (length table) → from ≤ offset → IsText (drop offset table)
text_behind table from offset none low k d within =
    let high : offset + k < length table = omega (arith, length-drop offset table) in
    λ zero. none (offset + k) (omega arith) high (eq-eqb (get_or table (offset + k) 0) 0 (sym (get_or_default_zero table (offset + k) d high) ∙ sym (get_or-drop offset table k d) ∙ zero))

-- up to where a table has names, by its last zero byte
abbrev pub end_of : Option ℕ → ℕ
end_of None = 0
end_of (Some last) = last + 1

pub names_end : (table : List ℕ) (r : Option ℕ) → IsLastByte (is_byte 0) table r → (offset : ℕ) → is_some (name_at table offset) ≡ ltb offset (end_of r)
names_end table None h offset = ap is_some (no_name table offset (text_behind table 0 offset h (omega arith))) ∙ sym (le-ltb offset 0 (omega arith))
names_end table (Some last) h offset =
    elim (cases_lt offset (last + 1)) [
      | inl lt ↦ name_there table offset last (omega arith) h.0.high (eqb-true (get_or table last 0) 0 h.1) ∙ sym (lt-ltb offset (last + 1) lt)
      | inr le ↦ ap is_some (no_name table offset (text_behind table (last + 1) offset h.0.after le)) ∙ sym (le-ltb offset (last + 1) le)
    ]

-- ---- whether each offset has one

more_named : {A B : Type 0} (name : Option A) (make : A → B) (more : Option (List B)) → is_some name ≡ true → is_some ((name >>= λ n. Some (make n)) >>= λ pair. more >>= λ others. Some (pair ∷ others)) ≡ is_some more
more_named None make more e = absurd cc
more_named (Some n) make None e = refl
more_named (Some n) make (Some others) e = refl

not_named : {A B : Type 0} (name : Option A) (make : A → B) (more : Option (List B)) → is_some name ≡ false → is_some ((name >>= λ n. Some (make n)) >>= λ pair. more >>= λ others. Some (pair ∷ others)) ≡ false
not_named None make more e = refl
not_named (Some n) make more e = absurd cc

number_there : (numbers : List ℕ) → 4 ≤ length numbers → be_field w32 0 numbers ≡ Some (from_be_bytes w32 (take 4 numbers))
number_there numbers long = ap (λ b. cond b None (Some (from_be_bytes w32 (take 4 numbers)))) (le-ltb (length numbers) 4 long)

-- whether the instances from one on have names
abbrev pub names_from : ℕ → List ℕ → ℕ → Bool
names_from count bytes i = is_some (pairs_from (drop (8 * count) bytes) (count - i) (drop (4 * i) bytes) (drop (4 * i) (drop (4 * count) bytes)))

module _ (count : ℕ) (bytes : List ℕ) (i offset : ℕ) (room : 8 * count ≤ length bytes) (lt : i < count) (found : be_field w32 0 (drop (4 * i) (drop (4 * count) bytes)) ≡ Some offset) where
  long : 4 ≤ length (drop (4 * i) bytes)
  long = omega (arith, length-drop (4 * i) bytes)

  one_less : count - i ≡ suc (count - (i + 1))
  one_less = omega arith

  behind : (xs : List ℕ) → drop 4 (drop (4 * i) xs) ≡ drop (4 * (i + 1)) xs
  behind xs = drop-drop 4 (4 * i) xs ∙ ap (λ n. drop n xs) (let e : 4 * i + 4 ≡ 4 * (i + 1) = omega arith in e)

  pub name_follows : is_some (name_at (drop (8 * count) bytes) offset) ≡ true → names_from count bytes i ≡ names_from count bytes (i + 1)
  unfolding pairs_from pair_at
  name_follows named =
      rw (one_less, number_there (drop (4 * i) bytes) long, found, behind bytes, behind (drop (4 * count) bytes))
      (more_named (name_at (drop (8 * count) bytes) offset) (λ n. (cast_signed w32 (from_be_bytes w32 (take 4 (drop (4 * i) bytes))), n)) (pairs_from (drop (8 * count) bytes) (count - (i + 1)) (drop (4 * (i + 1)) bytes) (drop (4 * (i + 1)) (drop (4 * count) bytes))) named)

  pub no_name_follows : is_some (name_at (drop (8 * count) bytes) offset) ≡ false → names_from count bytes i ≡ false
  unfolding pairs_from pair_at
  no_name_follows none =
      rw (one_less, number_there (drop (4 * i) bytes) long, found, behind bytes, behind (drop (4 * count) bytes))
      (not_named (name_at (drop (8 * count) bytes) offset) (λ n. (cast_signed w32 (from_be_bytes w32 (take 4 (drop (4 * i) bytes))), n)) (pairs_from (drop (8 * count) bytes) (count - (i + 1)) (drop (4 * (i + 1)) bytes) (drop (4 * (i + 1)) (drop (4 * count) bytes))) none)

pub no_more_names : (count : ℕ) (bytes : List ℕ) (i : ℕ) → count ≤ i → names_from count bytes i ≡ true
unfolding pairs_from
no_more_names count bytes i end = let none : count - i ≡ 0 = omega arith in rw none refl

-- ---- one instance of all

pub pairs_count : (table : List ℕ) (n : ℕ) (numbers offsets : List ℕ) (pairs : List (ℤ × List ℕ)) → pairs_from table n numbers offsets ≡ Some pairs → length pairs ≡ n
unfolding pairs_from
pairs_count table zero numbers offsets pairs x = ap length (sym (some_is [] pairs x))
pairs_count table (suc n) numbers offsets pairs x =
    let a = bind_some (pair_at numbers offsets table) (λ p. pairs_from table n (drop 4 numbers) (drop 4 offsets) >>= λ ps. Some (p ∷ ps)) pairs x in
    let b = bind_some (pairs_from table n (drop 4 numbers) (drop 4 offsets)) (λ ps. Some (a.0 ∷ ps)) pairs a.2 in
    ap length (sym (some_is (a.0 ∷ b.0) pairs b.2)) ∙ ap suc (pairs_count table n (drop 4 numbers) (drop 4 offsets) b.0 b.1)

further : (xs : List ℕ) (i : ℕ) → drop (4 * suc i) xs ≡ drop (4 * i) (drop 4 xs)
further xs i = ap (λ n. drop n xs) (let e : 4 * suc i ≡ 4 + 4 * i = omega arith in e) ∙ sym (drop-drop (4 * i) 4 xs)

pair_in : (table : List ℕ) (n : ℕ) (numbers offsets : List ℕ) (pairs : List (ℤ × List ℕ)) (i : ℕ) → pairs_from table n numbers offsets ≡ Some pairs → i < n → pair_at (drop (4 * i) numbers) (drop (4 * i) offsets) table ≡ slice_get pairs i
unfolding pairs_from
pair_in table zero numbers offsets pairs i x lt = absurd (omega arith)
pair_in table (suc n) numbers offsets pairs zero x lt =
    let a = bind_some (pair_at numbers offsets table) (λ p. pairs_from table n (drop 4 numbers) (drop 4 offsets) >>= λ ps. Some (p ∷ ps)) pairs x in
    let b = bind_some (pairs_from table n (drop 4 numbers) (drop 4 offsets)) (λ ps. Some (a.0 ∷ ps)) pairs a.2 in
    a.1 ∙ ap (λ ps. slice_get ps 0) (some_is (a.0 ∷ b.0) pairs b.2)
pair_in table (suc n) numbers offsets pairs (suc i) x lt =
    let a = bind_some (pair_at numbers offsets table) (λ p. pairs_from table n (drop 4 numbers) (drop 4 offsets) >>= λ ps. Some (p ∷ ps)) pairs x in
    let b = bind_some (pairs_from table n (drop 4 numbers) (drop 4 offsets)) (λ ps. Some (a.0 ∷ ps)) pairs a.2 in
    rw (further numbers i, further offsets i) (pair_in table n (drop 4 numbers) (drop 4 offsets) b.0 i b.1 (omega arith) ∙ ap (λ ps. slice_get ps (suc i)) (some_is (a.0 ∷ b.0) pairs b.2))

-- all that stand one by one are all
pairs_all : (table : List ℕ) (n : ℕ) (numbers offsets : List ℕ) (pairs : List (ℤ × List ℕ)) → length pairs ≡ n
    → ((i : ℕ) → i < n → pair_at (drop (4 * i) numbers) (drop (4 * i) offsets) table ≡ slice_get pairs i) → pairs_from table n numbers offsets ≡ Some pairs
unfolding pairs_from
pairs_all table zero numbers offsets [] size each = refl
pairs_all table zero numbers offsets (p ∷ pairs) size each = absurd (omega arith)
pairs_all table (suc n) numbers offsets [] size each = absurd (omega arith)
pairs_all table (suc n) numbers offsets (p ∷ pairs) size each =
    let first : pair_at numbers offsets table ≡ Some p = each 0 (omega arith) in
    let more : pairs_from table n (drop 4 numbers) (drop 4 offsets) ≡ Some pairs =
    pairs_all table n (drop 4 numbers) (drop 4 offsets) pairs (omega arith) (λ i lt. rw (sym (further numbers i), sym (further offsets i)) (each (suc i) (omega arith))) in
    rw (first, more) refl

-- ---- what the bytes of a record list

listed : (o : Option (List (ℤ × List ℕ))) → is_some o ≡ true → o ≡ Some (unwrap_or o [])
listed None e = absurd cc
listed (Some pairs) e = refl

pub in_room : (count : ℕ) (bytes : List ℕ) → count < 2147483648 → 8 * count ≤ length bytes → instances_in count bytes ≡ pairs_from (drop (8 * count) bytes) count bytes (drop (4 * count) bytes)
unfolding instances_in
in_room count bytes few room = rw (le-ltb 2147483647 count (omega arith), le-ltb (length bytes) (8 * count) room) refl

pub lists : (count : ℕ) (bytes : List ℕ) → count < 2147483648 → 8 * count ≤ length bytes → is_some (pairs_from (drop (8 * count) bytes) count bytes (drop (4 * count) bytes)) ≡ true → ListsInstances count bytes
lists count bytes few room there = record { few = few; room = room; all = listed (instances_in count bytes) (ap is_some (in_room count bytes few room) ∙ there) }

pub lists_none : (count : ℕ) (bytes : List ℕ) → count < 2147483648 → 8 * count ≤ length bytes → is_some (pairs_from (drop (8 * count) bytes) count bytes (drop (4 * count) bytes)) ≡ false → instances_in count bytes ≡ None
lists_none count bytes few room none = no_list (instances_in count bytes) (ap is_some (in_room count bytes few room) ∙ none)
  where
    no_list : (o : Option (List (ℤ × List ℕ))) → is_some o ≡ false → o ≡ None
    no_list None e = refl
    no_list (Some pairs) e = absurd cc

pub no_room : (count : ℕ) (bytes : List ℕ) → (2147483647 < count) ⊎ (length bytes < 8 * count) → instances_in count bytes ≡ None
unfolding instances_in
no_room count bytes (inl many) = rw (lt-ltb 2147483647 count many) refl
no_room count bytes (inr short) = elim (cases_lt 2147483647 count) [
  | inl many ↦ rw (lt-ltb 2147483647 count many) refl
  | inr few ↦ rw (le-ltb 2147483647 count few, lt-ltb (length bytes) (8 * count) short) refl
]

module _ (count : ℕ) (bytes : List ℕ) (l : ListsInstances count bytes) where
  in_pairs : pairs_from (drop (8 * count) bytes) count bytes (drop (4 * count) bytes) ≡ Some (listed_in count bytes)
  in_pairs = sym (in_room count bytes l.few l.room) ∙ l.all

  pub listed_count : length (listed_in count bytes) ≡ count
  listed_count = pairs_count (drop (8 * count) bytes) count bytes (drop (4 * count) bytes) (listed_in count bytes) in_pairs

  pub listed_at : (at : ℕ) → at < count → instance_at count bytes at ≡ slice_get (listed_in count bytes) at
  listed_at at lt = pair_in (drop (8 * count) bytes) count bytes (drop (4 * count) bytes) (listed_in count bytes) at in_pairs lt

  -- each of them is there
  pub listed_there : (at : ℕ) → at < count → (p : ℤ × List ℕ) × (slice_get (listed_in count bytes) at ≡ Some p) × (instance_at count bytes at ≡ Some p)
  listed_there at lt =
      let there : at < length (listed_in count bytes) = omega (arith, listed_count) in
      let is : slice_get (listed_in count bytes) at ≡ Some (get_or (listed_in count bytes) at (pos 0, [])) = slice_get-get_or (listed_in count bytes) at (pos 0, []) there in
      (get_or (listed_in count bytes) at (pos 0, []), is, listed_at at lt ∙ is)

-- all that stand one by one are all
pub listed_when : (count : ℕ) (bytes : List ℕ) (pairs : List (ℤ × List ℕ)) → count < 2147483648 → 8 * count ≤ length bytes → length pairs ≡ count
    → ((at : ℕ) → at < count → instance_at count bytes at ≡ slice_get pairs at) → instances_in count bytes ≡ Some pairs
listed_when count bytes pairs few room size each = in_room count bytes few room ∙ pairs_all (drop (8 * count) bytes) count bytes (drop (4 * count) bytes) pairs size each

pub each_listed : (count : ℕ) (bytes : List ℕ) (pairs : List (ℤ × List ℕ)) → count < 2147483648 → 8 * count ≤ length bytes → instances_in count bytes ≡ Some pairs
    → (at : ℕ) → at < count → instance_at count bytes at ≡ slice_get pairs at
each_listed count bytes pairs few room all at lt = pair_in (drop (8 * count) bytes) count bytes (drop (4 * count) bytes) pairs at (sym (in_room count bytes few room) ∙ all) lt

-- the number of one of them
pub number_of_pair : (numbers offsets table : List ℕ) (p : ℤ × List ℕ) → pair_at numbers offsets table ≡ Some p → option_map (cast_signed w32) (be_field w32 0 numbers) ≡ Some p.0
unfolding pair_at
number_of_pair numbers offsets table p x =
    let a = bind_some (be_field w32 0 numbers) (λ n. be_field w32 0 offsets >>= λ o. name_at table o >>= λ t. Some (cast_signed w32 n, t)) p x in
    let b = bind_some (be_field w32 0 offsets) (λ o. name_at table o >>= λ t. Some (cast_signed w32 a.0, t)) p a.2 in
    let c = bind_some (name_at table b.0) (λ t. Some (cast_signed w32 a.0, t)) p b.2 in
    ap (option_map (cast_signed w32)) a.1 ∙ ap (λ q. Some q.0) (some_is (cast_signed w32 a.0, c.0) p c.2)

module _ (count : ℕ) (bytes : List ℕ) (l : ListsInstances count bytes) where
  pub number_listed : (at : ℕ) → at < count → option_map (cast_signed w32) (be_field w32 0 (drop (4 * at) bytes)) ≡ option_map (λ (p : ℤ × List ℕ). p.0) (slice_get (listed_in count bytes) at)
  number_listed at lt =
      let p = listed_there count bytes l at lt in
      number_of_pair (drop (4 * at) bytes) (drop (4 * at) (drop (4 * count) bytes)) (drop (8 * count) bytes) p.0 p.2 ∙ ap (option_map (λ (q : ℤ × List ℕ). q.0)) (sym p.1)

  pub none_listed : (at : ℕ) → count ≤ at → slice_get (listed_in count bytes) at ≡ None
  none_listed at past = slice_get_past (listed_in count bytes) at (omega (arith, listed_count count bytes l))
