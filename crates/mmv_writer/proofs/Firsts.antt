-- The first of a list that passes a test, as the list grows, and a map that tells it for each text.
use Rattle.std.proofs.Common.{◌≡◌, ℕ, ◌+◌, ◌-◌, Bool, true, false, not, ◌||◌, List, [], ◌∷◌, ◌++◌, length, take, ap, ap₂, sym, subst, ◌∙◌, refl, arith, cond, get_or, ◌<◌, nat_lt, Option, Some, None, is_some, is_none, bytes_eq, length-append, Vec, Global}
use Rattle.std.specs.Borrow.{Bor}
use Rattle.std.specs.List.{list_any, position, position_or_len}
use Rattle.std.specs.Map.{lookup}
use Rattle.std.specs.Ordering.{nat_cmp, match_ordering, is_eq}
use Rattle.std.specs.declared.cmp.Ordering.{Ordering}
use Rattle.std.specs.declared.cmp.Ordering.TheVariants.{Less, Equal, Greater}
use Rattle.std.specs.Cmp.Lexicographic.{slice_cmp}
use Rattle.std.specs.BTreeMap.{BTreeMap, is_at, insert_entry}
use Rattle.std.proofs.lemmas.Bool.Decides.{nat_tests}
use Rattle.std.proofs.lemmas.List.{take_more, length-take-le}
use Rattle.std.proofs.lemmas.Map.Lookups.{exact_bytes}
use Rattle.std.proofs.lemmas.Map.Text.{is_eq-slice_cmp}
use Rattle.std.proofs.Math.Seq.{take-append_seam}
use Rattle.std.proofs.lemmas.Slice.Eq.{bytes_eq-Decides}
use Rattle.mmv_writer.specs.Tables.{texts_behind, first_of, is_open, Tells, IsIndex, KeepsFirst, Grows}
use Rattle.mmv_writer.proofs.ReadTexts.{length_read, read_more}

lt_next : (p n : ℕ) → nat_lt (1 + p) (n + 1) ≡ nat_lt p n
lt_next p n = grind (arith, nat_tests)

lt_first : (n : ℕ) → nat_lt 0 (n + 1) ≡ true
lt_first n = grind (arith, nat_tests)

-- the first that passes is one of the list where some one passes
pub some_lt : {T : Type 0} (test : T → Bool) (xs : List T) → nat_lt (position_or_len test xs) (length xs) ≡ list_any test xs
some_lt test [] = refl
some_lt test (x ∷ xs) = here (test x) (some_lt test xs)
  where
    here : (b : Bool) → nat_lt (position_or_len test xs) (length xs) ≡ list_any test xs → nat_lt (cond (not b) (1 + position_or_len test xs) 0) (length (x ∷ xs)) ≡ (b || list_any test xs)
    here true h = ap (λ n. nat_lt 0 n) (omega arith) ∙ lt_first (length xs)
    here false h = ap (λ n. nat_lt (1 + position_or_len test xs) n) (omega arith) ∙ lt_next (position_or_len test xs) (length xs) ∙ h

or_none : (a : Bool) → (a || false) ≡ a
or_none true = refl
or_none false = refl

pub any_snoc : {T : Type 0} (test : T → Bool) (xs : List T) (x : T) → list_any test (xs ++ x ∷ []) ≡ (list_any test xs || test x)
any_snoc test [] x = or_none (test x)
any_snoc test (y ∷ xs) x = ap (λ b. test y || b) (any_snoc test xs x) ∙ grouped (test y) (list_any test xs) (test x)
  where
    grouped : (a b c : Bool) → (a || (b || c)) ≡ ((a || b) || c)
    grouped true b c = refl
    grouped false b c = refl

at_snoc : {T : Type 0} (test : T → Bool) (xs : List T) (x : T) → position_or_len test (xs ++ x ∷ []) ≡ cond (list_any test xs) (position_or_len test xs) (cond (test x) (length xs) (1 + length xs))
at_snoc test [] x = here (test x)
  where
    here : (b : Bool) → cond (not b) (1 + 0) 0 ≡ cond b 0 (1 + 0)
    here true = refl
    here false = refl
at_snoc test (y ∷ xs) x = here (test y) (list_any test xs) (test x) (at_snoc test xs x)
  where
    here : (b a c : Bool) → position_or_len test (xs ++ x ∷ []) ≡ cond a (position_or_len test xs) (cond c (length xs) (1 + length xs))
        → cond (not b) (1 + position_or_len test (xs ++ x ∷ [])) 0 ≡ cond (b || a) (cond (not b) (1 + position_or_len test xs) 0) (cond c (length (y ∷ xs)) (1 + length (y ∷ xs)))
    here true a c h = refl
    here false true c h = ap (λ n. 1 + n) h
    here false false true h = let e : position_or_len test (xs ++ x ∷ []) ≡ length xs = h in omega arith
    here false false false h = let e : position_or_len test (xs ++ x ∷ []) ≡ 1 + length xs = h in omega arith

-- one more stands behind the first that passed
pub position_snoc : {T : Type 0} (test : T → Bool) (xs : List T) (x : T) → position test (xs ++ x ∷ []) ≡ cond (list_any test xs) (position test xs) (cond (test x) (Some (length xs)) None)
position_snoc test xs x =
    ap₂ (λ b n. cond b (Some n) None) (some_lt test (xs ++ x ∷ []) ∙ any_snoc test xs x) (at_snoc test xs x)
    ∙ here (list_any test xs) (test x) (some_lt test xs)
  where
    here : (a c : Bool) → nat_lt (position_or_len test xs) (length xs) ≡ a
        → cond (a || c) (Some (cond a (position_or_len test xs) (cond c (length xs) (1 + length xs)))) None ≡ cond a (cond (nat_lt (position_or_len test xs) (length xs)) (Some (position_or_len test xs)) None) (cond c (Some (length xs)) None)
    here true c h = ap (λ b. cond b (Some (position_or_len test xs)) None) (sym h)
    here false true h = refl
    here false false h = refl

-- there is a first exactly where some one passes
pub position_some : {T : Type 0} (test : T → Bool) (xs : List T) → is_some (position test xs) ≡ list_any test xs
position_some test xs = here (nat_lt (position_or_len test xs) (length xs)) ∙ some_lt test xs
  where
    here : (b : Bool) → is_some (cond b (Some (position_or_len test xs)) None) ≡ b
    here true = refl
    here false = refl

-- An ordered map of texts

module _ {K X : Type 0} (items : K → List ℕ) where
  abbrev found : List ℕ → List (K × X) → Option X
  found q es = lookup (is_at (λ k. slice_cmp nat_cmp q (items k))) es

  -- a map after a key is put in
  pub found_insert : (q : List ℕ) (key : K) (n : X) (es : List (K × X)) → found q (insert_entry (λ a b. slice_cmp nat_cmp (items a) (items b)) es key n) ≡ cond (bytes_eq q (items key)) (Some n) (found q es)
  found_insert q key n [] = ap (λ b. cond b (Some n) None) (is_eq-slice_cmp q (items key))
  found_insert q key n (e ∷ es) = here (slice_cmp nat_cmp (items key) (items e.0)) refl (found_insert q key n es)
    where
      rest : List (K × X)
      rest = insert_entry (λ a b. slice_cmp nat_cmp (items a) (items b)) es key n

      same : (a b : Bool) → a ≡ b → cond a (Some n) (found q es) ≡ cond b (Some n) (cond a (Some e.1) (found q es))
      same true true h = refl
      same true false h = cc
      same false true h = cc
      same false false h = refl

      other : (a b : Bool) → bytes_eq q (items e.0) ≡ a → bytes_eq q (items key) ≡ b → slice_cmp nat_cmp (items key) (items e.0) ≡ Greater → cond a (Some e.1) (cond b (Some n) (found q es)) ≡ cond b (Some n) (cond a (Some e.1) (found q es))
      other true true f g greater =
          let one : items key ≡ items e.0 = sym ((bytes_eq-Decides q (items key)).0 g) ∙ (bytes_eq-Decides q (items e.0)).0 f in
          let itself : is_eq (slice_cmp nat_cmp (items key) (items e.0)) ≡ true = is_eq-slice_cmp (items key) (items e.0) ∙ (bytes_eq-Decides (items key) (items e.0)).1 one in
          let isnt : is_eq (slice_cmp nat_cmp (items key) (items e.0)) ≡ false = ap is_eq greater in
          cc
      other true false f g greater = refl
      other false true f g greater = refl
      other false false f g greater = refl

      here : (o : Ordering) → slice_cmp nat_cmp (items key) (items e.0) ≡ o → found q rest ≡ cond (bytes_eq q (items key)) (Some n) (found q es)
          → found q (match_ordering o ((key, n) ∷ e ∷ es) ((e.0, n) ∷ es) (e ∷ rest)) ≡ cond (bytes_eq q (items key)) (Some n) (found q (e ∷ es))
      here Less is again = ap (λ b. cond b (Some n) (found q (e ∷ es))) (is_eq-slice_cmp q (items key))
      here Equal is again =
          same (is_eq (slice_cmp nat_cmp q (items e.0))) (bytes_eq q (items key)) (is_eq-slice_cmp q (items e.0) ∙ ap (bytes_eq q) (sym (exact_bytes (items key) (items e.0) is)))
      here Greater is again =
          ap (λ r. cond (is_eq (slice_cmp nat_cmp q (items e.0))) (Some e.1) r) again
          ∙ ap (λ b. cond b (Some e.1) (cond (bytes_eq q (items key)) (Some n) (found q es))) (is_eq-slice_cmp q (items e.0))
          ∙ other (bytes_eq q (items e.0)) (bytes_eq q (items key)) refl refl is
          ∙ ap (λ b. cond (bytes_eq q (items key)) (Some n) (cond b (Some e.1) (found q es))) (sym (is_eq-slice_cmp q (items e.0)))

turned : (xs ys : List ℕ) → bytes_eq xs ys ≡ true → ys ≡ xs
turned xs ys h = sym ((bytes_eq-Decides xs ys).0 h)

none_of : {A : Type 0} (o : Option A) → is_some o ≡ false → o ≡ None
none_of None h = refl
none_of (Some a) h = cc

opened : (kept : Option (Option ℕ)) (at : Option ℕ) → is_open kept ≡ true → Tells kept at → at ≡ None
opened None at h t = cc
opened (Some None) at h t = sym t
opened (Some (Some n)) at h t = cc

module _ (strings : List (List ℕ)) (text q : List ℕ) where
  -- the first string that is equal to q, with one text more that isn't, or behind one that is
  unchanged : (a b : Bool) → list_any (λ other. bytes_eq other q) strings ≡ a → bytes_eq text q ≡ b → (a ≡ false → b ≡ false) → position (λ other. bytes_eq other q) strings ≡ cond a (position (λ other. bytes_eq other q) strings) (cond b (Some (length strings)) None)
  unchanged true b f g h = refl
  unchanged false true f g h = let wrong : true ≡ false = h refl in cc
  unchanged false false f g h = none_of (position (λ other. bytes_eq other q) strings) (position_some (λ other. bytes_eq other q) strings ∙ f)

-- a text that stood nowhere, with its position
pub index_first : (old new : BTreeMap (Vec ℕ Global) (Option ℕ)) (key : Vec ℕ Global) (text : List ℕ) (at : ℕ) → key.items ≡ text → is_open (first_of old text) ≡ true
    → new.entries ≡ insert_entry (λ a b. slice_cmp nat_cmp a.items b.items) old.entries key (Some at) → Grows old new text at
index_first old new key text at is looked put strings long index q =
    subst (λ o. Tells o (position (λ other. bytes_eq other q) (strings ++ text ∷ []))) (sym put_in)
    (subst (Tells (cond (bytes_eq q text) (Some (Some at)) (first_of old q))) (sym (position_snoc (λ other. bytes_eq other q) strings text)) (here (bytes_eq q text) refl (index q)))
  where
    put_in : first_of new q ≡ cond (bytes_eq q text) (Some (Some at)) (first_of old q)
    put_in = ap (found (λ k. k.items) q) put ∙ found_insert (λ k. k.items) q key (Some at) old.entries ∙ ap (λ t. cond (bytes_eq q t) (Some (Some at)) (first_of old q)) is

    here : (b : Bool) → bytes_eq q text ≡ b → Tells (first_of old q) (position (λ other. bytes_eq other q) strings)
        → Tells (cond b (Some (Some at)) (first_of old q)) (cond (list_any (λ other. bytes_eq other q) strings) (position (λ other. bytes_eq other q) strings) (cond (bytes_eq text q) (Some (length strings)) None))
    here true e t =
        let same : text ≡ q = turned q text e in
        let absent : position (λ other. bytes_eq other text) strings ≡ None = opened (first_of old text) (position (λ other. bytes_eq other text) strings) looked (index text) in
        let none : list_any (λ other. bytes_eq other q) strings ≡ false = sym (position_some (λ other. bytes_eq other q) strings) ∙ ap is_some (ap (λ s. position (λ other. bytes_eq other s) strings) (sym same) ∙ absent) in
        let itself : bytes_eq text q ≡ true = (bytes_eq-Decides text q).1 same in
        ap Some (sym long) ∙ sym (ap₂ (λ a b. cond a (position (λ other. bytes_eq other q) strings) (cond b (Some (length strings)) None)) none itself)
    here false e t =
        let apart : bytes_eq text q ≡ false = other_way (bytes_eq text q) refl in
        subst (Tells (first_of old q)) (unchanged strings text q (list_any (λ other. bytes_eq other q) strings) (bytes_eq text q) refl refl (λ none. apart)) t
      where
        other_way : (b : Bool) → bytes_eq text q ≡ b → b ≡ false
        other_way true g = let wrong : bytes_eq q text ≡ true = (bytes_eq-Decides q text).1 (turned text q g) in cc
        other_way false g = refl

-- a text that isn't looked up, or stood somewhere
pub index_kept : (firsts : BTreeMap (Vec ℕ Global) (Option ℕ)) (text : List ℕ) (at : ℕ) → is_open (first_of firsts text) ≡ false → Grows firsts firsts text at
index_kept firsts text at shut strings long index q =
    subst (Tells (first_of firsts q)) (sym (position_snoc (λ other. bytes_eq other q) strings text)) (here (first_of firsts q) (list_any (λ other. bytes_eq other q) strings) (bytes_eq text q) refl refl refl (index q))
  where
    here : (o : Option (Option ℕ)) (a b : Bool) → first_of firsts q ≡ o → list_any (λ other. bytes_eq other q) strings ≡ a → bytes_eq text q ≡ b → Tells o (position (λ other. bytes_eq other q) strings)
        → Tells o (cond a (position (λ other. bytes_eq other q) strings) (cond b (Some (length strings)) None))
    here None a b w e f t = tt
    here (Some p) true b w e f t = t
    here (Some p) false false w e f t = t ∙ none_of (position (λ other. bytes_eq other q) strings) (position_some (λ other. bytes_eq other q) strings ∙ e)
    here (Some p) false true w e f t =
        let none : p ≡ None = t ∙ none_of (position (λ other. bytes_eq other q) strings) (position_some (λ other. bytes_eq other q) strings ∙ e) in
        let again : is_open (first_of firsts text) ≡ true = ap (λ x. is_open (first_of firsts x)) (sym (turned text q f)) ∙ ap is_open w ∙ ap (λ x. is_open (Some x)) none in
        cc

-- a text that will be looked up, while there is no string
pub key_put : (old new : BTreeMap (Vec ℕ Global) (Option ℕ)) (key : Vec ℕ Global) → new.entries ≡ insert_entry (λ a b. slice_cmp nat_cmp a.items b.items) old.entries key None → IsIndex old [] → IsIndex new []
key_put old new key put index q =
    subst (λ o. Tells o None) (sym (ap (found (λ k. k.items) q) put ∙ found_insert (λ k. k.items) q key None old.entries)) (here (bytes_eq q key.items) (index q))
  where
    here : (b : Bool) → Tells (first_of old q) None → Tells (cond b (Some None) (first_of old q)) None
    here true t = refl
    here false t = t

pub key_none : (firsts : BTreeMap (Vec ℕ Global) (Option ℕ)) → firsts.entries ≡ [] → IsIndex firsts []
key_none firsts empty q = subst (λ es. Tells (found (λ k. k.items) q es) None) (sym empty) tt

-- one string more of those that a loop has passed
pub index_more : (old new : BTreeMap (Vec ℕ Global) (Option ℕ)) (strings : List (List ℕ)) (i : ℕ) (x : List ℕ) → i < length strings → x ≡ get_or strings i x → Grows old new x i → IsIndex old (take i strings) → IsIndex new (take (i + 1) strings)
index_more old new strings i x below is grows index =
    subst (IsIndex new) (ap (λ y. take i strings ++ y ∷ []) is ∙ sym (take_more strings i x below)) (grows (take i strings) (length-take-le i strings (omega arith)) index)

-- one string more at the end
pub index_added : (old new : BTreeMap (Vec ℕ Global) (Option ℕ)) (strings : List (Bor (List ℕ))) (x : Bor (List ℕ)) (at : ℕ) → at ≡ length strings → Grows old new x.now at → IsIndex old (texts_behind strings) → IsIndex new (texts_behind (strings ++ x ∷ []))
index_added old new strings x at e grows index = subst (IsIndex new) (sym (read_more strings x)) (grows (texts_behind strings) (sym (length_read strings) ∙ sym e) index)

-- where nothing was added after all
pub index_stays : (old new : BTreeMap (Vec ℕ Global) (Option ℕ)) (strings left : List (Bor (List ℕ))) → KeepsFirst old new → left ≡ strings → IsIndex old (texts_behind strings) → IsIndex new (texts_behind left)
index_stays old new strings left holds same index q =
    subst (λ o. Tells o (position (λ other. bytes_eq other q) (texts_behind left))) (sym (holds q)) (subst (λ l. Tells (first_of old q) (position (λ other. bytes_eq other q) (texts_behind l))) (sym same) (index q))

-- what is kept of a text
pub told_at : (o : Option (Option ℕ)) (p kept : Option ℕ) → Tells o p → Some kept ≡ o → kept ≡ p
told_at None p kept t e = cc
told_at (Some other) p kept t e = let same : kept ≡ other = cc in same ∙ t

pub open_none : (o : Option (Option ℕ)) → None ≡ o → false ≡ is_open o
open_none None e = refl
open_none (Some other) e = cc

pub open_some : (o : Option (Option ℕ)) (kept : Option ℕ) → Some kept ≡ o → is_none kept ≡ is_open o
open_some None kept e = cc
open_some (Some other) kept e = let same : kept ≡ other = cc in ap is_none same ∙ here other
  where
    here : (p : Option ℕ) → is_none p ≡ is_open (Some p)
    here None = refl
    here (Some n) = refl

-- a list that grew by one and lost its last
pub taken_back : {T : Type 0} (xs : List T) (x : T) → take (length (xs ++ x ∷ []) - 1) (xs ++ x ∷ []) ≡ xs
taken_back xs x =
    let long : length (xs ++ x ∷ []) ≡ length xs + 1 = length-append xs (x ∷ []) in
    let n : length (xs ++ x ∷ []) - 1 ≡ length xs = omega arith in
    ap (λ k. take k (xs ++ x ∷ [])) n ∙ take-append_seam xs (x ∷ [])
