-- The contents of a spelled image: which section a reader finds for each type.
use Rattle.std.proofs.Common.{◌≡◌, ◌≢◌, ℕ, zero, suc, ◌+◌, ◌*◌, ◌%◌, ◌<◌, ◌≤◌, Bool, true, false, not, ◌&&◌, ◌||◌, List, [], ◌∷◌, ◌++◌, length, ap, ap₂, sym, subst, ◌∙◌, refl, arith, mul-zero, cond, nat_eq, nat_le, Some, ◌⊎◌, inl, inr, ⊎_elim}
use Rattle.std.specs.List.{slice_get}
use Rattle.std.proofs.lemmas.Bool.{eq-eqb, eqb-true, eqb-false, cases_lt}
use Rattle.std.proofs.lemmas.Bool.Decides.{nat_tests}
use Rattle.mmv_layout.specs.Below.{all_below}
use Rattle.mmv_layout.specs.Contents.{bytes_in, version_in, contents_in, type_in, count_in, offset_in, section_bytes, end_in, is_type, section_lies, are_apart, is_first_of_type, has_good_section, is_aligned, sections_are_good, sections_are_aligned, find_section, section_of}
use Rattle.mmv_layout.specs.declared.contents.Section.{Section}
use Rattle.mmv_writer.specs.Spelling.{halves}
use Rattle.mmv_writer.proofs.Rows.{get_below}
use Rattle.mmv_layout.specs.Sizes.{indom_size, instance_size, metric_size, value_size, string_size}

-- a contents entry: type, count and offset
pub record Entry : Type 0 where
  pub type : ℕ
  pub count : ℕ
  pub offset : ℕ

-- the entry of a section, where it isn't empty
abbrev pub kept : Entry → List Entry
kept e = cond (nat_eq e.count 0) [] (e ∷ [])

abbrev pub words_of_entry : Entry → List ℕ
words_of_entry e = halves e.type e.count ∷ e.offset ∷ []

-- an entry of a type from one on, whose section stands from an offset on
pub record IsEntry (t p : ℕ) (e : Entry) : Type 0 where
  pub from : t ≤ e.type
  pub last : e.type ≤ 5
  pub some : 0 < e.count
  pub few : e.count < 4294967296
  pub behind : p ≤ e.offset
  pub whole : e.offset % 8 ≡ 0

isnt_zero : (n : ℕ) → nat_eq n 0 ≡ false → 0 < n
isnt_zero n h = grind (arith, nat_tests)

get_some : {T : Type 0} (xs : List T) (i : ℕ) → i < length xs → (x : T) × (slice_get xs i ≡ Some x)
get_some [] i h = absurd (omega arith)
get_some (x ∷ xs) zero h = (x, refl)
get_some (x ∷ xs) (suc i) h = get_some xs i (omega arith)

pub all_hold : (n : ℕ) (test : ℕ → Bool) → ((k : ℕ) → k < n → test k ≡ true) → all_below n test ≡ true
unfolding all_below
all_hold zero test h = refl
all_hold (suc n) test h = ap₂ (λ a b. a && b) (all_hold n test (λ k l. h k (omega arith))) (h n (omega arith))

le_true : (a b : ℕ) → a ≤ b → nat_le a b ≡ true
le_true a b h = grind (arith, nat_tests)

apart_false : (a b : ℕ) → a < b → nat_eq a b ≡ false
apart_false a b h = grind (arith, nat_tests)

third : (a b c d : Bool) → c ≡ true → (a || b || c || d) ≡ true
third true b c d h = refl
third false true c d h = refl
third false false true d h = refl
third false false false d h = cc

-- the section of a type among entries
abbrev pub pick : ℕ → List Entry → Section
pick t [] = record { offset = 0; count = 0 }
pick t (e ∷ es) = cond (nat_eq e.type t) (record { offset = e.offset; count = e.count }) (pick t es)

-- a section is that of an entry of the type, or there is none
abbrev Picked : ℕ → List Entry → Section → Type 0
Picked t es s =
    ((i : ℕ) × (e : Entry) × (slice_get es i ≡ Some e) × (e.type ≡ t) × (s ≡ record { offset = e.offset; count = e.count }))
    ⊎ (((i : ℕ) (e : Entry) → slice_get es i ≡ Some e → e.type ≢ t) × (s ≡ record { offset = 0; count = 0 }))

others : (t : ℕ) (e : Entry) (es : List Entry) → nat_eq e.type t ≡ false → ((i : ℕ) (d : Entry) → slice_get es i ≡ Some d → d.type ≢ t) → (i : ℕ) (d : Entry) → slice_get (e ∷ es) i ≡ Some d → d.type ≢ t
others t e es f none zero d h = λ z. let same : e ≡ d = cc in eqb-false e.type t f (ap (λ x. x.type) same ∙ z)
others t e es f none (suc i) d h = none i d h

pick_is : (t : ℕ) (es : List Entry) → Picked t es (pick t es)
pick_is t [] = inr ((λ i e h. cc), refl)
pick_is t (e ∷ es) = here (nat_eq e.type t) refl (pick_is t es)
  where
    here : (b : Bool) → nat_eq e.type t ≡ b → Picked t es (pick t es) → Picked t (e ∷ es) (cond b (record { offset = e.offset; count = e.count }) (pick t es))
    here true f rest = inl (0, e, refl, eqb-true e.type t f, refl)
    here false f (inl there) = inl (suc there.0, there.1, there.2, there.3, there.4)
    here false f (inr none) = inr (others t e es f none.0, none.1)

pub pick_skip : (t : ℕ) (e : Entry) (rest : List Entry) → nat_eq e.type t ≡ false → pick t (kept e ++ rest) ≡ pick t rest
pick_skip t e rest h = here (nat_eq e.count 0)
  where
    here : (b : Bool) → pick t (cond b [] (e ∷ []) ++ rest) ≡ pick t rest
    here true = refl
    here false = ap (λ b. cond b (record { offset = e.offset; count = e.count }) (pick t rest)) h

pub pick_hit : (t : ℕ) (e : Entry) (rest : List Entry) → nat_eq e.type t ≡ true → pick t (kept e ++ rest) ≡ cond (nat_eq e.count 0) (pick t rest) (record { offset = e.offset; count = e.count })
pick_hit t e rest h = here (nat_eq e.count 0)
  where
    here : (b : Bool) → pick t (cond b [] (e ∷ []) ++ rest) ≡ cond b (pick t rest) (record { offset = e.offset; count = e.count })
    here true = refl
    here false = ap (λ b. cond b (record { offset = e.offset; count = e.count }) (pick t rest)) h

-- Of images of a version

module _ (version : ℕ) where
  -- the offset behind the section of an entry
  abbrev pub end_of : Entry → ℕ
  end_of e = e.offset + section_bytes version e.type e.count

  -- entries whose types rise from one on, and whose sections follow one another from an offset to an end
  abbrev pub Laid : ℕ → ℕ → ℕ → List Entry → Type 0
  Laid t p end [] = p ≤ end
  Laid t p end (e ∷ es) = IsEntry t p e × Laid (suc e.type) (end_of e) end es

  laid_earlier : (t s p end : ℕ) (es : List Entry) → t ≤ s → Laid s p end es → Laid t p end es
  laid_earlier t s p end [] h l = l
  laid_earlier t s p end (e ∷ es) h l =
      (record { from = let f : s ≤ e.type = l.0.from in omega arith; last = l.0.last; some = l.0.some; few = l.0.few; behind = l.0.behind; whole = l.0.whole }, l.1)

  bytes_none : (t : ℕ) → section_bytes version t 0 ≡ 0
  unfolding section_bytes
  bytes_none t = here (nat_eq t 1) (nat_eq t 2) (nat_eq t 3) (nat_eq t 4) (nat_eq t 5)
    where
      here : (a b c d e : Bool) → cond a (indom_size * 0) (cond b (instance_size version * 0) (cond c (metric_size version * 0) (cond d (value_size * 0) (cond e (string_size * 0) 0)))) ≡ 0
      here true b c d e = refl
      here false true c d e = mul-zero (instance_size version)
      here false false true d e = mul-zero (metric_size version)
      here false false false true e = refl
      here false false false false true = refl
      here false false false false false = refl

  pub laid_kept : (t p q end count : ℕ) (rest : List Entry) → t ≤ 5 → count < 4294967296 → p % 8 ≡ 0 → q ≡ p + section_bytes version t count → Laid (suc t) q end rest → Laid t p end (kept (record { type = t; count = count; offset = p }) ++ rest)
  laid_kept t p q end count rest five few whole e l = here (nat_eq count 0) refl
    where
      here : (b : Bool) → nat_eq count 0 ≡ b → Laid t p end (cond b [] (record { type = t; count = count; offset = p } ∷ []) ++ rest)
      here true z =
          let none : q ≡ p = e ∙ ap (λ n. p + section_bytes version t n) (eqb-true count 0 z) ∙ ap (λ n. p + n) (bytes_none t) ∙ omega arith in
          laid_earlier t (suc t) p end rest (omega arith) (subst (λ n. Laid (suc t) n end rest) none l)
      here false z = (record { from = omega arith; last = five; some = isnt_zero count z; few = few; behind = omega arith; whole = whole }, subst (λ n. Laid (suc t) n end rest) e l)

  pub laid_last : (t p end count : ℕ) → t ≤ 5 → count < 4294967296 → p % 8 ≡ 0 → p + section_bytes version t count ≤ end → Laid t p end (kept (record { type = t; count = count; offset = p }))
  laid_last t p end count five few whole ends = here (nat_eq count 0) refl
    where
      here : (b : Bool) → nat_eq count 0 ≡ b → Laid t p end (cond b [] (record { type = t; count = count; offset = p } ∷ []))
      here true z = omega arith
      here false z = (record { from = omega arith; last = five; some = isnt_zero count z; few = few; behind = omega arith; whole = whole }, ends)

  laid_end : (t p end : ℕ) (es : List Entry) → Laid t p end es → p ≤ end
  laid_end t p end [] l = l
  laid_end t p end (e ∷ es) l =
      let b : p ≤ e.offset = l.0.behind in
      let more : end_of e ≤ end = laid_end (suc e.type) (end_of e) end es l.1 in
      omega arith

  pub laid_at : (t p end : ℕ) (es : List Entry) (i : ℕ) (e : Entry) → Laid t p end es → slice_get es i ≡ Some e → IsEntry t p e × (end_of e ≤ end)
  laid_at t p end [] i e l h = cc
  laid_at t p end (x ∷ es) zero e l h =
      let same : x ≡ e = cc in
      subst (λ y. IsEntry t p y × (end_of y ≤ end)) same (l.0, laid_end (suc x.type) (end_of x) end es l.1)
  laid_at t p end (x ∷ es) (suc i) e l h =
      let later : IsEntry (suc x.type) (end_of x) e × (end_of e ≤ end) = laid_at (suc x.type) (end_of x) end es i e l.1 h in
      let from : t ≤ x.type = l.0.from in
      let next : suc x.type ≤ e.type = later.0.from in
      let at : p ≤ x.offset = l.0.behind in
      let over : end_of x ≤ e.offset = later.0.behind in
      (record { from = omega arith; last = later.0.last; some = later.0.some; few = later.0.few; behind = omega arith; whole = later.0.whole }, later.1)

  laid_apart : (t p end : ℕ) (es : List Entry) (j i : ℕ) (a b : Entry) → Laid t p end es → j < i → slice_get es j ≡ Some a → slice_get es i ≡ Some b → (a.type < b.type) × (end_of a ≤ b.offset)
  laid_apart t p end [] j i a b l less h g = cc
  laid_apart t p end (x ∷ es) j zero a b l less h g = absurd (omega arith)
  laid_apart t p end (x ∷ es) zero (suc i) a b l less h g =
      let same : x ≡ a = cc in
      let later : IsEntry (suc x.type) (end_of x) b × (end_of b ≤ end) = laid_at (suc x.type) (end_of x) end es i b l.1 g in
      let from : suc x.type ≤ b.type = later.0.from in
      subst (λ y. (y.type < b.type) × (end_of y ≤ b.offset)) same (omega arith, later.0.behind)
  laid_apart t p end (x ∷ es) (suc j) (suc i) a b l less h g = laid_apart (suc x.type) (end_of x) end es j i a b l.1 (omega arith) h g

  -- What a reader finds

  pub record Reads (words : List ℕ) (es : List Entry) : Type 0 where
    pub edition : version_in words ≡ version
    pub count : contents_in words ≡ length es
    pub type : (i : ℕ) (e : Entry) → slice_get es i ≡ Some e → type_in words i ≡ e.type
    pub number : (i : ℕ) (e : Entry) → slice_get es i ≡ Some e → count_in words i ≡ e.count
    pub offset : (i : ℕ) (e : Entry) → slice_get es i ≡ Some e → offset_in words i ≡ e.offset

  end_read : (words : List ℕ) (es : List Entry) (i : ℕ) (e : Entry) → Reads words es → slice_get es i ≡ Some e → end_in words i ≡ end_of e
  unfolding end_in
  end_read words es i e r h = ap₂ (λ a b. a + b) (r.offset i e h) (ap (λ v. section_bytes v (type_in words i) (count_in words i)) r.edition ∙ ap₂ (section_bytes version) (r.type i e h) (r.number i e h))

  good_section : (words : List ℕ) (es : List Entry) (p end : ℕ) → Reads words es → Laid 1 p end es → 40 + 16 * length es ≤ p → end ≤ bytes_in words → (i : ℕ) → i < length es → has_good_section words i ≡ true
  unfolding has_good_section section_lies is_first_of_type are_apart
  good_section words es p end r l room fits i below =
      let (e, at) = get_some es i below in
      let is : IsEntry 1 p e × (end_of e ≤ end) = laid_at 1 p end es i e l at in
      let behind : p ≤ e.offset = is.0.behind in
      let ends : end_of e ≤ end = is.1 in
      let entry : nat_le (56 + 16 * i) (bytes_in words) ≡ true = le_true (56 + 16 * i) (bytes_in words) (let pe : p ≤ end = laid_end 1 p end es l in omega arith) in
      let typed : is_type (type_in words i) ≡ true = ap is_type (r.type i e at) ∙ ap₂ (λ a b. a && b) (le_true 1 e.type is.0.from) (le_true e.type 5 is.0.last) in
      let low : nat_le (40 + 16 * contents_in words) (offset_in words i) ≡ true = ap₂ (λ a b. nat_le (40 + 16 * a) b) r.count (r.offset i e at) ∙ le_true (40 + 16 * length es) e.offset (omega arith) in
      let high : nat_le (end_in words i) (bytes_in words) ≡ true = ap (λ a. nat_le a (bytes_in words)) (end_read words es i e r at) ∙ le_true (end_of e) (bytes_in words) (omega arith) in
      let lies : (nat_eq (count_in words i) 0 || (nat_le (40 + 16 * contents_in words) (offset_in words i) && nat_le (end_in words i) (bytes_in words))) ≡ true =
      ap (λ b. nat_eq (count_in words i) 0 || b) (ap₂ (λ a b. a && b) low high) ∙ or_true (nat_eq (count_in words i) 0) in
      ap₂ (λ a b. a && b) (ap₂ (λ a b. a && b) (ap₂ (λ a b. a && b) entry typed) lies)
      (all_hold i (λ j. not (nat_eq (type_in words j) (type_in words i)) && (nat_eq (count_in words j) 0 || nat_eq (count_in words i) 0 || nat_le (end_in words j) (offset_in words i) || nat_le (end_in words i) (offset_in words j)))
      (λ j less. let (d, was) = get_some es j (omega arith) in
      let order : (d.type < e.type) × (end_of d ≤ e.offset) = laid_apart 1 p end es j i d e l less was at in
      ap₂ (λ a b. a && b)
      (ap not (ap₂ nat_eq (r.type j d was) (r.type i e at) ∙ apart_false d.type e.type order.0))
      (third (nat_eq (count_in words j) 0) (nat_eq (count_in words i) 0) (nat_le (end_in words j) (offset_in words i)) (nat_le (end_in words i) (offset_in words j))
      (ap₂ nat_le (end_read words es j d r was) (r.offset i e at) ∙ le_true (end_of d) e.offset order.1))))
    where
      or_true : (b : Bool) → (b || true) ≡ true
      or_true true = refl
      or_true false = refl

  pub good_sections : (words : List ℕ) (es : List Entry) (p end : ℕ) → Reads words es → Laid 1 p end es → 40 + 16 * length es ≤ p → end ≤ bytes_in words → sections_are_good words ≡ true
  unfolding sections_are_good
  good_sections words es p end r l room fits =
      all_hold (contents_in words) (has_good_section words) (λ i below. good_section words es p end r l room fits i (subst (λ n. i < n) r.count below))

  pub aligned_sections : (words : List ℕ) (es : List Entry) (p end : ℕ) → Reads words es → Laid 1 p end es → sections_are_aligned words ≡ true
  unfolding sections_are_aligned is_aligned
  aligned_sections words es p end r l =
      all_hold (contents_in words) (λ i. nat_eq (count_in words i) 0 || nat_eq (offset_in words i % 8) 0) (λ i below.
      let (e, at) = get_some es i (subst (λ n. i < n) r.count below) in
      let is : IsEntry 1 p e × (end_of e ≤ end) = laid_at 1 p end es i e l at in
      ap (λ b. nat_eq (count_in words i) 0 || b) (ap (λ n. nat_eq (n % 8) 0) (r.offset i e at) ∙ eq-eqb (e.offset % 8) 0 is.0.whole) ∙ or_true (nat_eq (count_in words i) 0))
    where
      or_true : (b : Bool) → (b || true) ≡ true
      or_true true = refl
      or_true false = refl

  found_from : (words : List ℕ) (es : List Entry) (p end t n i : ℕ) (e : Entry) → Reads words es → Laid 1 p end es → n ≤ length es → i < n → slice_get es i ≡ Some e → e.type ≡ t → find_section words t n ≡ record { offset = e.offset; count = e.count }
  unfolding find_section
  found_from words es p end t zero i e r l le less at is = absurd (omega arith)
  found_from words es p end t (suc n) i e r l le less at is =
      let (d, here) = get_some es n (omega arith) in
      by (nat_eq (type_in words n) t) refl d here (found_from words es p end t n i e r l (omega arith))
    where
      by : (b : Bool) → nat_eq (type_in words n) t ≡ b → (d : Entry) → slice_get es n ≡ Some d → (i < n → slice_get es i ≡ Some e → e.type ≡ t → find_section words t n ≡ record { offset = e.offset; count = e.count }) → cond b (record { offset = offset_in words n; count = count_in words n }) (find_section words t n) ≡ record { offset = e.offset; count = e.count }
      by true f d here rest =
          let typed : d.type ≡ t = sym (r.type n d here) ∙ eqb-true (type_in words n) t f in
          ⊎_elim (λ (before : i < n). let order : (e.type < d.type) × (end_of e ≤ d.offset) = laid_apart 1 p end es i n e d l before at here in let less : e.type < d.type = order.0 in absurd (omega arith))
          (λ (same : n ≤ i). let last : n ≡ i = omega arith in
          let at_n : slice_get es n ≡ Some e = ap (slice_get es) last ∙ at in
          ap₂ (λ x y. record { offset = x; count = y }) (r.offset n e at_n) (r.number n e at_n)) (cases_lt i n)
      by false f d here rest =
          ⊎_elim (λ (before : i < n). rest before at is)
          (λ (same : n ≤ i). let last : n ≡ i = omega arith in
          let at_n : slice_get es n ≡ Some e = ap (slice_get es) last ∙ at in
          absurd (eqb-false (type_in words n) t f (r.type n e at_n ∙ is))) (cases_lt i n)

  none_from : (words : List ℕ) (es : List Entry) (t n : ℕ) → Reads words es → n ≤ length es → ((i : ℕ) (e : Entry) → slice_get es i ≡ Some e → e.type ≢ t) → find_section words t n ≡ record { offset = 0; count = 0 }
  unfolding find_section
  none_from words es t zero r le none = refl
  none_from words es t (suc n) r le none =
      let (d, here) = get_some es n (omega arith) in
      ap (λ b. cond b (record { offset = offset_in words n; count = count_in words n }) (find_section words t n)) (isnt (type_in words n) t (λ f. none n d here (sym (r.type n d here) ∙ f))) ∙ none_from words es t n r (omega arith) none
    where
      isnt : (a b : ℕ) → a ≢ b → nat_eq a b ≡ false
      isnt a b h = grind (arith, nat_tests)

  pub section_is : (words : List ℕ) (es : List Entry) (p end t : ℕ) → Reads words es → Laid 1 p end es → section_of words t ≡ pick t es
  unfolding section_of
  section_is words es p end t r l =
      ap (find_section words t) r.count
      ∙ ⊎_elim
      (λ (there : (i : ℕ) × (e : Entry) × (slice_get es i ≡ Some e) × (e.type ≡ t) × (pick t es ≡ record { offset = e.offset; count = e.count })).
      found_from words es p end t (length es) there.0 there.1 r l (omega arith) (get_below es there.1 there.0 there.2) there.2 there.3 ∙ sym there.4)
      (λ (not_there : ((i : ℕ) (e : Entry) → slice_get es i ≡ Some e → e.type ≢ t) × (pick t es ≡ record { offset = 0; count = 0 })).
      none_from words es t (length es) r (omega arith) not_there.0 ∙ sym not_there.1) (pick_is t es)
