-- A name field that fails its test lacks a name.
use Rattle.std.proofs.Common.{◌≡◌, ℕ, zero, suc, ◌+◌, ◌<◌, ◌≤◌, Bool, true, false, not, ◌&&◌, ◌||◌, ◌⊎◌, inl, inr, List, [], ◌∷◌, ap, sym, subst, ◌∙◌, refl, arith, cond, nat_eq, ⊎_elim}
use Rattle.std.proofs.lemmas.Bool.{eq-eqb}
use Rattle.pcp_base.specs.Names.{spells}
use Rattle.mmv_layout.specs.Fields.{number64, byte_at, text_at, has_zero}
use Rattle.mmv_layout.specs.Sizes.{has_inline_names, name_width, name_room}
use Rattle.mmv_layout.specs.EntryFields.{name_start, name_text}
use Rattle.mmv_layout.specs.Contents.{version_in}
use Rattle.mmv_layout.specs.Entries.{string_at, string_count, leads, is_good_string, name_leads, name_ends, is_passed_over, has_text, has_name}
use Rattle.mmv_layout.specs.Lowest.{IsBadString, LacksName, IsEmpty, BreaksTheRule}
use Rattle.mmv_layout.proofs.Below.{some_holds}
use Rattle.mmv_layout.proofs.Texts.{text_stops}
use Rattle.mmv_layout.proofs.Widths.{room_least}
use Rattle.mmv_layout.proofs.Goods.{eq_of, ne_of, either}
use Rattle.mmv_layout.proofs.Named.{isnt, inline_text, outline_text, outline_leads}

text_empty : (words : List ℕ) (at n : ℕ) → 0 < n → nat_eq (byte_at words at) 0 ≡ true → text_at words at n ≡ []
text_empty words at n some e = text_stops words at n some (eq_of (byte_at words at) 0 e)

empty_text : (words : List ℕ) (at n : ℕ) → 0 < n → text_at words at n ≡ [] → nat_eq (byte_at words at) 0 ≡ true
unfolding text_at
empty_text words at zero some e = absurd (omega arith)
empty_text words at (suc n) some e = here (nat_eq (byte_at words at) 0) e
  where
    here : (t : Bool) → cond t [] (byte_at words at ∷ text_at words (at + 1) n) ≡ [] → t ≡ true
    here true e = refl
    here false e = cc

ends_good : (words : List ℕ) (field k : ℕ) → has_inline_names (version_in words) ≡ false → number64 words field ≡ string_at words k → name_ends words field ≡ is_good_string words k
unfolding name_ends name_start name_room is_good_string
ends_good words field k e stands = rw (e, stands) refl

ends_inline : (words : List ℕ) (field : ℕ) → has_inline_names (version_in words) ≡ true → name_ends words field ≡ has_zero words field 64
unfolding name_ends name_start name_room
ends_inline words field e = rw e refl

not_false : (b : Bool) → not b ≡ false → b ≡ true
not_false true h = refl
not_false false h = cc

empty_of : (words : List ℕ) (field : ℕ) → not (nat_eq (byte_at words (name_start words field)) 0) ≡ false → name_text words field ≡ []
unfolding name_text
empty_of words field h =
    let some : 1 ≤ name_room (version_in words) = room_least (version_in words) in
    text_empty words (name_start words field) (name_room (version_in words)) (omega arith) (not_false _ h)

of_empty : (words : List ℕ) (field : ℕ) → name_text words field ≡ [] → not (nat_eq (byte_at words (name_start words field)) 0) ≡ false
unfolding name_text
of_empty words field e =
    let some : 1 ≤ name_room (version_in words) = room_least (version_in words) in
    ap not (empty_text words (name_start words field) (name_room (version_in words)) (omega arith) e)

or_last : (x y : Bool) → y ≡ true → (x || y) ≡ true
or_last true y e = refl
or_last false y e = e

to_string : (words : List ℕ) (field k : ℕ) → k < string_count words → number64 words field ≡ string_at words k → name_leads words field ≡ true
unfolding name_leads leads
to_string words field k known stands =
    or_last (has_inline_names (version_in words)) _
    (some_holds (string_count words) k (λ k. nat_eq (string_at words k) (number64 words field)) known (eq-eqb (string_at words k) (number64 words field) (sym stands)))

-- a test of a name, by its text
module _ (words : List ℕ) (field : ℕ) (good : Bool) (fails : List ℕ → Type 0) (to : good ≡ false → fails (name_text words field)) (from : fails (name_text words field) → good ≡ false) where
  split : (leads ends : Bool) → (not (leads && ends) || (ends && good)) ≡ false → (leads ≡ true) × (ends ≡ true) × (good ≡ false)
  split true true h = (refl, refl, h)
  split true false h = cc
  split false ends h = cc

  joined : (leads ends : Bool) → leads ≡ true → ends ≡ true → good ≡ false → (not (leads && ends) || (ends && good)) ≡ false
  joined leads ends a b c = rw (a, b, c) refl

  parted : (ends : Bool) → (ends && good) ≡ false → (ends ≡ false) ⊎ (good ≡ false)
  parted true h = inr h
  parted false h = inl refl

  united : (ends : Bool) → (ends ≡ false) ⊎ (good ≡ false) → (ends && good) ≡ false
  united true h = ⊎_elim (λ (a : true ≡ false). cc) (λ (b : good ≡ false). b) h
  united false h = refl

  lacks_of : (is_passed_over words field || (name_ends words field && good)) ≡ false → LacksName fails words field
  unfolding is_passed_over name_width
  lacks_of h =
      ⊎_elim
      (λ (inside : has_inline_names (version_in words) ≡ true).
      inl (
        eq_of (version_in words) 1 inside,
        ⊎_elim (λ (a : name_ends words field ≡ false). inl (sym (ends_inline words field inside) ∙ a))
            (λ (b : good ≡ false). inr (subst fails (inline_text words field inside) (to b)))
            (parted (name_ends words field) (rw inside at h)),
      ))
      (λ (outside : has_inline_names (version_in words) ≡ false).
      let (leads, ends, bad) = split (name_leads words field) (name_ends words field) (rw outside at h) in
      let (k, known, stands) = outline_leads words field leads outside in
      inr (
        ne_of (version_in words) 1 outside,
        record {
          string = k;
          known = known;
          stands = stands;
          ends = sym (ends_good words field k outside stands) ∙ ends;
          bad = subst fails (outline_text words field outside) (to bad);
        },
      ))
      (either (has_inline_names (version_in words)))

  of_lacks : LacksName fails words field → (is_passed_over words field || (name_ends words field && good)) ≡ false
  unfolding is_passed_over name_width
  of_lacks =
      ⊎_elim
      (λ (inside : (version_in words ≡ 1) × ((has_zero words field 64 ≡ false) ⊎ fails (text_at words field 64))).
      let is : has_inline_names (version_in words) ≡ true = eq-eqb (version_in words) 1 inside.0 in
      rw is (united (name_ends words field)
      (⊎_elim (λ (a : has_zero words field 64 ≡ false). inl (ends_inline words field is ∙ a)) (λ (b : fails (text_at words field 64)). inr (from (subst fails (sym (inline_text words field is)) b))) inside.1)))
      (λ (outside : (version_in words ≡ 1 → ⊥) × IsBadString fails words (number64 words field)).
      let isnt_inline : has_inline_names (version_in words) ≡ false = isnt (version_in words) 1 outside.0 in
      rw isnt_inline (joined (name_leads words field) (name_ends words field) (to_string words field outside.1.string outside.1.known outside.1.stands)
      (ends_good words field outside.1.string isnt_inline outside.1.stands ∙ outside.1.ends) (from (subst fails (sym (outline_text words field isnt_inline)) outside.1.bad))))

pub text_lacks : (words : List ℕ) (field : ℕ) → has_text words field ≡ false → LacksName IsEmpty words field
unfolding has_text
text_lacks words field h = lacks_of words field (not (nat_eq (byte_at words (name_start words field)) 0)) IsEmpty (empty_of words field) (of_empty words field) h

pub lacks_text : (words : List ℕ) (field : ℕ) → LacksName IsEmpty words field → has_text words field ≡ false
unfolding has_text
lacks_text words field h = of_lacks words field (not (nat_eq (byte_at words (name_start words field)) 0)) IsEmpty (empty_of words field) (of_empty words field) h

pub name_lacks : (words : List ℕ) (field : ℕ) → has_name words field ≡ false → LacksName BreaksTheRule words field
unfolding has_name
name_lacks words field h = lacks_of words field (spells true (name_text words field)) BreaksTheRule (λ e. e) (λ e. e) h

pub lacks_name : (words : List ℕ) (field : ℕ) → LacksName BreaksTheRule words field → has_name words field ≡ false
unfolding has_name
lacks_name words field h = of_lacks words field (spells true (name_text words field)) BreaksTheRule (λ e. e) (λ e. e) h
