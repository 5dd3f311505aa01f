-- What a store line finds in words of the form of an image that has what it names.
use Rattle.std.proofs.Common.{◌≡◌, ℕ, ℤ, pos, negsuc, ◌-◌, Bool, true, false, ◌||◌, cond, nat_le, nat_lt, if◌then◌else◌, List, [], ◌∷◌, map, option_map, Option, Some, None, sym, refl, ap, ◌∙◌, subst}
use Rattle.std.specs.List.{find, list_any}
use Rattle.std.specs.Prelude.{bytes_eq, unwrap_or}
use Rattle.pcp_base.specs.declared.kind.Kind.{Kind}
use Rattle.pcp_base.specs.declared.kind.Kind.TheVariants as kinds
use Rattle.text_lines.specs.Contents.{number_in_range, number_as}
use Rattle.mmv_layout.specs.declared.rows.Content.{Content}
use Rattle.mmv_layout.specs.declared.rows.Content.TheVariants as contents
use Rattle.mmv_layout.specs.declared.rows.Slot.{Slot}
use Rattle.mmv_layout.specs.Form.{Form, form_of, slots_of, texts_of, is_slot_of}
use Rattle.mmv_layout.proofs.FormSays.{texts_said}
use Rattle.region_core.specs.declared.act.Act.TheVariants.{Swap, Add}
use Rattle.run_script.specs.Recording as recording
use Rattle.run_script.specs.declared.lines.Given.{Given as Written}
use Rattle.run_script.specs.declared.lines.Given.TheVariants as written
use Rattle.script_runs.specs.Slots.{swap_of, swap_into, slot_with, value_for, field_of, text_for, add_of, add_into, low_bits, holds_number}

-- Words of one form

pairs_same : {A B : Type 0} (xs ys : List (A × B)) → map (λ (x : A × B). x.0) xs ≡ map (λ (x : A × B). x.0) ys → map (λ (x : A × B). x.1) xs ≡ map (λ (x : A × B). x.1) ys → xs ≡ ys
pairs_same [] [] e f = refl
pairs_same [] (y ∷ ys) e f = absurd (cc)
pairs_same (x ∷ xs) [] e f = absurd (cc)
pairs_same (x ∷ xs) (y ∷ ys) e f =
    let first = head_same x.0 y.0 (map (λ (z : _). z.0) xs) (map (λ (z : _). z.0) ys) e in
    let second = head_same x.1 y.1 (map (λ (z : _). z.1) xs) (map (λ (z : _). z.1) ys) f in
    let rest = pairs_same xs ys (tail_same x.0 y.0 (map (λ (z : _). z.0) xs) (map (λ (z : _). z.0) ys) e) (tail_same x.1 y.1 (map (λ (z : _). z.1) xs) (map (λ (z : _). z.1) ys) f) in
    λ i. (first i, second i) ∷ rest i
  where
    head_same : {C : Type 0} (a b : C) (xs ys : List C) → a ∷ xs ≡ b ∷ ys → a ≡ b
    head_same a b xs ys e = cc

    tail_same : {C : Type 0} (a b : C) (xs ys : List C) → a ∷ xs ≡ b ∷ ys → xs ≡ ys
    tail_same a b xs ys e = cc

module _ (words others : List ℕ) (same : form_of words ≡ form_of others) where
  pub slots_same : slots_of words ≡ slots_of others
  unfolding form_of
  slots_same = ap (λ (f : Form). f.slots) same

  texts_same : texts_of words ≡ texts_of others
  texts_same =
      let a = texts_said words in
      let b = texts_said others in
      pairs_same (texts_of words) (texts_of others) (a.0 ∙ (ap (λ (f : Form). f.offsets) same ∙ sym b.0)) (a.1 ∙ (ap (λ (f : Form). f.strings) same ∙ sym b.1))

  text_same : (kind : Kind) (text : List ℕ) → text_for kind words text ≡ text_for kind others text
  text_same kinds.I32 text = refl
  text_same kinds.U32 text = refl
  text_same kinds.I64 text = refl
  text_same kinds.U64 text = refl
  text_same kinds.Float text = refl
  text_same kinds.Double text = refl
  text_same kinds.Text text = ap (λ (texts : List (ℕ × List ℕ)). option_map (λ (found : ℕ × List ℕ). found.0) (find (λ (found : ℕ × List ℕ). bytes_eq found.1 text) texts)) texts_same
  text_same kinds.Elapsed text = refl

  value_same : (kind : Kind) (value : Written) → value_for words kind value ≡ value_for others kind value
  value_same kind (written.Number n) = refl
  value_same kind (written.Choice text) = text_same kind text

  into_same : (o : Option Slot) (value : Written) → swap_into words o value ≡ swap_into others o value
  into_same None value = refl
  into_same (Some slot) value = ap (λ (v : Option ℕ). option_map (Swap slot.word) v) (value_same slot.kind value)

  slot_same : (item : ℕ) (instance : Option ℤ) → slot_with words item instance ≡ slot_with others item instance
  slot_same item instance = ap (λ (slots : List Slot). find (is_slot_of item (unwrap_or instance (negsuc 0))) slots) slots_same

  pub swap_same : (item : ℕ) (instance : Option ℤ) (value : Written) → swap_of words item instance value ≡ swap_of others item instance value
  swap_same item instance value = ap (λ (o : Option Slot). swap_into words o value) (slot_same item instance) ∙ into_same (slot_with others item instance) value

  pub add_same : (item : ℕ) (instance : Option ℤ) (number : ℤ) → add_of words item instance number ≡ add_of others item instance number
  add_same item instance number = ap (λ (o : Option Slot). add_into o number) (slot_same item instance)

-- Words that have what a line names

found_any : {A : Type 0} (test : A → Bool) (xs : List A) → list_any test xs ≡ true → find test xs ≡ None → ⊥
found_any test [] e f = cc
found_any test (x ∷ xs) e f = by_test (test x) (found_any test xs) e f
  where
    by_test : (b : Bool) → (list_any test xs ≡ true → find test xs ≡ None → ⊥) → (b || list_any test xs) ≡ true → cond b (Some x) (find test xs) ≡ None → ⊥
    by_test true more g h = cc
    by_test false more g h = more g h

number_given : (word : ℕ) (o : Option Content) → ((c : Content) → o ≡ Some c → (n : ℕ) × (c ≡ contents.Number n)) → recording.is_some o ≡ true → option_map (Swap word) (field_of o) ≡ None → ⊥
number_given word None is e f = cc
number_given word (Some c) is e f =
    let number = is c refl in
    let g : Some (Swap word number.0) ≡ None = subst (λ (d : Content). option_map (Swap word) (field_of (Some d)) ≡ None) number.1 f in
    cc

ranged_number : (low high : ℕ) (n : ℤ) (c : Content) → number_in_range low high n ≡ Some c → (m : ℕ) × (c ≡ contents.Number m)
ranged_number low high (pos n) c e = by_test (nat_le n high) e
  where
    by_test : (b : Bool) → (if b then Some (contents.Number n) else None) ≡ Some c → (m : ℕ) × (c ≡ contents.Number m)
    by_test true f = (n, cc)
    by_test false f = absurd (cc)
ranged_number low high (negsuc n) c e = by_test (nat_lt n low) e
  where
    by_test : (b : Bool) → (if b then Some (contents.Number (18446744073709551615 - n)) else None) ≡ Some c → (m : ℕ) × (c ≡ contents.Number m)
    by_test true f = (18446744073709551615 - n, cc)
    by_test false f = absurd (cc)

as_number : (kind : Kind) (n : ℤ) (c : Content) → number_as kind n ≡ Some c → (m : ℕ) × (c ≡ contents.Number m)
as_number kinds.I32 n c e = ranged_number 2147483648 2147483647 n c e
as_number kinds.U32 n c e = ranged_number 0 4294967295 n c e
as_number kinds.I64 n c e = ranged_number 9223372036854775808 9223372036854775807 n c e
as_number kinds.U64 n c e = ranged_number 0 18446744073709551615 n c e
as_number kinds.Float n c e = absurd (cc)
as_number kinds.Double n c e = absurd (cc)
as_number kinds.Text n c e = absurd (cc)
as_number kinds.Elapsed n c e = absurd (cc)

module _ (words : List ℕ) where
  text_given : (word : ℕ) (kind : Kind) (text : List ℕ) → recording.has_text kind words text ≡ true → option_map (Swap word) (text_for kind words text) ≡ None → ⊥
  text_given word kinds.I32 text e f = cc
  text_given word kinds.U32 text e f = cc
  text_given word kinds.I64 text e f = cc
  text_given word kinds.U64 text e f = cc
  text_given word kinds.Float text e f = cc
  text_given word kinds.Double text e f = cc
  text_given word kinds.Text text e f = found_any (λ (found : ℕ × List ℕ). bytes_eq found.1 text) (texts_of words) e (unmapped (find (λ (found : ℕ × List ℕ). bytes_eq found.1 text) (texts_of words)) f)
    where
      unmapped : (o : Option (ℕ × List ℕ)) → option_map (Swap word) (option_map (λ (found : ℕ × List ℕ). found.0) o) ≡ None → o ≡ None
      unmapped None g = refl
      unmapped (Some x) g = absurd (cc)
  text_given word kinds.Elapsed text e f = cc

  value_given : (slot : Slot) (value : Written) → recording.takes_given words slot.kind value ≡ true → option_map (Swap slot.word) (value_for words slot.kind value) ≡ None → ⊥
  value_given slot (written.Number n) e f = number_given slot.word (number_as slot.kind n) (as_number slot.kind n) e f
  value_given slot (written.Choice text) e f = text_given slot.word slot.kind text e f

  pub swap_given : (item : ℕ) (instance : Option ℤ) (value : Written) → recording.takes_swap words (recording.slot_in words item instance) value ≡ true → swap_of words item instance value ≡ None → ⊥
  swap_given item instance value e f = by_slot (slot_with words item instance) e f
    where
      by_slot : (o : Option Slot) → recording.takes_swap words o value ≡ true → swap_into words o value ≡ None → ⊥
      by_slot None g h = cc
      by_slot (Some slot) g h = value_given slot value g h

  held : (kind : Kind) (word : ℕ) (number : ℤ) → recording.holds_number kind ≡ true → (if holds_number kind then Some (Add word (low_bits number)) else None) ≡ None → ⊥
  held kinds.I32 word number e f = cc
  held kinds.U32 word number e f = cc
  held kinds.I64 word number e f = cc
  held kinds.U64 word number e f = cc
  held kinds.Float word number e f = cc
  held kinds.Double word number e f = cc
  held kinds.Text word number e f = cc
  held kinds.Elapsed word number e f = cc

  pub add_given : (item : ℕ) (instance : Option ℤ) (number : ℤ) → recording.takes_add (recording.slot_in words item instance) ≡ true → add_of words item instance number ≡ None → ⊥
  add_given item instance number e f = by_slot (slot_with words item instance) e f
    where
      by_slot : (o : Option Slot) → recording.takes_add o ≡ true → add_into o number ≡ None → ⊥
      by_slot None g h = cc
      by_slot (Some slot) g h = held slot.kind slot.word number g h
