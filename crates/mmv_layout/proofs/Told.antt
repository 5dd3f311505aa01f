-- The fault that is told is the first in the order of the kinds.
use Rattle.std.proofs.Common.{◌≡◌, ◌≢◌, ℕ, ◌*◌, ◌<◌, ◌≤◌, Bool, true, false, not, List, length, nat_eq, nat_le, nat_lt, if◌then◌else◌, sym, subst, ◌∙◌, refl, arith}
use Rattle.std.specs.Prelude.{Option, Some, None}
use Rattle.std.proofs.lemmas.Bool.Decides.{nat_tests}
use Rattle.mmv_layout.specs.declared.fault.ImageFault.{ImageFault}
use Rattle.mmv_layout.specs.declared.fault.ImageFault.TheVariants.{Short, TooLarge, Magic, Version, Generations, Section, Offset, Name, Kind, Reference, Duplicate, Serial}
use Rattle.mmv_layout.specs.Sizes.{is_version}
use Rattle.mmv_layout.specs.Contents.{bytes_in, is_short, has_magic, version_in, first_generation, second_generation}
use Rattle.mmv_layout.specs.Images.{is_too_large}
use Rattle.mmv_layout.specs.Faults.{or_else, fault_where, section_fault, offset_fault, name_fault, kind_fault, reference_fault, duplicate_fault, serial_fault, header_fault, entries_fault, image_fault}
use Rattle.mmv_layout.specs.Lowest.{HasHeader, IsTold, FirstIsTold}
use Rattle.mmv_layout.proofs.Images.{short_words}

fault_same : (f g : ImageFault) → Some f ≡ Some g → f ≡ g
fault_same f g h = cc

none_fault : (f : ImageFault) → None ≡ Some f → ⊥
none_fault f h = cc

module _ (words : List ℕ) (fault : ImageFault) where
  is : (f : ImageFault) → Some f ≡ Some fault → IsTold words f → IsTold words fault
  is f h told = subst (IsTold words) (fault_same f fault h) told

  -- the entries' faults, in their order
  entries : HasHeader words → (s o n k r d e : Option ℕ) → section_fault words ≡ s → offset_fault words ≡ o → name_fault words ≡ n → kind_fault words ≡ k
      → reference_fault words ≡ r → duplicate_fault words ≡ d → serial_fault words ≡ e
      → or_else (fault_where Section s) (or_else (fault_where Offset o) (or_else (fault_where Name n) (or_else (fault_where Kind k) (or_else (fault_where Reference r) (or_else (fault_where Duplicate d) (fault_where Serial e)))))) ≡ Some fault
      → IsTold words fault
  unfolding or_else
  entries good (Some at) o n k r d e ss oo nn kk rr dd ee h = is (Section at) h (good, ss)
  entries good None (Some at) n k r d e ss oo nn kk rr dd ee h = is (Offset at) h (good, ss, oo)
  entries good None None (Some at) k r d e ss oo nn kk rr dd ee h = is (Name at) h (good, ss, oo, nn)
  entries good None None None (Some at) r d e ss oo nn kk rr dd ee h = is (Kind at) h (good, ss, oo, nn, kk)
  entries good None None None None (Some at) d e ss oo nn kk rr dd ee h = is (Reference at) h (good, ss, oo, nn, kk, rr)
  entries good None None None None None (Some at) e ss oo nn kk rr dd ee h = is (Duplicate at) h (good, ss, oo, nn, kk, rr, dd)
  entries good None None None None None None (Some at) ss oo nn kk rr dd ee h = is (Serial at) h (good, ss, oo, nn, kk, rr, dd, ee)
  entries good None None None None None None None ss oo nn kk rr dd ee h = absurd (none_fault fault h)

  eq_of : (a b : ℕ) → nat_eq a b ≡ true → a ≡ b
  eq_of a b h = grind (arith, nat_tests)

  ne_of : (a b : ℕ) → nat_eq a b ≡ false → a ≢ b
  ne_of a b h = grind (arith, nat_tests)

  -- the header's faults, and then those of the entries
  headed : 40 ≤ bytes_in words → length words ≤ 65536 → (m v g : Bool) (rest : Option ImageFault) → has_magic words ≡ m → is_version (version_in words) ≡ v
      → nat_eq (first_generation words) (second_generation words) ≡ g → (HasHeader words → rest ≡ Some fault → IsTold words fault)
      → or_else (if not m then Some Magic else if not v then Some (Version (version_in words)) else if not g then Some (Generations (first_generation words) (second_generation words)) else None) rest ≡ Some fault
      → IsTold words fault
  unfolding or_else
  headed some few false v g rest mm vv gg next h = is Magic h (some, few, mm)
  headed some few true false g rest mm vv gg next h = is (Version (version_in words)) h (some, few, mm, vv, refl)
  headed some few true true false rest mm vv gg next h =
      is (Generations (first_generation words) (second_generation words)) h (some, few, mm, vv, ne_of (first_generation words) (second_generation words) gg, refl, refl)
  headed some few true true true rest mm vv gg next h =
      next (record { some = some; few = few; magic = mm; version = vv; again = eq_of (first_generation words) (second_generation words) gg }) h

  sized : (s l : Bool) (rest : Option ImageFault) → is_short (bytes_in words) ≡ s → is_too_large words ≡ l → (40 ≤ bytes_in words → length words ≤ 65536 → rest ≡ Some fault → IsTold words fault)
      → (if s then Some (Short (bytes_in words)) else if l then Some (TooLarge (length words)) else rest) ≡ Some fault → IsTold words fault
  sized true l rest ss ll next h = is (Short (bytes_in words)) h (less (length words) (sym (short_words words) ∙ ss), refl)
    where
      less : (n : ℕ) → nat_lt n 5 ≡ true → 8 * n < 40
      less n h = grind (arith, nat_tests)
  sized false true rest ss ll next h = is (TooLarge (length words)) h (above (length words) ll, refl)
    where
      above : (n : ℕ) → not (nat_le n 65536) ≡ true → 65536 < n
      above n h = grind (arith, nat_tests)
  sized false false rest ss ll next h = next (enough (length words) (sym (short_words words) ∙ ss)) (within (length words) ll) h
    where
      enough : (n : ℕ) → nat_lt n 5 ≡ false → 40 ≤ 8 * n
      enough n h = grind (arith, nat_tests)

      within : (n : ℕ) → not (nat_le n 65536) ≡ false → n ≤ 65536
      within n h = grind (arith, nat_tests)

pub first_is_told : FirstIsTold
unfolding image_fault header_fault entries_fault
first_is_told words fault h =
    sized words fault _ _ _ refl refl
    (λ some few. headed words fault some few _ _ _ _ refl refl refl
    (λ good. entries words fault good _ _ _ _ _ _ _ refl refl refl refl refl refl refl)) h
