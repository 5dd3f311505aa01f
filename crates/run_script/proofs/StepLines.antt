-- The steps of a generated script, each as a line that is read as that step.
use Rattle.std.proofs.Common.{◌≡◌, ◌≢◌, ℕ, zero, suc, pos, ◌<◌, ◌^◌, Bool, true, false, cond, not, ◌&&◌, ◌==◌, List, [], ◌∷◌, ◌++◌, refl, ap, ◌∙◌, arith, codes, decimal, bytes_eq, ne_eqb, lt-ltb, Some, None, All}
use Rattle.std.specs.Prelude.{slice_get, nat_lt}
use Rattle.std.specs.List.{position}
use Rattle.std.specs.Fmt.{digits}
use Rattle.std.proofs.lemmas.List.Folds.{list_all-append}
use Rattle.std.proofs.lemmas.List.Elements.{All-head, All-tail}
use Rattle.text_lines.specs.Laws.{EndsWord}
use Rattle.text_lines.specs.Numbers.{◌>>=◌, number_of, number32, number64, whole_number}
use Rattle.text_lines.specs.Spelling.{number_part, int_part, missing_part}
use Rattle.text_lines.specs.Words.{take_space, take_word, take_as, optional, first_word, behind_word, whole_line, name_of}
use Rattle.text_lines.proofs.Decimals.{number_of-decimal, decimal_is, whole-decimal}
use Rattle.text_lines.proofs.NumberParts.{word-decimal, number_is_read}
use Rattle.text_lines.proofs.Splitting.{IsWord, plain_word, take_as_of}
use Rattle.run_script.specs.declared.lines.Place.{Place}
use Rattle.run_script.specs.declared.lines.Slot.{Slot}
use Rattle.run_script.specs.declared.lines.StepLine.TheVariants as steps
use Rattle.run_script.specs.LineWords.{instance_of, take_place, take_slot}
use Rattle.run_script.specs.StepLines.{place_line, add_line, begin_line, tick_line, stamp_of, flush_line, store_line, other_line, step_line}
use Rattle.run_script.specs.declared.script.RegionRow.{RegionRow}
use Rattle.run_script.specs.declared.script.Line.TheVariants as lines
use Rattle.run_script.specs.Steps.{pass_below, pass_at, pass_of}
use Rattle.run_script.specs.Generated.{regions}
use Rattle.run_script.specs.GeneratedText.{pass_part, step_text}
use Rattle.run_script.specs.Laws.{second}
use Rattle.run_script.proofs.Passing.{is_line}

-- Bytes without a line feed

no_feeds : (bytes : List ℕ) → All (λ b. b ≢ 10) bytes → is_line bytes ≡ true
no_feeds [] h = refl
no_feeds (b ∷ bs) h = passes (b == 10) (ne_eqb b 10 (All-head (λ c. c ≢ 10) b bs h)) (no_feeds bs (All-tail (λ c. c ≢ 10) b bs h))
  where
    passes : (q : Bool) → q ≡ false → is_line bs ≡ true → (not q && is_line bs) ≡ true
    passes true e r = cc
    passes false e r = r

joined_line : (a b : List ℕ) → is_line a ≡ true → is_line b ≡ true → is_line (a ++ b) ≡ true
joined_line a b h k = list_all-append (λ c. not (c == 10)) a b ∙ ap (λ q. q && is_line b) h ∙ k

-- a decimal number before other bytes of a line
decimal_in_line : (n : ℕ) (more : List ℕ) → n < 10 ^ 20 → is_line more ≡ true → is_line (decimal n ++ more) ≡ true
decimal_in_line n more h is = joined_line (decimal n) more (no_feeds (decimal n) (decimal_is (λ b. b ≢ 10) (λ b low high e. omega arith) n h)) is

number_in_line : (n : ℕ) (more : List ℕ) → n < 10 ^ 20 → is_line more ≡ true → is_line (number_part n ++ more) ≡ true
unfolding number_part
number_in_line n more h is = decimal_in_line n more h is

pass_in_line : (region pass : ℕ) (more : List ℕ) → region < 3 → pass < 4 → is_line more ≡ true → is_line (pass_part region pass more) ≡ true
pass_in_line region pass more r p is = decimal_in_line region (number_part pass ++ more) (omega arith) (number_in_line pass more (omega arith) is)

-- Regions and passes

abbrev file : ℕ → List ℕ
file region = codes "r" ++ decimal region

record IsFile (region : ℕ) : Type 0 where
  word : IsWord (file region)
  name : name_of (file region) ≡ Some (file region)
  at : position (λ row. bytes_eq row.file (file region)) regions ≡ Some region
  row : RegionRow
  there : slice_get regions region ≡ Some row
  passes : row.passes ≡ 4

file_of : (region : ℕ) → region < 3 → IsFile region
unfolding name_of regions digits
file_of zero h = record { word = plain_word (file 0) refl; name = refl; at = refl; row = record { file = codes "r0"; image = 0; capacity = 2048; passes = 4; line = 247 }; there = refl; passes = refl }
file_of (suc zero) h = record { word = plain_word (file 1) refl; name = refl; at = refl; row = record { file = codes "r1"; image = 1; capacity = 2048; passes = 4; line = 248 }; there = refl; passes = refl }
file_of (suc (suc zero)) h = record { word = plain_word (file 2) refl; name = refl; at = refl; row = record { file = codes "r2"; image = 2; capacity = 2048; passes = 4; line = 249 }; there = refl; passes = refl }
file_of (suc (suc (suc n))) h = absurd (omega arith)

abbrev pub place : ℕ → ℕ → Place
place region pass = record { file = file region; pass = pass }

module _ (region pass : ℕ) (r : region < 3) (p : pass < 4) where
  place_reads : (more : List ℕ) → EndsWord more → take_place (pass_part region pass more) ≡ Some (place region pass, more)
  unfolding take_place number_part
  place_reads more ends =
      let is = file_of region r in
      ap (λ o. o >>= (λ f. take_as number_of f.1 >>= (λ k. Some (record { file = f.0; pass = k.0 }, k.1))))
      (take_as_of name_of (file region) (number_part pass ++ more) (file region) is.word refl is.name)
      ∙ ap (λ o. o >>= (λ k. Some (record { file = file region; pass = k.0 }, k.1)))
      (take_as_of number_of (decimal pass) more pass (word-decimal pass (omega arith)) ends (number_of-decimal pass (omega arith)))

  place_line_reads : place_line (pass_part region pass []) ≡ Some (place region pass)
  unfolding place_line
  place_line_reads = ap (λ o. o >>= (λ p. whole_line p.1 p.0)) (place_reads [] tt)

  pub has_pass : pass_of regions (place region pass) ≡ Some (region, pass)
  has_pass =
      let is = file_of region r in
      ap (λ o. pass_at regions o pass) is.at
      ∙ ap (λ o. pass_below region o pass) is.there
      ∙ ap (λ n. cond (nat_lt pass n) (Some (region, pass)) None) is.passes
      ∙ ap (λ b. cond b (Some (region, pass)) None) (lt-ltb pass 4 p)

  pub attach_reads : step_line (step_text (lines.Attach region pass)) ≡ Some (steps.Attach (place region pass))
  unfolding step_text step_line other_line store_line first_word behind_word
  attach_reads = ap (λ o. o >>= (λ p. Some (steps.Attach p))) place_line_reads

  pub detach_reads : step_line (step_text (lines.Detach region pass)) ≡ Some (steps.Detach (place region pass))
  unfolding step_text step_line other_line store_line first_word behind_word
  detach_reads = ap (λ o. o >>= (λ p. Some (steps.Detach p))) place_line_reads

  pub attach_in_line : is_line (step_text (lines.Attach region pass)) ≡ true
  unfolding step_text
  attach_in_line = pass_in_line region pass [] r p refl

  pub detach_in_line : is_line (step_text (lines.Detach region pass)) ≡ true
  unfolding step_text
  detach_in_line = pass_in_line region pass [] r p refl

  module _ (item n : ℕ) (small : item < 4294967296) (few : n < 4294967296) where
    abbrev slot : Slot
    slot = record { item = item; instance = None }

    slot_reads : take_slot (number_part item ++ (missing_part ++ int_part (pos n))) ≡ Some (slot, int_part (pos n))
    unfolding take_slot int_part optional
    slot_reads =
        ap (λ o. o >>= (λ i. take_as (optional instance_of) i.1 >>= (λ j. Some (record { item = i.0; instance = j.0 }, j.1))))
        (number_is_read item (missing_part ++ int_part (pos n)) small refl)
        ∙ ap (λ o. o >>= (λ j. Some (record { item = item; instance = j.0 }, j.1)))
        (take_as_of (optional instance_of) (codes "-") (int_part (pos n)) None (plain_word (codes "-") refl) refl refl)

    pub add_reads : step_line (step_text (lines.Add region pass item None (pos n))) ≡ Some (steps.Add (place region pass) slot (pos n))
    unfolding step_text step_line other_line store_line first_word behind_word add_line number_part int_part
    add_reads =
        ap (λ o. o >>= (λ p. take_slot p.1 >>= (λ s. take_space s.1 >>= (λ l. whole_number l.1 >>= (λ m. Some (steps.Add p.0 s.0 m))))))
        (place_reads (number_part item ++ (missing_part ++ int_part (pos n))) refl)
        ∙ ap (λ o. o >>= (λ s. take_space s.1 >>= (λ l. whole_number l.1 >>= (λ m. Some (steps.Add (place region pass) s.0 m))))) slot_reads
        ∙ ap (λ o. o >>= (λ m. Some (steps.Add (place region pass) slot m))) (whole-decimal (pos n) (omega arith))

    pub add_in_line : is_line (step_text (lines.Add region pass item None (pos n))) ≡ true
    unfolding step_text int_part
    add_in_line =
        pass_in_line region pass (number_part item ++ (missing_part ++ int_part (pos n))) r p
        (number_in_line item (missing_part ++ int_part (pos n)) (omega arith)
        (no_feeds (decimal n) (decimal_is (λ b. b ≢ 10) (λ b low high e. omega arith) n (omega arith))))

-- The first region's changes

pub late_reads : step_line (step_text (lines.Begin 0 0 3 0)) ≡ Some (steps.Begin (place 0 0) (codes "r0late") 0)
unfolding step_text step_line other_line store_line first_word behind_word begin_line take_place take_as take_word name_of number_part number64 digits
late_reads = refl

pub back_reads : step_line (step_text (lines.Begin 0 0 0 0)) ≡ Some (steps.Begin (place 0 0) (codes "r0") 0)
unfolding step_text step_line other_line store_line first_word behind_word begin_line take_place take_as take_word name_of number_part number64 digits
back_reads = refl

pub finish_reads : step_line (step_text (lines.Finish 0 0)) ≡ Some (steps.Finish (place 0 0))
unfolding step_text step_line other_line store_line first_word behind_word place_line take_place take_as take_word name_of number_part digits
finish_reads = refl

pub change_in_line : (is_line (step_text (lines.Begin 0 0 3 0)) ≡ true) × (is_line (step_text (lines.Begin 0 0 0 0)) ≡ true) × (is_line (step_text (lines.Finish 0 0)) ≡ true)
unfolding step_text number_part digits
change_in_line = (refl, refl, refl)

-- Ticks and flushes

zero_reads : take_as number32 (number_part 0) ≡ Some (0, [])
unfolding number_part take_as take_word first_word behind_word number32 digits
zero_reads = refl

zero_in_line : is_line (number_part 0) ≡ true
unfolding number_part digits
zero_in_line = refl

pub tick_reads : (k : ℕ) → k < 2147483648 → step_line (step_text (lines.Tick (second k))) ≡ Some (steps.Tick (second k))
unfolding step_text step_line other_line first_word behind_word tick_line number_part
tick_reads k h =
    ap (λ o. o >>= (λ s. take_as number32 s.1 >>= (λ u. stamp_of s.0 u.0 >>= (λ stamp. whole_line u.1 (steps.Tick stamp)))))
    (number_is_read k (number_part 0) (omega arith) refl)
    ∙ ap (λ o. o >>= (λ u. stamp_of k u.0 >>= (λ stamp. whole_line u.1 (steps.Tick stamp)))) zero_reads
    ∙ ap (λ b. cond (b && nat_lt 0 1000000) (Some (second k)) None >>= (λ stamp. whole_line [] (steps.Tick stamp))) (lt-ltb k 2147483648 h)

pub tick_in_line : (k : ℕ) → k < 2147483648 → is_line (step_text (lines.Tick (second k))) ≡ true
unfolding step_text
tick_in_line k h = number_in_line k (number_part 0) (omega arith) zero_in_line

pub flush_reads : step_line (step_text lines.Flush) ≡ Some steps.Flush
unfolding step_text step_line other_line first_word behind_word flush_line
flush_reads = refl

pub flush_in_line : is_line (step_text lines.Flush) ≡ true
unfolding step_text
flush_in_line = refl
