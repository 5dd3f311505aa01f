-- Each step that the reader makes is one of the grammar: what may follow after it, with the byte before
-- it may follow where the byte stood.
use Rattle.std.proofs.Common.{◌≡◌, ℕ, ◌+◌, ◌-◌, ◌*◌, ◌≤◌, ◌<◌, Bool, true, false, if◌then◌else◌, ◌&&◌, ◌||◌, ◌==◌, nat_le, inl, inr, List, [], ◌∷◌, ◌++◌, length, drop, slice_index, Option, Some, None, refl, sym, ap, ◌∙◌, subst, arith, codes, drop-cons, drop_of_length-le, add-one, lit<}
use Rattle.std.proofs.lemmas.Bool.{eqb-true}
use Rattle.std.proofs.lemmas.Bool.Decides.{nat_tests}
use Rattle.pcp_base.specs.Names.{is_letter, is_name_byte}
use Rattle.log_schedule.specs.Configuration.{is_digit, is_blank, is_between}
use Rattle.log_schedule.specs.declared.config.Group.{Group}
use Rattle.log_schedule.specs.declared.stage.Unit.TheVariants as units
use Rattle.log_schedule.specs.declared.stage.Word.{Word}
use Rattle.log_schedule.specs.declared.stage.Word.TheVariants as words
use Rattle.log_schedule.specs.declared.stage.Next.{Next}
use Rattle.log_schedule.specs.declared.stage.Next.TheVariants as nexts
use Rattle.log_schedule.specs.declared.stage.Stage.{Stage}
use Rattle.log_schedule.specs.declared.stage.Stage.TheVariants as stages
use Rattle.log_schedule.specs.declared.stage.Act.TheVariants as acts
use Rattle.log_schedule.specs.Scanning.{millis, word_text, Step, after_word, in_word, word_byte, digit_byte, number_byte, interval_byte, first_byte, unit_byte, minute_byte, letter_byte, name_end, name_byte, after_byte, brace_byte, part_byte, comma_byte, blank_step, blank_of, other_of, next_of, Found, after_act, IsStage}
use Rattle.log_schedule.proofs.Rest.{Done, Closes, NextName, InName, InDot, After, Brace, UnitRest, MinuteRest, NumberRest, FirstDigit, IntervalRest, Gap, Spaced, Goes, Ends, AfterOn, AfterMandatory, AfterLog, blank_before, blank_is_between, done_blank, next_cons, next_letter, done_brace, closes_done, closes_next, closes_blank, name_byte_before, dot_before, part_before, name_ends, brace_blank, brace_open, unit_blank, unit_word, minute_word, unit_minute, number_ends, digit_before, first_blank, first_digit, timed, interval_blank, interval_once, interval_every, spaced_blank, statement}

-- what may follow a whole word
abbrev pub WordRest : Word → Found → List Group → List ℕ → Type 0
WordRest words.Log f out = AfterLog f.groups f.names out
WordRest words.Mandatory f out = AfterMandatory f.groups f.names out
WordRest words.On f out = AfterOn f.groups f.names out
WordRest words.Every f out = Gap (λ rest. FirstDigit f.groups f.names rest out)
WordRest words.Once f out = λ rest. Brace f.groups None f.names rest out
WordRest (words.Unit unit n) f out = λ rest. Brace f.groups (Some (n * millis unit)) f.names rest out

-- what may follow a gap
abbrev pub NextRest : Next → Found → List Group → List ℕ → Type 0
NextRest nexts.Mandatory f out = Spaced (codes "mandatory") (AfterMandatory f.groups f.names out)
NextRest nexts.On f out = Spaced (codes "on") (AfterOn f.groups f.names out)
NextRest nexts.Interval f out = λ rest. IntervalRest f.groups f.names rest out
NextRest nexts.Number f out = λ rest. FirstDigit f.groups f.names rest out

-- what may follow at a place, with what has been found; before a statement no name has been
abbrev pub Rest : Stage → Found → List Group → List ℕ → Type 0
Rest stages.Between f out bytes = f.names ≡ [] → Ends f.groups bytes out
Rest (stages.Word word seen) f out bytes = Goes (drop seen (word_text word)) (WordRest word f out) bytes
Rest (stages.Gap next) f out bytes = Gap (NextRest next f out) bytes
Rest (stages.Spaced next) f out bytes = NextRest next f out bytes
Rest (stages.Number n) f out bytes = NumberRest f.groups f.names n bytes out
Rest (stages.Unit n) f out bytes = UnitRest f.groups f.names n bytes out
Rest (stages.Minute n) f out bytes = MinuteRest f.groups f.names n bytes out
Rest stages.Brace f out bytes = Brace f.groups f.interval f.names bytes out
Rest stages.First f out bytes = NextName is_blank f.groups f.interval f.names bytes out
Rest stages.Name f out bytes = InName f.groups f.interval f.names f.name bytes out
Rest stages.Dot f out bytes = InDot f.groups f.interval f.names f.name bytes out
Rest stages.Comma f out bytes = NextName is_between f.groups f.interval f.names bytes out
Rest stages.After f out bytes = After f.groups f.interval f.names bytes out

-- the same after a step
abbrev pub Steps : Option Step → ℕ → Found → List Group → List ℕ → Type 0
Steps None b f out bytes = ⊥
Steps (Some step) b f out bytes = Rest step.0 (after_act step.1 b f) out bytes

-- a fact of a choice is one of either side
by_if : {A : Type 0} (P : A → Type 0) {C : Type 0} (t : Bool) (x y : A) → (t ≡ true → P x → C) → (t ≡ false → P y → C) → P (if t then x else y) → C
by_if P true x y f g h = f refl h
by_if P false x y f g h = g refl h

and_left : (x y : Bool) → (x && y) ≡ true → x ≡ true
and_left true y h = refl
and_left false y h = h

pub and_right : (x y : Bool) → (x && y) ≡ true → y ≡ true
and_right true y h = h
and_right false y h = absurd (cc h)

or_right : (x y : Bool) → y ≡ true → (x || y) ≡ true
or_right true y h = refl
or_right false y h = h

low_digit : (b : ℕ) → is_digit b ≡ true → b == 48 ≡ false → 49 ≤ b
low_digit b digit other = grind (arith, nat_tests)

high_digit : (b : ℕ) → is_digit b ≡ true → b ≤ 57
high_digit b digit = grind (arith, nat_tests)

module _ (f : Found) (out : List Group) (b : ℕ) (bytes : List ℕ) where
  abbrev Goal : Option Step → Type 0
  Goal o = Steps o b f out bytes

  -- the byte is the first of a text
  begins : (c : ℕ) (left text : List ℕ) → text ≡ c ∷ left → b == c ≡ true → text ≡ b ∷ left
  begins c left text e same = e ∙ ap (λ x. x ∷ left) (sym (eqb-true b c same))

  after_steps : (word : Word) → Goal (Some (after_word word)) → WordRest word f out bytes
  after_steps words.Log steps = steps
  after_steps words.Mandatory steps = steps
  after_steps words.On steps = steps
  after_steps words.Every steps = steps
  after_steps words.Once steps = steps
  after_steps (words.Unit unit n) steps = steps

  -- the next byte of a word
  word_steps : (word : Word) (seen : ℕ) → seen < length (word_text word) → Goal (word_byte word seen b) → Goes (drop seen (word_text word)) (WordRest word f out) (b ∷ bytes)
  word_steps word seen within = by_if Goal (b == slice_index (word_text word) seen) (Some (in_word word (seen + 1))) None
      (λ (same : b == slice_index (word_text word) seen ≡ true) (steps : Goal (Some (in_word word (seen + 1)))).
      let next : drop seen (word_text word) ≡ b ∷ drop (seen + 1) (word_text word) = rw (add-one, eqb-true b (slice_index (word_text word) seen) same) (drop-cons (word_text word) seen 0 within) in
      let inner : Goes (drop (seen + 1) (word_text word)) (WordRest word f out) bytes = by_if (λ (s : Step). Goal (Some s)) (seen + 1 == length (word_text word)) (after_word word) (stages.Word word (seen + 1), acts.Keep)
      (λ (whole : seen + 1 == length (word_text word) ≡ true) (steps : Goal (Some (after_word word))).
      record {
        rest = bytes;
        spelled = let nothing : drop (seen + 1) (word_text word) ≡ [] = drop_of_length-le (word_text word) (omega (arith, eqb-true (seen + 1) (length (word_text word)) whole)) in ap (λ bs. bs ++ bytes) (sym nothing);
        goes = after_steps word steps;
      })
      (λ (_ : seen + 1 == length (word_text word) ≡ false) (steps : Goal (Some (stages.Word word (seen + 1), acts.Keep))). steps)
      steps in
      record { rest = inner.rest; spelled = ap (λ bs. b ∷ bs) inner.spelled ∙ ap (λ bs. bs ++ inner.rest) (sym next); goes = inner.goes })
      (λ (_ : b == slice_index (word_text word) seen ≡ false) (no : Goal None). absurd no)

  digit_steps : (n : ℕ) → Goal (digit_byte n b) → NumberRest f.groups f.names n (b ∷ bytes) out
  digit_steps n = by_if Goal (is_digit b && nat_le (n * 10 + (b - 48)) 1000000000) (Some (stages.Number (n * 10 + (b - 48)), acts.Keep)) None
      (λ (digit : (is_digit b && nat_le (n * 10 + (b - 48)) 1000000000) ≡ true) (steps : NumberRest f.groups f.names (n * 10 + (b - 48)) bytes out). digit_before f.groups f.names out n b bytes (and_left (is_digit b) (nat_le (n * 10 + (b - 48)) 1000000000) digit) steps)
      (λ (_ : (is_digit b && nat_le (n * 10 + (b - 48)) 1000000000) ≡ false) (no : ⊥). absurd no)

  -- a first digit has its bounds, and a number begins with it
  number_parts : {C : Type 0} → (49 ≤ b → b ≤ 57 → NumberRest f.groups f.names (b - 48) bytes out → C) → Goal (number_byte b) → C
  number_parts {C} go = by_if Goal {C = C} (b == 48) None (digit_byte 0 b)
      (λ (_ : b == 48 ≡ true) (no : ⊥). absurd no)
      (λ (other : b == 48 ≡ false). by_if Goal {C = C} (is_digit b && nat_le (0 * 10 + (b - 48)) 1000000000) (Some (stages.Number (0 * 10 + (b - 48)), acts.Keep)) None
      (λ (digit : (is_digit b && nat_le (0 * 10 + (b - 48)) 1000000000) ≡ true) (steps : NumberRest f.groups f.names (0 * 10 + (b - 48)) bytes out).
      let is : is_digit b ≡ true = and_left (is_digit b) (nat_le (0 * 10 + (b - 48)) 1000000000) digit in
      let same : 0 * 10 + (b - 48) ≡ b - 48 = omega arith in
      go (low_digit b is other) (high_digit b is) (subst (λ (n : ℕ). NumberRest f.groups f.names n bytes out) same steps))
      (λ (_ : (is_digit b && nat_le (0 * 10 + (b - 48)) 1000000000) ≡ false) (no : ⊥). absurd no))

  number_steps : Goal (number_byte b) → FirstDigit f.groups f.names (b ∷ bytes) out
  number_steps = number_parts (λ (low : 49 ≤ b) (high : b ≤ 57) (r : NumberRest f.groups f.names (b - 48) bytes out). first_digit f.groups f.names out b bytes low high r)

  interval_steps : Goal (interval_byte b) → IntervalRest f.groups f.names (b ∷ bytes) out
  interval_steps = by_if Goal (b == 111) (Some (stages.Word words.Once 1, acts.Keep)) (if b == 101 then Some (stages.Word words.Every 1, acts.Keep) else number_byte b)
      (λ (same : b == 111 ≡ true) (steps : Goal (Some (stages.Word words.Once 1, acts.Keep))). interval_once f.groups f.names out (drop 1 (codes "once")) b bytes (begins 111 (drop 1 (codes "once")) (codes "once") refl same) steps)
      (λ (_ : b == 111 ≡ false). by_if Goal (b == 101) (Some (stages.Word words.Every 1, acts.Keep)) (number_byte b)
      (λ (same : b == 101 ≡ true) (steps : Goal (Some (stages.Word words.Every 1, acts.Keep))). interval_every f.groups f.names out (drop 1 (codes "every")) b bytes (begins 101 (drop 1 (codes "every")) (codes "every") refl same) steps)
      (λ (_ : b == 101 ≡ false). number_parts (λ (low : 49 ≤ b) (high : b ≤ 57) (r : NumberRest f.groups f.names (b - 48) bytes out). timed f.groups f.names out [] bytes b (inl refl) low high r)))

  unit_steps : (n : ℕ) → Goal (unit_byte n b) → UnitRest f.groups f.names n (b ∷ bytes) out
  unit_steps n = by_if Goal (b == 109) (Some (stages.Minute n, acts.Keep)) (if b == 115 then Some (stages.Word (words.Unit units.Sec n) 1, acts.Keep) else if b == 104 then Some (stages.Word (words.Unit units.Hour n) 1, acts.Keep) else None)
      (λ (same : b == 109 ≡ true) (steps : MinuteRest f.groups f.names n bytes out). subst (λ (x : ℕ). UnitRest f.groups f.names n (x ∷ bytes) out) (sym (eqb-true b 109 same)) (unit_minute f.groups f.names out n bytes steps))
      (λ (_ : b == 109 ≡ false). by_if Goal (b == 115) (Some (stages.Word (words.Unit units.Sec n) 1, acts.Keep)) (if b == 104 then Some (stages.Word (words.Unit units.Hour n) 1, acts.Keep) else None)
      (λ (same : b == 115 ≡ true) (steps : Goal (Some (stages.Word (words.Unit units.Sec n) 1, acts.Keep))). unit_word f.groups f.names out n (codes "sec") (drop 1 (codes "sec")) 1000 b bytes (begins 115 (drop 1 (codes "sec")) (codes "sec") refl same) (inr (inl (refl, refl))) steps)
      (λ (_ : b == 115 ≡ false). by_if Goal (b == 104) (Some (stages.Word (words.Unit units.Hour n) 1, acts.Keep)) None
      (λ (same : b == 104 ≡ true) (steps : Goal (Some (stages.Word (words.Unit units.Hour n) 1, acts.Keep))). unit_word f.groups f.names out n (codes "hour") (drop 1 (codes "hour")) 3600000 b bytes (begins 104 (drop 1 (codes "hour")) (codes "hour") refl same) (inr (inr (inr (refl, refl)))) steps)
      (λ (_ : b == 104 ≡ false) (no : ⊥). absurd no)))

  minute_steps : (n : ℕ) → Goal (minute_byte n b) → MinuteRest f.groups f.names n (b ∷ bytes) out
  minute_steps n = by_if Goal (b == 115) (Some (stages.Word (words.Unit units.Msec n) 2, acts.Keep)) (if b == 105 then Some (stages.Word (words.Unit units.Min n) 2, acts.Keep) else None)
      (λ (same : b == 115 ≡ true) (steps : Goal (Some (stages.Word (words.Unit units.Msec n) 2, acts.Keep))). minute_word f.groups f.names out n (codes "msec") (drop 2 (codes "msec")) 1 b bytes (ap (λ x. 109 ∷ x ∷ drop 2 (codes "msec")) (sym (eqb-true b 115 same))) (inl (refl, refl)) steps)
      (λ (_ : b == 115 ≡ false). by_if Goal (b == 105) (Some (stages.Word (words.Unit units.Min n) 2, acts.Keep)) None
      (λ (same : b == 105 ≡ true) (steps : Goal (Some (stages.Word (words.Unit units.Min n) 2, acts.Keep))). minute_word f.groups f.names out n (codes "min") (drop 2 (codes "min")) 60000 b bytes (ap (λ x. 109 ∷ x ∷ drop 2 (codes "min")) (sym (eqb-true b 105 same))) (inr (inr (inl (refl, refl)))) steps)
      (λ (_ : b == 105 ≡ false) (no : ⊥). absurd no))

  letter_steps : (test : ℕ → Bool) → Goal (letter_byte b) → NextName test f.groups f.interval f.names (b ∷ bytes) out
  letter_steps test = by_if Goal (is_letter b) (Some (stages.Name, acts.Begin)) None
      (λ (letter : is_letter b ≡ true) (steps : InName f.groups f.interval f.names (b ∷ []) bytes out). next_letter f.groups f.interval f.names out test b bytes letter steps)
      (λ (_ : is_letter b ≡ false) (no : ⊥). absurd no)

  abbrev names' : List (List ℕ)
  names' = f.names ++ f.name ∷ []

  name_end_steps : Goal (name_end b) → InName f.groups f.interval f.names f.name (b ∷ bytes) out
  name_end_steps = by_if Goal (is_blank b) (Some (stages.After, acts.Name)) (if b == 44 then Some (stages.Comma, acts.Name) else if b == 125 then Some (stages.Between, acts.Last) else None)
      (λ (blank : is_blank b ≡ true) (steps : After f.groups f.interval names' bytes out). name_ends f.groups f.interval f.names f.name out (b ∷ bytes) (closes_blank f.groups f.interval names' out b bytes blank steps))
      (λ (_ : is_blank b ≡ false). by_if Goal (b == 44) (Some (stages.Comma, acts.Name)) (if b == 125 then Some (stages.Between, acts.Last) else None)
      (λ (comma : b == 44 ≡ true) (steps : NextName is_between f.groups f.interval names' bytes out). name_ends f.groups f.interval f.names f.name out (b ∷ bytes) (closes_next f.groups f.interval names' out b bytes (or_right (is_blank b) (b == 44) comma) steps))
      (λ (_ : b == 44 ≡ false). by_if Goal (b == 125) (Some (stages.Between, acts.Last)) None
      (λ (same : b == 125 ≡ true) (steps : Goal (Some (stages.Between, acts.Last))). name_ends f.groups f.interval f.names f.name out (b ∷ bytes)
      (subst (λ (x : ℕ). Closes f.groups f.interval names' (x ∷ bytes) out) (sym (eqb-true b 125 same)) (closes_done f.groups f.interval names' out (125 ∷ bytes) (done_brace f.groups f.interval names' out bytes (steps refl)))))
      (λ (_ : b == 125 ≡ false) (no : ⊥). absurd no)))

  name_steps : Goal (name_byte b) → InName f.groups f.interval f.names f.name (b ∷ bytes) out
  name_steps = by_if Goal (is_name_byte b) (Some (stages.Name, acts.Add)) (if b == 46 then Some (stages.Dot, acts.Add) else name_end b)
      (λ (passes : is_name_byte b ≡ true) (steps : InName f.groups f.interval f.names (f.name ++ b ∷ []) bytes out). name_byte_before f.groups f.interval f.names f.name out b bytes passes steps)
      (λ (_ : is_name_byte b ≡ false). by_if Goal (b == 46) (Some (stages.Dot, acts.Add)) (name_end b)
      (λ (same : b == 46 ≡ true) (steps : InDot f.groups f.interval f.names (f.name ++ b ∷ []) bytes out).
      subst (λ (x : ℕ). InName f.groups f.interval f.names f.name (x ∷ bytes) out) (sym (eqb-true b 46 same))
      (dot_before f.groups f.interval f.names f.name out bytes (subst (λ (x : ℕ). InDot f.groups f.interval f.names (f.name ++ x ∷ []) bytes out) (eqb-true b 46 same) steps)))
      (λ (_ : b == 46 ≡ false). name_end_steps))

  part_steps : Goal (part_byte b) → InDot f.groups f.interval f.names f.name (b ∷ bytes) out
  part_steps = by_if Goal (is_letter b) (Some (stages.Name, acts.Add)) None
      (λ (letter : is_letter b ≡ true) (steps : InName f.groups f.interval f.names (f.name ++ b ∷ []) bytes out). part_before f.groups f.interval f.names f.name out b bytes letter steps)
      (λ (_ : is_letter b ≡ false) (no : ⊥). absurd no)

  comma_steps : Goal (comma_byte b) → NextName is_between f.groups f.interval f.names (b ∷ bytes) out
  comma_steps = by_if Goal (b == 44) (Some (stages.Comma, acts.Keep)) (letter_byte b)
      (λ (comma : b == 44 ≡ true) (steps : NextName is_between f.groups f.interval f.names bytes out). next_cons f.groups f.interval f.names out is_between b bytes (or_right (is_blank b) (b == 44) comma) steps)
      (λ (_ : b == 44 ≡ false). letter_steps is_between)

  space_steps : Goal (after_byte b) → After f.groups f.interval f.names (b ∷ bytes) out
  space_steps = by_if Goal (b == 44) (Some (stages.Comma, acts.Keep)) (if b == 125 then Some (stages.Between, acts.Statement) else letter_byte b)
      (λ (comma : b == 44 ≡ true) (steps : NextName is_between f.groups f.interval f.names bytes out). inr (next_cons f.groups f.interval f.names out is_between b bytes (or_right (is_blank b) (b == 44) comma) steps))
      (λ (_ : b == 44 ≡ false). by_if Goal (b == 125) (Some (stages.Between, acts.Statement)) (letter_byte b)
      (λ (same : b == 125 ≡ true) (steps : Goal (Some (stages.Between, acts.Statement))). inl (subst (λ (x : ℕ). Done f.groups f.interval f.names (x ∷ bytes) out) (sym (eqb-true b 125 same)) (done_brace f.groups f.interval f.names out bytes (steps refl))))
      (λ (_ : b == 125 ≡ false) (steps : Goal (letter_byte b)). inr (letter_steps is_between steps)))

  brace_steps : Goal (brace_byte b) → Brace f.groups f.interval f.names (b ∷ bytes) out
  brace_steps = by_if Goal (b == 123) (Some (stages.First, acts.Keep)) None
      (λ (same : b == 123 ≡ true) (steps : NextName is_blank f.groups f.interval f.names bytes out). subst (λ (x : ℕ). Brace f.groups f.interval f.names (x ∷ bytes) out) (sym (eqb-true b 123 same)) (brace_open f.groups f.names out f.interval bytes steps))
      (λ (_ : b == 123 ≡ false) (no : ⊥). absurd no)

  -- a word with no blank before it
  spaced_from : (word : List ℕ) (language : List ℕ → Type 0) → Goes word language (b ∷ bytes) → Spaced word language (b ∷ bytes)
  spaced_from word language g = record { blanks = []; rest = g.rest; spelled = g.spelled; are_blanks = tt; goes = g.goes }

  next_steps : (next : Next) → Goal (first_byte next b) → NextRest next f out (b ∷ bytes)
  next_steps nexts.Mandatory steps = spaced_from (codes "mandatory") (AfterMandatory f.groups f.names out) (word_steps words.Mandatory 0 (lit< tt) steps)
  next_steps nexts.On steps = spaced_from (codes "on") (AfterOn f.groups f.names out) (word_steps words.On 0 (lit< tt) steps)
  next_steps nexts.Interval steps = interval_steps steps
  next_steps nexts.Number steps = number_steps steps

  statement_steps : Goal (word_byte words.Log 0 b) → f.names ≡ [] → Ends f.groups (b ∷ bytes) out
  statement_steps steps none =
      let g : Goes (codes "log") (AfterLog f.groups f.names out) (b ∷ bytes) = word_steps words.Log 0 (lit< tt) steps in
      subst (λ (bs : List ℕ). Ends f.groups bs out) (sym g.spelled) (statement f.groups out g.rest (subst (λ (ns : List (List ℕ)). AfterLog f.groups ns out g.rest) none g.goes))

  -- a byte that is no blank, or stands where blanks have no place of their own
  other_steps : (p : Stage) → IsStage p → Goal (other_of p b) → Rest p f out (b ∷ bytes)
  other_steps stages.Between good steps = statement_steps steps
  other_steps (stages.Word word seen) good steps = word_steps word seen good.0 steps
  other_steps (stages.Gap next) good steps = absurd steps
  other_steps (stages.Spaced next) good steps = next_steps next steps
  other_steps (stages.Number n) good steps = digit_steps n steps
  other_steps (stages.Unit n) good steps = unit_steps n steps
  other_steps (stages.Minute n) good steps = minute_steps n steps
  other_steps stages.Brace good steps = brace_steps steps
  other_steps stages.First good steps = letter_steps is_blank steps
  other_steps stages.Name good steps = name_steps steps
  other_steps stages.Dot good steps = part_steps steps
  other_steps stages.Comma good steps = comma_steps steps
  other_steps stages.After good steps = space_steps steps

  spaced_steps : (next : Next) → is_blank b ≡ true → NextRest next f out bytes → NextRest next f out (b ∷ bytes)
  spaced_steps nexts.Mandatory blank steps = spaced_blank f.groups f.names out (codes "mandatory") (AfterMandatory f.groups f.names out) b bytes blank steps
  spaced_steps nexts.On blank steps = spaced_blank f.groups f.names out (codes "on") (AfterOn f.groups f.names out) b bytes blank steps
  spaced_steps nexts.Interval blank steps = interval_blank f.groups f.names out b bytes blank steps
  spaced_steps nexts.Number blank steps = first_blank f.groups f.names out b bytes blank steps

  after_blank : is_blank b ≡ true → After f.groups f.interval f.names bytes out → After f.groups f.interval f.names (b ∷ bytes) out
  after_blank blank (inl d) = inl (done_blank f.groups f.interval f.names out b bytes blank d)
  after_blank blank (inr n) = inr (next_cons f.groups f.interval f.names out is_between b bytes (blank_is_between b blank) n)

  ends_blank : is_blank b ≡ true → (f.names ≡ [] → Ends f.groups bytes out) → f.names ≡ [] → Ends f.groups (b ∷ bytes) out
  ends_blank blank steps none = let e = steps none in record { more = e.more; whole = blank_before b blank bytes e.more e.whole; gives = e.gives }

  blank_steps : (p : Stage) → IsStage p → is_blank b ≡ true → Goal (blank_step (blank_of p) (other_of p b)) → Rest p f out (b ∷ bytes)
  blank_steps stages.Between good blank steps = ends_blank blank steps
  blank_steps (stages.Word word seen) good blank steps = other_steps (stages.Word word seen) good steps
  blank_steps (stages.Gap next) good blank steps = record { b = b; rest = bytes; spelled = refl; blank = blank; goes = steps }
  blank_steps (stages.Spaced next) good blank steps = spaced_steps next blank steps
  blank_steps (stages.Number n) good blank steps = number_ends f.groups f.names out n b bytes good blank steps
  blank_steps (stages.Unit n) good blank steps = unit_blank f.groups f.names out n b bytes blank steps
  blank_steps (stages.Minute n) good blank steps = other_steps (stages.Minute n) good steps
  blank_steps stages.Brace good blank steps = brace_blank f.groups f.names out f.interval b bytes blank steps
  blank_steps stages.First good blank steps = next_cons f.groups f.interval f.names out is_blank b bytes blank steps
  blank_steps stages.Name good blank steps = other_steps stages.Name good steps
  blank_steps stages.Dot good blank steps = other_steps stages.Dot good steps
  blank_steps stages.Comma good blank steps = next_cons f.groups f.interval f.names out is_between b bytes (blank_is_between b blank) steps
  blank_steps stages.After good blank steps = after_blank blank steps

  pub next_step : (p : Stage) → IsStage p → Goal (next_of p b) → Rest p f out (b ∷ bytes)
  next_step p good = by_if Goal (is_blank b) (blank_step (blank_of p) (other_of p b)) (other_of p b)
      (λ (blank : is_blank b ≡ true) (steps : Goal (blank_step (blank_of p) (other_of p b))). blank_steps p good blank steps)
      (λ (_ : is_blank b ≡ false) (steps : Goal (other_of p b)). other_steps p good steps)
