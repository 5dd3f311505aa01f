-- What the grammar has, the reader takes: from where it stands it goes over each part of a configuration.
use Rattle.std.proofs.Common.{◌≡◌, ℕ, ◌+◌, ◌-◌, ◌*◌, ◌≤◌, Bool, true, false, IsTrue, if◌then◌else◌, ◌&&◌, ◌||◌, ◌==◌, nat_le, ◌⊎◌, inl, inr, List, [], ◌∷◌, ◌++◌, Option, Some, None, option_and_then, ◌≢◌, refl, sym, ap, ◌∙◌, subst, append_assoc, arith, codes}
use Rattle.std.proofs.lemmas.List.{append-nil}
use Rattle.std.proofs.lemmas.Bool.Decides.{nat_tests}
use Rattle.std.specs.List.{AllByRecursion}
use Rattle.pcp_base.specs.Names.{is_letter, is_name_byte, IsComponent, IsName}
use Rattle.log_schedule.proofs.Named.{with_points, Parted, parted, each_passes}
use Rattle.log_schedule.specs.Configuration.{is_digit, Each, is_blank, is_between, IsGap, number_from, IsNumber, IsUnit, IsEvery, IsTimed, IsInterval, MoreNames, AreNames, IsStatement, IsConfiguration}
use Rattle.log_schedule.specs.declared.config.Group.{Group}
use Rattle.log_schedule.specs.declared.stage.Word.TheVariants as words
use Rattle.log_schedule.specs.declared.stage.Next.{Next}
use Rattle.log_schedule.specs.declared.stage.Next.TheVariants as nexts
use Rattle.log_schedule.specs.declared.stage.Stage.{Stage}
use Rattle.log_schedule.specs.declared.stage.Stage.TheVariants as stages
use Rattle.log_schedule.specs.declared.stage.Act.TheVariants as acts
use Rattle.log_schedule.specs.Scanning.{Step, blank_step, blank_of, other_of, next_of, digit_byte, number_byte, letter_byte, name_end, Found, with_name, with_statement, after_act, State, after_step, run}

-- from one state to another over these bytes, whatever follows
abbrev pub Leads : State → State → List ℕ → Type 0
Leads s t piece = (rest : List ℕ) → run s (piece ++ rest) ≡ run t rest

leads_join : (s t u : State) (x y : List ℕ) → Leads s t x → Leads t u y → Leads s u (x ++ y)
leads_join s t u x y first second rest = ap (run s) (append_assoc x y rest) ∙ first (y ++ rest) ∙ second rest

next_blank : (p : Stage) (b : ℕ) → is_blank b ≡ true → next_of p b ≡ blank_step (blank_of p) (other_of p b)
next_blank p b blank = ap (λ t. if t then blank_step (blank_of p) (other_of p b) else other_of p b) blank

next_other : (p : Stage) (b : ℕ) → is_blank b ≡ false → next_of p b ≡ other_of p b
next_other p b other = ap (λ t. if t then blank_step (blank_of p) (other_of p b) else other_of p b) other

-- one step
pub step : (p : Stage) (f : Found) (b : ℕ) (s : Step) (rest : List ℕ) → next_of p b ≡ Some s → run (p, f) (b ∷ rest) ≡ run (s.0, after_act s.1 b f) rest
step p f b s rest e = let go : Option Step → Option State = λ o. option_and_then (λ next. run next rest) (after_step o b f) in ap go e

-- blanks where they may stand
leads_blanks : (p : Stage) (f : Found) (bytes : List ℕ) → blank_of p ≡ Some p → Each is_blank bytes → Leads (p, f) (p, f) bytes
leads_blanks p f [] stays each rest = refl
leads_blanks p f (b ∷ bytes) stays (blank, each) rest =
    step p f b (p, acts.Keep) (bytes ++ rest) (next_blank p b blank ∙ ap (λ o. blank_step o (other_of p b)) stays)
    ∙ leads_blanks p f bytes stays each rest

leads_gap : (next : Next) (f : Found) (gap : List ℕ) → IsGap gap → Leads (stages.Gap next, f) (stages.Spaced next, f) gap
leads_gap next f [] is rest = absurd is
leads_gap next f (b ∷ gap) (blank, each) rest =
    step (stages.Gap next) f b (stages.Spaced next, acts.Keep) (gap ++ rest) (next_blank (stages.Gap next) b blank)
    ∙ leads_blanks (stages.Spaced next) f gap refl each rest

-- the blank after a number
leads_number_gap : (n : ℕ) (f : Found) (gap : List ℕ) → IsGap gap → Leads (stages.Number n, f) (stages.Unit n, f) gap
leads_number_gap n f [] is rest = absurd is
leads_number_gap n f (b ∷ gap) (blank, each) rest =
    step (stages.Number n) f b (stages.Unit n, acts.Keep) (gap ++ rest) (next_blank (stages.Number n) b blank)
    ∙ leads_blanks (stages.Unit n) f gap refl each rest

-- digits only make a number greater
grows : (n : ℕ) (digits : List ℕ) → n ≤ number_from n digits
grows n [] = omega arith
grows n (d ∷ digits) = let more : n * 10 + (d - 48) ≤ number_from (n * 10 + (d - 48)) digits = grows (n * 10 + (d - 48)) digits in omega arith

digit_no_blank : (b : ℕ) → is_digit b ≡ true → is_blank b ≡ false
digit_no_blank b digit = grind (arith, nat_tests)

letter_no_blank : (b : ℕ) → is_letter b ≡ true → is_blank b ≡ false
letter_no_blank b letter = grind (arith, nat_tests)

name_no_blank : (b : ℕ) → is_name_byte b ≡ true → is_blank b ≡ false
name_no_blank b passes = grind (arith, nat_tests)

small : (n : ℕ) → n ≤ 1000000000 → nat_le n 1000000000 ≡ true
small n h = grind (arith, nat_tests)

-- a digit that keeps the number in range
digit_taken : (n b : ℕ) → is_digit b ≡ true → n * 10 + (b - 48) ≤ 1000000000 → digit_byte n b ≡ Some (stages.Number (n * 10 + (b - 48)), acts.Keep)
digit_taken n b digit range =
    let taken : Option Step = Some (stages.Number (n * 10 + (b - 48)), acts.Keep) in
    ap (λ t. if t && nat_le (n * 10 + (b - 48)) 1000000000 then taken else None) digit
    ∙ ap (λ t. if t then taken else None) (small (n * 10 + (b - 48)) range)

leads_digits : (n : ℕ) (f : Found) (digits : List ℕ) → Each is_digit digits → number_from n digits ≤ 1000000000 → Leads (stages.Number n, f) (stages.Number (number_from n digits), f) digits
leads_digits n f [] each range rest = refl
leads_digits n f (d ∷ digits) (digit, each) range rest =
    let within : n * 10 + (d - 48) ≤ 1000000000 = omega (arith, grows (n * 10 + (d - 48)) digits) in
    step (stages.Number n) f d (stages.Number (n * 10 + (d - 48)), acts.Keep) (digits ++ rest) (next_other (stages.Number n) d (digit_no_blank d digit) ∙ digit_taken n d digit within)
    ∙ leads_digits (n * 10 + (d - 48)) f digits each range rest

first_is_digit : (d : ℕ) → 49 ≤ d → d ≤ 57 → is_digit d ≡ true
first_is_digit d low high = grind (arith, nat_tests)

other_than : (b c : ℕ) → b ≢ c → b == c ≡ false
other_than b c h = grind (arith, nat_tests)

number_taken : (d : ℕ) → 49 ≤ d → d ≤ 57 → number_byte d ≡ Some (stages.Number (d - 48), acts.Keep)
number_taken d low high =
    let other : d == 48 ≡ false = other_than d 48 (omega arith) in
    let same : 0 * 10 + (d - 48) ≡ d - 48 = omega arith in
    ap (λ t. if t then None else digit_byte 0 d) other
    ∙ digit_taken 0 d (first_is_digit d low high) (omega arith)
    ∙ ap (λ n. Some (stages.Number n, acts.Keep)) same

-- a number where an interval or, after `every`, a number has to come
abbrev MayNumber : Next → Type 0
MayNumber nexts.Interval = Unit {0}
MayNumber nexts.Number = Unit {0}
MayNumber next = ⊥

first_taken : (next : Next) (d : ℕ) → MayNumber next → 49 ≤ d → d ≤ 57 → next_of (stages.Spaced next) d ≡ Some (stages.Number (d - 48), acts.Keep)
first_taken nexts.Mandatory d may low high = absurd may
first_taken nexts.On d may low high = absurd may
first_taken nexts.Interval d may low high =
    next_other (stages.Spaced nexts.Interval) d (digit_no_blank d (first_is_digit d low high))
    ∙ ap (λ t. if t then Some (stages.Word words.Once 1, acts.Keep) else if d == 101 then Some (stages.Word words.Every 1, acts.Keep) else number_byte d) (other_than d 111 (omega arith))
    ∙ ap (λ t. if t then Some (stages.Word words.Every 1, acts.Keep) else number_byte d) (other_than d 101 (omega arith))
    ∙ number_taken d low high
first_taken nexts.Number d may low high = next_other (stages.Spaced nexts.Number) d (digit_no_blank d (first_is_digit d low high)) ∙ number_taken d low high

leads_number : (next : Next) (f : Found) (digits : List ℕ) (n : ℕ) → MayNumber next → IsNumber digits n → n ≤ 1000000000 → Leads (stages.Spaced next, f) (stages.Number n, f) digits
leads_number next f [] n may is range rest = absurd is
leads_number next f (d ∷ digits) n may (low, high, each, e) range rest =
    step (stages.Spaced next) f d (stages.Number (d - 48), acts.Keep) (digits ++ rest) (first_taken next d may low high)
    ∙ leads_digits (d - 48) f digits each (subst (λ (m : ℕ). m ≤ 1000000000) e range) rest
    ∙ ap (λ m. run (stages.Number m, f) rest) (sym e)

abbrev timed_by : Found → Option ℕ → Found
timed_by f interval = record f { interval = interval }

leads_unit : (n : ℕ) (f : Found) (word : List ℕ) (each : ℕ) → IsUnit word each → Leads (stages.Unit n, f) (stages.Brace, timed_by f (Some (n * each))) word
leads_unit n f word each (inl (e, m)) rest = ap (λ w. run (stages.Unit n, f) (w ++ rest)) e ∙ ap (λ x. run (stages.Brace, timed_by f (Some (n * x))) rest) (sym m)
leads_unit n f word each (inr (inl (e, m))) rest = ap (λ w. run (stages.Unit n, f) (w ++ rest)) e ∙ ap (λ x. run (stages.Brace, timed_by f (Some (n * x))) rest) (sym m)
leads_unit n f word each (inr (inr (inl (e, m)))) rest = ap (λ w. run (stages.Unit n, f) (w ++ rest)) e ∙ ap (λ x. run (stages.Brace, timed_by f (Some (n * x))) rest) (sym m)
leads_unit n f word each (inr (inr (inr (e, m)))) rest = ap (λ w. run (stages.Unit n, f) (w ++ rest)) e ∙ ap (λ x. run (stages.Brace, timed_by f (Some (n * x))) rest) (sym m)

-- a number, a gap and a unit
leads_timed : (next : Next) (f : Found) (bytes : List ℕ) (ms : ℕ) (may : MayNumber next) (i : IsTimed bytes ms) → Leads (stages.Spaced next, f) (stages.Brace, timed_by f (Some ms)) (i.digits ++ (i.gap ++ i.word))
leads_timed next f bytes ms may i rest =
    leads_join (stages.Spaced next, f) (stages.Number i.number, f) (stages.Brace, timed_by f (Some (i.number * i.each))) i.digits (i.gap ++ i.word)
    (leads_number next f i.digits i.number may i.is_number i.in_range)
    (leads_join (stages.Number i.number, f) (stages.Unit i.number, f) (stages.Brace, timed_by f (Some (i.number * i.each))) i.gap i.word
    (leads_number_gap i.number f i.gap i.is_gap)
    (leads_unit i.number f i.word i.each i.is_unit)) rest
    ∙ ap (λ m. run (stages.Brace, timed_by f (Some m)) rest) (sym i.product)

leads_interval : (f : Found) (text : List ℕ) (interval : Option ℕ) → IsInterval text interval → Leads (stages.Spaced nexts.Interval, f) (stages.Brace, timed_by f interval) text
leads_interval f text None e rest = ap (λ w. run (stages.Spaced nexts.Interval, f) (w ++ rest)) e
leads_interval f text (Some ms) i rest = ap (λ w. run (stages.Spaced nexts.Interval, f) (w ++ rest)) i.spelled ∙ by_every i.every i.may_repeat
  where
    from : State
    from = (stages.Spaced nexts.Interval, f)

    to : State
    to = (stages.Brace, timed_by f (Some ms))

    by_every : (every : List ℕ) → IsEvery every → run from ((every ++ (i.digits ++ (i.gap ++ i.word))) ++ rest) ≡ run to rest
    by_every every (inl none) = ap (λ w. run from ((w ++ (i.digits ++ (i.gap ++ i.word))) ++ rest)) none ∙ leads_timed nexts.Interval f text ms tt i rest
    by_every every (inr (gap, e, is)) =
        ap (λ w. run from ((w ++ (i.digits ++ (i.gap ++ i.word))) ++ rest)) e
        ∙ ap (run from) (append_assoc (codes "every" ++ gap) (i.digits ++ (i.gap ++ i.word)) rest)
        ∙ leads_join from (stages.Gap nexts.Number, f) (stages.Spaced nexts.Number, f) (codes "every") gap (λ r. refl) (leads_gap nexts.Number f gap is) ((i.digits ++ (i.gap ++ i.word)) ++ rest)
        ∙ leads_timed nexts.Number f text ms tt i rest

-- in a name of which so much is read
abbrev in_name : Found → List ℕ → State
in_name f name = (stages.Name, record f { name = name })

leads_tail : (f : Found) (name bytes : List ℕ) → Each is_name_byte bytes → Leads (in_name f name) (in_name f (name ++ bytes)) bytes
leads_tail f name [] each rest = ap (λ n. run (in_name f n) rest) (sym (append-nil name))
leads_tail f name (b ∷ bytes) (passes, each) rest =
    step stages.Name (record f { name = name }) b (stages.Name, acts.Add) (bytes ++ rest)
    (next_other stages.Name b (name_no_blank b passes) ∙ ap (λ t. if t then Some (stages.Name, acts.Add) else if b == 46 then Some (stages.Dot, acts.Add) else name_end b) passes)
    ∙ leads_tail f (name ++ b ∷ []) bytes each rest
    ∙ ap (λ n. run (in_name f n) rest) (append_assoc name (b ∷ []) bytes)

leads_part : (f : Found) (name part : List ℕ) → IsComponent part → Leads (stages.Dot, record f { name = name }) (in_name f (name ++ part)) part
leads_part f name [] is rest = absurd is
leads_part f name (b ∷ part) (letter, each) rest =
    step stages.Dot (record f { name = name }) b (stages.Name, acts.Add) (part ++ rest)
    (next_other stages.Dot b (letter_no_blank b letter) ∙ ap (λ t. if t then Some (stages.Name, acts.Add) else None) letter)
    ∙ leads_tail f (name ++ b ∷ []) part (each_passes part each) rest
    ∙ ap (λ n. run (in_name f n) rest) (append_assoc name (b ∷ []) part)

leads_parts : (f : Found) (name : List ℕ) (parts : List (List ℕ)) → AllByRecursion IsComponent parts → Leads (in_name f name) (in_name f (name ++ with_points parts)) (with_points parts)
leads_parts f name [] each rest = ap (λ n. run (in_name f n) rest) (sym (append-nil name))
leads_parts f name (part ∷ parts) (is, each) rest =
    ap (λ bs. run (stages.Dot, record f { name = name ++ 46 ∷ [] }) bs) (append_assoc part (with_points parts) rest)
    ∙ leads_part f (name ++ 46 ∷ []) part is (with_points parts ++ rest)
    ∙ leads_parts f ((name ++ 46 ∷ []) ++ part) parts each rest
    ∙ ap (λ n. run (in_name f n) rest) (append_assoc (name ++ 46 ∷ []) part (with_points parts) ∙ append_assoc name (46 ∷ []) (part ++ with_points parts))

-- a whole name, at a place where a letter begins one
leads_name : (p : Stage) (f : Found) (name : List ℕ) → ((b : ℕ) → is_letter b ≡ true → next_of p b ≡ Some (stages.Name, acts.Begin)) → IsName name → Leads (p, f) (in_name f name) name
leads_name p f name begins named rest = ap (λ w. run (p, f) (w ++ rest)) is.spelled ∙ by_first is.first is.component ∙ ap (λ w. run (in_name f w) rest) (sym is.spelled)
  where
    is : Parted name
    is = parted name named

    by_first : (first : List ℕ) → IsComponent first → run (p, f) ((first ++ with_points is.more) ++ rest) ≡ run (in_name f (first ++ with_points is.more)) rest
    by_first [] none = absurd none
    by_first (b ∷ first) (letter, each) =
        step p f b (stages.Name, acts.Begin) ((first ++ with_points is.more) ++ rest) (begins b letter)
        ∙ leads_join (in_name f (b ∷ [])) (in_name f (b ∷ first)) (in_name f ((b ∷ first) ++ with_points is.more)) first (with_points is.more)
        (leads_tail f (b ∷ []) first (each_passes first each)) (leads_parts f (b ∷ first) is.more is.components) rest

begins_first : (b : ℕ) → is_letter b ≡ true → next_of stages.First b ≡ Some (stages.Name, acts.Begin)
begins_first b letter = next_other stages.First b (letter_no_blank b letter) ∙ ap (λ t. if t then Some (stages.Name, acts.Begin) else None) letter

-- after a comma or after a blank
abbrev between_place : Bool → Stage
between_place true = stages.Comma
between_place false = stages.After

letter_no_comma : (b : ℕ) → is_letter b ≡ true → b == 44 ≡ false
letter_no_comma b letter = grind (arith, nat_tests)

letter_no_brace : (b : ℕ) → is_letter b ≡ true → b == 125 ≡ false
letter_no_brace b letter = grind (arith, nat_tests)

comma_no_blank : (b : ℕ) → b == 44 ≡ true → is_blank b ≡ false
comma_no_blank b comma = grind (arith, nat_tests)

begins_between : (t : Bool) (b : ℕ) → is_letter b ≡ true → next_of (between_place t) b ≡ Some (stages.Name, acts.Begin)
begins_between true b letter =
    next_other stages.Comma b (letter_no_blank b letter)
    ∙ ap (λ t. if t then Some (stages.Comma, acts.Keep) else letter_byte b) (letter_no_comma b letter)
    ∙ ap (λ t. if t then Some (stages.Name, acts.Begin) else None) letter
begins_between false b letter =
    next_other stages.After b (letter_no_blank b letter)
    ∙ ap (λ t. if t then Some (stages.Comma, acts.Keep) else if b == 125 then Some (stages.Between, acts.Statement) else letter_byte b) (letter_no_comma b letter)
    ∙ ap (λ t. if t then Some (stages.Between, acts.Statement) else letter_byte b) (letter_no_brace b letter)
    ∙ ap (λ t. if t then Some (stages.Name, acts.Begin) else None) letter

-- a blank or a comma between names
pub record Moves (t : Bool) (f : Found) (bytes : List ℕ) : Type 0 where
  pub at : Bool
  pub leads : Leads (between_place t, f) (between_place at, f) bytes

blank_moves : (t : Bool) (f : Found) (b : ℕ) (rest : List ℕ) → is_blank b ≡ true → run (between_place t, f) (b ∷ rest) ≡ run (between_place t, f) rest
blank_moves true f b rest blank = step stages.Comma f b (stages.Comma, acts.Keep) rest (next_blank stages.Comma b blank)
blank_moves false f b rest blank = step stages.After f b (stages.After, acts.Keep) rest (next_blank stages.After b blank)

comma_moves : (t : Bool) (f : Found) (b : ℕ) (rest : List ℕ) → b == 44 ≡ true → run (between_place t, f) (b ∷ rest) ≡ run (stages.Comma, f) rest
comma_moves true f b rest comma = step stages.Comma f b (stages.Comma, acts.Keep) rest (next_other stages.Comma b (comma_no_blank b comma) ∙ ap (λ t. if t then Some (stages.Comma, acts.Keep) else letter_byte b) comma)
comma_moves false f b rest comma = step stages.After f b (stages.Comma, acts.Keep) rest (next_other stages.After b (comma_no_blank b comma)
    ∙ ap (λ t. if t then Some (stages.Comma, acts.Keep) else if b == 125 then Some (stages.Between, acts.Statement) else letter_byte b) comma)

or_cases : (x y : Bool) → (x || y) ≡ true → (x ≡ true) ⊎ (y ≡ true)
or_cases true y h = inl refl
or_cases false y h = inr h

leads_between : (t : Bool) (f : Found) (bytes : List ℕ) → Each is_between bytes → Moves t f bytes
leads_between t f [] each = record { at = t; leads = λ rest. refl }
leads_between t f (b ∷ bytes) (between, each) = elim (or_cases (is_blank b) (b == 44) between) [
  | inl blank ↦ let m = leads_between t f bytes each in record { at = m.at; leads = λ rest. blank_moves t f b (bytes ++ rest) blank ∙ m.leads rest }
  | inr comma ↦ let m = leads_between true f bytes each in record { at = m.at; leads = λ rest. comma_moves t f b (bytes ++ rest) comma ∙ m.leads rest }
]

no_name_blank : (b : ℕ) → is_blank b ≡ true → is_name_byte b ≡ false
no_name_blank b blank = grind (arith, nat_tests)

no_dot_blank : (b : ℕ) → is_blank b ≡ true → b == 46 ≡ false
no_dot_blank b blank = grind (arith, nat_tests)

no_name_comma : (b : ℕ) → b == 44 ≡ true → is_name_byte b ≡ false
no_name_comma b comma = grind (arith, nat_tests)

no_dot_comma : (b : ℕ) → b == 44 ≡ true → b == 46 ≡ false
no_dot_comma b comma = grind (arith, nat_tests)

-- the blank or comma that ends a name
name_blank : (f : Found) (b : ℕ) (rest : List ℕ) → is_blank b ≡ true → run (stages.Name, f) (b ∷ rest) ≡ run (stages.After, with_name f) rest
name_blank f b rest blank = step stages.Name f b (stages.After, acts.Name) rest
    (next_blank stages.Name b blank
    ∙ ap (λ t. if t then Some (stages.Name, acts.Add) else if b == 46 then Some (stages.Dot, acts.Add) else name_end b) (no_name_blank b blank)
    ∙ ap (λ t. if t then Some (stages.Dot, acts.Add) else name_end b) (no_dot_blank b blank)
    ∙ ap (λ t. if t then Some (stages.After, acts.Name) else if b == 44 then Some (stages.Comma, acts.Name) else if b == 125 then Some (stages.Between, acts.Last) else None) blank)

name_comma : (f : Found) (b : ℕ) (rest : List ℕ) → b == 44 ≡ true → run (stages.Name, f) (b ∷ rest) ≡ run (stages.Comma, with_name f) rest
name_comma f b rest comma = step stages.Name f b (stages.Comma, acts.Name) rest
    (next_other stages.Name b (comma_no_blank b comma)
    ∙ ap (λ t. if t then Some (stages.Name, acts.Add) else if b == 46 then Some (stages.Dot, acts.Add) else name_end b) (no_name_comma b comma)
    ∙ ap (λ t. if t then Some (stages.Dot, acts.Add) else name_end b) (no_dot_comma b comma)
    ∙ ap (λ t. if t then Some (stages.After, acts.Name) else if b == 44 then Some (stages.Comma, acts.Name) else if b == 125 then Some (stages.Between, acts.Last) else None) (comma_no_blank b comma)
    ∙ ap (λ t. if t then Some (stages.Comma, acts.Name) else if b == 125 then Some (stages.Between, acts.Last) else None) comma)

-- what stands between two names
pub record Separates (f : Found) (bytes : List ℕ) : Type 0 where
  pub at : Bool
  pub leads : Leads (stages.Name, f) (between_place at, with_name f) bytes

leads_separator : (f : Found) (b : ℕ) (bytes : List ℕ) → IsTrue (is_between b) → Each is_between bytes → Separates f (b ∷ bytes)
leads_separator f b bytes between each = elim (or_cases (is_blank b) (b == 44) between) [
  | inl blank ↦ let m = leads_between false (with_name f) bytes each in record { at = m.at; leads = λ rest. name_blank f b (bytes ++ rest) blank ∙ m.leads rest }
  | inr comma ↦ let m = leads_between true (with_name f) bytes each in record { at = m.at; leads = λ rest. name_comma f b (bytes ++ rest) comma ∙ m.leads rest }
]

-- further names, of which the last is still the one begun
pub record Further (f : Found) (bytes : List ℕ) (names : List (List ℕ)) : Type 0 where
  pub to : Found
  pub leads : Leads (stages.Name, f) (stages.Name, to) bytes
  pub groups : to.groups ≡ f.groups
  pub interval : to.interval ≡ f.interval
  pub all : to.names ++ to.name ∷ [] ≡ (f.names ++ f.name ∷ []) ++ names

leads_more : (f : Found) (bytes : List ℕ) (names : List (List ℕ)) → MoreNames bytes names → Further f bytes names
leads_more f bytes [] none = record { to = f; leads = λ rest. ap (λ w. run (stages.Name, f) (w ++ rest)) none; groups = refl; interval = refl; all = sym (append-nil (f.names ++ f.name ∷ [])) }
leads_more f bytes (name ∷ names) (b, between, more, spelled, is, each, is_name, further) =
    let s = leads_separator f b between is each in
    let g : Found = record (with_name f) { name = name } in
    let m = leads_more g more names further in
    record {
      to = m.to;
      leads = λ rest.
          ap (λ w. run (stages.Name, f) (w ++ rest)) spelled
          ∙ leads_join (stages.Name, f) (between_place s.at, with_name f) (stages.Name, m.to) (b ∷ between) (name ++ more) s.leads
          (leads_join (between_place s.at, with_name f) (stages.Name, g) (stages.Name, m.to) name more (leads_name (between_place s.at) (with_name f) name (begins_between s.at) is_name) m.leads) rest;
      groups = m.groups;
      interval = m.interval;
      all = m.all ∙ append_assoc (f.names ++ f.name ∷ []) (name ∷ []) names;
    }

-- blanks and the closing brace
leads_end : (f : Found) (blanks : List ℕ) → Each is_blank blanks → Leads (stages.Name, f) (stages.Between, with_statement (with_name f)) (blanks ++ 125 ∷ [])
leads_end f [] each rest = refl
leads_end f (b ∷ blanks) (blank, each) rest =
    name_blank f b ((blanks ++ 125 ∷ []) ++ rest) blank
    ∙ leads_join (stages.After, with_name f) (stages.After, with_name f) (stages.Between, with_statement (with_name f)) blanks (125 ∷ []) (leads_blanks stages.After (with_name f) blanks refl each) (λ r. refl) rest

-- a statement adds its group
pub record Adds (f : Found) (bytes : List ℕ) (groups : List Group) : Type 0 where
  pub to : Found
  pub leads : Leads (stages.Between, f) (stages.Between, to) bytes
  pub groups_are : to.groups ≡ f.groups ++ groups
  pub none : to.names ≡ []

leads_names : (f : Found) (bytes blanks : List ℕ) (names : List (List ℕ)) → f.names ≡ [] → AreNames bytes names → Each is_blank blanks →
    (to : Found) × Leads (stages.First, f) (stages.Between, to) (bytes ++ (blanks ++ 125 ∷ [])) × (to.groups ≡ f.groups ++ record { interval = f.interval; names = names } ∷ []) × (to.names ≡ [])
leads_names f bytes blanks [] none is each = absurd is
leads_names f bytes blanks (name ∷ names) none (more, spelled, is_name, further) each =
    let g : Found = record f { name = name } in
    let m = leads_more g more names further in
    let to : Found = with_statement (with_name m.to) in
    let one : Leads (stages.First, f) (stages.Name, m.to) bytes = λ rest. ap (λ w. run (stages.First, f) (w ++ rest)) spelled ∙ leads_join (stages.First, f) (stages.Name, g) (stages.Name, m.to) name more (leads_name stages.First f name begins_first is_name) m.leads rest in
    let all : m.to.names ++ m.to.name ∷ [] ≡ name ∷ names = m.all ∙ ap (λ (ns : List (List ℕ)). (ns ++ name ∷ []) ++ names) none in (
      to,
      leads_join (stages.First, f) (stages.Name, m.to) (stages.Between, to) bytes (blanks ++ 125 ∷ []) one (leads_end m.to blanks each),
      ap (λ (gs : List Group). gs ++ record { interval = m.to.interval; names = m.to.names ++ m.to.name ∷ [] } ∷ []) m.groups
          ∙ ap (λ (i : Option ℕ). f.groups ++ record { interval = i; names = m.to.names ++ m.to.name ∷ [] } ∷ []) m.interval
          ∙ ap (λ (ns : List (List ℕ)). f.groups ++ record { interval = f.interval; names = ns } ∷ []) all,
      refl,
    )

leads_statement : (f : Found) (bytes : List ℕ) (group : Group) → f.names ≡ [] → IsStatement bytes group → Adds f bytes (group ∷ [])
leads_statement f bytes group none s =
    let timed : Found = timed_by f group.interval in
    let names = leads_names timed s.names s.blanks_3 group.names none s.are_names s.blanks.2 in
    let end : State = (stages.Between, names.0) in
    let on_names : Leads (stages.Brace, timed) end (s.blanks_1 ++ (123 ∷ (s.blanks_2 ++ (s.names ++ (s.blanks_3 ++ 125 ∷ []))))) =
    leads_join (stages.Brace, timed) (stages.Brace, timed) end s.blanks_1 (123 ∷ (s.blanks_2 ++ (s.names ++ (s.blanks_3 ++ 125 ∷ []))))
    (leads_blanks stages.Brace timed s.blanks_1 refl s.blanks.0)
    (leads_join (stages.First, timed) (stages.First, timed) end s.blanks_2 (s.names ++ (s.blanks_3 ++ 125 ∷ [])) (leads_blanks stages.First timed s.blanks_2 refl s.blanks.1) names.1) in
    let rest_5 : List ℕ = s.interval ++ (s.blanks_1 ++ (123 ∷ (s.blanks_2 ++ (s.names ++ (s.blanks_3 ++ 125 ∷ []))))) in
    let on_interval : Leads (stages.Spaced nexts.Interval, f) end rest_5 =
    leads_join (stages.Spaced nexts.Interval, f) (stages.Brace, timed) end s.interval (s.blanks_1 ++ (123 ∷ (s.blanks_2 ++ (s.names ++ (s.blanks_3 ++ 125 ∷ []))))) (leads_interval f s.interval group.interval s.is_interval) on_names in
    let rest_4 : List ℕ = s.gap_3 ++ rest_5 in
    let on_gap_3 : Leads (stages.Gap nexts.Interval, f) end rest_4 = leads_join (stages.Gap nexts.Interval, f) (stages.Spaced nexts.Interval, f) end s.gap_3 rest_5 (leads_gap nexts.Interval f s.gap_3 s.gaps.2) on_interval in
    let rest_3 : List ℕ = codes "on" ++ rest_4 in
    let on_on : Leads (stages.Spaced nexts.On, f) end rest_3 = leads_join (stages.Spaced nexts.On, f) (stages.Gap nexts.Interval, f) end (codes "on") rest_4 (λ r. refl) on_gap_3 in
    let rest_2 : List ℕ = s.gap_2 ++ rest_3 in
    let on_gap_2 : Leads (stages.Gap nexts.On, f) end rest_2 = leads_join (stages.Gap nexts.On, f) (stages.Spaced nexts.On, f) end s.gap_2 rest_3 (leads_gap nexts.On f s.gap_2 s.gaps.1) on_on in
    let rest_1 : List ℕ = codes "mandatory" ++ rest_2 in
    let on_mandatory : Leads (stages.Spaced nexts.Mandatory, f) end rest_1 = leads_join (stages.Spaced nexts.Mandatory, f) (stages.Gap nexts.On, f) end (codes "mandatory") rest_2 (λ r. refl) on_gap_2 in
    let on_gap_1 : Leads (stages.Gap nexts.Mandatory, f) end (s.gap_1 ++ rest_1) = leads_join (stages.Gap nexts.Mandatory, f) (stages.Spaced nexts.Mandatory, f) end s.gap_1 rest_1 (leads_gap nexts.Mandatory f s.gap_1 s.gaps.0) on_mandatory in
    let all : Leads (stages.Between, f) end (codes "log" ++ (s.gap_1 ++ rest_1)) = leads_join (stages.Between, f) (stages.Gap nexts.Mandatory, f) end (codes "log") (s.gap_1 ++ rest_1) (λ r. refl) on_gap_1 in
    record {
      to = names.0;
      leads = λ rest. ap (λ w. run (stages.Between, f) (w ++ rest)) s.spelled ∙ all rest;
      groups_are = names.2;
      none = names.3;
    }

-- what the grammar has is taken, and gives its groups
pub taken : (groups : List Group) (bytes : List ℕ) (f : Found) → f.names ≡ [] → IsConfiguration bytes groups →
    (to : Found) × (run (stages.Between, f) bytes ≡ Some (stages.Between, to)) × (to.groups ≡ f.groups ++ groups)
taken [] bytes f none blanks =
    (f, ap (run (stages.Between, f)) (sym (append-nil bytes)) ∙ leads_blanks stages.Between f bytes refl blanks [], sym (append-nil f.groups))
taken (group ∷ groups) bytes f none (blanks, statement, rest, spelled, are_blanks, is, whole) =
    let one = leads_statement f statement group none is in
    let others = taken groups rest one.to one.none whole in (
      others.0,
      ap (run (stages.Between, f)) spelled ∙ leads_blanks stages.Between f blanks refl are_blanks (statement ++ rest) ∙ one.leads rest ∙ others.1,
      others.2 ∙ ap (λ (gs : List Group). gs ++ groups) one.groups_are ∙ append_assoc f.groups (group ∷ []) groups,
    )
