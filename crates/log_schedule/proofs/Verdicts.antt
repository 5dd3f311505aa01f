-- What the reader says of a text is what the grammar says: it is read, or the fault is where the text
-- can't go on as a configuration.
use Rattle.std.proofs.Common.{◌≡◌, ℕ, zero, suc, ◌+◌, ◌-◌, ◌*◌, ◌≤◌, ◌<◌, ◌≢◌, Bool, true, false, IsTrue, if◌then◌else◌, ◌&&◌, ◌==◌, nat_le, inl, inr, List, [], ◌∷◌, ◌++◌, length, take, drop, slice_index, get_or, Option, Some, None, option_and_then, refl, sym, ap, ◌∙◌, subst, append_assoc, arith, codes, drop-cons, drop_of_length-le, take-append-drop, add-one, eq-eqb, lit<}
use Rattle.std.proofs.lemmas.List.{append-nil}
use Rattle.std.proofs.lemmas.Bool.{cases_lt, leb-true}
use Rattle.std.proofs.lemmas.Bool.Decides.{nat_tests}
use Rattle.std.proofs.Math.Seq.{take-suc, take-length}
use Rattle.pcp_base.specs.Names.{is_letter, is_name_byte}
use Rattle.log_schedule.specs.Configuration.{is_digit, is_blank, IsConfiguration, IsBeginning, IsFault}
use Rattle.log_schedule.specs.declared.config.Group.{Group}
use Rattle.log_schedule.specs.declared.stage.Unit.TheVariants as units
use Rattle.log_schedule.specs.declared.stage.Word.{Word}
use Rattle.log_schedule.specs.declared.stage.Word.TheVariants as words
use Rattle.log_schedule.specs.declared.stage.Next.{Next}
use Rattle.log_schedule.specs.declared.stage.Next.TheVariants as nexts
use Rattle.log_schedule.specs.declared.stage.Stage.{Stage}
use Rattle.log_schedule.specs.declared.stage.Stage.TheVariants as stages
use Rattle.log_schedule.specs.declared.stage.Act.TheVariants as acts
use Rattle.log_schedule.specs.Scanning.{word_text, Step, after_word, in_word, word_byte, digit_byte, number_byte, interval_byte, first_byte, unit_byte, minute_byte, letter_byte, name_end, name_byte, after_byte, blank_step, blank_of, other_of, next_of, Found, after_act, IsStage, IsWord, State, after_step, run, is_between, at_start}
use Rattle.log_schedule.proofs.Rest.{Ends}
use Rattle.log_schedule.proofs.Steps.{Rest, Steps, next_step, and_right}
use Rattle.log_schedule.proofs.Accepts.{step, taken}

-- a fact of both sides of a choice is one of the choice
all_if : {A : Type 0} (P : A → Type 0) (t : Bool) (x y : A) → (t ≡ true → P x) → (t ≡ false → P y) → P (if t then x else y)
all_if P true x y f g = f refl
all_if P false x y f g = g refl

-- a step leads to a place of good numbers
abbrev pub IsGood : Option Step → Type 0
IsGood None = Unit {0}
IsGood (Some s) = IsStage s.0

nowhere : IsGood None
nowhere = tt

after_good : (word : Word) → IsGood (Some (after_word word))
after_good words.Log = tt
after_good words.Mandatory = tt
after_good words.On = tt
after_good words.Every = tt
after_good words.Once = tt
after_good (words.Unit unit n) = tt

test_false : (a b : ℕ) → a == b ≡ false → a ≢ b
test_false a b h = grind (arith, nat_tests)

word_good : (word : Word) (seen b : ℕ) → seen < length (word_text word) → IsWord word → IsGood (word_byte word seen b)
word_good word seen b within is = all_if IsGood (b == slice_index (word_text word) seen) (Some (in_word word (seen + 1))) None
    (λ (_ : b == slice_index (word_text word) seen ≡ true).
    all_if (λ (s : Step). IsGood (Some s)) (seen + 1 == length (word_text word)) (after_word word) (stages.Word word (seen + 1), acts.Keep)
    (λ (_ : seen + 1 == length (word_text word) ≡ true). after_good word)
    (λ (other : seen + 1 == length (word_text word) ≡ false).
    let unlike : seen + 1 ≢ length (word_text word) = test_false (seen + 1) (length (word_text word)) other in
    let less : seen + 1 < length (word_text word) = omega arith in
    (less, is)))
    (λ (_ : b == slice_index (word_text word) seen ≡ false). tt)

digit_good : (n b : ℕ) → IsGood (digit_byte n b)
digit_good n b = all_if IsGood (is_digit b && nat_le (n * 10 + (b - 48)) 1000000000) (Some (stages.Number (n * 10 + (b - 48)), acts.Keep)) None
    (λ (t : (is_digit b && nat_le (n * 10 + (b - 48)) 1000000000) ≡ true). leb-true (n * 10 + (b - 48)) 1000000000 (and_right (is_digit b) (nat_le (n * 10 + (b - 48)) 1000000000) t))
    (λ (_ : (is_digit b && nat_le (n * 10 + (b - 48)) 1000000000) ≡ false). tt)

number_good : (b : ℕ) → IsGood (number_byte b)
number_good b = all_if IsGood (b == 48) None (digit_byte 0 b) (λ (_ : b == 48 ≡ true). tt) (λ (_ : b == 48 ≡ false). digit_good 0 b)

interval_good : (b : ℕ) → IsGood (interval_byte b)
interval_good b = all_if IsGood (b == 111) (Some (stages.Word words.Once 1, acts.Keep)) (if b == 101 then Some (stages.Word words.Every 1, acts.Keep) else number_byte b)
    (λ (_ : b == 111 ≡ true). (lit< tt, tt))
    (λ (_ : b == 111 ≡ false). all_if IsGood (b == 101) (Some (stages.Word words.Every 1, acts.Keep)) (number_byte b)
    (λ (_ : b == 101 ≡ true). (lit< tt, tt)) (λ (_ : b == 101 ≡ false). number_good b))

first_good : (next : Next) (b : ℕ) → IsGood (first_byte next b)
first_good nexts.Mandatory b = word_good words.Mandatory 0 b (lit< tt) tt
first_good nexts.On b = word_good words.On 0 b (lit< tt) tt
first_good nexts.Interval b = interval_good b
first_good nexts.Number b = number_good b

unit_good : (n b : ℕ) → n ≤ 1000000000 → IsGood (unit_byte n b)
unit_good n b small = all_if IsGood (b == 109) (Some (stages.Minute n, acts.Keep)) (if b == 115 then Some (stages.Word (words.Unit units.Sec n) 1, acts.Keep) else if b == 104 then Some (stages.Word (words.Unit units.Hour n) 1, acts.Keep) else None)
    (λ (_ : b == 109 ≡ true). small)
    (λ (_ : b == 109 ≡ false). all_if IsGood (b == 115) (Some (stages.Word (words.Unit units.Sec n) 1, acts.Keep)) (if b == 104 then Some (stages.Word (words.Unit units.Hour n) 1, acts.Keep) else None)
    (λ (_ : b == 115 ≡ true). (lit< tt, small))
    (λ (_ : b == 115 ≡ false). all_if IsGood (b == 104) (Some (stages.Word (words.Unit units.Hour n) 1, acts.Keep)) None
    (λ (_ : b == 104 ≡ true). (lit< tt, small)) (λ (_ : b == 104 ≡ false). tt)))

minute_good : (n b : ℕ) → n ≤ 1000000000 → IsGood (minute_byte n b)
minute_good n b small = all_if IsGood (b == 115) (Some (stages.Word (words.Unit units.Msec n) 2, acts.Keep)) (if b == 105 then Some (stages.Word (words.Unit units.Min n) 2, acts.Keep) else None)
    (λ (_ : b == 115 ≡ true). (lit< tt, small))
    (λ (_ : b == 115 ≡ false). all_if IsGood (b == 105) (Some (stages.Word (words.Unit units.Min n) 2, acts.Keep)) None
    (λ (_ : b == 105 ≡ true). (lit< tt, small)) (λ (_ : b == 105 ≡ false). tt))

letter_good : (b : ℕ) → IsGood (letter_byte b)
letter_good b = all_if IsGood (is_letter b) (Some (stages.Name, acts.Begin)) None (λ (_ : is_letter b ≡ true). tt) (λ (_ : is_letter b ≡ false). tt)

name_end_good : (b : ℕ) → IsGood (name_end b)
name_end_good b = all_if IsGood (is_blank b) (Some (stages.After, acts.Name)) (if b == 44 then Some (stages.Comma, acts.Name) else if b == 125 then Some (stages.Between, acts.Last) else None)
    (λ (_ : is_blank b ≡ true). tt)
    (λ (_ : is_blank b ≡ false). all_if IsGood (b == 44) (Some (stages.Comma, acts.Name)) (if b == 125 then Some (stages.Between, acts.Last) else None)
    (λ (_ : b == 44 ≡ true). tt)
    (λ (_ : b == 44 ≡ false). all_if IsGood (b == 125) (Some (stages.Between, acts.Last)) None (λ (_ : b == 125 ≡ true). tt) (λ (_ : b == 125 ≡ false). tt)))

name_good : (b : ℕ) → IsGood (name_byte b)
name_good b = all_if IsGood (is_name_byte b) (Some (stages.Name, acts.Add)) (if b == 46 then Some (stages.Dot, acts.Add) else name_end b)
    (λ (_ : is_name_byte b ≡ true). tt)
    (λ (_ : is_name_byte b ≡ false). all_if IsGood (b == 46) (Some (stages.Dot, acts.Add)) (name_end b) (λ (_ : b == 46 ≡ true). tt) (λ (_ : b == 46 ≡ false). name_end_good b))

space_good : (b : ℕ) → IsGood (after_byte b)
space_good b = all_if IsGood (b == 44) (Some (stages.Comma, acts.Keep)) (if b == 125 then Some (stages.Between, acts.Statement) else letter_byte b)
    (λ (_ : b == 44 ≡ true). tt)
    (λ (_ : b == 44 ≡ false). all_if IsGood (b == 125) (Some (stages.Between, acts.Statement)) (letter_byte b) (λ (_ : b == 125 ≡ true). tt) (λ (_ : b == 125 ≡ false). letter_good b))

other_good : (p : Stage) (b : ℕ) → IsStage p → IsGood (other_of p b)
other_good stages.Between b good = word_good words.Log 0 b (lit< tt) tt
other_good (stages.Word word seen) b good = word_good word seen b good.0 good.1
other_good (stages.Gap next) b good = tt
other_good (stages.Spaced next) b good = first_good next b
other_good (stages.Number n) b good = digit_good n b
other_good (stages.Unit n) b good = unit_good n b good
other_good (stages.Minute n) b good = minute_good n b good
other_good stages.Brace b good = all_if IsGood (b == 123) (Some (stages.First, acts.Keep)) None (λ (_ : b == 123 ≡ true). tt) (λ (_ : b == 123 ≡ false). tt)
other_good stages.First b good = letter_good b
other_good stages.Name b good = name_good b
other_good stages.Dot b good = all_if IsGood (is_letter b) (Some (stages.Name, acts.Add)) None (λ (_ : is_letter b ≡ true). tt) (λ (_ : is_letter b ≡ false). tt)
other_good stages.Comma b good = all_if IsGood (b == 44) (Some (stages.Comma, acts.Keep)) (letter_byte b) (λ (_ : b == 44 ≡ true). tt) (λ (_ : b == 44 ≡ false). letter_good b)
other_good stages.After b good = space_good b

blank_good : (p : Stage) (b : ℕ) → IsStage p → IsGood (blank_step (blank_of p) (other_of p b))
blank_good stages.Between b good = tt
blank_good (stages.Word word seen) b good = other_good (stages.Word word seen) b good
blank_good (stages.Gap next) b good = tt
blank_good (stages.Spaced next) b good = tt
blank_good (stages.Number n) b good = good
blank_good (stages.Unit n) b good = good
blank_good (stages.Minute n) b good = other_good (stages.Minute n) b good
blank_good stages.Brace b good = tt
blank_good stages.First b good = tt
blank_good stages.Name b good = other_good stages.Name b good
blank_good stages.Dot b good = other_good stages.Dot b good
blank_good stages.Comma b good = tt
blank_good stages.After b good = tt

next_good : (p : Stage) (b : ℕ) → IsStage p → IsGood (next_of p b)
next_good p b good = all_if IsGood (is_blank b) (blank_step (blank_of p) (other_of p b)) (other_of p b) (λ (_ : is_blank b ≡ true). blank_good p b good) (λ (_ : is_blank b ≡ false). other_good p b good)

abbrev pub IsBetween : Stage → Type 0
IsBetween stage = IsTrue (is_between stage)

-- what leads between statements may follow
abbrev Outcome : Option State → Stage → Found → List ℕ → Type 0
Outcome None p f bytes = Unit {0}
Outcome (Some s) p f bytes = IsBetween s.0 → Rest p f s.1.groups bytes

ended : (p : Stage) (f : Found) → IsBetween p → Rest p f f.groups []
ended stages.Between f at = λ none. record { more = []; whole = tt; gives = sym (append-nil f.groups) }
ended (stages.Word word seen) f at = cc at
ended (stages.Gap next) f at = cc at
ended (stages.Spaced next) f at = cc at
ended (stages.Number n) f at = cc at
ended (stages.Unit n) f at = cc at
ended (stages.Minute n) f at = cc at
ended stages.Brace f at = cc at
ended stages.First f at = cc at
ended stages.Name f at = cc at
ended stages.Dot f at = cc at
ended stages.Comma f at = cc at
ended stages.After f at = cc at

carried : (o : Option State) (p q : Stage) (f g : Found) (bytes more : List ℕ) → ((out : List Group) → Rest p f out bytes → Rest q g out more) → Outcome o p f bytes → Outcome o q g more
carried None p q f g bytes more go h = tt
carried (Some s) p q f g bytes more go h = λ at. go s.1.groups (h at)

pub sound : (bytes : List ℕ) (p : Stage) (f : Found) → IsStage p → Outcome (run (p, f) bytes) p f bytes
sound [] p f good = λ at. ended p f at
sound (b ∷ bytes) p f good = by_step (next_of p b) (next_good p b good) (λ out steps. next_step f out b bytes p good steps) (λ q g good'. sound bytes q g good')
  where
    by_step : (o : Option Step) → IsGood o → ((out : List Group) → Steps o b f out bytes → Rest p f out (b ∷ bytes)) → ((q : Stage) (g : Found) → IsStage q → Outcome (run (q, g) bytes) q g bytes)
        → Outcome (option_and_then (λ next. run next bytes) (after_step o b f)) p f (b ∷ bytes)
    by_step None good' go again = tt
    by_step (Some s) good' go again = carried (run (s.0, after_act s.1 b f) bytes) s.0 p (after_act s.1 b f) f bytes (b ∷ bytes) go (again s.0 (after_act s.1 b f) good')

-- a front that leads to a state, and bytes that go on from there
pub run-append : (s t : State) (front more : List ℕ) → run s front ≡ Some t → run s (front ++ more) ≡ run t more
run-append s t [] more e = ap (λ u. option_and_then (λ v. run v more) u) e
run-append s t (b ∷ front) more e = by_move (after_step (next_of s.0 b) b s.1) e (λ v e'. run-append v t front more e')
  where
    by_move : (o : Option State) → option_and_then (λ v. run v front) o ≡ Some t → ((v : State) → run v front ≡ Some t → run v (front ++ more) ≡ run t more) → option_and_then (λ v. run v (front ++ more)) o ≡ run t more
    by_move None e' again = cc
    by_move (Some v) e' again = again v e'

word_next : (word : Word) (seen b : ℕ) → next_of (stages.Word word seen) b ≡ word_byte word seen b
word_next word seen b = all_if (λ (o : Option Step). o ≡ word_byte word seen b) (is_blank b) (word_byte word seen b) (word_byte word seen b) (λ (_ : is_blank b ≡ true). refl) (λ (_ : is_blank b ≡ false). refl)

-- the state after a whole word
abbrev finished : Word → Found → State
finished word f = ((after_word word).0, after_act (after_word word).1 0 f)

same_change : (word : Word) (b : ℕ) (f : Found) → after_act (after_word word).1 b f ≡ after_act (after_word word).1 0 f
same_change words.Log b f = refl
same_change words.Mandatory b f = refl
same_change words.On b f = refl
same_change words.Every b f = refl
same_change words.Once b f = refl
same_change (words.Unit unit n) b f = refl

-- a word's next byte is taken
word_step : (word : Word) (seen : ℕ) (f : Found) (rest : List ℕ) → seen < length (word_text word) →
    run (stages.Word word seen, f) (drop seen (word_text word) ++ rest)
    ≡ run ((in_word word (seen + 1)).0, after_act (in_word word (seen + 1)).1 (get_or (word_text word) seen 0) f) (drop (suc seen) (word_text word) ++ rest)
word_step word seen f rest lt =
    let text = word_text word in
    let c = get_or text seen 0 in
    let same : c == c ≡ true = eq-eqb c c refl in
    let taken_c : next_of (stages.Word word seen) c ≡ Some (in_word word (seen + 1)) = word_next word seen c ∙ ap (λ t. if t then Some (in_word word (seen + 1)) else None) same in
    ap (λ bs. run (stages.Word word seen, f) (bs ++ rest)) (drop-cons text seen 0 lt)
    ∙ step (stages.Word word seen) f c (in_word word (seen + 1)) (drop (suc seen) text ++ rest) taken_c

in_word_is : (word : Word) (seen : ℕ) (t : Bool) → seen == length (word_text word) ≡ t → in_word word seen ≡ (if t then after_word word else (stages.Word word seen, acts.Keep))
in_word_is word seen t e = ap (λ v. if v then after_word word else (stages.Word word seen, acts.Keep)) e

other_than : (a b : ℕ) → a ≢ b → a == b ≡ false
other_than a b h = grind (arith, nat_tests)

-- the rest of a word is taken
leads_word : (k : ℕ) (word : Word) (seen : ℕ) (f : Found) (rest : List ℕ) → seen + suc k ≡ length (word_text word) → run (stages.Word word seen, f) (drop seen (word_text word) ++ rest) ≡ run (finished word f) rest
leads_word zero word seen f rest within =
    let c = get_or (word_text word) seen 0 in
    let whole : in_word word (seen + 1) ≡ after_word word = in_word_is word (seen + 1) true (eq-eqb (seen + 1) (length (word_text word)) (omega arith)) in
    let nothing : drop (suc seen) (word_text word) ≡ [] = drop_of_length-le (word_text word) {i = suc seen} (omega arith) in
    word_step word seen f rest (omega arith)
    ∙ ap (λ (s : Step). run (s.0, after_act s.1 c f) (drop (suc seen) (word_text word) ++ rest)) whole
    ∙ ap (λ bs. run ((after_word word).0, after_act (after_word word).1 c f) (bs ++ rest)) nothing
    ∙ ap (λ g. run ((after_word word).0, g) rest) (same_change word c f)
leads_word (suc k) word seen f rest within =
    let c = get_or (word_text word) seen 0 in
    let more : in_word word (seen + 1) ≡ (stages.Word word (seen + 1), acts.Keep) = in_word_is word (seen + 1) false (other_than (seen + 1) (length (word_text word)) (omega arith)) in
    let next : seen + 1 ≡ suc seen = omega arith in
    word_step word seen f rest (omega arith)
    ∙ ap (λ (s : Step). run (s.0, after_act s.1 c f) (drop (suc seen) (word_text word) ++ rest)) more
    ∙ ap (λ n. run (stages.Word word n, f) (drop (suc seen) (word_text word) ++ rest)) next
    ∙ leads_word k word (suc seen) f rest (omega arith)

-- bytes that lead to the end of a statement
abbrev after_completion : Word → List ℕ
after_completion words.Log = codes " mandatory on once{a}"
after_completion words.Mandatory = codes " on once{a}"
after_completion words.On = codes " once{a}"
after_completion words.Every = codes " 1 sec{a}"
after_completion words.Once = codes "{a}"
after_completion (words.Unit unit n) = codes "{a}"

abbrev next_completion : Next → List ℕ
next_completion nexts.Mandatory = codes "mandatory on once{a}"
next_completion nexts.On = codes "on once{a}"
next_completion nexts.Interval = codes "once{a}"
next_completion nexts.Number = codes "1 sec{a}"

abbrev completion : Stage → List ℕ
completion stages.Between = []
completion (stages.Word word seen) = drop seen (word_text word) ++ after_completion word
completion (stages.Gap next) = 32 ∷ next_completion next
completion (stages.Spaced next) = next_completion next
completion (stages.Number n) = codes " sec{a}"
completion (stages.Unit n) = codes "sec{a}"
completion (stages.Minute n) = codes "in{a}"
completion stages.Brace = codes "{a}"
completion stages.First = codes "a}"
completion stages.Name = codes "}"
completion stages.Dot = codes "a}"
completion stages.Comma = codes "a}"
completion stages.After = codes "}"

abbrev IsLive : Option State → Type 0
IsLive None = ⊥
IsLive (Some s) = IsBetween s.0

after_lives : (word : Word) (f : Found) → IsLive (run (finished word f) (after_completion word))
after_lives words.Log f = refl
after_lives words.Mandatory f = refl
after_lives words.On f = refl
after_lives words.Every f = refl
after_lives words.Once f = refl
after_lives (words.Unit unit n) f = refl

next_lives : (next : Next) (f : Found) → IsLive (run (stages.Spaced next, f) (next_completion next))
next_lives nexts.Mandatory f = refl
next_lives nexts.On f = refl
next_lives nexts.Interval f = refl
next_lives nexts.Number f = refl

-- each place can go on to the end of a statement
lives : (p : Stage) (f : Found) → IsStage p → IsLive (run (p, f) (completion p))
lives stages.Between f good = refl
lives (stages.Word word seen) f good = subst IsLive (sym (leads_word (length (word_text word) - suc seen) word seen f (after_completion word) (let lt : seen < length (word_text word) = good.0 in omega arith))) (after_lives word f)
lives (stages.Gap next) f good = next_lives next f
lives (stages.Spaced next) f good = next_lives next f
lives (stages.Number n) f good = refl
lives (stages.Unit n) f good = refl
lives (stages.Minute n) f good = refl
lives stages.Brace f good = refl
lives stages.First f good = refl
lives stages.Name f good = refl
lives stages.Dot f good = refl
lives stages.Comma f good = refl
lives stages.After f good = refl

-- what leads to the end of a statement is a configuration
configuration : (bytes : List ℕ) (o : Option State) → run at_start bytes ≡ o → IsLive o → (groups : List Group) × IsConfiguration bytes groups
configuration bytes None e live = absurd live
configuration bytes (Some s) e live =
    let outcome : Outcome (Some s) stages.Between at_start.1 bytes = subst (λ (o : Option State). Outcome o stages.Between at_start.1 bytes) e (sound bytes stages.Between at_start.1 tt) in
    let ends : Ends [] bytes s.1.groups = outcome live refl in
    (ends.more, ends.whole)

-- bytes that the reader takes begin a configuration
begins : (bytes : List ℕ) (p : Stage) (f : Found) → IsStage p → run at_start bytes ≡ Some (p, f) → IsBeginning bytes
begins bytes p f good e =
    let whole = configuration (bytes ++ completion p) (run (p, f) (completion p)) (run-append at_start (p, f) bytes (completion p) e) (lives p f good) in
    record { more = completion p; groups = whole.0; whole = whole.1 }

-- a byte that isn't taken is a fault
pub fault_at : (text : List ℕ) (at : ℕ) (p : Stage) (f : Found) → at < length text → IsStage p → run at_start (take at text) ≡ Some (p, f) → next_of p (get_or text at 0) ≡ None → IsFault text at
fault_at text at p f within good e stuck = record {
  within = omega arith;
  good = begins (take at text) p f good e;
  bad = λ (_ : at < length text) (b : IsBeginning (take (at + 1) text)).
      let c = get_or text at 0 in
      let t = taken b.groups (take (at + 1) text ++ b.more) at_start.1 refl b.whole in
      let front : take (at + 1) text ≡ take at text ++ c ∷ [] = rw add-one (take-suc text at 0 within) in
      let split : take (at + 1) text ++ b.more ≡ take at text ++ c ∷ b.more = ap (λ bs. bs ++ b.more) front ∙ append_assoc (take at text) (c ∷ []) b.more in
      let fails : run at_start (take (at + 1) text ++ b.more) ≡ None = ap (run at_start) split ∙ run-append at_start (p, f) (take at text) (c ∷ b.more) e ∙ ap (λ o. option_and_then (λ next. run next b.more) (after_step o c f)) stuck in
      let both : Some (stages.Between, t.0) ≡ None = sym t.1 ∙ fails in
      cc both;
  short = λ (end : at ≡ length text) (groups : List Group) (whole : IsConfiguration text groups). absurd (omega arith);
}

abbrev place_of : Option State → Stage
place_of None = stages.Between
place_of (Some s) = s.0

abbrev groups_of : Option State → List Group
groups_of None = []
groups_of (Some s) = s.1.groups

-- a text that ends inside a statement is a fault past its last byte
pub fault_end : (text : List ℕ) (p : Stage) (f : Found) → IsStage p → run at_start text ≡ Some (p, f) → (IsBetween p → ⊥) → IsFault text (length text)
fault_end text p f good e inside = record {
  within = omega arith;
  good = subst IsBeginning (sym (take-length text)) (begins text p f good e);
  bad = λ (past : length text < length text) (b : IsBeginning (take (length text + 1) text)). absurd (omega arith);
  short = λ (_ : length text ≡ length text) (groups : List Group) (whole : IsConfiguration text groups).
      let t = taken groups text at_start.1 refl whole in
      inside (subst IsBetween (ap place_of (sym t.1 ∙ e)) refl);
}

-- a text that leads between statements is a configuration of the groups found
pub is_read : (text : List ℕ) (f : Found) → run at_start text ≡ Some (stages.Between, f) → IsConfiguration text f.groups
is_read text f e =
    let outcome : Outcome (Some (stages.Between, f)) stages.Between at_start.1 text = subst (λ (o : Option State). Outcome o stages.Between at_start.1 text) e (sound text stages.Between at_start.1 tt) in
    let ends : Ends [] text f.groups = outcome refl refl in
    subst (IsConfiguration text) (sym ends.gives) ends.whole

-- and of no others
pub only_read : (text : List ℕ) (f : Found) (groups : List Group) → run at_start text ≡ Some (stages.Between, f) → IsConfiguration text groups → f.groups ≡ groups
only_read text f groups e whole =
    let t = taken groups text at_start.1 refl whole in
    ap groups_of (sym e ∙ t.1) ∙ t.2

-- one more byte
pub one_more : (text : List ℕ) (at : ℕ) (p : Stage) (f : Found) (s : Step) → at < length text → run at_start (take at text) ≡ Some (p, f) → next_of p (get_or text at 0) ≡ Some s → run at_start (take (at + 1) text) ≡ Some (s.0, after_act s.1 (get_or text at 0) f)
one_more text at p f s within e next =
    let c = get_or text at 0 in
    let front : take (at + 1) text ≡ take at text ++ c ∷ [] = rw add-one (take-suc text at 0 within) in
    ap (run at_start) front ∙ run-append at_start (p, f) (take at text) (c ∷ []) e ∙ step p f c s [] next

-- what has a fault is no configuration
pub fault_refuses : (text : List ℕ) (at : ℕ) → IsFault text at → (groups : List Group) → IsConfiguration text groups → ⊥
fault_refuses text at f groups whole = elim (cases_lt at (length text)) [
  | inl before ↦ f.bad before (record { more = drop (at + 1) text; groups = groups; whole = subst (λ (bs : List ℕ). IsConfiguration bs groups) (sym (take-append-drop (at + 1) text)) whole })
  | inr past ↦ f.short (let most : at ≤ length text = f.within in omega arith) groups whole
]

pub is_between_true : (p : Stage) → is_between p ≡ true → p ≡ stages.Between
is_between_true stages.Between e = refl
is_between_true (stages.Word word seen) e = cc e
is_between_true (stages.Gap next) e = cc e
is_between_true (stages.Spaced next) e = cc e
is_between_true (stages.Number n) e = cc e
is_between_true (stages.Unit n) e = cc e
is_between_true (stages.Minute n) e = cc e
is_between_true stages.Brace e = cc e
is_between_true stages.First e = cc e
is_between_true stages.Name e = cc e
is_between_true stages.Dot e = cc e
is_between_true stages.Comma e = cc e
is_between_true stages.After e = cc e
