-- What follows of a call that was refused before its command began, or whose command's body answered.
use Rattle.std.proofs.Common.{◌≡◌, ◌⊎◌, inl, inr, ⊎_elim, ℕ, ◌<◌, ◌≤◌, Bool, true, false, List, length, refl, sym, ap, ◌∙◌, subst, arith, Result, Ok, Err}
use Rattle.pcp_outside.specs.Causes.{Rose}
use Rattle.pcp_outside.specs.Sides.{SourceSide, SinkSide}
use Rattle.pm_words.specs.declared.words.Call.{Call}
use Rattle.pm_words.specs.declared.words.Command.{Command}
use Rattle.pm_words.specs.declared.refusal.Refusal.{Refusal}
use Rattle.pm_words.specs.declared.refusal.Refusal.TheVariants.{Usage, ReadFault, InputLimit, Image, Line, Script, Rules, Condition, NoMemory}
use Rattle.rule_watch.specs.declared.fault.RuleLineFault.{RuleLineFault}
use Rattle.rule_watch.specs.declared.fault.RuleLineFault.TheVariants as rule
use Rattle.run_script.specs.declared.fault.ScriptLineFault.{ScriptLineFault}
use Rattle.run_script.specs.declared.fault.ScriptLineFault.TheVariants as script
use Rattle.pm_words.specs.Asking.{Asks, Before, Got, IsReader, ReadingIsExact, UsageIsExact}
use Rattle.pm_words.specs.CommandLine.{asked_by, takes_input}
use Rattle.pm_words.specs.Inputs.{input_limit}
use Rattle.pm_words.specs.Refusals.{rule_status, script_status, status_of}
use Rattle.pm_words.specs.Telling.{IsToldBy, TellsAll}

-- Statuses of 1, 3 and 4 are those of the words, of the reading and of the sink alone.

pub script_apart : (n : ℕ) → (n ≡ 2 → ⊥) → (n ≡ 7 → ⊥) → (fault : ScriptLineFault) → script_status fault ≡ n → ⊥
script_apart n two seven (script.Line found) h = two (sym h)
script_apart n two seven script.Regions h = seven (sym h)

pub rules_apart : (n : ℕ) → (n ≡ 2 → ⊥) → (n ≡ 7 → ⊥) → (fault : RuleLineFault) → rule_status fault ≡ n → ⊥
rules_apart n two seven rule.Grammar h = two (sym h)
rules_apart n two seven rule.Condition h = two (sym h)
rules_apart n two seven rule.Many h = seven (sym h)

-- a refusal that a command's body may answer
abbrev pub IsOfBody : Refusal → Type 0
IsOfBody (Usage at) = ⊥
IsOfBody ReadFault = ⊥
IsOfBody InputLimit = ⊥
IsOfBody _ = Unit {0}

low_body : (n : ℕ) → n ≤ 4 → (n ≡ 2 → ⊥) → (e : Refusal) → IsOfBody e → status_of e ≡ n → ⊥
low_body n low two (Usage at) body h = body
low_body n low two ReadFault body h = body
low_body n low two (Image fault) body h = two (sym h)
low_body n low two (Line fault) body h = two (sym h)
low_body n low two (Script fault) body h = script_apart n two (λ k. omega (arith, k, low)) fault.fault h
low_body n low two (Rules fault) body h = rules_apart n two (λ k. omega (arith, k, low)) fault.fault h
low_body n low two (Condition line) body h = two (sym h)
low_body n low two _ body h = omega (arith, low, h)

module _ (call : Call) (words : List (List ℕ)) (s : SourceSide) where
  -- What a call came to: its command's body answered, or it was refused before its command began.
  abbrev pub Came : Result (List ℕ) Refusal → Type 0
  Came result = ((a : Asks call words s) × ((e : Refusal) → result ≡ Err e → IsOfBody e)) ⊎ ((e : Refusal) × (result ≡ Err e) × Before call words s e)

  -- no words are both a command and none
  pub apart : (at : ℕ) → asked_by call words ≡ Err at → (command : Command) → asked_by call words ≡ Ok command → ⊥
  apart at bad command good = let e : Err at ≡ Ok command = sym bad ∙ good in cc

  -- words are one command
  pub one : (a b : Command) → asked_by call words ≡ Ok a → asked_by call words ≡ Ok b → a ≡ b
  one a b is other = let e : Ok a ≡ Ok b = sym is ∙ other in cc

  -- what was got is within the limit
  got_within : (takes : Bool) (input : List ℕ) → takes ≡ true → Got takes s input → s.tells → length s.left ≤ input_limit
  got_within false input some got tells = let e : false ≡ true = some in cc
  got_within true input some got tells = subst (λ bytes. length bytes ≤ input_limit) (got.told tells).0 got.within

  pub was_within : (a : Asks call words s) → IsReader call words → s.tells → input_limit < length s.left → ⊥
  was_within a reader tells above =
      let takes : takes_input a.command ≡ true = subst (λ (c : Command). takes_input c ≡ true) (one reader.0 a.command reader.1 a.words_are) reader.2 in
      let within = got_within (takes_input a.command) a.input takes a.got tells in
      omega (arith, within, above)

  -- a status that no text and no want of memory has is a refusal's
  pub refused_by : (result : Result (List ℕ) Refusal) (status n : ℕ) → IsToldBy result status → status ≡ n → (n ≡ 0 → ⊥) → (n ≡ 4 → ⊥) → (n ≡ 9 → ⊥) → (e : Refusal) × (result ≡ Err e) × (status_of e ≡ n)
  refused_by (Ok text) status n (inl is) h zero four nine = absurd (zero (sym h ∙ is))
  refused_by (Ok text) status n (inr is) h zero four nine = absurd (four (sym h ∙ is))
  refused_by (Err e) status n (inl is) h zero four nine = (e, refl, sym is ∙ h)
  refused_by (Err e) status n (inr (is, some)) h zero four nine = absurd (nine (sym h ∙ is))

  usage_of : (e : Refusal) → Before call words s e → status_of e ≡ 1 → (at : ℕ) × (asked_by call words ≡ Err at)
  usage_of (Usage at) before h = (at, before.0)
  usage_of (Script fault) before h = absurd before
  usage_of (Rules fault) before h = absurd before
  usage_of _ before h = absurd (omega (arith, h))

  fault_of : (e : Refusal) → Before call words s e → status_of e ≡ 3 → Rose s.faults s.faults_after
  fault_of ReadFault before h = before.1.0
  fault_of (Script fault) before h = absurd before
  fault_of (Rules fault) before h = absurd before
  fault_of _ before h = absurd (omega (arith, h))

  -- bad words have no other end
  bad_words : (e : Refusal) → Before call words s e → (at : ℕ) → asked_by call words ≡ Err at → (status_of e ≡ 1) ⊎ (status_of e ≡ 9)
  bad_words (Usage at) before other bad = inl refl
  bad_words ReadFault before at bad = absurd (apart at bad before.0.0 before.0.1)
  bad_words InputLimit before at bad = absurd (apart at bad before.0.0 before.0.1)
  bad_words NoMemory before at bad = inr refl
  bad_words _ before at bad = absurd before

  -- nor has an input above the limit
  above_of : (e : Refusal) → Before call words s e → IsReader call words → (status_of e ≡ 7) ⊎ ((status_of e ≡ 9) ⊎ (status_of e ≡ 3))
  above_of (Usage at) before reader = absurd (apart at before.0 reader.0 reader.1)
  above_of ReadFault before reader = inr (inr refl)
  above_of InputLimit before reader = inl refl
  above_of NoMemory before reader = inr (inl refl)
  above_of _ before reader = absurd before

  module _ (result : Result (List ℕ) Refusal) (status : ℕ) (told : IsToldBy result status) (came : Came result) where
    -- a low status is that of a refusal before the command
    before_by : (n : ℕ) → status ≡ n → n ≤ 4 → (n ≡ 0 → ⊥) → (n ≡ 2 → ⊥) → (n ≡ 4 → ⊥) → (e : Refusal) × Before call words s e × (status_of e ≡ n)
    before_by n h low zero two four =
        let found = refused_by result status n told h zero four (λ nine. omega (arith, nine, low)) in
        by_cases found came
      where
        by_cases : (e : Refusal) × (result ≡ Err e) × (status_of e ≡ n) → Came result → (e : Refusal) × Before call words s e × (status_of e ≡ n)
        by_cases (e, is, has) (inl (a, body)) = absurd (low_body n low two e (body e is) has)
        by_cases (e, is, has) (inr (f, also, before)) =
            let same : Err f ≡ Err e = sym also ∙ is in
            let one : f ≡ e = cc in
            (f, before, ap status_of one ∙ has)

    -- what a status is of that was told of a refusal before the command
    told_before : (P : ℕ → Type 0) → P 9 → ((e : Refusal) → Before call words s e → P (status_of e)) → (e : Refusal) → result ≡ Err e → Before call words s e → P status
    told_before P nine by e is before = told_as (subst (λ (r : Result (List ℕ) Refusal). IsToldBy r status) is told)
      where
        told_as : IsToldBy (Err e) status → P status
        told_as (inl h) = subst P (sym h) (by e before)
        told_as (inr (h, some)) = subst P (sym h) nine

    pub usage_is_exact : UsageIsExact call words status
    usage_is_exact = record {
      only = λ h. let found = before_by 1 h (omega arith) (λ k. omega (arith, k)) (λ k. omega (arith, k)) (λ k. omega (arith, k)) in usage_of found.0 found.1 found.2;
      always = λ at bad. ⊎_elim (λ (b : (a : Asks call words s) × ((e : Refusal) → result ≡ Err e → IsOfBody e)). absurd (apart at bad b.0.command b.0.words_are))
          (λ (b : (e : Refusal) × (result ≡ Err e) × Before call words s e). told_before (λ n. (n ≡ 1) ⊎ (n ≡ 9)) (inr refl) (λ e before. bad_words e before at bad) b.0 b.1 b.2) came;
    }

    pub reading_is_exact : ReadingIsExact call words s status
    reading_is_exact = record {
      fault = λ h. let found = before_by 3 h (omega arith) (λ k. omega (arith, k)) (λ k. omega (arith, k)) (λ k. omega (arith, k)) in fault_of found.0 found.1 found.2;
      above = λ reader tells above. ⊎_elim (λ (b : (a : Asks call words s) × ((e : Refusal) → result ≡ Err e → IsOfBody e)). absurd (was_within b.0 reader tells above))
          (λ (b : (e : Refusal) × (result ≡ Err e) × Before call words s e). told_before (λ n. (n ≡ 7) ⊎ ((n ≡ 9) ⊎ (n ≡ 3))) (inr (inl refl)) (λ e before. above_of e before reader) b.0 b.1 b.2) came;
    }

-- no refusal has the status 4
pub never_four : (e : Refusal) → status_of e ≡ 4 → ⊥
never_four (Script fault) h = script_apart 4 (λ k. omega (arith, k)) (λ k. omega (arith, k)) fault.fault h
never_four (Rules fault) h = rules_apart 4 (λ k. omega (arith, k)) (λ k. omega (arith, k)) fault.fault h
never_four _ h = omega (arith, h)

-- 4 only where the sink's count rose
module _ (k : SinkSide) (front : List ℕ) where
  pub write_fault : (result : Result (List ℕ) Refusal) (status : ℕ) → TellsAll k front result status → status ≡ 4 → Rose k.faults k.faults_after
  write_fault (Ok text) status (inl (is, quiet, told)) h = absurd (omega (arith, is, h))
  write_fault (Ok text) status (inr (is, rose, told)) h = rose
  write_fault (Err e) status (inl (is, told)) h = absurd (never_four e (sym is ∙ h))
  write_fault (Err e) status (inr (is, some, told)) h = absurd (omega (arith, is, h))
