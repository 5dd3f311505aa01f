-- What a call that serves got of its words and its source, or why it is refused before a session.
use Rattle.std.proofs.Common.{◌≡◌, ◌⊎◌, inl, inr, ℕ, ◌≤◌, List, length, refl, sym, ap, ◌∙◌, subst, arith, Option, Result, Ok, Err}
use Rattle.std.proofs.lemmas.List.{drop_all}
use Rattle.pcp_outside.specs.Sides.{SourceSide}
use Rattle.run_script.specs.declared.fault.ScriptFault.{ScriptFault}
use Rattle.run_script.specs.declared.script.Script.{Script}
use Rattle.pm_words.specs.declared.words.Call.TheVariants as calls
use Rattle.pm_words.specs.declared.words.Command.{Command}
use Rattle.pm_words.specs.declared.words.Command.TheVariants.{Serve}
use Rattle.pm_words.specs.declared.refusal.Refusal.{Refusal}
use Rattle.pm_words.specs.declared.refusal.Refusal.TheVariants.{Script as Scripted, Accept, NoMemory}
use Rattle.pm_words.specs.Asking.{Asks, AsksFor, Before, Got}
use Rattle.pm_words.specs.CommandLine.{takes_input}
use Rattle.pm_words.specs.Reading.{TookSome, WasRead}
use Rattle.pm_serving.specs.declared.served.Served.{Served}
use Rattle.pm_serving.specs.Ends.{CameTo, Orders, Refused}
use Rattle.pm_serving.specs.Scripts.{Answers, script_served}
use Rattle.pm_serving.specs.Serving.{DoorsSide, IsUnserved, WereCut}

module _ (words : List (List ℕ)) (s : SourceSide) where
  -- of what was asked
  pub orders_by : (command : Command) (count : ℕ) (bytes input : List ℕ) (found : Result Script ScriptFault) → AsksFor calls.Serve words s command bytes → command ≡ Serve count → input ≡ bytes → script_served input ≡ found → Orders words s count found
  orders_by command count bytes input found a is whole says =
      let serves = a.command_is ∙ is in
      let got = subst (λ (x : Command). Got (takes_input x) s a.asks.input) serves a.asks.got in record {
        words_are = a.asks.words_are ∙ ap Ok serves;
        input = input;
        read = subst (λ (x : List ℕ). WasRead s x) (a.input_is ∙ sym whole) got;
        says = says;
      }

  module _ (count : ℕ) (found : Result Script ScriptFault) (o : Orders words s count found) where
    pub asks_of : Asks calls.Serve words s
    asks_of = record { command = Serve count; words_are = o.words_are; input = o.input; got = o.read }

    -- all of the source was taken, and the script says what all that it had says
    pub took : s.tells → TookSome s
    took tells =
        let told = o.read.told tells in
        let within : length s.left ≤ 16777216 = subst (λ (bytes : List ℕ). length bytes ≤ 16777216) told.0 o.read.within in
        (length s.left, omega arith, told.1 ∙ sym (drop_all (length s.left) s.left (omega arith)))

    pub says_one : s.tells → (other : Result Script ScriptFault) → script_served s.left ≡ other → found ≡ other
    says_one tells other is = sym o.says ∙ ap script_served (o.read.told tells).0 ∙ is

  pub by_script : (count : ℕ) (input : List ℕ) → ((found : Result Script ScriptFault) → script_served input ≡ found → Orders words s count found)
      → (e : Refusal) → Answers (script_served input) (Err e) → Refused words s e
  by_script count input orders NoMemory why = took count (script_served input) (orders (script_served input) refl)
  by_script count input orders (Scripted fault) why = (count, orders (Err fault) why)
  by_script count input orders e why = absurd why

  pub refused_before : (e : Refusal) → Before calls.Serve words s e → Refused words s e
  refused_before (Scripted fault) before = absurd before
  refused_before e before = before

  module _ {P In Out Time : Type 0} (d : DoorsSide P In Out Time) (served : Option Served) where
    pub came_unserved : (e : Refusal) → Refused words s e → IsUnserved d served → CameTo words s d served (Err e)
    came_unserved NoMemory refused unserved = (refused, inl unserved)
    came_unserved Accept refused unserved = absurd refused
    came_unserved e refused unserved = (refused, unserved)

    -- memory was refused behind the reading
    pub came_short : (count : ℕ) (script : Script) → Orders words s count (Ok script) → IsUnserved d served ⊎ WereCut d served count script → CameTo words s d served (Err NoMemory)
    came_short count script orders (inl none) = (took count (Ok script) orders, inl none)
    came_short count script orders (inr cut) = (took count (Ok script) orders, inr (record { count = count; script = script; orders = orders; leaves = cut }))
