-- Which refusals come after recovery has answered.
use Rattle.std.proofs.Common.{◌≡◌, inl, inr, ℕ, Bool, true, false, ◌==◌, if◌then◌else◌, List, Option, Err, refl, sym, subst, ◌∙◌}
use Rattle.pcp_outside.specs.Sides.{SourceSide}
use Rattle.pm_words.specs.declared.words.Call.{Call}
use Rattle.pm_words.specs.declared.refusal.Refusal.{Refusal}
use Rattle.pm_words.specs.declared.refusal.Refusal.TheVariants.{Usage, ReadFault, InputLimit, Image, Line, Script, Rules, Condition, Limit, NotLater, Changed, Compressed, NotArchive, Nothing, UnsoundItems, UnsoundBoundary, UnsoundLate, Live, DiskFault, ClockEnd, ClockFault, Accept, Peer, Lacks, Clashes, Stands, NoMemory}
use Rattle.rule_watch.specs.declared.fault.RuleLineFault.{RuleLineFault}
use Rattle.rule_watch.specs.declared.fault.RuleLineFault.TheVariants as rule
use Rattle.run_script.specs.declared.fault.ScriptLineFault.{ScriptLineFault}
use Rattle.run_script.specs.declared.fault.ScriptLineFault.TheVariants as script
use Rattle.pm_words.specs.Asking.{Before}
use Rattle.pm_words.specs.Inputs.{Refuses}
use Rattle.pm_words.specs.Refusals.{rule_status, script_status, status_of}
use Rattle.pm_words.specs.Serving.{HasRecovered, HadRecovered}

-- the words and the reading are looked at before, and so is the input
pub not_yet : (call : Call) (words : List (List ℕ)) (s : SourceSide) (e : Refusal) → Before call words s e → HasRecovered (Err e) → ⊥
not_yet call words s (Usage at) before h = h
not_yet call words s ReadFault before h = h
not_yet call words s InputLimit before h = h
not_yet call words s NoMemory before h = h
not_yet call words s _ before h = before

pub no_input_yet : (reads : Option (List ℕ → Option Refusal)) (input : List ℕ) (e : Refusal) → Refuses reads input e → HasRecovered (Err e) → ⊥
no_input_yet reads input (Image fault) refuses h = h
no_input_yet reads input (Line fault) refuses h = h
no_input_yet reads input (Script fault) refuses h = h
no_input_yet reads input (Rules fault) refuses h = h
no_input_yet reads input NoMemory refuses h = h
no_input_yet reads input _ refuses h = refuses

-- the statuses of those that come behind
abbrev is_behind : ℕ → Bool
is_behind n = if n == 0 then true else if n == 4 then true else if n == 8 then true else if n == 12 then true else if n == 13 then true else if n == 20 then true else false

behind : (n : ℕ) → HadRecovered n → is_behind n ≡ true
behind n (inl h) = subst (λ m. is_behind m ≡ true) (sym h) refl
behind n (inr (inl h)) = subst (λ m. is_behind m ≡ true) (sym h) refl
behind n (inr (inr (inl h))) = subst (λ m. is_behind m ≡ true) (sym h) refl
behind n (inr (inr (inr (inl h)))) = subst (λ m. is_behind m ≡ true) (sym h) refl
behind n (inr (inr (inr (inr (inl h))))) = subst (λ m. is_behind m ≡ true) (sym h) refl
behind n (inr (inr (inr (inr (inr h))))) = subst (λ m. is_behind m ≡ true) (sym h) refl

early : (n : ℕ) → is_behind n ≡ false → HadRecovered n → ⊥
early n before h = let e : true ≡ false = sym (behind n h) ∙ before in cc

by_script : (fault : ScriptLineFault) → HadRecovered (script_status fault) → ⊥
by_script (script.Line fault) h = early 2 refl h
by_script script.Regions h = early 7 refl h

by_rules : (fault : RuleLineFault) → HadRecovered (rule_status fault) → ⊥
by_rules rule.Grammar h = early 2 refl h
by_rules rule.Condition h = early 2 refl h
by_rules rule.Many h = early 7 refl h

pub by_status : (e : Refusal) → HadRecovered (status_of e) → HasRecovered (Err e)
by_status (Usage at) h = absurd (early 1 refl h)
by_status ReadFault h = absurd (early 3 refl h)
by_status InputLimit h = absurd (early 7 refl h)
by_status (Image fault) h = absurd (early 2 refl h)
by_status (Line fault) h = absurd (early 2 refl h)
by_status (Script fault) h = absurd (by_script fault.fault h)
by_status (Rules fault) h = absurd (by_rules fault.fault h)
by_status (Compressed file) h = absurd (early 6 refl h)
by_status (NotArchive file at) h = absurd (early 6 refl h)
by_status (Nothing stamp) h = absurd (early 11 refl h)
by_status (UnsoundItems first second) h = absurd (early 10 refl h)
by_status (UnsoundBoundary entry file below above) h = absurd (early 10 refl h)
by_status (UnsoundLate entry stamp) h = absurd (early 10 refl h)
by_status (Live volume) h = absurd (early 14 refl h)
by_status DiskFault h = absurd (early 5 refl h)
by_status Accept h = absurd (early 21 refl h)
by_status (Peer reply why) h = absurd (early 16 refl h)
by_status (Lacks source pmid) h = absurd (early 18 refl h)
by_status (Clashes pmid) h = absurd (early 19 refl h)
by_status (Stands file) h = absurd (early 23 refl h)
by_status NoMemory h = absurd (early 9 refl h)
by_status _ h = tt

pub never_nine : HadRecovered 9 → ⊥
never_nine h = early 9 refl h
