-- The faults of a text of rules, on their lines.
use Rattle.std.specs.Prelude.{ℕ}
use Rattle.text_lines.specs.declared.rest.TakeFault.{TakeFault}
use Rattle.text_lines.specs.declared.rest.TakeFault.TheVariants as takes
use Rattle.rule_watch.specs.declared.fault.RuleLineFault.TheVariants.{Grammar}
use Rattle.rule_watch.specs.declared.fault.ReadRulesError.{ReadRulesError}
use Rattle.rule_watch.specs.declared.fault.ReadRulesError.TheVariants as ends
use Rattle.rule_watch.specs.declared.fault.LineStop.{LineStop}
use Rattle.rule_watch.specs.declared.fault.LineStop.TheVariants as stops

abbrev pub stopped_by : TakeFault → LineStop
stopped_by takes.NoLine = stops.Fault Grammar
stopped_by takes.NoMemory = stops.NoMemory

abbrev pub on_line : LineStop → ℕ → ReadRulesError
on_line (stops.Fault fault) number = ends.Fault (record { line = number; fault = fault })
on_line stops.NoMemory number = ends.NoMemory
