-- What a line names beside its pass.
use Rattle.run_script.specs.declared.script.Line.{Line}
use Rattle.run_script.specs.declared.script.Line.TheVariants as lines

-- it names no item of a region
abbrev pub NamesNoItem : Line → Type 0
NamesNoItem (lines.Swap region pass item instance value) = ⊥
NamesNoItem (lines.Add region pass item instance number) = ⊥
NamesNoItem line = Unit {0}
