-- The line of a rule, without its line feed: the word `rule`, a label, `when`, and one to eight conditions joined by one word throughout.
-- A condition is `some` or `all`, what is told of the windows, the metric's name, `over` and the size of the windows, and
-- how that compares with a number.
use Rattle.std.specs.Prelude.{ℕ, zero, suc, ◌&&◌, Bool, true, nat_le, if◌then◌else◌, List, [], ◌∷◌, ◌++◌, length, Option, Some, None, codes, bytes_eq}
use Rattle.pcp_base.specs.Names.{spells, spells_component}
use Rattle.text_lines.specs.Numbers.{◌>>=◌, number_of, whole_number}
use Rattle.text_lines.specs.Words.{first_word, behind_word, take_as, name_of}
use Rattle.rule_watch.specs.declared.aggregate.Aggregate.{Aggregate}
use Rattle.rule_watch.specs.declared.aggregate.Aggregate.TheVariants as aggregates
use Rattle.rule_watch.specs.declared.rule.Quantifier.{Quantifier}
use Rattle.rule_watch.specs.declared.rule.Quantifier.TheVariants as quantifiers
use Rattle.rule_watch.specs.declared.rule.Comparison.{Comparison}
use Rattle.rule_watch.specs.declared.rule.Comparison.TheVariants as comparisons
use Rattle.rule_watch.specs.declared.rule.Joint.{Joint}
use Rattle.rule_watch.specs.declared.rule.Joint.TheVariants as joints
use Rattle.rule_watch.specs.declared.rule.Condition.{Condition}
use Rattle.rule_watch.specs.declared.rule.Rule.{Rule}

-- the word itself
abbrev pub keyword : List ℕ → List ℕ → Option (Unit {0})
keyword text word = if bytes_eq word text then Some tt else None

abbrev pub quantifier_of : List ℕ → Option Quantifier
quantifier_of word =
    if bytes_eq word (codes "some") then Some quantifiers.Any else
    if bytes_eq word (codes "all") then Some quantifiers.All else None

abbrev pub aggregate_of_word : List ℕ → Option Aggregate
aggregate_of_word word =
    if bytes_eq word (codes "min") then Some aggregates.Min else
    if bytes_eq word (codes "max") then Some aggregates.Max else
    if bytes_eq word (codes "sum") then Some aggregates.Sum else
    if bytes_eq word (codes "rise") then Some aggregates.Rise else None

abbrev pub comparison_of : List ℕ → Option Comparison
comparison_of word =
    if bytes_eq word (codes "<") then Some comparisons.Below else
    if bytes_eq word (codes "<=") then Some comparisons.AtMost else
    if bytes_eq word (codes ">") then Some comparisons.Above else
    if bytes_eq word (codes ">=") then Some comparisons.AtLeast else
    if bytes_eq word (codes "==") then Some comparisons.Equal else
    if bytes_eq word (codes "!=") then Some comparisons.Unequal else None

-- the size of a window, 1 to 1,000
unfoldable pub size_of : List ℕ → Option ℕ
size_of word = do
  n ← number_of word
  if nat_le 1 n && nat_le n 1000 then Some n else None

-- the name of a metric: components joined by `.`
unfoldable pub take_metric : List ℕ → Option (List ℕ × List ℕ)
take_metric bytes = do
  name ← take_as name_of bytes
  if spells true name.0 then Some name else None

-- one component of at most 63 bytes
abbrev pub is_label : List ℕ → Bool
is_label bytes = nat_le (length bytes) 63 && spells_component bytes

unfoldable pub take_label : List ℕ → Option (List ℕ × List ℕ)
take_label bytes = do
  label ← take_as name_of bytes
  if is_label label.0 then Some label else None

unfoldable pub take_condition : List ℕ → Option (Condition × List ℕ)
take_condition bytes = do
  quantifier ← take_as quantifier_of bytes
  aggregate ← take_as aggregate_of_word quantifier.1
  name ← take_metric aggregate.1
  over ← take_as (keyword (codes "over")) name.1
  size ← take_as size_of over.1
  comparison ← take_as comparison_of size.1
  number ← take_as whole_number comparison.1
  Some (record { quantifier = quantifier.0; aggregate = aggregate.0; name = name.0; size = size.0; comparison = comparison.0; number = number.0 }, number.1)

abbrev pub joint_word : Joint → List ℕ
joint_word joints.And = codes "and"
joint_word joints.Or = codes "or"

-- the word that joins what stands behind the first condition
abbrev pub joint_at : List ℕ → Joint
joint_at [] = joints.And
joint_at (b ∷ bs) = if bytes_eq (first_word bs) (codes "or") then joints.Or else joints.And

-- one more condition, behind the word that joins it
unfoldable pub take_joined : Joint → List ℕ → Option (Condition × List ℕ)
take_joined joint bytes = do
  word ← take_as (keyword (joint_word joint)) bytes
  take_condition word.1

-- these conditions and those that are left on the line, at most so many
unfoldable pub collect : ℕ → Joint → List Condition → List ℕ → Option (List Condition)
collect n joint conditions [] = Some conditions
collect zero joint conditions (b ∷ bs) = None
collect (suc n) joint conditions (b ∷ bs) = do
  more ← take_joined joint (b ∷ bs)
  collect n joint (conditions ++ more.0 ∷ []) more.1

unfoldable pub rule_line : List ℕ → Option Rule
rule_line bytes = do
  label ← take_label bytes
  when ← take_as (keyword (codes "when")) label.1
  first ← take_condition when.1
  conditions ← collect 7 (joint_at first.1) (first.0 ∷ []) first.1
  Some (record { label = label.0; joint = joint_at first.1; conditions = conditions })

-- the rule of a line
unfoldable pub rule_of : List ℕ → Option Rule
rule_of line = if bytes_eq (first_word line) (codes "rule") then rule_line (behind_word line) else None
