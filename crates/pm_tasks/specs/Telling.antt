-- What rules tell of the samples among items: of each the rules that hold at it, and the text of all.
use Rattle.std.specs.Prelude.{◌≡◌, ℕ, ◌+◌, Bool, true, false, ◌||◌, List, [], ◌∷◌, ◌++◌, length, Option, Some, None, codes, slice_get}
use Rattle.std.specs.Option.{option_map}
use Rattle.pcp_base.specs.Time.{Moment}
use Rattle.pcp_base.specs.declared.result.Item.{Item}
use Rattle.pcp_base.specs.declared.result.Item.TheVariants.{Sample, Mark}
use Rattle.pcp_model.specs.declared.records.MetaRecord.{MetaRecord}
use Rattle.archive_reader.specs.Searches.{is_after, is_before}
use Rattle.text_lines.specs.Spelling.{one_number}
use Rattle.rule_watch.specs.declared.rule.Rule.{Rule}
use Rattle.rule_watch.specs.Holding.{Tells}
use Rattle.rule_watch.specs.Rows.{Row}
use Rattle.rule_watch.specs.Shown.{Answers, KeptRule, rules_of}
use Rattle.pm_print.specs.Stamps.{stamp_text}
use Rattle.pm_tasks.specs.declared.commands.watch.Told.{Told}
use Rattle.pm_tasks.specs.Rows.{row_of}

-- a rule that held, by its label, and when
abbrev pub Firing : Type 0
Firing = Moment × List ℕ

abbrev pub with_sample : List MetaRecord → Item → List (Moment × Row) → List (Moment × Row)
with_sample records (Sample r) samples = (r.stamp, row_of records r.sets) ∷ samples
with_sample records (Mark t) samples = samples

-- the samples among items, each with its row
abbrev pub samples_of : List MetaRecord → List Item → List (Moment × Row)
samples_of records [] = []
samples_of records (x ∷ items) = with_sample records x (samples_of records items)

abbrev pub label_of : List Rule → ℕ → Option (List ℕ)
label_of rules n = option_map (λ rule. rule.label) (slice_get rules n)

abbrev pub with_firing : Moment → Option (List ℕ) → List Firing → List Firing
with_firing t None others = others
with_firing t (Some label) others = (t, label) ∷ others

-- the rules of these numbers
abbrev pub firings_of : Moment → List Rule → List ℕ → List Firing
firings_of t rules [] = []
firings_of t rules (n ∷ numbers) = with_firing t (label_of rules n) (firings_of t rules numbers)

-- of each sample behind these rows, the rules that hold at it over all rows up to it, in the order of the rules
abbrev pub AreTold : List Rule → List Row → List (Moment × Row) → List Firing → Type 0
AreTold rules rows [] told = told ≡ []
AreTold rules rows (s ∷ samples) told =
    (numbers : List ℕ) × (others : List Firing) × Tells rules (rows ++ s.1 ∷ []) numbers × AreTold rules (rows ++ s.1 ∷ []) samples others
    × (told ≡ firings_of s.0 rules numbers ++ others)

-- `STAMP LABEL`
abbrev pub firing_line : Firing → List ℕ
firing_line f = stamp_text f.0 ++ (32 ∷ (f.1 ++ 10 ∷ []))

abbrev pub firing_lines : List Firing → List ℕ
firing_lines [] = []
firing_lines (f ∷ told) = firing_line f ++ firing_lines told

-- a line for each, and last how many there are
abbrev pub told_text : List Firing → List ℕ
told_text told = firing_lines told ++ one_number (codes "fired") (length told)

-- the text of what rules tell of items
abbrev pub IsToldOf : List MetaRecord → List Rule → List Item → List ℕ → Type 0
IsToldOf records rules items text = (told : List Firing) × AreTold rules [] (samples_of records items) told × (text ≡ told_text told)

-- Of one step: lines of these rules came behind those that were there

pub record TellsMore (told : List Firing) (before after : Told) : Type 0 where
  pub text : after.text.items ≡ before.text.items ++ firing_lines told
  pub count : after.count ≡ before.count + length told

-- a watch took one more row, and what it answered is told
pub record TellsRow (t : Moment) (row : Row) (old new : List KeptRule) (before after : Told) : Type 0 where
  pub numbers : List ℕ
  pub answers : Answers old row new numbers
  pub rules : rules_of new ≡ rules_of old
  pub more : TellsMore (firings_of t (rules_of old) numbers) before after

abbrev pub TellsItem : List MetaRecord → Item → List KeptRule → List KeptRule → Told → Told → Type 0
TellsItem records (Sample r) old new before after = TellsRow r.stamp (row_of records r.sets) old new before after
TellsItem records (Mark t) old new before after = (new ≡ old) × (after ≡ before)

-- nothing changes, or an item is told
abbrev pub TellsUnless : Bool → List MetaRecord → Item → List KeptRule → List KeptRule → Told → Told → Type 0
TellsUnless true records x old new before after = (new ≡ old) × (after ≡ before)
TellsUnless false records x old new before after = TellsItem records x old new before after

-- an item is told unless it is before the first moment or after the second
abbrev pub is_outside : Moment → Moment → Item → Bool
is_outside from to x = is_before from x || is_after to x

abbrev pub TellsBetween : List MetaRecord → Moment → Moment → Item → List KeptRule → List KeptRule → Told → Told → Type 0
TellsBetween records from to x old new before after = TellsUnless (is_outside from to x) records x old new before after

-- the lines of all that rules tell of items, of which a front was sent, and how many
pub record TellsAll (records : List MetaRecord) (rules : List Rule) (items : List Item) (front : List ℕ) (after : Told) : Type 0 where
  pub told : List Firing
  pub are : AreTold rules [] (samples_of records items) told
  pub text : front ++ after.text.items ≡ firing_lines told
  pub count : after.count ≡ length told
