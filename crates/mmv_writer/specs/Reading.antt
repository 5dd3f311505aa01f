-- What a whole layout text says: the draft of its lines, each by the rule of its row, or the first fault in the order of
-- the lines. A line's number counts from 1.
use Rattle.std.specs.Prelude.{◌≡◌, ℕ, ℤ, ◌+◌, ◌==◌, nat_le, if◌then◌else◌, min, List, [], ◌∷◌, length, Option, Some, None, Result, Ok, Err}
use Rattle.pcp_base.specs.declared.kind.Kind.{Kind}
use Rattle.mmv_layout.specs.declared.rows.MetricRow.{MetricRow}
use Rattle.mmv_layout.specs.declared.rows.Content.{Content}
use Rattle.mmv_layout.specs.declared.rows.Layout.{Layout}
use Rattle.text_lines.specs.declared.layout_line.Line.{Line}
use Rattle.text_lines.specs.declared.layout_line.Line.TheVariants as lines
use Rattle.text_lines.specs.declared.layout_line.Written.{Written}
use Rattle.text_lines.specs.Contents.{content_of}
use Rattle.text_lines.specs.LayoutLines.{line_of}
use Rattle.text_lines.specs.Lines.{lines_of, without_feed}
use Rattle.mmv_writer.specs.declared.fault.BuildFault.{BuildFault}
use Rattle.mmv_writer.specs.declared.fault.BuildFault.TheVariants as builds
use Rattle.mmv_writer.specs.declared.line_fault.LineFault.{LineFault}
use Rattle.mmv_writer.specs.declared.line_fault.LineFault.TheVariants.{Grammar, Build}
use Rattle.mmv_writer.specs.declared.line_fault.TextFault.{TextFault}
use Rattle.mmv_writer.specs.declared.line_fault.LineError.{LineError}
use Rattle.mmv_writer.specs.declared.line_fault.LineError.TheVariants as stops
use Rattle.mmv_writer.specs.declared.line_fault.ReadTextError.{ReadTextError}
use Rattle.mmv_writer.specs.declared.line_fault.ReadTextError.TheVariants as ends
use Rattle.mmv_writer.specs.Rules.{header_fault, indom_fault, instance_fault, metric_fault, value_fault, text_fault}
use Rattle.mmv_writer.specs.Draft.{empty_draft, new_domain, with_domain, with_instance, with_metric, with_value, with_string}
use Rattle.mmv_writer.specs.Spelling.{image_words}

-- Lines

-- what bytes with a line feed behind them say; bytes without one say nothing
abbrev pub said_by : Option (List ℕ) → Option Line
said_by None = None
said_by (Some text) = line_of text

unfoldable pub full_line_of : List ℕ → Option Line
full_line_of line = said_by (without_feed line)

-- Rows

-- a draft, unless a rule is broken
abbrev pub unless : Option BuildFault → Layout → Result Layout LineFault
unless None draft = Ok draft
unless (Some fault) draft = Err (Build fault)

-- the kind of the metric with an item, if there is one
abbrev pub kind_in : List MetricRow → ℕ → Option Kind
kind_in [] item = None
kind_in (row ∷ rows) item = if row.item == item then Some row.kind else kind_in rows item

-- a value of content that has its metric's kind and is in its range
abbrev pub with_content : Layout → ℕ → Option ℤ → Option Content → Result Layout LineFault
with_content draft item instance None = Err Grammar
with_content draft item instance (Some content) =
    unless (value_fault draft (record { item = item; instance = instance; content = content }))
    (with_value draft (record { item = item; instance = instance; content = content }))

-- a value of a metric of this kind, or of an item that no metric has
abbrev pub with_written : Layout → ℕ → Option ℤ → Written → Option Kind → Result Layout LineFault
with_written draft item instance written None = Err (Build builds.Item)
with_written draft item instance written (Some kind) = with_content draft item instance (content_of kind written)

-- a draft and one line more
unfoldable pub with_line : Layout → Line → Result Layout LineFault
with_line draft (lines.Mmv version generation flags pid cluster) = Err Grammar
with_line draft (lines.String text) = unless (text_fault text) (with_string draft text)
with_line draft (lines.Indom serial short long) =
    unless (indom_fault draft (new_domain serial short long)) (with_domain draft (new_domain serial short long))
with_line draft (lines.Instance serial id name) = unless (instance_fault draft serial id name) (with_instance draft serial id name)
with_line draft (lines.Metric row) = unless (metric_fault draft row) (with_metric draft row)
with_line draft (lines.Value item instance written) = with_written draft item instance written (kind_in draft.metrics item)

-- a draft and what bytes say
unfoldable pub with_said : Layout → Option Line → Result Layout LineFault
with_said draft None = Err Grammar
with_said draft (Some line) = with_line draft line

-- the draft of the header, which is the first line
unfoldable pub with_head : Option Line → Result Layout LineFault
with_head (Some (lines.Mmv version generation flags pid cluster)) =
    unless (header_fault version cluster) (empty_draft version generation flags pid cluster)
with_head _ = Err Grammar

-- Texts

-- a line's draft, from which the further lines go on, or its fault
abbrev pub and_then : {X : Type 0} → Result Layout LineFault → ℕ → (Layout → Result X TextFault) → Result X TextFault
and_then (Ok draft) number next = next draft
and_then (Err fault) number next = Err (record { line = number; fault = fault })

-- a draft and further lines, the first of this number
unfoldable pub with_lines : List (List ℕ) → ℕ → Layout → Result Layout TextFault
with_lines [] number draft = Ok draft
with_lines (line ∷ lines) number draft = and_then (with_said draft (full_line_of line)) number (λ later. with_lines lines (number + 1) later)

-- the draft of all lines
unfoldable pub draft_of : List (List ℕ) → Result Layout TextFault
draft_of [] = Err (record { line = 1; fault = Grammar })
draft_of (line ∷ lines) = and_then (with_head (full_line_of line)) 1 (λ draft. with_lines lines 2 draft)

unfoldable pub text_draft : List ℕ → Result Layout TextFault
text_draft bytes = draft_of (lines_of bytes)

-- the spelling of a draft, where it has at most 65,536 words; else a fault on the line after the last
unfoldable pub words_within_limit : Layout → ℕ → Result (List ℕ) TextFault
words_within_limit draft after =
    if nat_le (length (image_words draft)) 65536 then Ok (image_words draft) else
    Err (record { line = after; fault = Build (builds.TooLarge (min (length (image_words draft)) 18446744073709551615)) })

abbrev pub image_of : Result Layout TextFault → ℕ → Result (List ℕ) TextFault
image_of (Ok draft) after = words_within_limit draft after
image_of (Err fault) after = Err fault

-- the image of a text
unfoldable pub text_image : List ℕ → Result (List ℕ) TextFault
text_image bytes = image_of (text_draft bytes) (length (lines_of bytes) + 1)

-- Answers

-- what a refused row says of its line
abbrev pub stopped_by : BuildFault → LineError
stopped_by builds.NoMemory = stops.NoMemory
stopped_by fault = stops.Fault (Build fault)

abbrev pub on_line : LineError → ℕ → ReadTextError
on_line (stops.Fault fault) number = ends.Fault (record { line = number; fault = fault })
on_line stops.NoMemory number = ends.NoMemory

-- a builder took what was found, or is as it was
abbrev pub Takes : {X : Type 0} → Result Layout LineFault → Layout → Layout → Result X LineError → Type 0
Takes found before after (Ok done) = found ≡ Ok after
Takes found before after (Err (stops.Fault fault)) = (found ≡ Err fault) × (after ≡ before)
Takes found before after (Err stops.NoMemory) = after ≡ before

-- a builder was made of what was found
abbrev pub MakesBuilder : Result Layout LineFault → Result Layout LineError → Type 0
MakesBuilder found (Ok made) = found ≡ Ok made
MakesBuilder found (Err (stops.Fault fault)) = found ≡ Err fault
MakesBuilder found (Err stops.NoMemory) = Unit {0}

-- what a function returned is what the text says, unless memory ran out
abbrev pub Answers : {X : Type 0} → Result X TextFault → Result X ReadTextError → Type 0
Answers said (Ok found) = said ≡ Ok found
Answers said (Err (ends.Fault fault)) = said ≡ Err fault
Answers said (Err ends.NoMemory) = Unit {0}

-- so many lines were added, or the first fault of them told
abbrev pub Adds : List (List ℕ) → ℕ → Layout → Layout → Result ℕ ReadTextError → Type 0
Adds lines number before after (Ok next) = (with_lines lines number before ≡ Ok after) × (next ≡ number + length lines)
Adds lines number before after (Err (ends.Fault fault)) = with_lines lines number before ≡ Err fault
Adds lines number before after (Err ends.NoMemory) = Unit {0}
