-- What holds of summaries.
use Rattle.std.specs.Prelude.{◌≡◌, ◌↔◌, ℕ, ℤ, ◌+◌, ◌-◌, ◌^◌, ◌+ℤ◌, min, true, List, [], ◌∷◌, ◌++◌, Option, Some, None, length, map, fold, filter, option_map}
use Rattle.std.specs.BTreeMap.{is_at}
use Rattle.std.specs.Fmt.{signed_decimal}
use Rattle.std.specs.Int.{w32, w128, int_min, int_max, int_wrap, to_be_bytes}
use Rattle.std.specs.List.{AllByRecursion}
use Rattle.std.specs.Map.{lookup}
use Rattle.std.specs.declared.cmp.Ordering.TheVariants.{Less}
use Rattle.pcp_base.specs.Time.{Moment}
use Rattle.pcp_base.specs.declared.file.FileId.{FileId}
use Rattle.pcp_model.specs.declared.records.MetaRecord.{MetaRecord}
use Rattle.pcp_model.specs.Archive.{ArchiveReading, Reads, records_in, scan}
use Rattle.pcp_model.specs.Disk.{Files}
use Rattle.archive_reader.specs.declared.fault.ReaderFault.TheVariants.{NotArchive}
use Rattle.pm_print.specs.Values.{block_text, raw_text, word_text}
use Rattle.log_summary.specs.declared.tally.Tally.{Tally}
use Rattle.log_summary.specs.Lines.{Line, LineKey, line_of, line_order, lines_of, metric_name, summary_text}
use Rattle.log_summary.specs.Numbers.{block_number, word_number}
use Rattle.log_summary.specs.Summaries.{IsSummary, IsSummaryFault}
use Rattle.log_summary.specs.Tables.{Key, same_key, table_of, merged}
use Rattle.log_summary.specs.Values.{Value}

-- ---- numbers

-- a number in decimal, or else the bytes
abbrev pub printed_or : Option ℤ → List ℕ → List ℕ
printed_or None bytes = raw_text bytes
printed_or (Some n) bytes = signed_decimal n

-- Of a value the number is counted that a dump prints in decimal. Where it prints the bytes of a value in its set, or of one in a block of a
-- metric of 64 bits, none is.
pub record AreNumbersPrinted : Type 0 where
  pub words : (code : Option ℕ) (word : ℕ) → word_text code word ≡ printed_or (word_number code word) (to_be_bytes w32 word)
  pub blocks : (code : Option ℕ) (bytes : List ℕ) (n : ℤ) → block_number code bytes ≡ Some n → block_text code bytes ≡ signed_decimal n
  pub signed : (bytes : List ℕ) → block_text (Some 2) bytes ≡ printed_or (block_number (Some 2) bytes) bytes
  pub unsigned : (bytes : List ℕ) → block_text (Some 3) bytes ≡ printed_or (block_number (Some 3) bytes) bytes

-- ---- tables

-- a metric and an instance are told apart by both
abbrev pub KeysAreApart : Type 0
KeysAreApart = (a b : Key) → (same_key a b ≡ true) ↔ (a ≡ b)

-- in which parts values are counted doesn't matter
abbrev pub TablesMerge : Type 0
TablesMerge = (xs ys : List Value) → table_of (xs ++ ys) ≡ merged (table_of xs) (table_of ys)

-- the values of one metric's instance
abbrev pub values_at : Key → List Value → List Value
values_at key values = filter (λ (v : Value). same_key key (v.metric, v.instance)) values

abbrev pub number_of : Value → ℤ
number_of v = v.number

abbrev pub moment_after : Moment → Value → Moment
moment_after t v = v.moment

-- What values come to, the first and those behind it: how many there are, the least and the greatest of their numbers, their
-- sum modulo 2^128 as a signed number, and the moment of the last.
abbrev pub all_told : Value → List Value → Tally
all_told v vs = record {
  count = min (1 + length vs) (2 ^ 64 - 1);
  least = fold int_min v.number (map number_of vs);
  greatest = fold int_max v.number (map number_of vs);
  sum = int_wrap w128 (fold (λ x y. x +ℤ y) v.number (map number_of vs));
  last = fold moment_after v.moment vs;
}

abbrev pub told : List Value → Option Tally
told [] = None
told (v ∷ vs) = Some (all_told v vs)

-- a table has of each metric's instance what its values come to, and nothing where there are none
abbrev pub TablesTell : Type 0
TablesTell = (key : Key) (values : List Value) → lookup (same_key key) (table_of values) ≡ told (values_at key values)

-- ---- lines

-- where the line of a metric's instance stands: by the bytes of the metric's name, then by metric, then by instance
abbrev pub place_of : List MetaRecord → Key → LineKey
place_of records key = (metric_name records key.0, key.0, key.1)

-- each line's place is before those of the lines behind it
abbrev pub Ascend : List Line → Type 0
Ascend [] = Unit {0}
Ascend (l ∷ lines) = AllByRecursion (λ (m : Line). line_order l.0 m.0 ≡ Less) lines × Ascend lines

-- The lines of values ascend by their places. Of each metric's instance there is the line of what its values come to, and none where it has no
-- values; and there is no other line.
pub record AreLinesOf (records : List MetaRecord) (values : List Value) (lines : List Line) : Type 0 where
  pub ascend : Ascend lines
  pub each : (key : Key) → lookup (is_at (line_order (place_of records key))) lines ≡ option_map (λ (a : Tally). line_of records (key, a)) (told (values_at key values))
  pub named : AllByRecursion (λ (l : Line). l.0 ≡ place_of records (l.0.1, l.0.2)) lines

abbrev pub LinesTell : Type 0
LinesTell = (records : List MetaRecord) (values : List Value) → AreLinesOf records values (lines_of records (table_of values))

-- ---- the whole

-- Of files there is one summary between two moments, that of their scan by what Meta says; and where there is one, none of their places is refused.
pub record AnswersOnce (files : Files) (from to : Moment) : Type 0 where
  pub scanned : (text : List ℕ) → IsSummary files from to text → (reading : ArchiveReading) → Reads files reading → text ≡ summary_text (records_in reading) from to (scan reading)
  pub one : (text other : List ℕ) → IsSummary files from to text → IsSummary files from to other → text ≡ other
  pub apart : (text : List ℕ) (file : FileId) (offset : ℕ) → IsSummary files from to text → IsSummaryFault None files (NotArchive file offset) → ⊥

abbrev pub SummaryAnswersOnce : Type 0
SummaryAnswersOnce = (files : Files) (from to : Moment) → AnswersOnce files from to
