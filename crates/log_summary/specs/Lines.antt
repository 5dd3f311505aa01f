-- A summary as text: a line for each metric's instance that has numbers, by the bytes of its metric's name, then by metric, then
-- by instance.
use Rattle.std.specs.Prelude.{ℕ, ℤ, fold, List, [], ◌∷◌, ◌++◌, decimal}
use Rattle.std.specs.BTreeMap.{insert_entry}
use Rattle.std.specs.Cmp.Lexicographic.{slice_cmp}
use Rattle.std.specs.Fmt.{signed_decimal}
use Rattle.std.specs.Ordering.{nat_cmp, int_cmp, ordering_then}
use Rattle.std.specs.declared.cmp.Ordering.{Ordering}
use Rattle.pcp_base.specs.Time.{Moment}
use Rattle.pcp_base.specs.declared.result.Item.{Item}
use Rattle.pcp_model.specs.declared.records.MetaRecord.{MetaRecord}
use Rattle.archive_meta.specs.Said.{description_of, desc_of, names_of}
use Rattle.archive_reader.specs.Searches.{between}
use Rattle.pm_print.specs.Holding.{Pairs, instances_at}
use Rattle.pm_print.specs.Sets.{first_name, instance_part}
use Rattle.log_summary.specs.declared.tally.Tally.{Tally}
use Rattle.log_summary.specs.Tables.{Row, Rows, table_of}
use Rattle.log_summary.specs.Values.{values_of}

-- a metric's first name, or `?`
abbrev pub metric_name : List MetaRecord → ℕ → List ℕ
metric_name records pmid = first_name (names_of (description_of pmid records))

-- the instances that hold of its domain at a moment
abbrev pub instances_of : List MetaRecord → ℕ → Moment → Pairs
instances_of records pmid t = instances_at records (desc_of (description_of pmid records)) t

-- ` COUNT LEAST GREATEST SUM`
unfoldable pub numbers_part : Tally → List ℕ
numbers_part a =
    32 ∷ (decimal a.count ++ (32 ∷ (signed_decimal a.least ++ (32 ∷ (signed_decimal a.greatest ++ (32 ∷ (signed_decimal a.sum ++ 10 ∷ [])))))))

-- `NAME COUNT LEAST GREATEST SUM`, or `NAME[INSTANCE] ..` with the name that holds at the last sample counted, or `#NUMBER`
unfoldable pub line_of : List MetaRecord → Row → List ℕ
line_of records row =
    metric_name records row.0.0 ++ (instance_part (instances_of records row.0.0 row.1.last) row.0.1 ++ numbers_part row.1)

-- what lines are ordered by: name, metric, instance
abbrev pub LineKey : Type 0
LineKey = List ℕ × ℕ × ℤ

abbrev pub Line : Type 0
Line = LineKey × List ℕ

abbrev pub line_order : LineKey → LineKey → Ordering
line_order a b = ordering_then (ordering_then (slice_cmp nat_cmp a.0 b.0) (nat_cmp a.1 b.1)) (int_cmp a.2 b.2)

-- the lines with one more, which stands where the order has it
abbrev pub with_line : List MetaRecord → List Line → Row → List Line
with_line records lines row = insert_entry line_order lines (metric_name records row.0.0, row.0.0, row.0.1) (line_of records row)

abbrev pub lines_of : List MetaRecord → Rows → List Line
lines_of records rows = fold (with_line records) [] rows

abbrev pub lines_text : List Line → List ℕ
lines_text [] = []
lines_text (line ∷ lines) = line.1 ++ lines_text lines

abbrev pub table_text : List MetaRecord → Rows → List ℕ
table_text records rows = lines_text (lines_of records rows)

-- the summary of items between two moments, by what records of Meta say
abbrev pub summary_text : List MetaRecord → Moment → Moment → List Item → List ℕ
summary_text records from to items = table_text records (table_of (values_of records (between from to items)))
