-- The descriptions of an archive as text: a line for each name, by name in byte order, and for equal names in the order in
-- which the metrics are first described.
use Rattle.std.specs.Prelude.{ℕ, ◌==◌, if◌then◌else◌, fold, List, [], ◌∷◌, ◌++◌, length, Option, Some, None, codes, decimal}
use Rattle.std.specs.declared.cmp.Ordering.{Ordering}
use Rattle.std.specs.BTreeMap.{insert_entry}
use Rattle.std.specs.Cmp.Lexicographic.{slice_cmp}
use Rattle.std.specs.Ordering.{nat_cmp, ordering_then}
use Rattle.pcp_base.specs.Codes.{kind_of_code, semantics_of_code}
use Rattle.pcp_base.specs.Ids.{null_indom, domain_of, serial_of}
use Rattle.pcp_base.specs.declared.desc.Desc.{Desc}
use Rattle.pcp_base.specs.declared.kind.Kind.{Kind}
use Rattle.pcp_base.specs.declared.kind.Semantics.{Semantics}
use Rattle.pcp_model.specs.declared.records.MetaRecord.{MetaRecord}
use Rattle.pcp_model.specs.declared.records.MetaRecord.TheVariants.{Description, Domain, Other}
use Rattle.archive_meta.specs.Said.{description_of, described_metrics}
use Rattle.text_lines.specs.LayoutSpelling.{kind_part, semantics_part}
use Rattle.text_lines.specs.Spelling.{number_part, hex_part}
use Rattle.pm_print.specs.Sets.{pmid_text}

-- a name and the number of its row in first-seen order, and the metric's description
abbrev pub Row : Type 0
Row = (List ℕ × ℕ) × Desc

abbrev pub row_order : List ℕ × ℕ → List ℕ × ℕ → Ordering
row_order a b = ordering_then (slice_cmp nat_cmp a.0 b.0) (nat_cmp a.1 b.1)

-- the rows with one more, which stands where the order has it
abbrev pub with_name : Desc → List Row → List ℕ → List Row
with_name d rows name = insert_entry row_order rows (name, length rows) d

abbrev pub with_record : List Row → Option MetaRecord → List Row
with_record rows None = rows
with_record rows (Some (Description d names)) = fold (with_name d) rows names
with_record rows (Some (Domain t indom pairs)) = rows
with_record rows (Some Other) = rows

abbrev pub with_metric : List MetaRecord → List Row → ℕ → List Row
with_metric records rows pmid = with_record rows (description_of pmid records)

unfoldable pub rows_of : List MetaRecord → List Row
rows_of records = fold (with_metric records) [] (described_metrics records)

-- a kind's word, or a code that isn't known in decimal
abbrev pub kind_or : Option Kind → ℕ → List ℕ
kind_or None code = number_part code
kind_or (Some kind) code = kind_part kind

abbrev pub semantics_or : Option Semantics → ℕ → List ℕ
semantics_or None code = number_part code
semantics_or (Some semantics) code = semantics_part semantics

-- a domain as `D.SERIAL`, or `-` for none
unfoldable pub indom_part : ℕ → List ℕ
indom_part indom = if indom == null_indom then codes " -" else 32 ∷ (decimal (domain_of indom) ++ (46 ∷ decimal (serial_of indom)))

-- ` KIND INDOM SEMANTICS UNITS`
unfoldable pub desc_parts : Desc → List ℕ
desc_parts d =
    kind_or (kind_of_code d.code) d.code ++ (indom_part d.indom ++ (semantics_or (semantics_of_code d.semantics) d.semantics ++ hex_part 8 d.units))

-- `NAME D.C.I KIND INDOM SEMANTICS UNITS`
unfoldable pub row_line : List ℕ → Desc → List ℕ
row_line name d = name ++ (32 ∷ (pmid_text d.pmid ++ (desc_parts d ++ 10 ∷ [])))

abbrev pub rows_text : List Row → List ℕ
rows_text [] = []
rows_text (row ∷ rows) = row_line row.0.0 row.1 ++ rows_text rows

unfoldable pub info_text : List MetaRecord → List ℕ
info_text records = rows_text (rows_of records)
