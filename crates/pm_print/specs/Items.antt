-- Items and sets as text.
use Rattle.std.specs.Prelude.{List, [], ℕ, ◌∷◌, ◌++◌, length, codes, decimal}
use Rattle.pcp_base.specs.Time.{Moment}
use Rattle.pcp_base.specs.declared.result.ValueSet.{ValueSet}
use Rattle.pcp_base.specs.declared.result.Item.{Item}
use Rattle.pcp_base.specs.declared.result.Item.TheVariants.{Sample, Mark}
use Rattle.pcp_model.specs.declared.records.MetaRecord.{MetaRecord}
use Rattle.pm_print.specs.Sets.{set_lines}
use Rattle.pm_print.specs.Stamps.{stamp_text}

abbrev pub sets_lines : List MetaRecord → Moment → List ValueSet → List ℕ
sets_lines records t [] = []
sets_lines records t (set ∷ sets) = set_lines records t set ++ sets_lines records t sets

-- an item: its stamp and how many sets it has, and the lines of the sets; or its stamp and `mark`
unfoldable pub item_text : List MetaRecord → Item → List ℕ
item_text records (Sample r) = stamp_text r.stamp ++ (32 ∷ (decimal (length r.sets) ++ (10 ∷ sets_lines records r.stamp r.sets)))
item_text records (Mark t) = stamp_text t ++ codes " mark\n"

abbrev pub items_text : List MetaRecord → List Item → List ℕ
items_text records [] = []
items_text records (x ∷ items) = item_text records x ++ items_text records items

-- one set alone: its stamp on a line, and its lines
unfoldable pub set_text : List MetaRecord → Moment → ValueSet → List ℕ
set_text records t set = stamp_text t ++ (10 ∷ set_lines records t set)
