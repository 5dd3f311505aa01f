-- The values of samples that are numbers, in order.
use Rattle.std.specs.Prelude.{ℕ, ℤ, List, [], ◌∷◌, ◌++◌, Option, Some, None}
use Rattle.pcp_base.specs.Time.{Moment}
use Rattle.pcp_base.specs.Typed.{TypedBytes}
use Rattle.pcp_base.specs.declared.desc.Desc.{Desc}
use Rattle.pcp_base.specs.declared.result.Body.{Body}
use Rattle.pcp_base.specs.declared.result.Body.TheVariants.{InPlace, Blocks, Status}
use Rattle.pcp_base.specs.declared.result.ValueSet.{ValueSet}
use Rattle.pcp_base.specs.declared.result.Item.{Item}
use Rattle.pcp_base.specs.declared.result.Item.TheVariants.{Sample, Mark}
use Rattle.pcp_model.specs.declared.records.MetaRecord.{MetaRecord}
use Rattle.archive_meta.specs.Said.{description_of, desc_of}
use Rattle.log_summary.specs.Numbers.{word_number, block_number}

-- a number of a metric's instance, and its sample's moment
pub record Value : Type 0 where
  pub metric : ℕ
  pub instance : ℤ
  pub moment : Moment
  pub number : ℤ

-- a value in front of others, if it is a number
abbrev pub with_value : ℕ → Moment → ℤ → Option ℤ → List Value → List Value
with_value pmid t i None values = values
with_value pmid t i (Some n) values = record { metric = pmid; instance = i; moment = t; number = n } ∷ values

abbrev pub word_values : Option ℕ → ℕ → Moment → List (ℤ × ℕ) → List Value
word_values code pmid t [] = []
word_values code pmid t (p ∷ pairs) = with_value pmid t p.0 (word_number code p.1) (word_values code pmid t pairs)

abbrev pub block_values : Option ℕ → ℕ → Moment → List (ℤ × TypedBytes) → List Value
block_values code pmid t [] = []
block_values code pmid t (p ∷ pairs) = with_value pmid t p.0 (block_number code p.1.bytes) (block_values code pmid t pairs)

-- those of a set, whose metric has this type code
abbrev pub body_values : Option ℕ → ℕ → Moment → Body → List Value
body_values code pmid t (InPlace pairs) = word_values code pmid t pairs
body_values code pmid t (Blocks pairs) = block_values code pmid t pairs
body_values code pmid t (Status n) = []

-- the type code of a metric's description
abbrev pub code_in : Option Desc → Option ℕ
code_in None = None
code_in (Some d) = Some d.code

abbrev pub set_values : List MetaRecord → Moment → ValueSet → List Value
set_values records t set = body_values (code_in (desc_of (description_of set.pmid records))) set.pmid t set.body

abbrev pub sets_values : List MetaRecord → Moment → List ValueSet → List Value
sets_values records t [] = []
sets_values records t (set ∷ sets) = set_values records t set ++ sets_values records t sets

-- those of an item
abbrev pub item_values : List MetaRecord → Item → List Value
item_values records (Sample r) = sets_values records r.stamp r.sets
item_values records (Mark t) = []

-- those of items, in order
abbrev pub values_of : List MetaRecord → List Item → List Value
values_of records [] = []
values_of records (x ∷ items) = item_values records x ++ values_of records items
