-- The lines of a set: one for each value, or one for its status.
use Rattle.std.specs.Prelude.{ℕ, ℤ, suc, pos, negsuc, if◌then◌else◌, List, [], ◌∷◌, ◌++◌, Option, Some, None, codes, decimal}
use Rattle.std.specs.Fmt.{signed_decimal}
use Rattle.std.specs.Ordering.{int_eq}
use Rattle.pcp_base.specs.Ids.{domain_of, cluster_of, item_of}
use Rattle.pcp_base.specs.Time.{Moment}
use Rattle.pcp_base.specs.Typed.{TypedBytes}
use Rattle.pcp_base.specs.declared.desc.Desc.{Desc}
use Rattle.pcp_base.specs.declared.result.Body.{Body}
use Rattle.pcp_base.specs.declared.result.Body.TheVariants.{InPlace, Blocks, Status}
use Rattle.pcp_base.specs.declared.result.ValueSet.{ValueSet}
use Rattle.pcp_model.specs.declared.records.MetaRecord.{MetaRecord}
use Rattle.archive_meta.specs.Said.{description_of, desc_of, names_of}
use Rattle.text_lines.specs.Spelling.{escapes}
use Rattle.pm_print.specs.Holding.{Pairs, instances_at}
use Rattle.pm_print.specs.Values.{word_text, block_text}

-- `D.C.I`
unfoldable pub pmid_text : ℕ → List ℕ
pmid_text pmid = decimal (domain_of pmid) ++ (46 ∷ (decimal (cluster_of pmid) ++ (46 ∷ decimal (item_of pmid))))

-- a metric's first name, or `?`
abbrev pub first_name : Option (List (List ℕ)) → List ℕ
first_name None = 63 ∷ []
first_name (Some []) = 63 ∷ []
first_name (Some (name ∷ names)) = name

-- `D.C.I NAME`
unfoldable pub head_text : List MetaRecord → ℕ → List ℕ
head_text records pmid = pmid_text pmid ++ (32 ∷ first_name (names_of (description_of pmid records)))

-- the name of the first instance with this number
abbrev pub name_in : Pairs → ℤ → Option (List ℕ)
name_in [] n = None
name_in (p ∷ pairs) n = if int_eq p.0 n then Some p.1 else name_in pairs n

-- where the first of them stands, a front not counted
abbrev pub position_in : ℕ → Pairs → ℤ → Option ℕ
position_in at [] n = None
position_in at (p ∷ pairs) n = if int_eq p.0 n then Some at else position_in (suc at) pairs n

-- an instance by its name, or else `#` and its number
abbrev pub instance_text : Option (List ℕ) → ℤ → List ℕ
instance_text None n = 35 ∷ signed_decimal n
instance_text (Some name) n = escapes name

-- `[INSTANCE]`, or nothing for the null instance
unfoldable pub instance_part : Pairs → ℤ → List ℕ
instance_part pairs n = if int_eq n (negsuc 0) then [] else 91 ∷ (instance_text (name_in pairs n) n ++ 93 ∷ [])

unfoldable pub value_line : List ℕ → Pairs → ℤ → List ℕ → List ℕ
value_line head pairs n value = head ++ (instance_part pairs n ++ (32 ∷ (value ++ 10 ∷ [])))

abbrev pub word_lines : List ℕ → Option ℕ → Pairs → List (ℤ × ℕ) → List ℕ
word_lines head code pairs [] = []
word_lines head code pairs (v ∷ values) = value_line head pairs v.0 (word_text code v.1) ++ word_lines head code pairs values

abbrev pub block_lines : List ℕ → Option ℕ → Pairs → List (ℤ × TypedBytes) → List ℕ
block_lines head code pairs [] = []
block_lines head code pairs (v ∷ values) = value_line head pairs v.0 (block_text code v.1.bytes) ++ block_lines head code pairs values

-- ` error STATUS`, or ` none` for 0
unfoldable pub status_part : ℤ → List ℕ
status_part n = if int_eq n (pos 0) then codes " none\n" else codes " error " ++ (signed_decimal n ++ 10 ∷ [])

abbrev pub body_lines : List ℕ → Option ℕ → Pairs → Body → List ℕ
body_lines head code pairs (InPlace values) = word_lines head code pairs values
body_lines head code pairs (Blocks values) = block_lines head code pairs values
body_lines head code pairs (Status n) = head ++ status_part n

abbrev pub code_in : Option Desc → Option ℕ
code_in None = None
code_in (Some d) = Some d.code

unfoldable pub set_lines : List MetaRecord → Moment → ValueSet → List ℕ
set_lines records t set =
    body_lines (head_text records set.pmid) (code_in (desc_of (description_of set.pmid records)))
    (instances_at records (desc_of (description_of set.pmid records)) t) set.body
