-- A set that names no instance has the same lines whatever instances hold.
use Rattle.std.proofs.Common.{◌≡◌, ℕ, negsuc, List, [], ◌∷◌, Option, refl, sym, ap, ◌∙◌}
use Rattle.pcp_base.specs.Typed.{TypedBytes}
use Rattle.pcp_base.specs.declared.result.Body.{Body}
use Rattle.pcp_base.specs.declared.result.Body.TheVariants.{InPlace, Blocks, Status}
use Rattle.pcp_base.specs.Time.{Moment}
use Rattle.pcp_base.specs.declared.desc.Desc.{Desc}
use Rattle.pcp_base.specs.declared.result.ValueSet.{ValueSet}
use Rattle.pcp_model.specs.declared.records.MetaRecord.{MetaRecord}
use Rattle.archive_meta.specs.Said.{description_of, desc_of}
use Rattle.pm_print.specs.declared.starts.Start.{Start}
use Rattle.pm_print.specs.Holding.{Pairs, instances_at}
use Rattle.pm_print.specs.Sets.{value_line, instance_part, word_lines, block_lines, body_lines, head_text, code_in, set_lines}
use Rattle.pm_print.specs.Starts.{IsSaid, NamesNone}

lone_word : (head : List ℕ) (code : Option ℕ) (pairs : Pairs) (n : ℕ) → word_lines head code [] ((negsuc 0, n) ∷ []) ≡ word_lines head code pairs ((negsuc 0, n) ∷ [])
unfolding value_line instance_part
lone_word head code pairs n = refl

lone_block : (head : List ℕ) (code : Option ℕ) (pairs : Pairs) (block : TypedBytes) → block_lines head code [] ((negsuc 0, block) ∷ []) ≡ block_lines head code pairs ((negsuc 0, block) ∷ [])
unfolding value_line instance_part
lone_block head code pairs block = refl

pub same_lines : (head : List ℕ) (code : Option ℕ) (pairs : Pairs) (body : Body) → NamesNone body → body_lines head code [] body ≡ body_lines head code pairs body
same_lines head code pairs (InPlace values) (n, is) = ap (word_lines head code []) is ∙ lone_word head code pairs n ∙ sym (ap (word_lines head code pairs) is)
same_lines head code pairs (Blocks values) (block, is) = ap (block_lines head code []) is ∙ lone_block head code pairs block ∙ sym (ap (block_lines head code pairs) is)
same_lines head code pairs (Status n) none = refl

-- the lines of a set by what is kept of its metric
kept_lines : (records : List MetaRecord) (t : Moment) (start : Start) (set : ValueSet) → IsSaid records start → start.pmid ≡ set.pmid → body_lines start.head.items (code_in start.desc) (instances_at records start.desc t) set.body ≡ set_lines records t set
unfolding set_lines
kept_lines records t start set said same =
    ap (λ (head : List ℕ). body_lines head (code_in start.desc) (instances_at records start.desc t) set.body) (said.head ∙ ap (head_text records) same)
    ∙ ap (λ (d : Option Desc). body_lines (head_text records set.pmid) (code_in d) (instances_at records d t) set.body) (said.desc ∙ ap (λ (pmid : ℕ). desc_of (description_of pmid records)) same)

module _ (records : List MetaRecord) (t : Moment) (start : Start) (set : ValueSet) (said : IsSaid records start) (same : start.pmid ≡ set.pmid) (head : List ℕ) (code : Option ℕ) (pairs : Pairs) (body : Body) (head_is : head ≡ start.head.items) (code_is : code ≡ code_in start.desc) (body_is : body ≡ set.body) where
  by_parts : (others : Pairs) → pairs ≡ others → body_lines head code pairs body ≡ body_lines start.head.items (code_in start.desc) others set.body
  by_parts others pairs_is =
      ap (λ (h : List ℕ). body_lines h code pairs body) head_is ∙ ap (λ (k : Option ℕ). body_lines start.head.items k pairs body) code_is
      ∙ ap (λ (ps : Pairs). body_lines start.head.items (code_in start.desc) ps body) pairs_is ∙ ap (body_lines start.head.items (code_in start.desc) others) body_is

  pub named_lines : pairs ≡ instances_at records start.desc t → body_lines head code pairs body ≡ set_lines records t set
  named_lines pairs_is = by_parts (instances_at records start.desc t) pairs_is ∙ kept_lines records t start set said same

  pub unnamed_lines : pairs ≡ [] → NamesNone set.body → body_lines head code pairs body ≡ set_lines records t set
  unnamed_lines pairs_is none = by_parts [] pairs_is ∙ same_lines start.head.items (code_in start.desc) (instances_at records start.desc t) set.body none ∙ kept_lines records t start set said same
