-- Readings that say the same but for generations and for what no metric shows, and that they answer alike.
use Rattle.std.specs.Prelude.{◌≡◌, ℕ, List, Contains, slice_index, Option, Some, None}
use Rattle.std.specs.List.{AllZip}
use Rattle.pcp_base.specs.Time.{Moment}
use Rattle.pcp_base.specs.declared.result.ValueSet.{ValueSet}
use Rattle.profile_filter.specs.Kept.{Settings}
use Rattle.mmv_layout.specs.Images.{IsImage}
use Rattle.mmv_layout.specs.declared.rows.Layout.{Layout}
use Rattle.mmv_layout.specs.declared.rows.Slot.{Slot}
use Rattle.mmv_layout.specs.Form.{form_of, slots_of}
use Rattle.mmv_layout.specs.Rows.{layout_of}
use Rattle.fetch_answers.specs.Answers.{answer_of, facts_of}
use Rattle.fetch_answers.specs.Readings.{RegionReading}
use Rattle.fetch_engine.specs.Visits.{names_in}

-- Images of one form whose value words hold the same. Their generations may differ, and so may the values of metrics whose kinds
-- have no value word, since a fetch shows none of these.
pub record AreAlike (words others : List ℕ) : Type 0 where
  pub image : IsImage words
  pub other_image : IsImage others
  pub form : form_of words ≡ form_of others
  pub values : (slot : Slot) → Contains (slots_of words) slot → slice_index words slot.word ≡ slice_index others slot.word

-- layouts of such images
pub record SayAlike (layout other : Layout) : Type 0 where
  pub words : List ℕ
  pub others : List ℕ
  pub says : layout ≡ layout_of words
  pub other_says : other ≡ layout_of others
  pub alike : AreAlike words others

-- both were missed, or both were read
abbrev pub LayoutsAlike : Option Layout → Option Layout → Type 0
LayoutsAlike None None = Unit {0}
LayoutsAlike (Some layout) (Some other) = SayAlike layout other
LayoutsAlike _ _ = ⊥

pub record ReadAlike (reading other : RegionReading) : Type 0 where
  pub file : reading.file ≡ other.file
  pub cluster : reading.cluster ≡ other.cluster
  pub layouts : LayoutsAlike reading.layout other.layout

-- Regions that were read so answer alike: a fetch, its facts, and the names
pub record AnswerAlike (readings others : List RegionReading) : Type 0 where
  pub answers : (profile : Settings) (pmids : List ℕ) (stamp : Moment) → answer_of readings profile pmids stamp ≡ answer_of others profile pmids stamp
  pub facts : (sets : List ValueSet) → facts_of readings sets ≡ facts_of others sets
  pub names : names_in readings ≡ names_in others

abbrev pub AlikeAnswersAlike : Type 0
AlikeAnswersAlike = (readings others : List RegionReading) → AllZip ReadAlike readings others → AnswerAlike readings others
