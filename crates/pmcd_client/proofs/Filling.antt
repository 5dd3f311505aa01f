-- A loop that reads to a goal.
use Rattle.std.proofs.Common.{◌≡◌, ℕ, ◌+◌, ◌-◌, ◌≤◌, List, [], ◌++◌, length, sym, ap, ◌∙◌, append_assoc, arith, length-append}
use Rattle.std.proofs.lemmas.List.{append-nil}
use Rattle.pcp_outside.specs.Sides.{SourceSide, source_side}
use Rattle.pcp_outside.specs.declared.streams.Source.{Ghosts as SourceGhosts}
use Rattle.pmcd_client.specs.declared.faults.TalkFault.TheVariants as faults
use Rattle.pmcd_client.specs.Bytes.{Took}
use Rattle.pmcd_client.specs.Pieces.{FillsNot}

-- these bytes were taken so far, and stand behind those that were there
pub record IsFilled (i : SourceSide) (goal : ℕ) (old now : List ℕ) : Type 0 where
  pub part : List ℕ
  pub took : Took i part
  pub is : now ≡ old ++ part
  pub few : length now ≤ goal
  pub stands : i.faults_after ≡ i.faults

pub filled_first : (i : SourceSide) (goal : ℕ) (old : List ℕ) → (i.tells → i.left ≡ i.after) → i.faults_after ≡ i.faults → length old ≤ goal → IsFilled i goal old old
filled_first i goal old same stands few = record { part = []; took = same; is = sym (append-nil old); few = few; stands = stands }

-- more bytes came
pub filled_more : {I : Type 0} (g : SourceGhosts I) (a b c : I) (goal : ℕ) (old now more : List ℕ) → IsFilled (source_side g a b) goal old now → Took (source_side g b c) more → g.faults c ≡ g.faults b → length more ≤ goal - length now
    → IsFilled (source_side g a c) goal old (now ++ more)
filled_more g a b c goal old now more f took stands few = record {
  part = f.part ++ more;
  took = λ tells. f.took tells ∙ ap (λ (l : List ℕ). f.part ++ l) (took tells) ∙ sym (append_assoc f.part more (g.left c));
  is = ap (λ (l : List ℕ). l ++ more) f.is ∙ append_assoc old f.part more;
  few = let n : length (now ++ more) ≡ length now + length more = length-append now more in let m = f.few in omega arith;
  stands = stands ∙ f.stands;
}

-- memory was refused for bytes that came
pub filled_memory : {I : Type 0} (g : SourceGhosts I) (a b c : I) (goal : ℕ) (old now more new : List ℕ) → IsFilled (source_side g a b) goal old now → Took (source_side g b c) more → g.faults c ≡ g.faults b → length more ≤ goal - length now
    → FillsNot (source_side g a c) goal old new faults.NoMemory
filled_memory g a b c goal old now more new f took stands few = (
  f.part ++ more,
  (λ tells. f.took tells ∙ ap (λ (l : List ℕ). f.part ++ l) (took tells) ∙ sym (append_assoc f.part more (g.left c))),
  (let n : length now ≡ length old + length f.part = ap (λ (l : List ℕ). length l) f.is ∙ length-append old f.part in let m = f.few in let k = length-append f.part more in omega arith),
  stands ∙ f.stands,
)
