-- What the calls of a pass say.
use Rattle.std.specs.Prelude.{◌≡◌, ℕ, zero, suc, ◌^◌, ◌<◌, ◌≤◌, List, [], ◌∷◌, ◌++◌, length}
use Rattle.region_core.specs.declared.act.Act.TheVariants.{Enter, Leave}
use Rattle.region_core.specs.declared.act.Entry.{Entry}
use Rattle.region_core.specs.Shape.{Shaping, IsWord}
use Rattle.region_core.specs.State.{with_zeros}
use Rattle.region_core.specs.Journal.{state, own, IsJournal}
use Rattle.region_rule.specs.declared.view.View.{View}
use Rattle.region_rule.specs.declared.fault.OpenFault.{OpenFault}
use Rattle.region_rule.specs.declared.fault.OpenFault.TheVariants.{TooLarge, NoMemory}
use Rattle.region_rule.specs.Views.{opening_of, now, IsFront, HasNone, fresh_view}
use Rattle.region_rule.specs.Steps.{Extends}
use Rattle.region_rule.specs.Tokens.{after_learning, after_gathering, Knows}
use Rattle.region_rule.specs.Seats.{MadeRegion, Token}

-- the passes of a new region, from the k-th on, n of them: they have seen nothing
abbrev pub fresh_from : MadeRegion → ℕ → ℕ → List Token
fresh_from region k zero = []
fresh_from region k (suc n) = record { region = region; view = fresh_view region.words region.passes k [] } ∷ fresh_from region (suc k) n

-- the region of an image, with zeros behind it
pub record Opens (image : List ℕ) (capacity passes : ℕ) (region : MadeRegion) (tokens : List Token) : Type 0 where
  pub fits : length image ≤ capacity
  pub words : region.words ≡ with_zeros image capacity
  pub passes_are : region.passes ≡ passes
  pub tokens_are : tokens ≡ fresh_from region 0 passes

-- why there is no region
abbrev pub OpensNot : List ℕ → ℕ → OpenFault → Type 0
OpensNot image capacity (TooLarge need room) = (capacity < length image) × (need ≡ length image) × (room ≡ capacity)
OpensNot image capacity NoMemory = Unit {0}

-- a reading: its pass, and the number that its first load found
pub record Opened : Type 0 where
  pub token : Token
  pub first : ℕ

-- the pass is inside: it found a gate below 2^63
pub record Attaches (S : Shaping) (v w : View) : Type 0 where
  pub gate : ℕ
  pub free : gate < 2 ^ 63
  pub enters : Extends S v Enter gate w

-- the pass was bounced: it found the change bit, and took its 1 back
pub record Bounces (S : Shaping) (v : View) (gate : ℕ) (w : View) : Type 0 where
  pub shut : 2 ^ 63 ≤ gate
  pub middle : View
  pub enters : Extends S v Enter gate middle
  pub left : ℕ
  pub leaves : Extends S middle Leave left w

-- the pass left the gate
abbrev pub Detaches : Shaping → View → View → Type 0
Detaches S v w = (gate : ℕ) × Extends S v Leave gate w

-- the form of what the pass has seen lets the word take this value, or every value
abbrev pub TakesValue : Shaping → View → ℕ → ℕ → Type 0
TakesValue S v w x = S.Takes (S.form (now v).words) w x

abbrev pub TakesAll : Shaping → View → ℕ → Type 0
TakesAll S v w = (x : ℕ) → IsWord x → S.Takes (S.form (now v).words) w x

-- both lists are beginnings of what the pass has seen now, which the rule confirms
pub record Learns (S : Shaping) (v w new : View) : Type 0 where
  pub is : new ≡ after_learning v w
  pub mine : IsFront v.seen new.seen
  pub theirs : IsFront w.seen new.seen
  pub knows : Knows S new

pub record Gathers (S : Shaping) (v w new : View) : Type 0 where
  pub is : new ≡ after_gathering v w
  pub mine : IsFront v.seen new.seen
  pub theirs : IsFront w.seen new.seen
  pub knows : Knows S new

-- The words are as many as at the start: those of the last state of a legal journal that begins with what the pass has seen, and in which neither it
-- nor a pass that it gathered has a further entry
pub record Closes (S : Shaping) (v : View) (words : List ℕ) : Type 0 where
  pub rest : List Entry
  pub journal : IsJournal S v.start v.passes (v.seen ++ rest)
  pub is : words ≡ (state (opening_of v) (v.seen ++ rest)).words
  pub whole : length words ≡ length v.start
  pub others : own v.number rest ≡ []
  pub gathered_none : HasNone rest v.kept

-- the form of what the pass has seen is the same
abbrev pub KeepsForm : Shaping → View → View → Type 0
KeepsForm S v w = S.form (now w).words ≡ S.form (now v).words
