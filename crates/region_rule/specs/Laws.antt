-- What follows from the clauses of the calls.
use Rattle.std.specs.Prelude.{◌≡◌, ◌≢◌, ℕ, ◌<◌, List, [], ◌++◌, All, length}
use Rattle.region_core.specs.declared.mode.Mode.TheVariants.{Idle, Attached}
use Rattle.region_core.specs.declared.act.Act.{Act}
use Rattle.region_core.specs.declared.act.Entry.{Entry}
use Rattle.region_core.specs.Shape.{Shaping}
use Rattle.region_core.specs.State.{word, g1, g2, IsIn}
use Rattle.region_core.specs.Journal.{state, own, IsJournal}
use Rattle.region_rule.specs.declared.view.View.{View}
use Rattle.region_rule.specs.Views.{opening_of, now, HasNone}
use Rattle.region_rule.specs.Steps.{Extends}
use Rattle.region_rule.specs.Tokens.{IsLast, Knows}
use Rattle.region_rule.specs.Calls.{Closes}
use Rattle.region_rule.specs.Reads.{numbered_from, WholeReading}

-- while a pass is inside, the form of the journal's last state is that of what the pass has seen
abbrev pub FormStaysInside : Shaping → Type 0
FormStaysInside S = (v : View) (rest : List Entry) → IsJournal S v.start v.passes (v.seen ++ rest) → own v.number rest ≡ []
    → v.mode ≡ Attached → IsIn v.mode (now v) v.number → S.form (state (opening_of v) (v.seen ++ rest)).words ≡ S.form (now v).words

-- and a step of its own keeps that form
abbrev pub StepsKeepTheForm : Shaping → Type 0
StepsKeepTheForm S = (v w : View) (act : Act) (n : ℕ) → Extends S v act n w → v.mode ≡ Attached → IsIn v.mode (now v) v.number
    → S.form (now w).words ≡ S.form (now v).words

-- a pass that has gathered every other one has seen the whole journal: its next step finds nothing new, and so does closing
abbrev pub LastSeesAll : Shaping → Type 0
LastSeesAll S = (v w : View) (act : Act) (n : ℕ) (e : Extends S v act n w) → IsLast v → e.between ≡ []

abbrev pub LastClosesAll : Shaping → Type 0
LastClosesAll S = (v : View) (words : List ℕ) (c : Closes S v words) → IsLast v → c.rest ≡ []

-- it knows the whole journal: no list of entries of nobody that it knows goes on from what it has seen
abbrev pub LastKnowsAll : Shaping → Type 0
LastKnowsAll S = (v : View) (rest : List Entry) → IsJournal S v.start v.passes (v.seen ++ rest) → own v.number rest ≡ [] → HasNone rest v.kept → IsLast v → rest ≡ []

-- and each other pass is idle
abbrev pub LastLeavesIdle : Shaping → Type 0
LastLeavesIdle S = (v : View) (k : ℕ) → Knows S v → IsLast v → k < v.passes → k ≢ v.number → IsIn Idle (now v) k

-- A reading by it finds the last state, and leaves it: both numbers, and each word
pub record ReadsLast (v w : View) (first : ℕ) (found : List (ℕ × ℕ)) (last : ℕ) : Type 0 where
  pub first_is : first ≡ g2 (now v)
  pub last_is : last ≡ g1 (now v)
  pub each : All (λ (x : ℕ × ℕ). x.1 ≡ word (now v) x.0) found
  pub same : now w ≡ now v
  pub still_last : IsLast w

abbrev pub LastReadsAll : Shaping → Type 0
LastReadsAll S = (v w : View) (first last : ℕ) (found : List (ℕ × ℕ)) → WholeReading S v first found last w → IsLast v → ReadsLast v w first found last

-- and a read of all words gives exactly the last state's words
abbrev pub LastReadsWords : Shaping → Type 0
LastReadsWords S = (v w : View) (first last : ℕ) (words : List ℕ) → WholeReading S v first (numbered_from 0 words) last w → IsLast v → length words ≡ length v.start
    → words ≡ (now v).words
