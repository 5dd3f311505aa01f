-- What readings tell: a row of loads, and what they show.
use Rattle.std.specs.Prelude.{◌≡◌, ◌≢◌, ℕ, suc, ◌<◌, ◌≤◌, List, [], ◌∷◌, All, length}
use Rattle.std.specs.List.{zip}
use Rattle.region_core.specs.declared.act.Act.TheVariants.{Load}
use Rattle.region_core.specs.declared.mode.Mode.TheVariants.{Idle}
use Rattle.region_core.specs.Shape.{Shaping}
use Rattle.region_core.specs.State.{g2}
use Rattle.region_core.specs.Journal.{state_at}
use Rattle.region_core.specs.Readings.{Reading, LoadsAt, IsFoundBetween, Shown, IsAgain}
use Rattle.region_rule.specs.declared.view.View.{View}
use Rattle.region_rule.specs.declared.fault.ReadFault.{ReadFault}
use Rattle.region_rule.specs.declared.fault.ReadFault.TheVariants.{Again as Crossed, NoMemory}
use Rattle.region_rule.specs.declared.fault.ValueFault.{ValueFault}
use Rattle.region_rule.specs.declared.fault.ValueFault.TheVariants.{Newer, Again}
use Rattle.region_rule.specs.Views.{opening_of, now}
use Rattle.region_rule.specs.Seats.{Token, IsSame}
use Rattle.region_rule.specs.Steps.{Extends}

-- loads of these words, one after the other, each with what it found
abbrev pub Reads : Shaping → View → List (ℕ × ℕ) → View → Type 0
Reads S v [] w = w ≡ v
Reads S v (x ∷ xs) w = (u : View) × Extends S v (Load x.0) x.1 u × Reads S u xs w

-- the words by rising index
abbrev pub numbered_from : ℕ → List ℕ → List (ℕ × ℕ)
numbered_from w [] = []
numbered_from w (x ∷ xs) = (w, x) ∷ numbered_from (suc w) xs

-- a whole reading: generation 2, then these words, then generation 1, and what each load found
pub record WholeReading (S : Shaping) (v : View) (first : ℕ) (found : List (ℕ × ℕ)) (last : ℕ) (w : View) : Type 0 where
  pub begun : View
  pub opens : Extends S v (Load 2) first begun
  pub ended : View
  pub each : Reads S begun found ended
  pub closes : Extends S ended (Load 1) last w

-- A reading under way: from the end of what v had seen on, its pass loaded word 2 and found the first number, and then each of
-- these words and found its value. It may have learned in between
pub record HasRead (S : Shaping) (v : View) (first : ℕ) (found : List (ℕ × ℕ)) (w : View) : Type 0 where
  pub number : w.number ≡ v.number
  pub start : w.start ≡ v.start
  pub passes : w.passes ≡ v.passes
  pub at : ℕ
  pub since : length v.seen ≤ at
  pub before : at < length w.seen
  pub opens : LoadsAt w.seen v.number at 2
  pub first_is : first ≡ g2 (state_at (opening_of v) w.seen at)
  pub each : All (IsFoundBetween S (opening_of v) w.seen v.number at (length w.seen)) found

-- one that found one number is shown, from the end of what the pass had seen
abbrev pub ShowsIn : (S : Shaping) → View → Reading S → View → Type 0
ShowsIn S v reading w = Shown S (opening_of v) w.seen (length v.seen) v.number reading

-- and one that found two is refused
abbrev pub RefusedIn : View → ℕ → ℕ → View → Type 0
RefusedIn v first last w = IsAgain (opening_of v) w.seen (length v.seen) v.number first last

-- what the loads of a whole reading say
abbrev pub Agreement : Shaping → Type 0
Agreement S = (v w : View) (first last : ℕ) (found : List (ℕ × ℕ)) → WholeReading S v first found last w → first ≡ last
    → (form : S.Form) × ShowsIn S v (record { generation = first; form = form; found = found }) w

abbrev pub Disagreement : Shaping → Type 0
Disagreement S = (v w : View) (first last : ℕ) (found : List (ℕ × ℕ)) → WholeReading S v first found last w → first ≢ last → RefusedIn v first last w

-- every word was read, and one number found: the words are an image, the one that the reading shows
pub record ReadsImage (S : Shaping) (v : View) (words : List ℕ) (w : View) : Type 0 where
  pub generation : ℕ
  pub whole : length words ≡ length v.start
  pub loads : WholeReading S v generation (numbered_from 0 words) generation w
  pub shown : ShowsIn S v (record { generation = generation; form = S.form words; found = numbered_from 0 words }) w
  pub image : S.IsImage words

-- every word was read, and two numbers found
pub record ReadsAgain (S : Shaping) (v : View) (first last : ℕ) (w : View) : Type 0 where
  pub words : List ℕ
  pub whole : length words ≡ length v.start
  pub loads : WholeReading S v first (numbered_from 0 words) last w
  pub differ : first ≢ last
  pub again : RefusedIn v first last w

-- why a read of all words gave none; where there was no memory, nothing was loaded
abbrev pub ReadsNot : Shaping → View → View → ReadFault → Type 0
ReadsNot S v w (Crossed first last) = ReadsAgain S v first last w
ReadsNot S v w NoMemory = w ≡ v

-- and what stays then; where there was no memory, all of it
abbrev pub StaysIdle : Token → Token → ReadFault → Type 0
StaysIdle old new (Crossed first last) = IsSame Idle Idle old new
StaysIdle old new NoMemory = new ≡ old

-- every word was read while the pass was inside: they are an image of the form of what the pass has seen
pub record ReadsInside (S : Shaping) (v : View) (words : List ℕ) (w : View) : Type 0 where
  pub whole : length words ≡ length v.start
  pub loads : Reads S v (numbered_from 0 words) w
  pub image : S.IsImage words
  pub form : S.form words ≡ S.form (now w).words
  pub same : S.form (now w).words ≡ S.form (now v).words

-- the known number was found twice, and these words between: the reading is shown
pub record ReadsChosen (S : Shaping) (v : View) (known : ℕ) (indexes values : List ℕ) (w : View) : Type 0 where
  pub loads : WholeReading S v known (zip indexes values) known w
  pub form : S.Form
  pub shown : ShowsIn S v (record { generation = known; form = form; found = zip indexes values }) w

-- the known number was found, and another one after the words
pub record ReadsChosenAgain (S : Shaping) (v : View) (known : ℕ) (indexes : List ℕ) (first last : ℕ) (w : View) : Type 0 where
  pub values : List ℕ
  pub whole : length values ≡ length indexes
  pub loads : WholeReading S v first (zip indexes values) last w
  pub first_is : first ≡ known
  pub differ : first ≢ last
  pub again : RefusedIn v first last w

-- why a read of chosen words gave none; where another number was found first, nothing else was loaded
abbrev pub ReadsChosenNot : Shaping → View → ℕ → List ℕ → View → ValueFault → Type 0
ReadsChosenNot S v known indexes w (Newer found) = (found ≢ known) × Extends S v (Load 2) found w
ReadsChosenNot S v known indexes w (Again first last) = ReadsChosenAgain S v known indexes first last w
