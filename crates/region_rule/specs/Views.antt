-- What the region rule says of the table's words and of all views.
use Rattle.std.specs.Prelude.{◌≡◌, ℕ, zero, suc, ◌+◌, ◌-◌, ◌==◌, Bool, true, false, List, [], ◌∷◌, ◌++◌, nat_lt}
use mathlib.Core.Option.{some}
use lib.ListN.{get_elem?}
use Rattle.region_core.specs.declared.mode.Mode.TheVariants.{Idle}
use Rattle.region_core.specs.declared.act.Entry.{Entry}
use Rattle.region_core.specs.Shape.{Shaping}
use Rattle.region_core.specs.State.{State, opening, IsIn}
use Rattle.region_core.specs.Journal.{state, own, IsJournal}
use Rattle.region_core.specs.Gate.{total}
use Rattle.region_rule.specs.declared.view.View.{View}
use Rattle.region_rule.specs.declared.view.Role.{Role}
use Rattle.region_rule.specs.declared.view.Role.TheVariants.{Spent, Copied, Numbered}

-- the words of the table in a state: the gate, and the image words behind it
abbrev pub table_words : State → List ℕ
table_words s = s.gate ∷ s.words

-- the second list begins with the first
abbrev pub IsFront : List Entry → List Entry → Type 0
IsFront front log = (rest : List Entry) × (log ≡ front ++ rest)

-- the state at the region's making, as a view knows it, and the state at the end of what the view has seen
abbrev pub opening_of : View → State
opening_of v = opening v.start v.passes

abbrev pub now : View → State
now v = state (opening_of v) v.seen

-- the entries of each number are those that are kept, it has none in the rest of the journal, and its pass is idle
abbrev pub Agrees : State → List Entry → List Entry → List (ℕ × List Entry) → Type 0
Agrees start seen rest [] = Unit {0}
Agrees start seen rest (x ∷ xs) = (own x.0 seen ≡ x.1) × (own x.0 rest ≡ []) × IsIn Idle (state start seen) x.0 × Agrees start seen rest xs

-- none of these numbers has an entry in the list
abbrev pub HasNone : List Entry → List (ℕ × List Entry) → Type 0
HasNone entries [] = Unit {0}
HasNone entries (x ∷ xs) = (own x.0 entries ≡ []) × HasNone entries xs

-- what a view has seen is a beginning of the journal, and the rest goes on from there
pub record Sees (words : List ℕ) (passes : ℕ) (log rest : List Entry) (v : View) : Type 0 where
  pub start : v.start ≡ words
  pub passes_are : v.passes ≡ passes
  pub is : log ≡ v.seen ++ rest
  pub told : IsFront v.told v.seen

-- and that beginning has all entries of the view's number, and of each number that it keeps
pub record Owns (words : List ℕ) (passes : ℕ) (log rest : List Entry) (v : View) : Type 0 where
  pub sees : Sees words passes log rest v
  pub had : own v.number v.seen ≡ v.own
  pub none : own v.number rest ≡ []
  pub mode : IsIn v.mode (now v) v.number
  pub kept : Agrees (opening words passes) v.seen rest v.kept

-- a spent view says nothing, and a note has no number
abbrev pub fits_as : Role → List ℕ → ℕ → List Entry → View → Type 0
fits_as Spent words passes log v = Unit {0}
fits_as Copied words passes log v = (rest : List Entry) × Sees words passes log rest v
fits_as Numbered words passes log v = (rest : List Entry) × Owns words passes log rest v

abbrev pub Fits : List ℕ → ℕ → List Entry → View → Type 0
Fits words passes log v = fits_as v.role words passes log v

-- 1 for true
abbrev pub one_if : Bool → ℕ
one_if true = 1
one_if false = 0

-- how often a number is kept
abbrev pub count : ℕ → List (ℕ × List Entry) → ℕ
count k [] = 0
count k (x ∷ xs) = one_if (x.0 == k) + count k xs

-- how often a view has a number, as its own or among those it keeps
abbrev pub times_in_as : Role → ℕ → ℕ → List (ℕ × List Entry) → ℕ
times_in_as Spent k number kept = 0
times_in_as Copied k number kept = 0
times_in_as Numbered k number kept = one_if (number == k) + count k kept

abbrev pub times_in : ℕ → View → ℕ
times_in k v = times_in_as v.role k v.number v.kept

-- The rule: there is one journal, it is legal, and the words are those of its last state; each view fits it; and each number
-- below the number of passes stands in one view alone, and no other number in any
pub record IsOneJournal (S : Shaping) (words : List ℕ) (passes : ℕ) (found : List ℕ) (views : List View) : Type 0 where
  pub log : List Entry
  pub journal : IsJournal S words passes log
  pub is : found ≡ table_words (state (opening words passes) log)
  pub fits : (id : ℕ) (v : View) → get_elem? views id ≡ some v → Fits words passes log v
  pub once : (k : ℕ) → total (times_in k) views ≡ one_if (nat_lt k passes)

-- the numbers from k on, n of them, which nobody has yet
abbrev pub numbers_from : ℕ → ℕ → List (ℕ × List Entry)
numbers_from k zero = []
numbers_from k (suc n) = (k, []) ∷ numbers_from (suc k) n

-- a pass that has made no entry and seen none
abbrev pub fresh_view : List ℕ → ℕ → ℕ → List (ℕ × List Entry) → View
fresh_view words passes number kept =
    record { role = Numbered; start = words; passes = passes; seen = []; told = []; number = number; mode = Idle; own = []; kept = kept }

-- the first one, which keeps all other numbers
abbrev pub first_view : List ℕ → ℕ → View
first_view words passes = fresh_view words passes 0 (numbers_from 1 (passes - 1))
