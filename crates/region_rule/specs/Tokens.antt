-- How views are cut in two and joined.
use Rattle.std.specs.Prelude.{◌≡◌, ℕ, ◌<◌, ◌≢◌, List, [], ◌∷◌, ◌++◌, length, nat_lt, if◌then◌else◌}
use Rattle.region_core.specs.declared.mode.Mode.TheVariants.{Idle}
use Rattle.region_core.specs.declared.act.Entry.{Entry}
use Rattle.region_core.specs.Shape.{Shaping}
use Rattle.region_core.specs.State.{State, IsIn}
use Rattle.region_core.specs.Journal.{own, IsJournal}
use Rattle.region_rule.specs.declared.view.View.{View}
use Rattle.region_rule.specs.declared.view.Role.TheVariants.{Spent, Copied}
use Rattle.region_rule.specs.Views.{now, IsFront, count, fresh_view}

-- a pass that keeps no other number any more
abbrev pub after_giving : View → View
after_giving v = record v { kept = [] }

-- the first of the numbers that wait, and the others
abbrev pub number_first : List (ℕ × List Entry) → ℕ
number_first [] = 0
number_first (x ∷ xs) = x.0

abbrev pub others_waiting : List (ℕ × List Entry) → List (ℕ × List Entry)
others_waiting [] = []
others_waiting (x ∷ xs) = xs

-- the pass that is given next, which keeps the others
abbrev pub next_pass : View → View
next_pass v = fresh_view v.start v.passes (number_first v.kept) (others_waiting v.kept)

-- what a note knows: what the pass had seen
abbrev pub note_of : View → View
note_of v = record { role = Copied; start = v.start; passes = v.passes; seen = v.seen; told = []; number = 0; mode = Idle; own = []; kept = [] }

-- what is left of a view that was joined to another
abbrev pub spent_view : View
spent_view = record { role = Spent; start = []; passes = 0; seen = []; told = []; number = 0; mode = Idle; own = []; kept = [] }

-- the longer of two lists, and the other one
abbrev pub longer : List Entry → List Entry → List Entry
longer xs ys = if nat_lt (length xs) (length ys) then ys else xs

abbrev pub shorter : List Entry → List Entry → List Entry
shorter xs ys = if nat_lt (length xs) (length ys) then xs else ys

-- a pass that has learned what a note or another pass has seen
abbrev pub after_learning : View → View → View
after_learning v w = record v { seen = longer v.seen w.seen; told = shorter v.seen w.seen }

-- and one that has ended another pass besides: it keeps that one's entries, and those which that one kept
abbrev pub after_gathering : View → View → View
after_gathering v w = record v { seen = longer v.seen w.seen; told = shorter v.seen w.seen; kept = (w.number, w.own) ∷ (w.kept ++ v.kept) }

-- the entries of each number in the list are those that are kept
abbrev pub HasLists : List Entry → List (ℕ × List Entry) → Type 0
HasLists seen [] = Unit {0}
HasLists seen (x ∷ xs) = (own x.0 seen ≡ x.1) × HasLists seen xs

-- the pass of each number in the list is idle
abbrev pub AreIdle : State → List (ℕ × List Entry) → Type 0
AreIdle s [] = Unit {0}
AreIdle s (x ∷ xs) = IsIn Idle s x.0 × AreIdle s xs

-- What a look at the table tells a pass of its own view: what it has seen is a legal journal, with the list that came by the
-- last join at its front, with just these own entries, with just these entries of the passes that were gathered, which are idle
pub record Knows (S : Shaping) (v : View) : Type 0 where
  pub journal : IsJournal S v.start v.passes v.seen
  pub told : IsFront v.told v.seen
  pub had : own v.number v.seen ≡ v.own
  pub mode : IsIn v.mode (now v) v.number
  pub lists : HasLists v.seen v.kept
  pub idle : AreIdle (now v) v.kept

-- the pass has gathered every other one
abbrev pub IsLast : View → Type 0
IsLast v = (k : ℕ) → k < v.passes → k ≢ v.number → 0 < count k v.kept
