-- What a pass makes of its own lines in a region where others act beside it: which entries, in order, and each store worked out in
-- the state in which it stands.
use Rattle.std.specs.Prelude.{◌≡◌, ◌⊎◌, ℕ, zero, suc, ◌+◌, ◌-◌, ◌^◌, ◌==◌, true, if◌then◌else◌, List, [], ◌∷◌, ◌++◌, All, map, max, slice_index, Option, Some, None}
use Rattle.region_core.specs.declared.act.Act.{Act}
use Rattle.region_core.specs.declared.act.Act.TheVariants.{Load, Enter, Leave, Take, Begin, Put, End, Free}
use Rattle.region_core.specs.declared.act.Entry.{Entry}
use Rattle.region_core.specs.declared.mode.Mode.TheVariants.{Attached, Bounced}
use Rattle.region_core.specs.Journal.{state, own}
use Rattle.region_core.specs.State.{State, g1, IsIn}
use Rattle.region_rule.specs.Changes.{next_after, left_from, puts_left}
use Rattle.region_rule.specs.Steps.{entry}
use Rattle.run_script.specs.Recording.{image_words}
use Rattle.run_script.specs.declared.script.Line.{Line}
use Rattle.run_script.specs.declared.script.Line.TheVariants as lines
use Rattle.script_runs.specs.Journals.{is_load}
use Rattle.script_runs.specs.Slots.{swap_of, add_of}

-- What a pass is doing at its lines: nothing; it is attached; it changes the layout to this image, under this generation, and stores
-- this word next; or it goes on with the lines of a change that was refused, since no generation was left.
pub data Writing : Type 0 where
  idle : Writing
  attached : Writing
  changing : List ℕ → ℕ → ℕ → Writing
  refused : Writing

-- these acts are all that pass k makes among these entries, in order
abbrev pub Makes : ℕ → List Act → List Entry → Type 0
Makes k acts entries = own k entries ≡ map (λ act. entry k act) acts

-- it makes nothing but loads
abbrev pub Looks : ℕ → List Entry → Type 0
Looks k entries = All (λ (e : Entry). is_load e.act ≡ true) (own k entries)

-- an attach that was refused: the pass entered while a change was open, was bounced, and took its entry back
pub record IsBounced (k : ℕ) (s : State) (entries : List Entry) : Type 0 where
  pub entering : List Entry
  pub leaving : List Entry
  pub is : entries ≡ entering ++ leaving
  pub enters : Makes k (Enter ∷ []) entering
  pub outside : IsIn Bounced (state s entering) k
  pub leaves : Makes k (Leave ∷ []) leaving

-- so many of them, one behind another
abbrev pub AreBounced : ℕ → ℕ → State → List Entry → Type 0
AreBounced zero k s entries = entries ≡ []
AreBounced (suc n) k s entries = (before : List Entry) × (last : List Entry) × (entries ≡ before ++ last) × AreBounced n k s before × IsBounced k (state s before) last

-- the pass entered, after so many refusals, and is inside
pub record Attaches (k : ℕ) (s : State) (entries : List Entry) : Type 0 where
  pub tries : ℕ
  pub before : List Entry
  pub last : List Entry
  pub is : entries ≡ before ++ last
  pub bounced : AreBounced tries k s before
  pub enters : Makes k (Enter ∷ []) last
  pub inside : IsIn Attached (state s entries) k

-- so many takes of a gate that wasn't free
abbrev pub takes : ℕ → List Act
takes zero = []
takes (suc n) = takes n ++ Take ∷ []

-- the pass looked at the layout, and then stored what the words say there
pub record StoresLast (k : ℕ) (s : State) (what : List ℕ → Option Act) (entries : List Entry) : Type 0 where
  pub before : List Entry
  pub looks : Looks k before
  pub act : Act
  pub is : what (state s before).words ≡ Some act
  pub last : entries ≡ before ++ entry k act ∷ []

-- the layout that stands has nothing there, and nothing is stored
pub record StoresNone (k : ℕ) (s : State) (what : List ℕ → Option Act) (entries : List Entry) : Type 0 where
  pub looks : Looks k entries
  pub none : what (state s entries).words ≡ None

abbrev pub Stores : ℕ → State → (List ℕ → Option Act) → List Entry → Type 0
Stores k s what entries = StoresLast k s what entries ⊎ StoresNone k s what entries

-- The pass took the gate, after so many refusals, loaded the first generation, and raised it to the moment, or by one where that is
-- more.
pub record IsBeginMade (k : ℕ) (s : State) (moment n : ℕ) (entries : List Entry) : Type 0 where
  pub tries : ℕ
  pub before : List Entry
  pub makes : Makes k (takes tries ++ (Take ∷ Load 1 ∷ [])) before
  pub generation : n ≡ max moment (g1 (state s before) + 1)
  pub last : entries ≡ before ++ entry k (Begin n) ∷ []

-- or no generation was left, and the gate is free again
pub record Spends (k : ℕ) (s : State) (entries : List Entry) : Type 0 where
  pub tries : ℕ
  pub before : List Entry
  pub makes : Makes k (takes tries ++ (Take ∷ Load 1 ∷ [])) before
  pub spent : g1 (state s before) ≡ 2 ^ 64 - 1
  pub last : entries ≡ before ++ entry k Free ∷ []

abbrev pub BeginsChange : ℕ → State → List ℕ → ℕ → List Entry → Writing → Type 0
BeginsChange k s image moment entries next =
    ((n : ℕ) × IsBeginMade k s moment n entries × (next ≡ Writing.changing image n 0)) ⊎ (Spends k s entries × (next ≡ Writing.refused))

-- the next word of the image, if one is left
abbrev pub next_put : List ℕ → ℕ → List Act
next_put image next = if left_from next image == 0 then [] else Put next (slice_index image next) ∷ []

abbrev pub next_place : List ℕ → ℕ → ℕ
next_place image next = if left_from next image == 0 then next else next_after next

-- It stored the next word, if one is left; a change that was refused goes on without an entry
abbrev pub StepsOn : ℕ → Writing → List Entry → Writing → Type 0
StepsOn k (Writing.changing image n at) entries next = Makes k (next_put image at) entries × (next ≡ Writing.changing image n (next_place image at))
StepsOn k Writing.refused entries next = Makes k [] entries × (next ≡ Writing.refused)
StepsOn k writing entries next = ⊥

-- it stored all words that are left, the second generation and the gate
abbrev pub Finishes : ℕ → Writing → List Entry → Writing → Type 0
Finishes k (Writing.changing image n at) entries next = Makes k (puts_left at image ++ (End n ∷ Free ∷ [])) entries × (next ≡ Writing.idle)
Finishes k Writing.refused entries next = Makes k [] entries × (next ≡ Writing.idle)
Finishes k writing entries next = ⊥

-- One line of pass k: which entries it makes from a state on, by what the pass was doing, and what it does then
abbrev pub LineMakes : List (List ℕ × List ℕ) → ℕ → State → Writing → Line → List Entry → Writing → Type 0
LineMakes images k s writing (lines.Attach region pass) entries next = (writing ≡ Writing.idle) × Attaches k s entries × (next ≡ Writing.attached)
LineMakes images k s writing (lines.Detach region pass) entries next = (writing ≡ Writing.attached) × Makes k (Leave ∷ []) entries × (next ≡ Writing.idle)
LineMakes images k s writing (lines.Swap region pass item instance value) entries next =
    (writing ≡ Writing.attached) × Stores k s (λ words. swap_of words item instance value) entries × (next ≡ Writing.attached)
LineMakes images k s writing (lines.Add region pass item instance number) entries next =
    (writing ≡ Writing.attached) × Stores k s (λ words. add_of words item instance number) entries × (next ≡ Writing.attached)
LineMakes images k s writing (lines.Begin region pass image moment) entries next = (writing ≡ Writing.idle) × BeginsChange k s (image_words images image) moment entries next
LineMakes images k s writing (lines.Step region pass) entries next = StepsOn k writing entries next
LineMakes images k s writing (lines.Finish region pass) entries next = Finishes k writing entries next
LineMakes images k s writing line entries next = ⊥

-- its lines one after another, the entries of each up to its last own one
abbrev pub LinesMake : List (List ℕ × List ℕ) → ℕ → State → Writing → List Line → List Entry → Writing → Type 0
LinesMake images k s writing [] entries last = (entries ≡ []) × (last ≡ writing)
LinesMake images k s writing (line ∷ more) entries last =
    (made : List Entry) × (rest : List Entry) × (next : Writing) × (entries ≡ made ++ rest)
    × LineMakes images k s writing line made next × LinesMake images k (state s made) next more rest last

-- In a journal pass k made just the entries of these lines, from doing nothing to doing nothing.
pub record HasMade (images : List (List ℕ × List ℕ)) (k : ℕ) (s : State) (own_lines : List Line) (log : List Entry) : Type 0 where
  pub made : List Entry
  pub rest : List Entry
  pub is : log ≡ made ++ rest
  pub makes : LinesMake images k s Writing.idle own_lines made Writing.idle
  pub none : own k rest ≡ []
