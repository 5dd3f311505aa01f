-- Journals of the toy layout, some legal and some not. Each is of a slate with one counter and of three passes.
use Rattle.std.specs.Prelude.{ℕ, List, [], ◌∷◌}
use Rattle.region_core.specs.declared.act.Act.{Act}
use Rattle.region_core.specs.declared.act.Act.TheVariants.{Load, Swap, Add, Enter, Leave, Take, Begin, Put, End, Free}
use Rattle.region_core.specs.declared.act.Entry.{Entry}
use Rattle.region_core.specs.Journal.{IsJournal}
use Rattle.region_slate.specs.Slate.{slate}

-- one counter at 7, generation 5, and the text word at the first string
abbrev pub one_counter : List ℕ
one_counter = 1 ∷ 5 ∷ 5 ∷ 7 ∷ 64 ∷ []

abbrev pub IsLegalSlate : List Entry → Type 0
IsLegalSlate log = IsJournal slate one_counter 3 log

abbrev pub IsIllegalSlate : List Entry → Type 0
IsIllegalSlate log = IsLegalSlate log → ⊥

abbrev pub entry : ℕ → Act → Entry
entry k act = record { by = k; act = act }

-- pass 2 reads before and after a change by pass 0, and across it; then pass 1 comes, adds, and swaps the text word
abbrev pub whole_day : List Entry
whole_day = entry 2 (Load 2) ∷ entry 0 Take ∷ entry 1 Enter ∷ entry 1 Leave ∷ entry 0 (Begin 6) ∷ entry 0 (Put 3 9) ∷ entry 0 (End 6) ∷ entry 0 Free
    ∷ entry 2 (Load 1) ∷ entry 2 (Load 2) ∷ entry 2 (Load 3) ∷ entry 2 (Load 1) ∷ entry 1 Enter ∷ entry 1 (Add 3 4) ∷ entry 1 (Swap 4 128) ∷ entry 1 Leave ∷ []

-- pass 2 reads three times, each time across a part of one change by pass 0
abbrev pub busy_day : List Entry
busy_day = entry 2 (Load 2) ∷ entry 0 Take ∷ entry 0 (Begin 6) ∷ entry 2 (Load 1) ∷ entry 2 (Load 2) ∷ entry 2 (Load 1)
    ∷ entry 2 (Load 2) ∷ entry 0 (End 6) ∷ entry 2 (Load 1) ∷ entry 0 Free ∷ []

-- a change that begins with the generation that stands
abbrev pub generation_kept : List Entry
generation_kept = entry 0 Take ∷ entry 0 (Begin 5) ∷ entry 0 (Put 3 9) ∷ entry 0 (End 5) ∷ entry 0 Free ∷ []

-- a change that stores word 2 before word 1
abbrev pub end_first : List Entry
end_first = entry 0 Take ∷ entry 0 (End 6) ∷ entry 0 (Put 3 9) ∷ entry 0 (Begin 6) ∷ entry 0 Free ∷ []

-- a change that stores a word while the generations agree
abbrev pub put_first : List Entry
put_first = entry 0 Take ∷ entry 0 (Put 3 9) ∷ entry 0 (Begin 6) ∷ entry 0 (End 6) ∷ entry 0 Free ∷ []

-- a change by a pass that took the gate while another was inside
abbrev pub taken_over : List Entry
taken_over = entry 1 Enter ∷ entry 0 Take ∷ entry 0 (Begin 6) ∷ []

-- an add to the text word
abbrev pub text_added : List Entry
text_added = entry 1 Enter ∷ entry 1 (Add 4 1) ∷ []

-- a swap of the text word to an offset where no string is
abbrev pub text_lost : List Entry
text_lost = entry 1 Enter ∷ entry 1 (Swap 4 65) ∷ []

-- a change that ends in no image, since the text word is nowhere
abbrev pub image_lost : List Entry
image_lost = entry 0 Take ∷ entry 0 (Begin 6) ∷ entry 0 (Put 4 65) ∷ entry 0 (End 6) ∷ entry 0 Free ∷ []
