-- What a word of a region holds: what was stored into it last, and what was added to it since.
use Rattle.std.specs.Prelude.{◌≡◌, ℕ, ◌+◌, ◌%◌, ◌^◌, ◌==◌, if◌then◌else◌, List, [], ◌∷◌, ◌++◌, Option, Some, None, unwrap_or}
use Rattle.region_core.specs.declared.act.Act.{Act}
use Rattle.region_core.specs.declared.act.Act.TheVariants.{Swap, Add, Begin, Put, End}
use Rattle.region_core.specs.declared.act.Entry.{Entry}
use Rattle.region_core.specs.Journal.{state}
use Rattle.region_core.specs.Shape.{IsWord}
use Rattle.region_core.specs.State.{State, word}

-- the number that an act stores into a word: a swap, or a change of the layout
abbrev pub stored_by : ℕ → Act → Option ℕ
stored_by w (Swap u v) = if u == w then Some v else None
stored_by w (Begin n) = if 1 == w then Some n else None
stored_by w (Put u v) = if u == w then Some v else None
stored_by w (End n) = if 2 == w then Some n else None
stored_by w act = None

-- the number that an act adds to a word
abbrev pub added_by : ℕ → Act → ℕ
added_by w (Add u d) = if u == w then d else 0
added_by w act = 0

-- what was stored into a word last; where nothing was, the number that it opened with
abbrev pub stored_last_in : ℕ → ℕ → List Entry → ℕ
stored_last_in w opened [] = opened
stored_last_in w opened (e ∷ es) = stored_last_in w (unwrap_or (stored_by w e.act) opened) es

-- a sum goes on, and begins again behind a store
abbrev pub sum_after : Option ℕ → ℕ → ℕ
sum_after None sum = sum
sum_after (Some stored) sum = 0

-- the sum of what was added to it since
abbrev pub added_since : ℕ → ℕ → List Entry → ℕ
added_since w sum [] = sum
added_since w sum (e ∷ es) = added_since w (sum_after (stored_by w e.act) (sum + added_by w e.act)) es

-- an act that stores into a word stands among these entries
pub record IsStored (w : ℕ) (es : List Entry) : Type 0 where
  pub front : List Entry
  pub entry : Entry
  pub rest : List Entry
  pub is : es ≡ front ++ entry ∷ rest
  pub number : ℕ
  pub stores : stored_by w entry.act ≡ Some number

-- A word is what was brought last plus all adds since, modulo 2^64
pub record IsSum (start : State) (log : List Entry) (w : ℕ) : Type 0 where
  pub modulo : word (state start log) w % 2 ^ 64 ≡ (stored_last_in w (word start w) log + added_since w 0 log) % 2 ^ 64
  -- where the region opened with words of 64 bits, it is that number itself
  pub exact : ((u : ℕ) → IsWord (word start u)) → word (state start log) w ≡ (stored_last_in w (word start w) log + added_since w 0 log) % 2 ^ 64
