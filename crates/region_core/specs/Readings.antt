-- What a reading showed, where it was refused, and where a region was missed. mmv(5) has the two numbers that a reader compares.
use Rattle.std.specs.Prelude.{◌≡◌, ◌≢◌, ℕ, zero, suc, ◌<◌, ◌≤◌, ◌+◌, List, All}
use mathlib.Core.Option.{some}
use lib.ListN.{get_elem?}
use Rattle.region_core.specs.declared.act.Act.TheVariants.{Load}
use Rattle.region_core.specs.declared.act.Entry.{Entry}
use Rattle.region_core.specs.Shape.{Shaping}
use Rattle.region_core.specs.State.{State, word, g1, g2}
use Rattle.region_core.specs.Journal.{state_at}

-- the entry at position p is a load of word w by pass k
abbrev pub LoadsAt : List Entry → ℕ → ℕ → ℕ → Type 0
LoadsAt log k p w = get_elem? log p ≡ some (record { by = k; act = Load w })

-- what a reading tells: a generation, a form, and some words with what their loads found
pub record Reading (S : Shaping) : Type 0 where
  pub generation : ℕ
  pub form : S.Form
  pub found : List (ℕ × ℕ)

-- the state at position p has this generation twice, and this form
pub record HasLayout (S : Shaping) (s : State) (generation : ℕ) (form : S.Form) : Type 0 where
  pub first : g1 s ≡ generation
  pub second : g2 s ≡ generation
  pub form_is : S.form s.words ≡ form

module _ (S : Shaping) (start : State) (log : List Entry) where
  -- between positions p and q pass k loaded this word, and found this value
  abbrev pub IsFoundBetween : ℕ → ℕ → ℕ → ℕ × ℕ → Type 0
  IsFoundBetween k p q found = (r : ℕ) × (p < r) × (r < q) × LoadsAt log k r found.0 × (found.1 ≡ word (state_at start log r) found.0)

  -- The reading of pass k shows one generation: from position from on it loaded word 2 first, then each of the words, and word 1
  -- last, and every state from the first load to the last has that generation twice and that form
  pub record IsShownBetween (from k : ℕ) (reading : Reading S) (p q : ℕ) : Type 0 where
    pub since : from ≤ p
    pub order : p < q
    pub opens : LoadsAt log k p 2
    pub closes : LoadsAt log k q 1
    pub each : All (IsFoundBetween k p q) reading.found
    pub stretch : (r : ℕ) → p ≤ r → r ≤ q → HasLayout S (state_at start log r) reading.generation reading.form

  abbrev pub Shown : ℕ → ℕ → Reading S → Type 0
  Shown from k reading = (p : ℕ) × (q : ℕ) × IsShownBetween from k reading p q

module _ (start : State) (log : List Entry) where
  -- a reading that was refused: pass k loaded word 2 at position p, from position from on, and word 1 at q, and the two differ
  pub record IsAgainBetween (from k first last p q : ℕ) : Type 0 where
    pub since : from ≤ p
    pub order : p < q
    pub opens : LoadsAt log k p 2
    pub closes : LoadsAt log k q 1
    pub first_is : first ≡ g2 (state_at start log p)
    pub last_is : last ≡ g1 (state_at start log q)
    pub differ : first ≢ last

  abbrev pub IsAgain : ℕ → ℕ → ℕ → ℕ → Type 0
  IsAgain from k first last = (p : ℕ) × (q : ℕ) × IsAgainBetween from k first last p q

  -- so many refused readings, each begun after the one before had ended
  abbrev pub IsAgainTimes : ℕ → ℕ → ℕ → Type 0
  IsAgainTimes zero from k = Unit {0}
  IsAgainTimes (suc n) from k = (first last p q : ℕ) × IsAgainBetween from k first last p q × IsAgainTimes n (q + 1) k

  -- the region was missed: three refused readings one after the other
  abbrev pub Missed : ℕ → ℕ → Type 0
  Missed from k = IsAgainTimes 3 from k
