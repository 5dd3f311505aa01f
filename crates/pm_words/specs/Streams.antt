-- Texts that go to a sink in pieces: what of them is written, also where the sink fails on the way.
use Rattle.std.specs.Prelude.{◌≡◌, ℕ, ◌≤◌, if◌then◌else◌, Bool, true, false, List, ◌++◌}
use Rattle.pcp_outside.specs.Causes.{Rose}
use Rattle.pcp_outside.specs.Sides.{SinkSide}

-- some bytes begin a text
abbrev pub IsFront : List ℕ → List ℕ → Type 0
IsFront some text = (rest : List ℕ) × (text ≡ some ++ rest)

-- a text was given to a sink that didn't fail, and is written; or the sink failed, and a front of it is
abbrev pub IsGiven : SinkSide → List ℕ → Bool → Type 0
IsGiven k text false = k.tells → k.after ≡ k.written ++ text
IsGiven k text true = Rose k.faults k.faults_after × (k.tells → (some : List ℕ) × IsFront some text × (k.after ≡ k.written ++ some))

pub record IsSent (k : SinkSide) (text : List ℕ) (failed : Bool) : Type 0 where
  pub later : k.faults ≤ k.faults_after
  pub quiet : failed ≡ false → k.faults_after ≡ k.faults
  pub given : IsGiven k text failed

-- a further piece goes to a sink, unless that failed before
abbrev pub Sends : SinkSide → Bool → List ℕ → Bool → Type 0
Sends k false piece failed = IsSent k piece failed
Sends k true piece failed = (failed ≡ true) × (k.faults ≤ k.faults_after) × (k.tells → k.after ≡ k.written)

-- a front of what waits went to the sink, and the rest waits
pub record Turns (k : SinkSide) (failed_before failed : Bool) (waits_before waits : List ℕ) : Type 0 where
  pub piece : List ℕ
  pub whole : waits_before ≡ piece ++ waits
  pub sends : Sends k failed_before piece failed

-- the last piece goes to the sink, and the status tells whether that has failed
abbrev pub Finishes : SinkSide → Bool → List ℕ → ℕ → Type 0
Finishes k failed piece status = (now : Bool) × Sends k failed piece now × (status ≡ (if now then 4 else 0))
