-- How far the words and blocks of a payload reach, without what they say.
use Rattle.std.specs.Prelude.{◌≡◌, ℕ, List, Result, Ok, Err, drop}
use Rattle.pcp_base.specs.Time.{Moment}
use Rattle.result_form.specs.declared.fault.FormFault.{FormFault}
use Rattle.result_form.specs.Decoding.{set_end, blocks_from, set_at, payload_result}
use Rattle.result_form.specs.declared.reach.SetSpan.{SetSpan}
use Rattle.result_form.specs.Shown.{shown_result}
use Rattle.result_form.specs.Lying.{SetsLie}

-- the byte up to which was read, without what was read
abbrev pub reach_of : {A : Type 0} → Result (A × ℕ) FormFault → Result ℕ FormFault
reach_of (Ok x) = Ok x.1
reach_of (Err e) = Err e

-- A set's words end there, and of the pairs behind its first three words so many lead to blocks: as far as they reach,
-- the set does.
abbrev pub IsSpan : List ℕ → ℕ → Result SetSpan FormFault → Type 0
IsSpan bytes at (Ok span) =
    (set_end bytes at ≡ Ok span.next)
    × ((end reached : ℕ) → reach_of (set_at bytes end reached at) ≡ reach_of (blocks_from bytes end reached span.blocks span.from))
IsSpan bytes at (Err e) = set_end bytes at ≡ Err e

-- What a payload says is shown, by its stamp and the number of its sets, and the blocks lie behind these; or this is its
-- fault.
abbrev pub IsRead : List ℕ → Moment → ℕ → ℕ → Type 0
IsRead bytes stamp count end = (payload_result bytes ≡ Ok (shown_result bytes stamp count)) × SetsLie bytes end count (drop 12 bytes)

abbrev pub IsChecked : List ℕ → Result (Moment × ℕ × ℕ) FormFault → Type 0
IsChecked bytes (Ok found) = IsRead bytes found.0 found.1 found.2
IsChecked bytes (Err e) = payload_result bytes ≡ Err e
