-- What the writers of a script make of its passes: each makes the entries of its own lines, and no others.
use Rattle.std.specs.Prelude.{◌≡◌, ℕ, ◌≤◌, List, [], ◌∷◌, length, slice_get, Some}
use Rattle.std.specs.Global.{Vec}
use Rattle.region_core.specs.declared.mode.Mode.TheVariants.{Idle}
use Rattle.region_rule.specs.Seats.{Token}
use Rattle.fetch_engine.specs.declared.server.Mounted.{Mounted}
use Rattle.run_script.specs.Recording.{lines_of}
use Rattle.run_script.specs.declared.script.Script.{Script}
use Rattle.run_passes.specs.Workers.{IsPassOf}
use Rattle.run_passes.specs.Hands.{HasWritten, IsSameHand, IsServedAt, KnownHand, WritesLines}

-- Passes of a script's regions, in ascending cluster: as many as the script names, by their numbers, none of which does anything
pub record AreReady (script : Script) (server : List Mounted) (passes : List (Vec Token)) : Type 0 where
  pub lists : length passes ≡ length server
  pub few : (j : ℕ) (list : Vec Token) → slice_get passes j ≡ Some list → length list.items ≤ 256
  pub many : (i j : ℕ) (at : IsServedAt script server i j) (list : Vec Token) → slice_get passes j ≡ Some list → length list.items ≡ at.row.passes
  pub each : (j k : ℕ) (mounted : Mounted) (list : Vec Token) (pass : Token) → slice_get server j ≡ Some mounted → slice_get passes j ≡ Some list → slice_get list.items k ≡ Some pass
      → IsPassOf mounted.region k Idle pass

-- each made the entries of its own lines
pub record HaveWritten (script : Script) (server : List Mounted) (old new : List (Vec Token)) : Type 0 where
  pub ready : AreReady script server new
  pub each : (i j k : ℕ) (at : IsServedAt script server i j) (was done : Vec Token) (before after : Token) → slice_get old j ≡ Some was → slice_get new j ≡ Some done
      → slice_get was.items k ≡ Some before → slice_get done.items k ≡ Some after → WritesLines script.images (lines_of i k script.steps) before after

-- memory was refused, and the passes come back: none does anything
pub record HaveComeBack (script : Script) (server : List Mounted) (old new : List (Vec Token)) : Type 0 where
  pub ready : AreReady script server new

-- writers beside each other
abbrev pub AreSame : List KnownHand → List KnownHand → Type 0
AreSame [] [] = Unit {0}
AreSame (old ∷ olds) (new ∷ news) = IsSameHand old new × AreSame olds news
AreSame _ _ = ⊥

abbrev pub AreWritten : Script → List Mounted → List KnownHand → List KnownHand → Type 0
AreWritten script server [] [] = Unit {0}
AreWritten script server (old ∷ olds) (new ∷ news) = HasWritten script server old new × AreWritten script server olds news
AreWritten script server _ _ = ⊥
