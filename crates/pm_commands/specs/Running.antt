-- What a command's body did, or that a call was refused before it began.
use Rattle.std.specs.Prelude.{◌≡◌, ◌⊎◌, ℕ, Bool, List, [], Option, None, Result, Err}
use Rattle.pcp_model.specs.Disk.{CrashImage}
use Rattle.pcp_outside.specs.Sides.{SinkSide, SourceSide}
use Rattle.pcp_outside.specs.declared.disk.Disk.{Ghosts as DiskGhosts}
use Rattle.run_passes.specs.declared.opening.Opened.{Opened}
use Rattle.pm_words.specs.declared.words.Call.TheVariants as calls
use Rattle.pm_words.specs.declared.refusal.Refusal.{Refusal}
use Rattle.pm_words.specs.Asking.{Before}
use Rattle.pm_words.specs.Serving.{Meets}
use Rattle.pm_words.specs.Sides.{Leaves}
use Rattle.pm_words.specs.Streams.{IsSent}
use Rattle.pm_commands.specs.Causes.{Asks}
use Rattle.pm_commands.specs.Meanings.{meaning}

module _ {D : Type 0} (words : List (List ℕ)) (s : SourceSide) (g : DiskGhosts D) (old new : D) (opened : Option Opened) where
  -- the body met its command's meaning
  pub record Did (front : List ℕ) (result : Result (List ℕ) Refusal) : Type 0 where
    pub asks : Asks words s
    pub meets : Meets (meaning asks.command) asks.input g old new opened front result

  -- nothing was touched but the source
  pub record Stopped (front : List ℕ) (result : Result (List ℕ) Refusal) : Type 0 where
    pub refusal : Refusal
    pub is : result ≡ Err refusal
    pub before : Before calls.Offline words s refusal
    pub nothing : front ≡ []
    pub same : new ≡ old
    pub moments : Leaves g old new CrashImage
    pub none : opened ≡ None

  pub record Runs (k : SinkSide) (failed : Bool) (result : Result (List ℕ) Refusal) : Type 0 where
    pub front : List ℕ
    pub sent : IsSent k front failed
    pub came : Did front result ⊎ Stopped front result
