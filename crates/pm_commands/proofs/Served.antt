-- A command that meets its meaning, told of the command that was asked for.
use Rattle.std.proofs.Common.{◌≡◌, ℕ, Bool, false, List, [], sym, subst, Option, None, Result}
use Rattle.pcp_outside.specs.Sides.{SinkSide, sink_side}
use Rattle.pcp_outside.specs.declared.disk.Disk.{Ghosts as DiskGhosts}
use Rattle.pcp_outside.specs.declared.streams.Sink.{Ghosts as SinkGhosts}
use Rattle.run_passes.specs.declared.opening.Opened.{Opened}
use Rattle.pm_words.specs.declared.words.Command.{Command}
use Rattle.pm_words.specs.declared.refusal.Refusal.{Refusal}
use Rattle.pm_words.specs.Serving.{Meets, MeetsSending}
use Rattle.pm_words.proofs.Sending.{unsent}
use Rattle.pm_commands.specs.Meanings.{meaning}

module _ {O D : Type 0} (k : SinkGhosts O) (out : O) (failed : Bool) (fresh : failed ≡ false) (input : List ℕ) (g : DiskGhosts D) (old new : D) (opened : Option Opened) (result : Result (List ℕ) Refusal) (command asked : Command) (is : asked ≡ command) where
  -- one that writes nothing before it is done
  pub quietly : Meets (meaning command) input g old new opened [] result → MeetsSending (sink_side k out out) failed (meaning asked) input g old new opened result
  quietly meets = ([], unsent k out failed fresh, subst (λ (x : Command). Meets (meaning x) input g old new opened [] result) (sym is) meets)

  -- and that leaves no regions
  pub without_regions : opened ≡ None → Meets (meaning command) input g old new None [] result → MeetsSending (sink_side k out out) failed (meaning asked) input g old new opened result
  without_regions none meets = quietly (subst (λ (o : Option Opened). Meets (meaning command) input g old new o [] result) (sym none) meets)

-- one that sent some of its output before
pub sending : {D : Type 0} (k : SinkSide) (failed : Bool) (input : List ℕ) (g : DiskGhosts D) (old new : D) (opened left : Option Opened) (result : Result (List ℕ) Refusal) (command asked : Command) → asked ≡ command → opened ≡ left
    → MeetsSending k failed (meaning command) input g old new left result → MeetsSending k failed (meaning asked) input g old new opened result
sending k failed input g old new opened left result command asked is same meets =
    subst (λ (x : Command). MeetsSending k failed (meaning x) input g old new opened result) (sym is)
    (subst (λ (o : Option Opened). MeetsSending k failed (meaning command) input g old new o result) (sym same) meets)
