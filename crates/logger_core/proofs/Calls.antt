-- One call of a disk, of which every image is good.
use Rattle.std.proofs.Common.{Result}
use Rattle.pcp_base.specs.declared.file.FileId.{FileId}
use Rattle.pcp_model.specs.Disk.{Files, CrashImage}
use Rattle.pcp_outside.specs.declared.disk.Disk.{Ghosts as DiskGhosts}
use Rattle.pcp_outside.specs.Devices.{Appends, Elapses, LeavesOnly, Syncs, holdings_after_append}
use Rattle.pcp_outside.proofs.Crash.{started, after_append, after_sync, joined, weaker}
use Rattle.std.specs.Prelude.{List, ℕ}

module _ {D : Type 0} (g : DiskGhosts D) (only_now : (disk : D) (c : Files) → g.left_since disk (g.moment disk) c → CrashImage (g.held disk) c) where
  pub no_call : (disk : D) (P : Files → Type 0) → ((c : Files) → CrashImage (g.held disk) c → P c) → LeavesOnly g.moment g.left_since disk disk P
  no_call disk P good = started g.moment g.left_since g.held only_now disk P good

  pub one_sync : {T E : Type 0} (old new : D) (P : Files → Type 0) (file : FileId) (result : Result T E) → Elapses (g.moment old) (g.moment new) (g.left_since old) (g.left_since new) (g.held new) → Syncs file (g.held old) (g.held new) result
      → ((c : Files) → CrashImage (g.held old) c → P c) → LeavesOnly g.moment g.left_since old new P
  one_sync old new P file result time change good = after_sync g.moment g.left_since g.held old old new P file result (no_call old P good) time change good

  pub one_append : {T E : Type 0} (old new : D) (P : Files → Type 0) (file : FileId) (bytes : List ℕ) (result : Result T E) → Elapses (g.moment old) (g.moment new) (g.left_since old) (g.left_since new) (g.held new) → Appends file bytes (g.held old) (g.held new) result
      → ((c : Files) → CrashImage (g.held old) c → P c) → ((c : Files) → CrashImage (holdings_after_append file bytes (g.held old)) c → P c) → LeavesOnly g.moment g.left_since old new P
  one_append old new P file bytes result time change before good = after_append g.moment g.left_since g.held old old new P file bytes result (no_call old P before) time change good

  pub run_then : (old mid new : D) (P Q R : Files → Type 0) → LeavesOnly g.moment g.left_since old mid Q → LeavesOnly g.moment g.left_since mid new R → ((c : Files) → Q c → P c) → ((c : Files) → R c → P c) → LeavesOnly g.moment g.left_since old new P
  run_then old mid new P Q R first second one two = joined g.moment g.left_since g.held old mid new P (weaker g.moment g.left_since g.held old mid Q P first one) (weaker g.moment g.left_since g.held mid new R P second two)

  pub run_as : (old new : D) (P Q : Files → Type 0) → LeavesOnly g.moment g.left_since old new Q → ((c : Files) → Q c → P c) → LeavesOnly g.moment g.left_since old new P
  run_as old new P Q run less = weaker g.moment g.left_since g.held old new Q P run less
