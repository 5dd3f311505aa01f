-- What a crash leaves where the files are read first.
use Rattle.std.proofs.Common.{◌≡◌, subst}
use Rattle.pcp_model.specs.Archive.{Readable}
use Rattle.pcp_model.specs.Disk.{Holdings, CrashImage, contents_of}
use Rattle.pcp_outside.specs.declared.disk.Disk.{Ghosts as DiskGhosts}
use Rattle.pcp_outside.specs.Devices.{LeavesOnly}
use Rattle.pcp_outside.proofs.Crash.{joined, weaker}
use Rattle.archive_loading.specs.Looks.{Looks}
use Rattle.archive_recovery.specs.Halfway.{MayBeHalfway}
use Rattle.archive_recovery.proofs.Settled.{settled_begins}

module _ {D : Type 0} (g : DiskGhosts D) (a b : D) (looks : Looks g a b) (tells : g.tells) where
  pub same_files : g.held b ≡ g.held a
  same_files = looks.held tells

  -- nothing was written
  pub only_looked : LeavesOnly g.moment g.left_since a b (MayBeHalfway (g.held a))
  only_looked = weaker g.moment g.left_since g.held a b (CrashImage (g.held a)) (MayBeHalfway (g.held a)) (looks.moments tells) (λ image left settled r reads. settled_begins (g.held a) r image settled reads left)

  -- and then something was
  pub looked_first : (d : D) → LeavesOnly g.moment g.left_since b d (MayBeHalfway (g.held b)) → LeavesOnly g.moment g.left_since a d (MayBeHalfway (g.held a))
  looked_first d run =
      joined g.moment g.left_since g.held a b d (MayBeHalfway (g.held a)) only_looked (subst (λ (h : Holdings). LeavesOnly g.moment g.left_since b d (MayBeHalfway h)) same_files run)

  pub looked_unread : (d : D) → (Readable (contents_of (g.held a)) → ⊥) → ((Readable (contents_of (g.held b)) → ⊥) → LeavesOnly g.moment g.left_since b d (CrashImage (g.held b))) → LeavesOnly g.moment g.left_since a d (CrashImage (g.held a))
  looked_unread d none run =
      joined g.moment g.left_since g.held a b d (CrashImage (g.held a)) (looks.moments tells)
      (subst (λ (h : Holdings). LeavesOnly g.moment g.left_since b d (CrashImage h)) same_files
      (run (λ some. none (subst (λ (h : Holdings). Readable (contents_of h)) same_files some))))
