-- Calls that only look, one after another.
use Rattle.std.proofs.Common.{◌≡◌, inl, inr, ⊎_elim, Result, refl, ◌∙◌, subst, arith}
use Rattle.pcp_model.specs.Disk.{Files, CrashImage}
use Rattle.pcp_outside.specs.declared.disk.Disk.{Ghosts as DiskGhosts}
use Rattle.pcp_outside.specs.Causes.{HasCause}
use Rattle.pcp_outside.specs.Devices.{Elapses}
use Rattle.pcp_outside.proofs.Crash.{started, joined, weaker, after_look}
use Rattle.archive_loading.specs.Looks.{Looks, Blames}
use Rattle.archive_loading.specs.declared.lack.Lack.{Lack}
use Rattle.archive_loading.specs.declared.lack.Lack.TheVariants.{Disk, Memory}

-- the law of disks that a run begins with
abbrev pub OnlyNow : {D : Type 0} → DiskGhosts D → Type 0
OnlyNow {D} g = (disk : D) (c : Files) → g.left_since disk (g.moment disk) c → CrashImage (g.held disk) c

module _ {D : Type 0} (g : DiskGhosts D) where
  -- no call
  pub looks_none : OnlyNow g → (a : D) → Looks g a a
  looks_none now a = record {
    later = omega arith;
    held = λ t. refl;
    wrapped = λ t. refl;
    moments = λ t. started g.moment g.left_since g.held now a (CrashImage (g.held a)) (λ c left. left);
  }

  -- one call
  pub looked : {T E : Type 0} → OnlyNow g → (a b : D) (result : Result T E) → HasCause (g.faults a) (g.faults b) result → (g.tells → g.held b ≡ g.held a) → (g.tells → g.wrapped_file b ≡ g.wrapped_file a)
      → Elapses (g.moment a) (g.moment b) (g.left_since a) (g.left_since b) (g.held b) → Looks g a b
  looked now a b result cause held wrapped time = record {
    later = cause.later;
    held = held;
    wrapped = wrapped;
    moments = λ t. after_look g.moment g.left_since g.held a a b (CrashImage (g.held a)) (started g.moment g.left_since g.held now a (CrashImage (g.held a)) (λ c left. left)) time (held t) (λ c left. left);
  }

  -- one behind another
  pub looks_on : (a b c : D) → Looks g a b → Looks g b c → Looks g a c
  looks_on a b c first second = record {
    later = omega (arith, first.later, second.later);
    held = λ t. second.held t ∙ first.held t;
    wrapped = λ t. second.wrapped t ∙ first.wrapped t;
    moments = λ t. joined g.moment g.left_since g.held a b c (CrashImage (g.held a)) (first.moments t)
        (weaker g.moment g.left_since g.held b c (CrashImage (g.held b)) (CrashImage (g.held a)) (second.moments t) (λ image left. subst (λ h. CrashImage h image) (first.held t) left));
  }

  -- a later call is to blame
  pub blames_on : (a b c : D) (e : Lack) → Looks g a b → Blames g b c e → Blames g a c e
  blames_on a b c Disk first rose = ⊎_elim (λ more. inl (omega (arith, first.later, more))) (λ full. inr full) rose
  blames_on a b c Memory first rose = tt
