-- How many volume bytes a command takes, from what its parts take.
use Rattle.std.proofs.Common.{inl, inr, ℕ, subst, arith}
use Rattle.pcp_base.specs.Time.{Moment}
use Rattle.pcp_model.specs.Disk.{Files, Holdings, contents_of}
use Rattle.pcp_outside.specs.declared.disk.Disk.{Ghosts as DiskGhosts}
use Rattle.archive_loading.specs.Looks.{Looks}
use Rattle.archive_loading.specs.Loaded.{Loaded, IsOver}
use Rattle.archive_loading.specs.Takes.{TookLabels}
use Rattle.archive_reader.specs.Asked.{at_begin, range_begin}
use Rattle.archive_reader.specs.Takes.{TakesAt, TakesRange}
use Rattle.pm_tasks.specs.Takes.{TookAsked, TookAt, TookRange}

-- whoever takes nothing
pub took_none : {Search : Loaded → ℕ → ℕ → Type 0} (files : Files) (n : ℕ) → TookAsked files Search n n
took_none files n = record { mid = n; labels = record { volumes = 0; most = omega arith }; search = inl (omega arith) }

module _ {D : Type 0} (g : DiskGhosts D) (a b c : D) where
  -- an archive that isn't loaded
  pub took_labels : (Search : Loaded → ℕ → ℕ → Type 0) → (g.tells → TookLabels (contents_of (g.held a)) (g.taken a) (g.taken b)) → g.tells → TookAsked (contents_of (g.held a)) Search (g.taken a) (g.taken b)
  took_labels Search labels tells = record { mid = g.taken b; labels = labels tells; search = inl (omega arith) }

  -- and one that is
  pub took_at : (t : Moment) (r : Loaded) → Looks g a b → (g.tells → IsOver (contents_of (g.held a)) r) → (g.tells → TookLabels (contents_of (g.held a)) (g.taken a) (g.taken b))
      → (g.tells → TakesAt (contents_of (g.held b)) r.volumes t (at_begin r t) (g.taken b) (g.taken c)) → g.tells → TookAt t (contents_of (g.held a)) (g.taken a) (g.taken c)
  took_at t r looks over labels takes tells = record {
    mid = g.taken b;
    labels = labels tells;
    search = inr (r, over tells, subst (λ (h : Holdings). TakesAt (contents_of h) r.volumes t (at_begin r t) (g.taken b) (g.taken c)) (looks.held tells) (takes tells));
  }

  pub took_range : (from to : Moment) (r : Loaded) → Looks g a b → (g.tells → IsOver (contents_of (g.held a)) r) → (g.tells → TookLabels (contents_of (g.held a)) (g.taken a) (g.taken b))
      → (g.tells → TakesRange (contents_of (g.held b)) r.volumes to (range_begin r from) (g.taken b) (g.taken c)) → g.tells → TookRange from to (contents_of (g.held a)) (g.taken a) (g.taken c)
  took_range from to r looks over labels takes tells = record {
    mid = g.taken b;
    labels = labels tells;
    search = inr (r, over tells, subst (λ (h : Holdings). TakesRange (contents_of h) r.volumes to (range_begin r from) (g.taken b) (g.taken c)) (looks.held tells) (takes tells));
  }
