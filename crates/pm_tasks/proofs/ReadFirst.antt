-- A command that reads an input by which it looks at an archive: with an input that it reads it does what one does that only looks.
use Rattle.std.proofs.Common.{◌≡◌, ℕ, List, [], ◌++◌, refl, Option, Some, None, Result, Ok, Err}
use Rattle.pcp_model.specs.Disk.{Files, contents_of}
use Rattle.pcp_outside.specs.declared.disk.Disk.{Ghosts as DiskGhosts}
use Rattle.archive_loading.proofs.Looking.{OnlyNow, looks_none}
use Rattle.pm_words.specs.declared.refusal.Refusal.{Refusal}
use Rattle.pm_words.specs.Inputs.{Refuses}
use Rattle.pm_words.specs.Meaning.{Meaning}
use Rattle.pm_words.specs.Refusals.{Stage, AtInput, AtFiles, AtDisk, AtMemory, stage_of, status_of}
use Rattle.pm_words.specs.Serving.{HasServed, Left, Meets, StopsAt}
use Rattle.pm_words.specs.Sides.{DiskSide, Found, disk_side}
use Rattle.pm_words.proofs.Coherent.{IsCoherent}
use Rattle.pm_words.proofs.Serving.{no_good}
use Rattle.pm_tasks.specs.Archives.{looks, looks_by}
use Rattle.pm_tasks.proofs.Lookings.{look_leaves, not_so}

module _ (refuses : List ℕ → Option Refusal) (turned : Found → Refusal → Type 0) (said : List ℕ → Found → List ℕ → Type 0) (first : List ℕ → DiskSide → List ℕ → Type 0) (taken : Files → ℕ → ℕ → Type 0) where
  abbrev Plain : List ℕ → Meaning
  Plain input = looks turned (said input) (first input) taken

  abbrev Whole : Meaning
  Whole = looks_by refuses turned said first taken

  served_by : (input : List ℕ) (d : DiskSide) (text : List ℕ) → refuses input ≡ None → HasServed (Plain input) input d text → HasServed Whole input d text
  served_by input d text good s = record { good = good; welcome = s.welcome; done = s.done; says = s.says; kept = s.kept; settled = s.settled; quiet = s.quiet }

  plainly : (input : List ℕ) (d : DiskSide) (text : List ℕ) → HasServed Whole input d text → HasServed (Plain input) input d text
  plainly input d text s = record { good = refl; welcome = s.welcome; done = s.done; says = s.says; kept = s.kept; settled = s.settled; quiet = s.quiet }

  left_by : (status : ℕ) (input : List ℕ) (d : DiskSide) → Left (Plain input) status input d → Left Whole status input d
  left_by status input d l = record { files = l.files; settled = l.settled }

  not_some : (e : Refusal) → None ≡ Some e → ⊥
  not_some e h = cc

  stops_by : (stage : Stage) (input : List ℕ) (d : DiskSide) (e : Refusal) → refuses input ≡ None → StopsAt stage (Plain input) input d e → StopsAt stage Whole input d e
  stops_by AtInput input d e good c = absurd (not_some e c.0)
  stops_by AtFiles input d e good c = ((good, refl), left_by (status_of e) input d c.1, c.2)
  stops_by AtDisk input d e good c = ((good, refl), left_by (status_of e) input d c.1, c.2)
  stops_by AtMemory input d e good c = left_by (status_of e) input d c
  stops_by _ input d e good c = absurd c

  module _ {D : Type 0} (g : DiskGhosts D) (input : List ℕ) where
    -- with an input that it reads
    pub meets_by : (a b : D) (front : List ℕ) (result : Result (List ℕ) Refusal) → refuses input ≡ None → Meets (Plain input) input g a b None front result → Meets Whole input g a b None front result
    meets_by a b front (Ok text) good m = record {
      done = served_by input (disk_side g a b) (front ++ text) good m.done;
      stops = tt;
      aside = m.aside;
      unread = m.unread;
      any_moment = m.any_moment;
      taken = m.taken;
      since = m.since;
      ran = m.ran;
      regions = m.regions;
      unrun = m.unrun;
    }
    meets_by a b front (Err e) good m = record {
      done = tt;
      stops = (stops_by (stage_of e) input (disk_side g a b) e good m.stops.0, m.stops.1);
      aside = m.aside;
      unread = m.unread;
      any_moment = m.any_moment;
      taken = m.taken;
      since = m.since;
      ran = m.ran;
      regions = m.regions;
      unrun = m.unrun;
    }

    -- and with one that it doesn't read, or where memory runs out before. The law is the disk's own, `only_now`.
    pub refused_by : (a : D) (e : Refusal) → OnlyNow g → ((files : Files) (n : ℕ) → taken files n n) → first input (disk_side g a a) [] → Refuses (Some refuses) input e → Meets Whole input g a a None [] (Err e)
    refused_by a e now idle begun refused = record {
      done = tt;
      stops = (no_good Whole input (disk_side g a a) e refused (λ tells. refl), begun);
      aside = λ h. refl;
      unread = λ other. (looks_none g now a).moments;
      any_moment = look_leaves g Whole input a a (looks_none g now a);
      taken = λ tells. idle (contents_of (g.held a)) (g.taken a);
      since = λ tells recovered. tt;
      ran = refl;
      regions = not_so;
      unrun = λ runs none. not_so runs;
    }

  -- its meaning is coherent where that of looking is so, with each input
  pub coherent_by : ((input : List ℕ) → IsCoherent (Plain input)) → IsCoherent Whole
  coherent_by laws = record {
    one_reason = λ input. (laws input).one_reason input;
    wrapped_first = λ input. (laws input).wrapped_first input;
    nothing_first = λ input. (laws input).nothing_first input;
    never_done = λ input d text served. (laws input).never_done input d text (plainly input d text served);
    untold = λ input d status other begun. begun;
    begins_untold = λ input d e front some begins. begins;
    takes_none = (laws []).takes_none;
    sound = λ input d writes tells done. not_so writes;
  }
