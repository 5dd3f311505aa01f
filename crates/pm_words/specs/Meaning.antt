-- What a command means: all that is its own. Its parts speak of whole inputs and of whole files.
use Rattle.std.specs.Prelude.{◌≡◌, ℕ, Bool, false, List, [], Option, Some, None, Result}
use Rattle.pcp_model.specs.Disk.{Files, Holdings}
use Rattle.pcp_outside.specs.declared.disk.Disk.{Ghosts as DiskGhosts}
use Rattle.run_passes.specs.declared.opening.Opened.{Opened}
use Rattle.pm_words.specs.declared.refusal.Refusal.{Refusal}
use Rattle.pm_words.specs.Sides.{DiskSide, Found, Untouched}

-- The first list of bytes of a part is the input, which is empty for a command that takes none.
pub record Meaning : Type 1 where
  -- what it reads: nothing, or an input, and why it doesn't read one
  pub reads : Option (List ℕ → Option Refusal)
  -- whether it has to do with the disk; whether it writes an archive; whether it runs a script on regions, which it leaves
  pub uses_disk : Bool
  pub writes_archive : Bool
  pub runs_script : Bool
  -- which files it turns away, and why; over all others it succeeds
  pub turns_away : List ℕ → Found → Refusal → Type 0
  -- what it has done to the files where it is done
  pub done : List ℕ → DiskSide → Type 0
  -- what it then writes to its output
  pub says : List ℕ → DiskSide → List ℕ → Type 0
  -- what it has written to its output before the last line where it is stopped for a reason
  pub begins : List ℕ → DiskSide → Refusal → List ℕ → Type 0
  -- what each crash leaves from then on, over what the disk held at the start
  pub keeps : List ℕ → Holdings → Files → Type 0
  -- what it leaves where it is stopped, with a status, after its first write
  pub begun : ℕ → List ℕ → DiskSide → Type 0
  -- what a crash at any moment of it may leave, beside what was there
  pub may_leave : List ℕ → Holdings → Files → Type 0
  -- how many bytes of these files' volumes it may have taken, counted before and after
  pub takes : Files → ℕ → ℕ → Type 0
  -- how the disk went on from the moment on at which recovery answered
  pub since : {D : Type 0} → DiskGhosts D → List ℕ → D → D → Type 0
  -- which regions it leaves, and what was run on them, where it wrote this before and answers so
  pub ran : {D : Type 0} → DiskGhosts D → List ℕ → D → D → Option Opened → List ℕ → Result (List ℕ) Refusal → Type 0

-- a command that makes its output of its input, and has nothing to do with the disk
abbrev pub converts : (List ℕ → Option Refusal) → (List ℕ → List ℕ) → Meaning
converts refuses make = record {
  reads = Some refuses;
  uses_disk = false;
  writes_archive = false;
  runs_script = false;
  turns_away = λ input files e. ⊥;
  done = λ input d. Untouched d;
  says = λ input d text. text ≡ make input;
  begins = λ input d e front. front ≡ [];
  keeps = λ input held crash. Unit {0};
  begun = λ status input d. ⊥;
  may_leave = λ input held crash. ⊥;
  takes = λ files before after. Unit {0};
  since = λ g input old new. Unit {0};
  ran = λ g input old new opened front answer. opened ≡ None;
}
