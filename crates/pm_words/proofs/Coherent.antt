-- Laws of a command's meaning: which refusals of files go together, and what stands where memory for a refusal's line is wanting. Each
-- command proves them of its own; what a call says of each status follows from them.
use Rattle.std.proofs.Common.{◌≡◌, inl, inr, ⊎_elim, ℕ, true, false, List}
use Rattle.pcp_base.specs.Time.{Moment}
use Rattle.pcp_base.specs.declared.file.FileId.{FileId}
use Rattle.pcp_model.specs.Disk.{Files, contents_of}
use Rattle.pm_words.specs.declared.refusal.Refusal.{Refusal}
use Rattle.pm_words.specs.declared.refusal.Refusal.TheVariants.{Compressed, Nothing, NoMemory}
use Rattle.pm_words.specs.Meaning.{Meaning, converts}
use Rattle.pm_words.specs.Refusals.{IsNumbered, IsOfRun, status_of}
use Rattle.pm_words.specs.Serving.{HasServed, Left}
use Rattle.pm_words.specs.Sides.{DiskSide, Found, files_found, Untouched}
use Rattle.pm_words.specs.Sound.{LeavesSound}
use Rattle.std.specs.Prelude.{Option}

pub record IsCoherent (m : Meaning) : Type 1 where
  -- a run ends for one reason; where a file stands wrapped the files are turned away; where nothing is there nothing else is wrong
  pub one_reason : (input : List ℕ) (f : Found) (reason e : Refusal) → IsOfRun reason → m.turns_away input f reason → m.turns_away input f e → status_of e ≡ status_of reason
  pub wrapped_first : (input : List ℕ) (f : Found) (file : FileId) (e : Refusal) → m.turns_away input f (Compressed file) → m.turns_away input f e → status_of e ≡ 6
  pub nothing_first : (input : List ℕ) (f : Found) (stamp : Moment) (e : Refusal) → m.turns_away input f (Nothing stamp) → m.turns_away input f e → status_of e ≡ 11
  pub never_done : (input : List ℕ) (d : DiskSide) (text : List ℕ) → HasServed m input d text → d.tells → (stamp : Moment) → m.turns_away input (files_found d) (Nothing stamp) → ⊥
  -- what stands where memory for the line of a refusal is wanting, and what was written before
  pub untold : (input : List ℕ) (d : DiskSide) (status : ℕ) → (status ≡ 5 → ⊥) → m.begun status input d → m.begun 9 input d
  pub begins_untold : (input : List ℕ) (d : DiskSide) (e : Refusal) (front : List ℕ) → IsNumbered e → m.begins input d e front → m.begins input d NoMemory front
  -- whoever takes nothing takes little
  pub takes_none : (files : Files) (n : ℕ) → m.takes files n n
  -- a command that writes an archive leaves it whole
  pub sound : (input : List ℕ) (d : DiskSide) → m.writes_archive ≡ true → d.tells → m.done input d → LeavesSound (contents_of d.held) (contents_of d.after)

-- a command that has nothing to do with the disk
pub converts_coherent : (refuses : List ℕ → Option Refusal) (make : List ℕ → List ℕ) → IsCoherent (converts refuses make)
converts_coherent refuses make = record {
  one_reason = λ input f reason e run a b. absurd a;
  wrapped_first = λ input f file e a b. absurd a;
  nothing_first = λ input f stamp e a b. absurd a;
  never_done = λ input d text served tells stamp a. a;
  untold = λ input d status other begun. begun;
  begins_untold = λ input d e front some begins. begins;
  takes_none = λ files n. tt;
  sound = λ input d writes tells done. let e : false ≡ true = writes in cc;
}

-- what is left of the disk where the line of a refusal of files isn't told
pub untold_left : (m : Meaning) → IsCoherent m → (input : List ℕ) (d : DiskSide) (status : ℕ) → (status ≡ 5 → ⊥) → Left m status input d → Left m 9 input d
untold_left m laws input d status other left = record {
  files = ⊎_elim (λ (still : Untouched d). inl still) (λ (begun : m.begun status input d). inr (laws.untold input d status other begun)) left.files;
  settled = λ nine. left.settled other;
}
