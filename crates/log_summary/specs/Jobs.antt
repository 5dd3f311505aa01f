-- Volumes that workers count, piece by piece, and what they come to.
use Rattle.std.specs.Prelude.{◌≡◌, ◌⊎◌, ℕ, ◌+◌, ◌<◌, ◌≤◌, Bool, true, false, List, [], ◌∷◌, length, take, drop}
use Rattle.std.specs.List.{AllByRecursion}
use Rattle.pcp_base.specs.Time.{Moment}
use Rattle.pcp_base.specs.declared.file.FileId.TheVariants.{Volume}
use Rattle.pcp_model.specs.declared.records.MetaRecord.{MetaRecord}
use Rattle.pcp_model.specs.Disk.{Files}
use Rattle.archive_reader.specs.declared.fault.ReaderFault.{ReaderFault}
use Rattle.archive_reader.specs.declared.fault.ReaderFault.TheVariants.{NotArchive}
use Rattle.log_summary.specs.declared.job.Job.{Job}
use Rattle.log_summary.specs.declared.job.Progress.{Progress}
use Rattle.log_summary.specs.declared.job.Progress.TheVariants.{Open, Done, Broken, Refused}
use Rattle.log_summary.specs.declared.piece.Piece.{Piece}
use Rattle.log_summary.specs.declared.piece.Want.{Want}
use Rattle.log_summary.specs.Tables.{Rows, merged}
use Rattle.log_summary.specs.Volumes.{SoFar, IsCounted, IsBroken}

abbrev pub is_empty : {A : Type 0} → List A → Bool
is_empty [] = true
is_empty (x ∷ xs) = false

-- ---- one volume

-- what was read of a volume stands in it behind what is counted
pub record IsRead (bytes : List ℕ) (j : Job) : Type 0 where
  pub long : j.end ≡ length bytes
  pub is : j.bytes.items ≡ take (length j.bytes.items) (drop j.at bytes)

-- nothing of the volume is read or counted
abbrev pub IsNewJob : ℕ → ℕ × ℕ → Bool → Job → Type 0
IsNewJob worker v is_last j = (j.bytes.items ≡ [])
    × (j ≡ record { worker = worker; number = v.0; is_last = is_last; end = v.1; is_new = true; at = 132; bytes = j.bytes; table = []; progress = Open })

-- how far it is counted
abbrev pub IsAsFar : List ℕ → List MetaRecord → Moment → Moment → Job → Progress → Type 0
IsAsFar bytes records from to j Open = SoFar bytes records from to j.at j.table
IsAsFar bytes records from to j Done = IsCounted bytes j.is_last records from to j.table
IsAsFar bytes records from to j (Broken at) = IsBroken bytes j.is_last at
IsAsFar bytes records from to j Refused = Unit {0}

-- the job counts the volume with these bytes
pub record Counts (bytes : List ℕ) (records : List MetaRecord) (from to : Moment) (j : Job) : Type 0 where
  pub read : IsRead bytes j
  pub far : IsAsFar bytes records from to j j.progress

-- more of the volume is read, and nothing else
abbrev pub IsReadOn : Job → Job → Type 0
IsReadOn j k = k ≡ record j { bytes = k.bytes }

-- it is the same worker's, and the same volume
pub record IsSame (j k : Job) : Type 0 where
  pub worker_is : k.worker ≡ j.worker
  pub number : k.number ≡ j.number
  pub last : k.is_last ≡ j.is_last

-- more of the volume is counted
pub record IsCountedOn (records : List MetaRecord) (from to : Moment) (j k : Job) : Type 0 where
  pub same : IsSame j k
  pub counts : (bytes : List ℕ) → Counts bytes records from to j → Counts bytes records from to k

-- ---- volumes beside each other

-- the job is this worker's, and this volume, behind which these others stand
pub record IsJob (files : Files) (records : List MetaRecord) (from to : Moment) (worker : ℕ) (v : ℕ × ℕ) (behind : List (ℕ × ℕ)) (j : Job) : Type 0 where
  pub worker_is : j.worker ≡ worker
  pub number : j.number ≡ v.0
  pub long : v.1 ≡ length (files (Volume v.0))
  pub last : j.is_last ≡ is_empty behind
  pub counts : Counts (files (Volume v.0)) records from to j

-- the jobs are the first of these volumes, one after another, each the next worker's, and the rest is left
abbrev pub AreJobs : Files → List MetaRecord → Moment → Moment → ℕ → List (ℕ × ℕ) → List Job → List (ℕ × ℕ) → Type 0
AreJobs files records from to worker vs [] rest = rest ≡ vs
AreJobs files records from to worker [] (j ∷ js) rest = ⊥
AreJobs files records from to worker (v ∷ vs) (j ∷ js) rest = IsJob files records from to worker v vs j × AreJobs files records from to (worker + 1) vs js rest

-- what was read stands in the files
abbrev pub IsReadOf : Files → Job → Type 0
IsReadOf files j = IsRead (files (Volume j.number)) j

abbrev pub AreRead : Files → List Job → Type 0
AreRead files js = AllByRecursion (IsReadOf files) js

-- what is wanted of a volume lies in its file
abbrev pub IsWithin : Files → Want → Type 0
IsWithin files w = 0 < w.count → w.at + w.count ≤ length (files (Volume w.number))

-- the piece stands in the file
abbrev pub IsPiece : Files → Piece → Type 0
IsPiece files p = p.bytes.items ≡ take (length p.bytes.items) (drop p.at (files (Volume p.number)))

-- of each volume more is read
abbrev pub AreReadOn : Files → List Job → List Job → Type 0
AreReadOn files [] [] = Unit {0}
AreReadOn files (j ∷ js) (k ∷ ks) = (IsReadOn j k × IsReadOf files k) × AreReadOn files js ks
AreReadOn files js ks = Unit {0} → ⊥

-- of each volume more is counted
abbrev pub AreCountedOn : List MetaRecord → Moment → Moment → List Job → List Job → Type 0
AreCountedOn records from to [] [] = Unit {0}
AreCountedOn records from to (j ∷ js) (k ∷ ks) = IsCountedOn records from to j k × AreCountedOn records from to js ks
AreCountedOn records from to js ks = Unit {0} → ⊥

-- the jobs are the first of the volumes from a position on
abbrev pub AreNext : Files → List MetaRecord → Moment → Moment → List (ℕ × ℕ) → ℕ → List Job → Type 0
AreNext files records from to volumes index js = AreJobs files records from to 0 (drop index volumes) js (drop (index + length js) volumes)

-- more is read or counted of the same volumes
abbrev pub LeadOn : Files → List MetaRecord → Moment → Moment → List Job → List Job → Type 0
LeadOn files records from to js ks = (worker : ℕ) (vs rest : List (ℕ × ℕ)) → AreJobs files records from to worker vs js rest → AreJobs files records from to worker vs ks rest

-- ---- what they come to

-- all are counted to their ends, and their tables, put one behind another, lead from the one rows to the others
abbrev pub MergesAll : Rows → List Job → Rows → Type 0
MergesAll rows [] others = others ≡ rows
MergesAll rows (j ∷ js) others = (j.progress ≡ Done) × MergesAll (merged rows j.table) js others

-- a volume's items break off at an offset, which is this fault
abbrev pub IsStop : Job → ReaderFault → Type 0
IsStop j e = (at : ℕ) × (j.progress ≡ Broken at) × (e ≡ NotArchive (Volume j.number) at)

-- the first that isn't counted to its end is this fault
abbrev pub StopsWith : List Job → ReaderFault → Type 0
StopsWith [] e = ⊥
StopsWith (j ∷ js) e = IsStop j e ⊎ ((j.progress ≡ Done) × StopsWith js e)
