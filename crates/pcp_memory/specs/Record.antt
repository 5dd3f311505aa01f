-- The record of a disk in memory: the calls that changed its files, from which every moment's holdings follow.
use Rattle.std.specs.Prelude.{◌≡◌, ◌⊎◌, ℕ, ◌+◌, ◌<◌, ◌≤◌, List, [], ◌∷◌, ◌++◌, length, take, Bool, true, false, if◌then◌else◌, nat_le, ◌&&◌, find, Option, Some, None}
use Rattle.std.specs.List.{list_all}
use Rattle.std.proofs.Common.{sym, subst}
use Rattle.std.proofs.Math.Nat.{le_refl}
use Rattle.std.proofs.lemmas.List.{take_all}
use Rattle.pcp_base.specs.declared.file.FileId.{FileId}
use Rattle.pcp_model.specs.Disk.{Files, Held, Holdings, nothing_held, bytes_of, CrashImage}
use Rattle.pcp_outside.specs.Causes.{shown_count}
use Rattle.pcp_outside.specs.Devices.{comes_before, held_after_append, held_after_sync, cut_to, length_of}
use Rattle.pcp_model.specs.Written.{same_file}
use Rattle.pcp_memory.specs.Contents.{files_of}
use Rattle.pcp_memory.specs.declared.contents.Contents.{Contents}
use Rattle.pcp_memory.specs.declared.memory_disk.DiskChange.{DiskChange}
use Rattle.pcp_memory.specs.declared.memory_disk.DiskChange.TheVariants.{Append, Sync, Cut}
use Rattle.pcp_memory.specs.declared.memory_disk.Asked.{Asked}
use Rattle.pcp_memory.specs.declared.memory_disk.Asked.TheVariants.{Append as AppendOf, Sync as SyncOf, Cut as CutOf}
use Rattle.pcp_memory.specs.declared.plans.Call.{Call}
use Rattle.pcp_memory.specs.declared.plans.Call.TheVariants.{Append as Appending, Sync as Syncing, Cut as Cutting}
use Rattle.pcp_memory.specs.declared.plans.Counts.{Counts}
use Rattle.pcp_memory.specs.declared.plans.Fault.{Fault}
use Rattle.pcp_memory.specs.Plans.{count_of, counted, none_counted, planned}

-- the file that a call is of
abbrev pub file_of : DiskChange → FileId
file_of (Append f _) = f
file_of (Sync f) = f
file_of (Cut f _) = f

-- what that file holds after it
abbrev pub effect : DiskChange → Held → Held
effect (Append _ bytes) h = held_after_append h bytes
effect (Sync _) h = held_after_sync h
effect (Cut _ n) h = cut_to n h

-- what a file holds after a call of it or of another file
abbrev pub held_after_change : FileId → Held → DiskChange → Held
held_after_change file h c = if same_file (file_of c) file then effect c h else h

-- this many bytes are sure, and these are all
pub record IsHeld (h : Held) (sure : ℕ) (bytes : List ℕ) : Type 0 where
  pub sure_bytes : sure ≡ length h.sure
  pub all_bytes : bytes ≡ bytes_of h

-- what a file holds after these calls, in their order
abbrev pub held_from : FileId → Held → List DiskChange → Held
held_from file h [] = h
held_from file h (c ∷ calls) = held_from file (held_after_change file h c) calls

-- what the files of a disk that was empty hold after these calls
abbrev pub held_after : List DiskChange → Holdings
held_after calls = λ file. held_from file nothing_held calls

-- the images of each moment since the t-th call
abbrev pub LeftSince : List DiskChange → ℕ → Files → Type 0
LeftSince calls t c = (k : ℕ) × (t ≤ k) × (k ≤ length calls) × CrashImage (held_after (take k calls)) c

-- the files read as the calls made them
abbrev pub IsKept : Contents → List DiskChange → Type 0
IsKept contents calls = (file : FileId) → files_of contents file ≡ bytes_of (held_after calls file)

-- what a disk in memory shows: the calls that changed its files, the appends, syncs and cuts that were asked for, the
-- numbers of those that are to fail, the calls of each kind that are planned to fail, how many of each kind were asked
-- for, its faults, the volume bytes that reads took, and the file that stands wrapped
pub record DiskState : Type 0 where
  pub calls : List DiskChange
  pub asked : List Asked
  pub fails : List ℕ
  pub plan : List Fault
  pub counts : Counts
  pub faults : ℕ
  pub taken : ℕ
  pub wrapped : Option FileId

-- before any call but those that laid its files
abbrev pub begun : List DiskChange → List ℕ → List Fault → Option FileId → DiskState
begun calls fails plan wrapped = record { calls = calls; asked = []; fails = fails; plan = plan; counts = none_counted; faults = 0; taken = 0; wrapped = wrapped }

-- what is kept of the next call of a kind, where it is planned to fail
abbrev pub fault_of : DiskState → Call → Option ℕ
fault_of d call = planned d.plan call (count_of (counted call d.counts) call)

abbrev pub faults_after : Option ℕ → ℕ → ℕ
faults_after None n = n
faults_after (Some _) n = shown_count (n + 1)

-- after a call that changes no file
abbrev pub looked : Call → DiskState → DiskState
looked call d = record d { counts = counted call d.counts; faults = faults_after (fault_of d call) d.faults }

abbrev pub asked_of : DiskChange → Asked
asked_of (Append f _) = AppendOf f
asked_of (Sync f) = SyncOf f
asked_of (Cut f _) = CutOf f

abbrev pub kind_of : DiskChange → Call
kind_of (Append _ _) = Appending
kind_of (Sync _) = Syncing
kind_of (Cut _ _) = Cutting

-- of an append its first bytes; a sync or a cut is whole
abbrev pub first_part : ℕ → DiskChange → DiskChange
first_part kept (Append f bytes) = Append f (take kept bytes)
first_part kept (Sync f) = Sync f
first_part kept (Cut f n) = Cut f n

-- What a refused call has done: nothing, or, by a plan that keeps some of it, that part.
abbrev pub DoesPart : Option ℕ → DiskChange → List DiskChange → List DiskChange → Type 0
DoesPart None c old new = new ≡ old
DoesPart (Some kept) c old new = (new ≡ old) ⊎ ((0 < kept) × (new ≡ old ++ first_part kept c ∷ []))

-- after a call that was done
abbrev pub done_after : DiskChange → DiskState → DiskState
done_after c d = record d { calls = d.calls ++ c ∷ []; asked = d.asked ++ asked_of c ∷ []; counts = counted (kind_of c) d.counts }

-- A refused call is a fault, and has done what the plan keeps of it, or nothing. It is noted as asked for, unless there
-- was no memory for that.
pub record Refuses (c : DiskChange) (old new : DiskState) : Type 0 where
  pub rest : new ≡ record old { calls = new.calls; asked = new.asked; counts = counted (kind_of c) old.counts; faults = shown_count (old.faults + 1) }
  pub part : DoesPart (fault_of old (kind_of c)) c old.calls new.calls
  pub noted : (new.asked ≡ old.asked ++ asked_of c ∷ []) ⊎ (new.asked ≡ old.asked)

abbrev pub length_or : ℕ → Option (FileId × ℕ) → ℕ
length_or sure None = sure
length_or _ (Some e) = e.1

-- how many bytes of a file a crash keeps: as many as are listed, else the sure ones
abbrev pub kept_length : List (FileId × ℕ) → FileId → ℕ → ℕ
kept_length keep file sure = length_or sure (find (λ (e : FileId × ℕ). same_file e.0 file) keep)

-- those bytes, all sure
abbrev pub kept_of : List (FileId × ℕ) → Holdings → Holdings
kept_of keep held = λ file. record { sure = take (kept_length keep file (length (held file).sure)) (bytes_of (held file)); rest = [] }

-- whether a length lies between a file's sure bytes and its length
abbrev pub is_possible : Holdings → FileId → ℕ → Bool
is_possible held file n = nat_le (length (held file).sure) n && nat_le n (length_of (held file))

-- whether each length listed does
abbrev pub may_keep : List (FileId × ℕ) → Holdings → Bool
may_keep keep held = list_all (λ (e : FileId × ℕ). is_possible held e.0 e.1) keep

-- whether an append, or a sync, of this file was asked for
abbrev pub is_append_of : FileId → Asked → Bool
is_append_of file (AppendOf f) = same_file f file
is_append_of file (SyncOf _) = false
is_append_of file (CutOf _) = false

abbrev pub is_sync_of : FileId → Asked → Bool
is_sync_of file (AppendOf _) = false
is_sync_of file (SyncOf f) = same_file f file
is_sync_of file (CutOf _) = false

-- the first of the files that stand wrapped, with one more
abbrev pub first_wrapped : Option FileId → FileId → Option FileId
first_wrapped None file = Some file
first_wrapped (Some f) file = if comes_before file f then Some file else Some f

-- this moment is one of those since an earlier one
pub counts_now_of : (calls : List DiskChange) (t : ℕ) (c : Files) → t ≤ length calls → CrashImage (held_after calls) c → LeftSince calls t c
counts_now_of calls t c le image = (length calls, le, le_refl (length calls), subst (λ (l : List DiskChange). CrashImage (held_after l) c) (sym (take_all (length calls) calls (le_refl (length calls)))) image)

-- since this moment there is no other
pub only_now_of : (calls : List DiskChange) (c : Files) → LeftSince calls (length calls) c → CrashImage (held_after calls) c
only_now_of calls c (k, past, within, image) = subst (λ (l : List DiskChange). CrashImage (held_after l) c) (take_all k calls past) image
