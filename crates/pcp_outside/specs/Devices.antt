-- What the calls of a disk do to what its files hold, and what a crash may leave at each moment.
use Rattle.std.specs.Prelude.{◌≡◌, ◌⊎◌, ℕ, ◌+◌, ◌-◌, ◌<◌, ◌≤◌, List, [], ◌++◌, length, take, Bool, true, false, nat_lt, if◌then◌else◌, Result, Ok, Err}
use Rattle.pcp_base.specs.declared.file.FileId.{FileId}
use Rattle.pcp_base.specs.declared.file.FileId.TheVariants.{Meta, Index, Volume}
use Rattle.pcp_model.specs.Disk.{Files, Held, Holdings, bytes_of, CrashImage}
use Rattle.pcp_model.specs.Written.{same_file}
use Rattle.pcp_outside.specs.Causes.{shown_count}

-- a volume's number is below 2^32 - 1
abbrev pub IsNumbered : FileId → Type 0
IsNumbered (Volume k) = k < 4294967295
IsNumbered Meta = Unit {0}
IsNumbered Index = Unit {0}

-- Meta, Index, and then the volumes upwards
abbrev pub comes_before : FileId → FileId → Bool
comes_before Meta Meta = false
comes_before Meta _ = true
comes_before Index (Volume _) = true
comes_before (Volume k) (Volume j) = nat_lt k j
comes_before _ _ = false

-- one file holds this now, and the others what they held
pub record Becomes (file : FileId) (h : Held) (old new : Holdings) : Type 0 where
  pub this : new file ≡ h
  pub others : (g : FileId) → same_file file g ≡ false → new g ≡ old g

-- bytes behind a file's end, not yet sure
abbrev pub held_after_append : Held → List ℕ → Held
held_after_append h bytes = record { sure = h.sure; rest = h.rest ++ bytes }

-- all bytes sure
abbrev pub held_after_sync : Held → Held
held_after_sync h = record { sure = bytes_of h; rest = [] }

-- bytes behind a file's end, and all of them sure
abbrev pub made_sure : Held → List ℕ → Held
made_sure h bytes = record { sure = bytes_of h ++ bytes; rest = [] }

-- The first n bytes. A cut makes none of them sure that wasn't.
abbrev pub cut_to : ℕ → Held → Held
cut_to n h = record { sure = take n h.sure; rest = take (n - length h.sure) h.rest }

-- these holdings but for one file
abbrev pub with_file : FileId → Held → Holdings → Holdings
with_file file h held = λ g. if same_file file g then h else held g

-- the holdings with bytes behind a file's end, not yet sure: their crash images are those of every moment of an append and a sync
abbrev pub holdings_after_append : FileId → List ℕ → Holdings → Holdings
holdings_after_append file bytes held = with_file file (held_after_append (held file) bytes) held

-- what a crash may leave of one file: its sure bytes and any beginning of the rest
abbrev pub Survives : Held → List ℕ → Type 0
Survives h bytes = (n : ℕ) × (bytes ≡ h.sure ++ take n h.rest)

-- what `append` does: all the bytes, or where it failed some front of them
abbrev pub Appends : {T E : Type 0} → FileId → List ℕ → Holdings → Holdings → Result T E → Type 0
Appends file bytes old new (Ok _) = Becomes file (held_after_append (old file) bytes) old new
Appends file bytes old new (Err _) = (n : ℕ) × Becomes file (held_after_append (old file) (take n bytes)) old new

-- what `sync` does: one that failed has happened or not
abbrev pub Syncs : {T E : Type 0} → FileId → Holdings → Holdings → Result T E → Type 0
Syncs file old new (Ok _) = Becomes file (held_after_sync (old file)) old new
Syncs file old new (Err _) = (new ≡ old) ⊎ Becomes file (held_after_sync (old file)) old new

-- what `cut` does: one that failed has happened or not
abbrev pub Cuts : {T E : Type 0} → FileId → ℕ → Holdings → Holdings → Result T E → Type 0
Cuts file n old new (Ok _) = Becomes file (cut_to n (old file)) old new
Cuts file n old new (Err _) = (new ≡ old) ⊎ Becomes file (cut_to n (old file)) old new

-- an append and a sync together; one that failed has appended a front of the bytes, and made the file sure or not
abbrev pub AppendsSure : {T E : Type 0} → FileId → List ℕ → Holdings → Holdings → Result T E → Type 0
AppendsSure file bytes old new (Ok _) = Becomes file (made_sure (old file) bytes) old new
AppendsSure file bytes old new (Err _) = (n : ℕ) × (Becomes file (held_after_append (old file) (take n bytes)) old new ⊎ Becomes file (made_sure (old file) (take n bytes)) old new)

-- the length of a file's bytes
abbrev pub length_of : Held → ℕ
length_of h = length (bytes_of h)

-- One more than the greatest number of a volume that isn't empty, or 0 where all are.
pub record IsVolumes (held : Holdings) (n : ℕ) : Type 0 where
  pub last : (k : ℕ) → n ≡ k + 1 → bytes_of (held (Volume k)) ≡ [] → ⊥
  pub past : (k : ℕ) → n ≤ k → bytes_of (held (Volume k)) ≡ []

-- the volume bytes taken by reads so far, as a count in 64 bits shows them
abbrev pub taken_after : FileId → ℕ → ℕ → ℕ
taken_after (Volume _) n before = shown_count (before + n)
taken_after Meta n before = before
taken_after Index n before = before

-- what `read` counts
abbrev pub Counts : {T E : Type 0} → FileId → ℕ → ℕ → ℕ → Result T E → Type 0
Counts file n before after (Ok _) = after ≡ taken_after file n before
Counts file n before after (Err _) = after ≡ before

-- Time goes on: a crash since t might have left what it might have left before, or what it may leave now.
pub record Elapses (before now : ℕ) (past since : ℕ → Files → Type 0) (held : Holdings) : Type 0 where
  pub later : before ≤ now
  pub nothing_else : (t : ℕ) (c : Files) → t ≤ before → since t c → past t c ⊎ CrashImage held c
  pub keeps : (t : ℕ) (c : Files) → t ≤ before → past t c → since t c

-- A crash at any moment since old leaves files that have P.
pub record LeavesOnly {D : Type 0} (moment : D → ℕ) (left_since : D → ℕ → Files → Type 0) (old new : D) (P : Files → Type 0) : Type 0 where
  pub later : moment old ≤ moment new
  pub each : (c : Files) → left_since new (moment old) c → P c
  -- for a run that began earlier
  pub before : (t : ℕ) (c : Files) → t ≤ moment old → left_since new t c → left_since old t c ⊎ P c
