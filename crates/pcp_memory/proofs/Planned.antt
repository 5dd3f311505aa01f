-- What a refused call of a disk in memory leaves.
use Rattle.std.proofs.Common.{◌≡◌, ◌⊎◌, inl, inr, ℕ, Option, Some, None, List, length, take, refl, sym, ap, subst}
use Rattle.std.proofs.lemmas.List.{append-nil}
use Rattle.pcp_base.specs.declared.file.FileId.{FileId}
use Rattle.pcp_model.specs.Disk.{Held}
use Rattle.pcp_outside.specs.Devices.{Becomes, Elapses, held_after_append, held_after_sync, cut_to}
use Rattle.pcp_memory.specs.Record.{held_after, DoesPart, first_part, LeftSince}
use Rattle.pcp_memory.specs.declared.memory_disk.DiskChange.{DiskChange}
use Rattle.pcp_memory.specs.declared.memory_disk.DiskChange.TheVariants.{Append, Sync, Cut}
use Rattle.pcp_memory.proofs.Moments.{becomes_push, elapses_push, elapses_same}

-- the files as they were
same_held : (calls later : List DiskChange) → later ≡ calls → held_after later ≡ held_after calls
same_held calls later is = ap (λ (l : List DiskChange). held_after l) is

nothing_appended : (calls later : List DiskChange) (file : FileId) (bytes : List ℕ) → later ≡ calls → Becomes file (held_after_append (held_after calls file) (take 0 bytes)) (held_after calls) (held_after later)
nothing_appended calls later file bytes is = subst (λ (l : List DiskChange). Becomes file (held_after_append (held_after calls file) (take 0 bytes)) (held_after calls) (held_after l)) (sym is) record {
  this = ap (λ (l : List ℕ). with_rest l) (sym (append-nil (held_after calls file).rest));
  others = λ g ne. refl;
}
  where
    with_rest : List ℕ → Held
    with_rest l = record { sure = (held_after calls file).sure; rest = l }

pub appends_part : (fault : Option ℕ) (calls later : List DiskChange) (file : FileId) (bytes : List ℕ) → DoesPart fault (Append file bytes) calls later → (n : ℕ) × Becomes file (held_after_append (held_after calls file) (take n bytes)) (held_after calls) (held_after later)
appends_part None calls later file bytes is = (0, nothing_appended calls later file bytes is)
appends_part (Some kept) calls later file bytes (inl is) = (0, nothing_appended calls later file bytes is)
appends_part (Some kept) calls later file bytes (inr part) = (kept, becomes_push calls later (Append file (take kept bytes)) part.1)

pub syncs_part : (fault : Option ℕ) (calls later : List DiskChange) (file : FileId) → DoesPart fault (Sync file) calls later → (held_after later ≡ held_after calls) ⊎ Becomes file (held_after_sync (held_after calls file)) (held_after calls) (held_after later)
syncs_part None calls later file is = inl (same_held calls later is)
syncs_part (Some kept) calls later file (inl is) = inl (same_held calls later is)
syncs_part (Some kept) calls later file (inr part) = inr (becomes_push calls later (Sync file) part.1)

pub cuts_part : (fault : Option ℕ) (calls later : List DiskChange) (file : FileId) (n : ℕ) → DoesPart fault (Cut file n) calls later → (held_after later ≡ held_after calls) ⊎ Becomes file (cut_to n (held_after calls file)) (held_after calls) (held_after later)
cuts_part None calls later file n is = inl (same_held calls later is)
cuts_part (Some kept) calls later file n (inl is) = inl (same_held calls later is)
cuts_part (Some kept) calls later file n (inr part) = inr (becomes_push calls later (Cut file n) part.1)

pub elapses_part : (fault : Option ℕ) (c : DiskChange) (calls later : List DiskChange) → DoesPart fault c calls later → Elapses (length calls) (length later) (LeftSince calls) (LeftSince later) (held_after later)
elapses_part None c calls later is = elapses_same calls later is
elapses_part (Some kept) c calls later (inl is) = elapses_same calls later is
elapses_part (Some kept) c calls later (inr part) = elapses_push calls later (first_part kept c) part.1

-- a call that was turned away before it began has done nothing
pub nothing_done : (fault : Option ℕ) (c : DiskChange) (calls later : List DiskChange) → later ≡ calls → DoesPart fault c calls later
nothing_done None c calls later is = is
nothing_done (Some kept) c calls later is = inl is
