-- One more call joins the record of a disk in memory.
use Rattle.std.proofs.Common.{◌≡◌, ◌⊎◌, inl, inr, ⊎_elim, ℕ, ◌+◌, ◌<◌, ◌≤◌, Bool, true, false, List, [], ◌∷◌, ◌++◌, length, refl, sym, ◌∙◌, ap, subst, arith, length-append}
use Rattle.std.proofs.lemmas.Bool.{cases_lt}
use Rattle.std.proofs.lemmas.List.{take_all, take-append-le}
use Rattle.std.specs.Prelude.{if◌then◌else◌}
use Rattle.pcp_base.specs.declared.file.FileId.{FileId}
use Rattle.pcp_model.specs.Disk.{Files, Held, nothing_held, bytes_of, CrashImage}
use Rattle.pcp_outside.specs.Devices.{Becomes, Elapses}
use Rattle.pcp_model.specs.Written.{same_file}
use Rattle.pcp_memory.specs.Contents.{files_of, Sets}
use Rattle.pcp_memory.specs.Record.{file_of, effect, held_after_change, held_from, held_after, LeftSince, IsKept}
use Rattle.pcp_memory.specs.declared.contents.Contents.{Contents}
use Rattle.pcp_memory.specs.declared.memory_disk.DiskChange.{DiskChange}
use Rattle.pcp_outside.proofs.Images.{same_file-refl, same_file_is, same_or_other}

-- what a file holds after one call more
pub held_from-push : (file : FileId) (h : Held) (calls : List DiskChange) (c : DiskChange) → held_from file h (calls ++ c ∷ []) ≡ held_after_change file (held_from file h calls) c
held_from-push file h [] c = refl
held_from-push file h (x ∷ calls) c = held_from-push file (held_after_change file h x) calls c

changed_this : (h : Held) (c : DiskChange) → held_after_change (file_of c) h c ≡ effect c h
changed_this h c = ap (λ (b : Bool). if b then effect c h else h) (same_file-refl (file_of c))

changed_other : (file : FileId) (h : Held) (c : DiskChange) → same_file (file_of c) file ≡ false → held_after_change file h c ≡ h
changed_other file h c other = ap (λ (b : Bool). if b then effect c h else h) other

-- what the call's file holds then, and the others
pub becomes_push : (calls later : List DiskChange) (c : DiskChange) → later ≡ calls ++ c ∷ [] → Becomes (file_of c) (effect c (held_after calls (file_of c))) (held_after calls) (held_after later)
becomes_push calls later c is = subst (λ (l : List DiskChange). Becomes (file_of c) (effect c (held_after calls (file_of c))) (held_after calls) (held_after l)) (sym is) record {
  this = held_from-push (file_of c) nothing_held calls c ∙ changed_this (held_after calls (file_of c)) c;
  others = λ g other. held_from-push g nothing_held calls c ∙ changed_other g (held_after calls g) c other;
}

-- the files still read as the calls made them
pub kept_push : (calls later : List DiskChange) (c : DiskChange) (old new : Contents) → IsKept old calls → later ≡ calls ++ c ∷ [] → Sets (file_of c) (bytes_of (effect c (held_after calls (file_of c)))) old new → IsKept new later
kept_push calls later c old new kept is sets = λ g. ⊎_elim
    (λ (e : same_file (file_of c) g ≡ true). subst (λ (f : FileId). files_of new f ≡ bytes_of (held_after later f)) (same_file_is (file_of c) g e) (sets.this ∙ ap bytes_of (sym change.this)))
    (λ (e : same_file (file_of c) g ≡ false). sets.others g e ∙ kept g ∙ ap bytes_of (sym (change.others g e)))
    (same_or_other (file_of c) g)
  where
    change : Becomes (file_of c) (effect c (held_after calls (file_of c))) (held_after calls) (held_after later)
    change = becomes_push calls later c is

-- the same calls, and files that read the same
pub kept_same : (calls later : List DiskChange) (old new : Contents) → IsKept old calls → later ≡ calls → ((g : FileId) → files_of new g ≡ files_of old g) → IsKept new later
kept_same calls later old new kept is same = λ g. same g ∙ kept g ∙ ap (λ (l : List DiskChange). bytes_of (held_after l g)) (sym is)

elapses_one : (calls : List DiskChange) (c : DiskChange) → Elapses (length calls) (length (calls ++ c ∷ [])) (LeftSince calls) (LeftSince (calls ++ c ∷ [])) (held_after (calls ++ c ∷ []))
elapses_one calls c = record {
  later = omega (arith, longer);
  nothing_else = λ t image le left. split t image left;
  keeps = λ t image le left. (left.0, left.1, omega (arith, longer, left.2), subst (λ (l : List DiskChange). CrashImage (held_after l) image) (sym (take-append-le left.0 calls (c ∷ []) left.2)) left.3);
}
  where
    longer : length (calls ++ c ∷ []) ≡ length calls + 1
    longer = length-append calls (c ∷ [])

    split : (t : ℕ) (image : Files) → LeftSince (calls ++ c ∷ []) t image → LeftSince calls t image ⊎ CrashImage (held_after (calls ++ c ∷ [])) image
    split t image (k, past, within, left) = ⊎_elim
        (λ (now : length calls < k). inr (subst (λ (l : List DiskChange). CrashImage (held_after l) image) (take_all k (calls ++ c ∷ []) (omega (arith, longer))) left))
        (λ (was : k ≤ length calls). inl (k, past, was, subst (λ (l : List DiskChange). CrashImage (held_after l) image) (take-append-le k calls (c ∷ []) was) left))
        (cases_lt (length calls) k)

-- time goes on over it
pub elapses_push : (calls later : List DiskChange) (c : DiskChange) → later ≡ calls ++ c ∷ [] → Elapses (length calls) (length later) (LeftSince calls) (LeftSince later) (held_after later)
elapses_push calls later c is = subst (λ (l : List DiskChange). Elapses (length calls) (length l) (LeftSince calls) (LeftSince l) (held_after l)) (sym is) (elapses_one calls c)

-- and where there was no call
pub elapses_same : (calls later : List DiskChange) → later ≡ calls → Elapses (length calls) (length later) (LeftSince calls) (LeftSince later) (held_after later)
elapses_same calls later is = subst (λ (l : List DiskChange). Elapses (length calls) (length l) (LeftSince calls) (LeftSince l) (held_after l)) (sym is) record {
  later = omega arith;
  nothing_else = λ t image le left. inl left;
  keeps = λ t image le left. left;
}
