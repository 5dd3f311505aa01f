-- One file more is made sure.
use Rattle.std.proofs.Common.{◌≡◌, ⊎_elim, ℕ, ◌+◌, ◌<◌, ◌≤◌, true, false, [], length, refl, sym, ap, ◌∙◌, subst, arith, length-append}
use Rattle.std.proofs.lemmas.Bool.{cases_lt}
use Rattle.std.proofs.lemmas.List.{nil_from_length}
use Rattle.pcp_base.specs.declared.file.FileId.{FileId}
use Rattle.pcp_base.specs.declared.file.FileId.TheVariants.{Meta, Index, Volume}
use Rattle.pcp_model.specs.Disk.{Files, Held, Holdings, CrashImage, bytes_of}
use Rattle.pcp_model.specs.Written.{same_file}
use Rattle.std.specs.Prelude.{Result, Ok, Err, OnOk}
use Rattle.pcp_outside.specs.declared.disk.Disk.{Ghosts as DiskGhosts}
use Rattle.pcp_outside.specs.Devices.{Becomes, Elapses, IsVolumes, LeavesOnly, Syncs, held_after_sync}
use Rattle.pcp_outside.proofs.Crash.{started, after_look, after_run, after_sync}
use Rattle.pcp_outside.proofs.Images.{same_or_other, same_file_is, bytes-synced, image_sync}
use Rattle.archive_recovery.specs.Syncing.{MadeSure, IsVolumeBelow, IsAny}

pub none_sure : (held : Holdings) → MadeSure (IsVolumeBelow 0) held held
none_sure held = record { bytes = λ file. refl; kept = λ file was. was; sure = none }
  where
    none : (file : FileId) → IsVolumeBelow 0 file → (held file).rest ≡ []
    none Meta below = absurd below
    none Index below = absurd below
    none (Volume k) below = absurd (omega (arith, below))

-- a file that holds nothing is sure
pub empty_synced : (h : Held) → bytes_of h ≡ [] → h ≡ held_after_sync h
empty_synced h none =
    let no_sure : h.sure ≡ [] = nil_from_length h.sure (omega (arith, ap length none, length-append h.sure h.rest)) in
    let no_rest : h.rest ≡ [] = nil_from_length h.rest (omega (arith, ap length none, length-append h.sure h.rest)) in
    ap (λ r. record { sure = h.sure; rest = r }) no_rest ∙ ap (λ s. record { sure = s; rest = [] }) (no_sure ∙ sym none)

module _ (file : FileId) (old mid new : Holdings) (change : Becomes file (held_after_sync (mid file)) mid new) where
  same_bytes : (g : FileId) → bytes_of (new g) ≡ bytes_of (mid g)
  same_bytes g = ⊎_elim
      (λ (e : same_file file g ≡ true). subst (λ (f : FileId). bytes_of (new f) ≡ bytes_of (mid f)) (same_file_is file g e) (ap bytes_of change.this ∙ bytes-synced (mid file)))
      (λ (e : same_file file g ≡ false). ap bytes_of (change.others g e)) (same_or_other file g)

  -- it is sure, and what was sure stays so
  now_sure : (new file).rest ≡ []
  now_sure = ap (λ (h : Held). h.rest) change.this

  still_sure : (g : FileId) → (mid g).rest ≡ [] → (new g).rest ≡ []
  still_sure g was = ⊎_elim
      (λ (e : same_file file g ≡ true). subst (λ (f : FileId). (new f).rest ≡ []) (same_file_is file g e) now_sure)
      (λ (e : same_file file g ≡ false). ap (λ (h : Held). h.rest) (change.others g e) ∙ was) (same_or_other file g)

pub one_more_sure : (n : ℕ) (old mid new : Holdings) → MadeSure (IsVolumeBelow n) old mid → Becomes (Volume n) (held_after_sync (mid (Volume n))) mid new → MadeSure (IsVolumeBelow (n + 1)) old new
one_more_sure n old mid new so_far change = record { bytes = λ file. same_bytes (Volume n) old mid new change file ∙ so_far.bytes file; kept = λ file was. still_sure (Volume n) old mid new change file (so_far.kept file was); sure = sure }
  where
    sure : (file : FileId) → IsVolumeBelow (n + 1) file → (new file).rest ≡ []
    sure Meta below = absurd below
    sure Index below = absurd below
    sure (Volume k) below = ⊎_elim (λ (lt : k < n). still_sure (Volume n) old mid new change (Volume k) (so_far.sure (Volume k) lt))
        (λ (ge : n ≤ k). subst (λ (m : ℕ). (new (Volume m)).rest ≡ []) (let e : n ≡ k = omega (arith, below) in e) (now_sure (Volume n) old mid new change)) (cases_lt k n)

-- Meta, the index and the volumes below the last one: all
pub all_sure_now : (count : ℕ) (old a b new : Holdings) → IsVolumes old count → Becomes Meta (held_after_sync (old Meta)) old a → Becomes Index (held_after_sync (a Index)) a b → MadeSure (IsVolumeBelow count) b new → MadeSure IsAny old new
all_sure_now count old a b new volumes meta index rest = record { bytes = bytes; kept = kept; sure = sure }
  where
    bytes : (file : FileId) → bytes_of (new file) ≡ bytes_of (old file)
    bytes file = rest.bytes file ∙ same_bytes Index old a b index file ∙ same_bytes Meta old old a meta file

    kept : (file : FileId) → (old file).rest ≡ [] → (new file).rest ≡ []
    kept file was = rest.kept file (still_sure Index old a b index file (still_sure Meta old old a meta file was))

    no_rest : (h : Held) → bytes_of h ≡ [] → h.rest ≡ []
    no_rest h none = nil_from_length h.rest (omega (arith, ap length none, length-append h.sure h.rest))

    sure : (file : FileId) → IsAny file → (new file).rest ≡ []
    sure Meta any = rest.kept Meta (still_sure Index old a b index Meta (now_sure Meta old old a meta))
    sure Index any = rest.kept Index (now_sure Index old a b index)
    sure (Volume k) any = ⊎_elim (λ (lt : k < count). rest.sure (Volume k) lt) (λ (ge : count ≤ k). no_rest (new (Volume k)) (bytes (Volume k) ∙ volumes.past k ge)) (cases_lt k count)

-- ---- moments

module _ {D : Type 0} (g : DiskGhosts D) (only_now : (disk : D) (c : Files) → g.left_since disk (g.moment disk) c → CrashImage (g.held disk) c) where
  -- of one call that only looks
  pub looked : (old new : D) → g.held new ≡ g.held old → Elapses (g.moment old) (g.moment new) (g.left_since old) (g.left_since new) (g.held new) → LeavesOnly g.moment g.left_since old new (CrashImage (g.held old))
  looked old new same time = after_look g.moment g.left_since g.held old old new (CrashImage (g.held old)) (started g.moment g.left_since g.held only_now old (CrashImage (g.held old)) (λ c left. left)) time same (λ c left. left)

  -- and then a sync
  pub looked_synced : {T E : Type 0} (old mid new : D) (file : FileId) (result : Result T E) → g.held mid ≡ g.held old → Elapses (g.moment old) (g.moment mid) (g.left_since old) (g.left_since mid) (g.held mid) → Elapses (g.moment mid) (g.moment new) (g.left_since mid) (g.left_since new) (g.held new)
      → Syncs file (g.held mid) (g.held new) result → LeavesOnly g.moment g.left_since old new (CrashImage (g.held old))
  looked_synced old mid new file result same first second held_after_sync =
      after_sync g.moment g.left_since g.held old mid new (CrashImage (g.held old)) file result (looked old mid same first) second held_after_sync (λ c left. subst (λ (h : Holdings). CrashImage h c) same left)

  -- a run behind it, of files that leave no more than before
  pub then_run : (old mid new : D) → LeavesOnly g.moment g.left_since old mid (CrashImage (g.held old)) → LeavesOnly g.moment g.left_since mid new (CrashImage (g.held mid)) → ((c : Files) → CrashImage (g.held mid) c → CrashImage (g.held old) c)
      → LeavesOnly g.moment g.left_since old new (CrashImage (g.held old))
  then_run old mid new first second less = after_run g.moment g.left_since g.held old mid new (CrashImage (g.held old)) (CrashImage (g.held mid)) first second less

-- the same files
pub same_image : (old mid : Holdings) → mid ≡ old → (c : Files) → CrashImage mid c → CrashImage old c
same_image old mid same c left = subst (λ (h : Holdings). CrashImage h c) same left

-- a file synced leaves no more than before
pub sync_image : (file : FileId) (old mid new : Holdings) → Becomes file (held_after_sync (mid file)) mid new → ((c : Files) → CrashImage mid c → CrashImage old c) → (c : Files) → CrashImage new c → CrashImage old c
sync_image file old mid new change before c left = before c (image_sync file mid new c change left)

pub all_sure_after : {E : Type 0} (count : ℕ) (old v a b new : Holdings) (result : Result (Unit {0}) E) → IsVolumes old count → v ≡ old → Becomes Meta (held_after_sync (v Meta)) v a → Becomes Index (held_after_sync (a Index)) a b → OnOk result (MadeSure (IsVolumeBelow count) b new) → OnOk result (MadeSure IsAny old new)
all_sure_after count old v a b new (Ok x) volumes same meta index rest = all_sure_now count old a b new volumes (subst (λ (h : Holdings). Becomes Meta (held_after_sync (h Meta)) h a) same meta) index rest
all_sure_after count old v a b new (Err e) volumes same meta index rest = tt
