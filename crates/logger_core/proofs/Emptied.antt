-- The disk while old volumes are emptied.
use Rattle.std.proofs.Common.{◌≡◌, ◌⊎◌, inl, inr, ⊎_elim, ℕ, ◌+◌, ◌-◌, ◌<◌, ◌≤◌, [], length, take, refl, sym, ap, ◌∙◌, subst, arith, length-append}
use Rattle.std.specs.Prelude.{Result, Ok, Err}
use Rattle.std.proofs.Math.Path.{fun_ext}
use Rattle.std.proofs.lemmas.Bool.{cases_lt, ne_eqb}
use Rattle.std.proofs.lemmas.List.{nil_from_length}
use Rattle.pcp_base.specs.declared.file.FileId.{FileId}
use Rattle.pcp_base.specs.declared.file.FileId.TheVariants.{Meta, Index, Volume}
use Rattle.pcp_model.specs.Disk.{CrashImage, Files, Held, Holdings, bytes_of, nothing_held}
use Rattle.pcp_outside.specs.declared.disk.Disk.{Ghosts as DiskGhosts}
use Rattle.pcp_outside.specs.Devices.{Becomes, Cuts, Elapses, LeavesOnly, Survives, cut_to, with_file}
use Rattle.pcp_outside.proofs.Crash.{after_cut, after_look, started}
use Rattle.pcp_outside.proofs.Images.{image_parts, image_whole}
use Rattle.logger_core.specs.Meant.{IsLogger, Kept, Meant}
use Rattle.logger_core.specs.Retiring.{HasRetiredSome, IsRetiring, LeavesSome, MayBeEmptied, held_without, retired}
use Rattle.logger_core.proofs.Ahead.{set_is}
use Rattle.logger_core.proofs.Calls.{run_then}
use Rattle.logger_core.proofs.Retired.{held_gone, held_left, leaves_without, logger_without}

-- ---- one volume

-- a file of no length holds nothing
pub is_nothing : (h : Held) → length (bytes_of h) ≡ 0 → h ≡ nothing_held
is_nothing h none =
    let no_sure : h.sure ≡ [] = nil_from_length h.sure (omega (arith, none, length-append h.sure h.rest)) in
    let no_rest : h.rest ≡ [] = nil_from_length h.rest (omega (arith, none, length-append h.sure h.rest)) in
    ap (λ r. record { sure = h.sure; rest = r }) no_rest ∙ ap (λ s. record { sure = s; rest = [] }) no_sure

-- so does one that was cut to no byte
cut_empty : (h : Held) → cut_to 0 h ≡ nothing_held
cut_empty h = ap (λ n. record { sure = []; rest = take n h.rest }) (let e : 0 - length h.sure ≡ 0 = omega arith in e)

-- it held nothing
pub empty_already : (n : ℕ) (old new : Holdings) → length (bytes_of (old (Volume n))) ≡ 0 → new ≡ old → Becomes (Volume n) nothing_held old new
empty_already n old new none same =
    record { this = ap (λ (x : Holdings). x (Volume n)) same ∙ is_nothing (old (Volume n)) none; others = λ g other. ap (λ (x : Holdings). x g) same }

as_emptied : (n : ℕ) (old mid new : Holdings) → mid ≡ old → Becomes (Volume n) (cut_to 0 (mid (Volume n))) mid new → Becomes (Volume n) nothing_held old new
as_emptied n old mid new same change = record { this = change.this ∙ cut_empty (mid (Volume n)); others = λ g other. change.others g other ∙ ap (λ (x : Holdings). x g) same }

pub now_empty : {T E : Type 0} (n : ℕ) (old mid new : Holdings) (result : Result T E) → mid ≡ old → Cuts (Volume n) 0 mid new result → (new ≡ old) ⊎ Becomes (Volume n) nothing_held old new
now_empty n old mid new (Ok v) same change = inr (as_emptied n old mid new same change)
now_empty n old mid new (Err e) same (inl still) = inl (still ∙ same)
now_empty n old mid new (Err e) same (inr change) = inr (as_emptied n old mid new same change)

pub cut_ok : (n : ℕ) (old mid new : Holdings) → mid ≡ old → Becomes (Volume n) (cut_to 0 (mid (Volume n))) mid new → Becomes (Volume n) nothing_held old new
cut_ok = as_emptied

emptied_image : (n : ℕ) (old new : Holdings) (c : Files) → Becomes (Volume n) nothing_held old new → CrashImage new c → MayBeEmptied n old c
emptied_image n old new c change crash =
    let parts = image_parts (Volume n) nothing_held old new c change crash in inr (image_whole (Volume n) nothing_held old c parts.0 parts.1)

module _ {D : Type 0} (g : DiskGhosts D) (only_now : (disk : D) (c : Files) → g.left_since disk (g.moment disk) c → CrashImage (g.held disk) c) where
  -- it was only looked at
  pub looked_at : (n : ℕ) (old mid : D) → g.held mid ≡ g.held old → Elapses (g.moment old) (g.moment mid) (g.left_since old) (g.left_since mid) (g.held mid) → LeavesOnly g.moment g.left_since old mid (MayBeEmptied n (g.held old))
  looked_at n old mid same time =
      after_look g.moment g.left_since g.held old old mid (MayBeEmptied n (g.held old)) (started g.moment g.left_since g.held only_now old (MayBeEmptied n (g.held old)) (λ c crash. inl crash)) time same (λ c crash. inl crash)

  pub cut_after : {T E : Type 0} (n : ℕ) (old mid new : D) (result : Result T E) → g.held mid ≡ g.held old → Elapses (g.moment old) (g.moment mid) (g.left_since old) (g.left_since mid) (g.held mid)
      → Elapses (g.moment mid) (g.moment new) (g.left_since mid) (g.left_since new) (g.held new) → Cuts (Volume n) 0 (g.held mid) (g.held new) result → LeavesOnly g.moment g.left_since old new (MayBeEmptied n (g.held old))
  cut_after n old mid new result same first second change =
      after_cut g.moment g.left_since g.held old mid new (MayBeEmptied n (g.held old)) (Volume n) 0 result (looked_at n old mid same first) second change
      (λ c crash. inl (subst (λ (h : Holdings). CrashImage h c) same crash))
      (λ cut c crash. emptied_image n (g.held old) (g.held new) c (as_emptied n (g.held old) (g.held mid) (g.held new) same cut) crash)

-- ---- one volume after another

-- nothing of the first so many is held, and no call failed
pub record Emptying {D : Type 0} (g : DiskGhosts D) (below k : ℕ) (old new : D) : Type 0 where
  pub quiet : g.faults new ≡ g.faults old
  pub held : g.tells → (file : FileId) → g.held new file ≡ held_without (g.held old) k file
  pub moments : g.tells → LeavesOnly g.moment g.left_since old new (LeavesSome below (g.held old))

pub held_none : (held : Holdings) (file : FileId) → held file ≡ held_without held 0 file
held_none held Meta = refl
held_none held Index = refl
held_none held (Volume n) = sym (held_left held 0 n (omega arith))

some_image : (old new : Holdings) (below k : ℕ) → k ≤ below → ((file : FileId) → new file ≡ held_without old k file) → (c : Files) → CrashImage new c → LeavesSome below old c
some_image old new below k le is c crash = (k, le, λ file. subst (λ (h : Held). Survives h (c file)) (is file) (crash file))

-- the next one holds nothing too
pub one_more_held : (old mid new : Holdings) (k : ℕ) → ((file : FileId) → mid file ≡ held_without old k file) → Becomes (Volume k) nothing_held mid new → (file : FileId) → new file ≡ held_without old (k + 1) file
one_more_held old mid new k is change Meta = change.others Meta refl ∙ is Meta
one_more_held old mid new k is change Index = change.others Index refl ∙ is Index
one_more_held old mid new k is change (Volume n) = ⊎_elim
    (λ (low : n < k). change.others (Volume n) (ne_eqb k n (λ same. omega (arith, same, low))) ∙ is (Volume n) ∙ held_gone old k n low ∙ sym (held_gone old (k + 1) n (omega (arith, low))))
    (λ (high : k ≤ n). ⊎_elim
    (λ (above : k < n). change.others (Volume n) (ne_eqb k n (λ same. omega (arith, same, above))) ∙ is (Volume n) ∙ held_left old k n high ∙ sym (held_left old (k + 1) n (omega (arith, above))))
    (λ (not_above : n ≤ k).
    let same : k ≡ n = omega (arith, high, not_above) in
    subst (λ (i : ℕ). new (Volume i) ≡ nothing_held) same change.this ∙ sym (held_gone old (k + 1) n (omega (arith, not_above)))) (cases_lt k n))
    (cases_lt n k)

module _ {D : Type 0} (g : DiskGhosts D) (only_now : (disk : D) (c : Files) → g.left_since disk (g.moment disk) c → CrashImage (g.held disk) c) where
  pub none_emptied : (below : ℕ) (disk : D) → Emptying g below 0 disk disk
  none_emptied below disk = record {
    quiet = refl;
    held = λ tells. held_none (g.held disk);
    moments = λ tells. started g.moment g.left_since g.held only_now disk (LeavesSome below (g.held disk)) (some_image (g.held disk) (g.held disk) below 0 (omega arith) (held_none (g.held disk)));
  }

  module _ (below k : ℕ) (low : k < below) (old mid new : D) (e : Emptying g below k old mid) where
    then_some : g.tells → (c : Files) → MayBeEmptied k (g.held mid) c → LeavesSome below (g.held old) c
    then_some tells c (inl crash) = some_image (g.held old) (g.held mid) below k (omega (arith, low)) (e.held tells) c crash
    then_some tells c (inr crash) =
        some_image (g.held old) (with_file (Volume k) nothing_held (g.held mid)) below (k + 1) (omega (arith, low))
        (one_more_held (g.held old) (g.held mid) (with_file (Volume k) nothing_held (g.held mid)) k (e.held tells) (set_is (Volume k) nothing_held (g.held mid))) c crash

    -- what a crash leaves while the next one is emptied
    pub then_moments : g.tells → LeavesOnly g.moment g.left_since mid new (MayBeEmptied k (g.held mid)) → LeavesOnly g.moment g.left_since old new (LeavesSome below (g.held old))
    then_moments tells run = run_then g only_now old mid new (LeavesSome below (g.held old)) (LeavesSome below (g.held old)) (MayBeEmptied k (g.held mid)) (e.moments tells) run (λ c good. good) (then_some tells)

    pub then_failed : g.tells → (g.held new ≡ g.held mid) ⊎ Becomes (Volume k) nothing_held (g.held mid) (g.held new) → HasRetiredSome below (g.held old) (g.held new)
    then_failed tells (inl same) = record { from = k; most = omega (arith, low); is = λ file. ap (λ (x : Holdings). x file) same ∙ e.held tells file }
    then_failed tells (inr change) = record { from = k + 1; most = omega (arith, low); is = one_more_held (g.held old) (g.held mid) (g.held new) k (e.held tells) change }

    pub then_emptied : g.faults new ≡ g.faults mid → (g.tells → Becomes (Volume k) nothing_held (g.held mid) (g.held new)) → (g.tells → LeavesOnly g.moment g.left_since mid new (MayBeEmptied k (g.held mid))) → Emptying g below (k + 1) old new
    then_emptied quiet change run = record {
      quiet = quiet ∙ e.quiet;
      held = λ tells. one_more_held (g.held old) (g.held mid) (g.held new) k (e.held tells) (change tells);
      moments = λ tells. then_moments tells (run tells);
    }

-- ---- as a logger keeps it

module _ (m : Meant) (l : Kept) (held : Holdings) (is : IsLogger m l held) (below : ℕ) where
  pub retires_some : below ≤ l.ends.volume → (image : Files) → LeavesSome below held image → IsRetiring m below held image
  retires_some low image some = leaves_without m l.ends.volume held is.at.stands some.0 (omega (arith, low, some.1)) below some.1 image some.2

  -- before the first
  pub retires_none : (image : Files) → CrashImage held image → IsRetiring m below held image
  retires_none image crash = leaves_without m l.ends.volume held is.at.stands 0 (omega arith) below (omega arith) image (λ file. subst (λ (h : Held). Survives h (image file)) (held_none held file) (crash file))

  pub retires_all : (now : Kept) (new : Holdings) → below ≤ l.ends.volume → now ≡ l → ((file : FileId) → new file ≡ held_without held below file) → IsLogger (retired m below) now new
  retires_all now new low same held_is =
      subst (λ (k : Kept). IsLogger (retired m below) k new) (sym same)
      (subst (λ (h : Holdings). IsLogger (retired m below) l h) (sym (fun_ext held_is)) (logger_without m l held below is low))
