-- Faults that are handed on.
use Rattle.std.proofs.Common.{◌≡◌, inl, inr, ⊎_elim, ℕ, ◌<◌, ◌≤◌, Result, sym, subst, arith}
use Rattle.std.specs.Prelude.{IfErr}
use Rattle.std.specs.Result.{IsErrAnd}
use Rattle.std.proofs.lemmas.Result.{err_from_is_err_and}
use Rattle.pcp_outside.specs.declared.disk.Disk.{Ghosts as DiskGhosts}
use Rattle.pcp_outside.specs.Causes.{Rose}
use Rattle.archive_loading.specs.Looks.{Blames}
use Rattle.archive_loading.specs.declared.lack.Lack.{Lack}
use Rattle.archive_loading.specs.declared.lack.Lack.TheVariants.{Disk, Memory}
use Rattle.archive_reader.specs.declared.fault.ReaderFault.{ReaderFault}
use Rattle.archive_reader.specs.declared.fault.ReaderFault.TheVariants.{DiskFault, NoMemory}
use Rattle.archive_reader.specs.Lacks.{of_lack}
use Rattle.archive_check.specs.declared.fault.CheckFault.{CheckFault}
use Rattle.archive_check.specs.declared.fault.CheckFault.TheVariants.{Items, Boundary, Late, Reader}
use Rattle.archive_check.specs.Verdicts.{IsTold}

pub handed : {T E : Type 0} (r : Result T E) (e : E) (P : E → Type 0) → IsErrAnd r (λ y. y ≡ e) → P e → IfErr r P
handed r e P was h = let p = err_from_is_err_and r was in subst (λ x. IfErr x P) (sym p.1) (subst P (sym p.2) h)

inner : (f g : ReaderFault) → Reader f ≡ Reader g → f ≡ g
inner f g e = cc

-- a disk's fault has its cause
pub reader_cause : (f : ReaderFault) (before after : ℕ) → (f ≡ DiskFault → Rose before after) → Reader f ≡ Reader DiskFault → Rose before after
reader_cause f before after cause same = cause (inner f DiskFault same)

-- a cause that comes later
pub rose_later : (a b c : ℕ) → a ≤ b → Rose b c → Rose a c
rose_later a b c le rose = ⊎_elim (λ (lt : b < c). inl (omega (arith, le, lt))) (λ (full : 18446744073709551615 ≤ c). inr full) rose

pub lack_cause : {D : Type 0} (g : DiskGhosts D) (old new : D) (e : Lack) → Blames g old new e → Reader (of_lack e) ≡ Reader DiskFault → Rose (g.faults old) (g.faults new)
lack_cause g old new Disk blames same = blames
lack_cause g old new Memory blames same = absurd (let both : NoMemory ≡ DiskFault = inner NoMemory DiskFault same in cc)

pub told_cause : (f : CheckFault) (before after : ℕ) → IsTold f → f ≡ Reader DiskFault → Rose before after
told_cause (Items a b) before after told same = absurd (let both : Items a b ≡ Reader DiskFault = same in cc)
told_cause (Boundary at file below above) before after told same = absurd (let both : Boundary at file below above ≡ Reader DiskFault = same in cc)
told_cause (Late at stamp) before after told same = absurd (let both : Late at stamp ≡ Reader DiskFault = same in cc)
told_cause (Reader f) before after told same = absurd told
