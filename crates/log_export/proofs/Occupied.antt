-- Which file stands first.
use Rattle.std.proofs.Common.{◌≡◌, ⊎_elim, ℕ, ◌+◌, ◌<◌, ◌≤◌, List, [], length, arith, subst}
use Rattle.std.proofs.lemmas.Bool.{cases_lt}
use Rattle.std.proofs.lemmas.List.{nil_from_length}
use Rattle.pcp_base.specs.declared.file.FileId.TheVariants.{Meta, Index, Volume}
use Rattle.pcp_model.specs.Disk.{Files, Holdings, IsEmpty, contents_of}
use Rattle.pcp_outside.specs.Causes.{shown_count}
use Rattle.pcp_outside.specs.Devices.{IsVolumes}

pub no_byte : (bytes : List ℕ) (n : ℕ) → n ≡ shown_count (length bytes) → (0 < n → ⊥) → bytes ≡ []
no_byte bytes n shown none = nil_from_length bytes (⊎_elim (λ (some : 0 < length bytes). absurd (none (omega (arith, shown, some)))) (λ (le : length bytes ≤ 0). omega (arith, le)) (cases_lt 0 (length bytes)))

pub some_byte : (bytes : List ℕ) (n : ℕ) → n ≡ shown_count (length bytes) → 0 < n → 0 < length bytes
some_byte bytes n shown some = omega (arith, shown, some)

pub one_more_empty : (files : Files) (n : ℕ) → ((k : ℕ) → k < n → files (Volume k) ≡ []) → files (Volume n) ≡ [] → (k : ℕ) → k < n + 1 → files (Volume k) ≡ []
one_more_empty files n below this k lt = ⊎_elim (λ (l : k < n). below k l) (λ (ge : n ≤ k). subst (λ m. files (Volume m) ≡ []) (let e : n ≡ k = omega (arith, ge, lt) in e) this) (cases_lt k n)

pub all_volumes_empty : (held : Holdings) (count : ℕ) → IsVolumes held count → ((k : ℕ) → k < count → contents_of held (Volume k) ≡ []) → (k : ℕ) → contents_of held (Volume k) ≡ []
all_volumes_empty held count v below k = ⊎_elim (λ (lt : k < count). below k lt) (λ (ge : count ≤ k). v.past k ge) (cases_lt k count)

pub all_empty : (files : Files) → files Meta ≡ [] → files Index ≡ [] → ((k : ℕ) → files (Volume k) ≡ []) → IsEmpty files
all_empty files meta index volumes Meta = meta
all_empty files meta index volumes Index = index
all_empty files meta index volumes (Volume k) = volumes k
