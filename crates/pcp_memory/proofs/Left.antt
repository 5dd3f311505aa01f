-- What a crash leaves of a disk in memory, laid file by file into a new one.
use Rattle.std.proofs.Common.{◌≡◌, ⊎_elim, ℕ, ◌+◌, ◌-◌, ◌<◌, ◌≤◌, Bool, true, false, List, [], ◌∷◌, ◌++◌, length, take, refl, sym, ◌∙◌, ap, subst, arith, length-append}
use Rattle.std.proofs.lemmas.Bool.{and_parts, cases_lt, cases_order, leb-true, le-ltb, lt-ltb, ne_eqb}
use Rattle.std.proofs.lemmas.List.{append-nil, take_all, length-take}
use Rattle.std.specs.Prelude.{◌&&◌, cond, find, nat_le, nat_lt, if◌then◌else◌, Some}
use Rattle.pcp_base.specs.declared.file.FileId.{FileId}
use Rattle.pcp_base.specs.declared.file.FileId.TheVariants.{Meta, Index, Volume}
use Rattle.pcp_model.specs.Disk.{Held, Holdings, CrashImage, nothing_held, empty_disk, bytes_of, contents_of}
use Rattle.pcp_model.specs.Written.{same_file}
use Rattle.pcp_outside.specs.Devices.{Becomes, Survives, held_after_append, held_after_sync}
use Rattle.pcp_memory.specs.Record.{held_after, is_possible, kept_length, kept_of, length_or, may_keep}
use Rattle.pcp_memory.specs.declared.memory_disk.DiskChange.{DiskChange}
use Rattle.pcp_memory.specs.declared.memory_disk.DiskChange.TheVariants.{Append, Sync}
use Rattle.pcp_outside.proofs.Images.{same_file_is, take-append}
use Rattle.pcp_memory.proofs.Moments.{becomes_push}

-- bytes appended to a file that has none, and then a sync
pub becomes_laid : (calls later : List DiskChange) (file : FileId) (bytes : List ℕ) → held_after calls file ≡ nothing_held → later ≡ (calls ++ Append file bytes ∷ []) ++ Sync file ∷ [] → Becomes file (record { sure = bytes; rest = [] }) (held_after calls) (held_after later)
becomes_laid calls later file bytes fresh is = record {
  this = second.this ∙ ap held_after_sync first.this ∙ ap (λ (h : Held). held_after_sync (held_after_append h bytes)) fresh;
  others = λ g ne. second.others g ne ∙ first.others g ne;
}
  where
    mid : List DiskChange
    mid = calls ++ Append file bytes ∷ []

    first : Becomes file (held_after_append (held_after calls file) bytes) (held_after calls) (held_after mid)
    first = becomes_push calls mid (Append file bytes) refl

    second : Becomes file (held_after_sync (held_after mid file)) (held_after mid) (held_after later)
    second = becomes_push mid later (Sync file) is

-- Meta, the index and the volumes below a number hold what is kept, and the others nothing
abbrev pub laid_up_to : ℕ → Holdings → Holdings
laid_up_to n kept Meta = kept Meta
laid_up_to n kept Index = kept Index
laid_up_to n kept (Volume k) = if nat_lt k n then kept (Volume k) else nothing_held

pub laid_two : (kept mid new : Holdings) → Becomes Meta (kept Meta) empty_disk mid → Becomes Index (kept Index) mid new → (g : FileId) → new g ≡ laid_up_to 0 kept g
laid_two kept mid new first second Meta = second.others Meta refl ∙ first.this
laid_two kept mid new first second Index = second.this
laid_two kept mid new first second (Volume k) = second.others (Volume k) refl ∙ first.others (Volume k) refl ∙ sym (ap (λ (b : Bool). if b then kept (Volume k) else nothing_held) (le-ltb k 0 (omega arith)))

pub fresh_volume : (n : ℕ) (kept old : Holdings) → ((g : FileId) → old g ≡ laid_up_to n kept g) → old (Volume n) ≡ nothing_held
fresh_volume n kept old so_far = so_far (Volume n) ∙ ap (λ (b : Bool). if b then kept (Volume n) else nothing_held) (le-ltb n n (omega arith))

pub laid_more : (n : ℕ) (kept old new : Holdings) → ((g : FileId) → old g ≡ laid_up_to n kept g) → Becomes (Volume n) (kept (Volume n)) old new → (g : FileId) → new g ≡ laid_up_to (n + 1) kept g
laid_more n kept old new so_far step Meta = step.others Meta refl ∙ so_far Meta
laid_more n kept old new so_far step Index = step.others Index refl ∙ so_far Index
laid_more n kept old new so_far step (Volume k) = ⊎_elim this (⊎_elim below above) (cases_order k n)
  where
    chosen : ℕ → Bool → Held
    chosen j b = if b then kept (Volume j) else nothing_held

    this : k ≡ n → new (Volume k) ≡ laid_up_to (n + 1) kept (Volume k)
    this e = subst (λ (j : ℕ). new (Volume j) ≡ laid_up_to (n + 1) kept (Volume j)) (sym e) (step.this ∙ sym (ap (chosen n) (lt-ltb n (n + 1) (omega arith))))

    below : k < n → new (Volume k) ≡ laid_up_to (n + 1) kept (Volume k)
    below lt = step.others (Volume k) (ne_eqb n k (λ e. omega (arith, lt, e))) ∙ so_far (Volume k) ∙ ap (chosen k) (lt-ltb k n lt) ∙ sym (ap (chosen k) (lt-ltb k (n + 1) (omega arith)))

    above : n < k → new (Volume k) ≡ laid_up_to (n + 1) kept (Volume k)
    above lt = step.others (Volume k) (ne_eqb n k (λ e. omega (arith, lt, e))) ∙ so_far (Volume k) ∙ ap (chosen k) (le-ltb k n (omega arith)) ∙ sym (ap (chosen k) (le-ltb k (n + 1) (omega arith)))

pub laid_all : (n : ℕ) (kept new : Holdings) → ((g : FileId) → new g ≡ laid_up_to n kept g) → ((k : ℕ) → n ≤ k → kept (Volume k) ≡ nothing_held) → (g : FileId) → new g ≡ kept g
laid_all n kept new laid past Meta = laid Meta
laid_all n kept new laid past Index = laid Index
laid_all n kept new laid past (Volume k) = ⊎_elim
    (λ (lt : k < n). laid (Volume k) ∙ ap (λ (b : Bool). if b then kept (Volume k) else nothing_held) (lt-ltb k n lt))
    (λ (le : n ≤ k). laid (Volume k) ∙ ap (λ (b : Bool). if b then kept (Volume k) else nothing_held) (le-ltb k n le) ∙ sym (past k le))
    (cases_lt k n)

-- of an empty file nothing is kept
pub kept_nothing : (keep : List (FileId × ℕ)) (held : Holdings) (file : FileId) → bytes_of (held file) ≡ [] → kept_of keep held file ≡ nothing_held
kept_nothing keep held file none = ap (λ (l : List ℕ). all_sure (take (count keep) l)) none ∙ ap all_sure (take_all {A = ℕ} (count keep) [] (omega arith))
  where
    all_sure : List ℕ → Held
    all_sure l = record { sure = l; rest = [] }

    count : List (FileId × ℕ) → ℕ
    count keep = kept_length keep file (length (held file).sure)

-- a length between the sure bytes and all of them
pub record Lies (h : Held) (n : ℕ) : Type 0 where
  pub above : length h.sure ≤ n
  pub below : n ≤ length (bytes_of h)

possible_lies : (h : Held) (n : ℕ) → (nat_le (length h.sure) n && nat_le n (length (bytes_of h))) ≡ true → Lies h n
possible_lies h n is =
    let parts = and_parts (nat_le (length h.sure) n) (nat_le n (length (bytes_of h))) is in
    record { above = leb-true (length h.sure) n parts.0; below = leb-true n (length (bytes_of h)) parts.1 }

sure_lies : (h : Held) → Lies h (length h.sure)
sure_lies h = record { above = omega arith; below = omega (arith, length-append h.sure h.rest) }

first_listed : (e : FileId × ℕ) (keep : List (FileId × ℕ)) (held : Holdings) (file : FileId) (b : Bool) → same_file e.0 file ≡ b → Lies (held e.0) e.1 → Lies (held file) (kept_length keep file (length (held file).sure)) → Lies (held file) (kept_length (e ∷ keep) file (length (held file).sure))
first_listed e keep held file true is this rest =
    subst (λ (n : ℕ). Lies (held file) n) (sym (ap (λ (b : Bool). length_or (length (held file).sure) (cond b (Some e) (find (λ (x : FileId × ℕ). same_file x.0 file) keep))) is)) (
    subst (λ (f : FileId). Lies (held f) e.1) (same_file_is e.0 file is) this)
first_listed e keep held file false is this rest =
    subst (λ (n : ℕ). Lies (held file) n) (sym (ap (λ (b : Bool). length_or (length (held file).sure) (cond b (Some e) (find (λ (x : FileId × ℕ). same_file x.0 file) keep))) is)) rest

-- so does what is kept of each file
pub kept_lies : (keep : List (FileId × ℕ)) (held : Holdings) (file : FileId) → may_keep keep held ≡ true → Lies (held file) (kept_length keep file (length (held file).sure))
kept_lies [] held file may = sure_lies (held file)
kept_lies (e ∷ keep) held file may =
    let parts = and_parts (is_possible held e.0 e.1) (may_keep keep held) may in
    first_listed e keep held file (same_file e.0 file) refl (possible_lies (held e.0) e.1 parts.0) (kept_lies keep held file parts.1)

-- and so a crash may leave it
pub image_kept : (keep : List (FileId × ℕ)) (held laid : Holdings) → may_keep keep held ≡ true → ((file : FileId) → laid file ≡ kept_of keep held file) → CrashImage held (contents_of laid)
image_kept keep held laid may is = λ file. subst (λ (h : Held). Survives (held file) (bytes_of h)) (sym (is file)) (one (held file) (kept_length keep file (length (held file).sure)) (kept_lies keep held file may))
  where
    one : (h : Held) (n : ℕ) → Lies h n → Survives h (bytes_of (record { sure = take n (bytes_of h); rest = [] }))
    one h n lies = (
      n - length h.sure,
      append-nil (take n (bytes_of h)) ∙ take-append n h.sure h.rest ∙ ap (λ (l : List ℕ). l ++ take (n - length h.sure) h.rest) (take_all n h.sure lies.above),
    )

-- the bytes that are kept are there
pub kept_fits : (h : Held) (n count : ℕ) (slice : List ℕ) → slice ≡ bytes_of h → count ≡ n → Lies h n → count ≡ length (take count slice)
kept_fits h n count slice same is lies =
    let long : length slice ≡ length (bytes_of h) = ap length same in
    sym (length-take count slice ∙ (omega (arith, long, is, lies.below)))

-- and stand in the image then
pub becomes_kept : (keep : List (FileId × ℕ)) (held : Holdings) (file : FileId) (calls later : List DiskChange) (count : ℕ) (slice : List ℕ) → slice ≡ bytes_of (held file) → count ≡ kept_length keep file (length (held file).sure) → held_after calls file ≡ nothing_held → later ≡ (calls ++ Append file (take count slice) ∷ []) ++ Sync file ∷ [] → Becomes file (kept_of keep held file) (held_after calls) (held_after later)
becomes_kept keep held file calls later count slice same is fresh laid =
    subst (λ (l : List ℕ). Becomes file (record { sure = l; rest = [] }) (held_after calls) (held_after later)) (ap (λ (k : ℕ). take k slice) is ∙ ap (take (kept_length keep file (length (held file).sure))) same)
    (becomes_laid calls later file (take count slice) fresh laid)
