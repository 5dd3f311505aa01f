-- What a crash leaves of files that a call of a disk has changed, by what it left of them before.
use Rattle.std.proofs.Common.{◌≡◌, ◌⊎◌, inl, inr, ⊎_elim, ℕ, ◌+◌, ◌-◌, ◌<◌, ◌≤◌, min, Bool, true, false, List, [], ◌++◌, length, take, refl, sym, ◌∙◌, ap, subst, arith, append_assoc, Result, Ok, Err}
use Rattle.std.proofs.lemmas.Bool.{cases_lt, eqb-true, eq-eqb}
use Rattle.std.proofs.lemmas.List.{append-nil, take_all, take-append-le, length-take, take-take as shorter}
use Rattle.std.proofs.Math.Seq.{take-append-add}
use Rattle.std.specs.Prelude.{if◌then◌else◌}
use Rattle.pcp_base.specs.declared.file.FileId.{FileId}
use Rattle.pcp_base.specs.declared.file.FileId.TheVariants.{Meta, Index, Volume}
use Rattle.pcp_model.specs.Disk.{Files, Held, Holdings, bytes_of, contents_of, CrashImage}
use Rattle.pcp_outside.specs.Devices.{Becomes, held_after_append, held_after_sync, made_sure, cut_to, with_file, holdings_after_append, Syncs, AppendsSure, Survives}
use Rattle.pcp_model.specs.Written.{same_file}

-- one file tested against itself, and against another
pub same_file-refl : (f : FileId) → same_file f f ≡ true
same_file-refl Meta = refl
same_file-refl Index = refl
same_file-refl (Volume k) = eq-eqb k k refl

pub same_file_is : (f g : FileId) → same_file f g ≡ true → f ≡ g
same_file_is Meta Meta e = refl
same_file_is Index Index e = refl
same_file_is (Volume k) (Volume j) e = ap (λ (n : ℕ). Volume n) (eqb-true k j e)
same_file_is Meta Index e = cc
same_file_is Meta (Volume j) e = cc
same_file_is Index Meta e = cc
same_file_is Index (Volume j) e = cc
same_file_is (Volume k) Meta e = cc
same_file_is (Volume k) Index e = cc

-- a file is the one, or another
pub same_or_other : (f g : FileId) → (same_file f g ≡ true) ⊎ (same_file f g ≡ false)
same_or_other f g = by_test (same_file f g) refl
  where
    by_test : (b : Bool) → same_file f g ≡ b → (same_file f g ≡ true) ⊎ (same_file f g ≡ false)
    by_test true e = inl e
    by_test false e = inr e

-- what two changes of one file come to
pub becomes_then : (file : FileId) (h k : Held) (a b c : Holdings) → Becomes file h a b → Becomes file k b c → Becomes file k a c
becomes_then file h k a b c first second = record { this = second.this; others = λ g ne. second.others g ne ∙ first.others g ne }

-- the bytes of a file after each kind of call
pub bytes-appended : (h : Held) (bytes : List ℕ) → bytes_of (held_after_append h bytes) ≡ bytes_of h ++ bytes
bytes-appended h bytes = sym (append_assoc h.sure h.rest bytes)

pub bytes-synced : (h : Held) → bytes_of (held_after_sync h) ≡ bytes_of h
bytes-synced h = append-nil (bytes_of h)

pub bytes-made_sure : (h : Held) (bytes : List ℕ) → bytes_of (made_sure h bytes) ≡ bytes_of h ++ bytes
bytes-made_sure h bytes = append-nil (bytes_of h ++ bytes)

pub take-append : (n : ℕ) (xs ys : List ℕ) → take n (xs ++ ys) ≡ take n xs ++ take (n - length xs) ys
take-append n xs ys = ⊎_elim short long (cases_lt n (length xs))
  where
    short : n < length xs → take n (xs ++ ys) ≡ take n xs ++ take (n - length xs) ys
    short lt =
        let none : n - length xs ≡ 0 = omega arith in
        take-append-le n xs ys (omega arith) ∙ sym (append-nil (take n xs)) ∙ ap (λ (k : ℕ). take n xs ++ take k ys) (sym none)

    long : length xs ≤ n → take n (xs ++ ys) ≡ take n xs ++ take (n - length xs) ys
    long le =
        let whole : n ≡ length xs + (n - length xs) = omega arith in
        ap (λ (k : ℕ). take k (xs ++ ys)) whole ∙ take-append-add xs ys (n - length xs) ∙ ap (λ (l : List ℕ). l ++ take (n - length xs) ys) (sym (take_all n xs le))

pub bytes-cut_to : (n : ℕ) (h : Held) → bytes_of (cut_to n h) ≡ take n (bytes_of h)
bytes-cut_to n h = sym (take-append n h.sure h.rest)

-- appended and then synced
pub synced-appended : (h : Held) (bytes : List ℕ) → held_after_sync (held_after_append h bytes) ≡ made_sure h bytes
synced-appended h bytes = ap (λ (l : List ℕ). record_of l) (bytes-appended h bytes)
  where
    record_of : List ℕ → Held
    record_of l = record { sure = l; rest = [] }

pub take-take : (m n : ℕ) (l : List ℕ) → take m (take n l) ≡ take (min m n) l
take-take m n l = ⊎_elim less more (cases_lt m n)
  where
    less : m < n → take m (take n l) ≡ take (min m n) l
    less lt = let is : min m n ≡ m = omega arith in shorter m n l (omega arith) ∙ ap (λ (k : ℕ). take k l) (sym is)

    more : n ≤ m → take m (take n l) ≡ take (min m n) l
    more le =
        let is : min m n ≡ n = omega arith in
        take_all m (take n l) (omega (arith, length-take n l)) ∙ ap (λ (k : ℕ). take k l) (sym is)

-- ---- one file

-- what it reads as
pub survives_now : (h : Held) → Survives h (bytes_of h)
survives_now h = (length h.rest, ap (λ (l : List ℕ). h.sure ++ l) (sym (take_all (length h.rest) h.rest (omega arith))))

-- some first bytes, the sure ones among them
pub survives_front : (h : Held) (bytes : List ℕ) → Survives h bytes → (n : ℕ) × (length h.sure ≤ n) × (bytes ≡ take n (bytes_of h))
survives_front h bytes (n, is) = (length h.sure + n, omega arith, is ∙ sym (take-append-add h.sure h.rest n))

-- nothing but the sure bytes where there are no others
pub survives_sure : (h : Held) (bytes : List ℕ) → h.rest ≡ [] → Survives h bytes → bytes ≡ h.sure
survives_sure h bytes none (n, is) = is ∙ ap (λ (l : List ℕ). h.sure ++ take n l) none ∙ ap (λ (l : List ℕ). h.sure ++ l) (take_all {A = ℕ} n [] (omega arith)) ∙ append-nil h.sure

-- with a front of the bytes behind it, then with all of them
pub survives_append : (h : Held) (n : ℕ) (more bytes : List ℕ) → Survives (held_after_append h (take n more)) bytes → Survives (held_after_append h more) bytes
survives_append h n more bytes (m, is) = (
  min m (length h.rest + n),
  is
      ∙ ap (λ (l : List ℕ). h.sure ++ take m l) (sym (take-append-add h.rest more n))
      ∙ ap (λ (l : List ℕ). h.sure ++ l) (take-take m (length h.rest + n) (h.rest ++ more)),
)

-- without bytes behind it, then with them
pub survives_before : (h : Held) (more bytes : List ℕ) → Survives h bytes → Survives (held_after_append h more) bytes
survives_before h more bytes (m, is) = (
  min m (length h.rest),
  is ∙ ap (λ (l : List ℕ). h.sure ++ l) (
      ap (take m) (sym (take_all (length h.rest) h.rest (omega arith)))
      ∙ take-take m (length h.rest) h.rest
      ∙ sym (take-append-le (min m (length h.rest)) h.rest more (omega arith))
      ),
)

-- after a sync, then before it
pub survives_sync : (h : Held) (bytes : List ℕ) → Survives (held_after_sync h) bytes → Survives h bytes
survives_sync h bytes (m, is) = subst (Survives h) (sym (survives_sure (held_after_sync h) bytes refl (m, is))) (survives_now h)

-- a front of the bytes behind it and sure, then all of them behind it
pub survives_made_sure : (h : Held) (n : ℕ) (more bytes : List ℕ) → Survives (made_sure h (take n more)) bytes → Survives (held_after_append h more) bytes
survives_made_sure h n more bytes left = survives_append h n more bytes (survives_sync (held_after_append h (take n more)) bytes (subst (λ (k : Held). Survives k bytes) (sym (synced-appended h (take n more))) left))

-- after a cut: what was left before it, cut
pub survives_cut : (h : Held) (n : ℕ) (bytes : List ℕ) → Survives (cut_to n h) bytes → (before : List ℕ) × Survives h before × (bytes ≡ take n before)
survives_cut h n bytes (m, is) = (
  h.sure ++ take m h.rest,
  (m, refl),
  is
      ∙ ap (λ (l : List ℕ). take n h.sure ++ l) (take-swap m (n - length h.sure) h.rest)
      ∙ sym (take-append n h.sure (take m h.rest)),
)
  where
    take-swap : (a b : ℕ) (l : List ℕ) → take a (take b l) ≡ take b (take a l)
    take-swap a b l = let same : min a b ≡ min b a = omega arith in take-take a b l ∙ ap (λ (k : ℕ). take k l) same ∙ sym (take-take b a l)

-- ---- all files

-- what the files read as
pub image_now : (held : Holdings) → CrashImage held (contents_of held)
image_now held = λ file. survives_now (held file)

-- what is left of the file that a call changed, and of the others
pub image_parts : (file : FileId) (h : Held) (old new : Holdings) (c : Files) → Becomes file h old new → CrashImage new c → Survives h (c file) × ((g : FileId) → same_file file g ≡ false → Survives (old g) (c g))
image_parts file h old new c change left = (
  subst (λ (k : Held). Survives k (c file)) change.this (left file),
  λ g ne. subst (λ (k : Held). Survives k (c g)) (change.others g ne) (left g),
)

pub image_whole : (file : FileId) (h : Held) (held : Holdings) (c : Files) → Survives h (c file) → ((g : FileId) → same_file file g ≡ false → Survives (held g) (c g)) → CrashImage (with_file file h held) c
image_whole file h held c this others = λ g. ⊎_elim
    (λ (e : same_file file g ≡ true). subst (λ (b : Bool). Survives (if b then h else held g) (c g)) (sym e) (subst (λ (f : FileId). Survives h (c f)) (same_file_is file g e) this))
    (λ (e : same_file file g ≡ false). subst (λ (b : Bool). Survives (if b then h else held g) (c g)) (sym e) (others g e))
    (same_or_other file g)

-- a file of the holdings that are left alone
pub image_same : (file : FileId) (held : Holdings) (c : Files) → Survives (held file) (c file) → ((g : FileId) → same_file file g ≡ false → Survives (held g) (c g)) → CrashImage held c
image_same file held c this others = λ g. ⊎_elim
    (λ (e : same_file file g ≡ true). subst (λ (f : FileId). Survives (held f) (c f)) (same_file_is file g e) this)
    (λ (e : same_file file g ≡ false). others g e)
    (same_or_other file g)

-- before an append
pub image_before : (file : FileId) (bytes : List ℕ) (held : Holdings) (c : Files) → CrashImage held c → CrashImage (holdings_after_append file bytes held) c
image_before file bytes held c left = image_whole file (held_after_append (held file) bytes) held c (survives_before (held file) bytes (c file) (left file)) (λ g ne. left g)

-- after an append of some front of the bytes
pub image_append : (file : FileId) (n : ℕ) (bytes : List ℕ) (old new : Holdings) (c : Files) → Becomes file (held_after_append (old file) (take n bytes)) old new → CrashImage new c → CrashImage (holdings_after_append file bytes old) c
image_append file n bytes old new c change left =
    let parts = image_parts file (held_after_append (old file) (take n bytes)) old new c change left in
    image_whole file (held_after_append (old file) bytes) old c (survives_append (old file) n bytes (c file) parts.0) parts.1

-- after an append and a sync
pub image_made_sure : (file : FileId) (n : ℕ) (bytes : List ℕ) (old new : Holdings) (c : Files) → Becomes file (made_sure (old file) (take n bytes)) old new → CrashImage new c → CrashImage (holdings_after_append file bytes old) c
image_made_sure file n bytes old new c change left =
    let parts = image_parts file (made_sure (old file) (take n bytes)) old new c change left in
    image_whole file (held_after_append (old file) bytes) old c (survives_made_sure (old file) n bytes (c file) parts.0) parts.1

-- after a sync
pub image_sync : (file : FileId) (old new : Holdings) (c : Files) → Becomes file (held_after_sync (old file)) old new → CrashImage new c → CrashImage old c
image_sync file old new c change left =
    let parts = image_parts file (held_after_sync (old file)) old new c change left in
    image_same file old c (survives_sync (old file) (c file) parts.0) parts.1

-- after a cut: an image of before it, with the file cut
pub image_cut : (file : FileId) (n : ℕ) (old new : Holdings) (c : Files) → Becomes file (cut_to n (old file)) old new → CrashImage new c → (d : Files) × CrashImage old d × (c file ≡ take n (d file)) × ((g : FileId) → same_file file g ≡ false → c g ≡ d g)
image_cut file n old new c change left =
    let parts = image_parts file (cut_to n (old file)) old new c change left in
    let was = survives_cut (old file) n (c file) parts.0 in
    let d : Files = λ g. if same_file file g then was.0 else c g in
    let this : d file ≡ was.0 = ap (λ (b : Bool). if b then was.0 else c file) (same_file-refl file) in
    let others : (g : FileId) → same_file file g ≡ false → d g ≡ c g = λ g ne. ap (λ (b : Bool). if b then was.0 else c g) ne in (
      d,
      image_same file old d (subst (Survives (old file)) (sym this) was.1) (λ g ne. subst (Survives (old g)) (sym (others g ne)) (parts.1 g ne)),
      was.2 ∙ ap (take n) (sym this),
      λ g ne. sym (others g ne),
    )

-- of each file some first bytes, the sure ones among them
pub image_front : (held : Holdings) (c : Files) (file : FileId) → CrashImage held c → (n : ℕ) × (length (held file).sure ≤ n) × (c file ≡ take n (bytes_of (held file)))
image_front held c file left = survives_front (held file) (c file) (left file)

-- of a file that is sure all its bytes
pub image_sure : (held : Holdings) (c : Files) (file : FileId) → (held file).rest ≡ [] → CrashImage held c → c file ≡ (held file).sure
image_sure held c file none left = survives_sure (held file) (c file) none (left file)

-- all of the bytes are a front of them
pub becomes_whole : (file : FileId) (f : List ℕ → Held) (bytes : List ℕ) (old new : Holdings) → Becomes file (f bytes) old new → Becomes file (f (take (length bytes) bytes)) old new
becomes_whole file f bytes old new change =
    subst (λ (l : List ℕ). Becomes file (f l) old new) (sym (take_all (length bytes) bytes (omega arith))) change

-- an append that was done, and then a sync
pub sync_after : {T E : Type 0} (file : FileId) (bytes : List ℕ) (old mid new : Holdings) (result : Result T E) → Becomes file (held_after_append (old file) bytes) old mid → Syncs file mid new result → AppendsSure file bytes old new result
sync_after {T} {E} file bytes old mid new result first second = by_result result second
  where
    sure : Becomes file (held_after_sync (mid file)) mid new → Becomes file (made_sure (old file) bytes) old new
    sure change = record {
      this = change.this ∙ ap held_after_sync first.this ∙ synced-appended (old file) bytes;
      others = λ g ne. change.others g ne ∙ first.others g ne;
    }

    by_result : (r : Result T E) → Syncs file mid new r → AppendsSure file bytes old new r
    by_result (Ok v) change = sure change
    by_result (Err e) (inl same) = (
      length bytes,
      inl (becomes_whole file (held_after_append (old file)) bytes old new (subst (Becomes file (held_after_append (old file) bytes) old) (sym same) first)),
    )
    by_result (Err e) (inr change) = (length bytes, inr (becomes_whole file (made_sure (old file)) bytes old new (sure change)))
