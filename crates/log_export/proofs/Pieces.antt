-- Bytes of a file, piece behind piece, and what a crash leaves of them.
use Rattle.std.proofs.Common.{◌≡◌, ℕ, ◌+◌, ◌-◌, ◌≤◌, Bool, false, List, [], ◌++◌, length, take, drop, refl, sym, ap, ◌∙◌, subst, append_assoc, arith, Result}
use Rattle.std.specs.Prelude.{if◌then◌else◌}
use Rattle.std.proofs.Math.Seq.{take-add, take-length}
use Rattle.std.proofs.lemmas.List.{append-nil, drop-drop, take_at, take-take as shorter}
use Rattle.pcp_base.specs.declared.file.FileId.{FileId}
use Rattle.pcp_model.specs.Disk.{Files, Held, Holdings, CrashImage}
use Rattle.pcp_model.specs.Written.{same_file}
use Rattle.pcp_outside.specs.declared.disk.Disk.{Ghosts as DiskGhosts}
use Rattle.pcp_outside.specs.Devices.{Appends, Becomes, Elapses, Syncs, held_after_append, held_after_sync, holdings_after_append, made_sure, with_file}
use Rattle.pcp_outside.proofs.Crash.{after_append, after_sync, joined, started, weaker}
use Rattle.pcp_outside.proofs.Images.{image_append, image_before, same_file-refl, synced-appended}
use Rattle.archive_loading.proofs.Looking.{OnlyNow}
use Rattle.log_export.specs.Copying.{AppendsOnly, piece_of}

-- ---- the bytes

pub piece_more : (from at count to : ℕ) (bytes : List ℕ) → from ≤ at → at + count ≤ to → take (at - from) (piece_of from to bytes) ++ take count (drop at bytes) ≡ take (at + count - from) (piece_of from to bytes)
piece_more from at count to bytes low high =
    let k : ℕ = at - from in
    let behind : drop at bytes ≡ drop k (drop from bytes) = ap (λ n. drop n bytes) (let e : at ≡ from + (at - from) = omega (arith, low) in e) ∙ sym (drop-drop (at - from) from bytes) in
    ap (λ t. t ++ take count (drop at bytes)) (shorter (at - from) (to - from) (drop from bytes) (omega (arith, high)))
    ∙ ap (λ t. take (at - from) (drop from bytes) ++ take count t) behind
    ∙ sym (take-add (at - from) count (drop from bytes))
    ∙ ap (λ n. take n (drop from bytes)) (let e : (at - from) + count ≡ at + count - from = omega (arith, low) in e)
    ∙ sym (shorter (at + count - from) (to - from) (drop from bytes) (omega (arith, high)))

pub piece_begins : (from to : ℕ) (bytes : List ℕ) → take (from - from) (piece_of from to bytes) ≡ []
piece_begins from to bytes = ap (λ n. take n (piece_of from to bytes)) (let e : from - from ≡ 0 = omega arith in e)

pub piece_ends : (from at to : ℕ) (bytes : List ℕ) → at ≡ to → take (at - from) (piece_of from to bytes) ≡ piece_of from to bytes
piece_ends from at to bytes is = ap (λ n. take (n - from) (piece_of from to bytes)) is ∙ shorter (to - from) (to - from) (drop from bytes) (omega arith)

-- ---- one file

append_appended : (h : Held) (a b : List ℕ) → held_after_append (held_after_append h a) b ≡ held_after_append h (a ++ b)
append_appended h a b = ap (λ (r : List ℕ). record { sure = h.sure; rest = r }) (append_assoc h.rest a b)

pub becomes_none : (file : FileId) (held : Holdings) → Becomes file (held_after_append (held file) []) held held
becomes_none file held = record { this = sym (ap (λ (r : List ℕ). record { sure = (held file).sure; rest = r }) (append-nil (held file).rest)); others = λ g ne. refl }

pub becomes_more : (file : FileId) (a b whole : List ℕ) (old mid new : Holdings) → Becomes file (held_after_append (old file) a) old mid → Becomes file (held_after_append (mid file) b) mid new → a ++ b ≡ whole → Becomes file (held_after_append (old file) whole) old new
becomes_more file a b whole old mid new first second is = record {
  this = second.this ∙ ap (λ (h : Held). held_after_append h b) first.this ∙ append_appended (old file) a b ∙ ap (held_after_append (old file)) is;
  others = λ g ne. second.others g ne ∙ first.others g ne;
}

pub becomes_sure : (file : FileId) (whole : List ℕ) (old mid new : Holdings) → Becomes file (held_after_append (old file) whole) old mid → Becomes file (held_after_sync (mid file)) mid new → Becomes file (made_sure (old file) whole) old new
becomes_sure file whole old mid new first second = record {
  this = second.this ∙ ap held_after_sync first.this ∙ synced-appended (old file) whole;
  others = λ g ne. second.others g ne ∙ first.others g ne;
}

-- ---- a crash

pub with_this : (file : FileId) (h : Held) (held : Holdings) → with_file file h held file ≡ h
with_this file h held = ap (λ (b : Bool). if b then h else held file) (same_file-refl file)

pub with_other : (file : FileId) (h : Held) (held : Holdings) (g : FileId) → same_file file g ≡ false → with_file file h held g ≡ held g
with_other file h held g e = ap (λ (b : Bool). if b then h else held g) e

-- a piece behind a front of the whole leaves no more than the whole does
pub image_on : (file : FileId) (whole front piece : List ℕ) (k : ℕ) (old mid : Holdings) (c : Files) → Becomes file (held_after_append (old file) front) old mid → front ++ piece ≡ take k whole
    → CrashImage (holdings_after_append file piece mid) c → CrashImage (holdings_after_append file whole old) c
image_on file whole front piece k old mid c first is left =
    image_append file k whole old (holdings_after_append file piece mid) c (record {
      this = with_this file (held_after_append (mid file) piece) mid ∙ ap (λ (h : Held). held_after_append h piece) first.this ∙ append_appended (old file) front piece ∙ ap (held_after_append (old file)) is;
      others = λ g ne. with_other file (held_after_append (mid file) piece) mid g ne ∙ first.others g ne;
    }) left

-- a front leaves no more than the whole
pub image_front : (file : FileId) (whole : List ℕ) (k : ℕ) (old mid : Holdings) (c : Files) → Becomes file (held_after_append (old file) (take k whole)) old mid → CrashImage mid c → CrashImage (holdings_after_append file whole old) c
image_front file whole k old mid c change left = image_append file k whole old mid c change left

module _ {D : Type 0} (g : DiskGhosts D) (now : OnlyNow g) where
  -- nothing was done yet
  pub nothing_yet : (old : D) (file : FileId) (whole : List ℕ) → AppendsOnly g file whole old old
  nothing_yet old file whole = started g.moment g.left_since g.held now old (CrashImage (holdings_after_append file whole (g.held old))) (image_before file whole (g.held old))

  -- one append
  pub appended : {T E : Type 0} (old new : D) (file : FileId) (bytes whole : List ℕ) (result : Result T E) → bytes ≡ whole → Elapses (g.moment old) (g.moment new) (g.left_since old) (g.left_since new) (g.held new) → Appends file bytes (g.held old) (g.held new) result
      → AppendsOnly g file whole old new
  appended old new file bytes whole result is time change =
      after_append g.moment g.left_since g.held old old new (CrashImage (holdings_after_append file whole (g.held old))) file bytes result (nothing_yet old file whole) time change
      (λ image left. subst (λ (b : List ℕ). CrashImage (holdings_after_append file b (g.held old)) image) is left)

  -- an append of the first bytes
  pub appended_first : {T E : Type 0} (old new : D) (file : FileId) (bytes rest : List ℕ) (result : Result T E) → Elapses (g.moment old) (g.moment new) (g.left_since old) (g.left_since new) (g.held new) → Appends file bytes (g.held old) (g.held new) result
      → AppendsOnly g file (bytes ++ rest) old new
  appended_first old new file bytes rest result time change =
      after_append g.moment g.left_since g.held old old new (CrashImage (holdings_after_append file (bytes ++ rest) (g.held old))) file bytes result (nothing_yet old file (bytes ++ rest)) time change
      (λ image left. image_on file (bytes ++ rest) [] bytes (length bytes) (g.held old) (g.held old) image (becomes_none file (g.held old)) (sym (front_of bytes rest)) left)
    where
      front_of : (xs ys : List ℕ) → take (length xs) (xs ++ ys) ≡ xs
      front_of xs ys = take_at xs ys (length xs) refl

  -- a run that appends a piece behind a front
  pub run_on : (old mid new : D) (file : FileId) (whole front piece : List ℕ) (k : ℕ) → AppendsOnly g file whole old mid → Becomes file (held_after_append (g.held old file) front) (g.held old) (g.held mid) → front ++ piece ≡ take k whole
      → AppendsOnly g file piece mid new → AppendsOnly g file whole old new
  run_on old mid new file whole front piece k so_far change is run =
      joined g.moment g.left_since g.held old mid new (CrashImage (holdings_after_append file whole (g.held old))) so_far
      (weaker g.moment g.left_since g.held mid new (CrashImage (holdings_after_append file piece (g.held mid))) (CrashImage (holdings_after_append file whole (g.held old))) run
      (λ image left. image_on file whole front piece k (g.held old) (g.held mid) image change is left))

  -- and a sync
  pub then_synced : {T E : Type 0} (old mid new : D) (file : FileId) (whole : List ℕ) (result : Result T E) → AppendsOnly g file whole old mid → Becomes file (held_after_append (g.held old file) whole) (g.held old) (g.held mid)
      → Elapses (g.moment mid) (g.moment new) (g.left_since mid) (g.left_since new) (g.held new) → Syncs file (g.held mid) (g.held new) result → AppendsOnly g file whole old new
  then_synced old mid new file whole result so_far change time synced =
      after_sync g.moment g.left_since g.held old mid new (CrashImage (holdings_after_append file whole (g.held old))) file result so_far time synced
      (λ image left. image_append file (length whole) whole (g.held old) (g.held mid) image (subst (λ (b : List ℕ). Becomes file (held_after_append (g.held old file) b) (g.held old) (g.held mid)) (sym (all_of whole)) change) left)
    where
      all_of : (xs : List ℕ) → take (length xs) xs ≡ xs
      all_of xs = take-length xs

-- a piece more of what stands between two offsets
pub copied_more : (file : FileId) (from at count to n : ℕ) (bytes now : List ℕ) (old mid new : Holdings) → from ≤ at → at + count ≤ to → n ≡ count → now ≡ bytes
    → Becomes file (held_after_append (old file) (take (at - from) (piece_of from to bytes))) old mid → Becomes file (held_after_append (mid file) (take n (drop at now))) mid new
    → Becomes file (held_after_append (old file) (take (at + count - from) (piece_of from to bytes))) old new
copied_more file from at count to n bytes now old mid new low high many same first second =
    becomes_more file (take (at - from) (piece_of from to bytes)) (take n (drop at now)) (take (at + count - from) (piece_of from to bytes)) old mid new first second
    (ap (λ k. take (at - from) (piece_of from to bytes) ++ take k (drop at now)) many ∙ ap (λ b. take (at - from) (piece_of from to bytes) ++ take count (drop at b)) same ∙ piece_more from at count to bytes low high)

pub runs_more : {D : Type 0} (g : DiskGhosts D) (old mid new : D) (file : FileId) (from at count to n : ℕ) (bytes now : List ℕ) → from ≤ at → at + count ≤ to → n ≡ count → now ≡ bytes
    → Becomes file (held_after_append (g.held old file) (take (at - from) (piece_of from to bytes))) (g.held old) (g.held mid) → AppendsOnly g file (piece_of from to bytes) old mid → AppendsOnly g file (take n (drop at now)) mid new
    → AppendsOnly g file (piece_of from to bytes) old new
runs_more g old mid new file from at count to n bytes now low high many same first so_far run =
    joined g.moment g.left_since g.held old mid new (CrashImage (holdings_after_append file (piece_of from to bytes) (g.held old))) so_far
    (weaker g.moment g.left_since g.held mid new (CrashImage (holdings_after_append file (take n (drop at now)) (g.held mid))) (CrashImage (holdings_after_append file (piece_of from to bytes) (g.held old))) run
    (λ image left. image_on file (piece_of from to bytes) (take (at - from) (piece_of from to bytes)) (take n (drop at now)) (at + count - from) (g.held old) (g.held mid) image first
    (ap (λ k. take (at - from) (piece_of from to bytes) ++ take k (drop at now)) many ∙ ap (λ b. take (at - from) (piece_of from to bytes) ++ take count (drop at b)) same ∙ piece_more from at count to bytes low high) left))
