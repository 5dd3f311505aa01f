-- What is held, and what a crash leaves, while files are written one after another.
use Rattle.std.proofs.Common.{◌≡◌, ◌⊎◌, inl, inr, ⊎_elim, ℕ, ◌+◌, ◌-◌, ◌<◌, ◌≤◌, Bool, true, false, List, [], ◌++◌, length, take, refl, sym, ap, ◌∙◌, subst, arith}
use Rattle.std.specs.Prelude.{IfErr, IsErrAnd, OnOk, Result, if◌then◌else◌, nat_lt}
use Rattle.std.proofs.lemmas.Result.{err_from_is_err_and}
use Rattle.std.proofs.Math.Seq.{take-length, take-nil}
use Rattle.std.proofs.lemmas.Bool.{cases_lt, cases_order, le-ltb, lt-ltb, ne_eqb}
use Rattle.std.proofs.lemmas.List.{append-nil}
use Rattle.pcp_base.specs.declared.file.FileId.{FileId}
use Rattle.pcp_base.specs.declared.file.FileId.TheVariants.{Meta, Index, Volume}
use Rattle.pcp_model.specs.Disk.{Files, Held, Holdings, CrashImage, nothing_held}
use Rattle.pcp_model.specs.Written.{same_file}
use Rattle.pcp_outside.specs.declared.disk.Disk.{Ghosts as DiskGhosts}
use Rattle.pcp_outside.specs.Devices.{Becomes, Survives, held_after_append, holdings_after_append, made_sure}
use Rattle.pcp_outside.proofs.Crash.{joined, started, weaker}
use Rattle.pcp_outside.proofs.Images.{same_file_is, same_or_other}
use Rattle.archive_loading.proofs.Looking.{OnlyNow}
use Rattle.log_export.specs.Copying.{AppendsOnly, piece_of}
use Rattle.log_export.specs.Laying.{BeginsOnly, IsBegun, IsHeld, laid_before_meta, laid_to, whole}
use Rattle.log_export.proofs.Pieces.{with_other, with_this}

-- ---- one file of a crash

survives_none : (bytes : List ℕ) → Survives nothing_held bytes → bytes ≡ []
survives_none bytes (n, is) = is ∙ take-nil n

survives_whole : (all bytes : List ℕ) → Survives (whole all) bytes → bytes ≡ all
survives_whole all bytes (n, is) = is ∙ ap (λ t. all ++ t) (take-nil n) ∙ append-nil all

begins_none : (all bytes : List ℕ) → bytes ≡ [] → (n : ℕ) × (bytes ≡ take n all)
begins_none all bytes is = (0, is)

begins_all : (all bytes : List ℕ) → bytes ≡ all → (n : ℕ) × (bytes ≡ take n all)
begins_all all bytes is = (length all, is ∙ sym (take-length all))

module _ (out : Files) where
  -- each file is whole or has no byte, and Meta has none
  pub record IsPart (held : Holdings) : Type 0 where
    pub each : (file : FileId) → (held file ≡ whole (out file)) ⊎ (held file ≡ nothing_held)
    pub meta : held Meta ≡ nothing_held

  one_begins : (held : Holdings) (file : FileId) (bytes : List ℕ) → (held file ≡ whole (out file)) ⊎ (held file ≡ nothing_held) → Survives (held file) bytes → (n : ℕ) × (bytes ≡ take n (out file))
  one_begins held file bytes (inl is) left = begins_all (out file) bytes (survives_whole (out file) bytes (subst (λ h. Survives h bytes) is left))
  one_begins held file bytes (inr is) left = begins_none (out file) bytes (survives_none bytes (subst (λ h. Survives h bytes) is left))

  -- as it is
  pub part_begins : (held : Holdings) (c : Files) → IsPart held → CrashImage held c → IsBegun out c
  part_begins held c p left = record {
    each = λ file. one_begins held file (c file) (p.each file) (left file);
    meta_last = inl (survives_none (c Meta) (subst (λ h. Survives h (c Meta)) p.meta (left Meta)));
  }

  module _ (held : Holdings) (file : FileId) (text : List ℕ) (c : Files) (fresh : held file ≡ nothing_held) (text_is : text ≡ out file) (left : CrashImage (holdings_after_append file text held) c) where
    this_left : Survives (held_after_append nothing_held text) (c file)
    this_left = subst (λ h. Survives h (c file)) (with_this file (held_after_append (held file) text) held ∙ ap (λ (h : Held). held_after_append h text) fresh) (left file)

    this_begins : (n : ℕ) × (c file ≡ take n (out file))
    this_begins = (this_left.0, this_left.1 ∙ ap (take this_left.0) text_is)

    other_left : (g : FileId) → same_file file g ≡ false → Survives (held g) (c g)
    other_left g ne = subst (λ h. Survives h (c g)) (with_other file (held_after_append (held file) text) held g ne) (left g)

    each_begins : ((g : FileId) → (held g ≡ whole (out g)) ⊎ (held g ≡ nothing_held)) → (g : FileId) → (n : ℕ) × (c g ≡ take n (out g))
    each_begins each g = ⊎_elim
        (λ (e : same_file file g ≡ true). subst (λ (f : FileId). (n : ℕ) × (c f ≡ take n (out f))) (same_file_is file g e) this_begins)
        (λ (e : same_file file g ≡ false). one_begins held g (c g) (each g) (other_left g e)) (same_or_other file g)

    -- a file other than Meta is written
    pub other_begins : IsPart held → same_file file Meta ≡ false → IsBegun out c
    other_begins p apart = record { each = each_begins p.each; meta_last = inl (survives_none (c Meta) (subst (λ h. Survives h (c Meta)) p.meta (other_left Meta apart))) }

  -- Meta is written
  pub meta_begins : (held : Holdings) (text : List ℕ) (c : Files) → IsHeld held (laid_before_meta out) → text ≡ out Meta → CrashImage (holdings_after_append Meta text held) c → IsBegun out c
  meta_begins held text c is text_is left = record {
    each = each_begins held Meta text c (is Meta) text_is left each;
    meta_last = inr (λ g ne. survives_whole (out g) (c g) (subst (λ h. Survives h (c g)) (others g ne) (other_left held Meta text c (is Meta) text_is left g ne)));
  }
    where
      others : (g : FileId) → same_file Meta g ≡ false → held g ≡ whole (out g)
      others Meta ne = let both : true ≡ false = ne in cc
      others Index ne = is Index
      others (Volume k) ne = is (Volume k)

      each : (g : FileId) → (held g ≡ whole (out g)) ⊎ (held g ≡ nothing_held)
      each Meta = inr (is Meta)
      each Index = inl (is Index)
      each (Volume k) = inl (is (Volume k))

  -- ---- how far it is

  pub none_part : (held : Holdings) → IsHeld held (λ file. nothing_held) → IsPart held
  none_part held is = record { each = λ file. inr (is file); meta = is Meta }

  pub laid_part : (n : ℕ) (held : Holdings) → IsHeld held (laid_to n out) → IsPart held
  laid_part n held is = record { each = each; meta = is Meta }
    where
      one : (k : ℕ) (b : Bool) → held (Volume k) ≡ (if b then whole (out (Volume k)) else nothing_held) → (held (Volume k) ≡ whole (out (Volume k))) ⊎ (held (Volume k) ≡ nothing_held)
      one k true e = inl e
      one k false e = inr e

      each : (file : FileId) → (held file ≡ whole (out file)) ⊎ (held file ≡ nothing_held)
      each Meta = inr (is Meta)
      each Index = inl (is Index)
      each (Volume k) = one k (nat_lt k n) (is (Volume k))

  pub fresh_volume : (n : ℕ) (held : Holdings) → IsHeld held (laid_to n out) → held (Volume n) ≡ nothing_held
  fresh_volume n held is = is (Volume n) ∙ ap (λ (b : Bool). if b then whole (out (Volume n)) else nothing_held) (le-ltb n n (omega arith))

  sure_whole : (h : Held) (text all : List ℕ) → h ≡ nothing_held → text ≡ all → made_sure h text ≡ whole all
  sure_whole h text all fresh is = ap (λ (k : Held). made_sure k text) fresh ∙ ap whole is

  -- the index stands
  pub index_laid : (old new : Holdings) (text : List ℕ) → IsHeld old (λ file. nothing_held) → Becomes Index (made_sure (old Index) text) old new → text ≡ out Index → IsHeld new (laid_to 0 out)
  index_laid old new text is change text_is Meta = change.others Meta refl ∙ is Meta
  index_laid old new text is change text_is Index = change.this ∙ sure_whole (old Index) text (out Index) (is Index) text_is
  index_laid old new text is change text_is (Volume k) = change.others (Volume k) refl ∙ is (Volume k) ∙ sym (ap (λ (b : Bool). if b then whole (out (Volume k)) else nothing_held) (le-ltb k 0 (omega arith)))

  -- a volume more
  pub volume_laid : (n : ℕ) (old new : Holdings) (text : List ℕ) → IsHeld old (laid_to n out) → Becomes (Volume n) (whole text) old new → text ≡ out (Volume n) → IsHeld new (laid_to (n + 1) out)
  volume_laid n old new text is change text_is Meta = change.others Meta refl ∙ is Meta
  volume_laid n old new text is change text_is Index = change.others Index refl ∙ is Index
  volume_laid n old new text is change text_is (Volume k) = ⊎_elim this (⊎_elim below above) (cases_order k n)
    where
      chosen : ℕ → Bool → Held
      chosen j b = if b then whole (out (Volume j)) else nothing_held

      this : k ≡ n → new (Volume k) ≡ laid_to (n + 1) out (Volume k)
      this e = subst (λ (j : ℕ). new (Volume j) ≡ laid_to (n + 1) out (Volume j)) (sym e) (change.this ∙ ap whole text_is ∙ sym (ap (chosen n) (lt-ltb n (n + 1) (omega arith))))

      below : k < n → new (Volume k) ≡ laid_to (n + 1) out (Volume k)
      below lt = change.others (Volume k) (ne_eqb n k (λ e. omega (arith, lt, e))) ∙ is (Volume k) ∙ ap (chosen k) (lt-ltb k n lt) ∙ sym (ap (chosen k) (lt-ltb k (n + 1) (omega arith)))

      above : n < k → new (Volume k) ≡ laid_to (n + 1) out (Volume k)
      above lt = change.others (Volume k) (ne_eqb n k (λ e. omega (arith, lt, e))) ∙ is (Volume k) ∙ ap (chosen k) (le-ltb k n (omega arith)) ∙ sym (ap (chosen k) (le-ltb k (n + 1) (omega arith)))

  -- all volumes
  pub volumes_laid : (n : ℕ) (held : Holdings) → IsHeld held (laid_to n out) → ((k : ℕ) → n ≤ k → out (Volume k) ≡ []) → IsHeld held (laid_before_meta out)
  volumes_laid n held is past Meta = is Meta
  volumes_laid n held is past Index = is Index
  volumes_laid n held is past (Volume k) = ⊎_elim
      (λ (lt : k < n). is (Volume k) ∙ ap (λ (b : Bool). if b then whole (out (Volume k)) else nothing_held) (lt-ltb k n lt))
      (λ (le : n ≤ k). is (Volume k) ∙ ap (λ (b : Bool). if b then whole (out (Volume k)) else nothing_held) (le-ltb k n le) ∙ sym (ap whole (past k le)))
      (cases_lt k n)

  -- and Meta
  pub meta_laid : (old new : Holdings) (text : List ℕ) → IsHeld old (laid_before_meta out) → Becomes Meta (made_sure (old Meta) text) old new → text ≡ out Meta → IsHeld new (λ file. whole (out file))
  meta_laid old new text is change text_is Meta = change.this ∙ sure_whole (old Meta) text (out Meta) (is Meta) text_is
  meta_laid old new text is change text_is Index = change.others Index refl ∙ is Index
  meta_laid old new text is change text_is (Volume k) = change.others (Volume k) refl ∙ is (Volume k)

  -- ---- moments

  module _ {D : Type 0} (g : DiskGhosts D) where
    pub nothing_more : OnlyNow g → (old : D) → IsPart (g.held old) → BeginsOnly g out old old
    nothing_more now old p = started g.moment g.left_since g.held now old (IsBegun out) (λ c left. part_begins (g.held old) c p left)

    pub other_runs : (old new : D) (file : FileId) (text : List ℕ) → IsPart (g.held old) → g.held old file ≡ nothing_held → same_file file Meta ≡ false → text ≡ out file → AppendsOnly g file text old new → BeginsOnly g out old new
    other_runs old new file text p fresh apart text_is run =
        weaker g.moment g.left_since g.held old new (CrashImage (holdings_after_append file text (g.held old))) (IsBegun out) run (λ c left. other_begins (g.held old) file text c fresh text_is left p apart)

    pub meta_runs : (old new : D) (text : List ℕ) → IsHeld (g.held old) (laid_before_meta out) → text ≡ out Meta → AppendsOnly g Meta text old new → BeginsOnly g out old new
    meta_runs old new text is text_is run =
        weaker g.moment g.left_since g.held old new (CrashImage (holdings_after_append Meta text (g.held old))) (IsBegun out) run (λ c left. meta_begins (g.held old) text c is text_is left)

    pub runs_on : (old mid new : D) → BeginsOnly g out old mid → BeginsOnly g out mid new → BeginsOnly g out old new
    runs_on old mid new first second = joined g.moment g.left_since g.held old mid new (IsBegun out) first second

-- ---- texts

pub front_piece : (end : ℕ) (bytes : List ℕ) → piece_of 0 end bytes ≡ take end bytes
front_piece end bytes = ap (λ n. take n bytes) (let e : end - 0 ≡ end = omega arith in e)

pub no_piece : (head bytes : List ℕ) → head ++ piece_of 0 0 bytes ≡ head
no_piece head bytes = append-nil head

pub sure_becomes : (file : FileId) (text all : List ℕ) (old new : Holdings) → old file ≡ nothing_held → text ≡ all → Becomes file (made_sure (old file) text) old new → Becomes file (whole all) old new
sure_becomes file text all old new fresh is change = record { this = change.this ∙ ap (λ (k : Held). made_sure k text) fresh ∙ ap whole is; others = change.others }

-- ---- results

pub no_ok : {T E : Type 0} (r : Result T E) (e : E) (A : Type 0) → IsErrAnd r (λ y. y ≡ e) → OnOk r A
no_ok r e A was = let p = err_from_is_err_and r was in subst (λ x. OnOk x A) (sym p.1) tt

pub err_handed : {T E : Type 0} (r : Result T E) (e : E) (P : E → Type 0) → IsErrAnd r (λ y. y ≡ e) → P e → IfErr r P
err_handed r e P was h = let p = err_from_is_err_and r was in subst (λ x. IfErr x P) (sym p.1) (subst P (sym p.2) h)
