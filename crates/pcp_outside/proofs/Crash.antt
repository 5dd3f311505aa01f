-- How a run of device calls goes on: what every crash image of a run so far has, each image has after one call more.
-- The parameters are members of `Disk`, and `only_now` its law.
use Rattle.std.proofs.Common.{◌≡◌, inl, inr, ⊎_elim, ℕ, List, Result, Ok, Err, length, subst, sym, arith}
use Rattle.std.proofs.lemmas.List.{take_all}
use Rattle.pcp_base.specs.declared.file.FileId.{FileId}
use Rattle.pcp_model.specs.Disk.{Files, Holdings, CrashImage}
use Rattle.pcp_outside.specs.Devices.{Becomes, held_after_append, made_sure, cut_to, holdings_after_append, Appends, Syncs, Cuts, AppendsSure, Elapses, LeavesOnly}
use Rattle.pcp_outside.proofs.Images.{image_append, image_sync, image_made_sure}

-- after an append, done or refused
pub image_appends : {T E : Type 0} (file : FileId) (bytes : List ℕ) (old new : Holdings) (result : Result T E) (c : Files) → Appends file bytes old new result → CrashImage new c → CrashImage (holdings_after_append file bytes old) c
image_appends file bytes old new (Ok v) c change left =
    image_append file (length bytes) bytes old new c (subst (λ (l : List ℕ). Becomes file (held_after_append (old file) l) old new) (sym (take_all (length bytes) bytes (omega arith))) change) left
image_appends file bytes old new (Err e) c (n, change) left = image_append file n bytes old new c change left

-- after a sync, done or refused
pub image_syncs : {T E : Type 0} (file : FileId) (old new : Holdings) (result : Result T E) (c : Files) → Syncs file old new result → CrashImage new c → CrashImage old c
image_syncs file old new (Ok v) c change left = image_sync file old new c change left
image_syncs file old new (Err e) c (inl same) left = subst (λ (h : Holdings). CrashImage h c) same left
image_syncs file old new (Err e) c (inr change) left = image_sync file old new c change left

-- after an append and a sync, done or refused
pub image_appends_sure : {T E : Type 0} (file : FileId) (bytes : List ℕ) (old new : Holdings) (result : Result T E) (c : Files) → AppendsSure file bytes old new result → CrashImage new c → CrashImage (holdings_after_append file bytes old) c
image_appends_sure file bytes old new (Ok v) c change left =
    image_made_sure file (length bytes) bytes old new c (subst (λ (l : List ℕ). Becomes file (made_sure (old file) l) old new) (sym (take_all (length bytes) bytes (omega arith))) change) left
image_appends_sure file bytes old new (Err e) c (n, inl change) left = image_append file n bytes old new c change left
image_appends_sure file bytes old new (Err e) c (n, inr change) left = image_made_sure file n bytes old new c change left

module _ {D : Type 0} (moment : D → ℕ) (left_since : D → ℕ → Files → Type 0) (held : D → Holdings) where
  abbrev pub Each : (Files → Type 0) → Holdings → Type 0
  Each P h = (c : Files) → CrashImage h c → P c

  -- before the first call
  pub started : (only_now : (disk : D) (c : Files) → left_since disk (moment disk) c → CrashImage (held disk) c) (old : D) (P : Files → Type 0) → Each P (held old) → LeavesOnly moment left_since old old P
  started only_now old P good = record {
    later = omega arith;
    each = λ c left. good c (only_now old c left);
    before = λ t c le left. inl left;
  }

  -- one call more, after which every image is good
  pub goes_on : (old mid new : D) (P : Files → Type 0) → LeavesOnly moment left_since old mid P → Elapses (moment mid) (moment new) (left_since mid) (left_since new) (held new) → Each P (held new) → LeavesOnly moment left_since old new P
  goes_on old mid new P so_far time good = record {
    later = omega (arith, so_far.later, time.later);
    each = λ c left. ⊎_elim (so_far.each c) (good c) (time.nothing_else (moment old) c so_far.later left);
    before = λ t c le left. ⊎_elim (so_far.before t c le) (λ now. inr (good c now)) (time.nothing_else t c (omega (arith, le, so_far.later)) left);
  }

  -- two runs, one after the other
  pub joined : (old mid new : D) (P : Files → Type 0) → LeavesOnly moment left_since old mid P → LeavesOnly moment left_since mid new P → LeavesOnly moment left_since old new P
  joined old mid new P first second = record {
    later = omega (arith, first.later, second.later);
    each = λ c left. ⊎_elim (first.each c) (λ good. good) (second.before (moment old) c first.later left);
    before = λ t c le left. ⊎_elim (first.before t c le) (λ good. inr good) (second.before t c (omega (arith, le, first.later)) left);
  }

  -- the same run, of which less is said
  pub weaker : (old new : D) (P Q : Files → Type 0) → LeavesOnly moment left_since old new P → ((c : Files) → P c → Q c) → LeavesOnly moment left_since old new Q
  weaker old new P Q run less = record {
    later = run.later;
    each = λ c left. less c (run.each c left);
    before = λ t c le left. ⊎_elim (λ was. inl was) (λ good. inr (less c good)) (run.before t c le left);
  }

  -- a run, and then another that left only what has Q, as a function of several calls ensures it
  pub after_run : (old mid new : D) (P Q : Files → Type 0) → LeavesOnly moment left_since old mid P → LeavesOnly moment left_since mid new Q → ((c : Files) → Q c → P c) → LeavesOnly moment left_since old new P
  after_run old mid new P Q so_far run good = joined old mid new P so_far (weaker mid new Q P run good)

  -- a run in which files were only looked at: `len`, `volumes`, `wrapped`, `read`
  pub after_look : (old mid new : D) (P : Files → Type 0) → LeavesOnly moment left_since old mid P → Elapses (moment mid) (moment new) (left_since mid) (left_since new) (held new) → held new ≡ held mid → Each P (held mid) → LeavesOnly moment left_since old new P
  after_look old mid new P so_far time same good = goes_on old mid new P so_far time (λ c left. good c (subst (λ (h : Holdings). CrashImage h c) same left))

  -- after an `append`
  pub after_append : {T E : Type 0} (old mid new : D) (P : Files → Type 0) (file : FileId) (bytes : List ℕ) (result : Result T E) → LeavesOnly moment left_since old mid P → Elapses (moment mid) (moment new) (left_since mid) (left_since new) (held new) → Appends file bytes (held mid) (held new) result → Each P (holdings_after_append file bytes (held mid)) → LeavesOnly moment left_since old new P
  after_append old mid new P file bytes result so_far time change good =
      goes_on old mid new P so_far time (λ c left. good c (image_appends file bytes (held mid) (held new) result c change left))

  -- after a `sync`
  pub after_sync : {T E : Type 0} (old mid new : D) (P : Files → Type 0) (file : FileId) (result : Result T E) → LeavesOnly moment left_since old mid P → Elapses (moment mid) (moment new) (left_since mid) (left_since new) (held new) → Syncs file (held mid) (held new) result → Each P (held mid) → LeavesOnly moment left_since old new P
  after_sync old mid new P file result so_far time change good =
      goes_on old mid new P so_far time (λ c left. good c (image_syncs file (held mid) (held new) result c change left))

  -- after a `cut`, of which the images before it and those of the file cut are good
  pub after_cut : {T E : Type 0} (old mid new : D) (P : Files → Type 0) (file : FileId) (n : ℕ) (result : Result T E) → LeavesOnly moment left_since old mid P → Elapses (moment mid) (moment new) (left_since mid) (left_since new) (held new) → Cuts file n (held mid) (held new) result → Each P (held mid) → (Becomes file (cut_to n (held mid file)) (held mid) (held new) → Each P (held new)) → LeavesOnly moment left_since old new P
  after_cut {T} {E} old mid new P file n result so_far time change good cut_good = goes_on old mid new P so_far time (each result change)
    where
      each : (r : Result T E) → Cuts file n (held mid) (held new) r → Each P (held new)
      each (Ok v) change = cut_good change
      each (Err e) (inl same) = λ c left. good c (subst (λ (h : Holdings). CrashImage h c) same left)
      each (Err e) (inr change) = cut_good change
