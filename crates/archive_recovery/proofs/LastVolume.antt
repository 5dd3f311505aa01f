-- What the volumes hold, and what a crash leaves of them, while the last one is mended and the first one gets its label.
use Rattle.std.proofs.Common.{◌≡◌, ◌≢◌, ◌⊎◌, inl, inr, ⊎_elim, ℕ, ◌<◌, ◌≤◌, pos, Bool, true, false, List, [], ◌∷◌, ◌++◌, length, take, map, refl, sym, ap, ◌∙◌, subst, arith, length-append}
use Rattle.std.specs.Prelude.{Contains, Option, Some, None, unwrap_or, if◌then◌else◌}
use Rattle.std.specs.List.{AllByRecursion}
use Rattle.std.proofs.Math.Seq.{take-nil, take-length}
use Rattle.std.proofs.lemmas.Bool.{cases_lt}
use Rattle.std.proofs.lemmas.List.{append-nil, take_at, nil_from_length}
use Rattle.pcp_base.specs.declared.file.FileId.TheVariants.{Volume}
use Rattle.pcp_base.specs.declared.result.Item.{Item}
use Rattle.pcp_model.specs.Archive.{ArchiveContents, IsArchive}
use Rattle.pcp_model.specs.Disk.{Files, Held, Holdings, CrashImage, bytes_of, contents_of}
use Rattle.pcp_model.specs.Labels.{label}
use Rattle.pcp_model.specs.Payload.{IsItem}
use Rattle.pcp_model.specs.Recovered.{IsMended, labelled_volumes, or_first_volume, AreMended}
use Rattle.pcp_model.proofs.CutArchive.{none_appended}
use Rattle.pcp_model.proofs.Lists.{each-append}
use Rattle.pcp_outside.specs.Devices.{Becomes, Survives, made_sure, holdings_after_append}
use Rattle.pcp_outside.proofs.Images.{bytes-cut_to, bytes-made_sure}
use Rattle.archive_recovery.specs.Damage.{IsVolumeEnd, HasEnd, IsLastEnd, IsBare}
use Rattle.archive_recovery.specs.Halfway.{LastIsCut, FirstIsBegun}
use Rattle.archive_recovery.specs.Mending.{LastIsMended, LastMayBe, VolumesAreMended, VolumesMayBe}
use Rattle.archive_recovery.specs.declared.mending.Last.{Last}
use Rattle.archive_recovery.proofs.Ends.{other_volume, unlisted, all_labelled, not_bare, labelled_before, others_empty, before_whole}
use Rattle.archive_recovery.proofs.Moments.{cut_image}
use Rattle.archive_recovery.proofs.Settled.{all_sure, no_bytes, uncut_volumes}
use Rattle.archive_recovery.proofs.Volumes.{some_mended}

abbrev numbers : List (ℕ × List Item) → List ℕ
numbers vs = map (λ v. v.0) vs

no_parts : (h : Held) → bytes_of h ≡ [] → (h.sure ≡ []) × (h.rest ≡ [])
no_parts h none = (nil_from_length h.sure (omega (arith, ap length none, length-append h.sure h.rest)), nil_from_length h.rest (omega (arith, ap length none, length-append h.sure h.rest)))

never : false ≡ true → ⊥
never e = cc

-- a number is this one or another
pub this_or_other : (n m : ℕ) → (m ≡ n) ⊎ (n ≢ m)
this_or_other n m = ⊎_elim (λ (lt : n < m). inr (λ e. omega arith)) (λ (ge : m ≤ n). ⊎_elim (λ (gt : m < n). inr (λ e. omega arith)) (λ (le : n ≤ m). inl (omega arith)) (cases_lt m n)) (cases_lt n m)

module _ (files : Files) (c : ArchiveContents) (is : IsArchive files c) (old : Holdings) (start : (n : ℕ) → bytes_of (old (Volume n)) ≡ files (Volume n)) where
  none_listed : c.volumes ≡ [] → (n : ℕ) → files (Volume n) ≡ []
  none_listed none n = is.others n (λ has. let e : length (numbers c.volumes) ≡ 0 = ap (λ vs. length (numbers vs)) none in omega (arith, has.1))

  -- ---- where no volume has its label, none holds a byte once the last one is mended

  empty_by : (l : Last) (has : HasEnd files c l) (e : Option ℕ) → l.end ≡ e → IsVolumeEnd (files (Volume l.number)) c.label l.number has.items e → IsBare files c true → (mid : Holdings) → LastIsMended (Some l) old mid → (n : ℕ) → bytes_of (mid (Volume n)) ≡ []
  empty_by l has (Some end) same ends bare mid change n = absurd (not_bare files c is l has end ends.0 ends.1 bare)
  empty_by l has None same short bare mid change n = ⊎_elim
      (λ (e : l.number ≡ n). subst (λ (m : ℕ). bytes_of (mid (Volume m)) ≡ []) e
      (ap bytes_of change.this ∙ bytes-cut_to (unwrap_or l.end 0) (old (Volume l.number)) ∙ ap (λ (x : Option ℕ). take (unwrap_or x 0) (bytes_of (old (Volume l.number)))) same))
      (λ (other : n ≢ l.number). ap bytes_of (change.others (Volume n) (other_volume l.number n other)) ∙ start n ∙ others_empty files c is l has short bare n other) (this_or_other n l.number)

  empty_mid : (last : Option Last) → IsLastEnd files c last → IsBare files c true → (mid : Holdings) → LastIsMended last old mid → (n : ℕ) → bytes_of (mid (Volume n)) ≡ []
  empty_mid None none bare mid same n = ap (λ (h : Holdings). bytes_of (h (Volume n))) same ∙ start n ∙ none_listed none n
  empty_mid (Some l) has bare mid change n = empty_by l has l.end refl has.is bare mid change n

  -- ---- crashes

  module _ (sure : (n : ℕ) → (old (Volume n)).rest ≡ []) (image : Files) where
    untouched : (before : Files) → CrashImage old before → (n : ℕ) → before (Volume n) ≡ files (Volume n)
    untouched before crash n = all_sure old before (Volume n) (sure n) crash ∙ start n

    cut_by : (l : Last) (has : HasEnd files c l) (e : Option ℕ) → l.end ≡ e → IsVolumeEnd (files (Volume l.number)) c.label l.number has.items e → image (Volume l.number) ≡ take (unwrap_or l.end 0) (files (Volume l.number)) → ((n : ℕ) → n ≢ l.number → image (Volume n) ≡ files (Volume n)) → LastIsCut files image c
    cut_by l has (Some end) same ends cut others = record {
      last = record { before = has.before; number = l.number; items = has.items; are = has.are };
      cut = inl (record {
        left = ends.0;
        mended = ends.1;
        n = 0;
        is = cut ∙ ap (λ (x : Option ℕ). take (unwrap_or x 0) (files (Volume l.number))) same ∙ ap (λ (m : ℕ). take m (files (Volume l.number))) ends.2 ∙ ap (take (length ends.0)) ends.1.is ∙ take_at ends.0 ends.1.torn (length ends.0) refl ∙ sym (append-nil ends.0);
      });
      others = others;
    }
    cut_by l has None same short cut others = record {
      last = record { before = has.before; number = l.number; items = has.items; are = has.are };
      cut = inr (short, 0, cut ∙ ap (λ (x : Option ℕ). take (unwrap_or x 0) (files (Volume l.number))) same);
      others = others;
    }

    last_between : (last : Option Last) → IsLastEnd files c last → LastMayBe last old image → LastIsCut files image c ⊎ FirstIsBegun files image c
    last_between None none crash = uncut_volumes files image c is (untouched image crash)
    last_between (Some l) has b = ⊎_elim
        (λ (same : image (Volume l.number) ≡ b.before (Volume l.number)). uncut_volumes files image c is (λ n. ⊎_elim
        (λ (e : l.number ≡ n). subst (λ (m : ℕ). image (Volume m) ≡ files (Volume m)) e (same ∙ untouched b.before b.left l.number))
        (λ (other : n ≢ l.number). b.others (Volume n) (other_volume l.number n other) ∙ untouched b.before b.left n) (this_or_other n l.number)))
        (λ (cut : image (Volume l.number) ≡ take (unwrap_or l.end 0) (b.before (Volume l.number))). inl (cut_by l has l.end refl has.is (cut ∙ ap (take (unwrap_or l.end 0)) (untouched b.before b.left l.number)) (λ n other. b.others (Volume n) (other_volume l.number n other) ∙ untouched b.before b.left n))) b.this

    -- the first volume's label is begun
    first_between : (last : Option Last) → IsLastEnd files c last → IsBare files c true → (mid : Holdings) → LastIsMended last old mid → (bytes : List ℕ) → bytes ≡ label c.label (pos 0) → CrashImage (holdings_after_append (Volume 0) bytes mid) image → FirstIsBegun files image c
    first_between last ends bare mid change bytes spelled crash = record {
      none = bare;
      n = (crash (Volume 0)).0;
      first = (crash (Volume 0)).1 ∙ ap (λ s. s ++ take (crash (Volume 0)).0 ((mid (Volume 0)).rest ++ bytes)) (no_parts (mid (Volume 0)) (empty 0)).0
          ∙ ap (λ r. take (crash (Volume 0)).0 (r ++ bytes)) (no_parts (mid (Volume 0)) (empty 0)).1 ∙ ap (take (crash (Volume 0)).0) spelled;
      others = others;
    }
      where
        empty : (n : ℕ) → bytes_of (mid (Volume n)) ≡ []
        empty n = empty_mid last ends bare mid change n

        others : (k : ℕ) → k ≢ 0 → image (Volume k) ≡ []
        others k other =
            let same : holdings_after_append (Volume 0) bytes mid (Volume k) ≡ mid (Volume k) = ap (λ (b : Bool). if b then record { sure = (mid (Volume 0)).sure; rest = (mid (Volume 0)).rest ++ bytes } else mid (Volume k)) (other_volume 0 k other) in
            let left : Survives (mid (Volume k)) (image (Volume k)) = subst (λ (h : Held). Survives h (image (Volume k))) same (crash (Volume k)) in
            left.1 ∙ ap (λ s. s ++ take left.0 (mid (Volume k)).rest) (no_parts (mid (Volume k)) (empty k)).0 ∙ ap (take left.0) (no_parts (mid (Volume k)) (empty k)).1 ∙ take-nil left.0

    -- and given
    first_given : (last : Option Last) → IsLastEnd files c last → IsBare files c true → (mid new : Holdings) → LastIsMended last old mid → (bytes : List ℕ) → bytes ≡ label c.label (pos 0) → Becomes (Volume 0) (made_sure (mid (Volume 0)) bytes) mid new → CrashImage new image → FirstIsBegun files image c
    first_given last ends bare mid new change bytes spelled given crash = record {
      none = bare;
      n = length (label c.label (pos 0));
      first = all_sure new image (Volume 0) (ap (λ (h : Held). h.rest) given.this) crash ∙ ap bytes_of given.this ∙ bytes-made_sure (mid (Volume 0)) bytes ∙ ap (λ t. t ++ bytes) (empty_mid last ends bare mid change 0) ∙ spelled ∙ sym (take-length (label c.label (pos 0)));
      others = λ k other. no_bytes new image (Volume k) (ap bytes_of (given.others (Volume k) (other_volume 0 k other)) ∙ empty_mid last ends bare mid change k) crash;
    }

    mended_image : (last : Option Last) (mid : Holdings) → LastIsMended last old mid → CrashImage mid image → LastMayBe last old image
    mended_image None mid same crash = subst (λ (h : Holdings). CrashImage h image) same crash
    mended_image (Some l) mid change crash = cut_image (Volume l.number) (unwrap_or l.end 0) old mid change image crash

    pub volumes_between : (last : Option Last) → IsLastEnd files c last → (bare : Bool) → IsBare files c bare → (bytes : List ℕ) → bytes ≡ label c.label (pos 0) → VolumesMayBe last bare bytes old image → LastIsCut files image c ⊎ FirstIsBegun files image c
    volumes_between last ends bare is_bare bytes spelled (inl may) = last_between last ends may
    volumes_between last ends true is_bare bytes spelled (inr given) = inr (first_between last ends is_bare given.1 given.2 bytes spelled given.3)
    volumes_between last ends false is_bare bytes spelled (inr given) = absurd (never given.0)

    pub volumes_after : (last : Option Last) → IsLastEnd files c last → (bare : Bool) → IsBare files c bare → (bytes : List ℕ) → bytes ≡ label c.label (pos 0) → (new : Holdings) → VolumesAreMended last bare bytes old new → CrashImage new image → LastIsCut files image c ⊎ FirstIsBegun files image c
    volumes_after last ends true is_bare bytes spelled new m crash = inr (first_given last ends is_bare m.mid new m.first bytes spelled m.second crash)
    volumes_after last ends false is_bare bytes spelled new m crash = last_between last ends (mended_image last m.mid m.first (subst (λ (h : Holdings). CrashImage h image) m.second crash))

    pub volumes_before : (crash : CrashImage old image) → LastIsCut files image c ⊎ FirstIsBegun files image c
    volumes_before crash = uncut_volumes files image c is (untouched image crash)

  -- ---- what is left in the end

  pub record EndsMended (new : Holdings) : Type 0 where
    pub mended : AreMended files c.label (contents_of new) (labelled_volumes files c.volumes)
    pub others : (n : ℕ) → (Contains (numbers (or_first_volume (labelled_volumes files c.volumes))) n → ⊥) → bytes_of (new (Volume n)) ≡ []

  given_ends : (last : Option Last) → IsLastEnd files c last → IsBare files c true → (mid new : Holdings) → LastIsMended last old mid → (bytes : List ℕ) → bytes ≡ label c.label (pos 0) → Becomes (Volume 0) (made_sure (mid (Volume 0)) bytes) mid new → EndsMended new
  given_ends last ends bare mid new change bytes spelled given = record {
    mended = subst (AreMended files c.label (contents_of new)) (sym bare) (ap bytes_of given.this ∙ bytes-made_sure (mid (Volume 0)) bytes ∙ ap (λ t. t ++ bytes) (empty_mid last ends bare mid change 0) ∙ spelled);
    others = λ n none. let other : n ≢ 0 = λ e. none (subst (λ (vs : List (ℕ × List Item)). Contains (numbers (or_first_volume vs)) n) (sym bare) (0, omega arith, sym e)) in
        ap bytes_of (given.others (Volume n) (other_volume 0 n other)) ∙ empty_mid last ends bare mid change n;
  }

  untouched_below : (l : Last) (mid : Holdings) → LastIsMended (Some l) old mid → (n : ℕ) → n ≢ l.number → bytes_of (mid (Volume n)) ≡ files (Volume n)
  untouched_below l mid change n other = ap bytes_of (change.others (Volume n) (other_volume l.number n other)) ∙ start n

  are_before : (mid : Holdings) (vs : List (ℕ × List Item)) → (vs ≡ [] → ⊥) → AllByRecursion (λ (v : ℕ × List Item). IsMended IsItem (files (Volume v.0)) c.label (pos v.0) v.1 (bytes_of (mid (Volume v.0)))) vs → AreMended files c.label (contents_of mid) vs
  are_before mid [] some all = absurd (some refl)
  are_before mid (v ∷ vs) some all = all

  first_same : (vs : List (ℕ × List Item)) → (vs ≡ [] → ⊥) → or_first_volume vs ≡ vs
  first_same [] some = absurd (some refl)
  first_same (v ∷ vs) some = refl

  cut_ends : (l : Last) (has : HasEnd files c l) (e : Option ℕ) → l.end ≡ e → IsVolumeEnd (files (Volume l.number)) c.label l.number has.items e → IsBare files c false → (mid : Holdings) → LastIsMended (Some l) old mid → EndsMended mid
  cut_ends l has (Some end) same ends bare mid change =
      let all : labelled_volumes files c.volumes ≡ c.volumes = all_labelled files c is l has end ends.0 ends.1 in
      let kept : bytes_of (mid (Volume l.number)) ≡ ends.0 = ap bytes_of change.this ∙ bytes-cut_to (unwrap_or l.end 0) (old (Volume l.number)) ∙ ap (λ (x : Option ℕ). take (unwrap_or x 0) (bytes_of (old (Volume l.number)))) same
      ∙ ap (take end) (start l.number ∙ ends.1.is) ∙ take_at ends.0 ends.1.torn end (sym ends.2) in
      let last : IsMended IsItem (files (Volume l.number)) c.label (pos l.number) has.items (bytes_of (mid (Volume l.number))) = subst (IsMended IsItem (files (Volume l.number)) c.label (pos l.number) has.items) (sym kept) ends.1 in
      record {
        mended = subst (AreMended files c.label (contents_of mid)) (sym all) (subst (AreMended files c.label (contents_of mid)) (sym has.are)
            (some_mended files files (contents_of mid) c.label files has.before (l.number, has.items) (each-append (λ (v : ℕ × List Item). IsMended IsItem (files (Volume v.0)) c.label (pos v.0) v.1 (bytes_of (mid (Volume v.0)))) has.before ((l.number, has.items) ∷ [])
            (before_whole files c is l has (contents_of mid) (λ n low. untouched_below l mid change n (λ e. omega arith))) (last, tt))));
        others = λ n none.
            let absent : Contains (numbers c.volumes) n → ⊥ = λ h. none (subst (λ (vs : List (ℕ × List Item)). Contains (numbers vs) n) (sym (ap or_first_volume all ∙ first_same c.volumes (λ e. bare (all ∙ e)))) h) in
            untouched_below l mid change n (unlisted files c is l has n absent) ∙ is.others n absent;
      }
  cut_ends l has None same short bare mid change =
      let all : labelled_volumes files c.volumes ≡ has.before = labelled_before files c is l has short in
      let some : has.before ≡ [] → ⊥ = λ e. bare (all ∙ e) in
      record {
        mended = subst (AreMended files c.label (contents_of mid)) (sym all) (are_before mid has.before some (before_whole files c is l has (contents_of mid) (λ n low. untouched_below l mid change n (λ e. omega arith))));
        others = λ n none.
            let absent : Contains (numbers has.before) n → ⊥ = λ h. none (subst (λ (vs : List (ℕ × List Item)). Contains (numbers vs) n) (sym (ap or_first_volume all ∙ first_same has.before some)) h) in
            ⊎_elim (λ (e : l.number ≡ n). subst (λ (m : ℕ). bytes_of (mid (Volume m)) ≡ []) e
            (ap bytes_of change.this ∙ bytes-cut_to (unwrap_or l.end 0) (old (Volume l.number)) ∙ ap (λ (x : Option ℕ). take (unwrap_or x 0) (bytes_of (old (Volume l.number)))) same))
            (λ (other : n ≢ l.number). untouched_below l mid change n other ∙ is.others n (λ h. let there : Contains (numbers (has.before ++ (l.number, has.items) ∷ [])) n = subst (λ (vs : List (ℕ × List Item)). Contains (numbers vs) n) has.are h in
            none_appended n l.number has.items has.before other absent there.0 there.1 there.2)) (this_or_other n l.number);
      }

  pub ends_mended : (last : Option Last) → IsLastEnd files c last → (bare : Bool) → IsBare files c bare → (bytes : List ℕ) → bytes ≡ label c.label (pos 0) → (new : Holdings) → VolumesAreMended last bare bytes old new → EndsMended new
  ends_mended last ends true is_bare bytes spelled new m = given_ends last ends is_bare m.mid new m.first bytes spelled m.second
  ends_mended None none false is_bare bytes spelled new m = absurd (is_bare (ap (labelled_volumes files) none))
  ends_mended (Some l) has false is_bare bytes spelled new m = subst (λ (h : Holdings). EndsMended h) (sym m.second) (cut_ends l has l.end refl has.is is_bare m.mid m.first)
