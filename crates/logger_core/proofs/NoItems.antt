-- What a crash leaves of a creation has no item.
use Rattle.std.proofs.Common.{zero, suc, ◌≡◌, ◌≢◌, ◌⊎◌, inl, inr, ⊎_elim, ℕ, ◌<◌, ◌≤◌, pos, negsuc, List, [], ◌∷◌, ◌++◌, length, take, map, refl, sym, ap, ◌∙◌, subst, arith, length-append, cond}
use Rattle.std.specs.Prelude.{FitsSigned, Contains, Result, Ok, Err, OnOk}
use Rattle.std.specs.Int.{w32}
use Rattle.std.proofs.lemmas.Bool.{cases_lt, ne_eqb}
use Rattle.std.proofs.lemmas.Int.{fits_signed_from_abs}
use Rattle.std.proofs.lemmas.List.{take_all, length-take-le, append-nil, nil_from_length}
use Rattle.std.proofs.Math.Dec.{eqb-suc-zero}
use Rattle.pcp_base.specs.declared.file.FileId.{FileId}
use Rattle.pcp_base.specs.declared.file.FileId.TheVariants.{Meta, Index, Volume}
use Rattle.pcp_base.specs.declared.result.Item.{Item}
use Rattle.pcp_model.specs.Archive.{ArchiveContents, ArchiveReading, IsMeta, IsIndex, AreVolumes, LabelledFile, items_of}
use Rattle.pcp_model.specs.Disk.{Files, Held, Holdings, CrashImage, IsEmpty, bytes_of, contents_of, nothing_held}
use Rattle.pcp_model.specs.LabelFields.{LabelFields}
use Rattle.pcp_model.specs.Labels.{label, BeginsLabel}
use Rattle.pcp_model.specs.Payload.{IsItem}
use Rattle.pcp_model.specs.Records.{IsRecord}
use Rattle.pcp_model.specs.Sound.{NeverFalls}
use Rattle.pcp_model.proofs.Added.{no_torn_end}
use Rattle.pcp_model.proofs.Cuts.{SpelledLabel, cut_label, is_label}
use Rattle.pcp_model.proofs.Lengths.{length-label}
use Rattle.pcp_outside.specs.Devices.{AppendsSure, Becomes, held_after_append, made_sure, holdings_after_append}
use Rattle.archive_frame.specs.Labels.{LabelInRange}
use Rattle.logger_core.specs.Created.{HasNoItem, HoldsLabels}
use Rattle.logger_core.specs.Keeps.{IsPart, is_sure}
use Rattle.logger_core.proofs.Rests.{grown_is}
use Rattle.logger_core.proofs.Survival.{CutPart, cut_part}

pub meta_fits : FitsSigned w32 (negsuc 0)
meta_fits = fits_signed_from_abs w32 (negsuc 0) (omega arith)

pub index_fits : FitsSigned w32 (negsuc 1)
index_fits = fits_signed_from_abs w32 (negsuc 1) (omega arith)

pub first_fits : FitsSigned w32 (pos 0)
first_fits = fits_signed_from_abs w32 (pos 0) (omega arith)

pub spelled : (l : LabelFields) (n : _) → LabelInRange l n → SpelledLabel l
spelled l n r = record { pid = r.pid; start = r.start; host = r.host; zone = r.zone; fits = r.fits }

-- a label is a file without records
pub alone : {X : Type 0} (R : List ℕ → X → Type 0) (l : LabelFields) (n : _) → SpelledLabel l → FitsSigned w32 n → (bytes : List ℕ) → bytes ≡ label l n → LabelledFile R bytes l n [] []
alone R l n s fits bytes is = record { head = label l n; label = is_label l n s fits; payloads = []; read = tt; is = is ∙ sym (append-nil (label l n)) }

module _ (l : LabelFields) (s : SpelledLabel l) (image : Files) (m i v : ℕ) (meta : image Meta ≡ take m (label l (negsuc 0))) (index : image Index ≡ take i (label l (negsuc 1))) (volume : image (Volume 0) ≡ take v (label l (pos 0)))
    (others : (k : ℕ) → k ≢ 0 → image (Volume k) ≡ []) (index_after : (image Index ≡ []) ⊎ (132 ≤ m)) (volume_after : (image (Volume 0) ≡ []) ⊎ (132 ≤ m)) where
  whole : (n : _) (k : ℕ) → 132 ≤ k → take k (label l n) ≡ label l n
  whole n k le = take_all k (label l n) (omega (arith, length-label l n s.fits))

  each_volume : image (Volume 0) ≡ [] → (n : ℕ) → image (Volume n) ≡ []
  each_volume none zero = none
  each_volume none (suc n) = others (suc n) (λ e. cc)

  stopped : m < 132 → HasNoItem image
  stopped lt = record {
    reading = ArchiveReading.nothing;
    reads = record {
      meta = inr (l, subst (λ t. BeginsLabel t l (negsuc 0)) (sym meta) (cut_label l (negsuc 0) m s meta_fits lt));
      index = ⊎_elim (λ (none : image Index ≡ []). none) (λ (long : 132 ≤ m). absurd (omega arith)) index_after;
      volumes = each_volume (⊎_elim (λ (none : image (Volume 0) ≡ []). none) (λ (long : 132 ≤ m). absurd (omega arith)) volume_after);
    };
    sound = tt;
    none = refl;
    labelled = tt;
  }

  abbrev reads_as : List (ℕ × List Item) → ArchiveContents
  reads_as vs = record { label = l; records = []; entries = []; volumes = vs }

  meta_is : (vs : List (ℕ × List Item)) → 132 ≤ m → IsMeta (image Meta) (reads_as vs)
  meta_is vs le = record { torn = []; is_torn = no_torn_end; holds = alone IsRecord l (negsuc 0) s meta_fits (image Meta) (meta ∙ whole (negsuc 0) m le); consistent = tt }

  index_is : (vs : List (ℕ × List Item)) → IsIndex (image Index) (reads_as vs)
  index_is vs = ⊎_elim (λ (lt : i < 132). inl (refl, subst (λ t. BeginsLabel t l (negsuc 1)) (sym index) (cut_label l (negsuc 1) i s index_fits lt)))
      (λ (le : 132 ≤ i). inr (record { head = label l (negsuc 1); label = is_label l (negsuc 1) s index_fits; fit = tt; rest = []; short = omega arith; is = index ∙ whole (negsuc 1) i le ∙ sym (append-nil (label l (negsuc 1))) })) (cases_lt i 132)

  archived : 132 ≤ m → (vs : List (ℕ × List Item)) → items_of vs ≡ [] → AreVolumes image l vs → ((n : ℕ) → (Contains (map (λ v. v.0) vs) n → ⊥) → image (Volume n) ≡ []) → HasNoItem image
  archived le vs no_item are no_others = record {
    reading = ArchiveReading.archive (reads_as vs);
    reads = record { meta = meta_is vs le; index = index_is vs; volumes = are; others = no_others; labelled = inl refl };
    sound = (subst (λ xs. NeverFalls xs) (sym no_item) tt, tt);
    none = no_item;
    labelled = tt;
  }

  only_first : (n : ℕ) → (Contains (map (λ (w : ℕ × List Item). w.0) ((0, []) ∷ [])) n → ⊥) → image (Volume n) ≡ []
  only_first zero other = absurd (other (0, omega arith, refl))
  only_first (suc n) other = others (suc n) (λ e. cc)

  with_volume : 132 ≤ m → 1 ≤ v → HasNoItem image
  with_volume le some = archived le ((0, []) ∷ []) refl (⊎_elim
      (λ (lt : v < 132). inl (
        omega (arith, ap length volume, length-take-le v (label l (pos 0)) (omega (arith, length-label l (pos 0) s.fits))),
        refl,
        subst (λ t. BeginsLabel t l (pos 0)) (sym volume) (cut_label l (pos 0) v s first_fits lt),
      ))
      (λ (long : 132 ≤ v). inr ([], no_torn_end, alone IsItem l (pos 0) s first_fits (image (Volume 0)) (volume ∙ whole (pos 0) v long))) (cases_lt v 132)) only_first

  pub no_item_left : HasNoItem image
  no_item_left = ⊎_elim stopped (λ (le : 132 ≤ m). ⊎_elim
      (λ (none : v < 1). archived le [] refl tt (λ n other. each_volume (volume ∙ ap (λ k. take k (label l (pos 0))) (let z : v ≡ 0 = omega arith in z)) n))
      (λ (some : 1 ≤ v). with_volume le some) (cases_lt v 1)) (cases_lt m 132)

-- ---- the stages of a creation

pub record Stage (held : Holdings) (hm hi hv : Held) : Type 0 where
  pub meta : held Meta ≡ hm
  pub index : held Index ≡ hi
  pub volume : held (Volume 0) ≡ hv
  pub others : (k : ℕ) → k ≢ 0 → held (Volume k) ≡ nothing_held

nothing_of : (h : Held) → bytes_of h ≡ [] → h ≡ nothing_held
nothing_of h none =
    let no_sure : h.sure ≡ [] = nil_from_length h.sure (omega (arith, ap length none, length-append h.sure h.rest)) in
    let no_rest : h.rest ≡ [] = nil_from_length h.rest (omega (arith, ap length none, length-append h.sure h.rest)) in
    ap (λ r. record { sure = h.sure; rest = r }) no_rest ∙ ap (λ t. record { sure = t; rest = [] }) no_sure

pub first_stage : (held : Holdings) → IsEmpty (contents_of held) → Stage held nothing_held nothing_held nothing_held
first_stage held empty = record {
  meta = nothing_of (held Meta) (empty Meta);
  index = nothing_of (held Index) (empty Index);
  volume = nothing_of (held (Volume 0)) (empty (Volume 0));
  others = λ k other. nothing_of (held (Volume k)) (empty (Volume k));
}

begins_with : (bytes whole : List ℕ) → bytes ≡ whole → IsPart (held_after_append nothing_held bytes) whole
begins_with bytes whole is = record { more = []; is = append-nil bytes ∙ is }

all_sure : (whole : List ℕ) → IsPart (is_sure whole) whole
all_sure whole = record { more = []; is = append-nil (whole ++ []) ∙ append-nil whole }

none_yet : (whole : List ℕ) → IsPart nothing_held whole
none_yet whole = record { more = whole; is = refl }

part_left : (held : Holdings) (file : FileId) (h : Held) (whole : List ℕ) (image : Files) → held file ≡ h → IsPart h whole → CrashImage held image → CutPart h whole (image file)
part_left held file h whole image is part crash = cut_part h whole (image file) part (crash file).0 ((crash file).1 ∙ ap (λ (g : Held). g.sure ++ take (crash file).0 g.rest) is)

empty_left : (held : Holdings) (file : FileId) (image : Files) → held file ≡ nothing_held → CrashImage held image → image file ≡ []
empty_left held file image is crash = (crash file).1 ∙ ap (λ (g : Held). g.sure ++ take (crash file).0 g.rest) is ∙ take_all {A = ℕ} (crash file).0 [] (omega arith)

-- of a stage whose later files are empty, or Meta is sure, a crash leaves no item
stage_left : (l : LabelFields) (s : SpelledLabel l) (held : Holdings) (hm hi hv : Held) → Stage held hm hi hv → IsPart hm (label l (negsuc 0)) → IsPart hi (label l (negsuc 1)) → IsPart hv (label l (pos 0))
    → (hi ≡ nothing_held) ⊎ (132 ≤ length hm.sure) → (hv ≡ nothing_held) ⊎ (132 ≤ length hm.sure) → (image : Files) → CrashImage held image → HasNoItem image
stage_left l s held hm hi hv st pm pi pv after_index after_volume image crash =
    let m : CutPart hm (label l (negsuc 0)) (image Meta) = part_left held Meta hm (label l (negsuc 0)) image st.meta pm crash in
    let i : CutPart hi (label l (negsuc 1)) (image Index) = part_left held Index hi (label l (negsuc 1)) image st.index pi crash in
    let v : CutPart hv (label l (pos 0)) (image (Volume 0)) = part_left held (Volume 0) hv (label l (pos 0)) image st.volume pv crash in
    no_item_left l s image m.m i.m v.m m.is i.is v.is (λ k other. empty_left held (Volume k) image (st.others k other) crash)
    (⊎_elim (λ (none : hi ≡ nothing_held). inl (empty_left held Index image (st.index ∙ none) crash)) (λ (long : 132 ≤ length hm.sure). inr (omega (arith, m.sure))) after_index)
    (⊎_elim (λ (none : hv ≡ nothing_held). inl (empty_left held (Volume 0) image (st.volume ∙ none) crash)) (λ (long : 132 ≤ length hm.sure). inr (omega (arith, m.sure))) after_volume)

module _ (l : LabelFields) (r : LabelInRange l (pos 0)) where
  s : SpelledLabel l
  s = spelled l (pos 0) r

  meta_long : 132 ≤ length (label l (negsuc 0))
  meta_long = omega (arith, length-label l (negsuc 0) r.fits)

  pub meta_left : (held : Holdings) (bytes : List ℕ) → bytes ≡ label l (negsuc 0) → IsEmpty (contents_of held) → (image : Files) → CrashImage (holdings_after_append Meta bytes held) image → HasNoItem image
  meta_left held bytes is empty =
      let st : Stage held nothing_held nothing_held nothing_held = first_stage held empty in
      stage_left l s (holdings_after_append Meta bytes held) (held_after_append nothing_held bytes) nothing_held nothing_held
      record { meta = ap (λ h. held_after_append h bytes) st.meta; index = st.index; volume = st.volume; others = st.others }
      (begins_with bytes (label l (negsuc 0)) is) (none_yet (label l (negsuc 1))) (none_yet (label l (pos 0))) (inl refl) (inl refl)

  abbrev WithMeta : Holdings → Type 0
  WithMeta held = Stage held (is_sure (label l (negsuc 0))) nothing_held nothing_held

  abbrev WithIndex : Holdings → Type 0
  WithIndex held = Stage held (is_sure (label l (negsuc 0))) (is_sure (label l (negsuc 1))) nothing_held

  pub with_meta : (held new : Holdings) (bytes : List ℕ) → bytes ≡ label l (negsuc 0) → IsEmpty (contents_of held) → Becomes Meta (made_sure (held Meta) bytes) held new → WithMeta new
  with_meta held new bytes is empty change =
      let st : Stage held nothing_held nothing_held nothing_held = first_stage held empty in
      record {
        meta = change.this ∙ ap (λ h. made_sure h bytes) st.meta ∙ ap (λ t. is_sure t) is;
        index = change.others Index refl ∙ st.index;
        volume = change.others (Volume 0) refl ∙ st.volume;
        others = λ k other. change.others (Volume k) refl ∙ st.others k other;
      }

  pub index_left : (held : Holdings) (bytes : List ℕ) → bytes ≡ label l (negsuc 1) → WithMeta held → (image : Files) → CrashImage (holdings_after_append Index bytes held) image → HasNoItem image
  index_left held bytes is st =
      stage_left l s (holdings_after_append Index bytes held) (is_sure (label l (negsuc 0))) (held_after_append nothing_held bytes) nothing_held
      record { meta = st.meta; index = ap (λ h. held_after_append h bytes) st.index; volume = st.volume; others = st.others }
      (all_sure (label l (negsuc 0))) (begins_with bytes (label l (negsuc 1)) is) (none_yet (label l (pos 0))) (inr meta_long) (inl refl)

  pub with_index : (held new : Holdings) (bytes : List ℕ) → bytes ≡ label l (negsuc 1) → WithMeta held → Becomes Index (made_sure (held Index) bytes) held new → WithIndex new
  with_index held new bytes is st change = record {
    meta = change.others Meta refl ∙ st.meta;
    index = change.this ∙ ap (λ h. made_sure h bytes) st.index ∙ ap (λ t. is_sure t) is;
    volume = change.others (Volume 0) refl ∙ st.volume;
    others = λ k other. change.others (Volume k) refl ∙ st.others k other;
  }

  not_first : (bytes : List ℕ) (held : Holdings) → WithIndex held → (k : ℕ) → k ≢ 0 → holdings_after_append (Volume 0) bytes held (Volume k) ≡ nothing_held
  not_first bytes held st k other = (grown_is (Volume 0) bytes held).others (Volume k) (ne_eqb 0 k (λ e. other (sym e))) ∙ st.others k other

  pub volume_left : (held : Holdings) (bytes : List ℕ) → bytes ≡ label l (pos 0) → WithIndex held → (image : Files) → CrashImage (holdings_after_append (Volume 0) bytes held) image → HasNoItem image
  volume_left held bytes is st =
      stage_left l s (holdings_after_append (Volume 0) bytes held) (is_sure (label l (negsuc 0))) (is_sure (label l (negsuc 1))) (held_after_append nothing_held bytes)
      record { meta = st.meta; index = st.index; volume = ap (λ h. held_after_append h bytes) st.volume; others = not_first bytes held st }
      (all_sure (label l (negsuc 0))) (all_sure (label l (negsuc 1))) (begins_with bytes (label l (pos 0)) is) (inr meta_long) (inr meta_long)

  pub with_labels : (held new : Holdings) (bytes : List ℕ) → bytes ≡ label l (pos 0) → WithIndex held → Becomes (Volume 0) (made_sure (held (Volume 0)) bytes) held new → HoldsLabels l new
  with_labels held new bytes is st change Meta = change.others Meta refl ∙ st.meta
  with_labels held new bytes is st change Index = change.others Index refl ∙ st.index
  with_labels held new bytes is st change (Volume zero) = change.this ∙ ap (λ h. made_sure h bytes) st.volume ∙ ap (λ t. is_sure t) is
  with_labels held new bytes is st change (Volume (suc k)) =
      change.others (Volume (suc k)) (ne_eqb 0 (suc k) (λ e. cc)) ∙ st.others (suc k) (λ e. cc) ∙ ap (λ b. is_sure (cond b (label l (pos 0)) [])) (sym (eqb-suc-zero k))

  pub labels_after : {E : Type 0} (held new : Holdings) (bytes : List ℕ) (result : Result (Unit {0}) E) → bytes ≡ label l (pos 0) → WithIndex held → AppendsSure (Volume 0) bytes held new result → OnOk result (HoldsLabels l new)
  labels_after held new bytes (Ok v) is st change = with_labels held new bytes is st change
  labels_after held new bytes (Err e) is st change = tt

-- a disk that holds nothing leaves no item
pub nothing_left : (held : Holdings) → IsEmpty (contents_of held) → (image : Files) → CrashImage held image → HasNoItem image
nothing_left held empty image crash = record {
  reading = ArchiveReading.nothing;
  reads = record {
    meta = inl (empty_left held Meta image (nothing_of (held Meta) (empty Meta)) crash);
    index = empty_left held Index image (nothing_of (held Index) (empty Index)) crash;
    volumes = λ n. empty_left held (Volume n) image (nothing_of (held (Volume n)) (empty (Volume n))) crash;
  };
  sound = tt;
  none = refl;
  labelled = tt;
}
