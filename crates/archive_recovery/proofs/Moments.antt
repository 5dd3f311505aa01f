-- What a crash leaves while files are cut and labels given.
use Rattle.std.proofs.Common.{◌≡◌, inl, inr, ℕ, List, [], length, take, refl, ap, ◌∙◌, subst}
use Rattle.std.specs.Prelude.{◌-◌, ◌++◌, false, None}
use Rattle.std.proofs.Common.{arith}
use Rattle.pcp_base.specs.declared.file.FileId.{FileId}
use Rattle.pcp_base.specs.declared.file.FileId.TheVariants.{Meta, Index, Volume}
use Rattle.pcp_model.specs.Disk.{Files, Held, Holdings, CrashImage, bytes_of}
use Rattle.pcp_model.specs.Written.{same_file}
use Rattle.pcp_outside.specs.Devices.{Becomes, Survives, cut_to, holdings_after_append}
use Rattle.pcp_outside.proofs.Images.{image_cut, survives_now}
use Rattle.archive_recovery.specs.Mending.{MayBeCut, IndexMayBe}

pub uncut_image : (file : FileId) (end : ℕ) (held : Holdings) (image : Files) → CrashImage held image → MayBeCut file end held image
uncut_image file end held image left = record { before = image; left = left; others = λ g other. refl; this = inl refl }

pub cut_image : (file : FileId) (end : ℕ) (old new : Holdings) → Becomes file (cut_to end (old file)) old new → (image : Files) → CrashImage new image → MayBeCut file end old image
cut_image file end old new change image left =
    let d = image_cut file end old new image change left in
    record { before = d.0; left = d.1; others = d.3; this = inr d.2 }

-- ---- the index, whose label wasn't whole

-- on its way to no byte
pub emptied_image : (label : List ℕ) (held : Holdings) (image : Files) → MayBeCut Index 0 held image → IndexMayBe None label held image
emptied_image label held image cut = record {
  before = cut.before;
  left = cut.left;
  others = cut.others;
  this = elim cut.this [
    | inl same ↦ inl same
    | inr none ↦ inr (0, none)
  ];
}

pub emptied : (h : Held) → cut_to 0 h ≡ record { sure = []; rest = [] }
emptied h = ap (λ n. record { sure = []; rest = take n h.rest }) (let e : 0 - length h.sure ≡ 0 = omega arith in e)

was_before : Holdings → Files → Files
was_before old image Meta = image Meta
was_before old image Index = bytes_of (old Index)
was_before old image (Volume n) = image (Volume n)

-- its new label is begun
pub label_image : (label : List ℕ) (old mid : Holdings) → Becomes Index (cut_to 0 (old Index)) old mid → (image : Files) → CrashImage (holdings_after_append Index label mid) image → IndexMayBe None label old image
unfolding was_before
label_image label old mid change image left = record {
  before = was_before old image;
  left = survived;
  others = same;
  this = inr ((left Index).0, (left Index).1 ∙ ap (λ (h : Held). h.sure ++ take (left Index).0 (h.rest ++ label)) (change.this ∙ emptied (old Index)));
}
  where
    survived : CrashImage old (was_before old image)
    survived Meta = subst (λ (h : Held). Survives h (image Meta)) (change.others Meta refl) (left Meta)
    survived Index = survives_now (old Index)
    survived (Volume n) = subst (λ (h : Held). Survives h (image (Volume n))) (change.others (Volume n) refl) (left (Volume n))

    same : (g : FileId) → same_file Index g ≡ false → image g ≡ was_before old image g
    same Meta other = refl
    same Index other = cc
    same (Volume n) other = refl
