-- The spelling of a layout in version 2 is an image.
use Rattle.std.proofs.Common.{◌≡◌, ◌∙◌, ◌≤◌, ap, sym, subst, length}
use Rattle.mmv_layout.specs.Images.{IsImage}
use Rattle.mmv_layout.specs.Rows.{layout_of}
use Rattle.mmv_writer.specs.Lifting.{in_version_2}
use Rattle.mmv_writer.specs.Spelling.{image_words}
use Rattle.mmv_writer.proofs.Images.{drafts_are_images}
use Rattle.mmv_writer.proofs.Lifted.{layouts_are_of_version_2}
use Rattle.mmv_writer.proofs.lifting.lift.Goals as goal

pub of_words-requires : goal.of_words-requires
of_words-requires c =
    let same : in_version_2 c.in-Ok.layout ≡ in_version_2 (layout_of c.args.image.now) = ap in_version_2 c.in-Ok.ensures.value in
    subst IsImage (sym (c.in-Ok-words_of_draft.ensures.0 ∙ ap image_words same))
    (drafts_are_images (in_version_2 (layout_of c.args.image.now)) (layouts_are_of_version_2 c.args.image.now c.words-words.ensures.image)
    (subst (λ l. length (image_words l) ≤ 65536) same c.in-Ok-words_of_draft.ensures.1))
