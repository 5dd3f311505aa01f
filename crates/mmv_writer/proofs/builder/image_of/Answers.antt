-- The spelling of a draft is an image.
use Rattle.std.proofs.Common.{sym, subst}
use Rattle.mmv_layout.specs.Images.{IsImage}
use Rattle.mmv_writer.proofs.Images.{drafts_are_images}
use Rattle.mmv_writer.proofs.builder.image_of.Goals as goal

pub of_words-requires : goal.of_words-requires
of_words-requires c = subst IsImage (sym c.in_ok-words.ensures.0) (drafts_are_images c.args.draft.now c.requires c.in_ok-words.ensures.1)
