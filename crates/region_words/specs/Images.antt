-- Images of memory mapped values as a kind of layout.
use Rattle.std.specs.Prelude.{ℕ, List}
use Rattle.region_core.specs.Shape.{Shaping, IsShape}
use Rattle.mmv_layout.specs.Images.{IsImage}
use Rattle.mmv_layout.specs.Form.{Form, form_of}
use Rattle.mmv_layout.specs.ShapeLaws.{Takes}
use Rattle.mmv_layout.proofs.Shapes.{has_twice, is_no_value, value_keeps, length_keeps, generation_keeps}

-- which words are images, which form an image has, and which values a word takes
abbrev pub mmv : Shaping
mmv = record { Form = Form; IsImage = IsImage; form = form_of; Takes = Takes }

-- and that it keeps the laws of a layout
pub mmv_laws : IsShape mmv
mmv_laws = record {
  generations = has_twice;
  fixed = is_no_value;
  value = λ words w v image fits takes. let like = value_keeps words w v image fits takes in record { image = like.image; form = like.form };
  longer = λ words more image fits wide. let like = length_keeps words more image fits wide in record { image = like.image; form = like.form };
  renumbered = λ words n image fits. let like = generation_keeps words n image fits in record { image = like.image; form = like.form };
}
