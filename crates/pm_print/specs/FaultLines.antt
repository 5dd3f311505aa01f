-- The line of each fault of an input: its name and its fields.
use Rattle.std.specs.Prelude.{ℕ, List, [], ◌∷◌, ◌++◌, codes}
use Rattle.std.specs.Fmt.{decimal}
use Rattle.mmv_layout.specs.declared.fault.ImageFault.{ImageFault}
use Rattle.mmv_layout.specs.declared.fault.ImageFault.TheVariants as faults
use Rattle.mmv_writer.specs.declared.fault.BuildFault.TheVariants as builds
use Rattle.mmv_writer.specs.declared.line_fault.LineFault.{LineFault}
use Rattle.mmv_writer.specs.declared.line_fault.LineFault.TheVariants as lines

-- the line of an image's fault. Want of memory is no fault of an image.
unfoldable pub image_line : ImageFault → List ℕ
image_line (faults.Short have) = codes "input image Short " ++ (decimal have ++ 10 ∷ [])
image_line (faults.TooLarge words) = codes "input image TooLarge " ++ (decimal words ++ 10 ∷ [])
image_line faults.Magic = codes "input image Magic\n"
image_line (faults.Version found) = codes "input image Version " ++ (decimal found ++ 10 ∷ [])
image_line (faults.Generations g1 g2) = codes "input image Generations " ++ (decimal g1 ++ (codes " " ++ (decimal g2 ++ 10 ∷ [])))
image_line (faults.Section kind) = codes "input image Section " ++ (decimal kind ++ 10 ∷ [])
image_line (faults.Offset at) = codes "input image Offset " ++ (decimal at ++ 10 ∷ [])
image_line (faults.Name at) = codes "input image Name " ++ (decimal at ++ 10 ∷ [])
image_line (faults.Kind at) = codes "input image Kind " ++ (decimal at ++ 10 ∷ [])
image_line (faults.Reference at) = codes "input image Reference " ++ (decimal at ++ 10 ∷ [])
image_line (faults.Duplicate at) = codes "input image Duplicate " ++ (decimal at ++ 10 ∷ [])
image_line (faults.Serial at) = codes "input image Serial " ++ (decimal at ++ 10 ∷ [])
image_line faults.NoMemory = []

-- the fault of a line: its form, the builder's fault with its fields, or a rule
unfoldable pub fault_words : LineFault → List ℕ
fault_words lines.Grammar = codes "Grammar\n"
fault_words lines.Condition = codes "Condition\n"
fault_words (lines.Build builds.Name) = codes "Name\n"
fault_words (lines.Build builds.Duplicate) = codes "Duplicate\n"
fault_words (lines.Build (builds.Unknown serial)) = codes "Unknown " ++ (decimal serial ++ 10 ∷ [])
fault_words (lines.Build builds.Serial) = codes "Serial\n"
fault_words (lines.Build builds.Item) = codes "Item\n"
fault_words (lines.Build (builds.TooLarge words)) = codes "TooLarge " ++ (decimal words ++ 10 ∷ [])
fault_words (lines.Build builds.NoMemory) = []

-- the line of a text's fault: the number of the faulty line, and its fault. Want of memory is no fault of a line.
unfoldable pub text_line : ℕ → LineFault → List ℕ
text_line line fault = codes "input line " ++ (decimal line ++ (codes " " ++ fault_words fault))
