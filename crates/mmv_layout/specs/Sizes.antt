-- How many bytes each part of an image takes (mmv(5)). Between versions 1 and 2 the name fields differ alone.
use Rattle.std.specs.Prelude.{ℕ, ◌+◌, Bool, ◌||◌, ◌==◌, if◌then◌else◌}

-- a version that is read and written
abbrev pub is_version : ℕ → Bool
is_version version = version == 1 || version == 2

-- a name stands in its field, as in version 1; in version 2 the field has the offset of a string, and that is the name
abbrev pub has_inline_names : ℕ → Bool
has_inline_names version = version == 1

abbrev pub header_size : ℕ
header_size = 40

-- an entry of the contents
abbrev pub entry_size : ℕ
entry_size = 16

abbrev pub indom_size : ℕ
indom_size = 32

abbrev pub value_size : ℕ
value_size = 32

abbrev pub string_size : ℕ
string_size = 256

-- a name field: of a name, or of an offset
unfoldable pub name_width : ℕ → ℕ
name_width version = if has_inline_names version then 64 else 8

-- the bytes where a name stands, with the zero byte behind it: its field, or a string
unfoldable pub name_room : ℕ → ℕ
name_room version = if has_inline_names version then 64 else string_size

abbrev pub instance_size : ℕ → ℕ
instance_size version = 16 + name_width version

abbrev pub metric_size : ℕ → ℕ
metric_size version = name_width version + 40
