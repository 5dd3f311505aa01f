-- The parts of a line. Each is taken from the bytes that are left of a line, with the one space before it; what is
-- taken comes with the bytes behind it.
use Rattle.std.specs.Prelude.{◌≡◌, ℕ, zero, suc, ◌+◌, ◌*◌, Bool, false, ◌&&◌, ◌||◌, ◌==◌, not, nat_le, if◌then◌else◌, List, [], ◌∷◌, length, take, drop, Option, Some, None, Result, Ok, Err, codes, bytes_eq}
use Rattle.std.specs.List.{list_any}
use Rattle.text_lines.specs.declared.rest.TakeFault.{TakeFault}
use Rattle.text_lines.specs.declared.rest.TakeFault.TheVariants as faults
use Rattle.text_lines.specs.Numbers.{◌>>=◌, is_low_hex, hex_digit}

-- What a function took and left of the bytes is what the taker says, unless memory ran out.
abbrev pub Taken : {X : Type 0} → Option (X × List ℕ) → Result X TakeFault → List ℕ → Type 0
Taken taken (Ok x) left = taken ≡ Some (x, left)
Taken taken (Err faults.NoLine) left = taken ≡ None
Taken taken (Err faults.NoMemory) left = Unit {0}

-- nothing was taken
abbrev pub IsStopped : {X : Type 0} → Option X → TakeFault → Type 0
IsStopped taken faults.NoLine = taken ≡ None
IsStopped taken faults.NoMemory = Unit {0}

-- What a function returned is what reading gives, unless memory ran out.
abbrev pub Read : {X : Type 0} → Option X → Result X TakeFault → Type 0
Read read (Ok x) = read ≡ Some x
Read read (Err faults.NoLine) = read ≡ None
Read read (Err faults.NoMemory) = Unit {0}

abbrev pub take_space : List ℕ → Option (Unit {0} × List ℕ)
take_space [] = None
take_space (b ∷ bs) = if b == 32 then Some (tt, bs) else None

-- the bytes before the first space
abbrev pub word_length : List ℕ → ℕ
word_length [] = 0
word_length (b ∷ bs) = if b == 32 then 0 else 1 + word_length bs

unfoldable pub first_word : List ℕ → List ℕ
first_word bytes = take (word_length bytes) bytes

unfoldable pub behind_word : List ℕ → List ℕ
behind_word bytes = drop (word_length bytes) bytes

unfoldable pub take_word : List ℕ → Option (List ℕ × List ℕ)
take_word bytes = do
  s ← take_space bytes
  Some (first_word s.1, behind_word s.1)

-- a word as what it reads
unfoldable pub take_as : {X : Type 0} → (List ℕ → Option X) → List ℕ → Option (X × List ℕ)
take_as read bytes = do
  w ← take_word bytes
  x ← read w.0
  Some (x, w.1)

-- a part that may be missing, for which `-` stands
unfoldable pub optional : {X : Type 0} → (List ℕ → Option X) → List ℕ → Option (Option X)
optional read word = if bytes_eq word (codes "-") then Some None else read word >>= (λ x. Some (Some x))

-- bytes that stand for themselves: 0x20 to 0x7e without the quote and the backslash
abbrev pub is_plain : ℕ → Bool
is_plain b = (nat_le 32 b && nat_le b 126) && (not (b == 34) && not (b == 92))

-- behind `\x`: two hexadecimal digits of lower case, other than 00
abbrev pub hex_byte : List ℕ → Option (ℕ × List ℕ)
hex_byte [] = None
hex_byte (d ∷ []) = None
hex_byte (d ∷ e ∷ bs) =
    if (is_low_hex d && is_low_hex e) && not (d == 48 && e == 48) then Some (16 * hex_digit d + hex_digit e, bs) else None

-- behind a backslash: a quote, a backslash, or a byte in hexadecimal
abbrev pub escaped_byte : List ℕ → Option (ℕ × List ℕ)
escaped_byte [] = None
escaped_byte (c ∷ bs) =
    if c == 34 || c == 92 then Some (c, bs) else if c == 120 then hex_byte bs else None

-- a byte of a quoted text
unfoldable pub text_byte : List ℕ → Option (ℕ × List ℕ)
text_byte [] = None
text_byte (b ∷ bs) = if b == 92 then escaped_byte bs else if is_plain b then Some (b, bs) else None

abbrev pub starts_quoted : List ℕ → Bool
starts_quoted [] = false
starts_quoted (b ∷ bs) = b == 34

-- a text of fewer than so many bytes up to the closing quote
unfoldable pub text_within : ℕ → List ℕ → Option (List ℕ × List ℕ)
text_within zero bytes = None
text_within (suc n) bytes =
    if starts_quoted bytes then Some ([], drop 1 bytes) else
    (do
      b ← text_byte bytes
      t ← text_within n b.1
      Some (b.0 ∷ t.0, t.1))

-- a text between quotes
unfoldable pub text_in_quotes : List ℕ → Option (List ℕ × List ℕ)
text_in_quotes bytes = if starts_quoted bytes then text_within (length bytes) (drop 1 bytes) else None

unfoldable pub take_text : List ℕ → Option (List ℕ × List ℕ)
take_text bytes = do
  s ← take_space bytes
  text_in_quotes s.1

abbrev pub starts_missing : List ℕ → Bool
starts_missing [] = false
starts_missing (b ∷ bs) = b == 45

-- a quoted text, or the `-` of a missing one
unfoldable pub take_help : List ℕ → Option (Option (List ℕ) × List ℕ)
take_help bytes = do
  s ← take_space bytes
  if starts_missing s.1 then Some (None, drop 1 s.1) else (text_in_quotes s.1 >>= (λ t. Some (Some t.0, t.1)))

-- Nothing stands behind the last part.
abbrev pub whole_line : {X : Type 0} → List ℕ → X → Option X
whole_line left x = if length left == 0 then Some x else None

-- a name: a word that isn't quoted, and without a zero byte
unfoldable pub name_of : List ℕ → Option (List ℕ)
name_of [] = None
name_of (b ∷ bs) = if b == 34 then None else if list_any (λ c. c == 0) (b ∷ bs) then None else Some (b ∷ bs)
