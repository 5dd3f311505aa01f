-- Grammars: which bytes spell which values. A grammar may go on by what stands before.
use Rattle.std.specs.Prelude.{◌≡◌, ℕ, ℤ, zero, suc, ◌<◌, Bool, true, false, List, [], ◌∷◌, ◌++◌, length, FitsSigned}
use Rattle.std.specs.Int.{w32}
use Rattle.pcp_base.specs.Texts.{IsText}
use Rattle.profile_filter.specs.declared.profile.DomainPart.{DomainPart}
use Rattle.pcp_model.specs.Words.{word, signed_word}
use Rattle.pcp_model.specs.Payload.{filling}
use Rattle.pdu_codec.specs.declared.lists.Head.{Head}
use Rattle.pdu_codec.specs.Reading.{part_of}

-- no byte, and this value
abbrev pub Is : {X : Type 0} → X → List ℕ → X → Type 0
Is x text y = (text ≡ []) × (y ≡ x)

-- a text, and behind it one whose grammar goes by the first one's value; the value is that of the second
pub record Both {X Y : Type 0} (G : List ℕ → X → Type 0) (H : X → List ℕ → Y → Type 0) (text : List ℕ) (y : Y) : Type 0 where
  pub value : X
  pub front : List ℕ
  pub back : List ℕ
  pub cut : text ≡ front ++ back
  pub first : G front value
  pub second : H value back y

infixl 10 ◌>>=◌
abbrev pub ◌>>=◌ : {X Y : Type 0} → (List ℕ → X → Type 0) → (X → List ℕ → Y → Type 0) → List ℕ → Y → Type 0
G >>= H = Both G H

-- these bytes, and how many they are
abbrev pub IsExactly : List ℕ → List ℕ → ℕ → Type 0
IsExactly wanted text size = (text ≡ wanted) × (size ≡ length wanted)

-- a word of 4 bytes
abbrev pub Word : List ℕ → ℕ → Type 0
Word text n = (text ≡ word n) × (n < 4294967296)

abbrev pub Signed : List ℕ → ℤ → Type 0
Signed text z = (text ≡ signed_word z) × FitsSigned w32 z

-- 0 includes, 1 excludes
abbrev pub state_word : Bool → ℕ
state_word true = 0
state_word false = 1

abbrev pub State : List ℕ → Bool → Type 0
State text include = text ≡ word (state_word include)

-- so many bytes, none of them zero, and any padding to a whole word
pub record TextOf (size : ℕ) (text : List ℕ) (t : List ℕ) : Type 0 where
  pub padding : List ℕ
  pub cut : text ≡ t ++ padding
  pub long : length t ≡ size
  pub clean : IsText t
  pub filled : length padding ≡ filling size

-- its length before it
abbrev pub TextField : List ℕ → List ℕ → Type 0
TextField = do
  size ← Word
  TextOf size

-- an instance's number and its name
abbrev pub Pair : List ℕ → ℤ × List ℕ → Type 0
Pair = do
  instance ← Signed
  name ← TextField
  Is (instance, name)

abbrev pub zero_word : List ℕ
zero_word = 0 ∷ 0 ∷ 0 ∷ 0 ∷ []

-- the head of a domain's part in a profile
abbrev pub HeadField : List ℕ → Head → Type 0
HeadField = do
  indom ← Word
  include ← State
  count ← Word
  none ← IsExactly zero_word
  Is (record { indom = indom; include = include; count = count })

-- so many, one behind another
abbrev pub Many : {X : Type 0} → (List ℕ → X → Type 0) → ℕ → List ℕ → List X → Type 0
Many G zero = Is []
Many G (suc n) = do
  x ← G
  xs ← Many G n
  Is (x ∷ xs)

-- the instances of each head's part
abbrev pub Parts : List Head → List ℕ → List DomainPart → Type 0
Parts [] = Is []
Parts (head ∷ heads) = do
  instances ← Many Signed head.count
  parts ← Parts heads
  Is (part_of head instances ∷ parts)
