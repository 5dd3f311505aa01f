-- The grammar of a logger's configuration (pmlogger(1)): any number of statements
-- `log mandatory on INTERVAL { NAMES }`, and what its first fault is.
use Rattle.std.specs.Prelude.{◌≡◌, ℕ, ◌+◌, ◌-◌, ◌*◌, ◌<◌, ◌≤◌, Bool, ◌&&◌, ◌||◌, nat_le, ◌==◌, IsTrue, ◌⊎◌, List, [], ◌∷◌, ◌++◌, length, take, Option, Some, None, codes}
use Rattle.std.specs.List.{AllByRecursion}
use Rattle.pcp_base.specs.Names.{IsName}
use Rattle.log_schedule.specs.declared.config.Group.{Group}

abbrev pub is_digit : ℕ → Bool
is_digit b = nat_le 48 b && nat_le b 57

-- each byte passes a test
abbrev pub Each : (ℕ → Bool) → List ℕ → Type 0
Each test bytes = AllByRecursion (λ b. IsTrue (test b)) bytes

-- a space or a line feed
abbrev pub is_blank : ℕ → Bool
is_blank b = (b == 32) || (b == 10)

-- what stands between names: spaces, line feeds and commas
abbrev pub is_between : ℕ → Bool
is_between b = is_blank b || (b == 44)

-- words with nothing else between them have at least one blank
abbrev pub IsGap : List ℕ → Type 0
IsGap [] = ⊥
IsGap (b ∷ bytes) = IsTrue (is_blank b) × Each is_blank bytes

-- the number that goes on from n with these digits
abbrev pub number_from : ℕ → List ℕ → ℕ
number_from n [] = n
number_from n (d ∷ digits) = number_from (n * 10 + (d - 48)) digits

-- decimal digits, the first of them not 0
abbrev pub IsNumber : List ℕ → ℕ → Type 0
IsNumber [] n = ⊥
IsNumber (d ∷ digits) n = (49 ≤ d) × (d ≤ 57) × Each is_digit digits × (n ≡ number_from (d - 48) digits)

-- a unit, and its milliseconds
abbrev pub IsUnit : List ℕ → ℕ → Type 0
IsUnit word ms =
    ((word ≡ codes "msec") × (ms ≡ 1)) ⊎ (((word ≡ codes "sec") × (ms ≡ 1000))
    ⊎ (((word ≡ codes "min") × (ms ≡ 60000)) ⊎ ((word ≡ codes "hour") × (ms ≡ 3600000))))

-- nothing, or `every` and a gap
abbrev pub IsEvery : List ℕ → Type 0
IsEvery bytes = (bytes ≡ []) ⊎ ((gap : List ℕ) × (bytes ≡ codes "every" ++ gap) × IsGap gap)

-- a number from 1 to 1,000,000,000 and a unit, with `every` before them or not
pub record IsTimed (bytes : List ℕ) (ms : ℕ) : Type 0 where
  pub every : List ℕ
  pub digits : List ℕ
  pub gap : List ℕ
  pub word : List ℕ
  pub number : ℕ
  pub each : ℕ
  pub spelled : bytes ≡ every ++ (digits ++ (gap ++ word))
  pub may_repeat : IsEvery every
  pub is_number : IsNumber digits number
  pub in_range : number ≤ 1000000000
  pub is_gap : IsGap gap
  pub is_unit : IsUnit word each
  pub product : ms ≡ number * each

abbrev pub IsInterval : List ℕ → Option ℕ → Type 0
IsInterval bytes None = bytes ≡ codes "once"
IsInterval bytes (Some ms) = IsTimed bytes ms

-- names, with spaces, line feeds or commas before each
abbrev pub MoreNames : List ℕ → List (List ℕ) → Type 0
MoreNames bytes [] = bytes ≡ []
MoreNames bytes (name ∷ names) = (b : ℕ) × (between : List ℕ) × (rest : List ℕ) × (bytes ≡ b ∷ (between ++ (name ++ rest)))
    × IsTrue (is_between b) × Each is_between between × IsName name × MoreNames rest names

-- one or more names
abbrev pub AreNames : List ℕ → List (List ℕ) → Type 0
AreNames bytes [] = ⊥
AreNames bytes (name ∷ names) = (rest : List ℕ) × (bytes ≡ name ++ rest) × IsName name × MoreNames rest names

-- `log mandatory on INTERVAL { NAMES }`
pub record IsStatement (bytes : List ℕ) (group : Group) : Type 0 where
  pub gap_1 : List ℕ
  pub gap_2 : List ℕ
  pub gap_3 : List ℕ
  pub interval : List ℕ
  pub blanks_1 : List ℕ
  pub blanks_2 : List ℕ
  pub names : List ℕ
  pub blanks_3 : List ℕ
  pub spelled : bytes ≡ codes "log" ++ (gap_1 ++ (codes "mandatory" ++ (gap_2 ++ (codes "on" ++ (gap_3
      ++ (interval ++ (blanks_1 ++ (123 ∷ (blanks_2 ++ (names ++ (blanks_3 ++ 125 ∷ [])))))))))))
  pub gaps : IsGap gap_1 × IsGap gap_2 × IsGap gap_3
  pub blanks : Each is_blank blanks_1 × Each is_blank blanks_2 × Each is_blank blanks_3
  pub is_interval : IsInterval interval group.interval
  pub are_names : AreNames names group.names

-- statements, with blanks anywhere between them
abbrev pub IsConfiguration : List ℕ → List Group → Type 0
IsConfiguration bytes [] = Each is_blank bytes
IsConfiguration bytes (group ∷ groups) = (blanks : List ℕ) × (statement : List ℕ) × (rest : List ℕ)
    × (bytes ≡ blanks ++ (statement ++ rest)) × Each is_blank blanks × IsStatement statement group × IsConfiguration rest groups

-- some configuration begins with these bytes
pub record IsBeginning (bytes : List ℕ) : Type 0 where
  pub more : List ℕ
  pub groups : List Group
  pub whole : IsConfiguration (bytes ++ more) groups

-- what stands before a fault can go on as a configuration, and with the byte there it can't; past the
-- last byte the text is too short
pub record IsFault (text : List ℕ) (at : ℕ) : Type 0 where
  pub within : at ≤ length text
  pub good : IsBeginning (take at text)
  pub bad : at < length text → IsBeginning (take (at + 1) text) → ⊥
  pub short : at ≡ length text → (groups : List Group) → IsConfiguration text groups → ⊥
