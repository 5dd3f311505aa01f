-- Where the first string of a text and the first row of a key stand, as ordered maps tell it.
use Rattle.std.specs.Prelude.{◌≡◌, ℕ, ℤ, ◌==◌, Bool, true, false, if◌then◌else◌, min, List, [], ◌∷◌, ◌++◌, map, take, length, Option, Some, None, bytes_eq, slice_get}
use Rattle.std.specs.Borrow.{Bor}
use Rattle.std.specs.Global.{Vec}
use Rattle.std.specs.List.{position}
use Rattle.std.specs.Ordering.{nat_cmp, int_cmp, int_eq}
use Rattle.std.specs.Cmp.Lexicographic.{slice_cmp}
use Rattle.std.specs.BTreeMap.{BTreeMap, get, get_by}
use Rattle.mmv_layout.specs.declared.rows.IndomRow.{IndomRow}
use Rattle.mmv_layout.specs.declared.rows.MetricRow.{MetricRow}
use Rattle.mmv_writer.specs.declared.lookups.DomainPlace.{DomainPlace}
use Rattle.mmv_writer.specs.Offsets.{instances_in}

-- the texts behind references
abbrev pub texts_behind : List (Bor (List ℕ)) → List (List ℕ)
texts_behind texts = map (λ text. text.now) texts

-- what a map has for a text: nothing where the text isn't looked up
abbrev pub first_of : BTreeMap (Vec ℕ) (Option ℕ) → List ℕ → Option (Option ℕ)
first_of firsts text = get_by (λ (key : Vec ℕ). slice_cmp nat_cmp text key.items) firsts

-- a text is looked up, and stands nowhere
abbrev pub is_open : Option (Option ℕ) → Bool
is_open None = false
is_open (Some None) = true
is_open (Some (Some at)) = false

-- what is kept, if something is, is this
abbrev pub Tells : Option (Option ℕ) → Option ℕ → Type 0
Tells None at = Unit {0}
Tells (Some kept) at = kept ≡ at

-- a map has for each text that is looked up the position of the first string that is equal to it, if there is one
abbrev pub IsIndex : BTreeMap (Vec ℕ) (Option ℕ) → List (List ℕ) → Type 0
IsIndex firsts strings = (text : List ℕ) → Tells (first_of firsts text) (position (λ other. bytes_eq other text) strings)

-- a map has for each text what another has
abbrev pub KeepsFirst : BTreeMap (Vec ℕ) (Option ℕ) → BTreeMap (Vec ℕ) (Option ℕ) → Type 0
KeepsFirst old new = (text : List ℕ) → first_of new text ≡ first_of old text

-- a map tells so many strings, and then another those and a text behind them
abbrev pub Grows : BTreeMap (Vec ℕ) (Option ℕ) → BTreeMap (Vec ℕ) (Option ℕ) → List ℕ → ℕ → Type 0
Grows old new text at = (strings : List (List ℕ)) → length strings ≡ at → IsIndex old strings → IsIndex new (strings ++ text ∷ [])

-- what is kept of a key, or else a new value where the key is its own
abbrev pub kept_or : {X : Type 0} → Option X → Bool → X → Option X
kept_or (Some x) here y = Some x
kept_or None here y = if here then Some y else None

-- a map has for each instance number the position of the first instance that has it
abbrev pub IsMemberIndex : BTreeMap ℤ ℕ → List (ℤ × List ℕ) → Type 0
IsMemberIndex members instances = (id : ℤ) → get int_cmp members id ≡ position (λ other. int_eq other.0 id) instances

-- a map has for each item the position of the first metric that has it
abbrev pub IsItemIndex : BTreeMap ℕ ℕ → List MetricRow → Type 0
IsItemIndex items rows = (item : ℕ) → get nat_cmp items item ≡ position (λ metric. metric.item == item) rows

-- what is kept of a domain whose row stands here, behind so many instances
pub record IsPlace (row : IndomRow) (at before : ℕ) (place : DomainPlace) : Type 0 where
  pub stands : place.at ≡ at
  pub behind : place.before ≡ before
  pub count : place.count ≡ length row.instances
  pub members : IsMemberIndex place.members row.instances

-- what is kept of a serial is its first domain's
abbrev pub IsTold : List IndomRow → Option DomainPlace → Option ℕ → Type 0
IsTold rows None None = Unit {0}
IsTold rows None (Some at) = ⊥
IsTold rows (Some place) None = ⊥
IsTold rows (Some place) (Some at) =
    (row : IndomRow) × (slice_get rows at ≡ Some row) × IsPlace row at (min (instances_in (take at rows)) 18446744073709551615) place

-- a map has for each serial what is kept of the first domain that has it
abbrev pub IsDomainIndex : BTreeMap ℕ DomainPlace → List IndomRow → Type 0
IsDomainIndex offsets rows = (serial : ℕ) → IsTold rows (get nat_cmp offsets serial) (position (λ row. row.serial == serial) rows)
