-- A profile by domain, and its lists as sets.
use Rattle.std.specs.Prelude.{◌≡◌, ℕ, ℤ, Bool, if◌then◌else◌, ◌==◌, not, List, Option, Some, None, find}
use Rattle.std.specs.List.{list_any}
use Rattle.std.specs.Ordering.{nat_cmp, int_cmp, int_eq}
use Rattle.std.specs.BTreeMap.{BTreeMap, get}
use Rattle.std.specs.BTreeSet.{BTreeSet, contains}
use Rattle.profile_filter.specs.declared.profile.DomainPart.{DomainPart}
use Rattle.profile_filter.specs.Kept.{Settings, keeps}

-- a set has the instances of a list
abbrev pub HasListed : BTreeSet ℤ → List ℤ → Type 0
HasListed set instances = (instance : ℤ) → contains int_cmp set instance ≡ list_any (λ i. int_eq i instance) instances

-- a table has the first part of each domain
abbrev pub HasParts : BTreeMap ℕ DomainPart → List DomainPart → Type 0
HasParts table parts = (indom : ℕ) → get nat_cmp table indom ≡ find (λ part. part.indom == indom) parts

-- an answer, but for the instances in a set
abbrev pub kept_but : Bool → Option (BTreeSet ℤ) → ℤ → Bool
kept_but base None instance = base
kept_but base (Some set) instance = if contains int_cmp set instance then not base else base

-- so each instance is kept or not by a profile
abbrev pub Decides : Bool → Option (BTreeSet ℤ) → Settings → Option ℕ → Type 0
Decides base set s indom = (instance : ℤ) → kept_but base set instance ≡ keeps s indom instance
