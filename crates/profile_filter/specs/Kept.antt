-- Which instances a profile keeps (pmFetch(3)): the first part of an instance domain decides, and
-- without one the global state does.
use Rattle.std.specs.Prelude.{ℕ, ℤ, Bool, true, if◌then◌else◌, ◌==◌, not, List, Option, Some, None, find}
use Rattle.std.specs.List.{list_any}
use Rattle.std.specs.Ordering.{int_eq}
use Rattle.profile_filter.specs.declared.profile.DomainPart.{DomainPart}

pub record Settings : Type 0 where
  pub global : Bool
  pub parts : List DomainPart

-- a part that includes keeps all but the listed instances; one that excludes keeps none but the listed
abbrev pub is_kept_by : DomainPart → ℤ → Bool
is_kept_by part instance = if list_any (λ i. int_eq i instance) part.instances then not part.include else part.include

abbrev pub decides : Bool → Option DomainPart → ℤ → Bool
decides global None instance = global
decides global (Some part) instance = is_kept_by part instance

-- an instance of a domain is kept
abbrev pub is_kept : Settings → ℕ → ℤ → Bool
is_kept s indom instance = decides s.global (find (λ part. part.indom == indom) s.parts) instance

-- Whether a metric's instance is shown, by the metric's domain, if it has one; a metric without a domain ignores the profile.
abbrev pub keeps : Settings → Option ℕ → ℤ → Bool
keeps s None instance = true
keeps s (Some indom) instance = is_kept s indom instance

-- the instances of a metric are asked of a profile by the metric's domain
pub record Question : Type 0 where
  pub settings : Settings
  pub indom : Option ℕ
