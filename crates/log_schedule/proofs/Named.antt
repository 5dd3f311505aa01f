-- A name taken apart: its first component, and the others, each behind a `.`.
use Rattle.std.proofs.Common.{◌≡◌, ℕ, ◌<◌, Bool, true, false, IsTrue, ◌&&◌, List, [], ◌∷◌, ◌++◌, length, refl, sym, ap, ◌∙◌, arith}
use Rattle.std.proofs.lemmas.List.{append-nil}
use Rattle.std.specs.List.{AllByRecursion, join_with_byte, list_all}
use Rattle.pcp_base.specs.Names.{is_name_byte, IsComponent, AreComponents, IsName}
use Rattle.log_schedule.specs.Configuration.{Each}

-- components, each behind a `.`
abbrev pub with_points : List (List ℕ) → List ℕ
with_points [] = []
with_points (c ∷ more) = 46 ∷ (c ++ with_points more)

pub record Parted (name : List ℕ) : Type 0 where
  pub first : List ℕ
  pub more : List (List ℕ)
  pub spelled : name ≡ first ++ with_points more
  pub component : IsComponent first
  pub components : AllByRecursion IsComponent more

both : (x y : Bool) → (x && y) ≡ true → (x ≡ true) × (y ≡ true)
both true y h = (refl, h)
both false y h = (cc, cc)

pub all_pass : (bytes : List ℕ) → Each is_name_byte bytes → IsTrue (list_all is_name_byte bytes)
all_pass [] each = refl
all_pass (b ∷ bytes) (passes, each) = ap (λ t. t && list_all is_name_byte bytes) passes ∙ all_pass bytes each

pub each_passes : (bytes : List ℕ) → IsTrue (list_all is_name_byte bytes) → Each is_name_byte bytes
each_passes [] all = tt
each_passes (b ∷ bytes) all = let h = both (is_name_byte b) (list_all is_name_byte bytes) all in (h.0, each_passes bytes h.1)

joined : (first : List ℕ) (more : List (List ℕ)) → first ++ with_points more ≡ join_with_byte 46 (first ∷ more)
joined first [] = append-nil first
joined first (c ∷ more) = ap (λ t. first ++ 46 ∷ t) (joined c more)

are_components : (parts : List (List ℕ)) → AllByRecursion IsComponent parts → AreComponents parts
are_components [] each = tt
are_components (part ∷ parts) (is, each) = (is, are_components parts each)

each_component : (parts : List (List ℕ)) → AreComponents parts → AllByRecursion IsComponent parts
each_component [] are = tt
each_component (part ∷ parts) (is, are) = (is, each_component parts are)

pub named : (name : List ℕ) → Parted name → IsName name
named name p = (p.first ∷ p.more, omega arith, (p.component, are_components p.more p.components), p.spelled ∙ joined p.first p.more)

by_parts : (name : List ℕ) (parts : List (List ℕ)) → 0 < length parts → AreComponents parts → name ≡ join_with_byte 46 parts → Parted name
by_parts name [] some are spelled = absurd (omega (arith, some))
by_parts name (first ∷ more) some (is, are) spelled =
    record { first = first; more = more; spelled = spelled ∙ sym (joined first more); component = is; components = each_component more are }

pub parted : (name : List ℕ) → IsName name → Parted name
parted name (parts, some, are, spelled) = by_parts name parts some are spelled
