-- The contexts of a session, each with the profile by which a fetch in it leaves out instances (pmNewContext(3)).
use Rattle.std.specs.Prelude.{ℕ, Bool, true, ◌&&◌, nat_lt, nat_le, List, [], replicate, slice_set, Option, Some, None}
use Rattle.profile_filter.specs.Kept.{Settings}
use Rattle.profile_filter.specs.Size.{size_of}
use Rattle.profile_filter.specs.declared.profile.DomainPart.{DomainPart}

-- a new context keeps every instance
abbrev pub keeps_all : Settings
keeps_all = record { global = true; parts = [] }

-- the sixteen contexts of a session that begins
abbrev pub new_contexts : List Settings
new_contexts = replicate 16 keeps_all

-- a context has a number below 16, and its profile at most 1,024 parts and listed instances
abbrev pub may_set : ℕ → List DomainPart → Bool
may_set context parts = nat_lt context 16 && nat_le (size_of parts) 1024

-- one context's profile is replaced
abbrev pub with_profile : List Settings → ℕ → Bool → List DomainPart → List Settings
with_profile contexts context global parts = slice_set contexts context (record { global = global; parts = parts })

-- the profile of a context; there is one for each number below 16
abbrev pub profile_or_all : Option Settings → Settings
profile_or_all (Some profile) = profile
profile_or_all None = keeps_all
