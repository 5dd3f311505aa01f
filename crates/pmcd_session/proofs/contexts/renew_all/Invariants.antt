-- The profiles so far keep every instance.
use Rattle.std.proofs.Common.{◌≡◌, ℕ, ◌<◌, get_or}
use Rattle.profile_filter.specs.Kept.{Settings}
use Rattle.pmcd_session.specs.Contexts.{keeps_all}
use Rattle.pmcd_session.proofs.contexts.renew_all.Given as goal

abbrev pub invariant-loop-profile : goal.invariant-loop-profile
invariant-loop-profile l = (k : ℕ) (d : Settings) → k < l.profile-index → get_or l.profiles k d ≡ keeps_all
