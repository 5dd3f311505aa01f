-- The latest of some moments.
use Rattle.std.proofs.Common.{◌<◌, ◌≤◌, List, [], ◌∷◌, ◌++◌, sym, subst, arith, Some, None, Option}
use Rattle.std.proofs.lemmas.List.{append-nil}
use Rattle.std.proofs.lemmas.List.Elements.{Contains-append_left, Contains-push}
use Rattle.pcp_base.specs.Time.{Moment, microseconds}
use Rattle.pcp_model.proofs.Lists.{each-append, each-map}
use Rattle.archive_loading.specs.Stamps.{IsLatest, IsLatestOn}

abbrev NotAfter : Moment → Moment → Type 0
NotAfter t s = microseconds s ≤ microseconds t

-- the new one is later
pub newer : (moments : List Moment) (t s : Moment) → microseconds t < microseconds s → IsLatest moments (Some t) → IsLatest (moments ++ s ∷ []) (Some s)
newer moments t s lt is =
    (Contains-push moments s, each-append (NotAfter s) moments (s ∷ []) (each-map (NotAfter t) (NotAfter s) (λ m le. omega (arith, le, lt)) moments is.1) (omega arith, tt))

-- it isn't
pub as_late : (moments : List Moment) (t s : Moment) → microseconds s ≤ microseconds t → IsLatest moments (Some t) → IsLatest (moments ++ s ∷ []) (Some t)
as_late moments t s le is = (Contains-append_left moments (s ∷ []) t is.0, each-append (NotAfter t) moments (s ∷ []) is.1 (le, tt))

-- the first one
pub first_stamp : (moments : List Moment) (s : Moment) → IsLatest moments None → IsLatest (moments ++ s ∷ []) (Some s)
first_stamp moments s none = subst (λ (ms : List Moment). IsLatest (ms ++ s ∷ []) (Some s)) (sym none) (Contains-push [] s, (omega arith, tt))

-- nothing more
pub latest_as_before : (last : Option Moment) → IsLatestOn last [] last
latest_as_before last moments is = subst (λ (ms : List Moment). IsLatest ms last) (sym (append-nil moments)) is
