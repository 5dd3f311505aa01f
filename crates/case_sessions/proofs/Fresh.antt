-- The passes that opening a script gives are of the regions at their positions.
use Rattle.std.proofs.Common.{◌≡◌, ℕ, zero, suc, ◌+◌, ◌<◌, List, [], ◌∷◌, ◌++◌, map, length, slice_get, option_map, Option, Some, None, refl, sym, ap, ◌∙◌, subst, arith}
use Rattle.std.proofs.lemmas.Option.{slice_get_within, slice_get-map}
use Rattle.std.specs.Global.{Vec}
use Rattle.region_rule.specs.Seats.{MadeRegion, Token}
use Rattle.region_rule.specs.Calls.{fresh_from}
use Rattle.fetch_engine.specs.Servers.{IsRegionAt, Seated}
use Rattle.fetch_engine.specs.declared.server.Mounted.{Mounted}
use Rattle.run_script.specs.declared.script.Script.{Script}
use Rattle.run_passes.specs.Openings.{AreMade, IsMadeAt}
use Rattle.case_sessions.specs.Openings.{AreOf, ArePasses}

-- a fresh pass is of its region
fresh_here : (region : MadeRegion) (n k i : ℕ) (token : Token) → slice_get (fresh_from region k n) i ≡ Some token → token.region ≡ region
fresh_here region zero k i token e = cc
fresh_here region (suc n) k zero token e = cc
fresh_here region (suc n) k (suc i) token e = fresh_here region n (suc k) i token e

in_front : {A : Type 0} (xs ys : List A) (i : ℕ) (x : A) → slice_get xs i ≡ Some x → slice_get (xs ++ ys) i ≡ Some x
in_front [] ys i x e = cc
in_front (z ∷ zs) ys zero x e = e
in_front (z ∷ zs) ys (suc i) x e = in_front zs ys i x e

there : {A : Type 0} (xs : List A) (i : ℕ) → i < length xs → (x : A) × (slice_get xs i ≡ Some x)
there [] i h = absurd (omega arith)
there (x ∷ xs) zero h = (x, refl)
there (x ∷ xs) (suc i) h = there xs i (omega arith)

made_of : (server : List Mounted) (seats : List Seated) (j : ℕ) (mounted : Mounted) (own : List Token) → slice_get server j ≡ Some mounted → IsMadeAt seats j mounted own → AreOf server j own
made_of server seats j mounted own at made k token e =
    let here : token.region ≡ mounted.region = fresh_here mounted.region (length own + length seats) 0 k token (subst (λ (l : List Token). slice_get l k ≡ Some token) made.fresh (in_front own made.seated k token e)) in
    slice_get-map (λ (row : Mounted). row.region) server j ∙ ap (λ (o : Option Mounted). option_map (λ row. row.region) o) at ∙ ap (λ (r : MadeRegion). Some r) (sym here)

pub passes_made : (script : Script) (server : List Mounted) (passes : List (Vec Token)) (seats : List Seated) → AreMade script server passes seats → ArePasses server passes
passes_made script server passes seats made j own e =
    let within : j < length server = let h = slice_get_within passes j own e in let l = made.lists in omega arith in
    let row = there server j within in
    made_of server seats j row.0 own.items row.1 (made.each j row.0 own row.1 e)

-- a position has one region
pub one_region : (server : List Mounted) (at : ℕ) (some other : MadeRegion) → IsRegionAt server at some → Some other ≡ option_map (λ (row : Mounted). row.region) (slice_get server at) → some ≡ other
one_region server at some other is found = let e : Some some ≡ Some other = sym is ∙ (slice_get-map (λ (row : Mounted). row.region) server at ∙ sym found) in cc
