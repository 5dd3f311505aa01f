-- The pass at a place of a seat, and the region there.
use Rattle.std.proofs.Common.{◌≡◌, ℕ, zero, suc, ◌<◌, List, [], ◌∷◌, length, get_or, set, Some, slice_get, sym, refl, ap, ◌∙◌, arith}
use Rattle.std.proofs.lemmas.List.{length-map}
use Rattle.std.proofs.lemmas.Option.{get_or_from_slice_get}
use Rattle.region_core.specs.declared.mode.Mode.TheVariants.{Idle}
use Rattle.region_rule.specs.Seats.{Token, MadeRegion, IsSame}
use Rattle.fetch_engine.specs.Servers.{IsSeated, IsRegionAt, regions_of, regions_in}
use Rattle.fetch_engine.specs.declared.server.Mounted.{Mounted}

-- there are as many passes as regions
pub is_there : (rows : List Mounted) (tokens : List Token) → IsSeated rows tokens → length tokens ≡ length rows
is_there rows tokens seated = sym (length-map tokens (λ (token : Token). token.region)) ∙ ap length seated ∙ length-map rows (λ (row : Mounted). row.region)

region_at : (rows : List Mounted) (i : ℕ) (d : Mounted) (r : MadeRegion) → i < length rows → get_or (regions_in rows) i r ≡ (get_or rows i d).region
region_at [] i d r below = absurd (omega arith)
region_at (x ∷ xs) zero d r below = refl
region_at (x ∷ xs) (suc i) d r below = region_at xs i d r (omega arith)

token_at : (tokens : List Token) (i : ℕ) (d : Token) (r : MadeRegion) → i < length tokens → get_or (regions_of tokens) i r ≡ (get_or tokens i d).region
token_at [] i d r below = absurd (omega arith)
token_at (x ∷ xs) zero d r below = refl
token_at (x ∷ xs) (suc i) d r below = token_at xs i d r (omega arith)

-- each pass is of its region
pub is_here : (rows : List Mounted) (tokens : List Token) (i : ℕ) (d : Token) (e : Mounted) → IsSeated rows tokens → i < length rows → (get_or tokens i d).region ≡ (get_or rows i e).region
is_here rows tokens i d e seated below =
    let many = is_there rows tokens seated in
    sym (token_at tokens i d e.region (omega arith)) ∙ ap (λ (rs : List MadeRegion). get_or rs i e.region) seated ∙ region_at rows i e e.region below

-- a region that is told to stand at a place
pub region_told : (rows : List Mounted) (i : ℕ) (e : Mounted) (region : MadeRegion) → IsRegionAt rows i region → i < length rows → region ≡ (get_or rows i e).region
region_told [] i e region told below = absurd (omega arith)
region_told (x ∷ xs) zero e region told below = sym (some_same x.region region told)
  where
    some_same : (a b : MadeRegion) → Some a ≡ Some b → a ≡ b
    some_same a b same = cc
region_told (x ∷ xs) (suc i) e region told below = region_told xs i e region told (omega arith)

-- a pass that stays of its region leaves the seat as it was seated
pub seated_at : (rows : List Mounted) (tokens : List Token) (i : ℕ) (d t : Token) → IsSeated rows tokens → t.region ≡ (get_or tokens i d).region → IsSeated rows (set tokens i t)
seated_at rows tokens i d t seated same = regions_kept tokens i d t same ∙ seated
  where
    regions_kept : (ts : List Token) (k : ℕ) (e s : Token) → s.region ≡ (get_or ts k e).region → regions_of (set ts k s) ≡ regions_of ts
    regions_kept [] k e s h = refl
    regions_kept (x ∷ xs) zero e s h = ap (λ (r : MadeRegion). r ∷ regions_of xs) h
    regions_kept (x ∷ xs) (suc k) e s h = ap (λ (rs : List MadeRegion). x.region ∷ rs) (regions_kept xs k e s h)

pub seated_by : (rows : List Mounted) (tokens : List Token) (i : ℕ) (before after : Token) → IsSeated rows tokens → slice_get tokens i ≡ Some before → IsSame Idle Idle before after → IsSeated rows (set tokens i after)
seated_by rows tokens i before after seated was stays =
    seated_at rows tokens i before after seated (stays.region ∙ ap (λ (t : Token). t.region) (sym (get_or_from_slice_get tokens i before before was)))
