-- What opening a script's regions has made.
use Rattle.std.proofs.Common.{◌≡◌, ℕ, zero, suc, ◌+◌, ◌-◌, ◌<◌, List, [], ◌∷◌, ◌++◌, length, map, replicate, drop, Option, Some, None, sym, refl, ap, ◌∙◌, subst, arith}
use Rattle.std.specs.Global.{Vec}
use Rattle.std.specs.Prelude.{All, slice_get, slice_index_or, Contains}
use Rattle.std.specs.List.Sorted.{IsNonDecreasingBy}
use Rattle.std.specs.Option.{option_map}
use Rattle.std.proofs.lemmas.List.{length-map, map-append, drop_at, drop-replicate, get_or-map}
use Rattle.std.proofs.lemmas.List.Elements.{All-get_or}
use Rattle.std.proofs.lemmas.List.Sorted.{All-permutation, Contains-permutation}
use Rattle.std.proofs.lemmas.Option.{slice_get-map, slice_get_within, slice_get-get_or, get_or_from_slice_get}
use Rattle.region_rule.specs.Calls.{fresh_from}
use Rattle.region_rule.specs.Seats.{MadeRegion, Token}
use Rattle.fetch_engine.specs.Servers.{Seated, IsSeated, regions_of, server_fault}
use Rattle.fetch_engine.specs.declared.server.Mounted.{Mounted}
use Rattle.run_script.specs.declared.script.RegionRow.{RegionRow}
use Rattle.run_script.specs.declared.script.Script.{Script}
use Rattle.run_script.specs.Rules.{KeepsRules, IsRegion}
use Rattle.run_passes.specs.declared.opening.Opened.{Opened}
use Rattle.run_passes.specs.declared.opening.making.Made.{Made}
use Rattle.run_passes.specs.Crews.{Serves, ServesScript}
use Rattle.run_passes.specs.Makings.{HasEach, IsMadeFor, AreMadeInOrder, IsDealt}
use Rattle.run_passes.specs.Openings.{HaveRoom, passes_at, IsMadeAt, AreMade, IsOpened}
use Rattle.run_passes.proofs.OpeningHands.{at_each}
use Rattle.run_passes.proofs.OpeningServer.{zip_left, all_right, mounted_of, as_many_made, faultless, in_order}

-- ---- the passes of one region

pub fresh_count : (region : MadeRegion) (k n : ℕ) → length (fresh_from region k n) ≡ n
fresh_count region k zero = refl
fresh_count region k (suc n) = let rest = fresh_count region (suc k) n in omega arith

regions_fresh : (region : MadeRegion) (k n : ℕ) → regions_of (fresh_from region k n) ≡ replicate n region
regions_fresh region k zero = refl
regions_fresh region k (suc n) = ap (λ (rs : List MadeRegion). region ∷ rs) (regions_fresh region (suc k) n)

has_each : (script : Script) (seats : ℕ) (row : RegionRow) (m : Made) → IsMadeFor script seats row m → HasEach seats m
has_each script seats row m made =
    let region = m.mounted.region in
    let all : regions_of m.own.items ++ regions_of m.seated.items ≡ replicate (row.passes + seats) region =
    sym (map-append (λ (token : Token). token.region) m.own.items m.seated.items) ∙ ap regions_of made.fresh ∙ regions_fresh region 0 (row.passes + seats) in
    let wide : length (regions_of m.own.items) ≡ row.passes = length-map m.own.items (λ (token : Token). token.region) ∙ made.as_many in
    let left : row.passes + seats - row.passes ≡ seats = omega arith in
    sym (drop_at (regions_of m.own.items) (regions_of m.seated.items) row.passes wide) ∙ ap (λ (rs : List MadeRegion). drop row.passes rs) all
    ∙ drop-replicate row.passes (row.passes + seats) region ∙ ap (λ (n : ℕ). replicate n region) left

-- of each region there is one pass for each seat
pub all_have_each : (script : Script) (seats : ℕ) (made : List Made) → AreMadeInOrder script seats made → All (HasEach seats) made
all_have_each script seats made all =
    All-permutation (HasEach seats) all.given made all.same (all_right (IsMadeFor script seats) (HasEach seats) script.regions all.given all.each (λ i row m there one. has_each script seats row m one))

-- ---- all of them

rise_mounted : (made : List Made) → IsNonDecreasingBy (λ (m : Made). m.mounted.cluster) made → IsNonDecreasingBy (λ (row : Mounted). row.cluster) (mounted_of made)
rise_mounted [] rise i j d low below = absurd (omega arith)
rise_mounted (m ∷ made) rise i j d low below =
    let wide : length (mounted_of (m ∷ made)) ≡ length (m ∷ made) = length-map (m ∷ made) (λ (m : Made). m.mounted) in
    let at_i = get_or-map (λ (m : Made). m.mounted) (m ∷ made) i m d (omega arith) in
    let at_j = get_or-map (λ (m : Made). m.mounted) (m ∷ made) j m d (omega arith) in
    let up = rise i j m low (omega arith) in
    let left : (slice_index_or (mounted_of (m ∷ made)) i d).cluster ≡ (slice_index_or (m ∷ made) i m).mounted.cluster = ap (λ (row : Mounted). row.cluster) at_i in
    let right : (slice_index_or (mounted_of (m ∷ made)) j d).cluster ≡ (slice_index_or (m ∷ made) j m).mounted.cluster = ap (λ (row : Mounted). row.cluster) at_j in
    omega arith

pub rise_rows : (script : Script) (seats : ℕ) (made : List Made) (rows : List Mounted) → AreMadeInOrder script seats made → rows ≡ mounted_of made → IsNonDecreasingBy (λ (row : Mounted). row.cluster) rows
rise_rows script seats made rows all is = subst (λ (rs : List Mounted). IsNonDecreasingBy (λ (row : Mounted). row.cluster) rs) (sym is) (rise_mounted made all.rise)

abbrev pub tokens_of : List Seated → List (List Token)
tokens_of seats = map (λ (seat : Seated). seat.tokens) seats

seen_at : (j : ℕ) (seats : List Seated) → at_each j (tokens_of seats) ≡ passes_at j seats
seen_at j [] = refl
seen_at j (seat ∷ seats) = ap (λ (ts : List (Option Token)). slice_get seat.tokens j ∷ ts) (seen_at j seats)

there_at : {A B : Type 0} (f : A → B) (xs : List A) (ys : List B) (j : ℕ) (x : A) → ys ≡ map f xs → slice_get xs j ≡ Some x → slice_get ys j ≡ Some (f x)
there_at {A} {B} f xs ys j x is there = ap (λ (zs : List B). slice_get zs j) is ∙ slice_get-map f xs j ∙ ap (λ (o : Option A). option_map f o) there

from_map : {A B : Type 0} (f : A → B) (xs : List A) (j : ℕ) (y : B) → slice_get (map f xs) j ≡ Some y → (x : A) × (slice_get xs j ≡ Some x) × (f x ≡ y)
from_map f [] j y h = absurd (let none : None ≡ Some y = h in cc)
from_map f (x ∷ xs) zero y h = let same : f x ≡ y = cc in (x, refl, same)
from_map f (x ∷ xs) (suc j) y h = from_map f xs j y h

same_some : {A : Type 0} (x y : A) → Some x ≡ Some y → x ≡ y
same_some x y h = cc

-- a region has passes of the script, and those of the seats behind them
record HasPasses (seats : ℕ) (m : Made) : Type 0 where
  some : 0 < length m.own.items
  passes : m.mounted.region.passes ≡ length m.own.items + seats
  fresh : m.own.items ++ m.seated.items ≡ fresh_from m.mounted.region 0 (length m.own.items + seats)

has_passes : (script : Script) (seats : ℕ) (row : RegionRow) (m : Made) → IsRegion script.images row → IsMadeFor script seats row m → HasPasses seats m
has_passes script seats row m region one = record {
  some = (let least = region.passes.0 in let count = one.as_many in omega arith);
  passes = one.serves.passes ∙ ap (λ (n : ℕ). n + seats) (sym one.as_many);
  fresh = one.fresh ∙ ap (λ (n : ℕ). fresh_from m.mounted.region 0 (n + seats)) (sym one.as_many);
}

all_have_passes : (script : Script) (seats : ℕ) (made : List Made) → KeepsRules script → AreMadeInOrder script seats made → All (HasPasses seats) made
all_have_passes script seats made ruled all =
    All-permutation (HasPasses seats) all.given made all.same
    (all_right (IsMadeFor script seats) (HasPasses seats) script.regions all.given all.each (λ i row m there one. has_passes script seats row m (ruled.opened i row there) one))

module _ (script : Script) (ruled : KeepsRules script) (made : List Made) (opened : Opened) (hands : List (List Token)) (all : AreMadeInOrder script (length opened.seats.items) made)
    (dealt : IsDealt (length opened.seats.items) made opened.server opened.passes.items hands) (held : tokens_of opened.seats.items ≡ hands) where
  made_at : (j : ℕ) (m : Made) → slice_get made j ≡ Some m → IsMadeAt opened.seats.items j m.mounted m.own.items
  made_at j m there =
      let has : HasPasses (length opened.seats.items) m =
      subst (λ (m : Made). HasPasses (length opened.seats.items) m) (get_or_from_slice_get made j m m there)
      (All-get_or (HasPasses (length opened.seats.items)) made j m (slice_get_within made j m there) (all_have_passes script (length opened.seats.items) made ruled all)) in
      record {
        some = has.some;
        passes = has.passes;
        seated = m.seated.items;
        seats_are = dealt.each j m there ∙ ap (λ (hs : List (List Token)). at_each j hs) (sym held) ∙ seen_at j opened.seats.items;
        fresh = has.fresh;
      }

  each_made : (j : ℕ) (mounted : Mounted) (own : Vec Token) → slice_get opened.server j ≡ Some mounted → slice_get opened.passes.items j ≡ Some own → IsMadeAt opened.seats.items j mounted own.items
  each_made j mounted own at_server at_passes =
      let (m, there, is) = from_map (λ (m : Made). m.mounted) made j mounted (ap (λ (rows : List Mounted). slice_get rows j) (sym dealt.regions) ∙ at_server) in
      let own_is : m.own ≡ own = same_some m.own own (sym (there_at (λ (m : Made). m.own) made opened.passes.items j m dealt.own there) ∙ at_passes) in
      subst (λ (row : Mounted). IsMadeAt opened.seats.items j row own.items) is
      (subst (λ (passes : Vec Token). IsMadeAt opened.seats.items j m.mounted passes.items) own_is (made_at j m there))

  served_at : (i : ℕ) (row : RegionRow) → slice_get script.regions i ≡ Some row
      → (j : ℕ) × (mounted : Mounted) × (slice_get opened.server j ≡ Some mounted) × Serves script (length opened.seats.items) row mounted
  served_at i row there =
      let (m, given, one) = zip_left (IsMadeFor script (length opened.seats.items)) script.regions all.given all.each i row there in
      let found : Contains made m = Contains-permutation all.given made m all.same
      (i, slice_get_within all.given i m given, get_or_from_slice_get all.given i m m given) in (
        found.0,
        m.mounted,
        there_at (λ (m : Made). m.mounted) made opened.server found.0 m dealt.regions (slice_get-get_or made found.0 m found.1 ∙ ap Some found.2),
        one.serves,
      )

  seated_at : (s : ℕ) (seat : Seated) → slice_get opened.seats.items s ≡ Some seat → IsSeated opened.server seat.tokens
  seated_at s seat there =
      let here : slice_get hands s ≡ Some seat.tokens = there_at (λ (seat : Seated). seat.tokens) opened.seats.items hands s seat (sym held) there in
      subst (λ (hand : List Token). IsSeated opened.server hand) (get_or_from_slice_get hands s seat.tokens seat.tokens here)
      (All-get_or (IsSeated opened.server) hands s seat.tokens (slice_get_within hands s seat.tokens here) dealt.seated)

  are_made : AreMade script opened.server opened.passes.items opened.seats.items
  are_made = record {
    serves = record {
      in_order = in_order opened.server (ap server_fault dealt.regions ∙ faultless script (length opened.seats.items) made ruled all)
          (rise_rows script (length opened.seats.items) made opened.server all dealt.regions);
      as_many = ap length dealt.regions ∙ length-map made (λ (m : Made). m.mounted) ∙ as_many_made script (length opened.seats.items) made all;
      each = served_at;
    };
    lists = ap length dealt.own ∙ length-map made (λ (m : Made). m.own) ∙ sym (ap length dealt.regions ∙ length-map made (λ (m : Made). m.mounted));
    seated = seated_at;
    each = each_made;
  }

pub is_opened : (script : Script) (seats : ℕ) (made : List Made) (opened : Opened) (hands : List (List Token)) → KeepsRules script → AreMadeInOrder script seats made
    → IsDealt seats made opened.server opened.passes.items hands → tokens_of opened.seats.items ≡ hands → IsOpened script seats opened
is_opened script seats made opened hands ruled all dealt held =
    let count : length opened.seats.items ≡ seats = sym (length-map opened.seats.items (λ (seat : Seated). seat.tokens)) ∙ ap length held ∙ dealt.as_many in
    record {
      seats_are = count;
      made = are_made script ruled made opened hands (subst (λ (n : ℕ). AreMadeInOrder script n made) (sym count) all)
          (subst (λ (n : ℕ). IsDealt n made opened.server opened.passes.items hands) (sym count) dealt) held;
    }

-- ---- what callers use

-- the server serves the script
pub serves_script : (script : Script) (server : List Mounted) (passes : List (Vec Token)) (seats : List Seated) → AreMade script server passes seats → ServesScript script (length seats) server
serves_script script server passes seats all = all.serves

-- a script's regions have room for one seat
pub has_room : (script : Script) → KeepsRules script → HaveRoom script.regions 1
has_room script ruled i row there = let most = (ruled.opened i row there).passes.1 in omega arith
