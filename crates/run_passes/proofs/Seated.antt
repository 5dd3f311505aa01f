-- Calls at one position of a server, one behind another.
use Rattle.std.proofs.Common.{◌≡◌, ◌≢◌, ℕ, zero, suc, ◌+◌, ◌<◌, ◌≤◌, Bool, true, false, List, [], ◌∷◌, map, length, nat_lt, eqb, eq-eqb, ne_eqb, slice_get, slice_set, option_map, IfSome, Option, Some, is_ok, if◌then◌else◌, ⊎_elim, sym, refl, ap, ◌∙◌, subst, arith}
use Rattle.std.proofs.lemmas.Bool.{ltb-true, lt-ltb}
use Rattle.std.proofs.lemmas.Option.{slice_get_within}
use mathlib.Core.Logic.{dite}
use native.Mathlib.Decide.{dec_le}
use Rattle.region_rule.specs.declared.view.View.{View}
use Rattle.region_rule.specs.Tokens.{note_of}
use Rattle.region_rule.specs.Seats.{MadeRegion, Token, IsSame}
use Rattle.region_rule.specs.Calls.{Learns}
use Rattle.region_core.specs.declared.mode.Mode.TheVariants.{Idle}
use Rattle.region_words.specs.Images.{mmv}
use Rattle.fetch_engine.specs.Servers.{IsRegionAt, ChangesAt, regions_in}
use Rattle.fetch_engine.specs.declared.server.Mounted.{Mounted}
use Rattle.script_runs.specs.Closing.{change_ended, stint_ended, reading_ended, each_pass, by_all, closed_region}
use Rattle.script_runs.specs.PassSteps as steps
use Rattle.script_runs.specs.Regions.{Doing, ScriptRegion, doing_of as does_in}
use Rattle.run_passes.specs.declared.deed.Deed.{Deed}
use Rattle.run_passes.specs.declared.deed.Deed.TheVariants as deeds
use Rattle.run_passes.specs.declared.worker.Worker.{Worker}
use Rattle.run_passes.specs.Workers.{doing_of}
use Rattle.run_passes.specs.Works.{Step, ended_doing}
use Rattle.run_passes.proofs.Calling.{set_there, not_less}
use Rattle.run_passes.specs.Crews.{IsAlone}
use Rattle.run_passes.specs.Sweeps.{region_after_step, Goes, GoesAt, EndedAt, EndedBelow, AreIdle, GathersAllBut, GatheredAt, ClosedAt}
use Rattle.run_passes.specs.Turns.{Answer, TakesTurn, ActsAt, IsCrewAt}
use Rattle.run_passes.proofs.Counting.{alone_gathered, seen_closed}
use Rattle.run_passes.proofs.Crewing.{get_set_same, same_or_other, acts}
use Rattle.run_passes.proofs.Lasting.{last_pass}
use Rattle.run_passes.proofs.Sweeping.{goes_still, goes_on, goes_as, acts_goes, each_more, changes_by, stints_by, readings_by}

-- Lists

pub the_one : {A : Type 0} (xs : List A) (i : ℕ) (x y : A) → slice_get xs i ≡ Some x → slice_get xs i ≡ Some y → x ≡ y
the_one xs i x y e f = let g : Some x ≡ Some y = sym e ∙ f in cc

pub set_set : {A : Type 0} (xs : List A) (i : ℕ) (x y : A) → slice_set (slice_set xs i x) i y ≡ slice_set xs i y
set_set [] i x y = refl
set_set (z ∷ zs) zero x y = refl
set_set (z ∷ zs) (suc i) x y = ap (λ (l : List _). z ∷ l) (set_set zs i x y)

-- The seat's pass at a position

pub now_at : (seat later : List Token) (at : ℕ) (before after : Token) → slice_get seat at ≡ Some before → later ≡ slice_set seat at after → slice_get later at ≡ Some after
now_at seat later at before after was is = ap (λ (l : List Token). slice_get l at) is ∙ get_set_same seat at after (slice_get_within seat at before was)

pub goes_at_start : (server : List Mounted) (at : ℕ) (crew : List Worker) (seat : List Token) → IsCrewAt server at crew seat → GoesAt server at (λ r. r) crew crew seat seat
goes_at_start server at crew seat c = record {
  region = c.region;
  placed = c.placed;
  before = c.logger;
  was = c.there;
  after = c.logger;
  is = sym (set_there seat at c.logger c.there);
  goes = goes_still c.region crew c.logger c.is_crew;
}

pub crew_at_goes : (server : List Mounted) (at : ℕ) (f : ScriptRegion → ScriptRegion) (old new : List Worker) (seat later : List Token) → GoesAt server at f old new seat later → IsCrewAt server at new later
crew_at_goes server at f old new seat later g = record {
  region = g.region;
  placed = g.placed;
  logger = g.after;
  there = now_at seat later at g.before g.after g.was g.is;
  is_crew = g.goes.crew;
}

pub crew_at_acts : (server : List Mounted) (at k : ℕ) (step : Step) (old new : List Worker) (seat later : List Token) (answer : Answer) → ActsAt server at k step old new seat later answer → IsCrewAt server at new later
crew_at_acts server at k step old new seat later answer g = record {
  region = g.region;
  placed = g.placed;
  logger = g.after;
  there = now_at seat later at g.before g.after g.was g.is;
  is_crew = g.acts.crew;
}

pub goes_at_on : (server : List Mounted) (at : ℕ) (f g : ScriptRegion → ScriptRegion) (a b c : List Worker) (s t u : List Token) → GoesAt server at f a b s t → GoesAt server at g b c t u → GoesAt server at (λ r. g (f r)) a c s u
goes_at_on server at f g a b c s t u first last =
    let same : first.after ≡ last.before = the_one t at first.after last.before (now_at s t at first.before first.after first.was first.is) last.was in
    let region : last.region ≡ first.region = the_one (regions_in server) at last.region first.region last.placed first.placed in
    record {
      region = first.region;
      placed = first.placed;
      before = first.before;
      was = first.was;
      after = last.after;
      is = last.is ∙ (ap (λ (l : List Token). slice_set l at last.after) first.is ∙ set_set s at first.after last.after);
      goes = goes_on first.region f g a b c first.before first.after last.after first.goes
          (subst (λ (x : Token). Goes first.region g b c x last.after) (sym same) (subst (λ (r : MadeRegion). Goes r g b c last.before last.after) region last.goes));
    }

pub goes_at_acts : (server : List Mounted) (at k : ℕ) (step : Step) (old new : List Worker) (seat later : List Token) (answer : Answer) → is_ok answer ≡ true → ActsAt server at k step old new seat later answer
    → GoesAt server at (λ r. region_after_step step r k (does_in r k)) old new seat later
goes_at_acts server at k step old new seat later answer sure a = record {
  region = a.region;
  placed = a.placed;
  before = a.before;
  was = a.was;
  after = a.after;
  is = a.is;
  goes = acts_goes a.region k step old new a.before a.after answer sure a.acts;
}

-- one more pass of a sweep
pub swept_more : (server : List Mounted) (at n : ℕ) (step : Step) (a b c : List Worker) (s t u : List Token) (answer : Answer) → is_ok answer ≡ true → GoesAt server at (each_pass (region_after_step step) 0 n) a b s t → ActsAt server at n step b c t u answer
    → GoesAt server at (each_pass (region_after_step step) 0 (suc n)) a c s u
swept_more server at n step a b c s t u answer sure first acts =
    let both : GoesAt server at (λ r. region_after_step step (each_pass (region_after_step step) 0 n r) n (does_in (each_pass (region_after_step step) 0 n r) n)) a c s u =
    goes_at_on server at (each_pass (region_after_step step) 0 n) (λ r. region_after_step step r n (does_in r n)) a b c s t u first (goes_at_acts server at n step b c t u answer sure acts) in
    record {
      region = both.region;
      placed = both.placed;
      before = both.before;
      was = both.was;
      after = both.after;
      is = both.is;
      goes = goes_as both.region (λ r. region_after_step step (each_pass (region_after_step step) 0 n r) n (does_in (each_pass (region_after_step step) 0 n r) n)) (each_pass (region_after_step step) 0 (suc n)) a c both.before both.after
          (λ r stands. sym (each_more (region_after_step step) 0 n r ∙ at_zero r)) both.goes;
    }
  where
    zero_plus : 0 + n ≡ n
    zero_plus = omega arith

    at_zero : (r : ScriptRegion) → region_after_step step (each_pass (region_after_step step) 0 n r) (0 + n) (does_in (each_pass (region_after_step step) 0 n r) (0 + n)) ≡ region_after_step step (each_pass (region_after_step step) 0 n r) n (does_in (each_pass (region_after_step step) 0 n r) n)
    at_zero r = ap (λ (j : ℕ). region_after_step step (each_pass (region_after_step step) 0 n r) j (does_in (each_pass (region_after_step step) 0 n r) j)) zero_plus

-- What has ended

get_there : {A : Type 0} (xs : List A) (i : ℕ) → i < length xs → (x : A) × (slice_get xs i ≡ Some x)
get_there [] i h = absurd (omega arith)
get_there (x ∷ xs) zero h = (x, refl)
get_there (x ∷ xs) (suc i) h = get_there xs i (omega arith)

pub none_ended : (deed : Deed) (crew : List Worker) → EndedBelow deed 0 crew crew
none_ended deed crew j was done e f = ap (λ (w : Worker). doing_of w) (sym (the_one crew j was done e f)) ∙ at_zero j
  where
    at_zero : (j : ℕ) → doing_of was ≡ (if nat_lt j 0 then ended_doing deed (doing_of was) else doing_of was)
    at_zero j = sym (ap (λ (b : Bool). if b then ended_doing deed (doing_of was) else doing_of was) (not_less j 0 (omega arith)))

pub ended_more : (deed : Deed) (n : ℕ) (a b c : List Worker) → length b ≡ length a → EndedBelow deed n a b → EndedAt deed n b c → EndedBelow deed (suc n) a c
ended_more deed n a b c many below here j was done e f =
    let within : j < length b = let h = slice_get_within a j was e in omega arith in
    let mid = get_there b j within in
    let first : doing_of mid.0 ≡ (if nat_lt j n then ended_doing deed (doing_of was) else doing_of was) = below j was mid.0 e mid.1 in
    let last : doing_of done ≡ (if eqb j n then ended_doing deed (doing_of mid.0) else doing_of mid.0) = here j mid.0 done mid.1 f in
    last ∙ ⊎_elim
    (λ (s : j ≡ n).
    let x : eqb j n ≡ true = eq-eqb j n s in
    let y : nat_lt j n ≡ false = not_less j n (omega arith) in
    let z : nat_lt j (suc n) ≡ true = lt-ltb j (suc n) (omega arith) in
    ap (λ (t : Bool). if t then ended_doing deed (doing_of mid.0) else doing_of mid.0) x
    ∙ (ap (λ (d : Doing). ended_doing deed d) (first ∙ ap (λ (t : Bool). if t then ended_doing deed (doing_of was) else doing_of was) y)
    ∙ sym (ap (λ (t : Bool). if t then ended_doing deed (doing_of was) else doing_of was) z)))
    (λ (s : j ≢ n).
    let x : eqb j n ≡ false = ne_eqb j n s in
    ap (λ (t : Bool). if t then ended_doing deed (doing_of mid.0) else doing_of mid.0) x ∙ (first ∙ ap (λ (t : Bool). if t then ended_doing deed (doing_of was) else doing_of was) (same_test s)))
    (same_or_other j n)
  where
    same_test : j ≢ n → nat_lt j n ≡ nat_lt j (suc n)
    same_test s = by_test (nat_lt j n) refl
      where
        differ : true ≡ false → ⊥
        differ e = cc

        past : nat_lt j n ≡ false → suc n ≤ j
        past g = dite (dec_le (suc n) j) (λ (h : suc n ≤ j). h) (λ m. let less : j < n = omega arith in absurd (differ (sym (lt-ltb j n less) ∙ g)))

        by_test : (t : Bool) → nat_lt j n ≡ t → t ≡ nat_lt j (suc n)
        by_test true g = sym (lt-ltb j (suc n) (let l = ltb-true j n g in omega arith))
        by_test false g = sym (not_less j (suc n) (past g))

-- once all three have been ended
idle_then : (d : Doing) → ended_doing deeds.Done (ended_doing deeds.Detach (ended_doing deeds.Finish d)) ≡ Doing.idle
idle_then Doing.idle = refl
idle_then Doing.attached = refl
idle_then (Doing.changing image n next) = refl
idle_then (Doing.reading first) = refl

all_ended : (deed : Deed) (old new : List Worker) (j : ℕ) (was done : Worker) → EndedBelow deed (length old) old new → slice_get old j ≡ Some was → slice_get new j ≡ Some done → doing_of done ≡ ended_doing deed (doing_of was)
all_ended deed old new j was done ended e f =
    ended j was done e f ∙ ap (λ (t : Bool). if t then ended_doing deed (doing_of was) else doing_of was) (lt-ltb j (length old) (slice_get_within old j was e))

pub all_idle : (a b c d : List Worker) → length b ≡ length a → length c ≡ length b → length d ≡ length c → EndedBelow deeds.Finish (length a) a b → EndedBelow deeds.Detach (length b) b c → EndedBelow deeds.Done (length c) c d → AreIdle d
all_idle a b c d ab bc cd first second third j w e =
    let within = slice_get_within d j w e in
    let z = get_there c j (omega arith) in
    let y = get_there b j (omega arith) in
    let x = get_there a j (omega arith) in
    all_ended deeds.Done c d j z.0 w third z.1 e
    ∙ (ap (λ (k : Doing). ended_doing deeds.Done k) (all_ended deeds.Detach b c j y.0 z.0 second y.1 z.1 ∙ ap (λ (k : Doing). ended_doing deeds.Detach k) (all_ended deeds.Finish a b j x.0 y.0 first x.1 y.1))
    ∙ idle_then (doing_of x.0))

-- a whole sweep, as the fold has it
swept_as : (server : List Mounted) (at : ℕ) (f g : ScriptRegion → ScriptRegion) (a b : List Worker) (s t : List Token) → ((region : MadeRegion) (x y : Token) → Goes region f a b x y → Goes region g a b x y) → GoesAt server at f a b s t → GoesAt server at g a b s t
swept_as server at f g a b s t to h = record { region = h.region; placed = h.placed; before = h.before; was = h.was; after = h.after; is = h.is; goes = to h.region h.before h.after h.goes }

pub closed_by : (server : List Mounted) (at : ℕ) (a b c d : List Worker) (s t u v : List Token) → GoesAt server at (each_pass (region_after_step steps.finishes) 0 (length a)) a b s t → GoesAt server at (each_pass (region_after_step steps.detaches) 0 (length b)) b c t u
    → GoesAt server at (each_pass (region_after_step steps.ends) 0 (length c)) c d u v → GoesAt server at closed_region a d s v
closed_by server at a b c d s t u v first second third =
    goes_at_on server at (λ r. by_all stint_ended (by_all change_ended r)) (by_all reading_ended) a c d s u v
    (goes_at_on server at (by_all change_ended) (by_all stint_ended) a b c s t u
    (swept_as server at (each_pass (region_after_step steps.finishes) 0 (length a)) (by_all change_ended) a b s t (λ region x y g. changes_by region a b x y g) first)
    (swept_as server at (each_pass (region_after_step steps.detaches) 0 (length b)) (by_all stint_ended) b c t u (λ region x y g. stints_by region b c x y g) second))
    (swept_as server at (each_pass (region_after_step steps.ends) 0 (length c)) (by_all reading_ended) c d u v (λ region x y g. readings_by region c d x y g) third)

-- closed and gathered
pub closed_at : (server : List Mounted) (at : ℕ) (old crew : List Worker) (s t u : List Token) → GoesAt server at closed_region old crew s t → GatheredAt server at 0 crew t u → ClosedAt server at old s u
closed_at server at old crew s t u g h =
    let same : g.after ≡ h.before = the_one t at g.after h.before (now_at s t at g.before g.after g.was g.is) h.was in
    let region : h.region ≡ g.region = the_one (regions_in server) at h.region g.region h.placed g.placed in
    let gathered : GathersAllBut g.region crew 0 g.after h.after =
    subst (λ (x : Token). GathersAllBut g.region crew 0 x h.after) (sym same) (subst (λ (r : MadeRegion). GathersAllBut r crew 0 h.before h.after) region h.gathered) in
    let alone : IsAlone crew g.after = alone_gathered g.region crew g.after h.after g.goes.crew gathered in
    record {
      region = g.region;
      placed = g.placed;
      before = g.before;
      was = g.was;
      after = h.after;
      is = h.is ∙ (ap (λ (l : List Token). slice_set l at h.after) g.is ∙ set_set s at g.after h.after);
      of_region = gathered.last.region_is;
      last = last_pass g.region crew g.after h.after g.goes.crew gathered;
      alone = g.goes.alone alone;
      seen = λ r stands. seen_closed g.region old crew g.before g.after h.after g.goes gathered alone r stands;
    }

-- A call at a position

pub map_get : {A B : Type 0} (f : A → B) (xs : List A) (i : ℕ) → option_map f (slice_get xs i) ≡ slice_get (map f xs) i
map_get f [] i = refl
map_get f (x ∷ xs) zero = refl
map_get f (x ∷ xs) (suc i) = map_get f xs i

pub region_at : (server : List Mounted) (at : ℕ) (found region : MadeRegion) → Some found ≡ option_map (λ (row : Mounted). row.region) (slice_get server at) → IsRegionAt server at region → found ≡ region
region_at server at found region e placed = let g : Some found ≡ Some region = e ∙ (map_get (λ (row : Mounted). row.region) server at ∙ placed) in cc

pub acts_at_by : (server : List Mounted) (at k : ℕ) (step : Step) (old new : List Worker) (seat mid later : List Token) (found of_note : MadeRegion) (seen note : View) (answer : Answer) (crew : IsCrewAt server at old seat)
    → Some found ≡ option_map (λ (row : Mounted). row.region) (slice_get server at) → IfSome (slice_get seat at) (λ (t : Token). (of_note ≡ t.region) × (seen ≡ note_of t.view)) → mid ≡ seat
    → TakesTurn found k step seen old new note answer → ChangesAt at mid later (λ before after. Learns mmv before.view note after.view) → ActsAt server at k step old new seat later answer
acts_at_by server at k step old new seat mid later found of_note seen note answer crew e noted same turned changes =
    let region : found ≡ crew.region = region_at server at found crew.region e crew.placed in
    let before : changes.before ≡ crew.logger = the_one mid at changes.before crew.logger changes.was (ap (λ (l : List Token). slice_get l at) same ∙ crew.there) in
    let told = subst (λ (o : Option Token). IfSome o (λ (t : Token). (of_note ≡ t.region) × (seen ≡ note_of t.view))) crew.there noted in
    let seen_is : seen ≡ note_of crew.logger.view = told.1 in
    record {
      region = crew.region;
      placed = crew.placed;
      before = crew.logger;
      was = crew.there;
      after = changes.after;
      is = changes.is ∙ ap (λ (l : List Token). slice_set l at changes.after) same;
      acts = acts crew.region k step old new crew.logger changes.after seen note answer crew.is_crew (subst (λ (r : MadeRegion). TakesTurn r k step seen old new note answer) region turned) (ap (λ (v : View). v.seen) seen_is)
          (subst (λ (t : Token). Learns mmv t.view note changes.after.view) before changes.changed) (subst (λ (t : Token). IsSame Idle Idle t changes.after) before changes.stays);
    }

pub plus_one : (n : ℕ) → suc n ≡ n + 1
plus_one n = omega arith

pub at_within : (server : List Mounted) (at : ℕ) (region : MadeRegion) → IsRegionAt server at region → at < length server
at_within server at region e = let a = slice_get_within (regions_in server) at region e in let b = long server in omega arith
  where
    long : (rows : List Mounted) → length (regions_in rows) ≡ length rows
    long [] = refl
    long (m ∷ ms) = ap suc (long ms)
