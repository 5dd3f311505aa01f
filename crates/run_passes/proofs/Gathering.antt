-- The seat's pass gathers the passes of a crew, the last first.
use Rattle.std.proofs.Common.{◌≡◌, ℕ, suc, List, [], ◌∷◌, ◌++◌, append_assoc, append-nil, length, slice_get, slice_set, Some, sym, refl, ap, ◌∙◌, subst}
use Rattle.std.proofs.lemmas.List.{map_push}
use Rattle.region_core.specs.declared.mode.Mode.TheVariants.{Idle}
use Rattle.region_rule.specs.Seats.{Token, IsSame}
use Rattle.region_rule.specs.declared.view.View.{View}
use Rattle.region_rule.specs.Calls.{Gathers}
use Rattle.region_words.specs.Images.{mmv}
use Rattle.fetch_engine.specs.Servers.{ChangesAt}
use Rattle.fetch_engine.specs.declared.server.Mounted.{Mounted}
use Rattle.run_passes.specs.declared.worker.Worker.{Worker}
use Rattle.run_passes.specs.declared.worker.Worker.TheVariants as workers
use Rattle.run_passes.specs.Workers.{view_of}
use Rattle.run_passes.proofs.Calling.{set_there}
use Rattle.run_passes.specs.Openings.{idle_crew}
use Rattle.run_passes.specs.Sweeps.{GathersAllBut, GatheredAt}
use Rattle.run_passes.specs.Turns.{IsCrewAt}
use Rattle.run_passes.proofs.Counting.{gather_more, none_gathered}
use Rattle.run_passes.proofs.Crewing.{number_by}
use Rattle.run_passes.proofs.Seated.{the_one, set_set, now_at}

-- the passes that are left are the first ones
pub record Gathering (server : List Mounted) (at : ℕ) (crew left : List Worker) (seat later : List Token) : Type 0 where
  pub rest : List Worker
  pub is : crew ≡ left ++ rest
  pub gathered : GatheredAt server at (length left) crew seat later

pub gathering : (server : List Mounted) (at : ℕ) (crew : List Worker) (seat : List Token) → IsCrewAt server at crew seat → Gathering server at crew crew seat seat
gathering server at crew seat c = record {
  rest = [];
  is = simp append-nil;
  gathered = record {
    region = c.region;
    placed = c.placed;
    before = c.logger;
    was = c.there;
    after = c.logger;
    is = sym (set_there seat at c.logger c.there);
    is_crew = c.is_crew;
    gathered = none_gathered c.region crew c.logger c.is_crew;
  };
}

pub gathered_more : (server : List Mounted) (at : ℕ) (crew left rest : List Worker) (worker : Worker) (pass : Token) (seat mid later : List Token) → Gathering server at crew left seat mid → left ≡ rest ++ worker ∷ [] → pass.view ≡ view_of worker
    → ChangesAt at mid later (λ before after. Gathers mmv before.view pass.view after.view) → Gathering server at crew rest seat later
gathered_more server at crew left rest worker pass seat mid later g e view changes =
    let many : length left ≡ suc (length rest) = ap (λ (l : List Worker). length l) e ∙ length_seam rest in
    let crew_is : crew ≡ rest ++ (worker ∷ g.rest) = g.is ∙ (ap (λ (l : List Worker). l ++ g.rest) e ∙ simp append_assoc) in
    let there : slice_get crew (length rest) ≡ Some worker = ap (λ (l : List Worker). slice_get l (length rest)) crew_is ∙ get_middle rest in
    let h : GatheredAt server at (length left) crew seat mid = g.gathered in
    let before : GathersAllBut h.region crew (suc (length rest)) h.before h.after = subst (λ (n : ℕ). GathersAllBut h.region crew n h.before h.after) many h.gathered in
    let same : h.after ≡ changes.before = the_one mid at h.after changes.before (now_at seat mid at h.before h.after h.was h.is) changes.was in
    let number : pass.view.number ≡ length rest = ap (λ (v : View). v.number) view ∙ number_by h.region (length rest) worker (h.is_crew.each (length rest) worker there) in
    record {
      rest = worker ∷ g.rest;
      is = crew_is;
      gathered = record {
        region = h.region;
        placed = h.placed;
        before = h.before;
        was = h.was;
        after = changes.after;
        is_crew = h.is_crew;
        is = changes.is ∙ (ap (λ (l : List Token). slice_set l at changes.after) h.is ∙ set_set seat at h.after changes.after);
        gathered = gather_more h.region crew (length rest) h.before h.after changes.after pass worker h.is_crew there (sym view) number before
            (subst (λ (t : Token). Gathers mmv t.view pass.view changes.after.view) (sym same) changes.changed) (subst (λ (t : Token). IsSame Idle Idle t changes.after) (sym same) changes.stays);
      };
    }
  where
    length_seam : (xs : List Worker) → length (xs ++ worker ∷ []) ≡ suc (length xs)
    length_seam [] = refl
    length_seam (x ∷ xs) = ap suc (length_seam xs)

    get_middle : (xs : List Worker) → slice_get (xs ++ (worker ∷ g.rest)) (length xs) ≡ Some worker
    get_middle [] = refl
    get_middle (x ∷ xs) = get_middle xs

-- a worker among those that are left
pub among : (server : List Mounted) (at : ℕ) (crew left rest : List Worker) (worker : Worker) (seat mid : List Token) → Gathering server at crew left seat mid → left ≡ rest ++ worker ∷ [] → slice_get crew (length rest) ≡ Some worker
among server at crew left rest worker seat mid g e =
    ap (λ (l : List Worker). slice_get l (length rest)) (g.is ∙ (ap (λ (l : List Worker). l ++ g.rest) e ∙ simp append_assoc)) ∙ get_middle rest
  where
    get_middle : (xs : List Worker) → slice_get (xs ++ (worker ∷ g.rest)) (length xs) ≡ Some worker
    get_middle [] = refl
    get_middle (x ∷ xs) = get_middle xs

-- Passes that were not put to work

pub idle_last : (passes rest : List Token) (pass : Token) → passes ≡ rest ++ pass ∷ [] → idle_crew passes ≡ idle_crew rest ++ workers.Idle pass ∷ []
idle_last passes rest pass is = ap (λ (l : List Token). idle_crew l) is ∙ map_push (λ (p : Token). workers.Idle p) rest pass

-- one of them is of the region there
pub passes_there : (passes left rest : List Token) (pass : Token) (server : List Mounted) (at : ℕ) (seat mid : List Token) (c : IsCrewAt server at (idle_crew passes) seat) → Gathering server at (idle_crew passes) (idle_crew left) seat mid
    → left ≡ rest ++ pass ∷ [] → pass.region ≡ c.region
passes_there passes left rest pass server at seat mid c g is =
    (c.is_crew.each (length (idle_crew rest)) (workers.Idle pass) (among server at (idle_crew passes) (idle_crew left) (idle_crew rest) (workers.Idle pass) seat mid g (idle_last left rest pass is))).region_is
