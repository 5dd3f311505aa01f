-- Whether no pass is at work, region by region of the script.
use Rattle.std.proofs.Common.{◌≡◌, ℕ, zero, suc, ◌<◌, ◌≤◌, Bool, true, false, ◌&&◌, List, [], ◌∷◌, map, length, take, slice_get, Some, sym, refl, ap, ◌∙◌, arith}
use Rattle.std.specs.Global.{Vec}
use Rattle.std.specs.List.{list_all}
use Rattle.std.proofs.lemmas.Option.{slice_get_within}
use Rattle.region_rule.specs.Seats.{MadeRegion, Token}
use Rattle.fetch_engine.specs.declared.server.Mounted.{Mounted}
use Rattle.run_script.specs.declared.script.Script.{Script}
use Rattle.script_runs.specs.Regions.{Doing, ScriptRegion}
use Rattle.script_runs.specs.Runs.{is_idle, are_idle}
use Rattle.run_passes.specs.declared.worker.Worker.{Worker}
use Rattle.run_passes.specs.Workers.{doing_of}
use Rattle.run_passes.specs.declared.running.Running.{Running}
use Rattle.run_passes.specs.Crews.{rests, IsPlace, IsFollowed, IsManned, Follows}

abbrev pub idle_region : ScriptRegion → Bool
idle_region r = list_all is_idle r.doing

get_there : {A : Type 0} (xs : List A) (i : ℕ) → i < length xs → (x : A) × (slice_get xs i ≡ Some x)
get_there [] i h = absurd (omega arith)
get_there (x ∷ xs) zero h = (x, refl)
get_there (x ∷ xs) (suc i) h = get_there xs i (omega arith)

all_mapped : (crew : List Worker) → list_all is_idle (map doing_of crew) ≡ list_all rests crew
all_mapped [] = refl
all_mapped (w ∷ ws) = ap (λ (b : Bool). rests w && b) (all_mapped ws)

all_more : {A : Type 0} (p : A → Bool) (xs : List A) (i : ℕ) (x : A) → slice_get xs i ≡ Some x → list_all p (take i xs) ≡ true → p x ≡ true → list_all p (take (suc i) xs) ≡ true
all_more p [] i x e h k = absurd (cc)
all_more p (y ∷ ys) zero x e h k = let same : y ≡ x = cc in ap (λ (b : Bool). b && true) (ap p same ∙ k)
all_more p (y ∷ ys) (suc i) x e h k = by_test (p y) h (λ g. all_more p ys i x e g k)
  where
    by_test : (b : Bool) → (b && list_all p (take i ys)) ≡ true → (list_all p (take i ys) ≡ true → list_all p (take (suc i) ys) ≡ true) → (b && list_all p (take (suc i) ys)) ≡ true
    by_test true g more = more g
    by_test false g more = g

not_all : {A : Type 0} (p : A → Bool) (xs : List A) (i : ℕ) (x : A) → slice_get xs i ≡ Some x → p x ≡ false → list_all p xs ≡ false
not_all p [] i x e h = absurd (cc)
not_all p (y ∷ ys) zero x e h = let same : y ≡ x = cc in ap (λ (b : Bool). b && list_all p ys) (ap p same ∙ h)
not_all p (y ∷ ys) (suc i) x e h = ap (λ (b : Bool). p y && b) (not_all p ys i x e h) ∙ never (p y)
  where
    never : (b : Bool) → (b && false) ≡ false
    never true = refl
    never false = refl

pub take_all : {A : Type 0} (xs : List A) (n : ℕ) → length xs ≤ n → take n xs ≡ xs
take_all [] zero h = refl
take_all [] (suc n) h = refl
take_all (x ∷ xs) zero h = absurd (omega arith)
take_all (x ∷ xs) (suc n) h = ap (λ (l : List _). x ∷ l) (take_all xs n (omega arith))

-- so many regions of the script were found idle
abbrev pub IdleSoFar : Script → List Mounted → Running → ℕ → Type 0
IdleSoFar script server running n = (seat : List Token) (regions : List ScriptRegion) → IsManned server running seat → Follows script server running seat regions → list_all idle_region (take n regions) ≡ true

module _ (script : Script) (server : List Mounted) (running : Running) (region at : ℕ) (place : IsPlace script server region at) (crew : Vec Worker) (there : slice_get running.crews.items at ≡ Some crew) where
  found : (seat : List Token) (regions : List ScriptRegion) → IsManned server running seat → Follows script server running seat regions → (r : ScriptRegion) × (slice_get regions region ≡ Some r) × (idle_region r ≡ list_all rests crew.items)
  found seat regions manned follows =
      let within : region < length regions = let a = slice_get_within script.regions region place.row place.is in let b = follows.as_many in omega arith in
      let r = get_there regions region within in
      let seats : length seat ≡ length server = sym (long_tokens seat) ∙ (ap (λ (l : List MadeRegion). length l) manned.seated ∙ long_rows server) in
      let logger = get_there seat at (let a = slice_get_within server at place.mounted place.there in omega arith) in
      let is : IsFollowed r.0 place.mounted crew.items logger.0 = follows.each region place.row r.0 place.is r.1 at place.mounted crew logger.0 place.there there logger.1 place.serves.cluster in
      (r.0, r.1, ap (λ (l : List Doing). list_all is_idle l) is.stands.doing ∙ all_mapped crew.items)
    where
      long_tokens : (ts : List Token) → length (map (λ (t : Token). t.region) ts) ≡ length ts
      long_tokens [] = refl
      long_tokens (t ∷ ts) = ap suc (long_tokens ts)

      long_rows : (ms : List Mounted) → length (map (λ (m : Mounted). m.region) ms) ≡ length ms
      long_rows [] = refl
      long_rows (m ∷ ms) = ap suc (long_rows ms)

  pub idle_more : list_all rests crew.items ≡ true → IdleSoFar script server running region → IdleSoFar script server running (suc region)
  idle_more idle so_far seat regions manned follows =
      let f = found seat regions manned follows in
      all_more idle_region regions region f.0 f.1 (so_far seat regions manned follows) (f.2 ∙ idle)

  pub not_idle : list_all rests crew.items ≡ false → (seat : List Token) (regions : List ScriptRegion) → IsManned server running seat → Follows script server running seat regions → false ≡ are_idle regions
  not_idle works seat regions manned follows =
      let f = found seat regions manned follows in
      sym (not_all idle_region regions region f.0 f.1 (f.2 ∙ works))

pub idle_all : (script : Script) (server : List Mounted) (running : Running) (n : ℕ) → length script.regions ≤ n → IdleSoFar script server running n
    → (seat : List Token) (regions : List ScriptRegion) → IsManned server running seat → Follows script server running seat regions → true ≡ are_idle regions
idle_all script server running n past so_far seat regions manned follows =
    sym (ap (λ (l : List ScriptRegion). list_all idle_region l) (sym (take_all regions n (let b = follows.as_many in omega arith))) ∙ so_far seat regions manned follows)
