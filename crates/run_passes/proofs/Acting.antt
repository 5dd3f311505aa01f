-- A line that is run by the writer at a position, and a writer that is ended.
use Rattle.std.proofs.Common.{◌≡◌, ◌⊎◌, ⊎_elim, ℕ, ◌<◌, true, List, length, slice_get, slice_set, option_map, Option, Some, None, Result, Ok, Err, sym, refl, ap, ◌∙◌, subst}
use Rattle.std.specs.Prelude.{MatchResult}
use Rattle.pcp_base.specs.declared.memory.NoMemory.{NoMemory}
use Rattle.region_core.specs.declared.mode.Mode.TheVariants.{Idle}
use Rattle.region_rule.specs.Seats.{MadeRegion, Token}
use Rattle.fetch_engine.specs.declared.server.Mounted.{Mounted}
use Rattle.run_script.specs.declared.script.Line.{Line}
use Rattle.run_script.specs.declared.script.Script.{Script}
use Rattle.run_passes.specs.Workers.{IsPassOf}
use Rattle.run_passes.specs.declared.writer.Writer.{Writer}
use Rattle.run_passes.specs.declared.writer.Writer.TheVariants as writers
use Rattle.run_passes.specs.LineEntries.{Writing}
use Rattle.run_script.specs.Recording.{may_come}
use Rattle.run_passes.specs.Writers.{HasRoom, IsHere, IsWriter, RunsLine, StaysWriter, stage_of, view_of, writing_of}
use Rattle.run_passes.specs.Hands.{ActsAt, IsReadyAt, LaidDown}
use Rattle.run_passes.proofs.Handed.{get_at}

mapped : (server : List Mounted) (at : ℕ) (mounted : Mounted) → slice_get server at ≡ Some mounted → option_map (λ (row : Mounted). row.region) (slice_get server at) ≡ Some mounted.region
mapped server at mounted e = ap (λ (o : Option Mounted). option_map (λ (row : Mounted). row.region) o) e

pub no_region : (server : List Mounted) (at : ℕ) → at < length server → None ≡ option_map (λ (row : Mounted). row.region) (slice_get server at) → ⊥
no_region server at h e = let m = get_at server at h in let wrong : None ≡ Some m.0.region = e ∙ mapped server at m.0 m.1 in cc

pub region_same : (server : List Mounted) (at : ℕ) (found : MadeRegion) (mounted : Mounted) → Some found ≡ option_map (λ (row : Mounted). row.region) (slice_get server at) → slice_get server at ≡ Some mounted → found ≡ mounted.region
region_same server at found mounted e f = let same : Some found ≡ Some mounted.region = e ∙ mapped server at mounted f in cc

pub record IsReady (script : Script) (region : MadeRegion) (line : Line) (writer : Writer) : Type 0 where
  pub here : IsHere region writer
  pub may : may_come (stage_of (writing_of writer)) line ≡ true
  pub room : HasRoom script.images line (length region.words)

pub ready_now : (script : Script) (server : List Mounted) (at : ℕ) (line : Line) (list : List Writer) (region : MadeRegion) (writer : Writer) → at < length server → Some region ≡ option_map (λ (row : Mounted). row.region) (slice_get server at)
    → IsReadyAt script server at line list → slice_get list at ≡ Some writer → IsReady script region line writer
ready_now script server at line list region writer within e ready there =
    let m = get_at server at within in
    let same : region ≡ m.0.region = region_same server at region m.0 e m.1 in
    let r = ready m.0 writer m.1 there in
    subst (λ (x : MadeRegion). IsReady script x line writer) (sym same) (record { here = r.0; may = r.1; room = r.2 })

pub acts_done : (images : List (List ℕ × List ℕ)) (server : List Mounted) (at : ℕ) (line : Line) (list : List Writer) (region : MadeRegion) (writer done : Writer) (answer : Result (Unit {0}) NoMemory) → at < length server
    → Some region ≡ option_map (λ (row : Mounted). row.region) (slice_get server at) → slice_get list at ≡ Some writer
    → MatchResult answer (λ _. RunsLine region images line writer done) (λ _. StaysWriter region writer done)
    → MatchResult answer (λ _. ActsAt server at list (slice_set list at done) (λ r was next. RunsLine r images line was next)) (λ _. ActsAt server at list (slice_set list at done) StaysWriter)
acts_done images server at line list region writer done answer within e there how = by_answer answer how
  where
    m : (mounted : Mounted) × (slice_get server at ≡ Some mounted)
    m = get_at server at within

    acts : (How : MadeRegion → Writer → Writer → Type 0) → How region writer done → ActsAt server at list (slice_set list at done) How
    acts How h = record { mounted = m.0; there = m.1; was = writer; before = there; done = done; is = refl; how = subst (λ (r : MadeRegion). How r writer done) (region_same server at region m.0 e m.1) h }

    by_answer : (a : Result (Unit {0}) NoMemory) → MatchResult a (λ _. RunsLine region images line writer done) (λ _. StaysWriter region writer done)
        → MatchResult a (λ _. ActsAt server at list (slice_set list at done) (λ r was next. RunsLine r images line was next)) (λ _. ActsAt server at list (slice_set list at done) StaysWriter)
    by_answer (Ok x) h = acts (λ r was next. RunsLine r images line was next) h
    by_answer (Err x) h = acts StaysWriter h

-- Ending

laid_by : (region : MadeRegion) (number : ℕ) (writer : Writer) (pass : Token) → IsWriter region number writer → ((k : ℕ) → IsWriter region k writer → IsPassOf region k Idle pass) → (writing_of writer ≡ Writing.idle → pass.view ≡ view_of writer)
    → LaidDown region number writer (Some pass)
laid_by region number (writers.Idle p) pass w idle same = record { pass = pass; is = refl; idle = idle number w; same = same }
laid_by region number (writers.Inside p) pass w idle same = record { pass = pass; is = refl; idle = idle number w; same = same }
laid_by region number (writers.Changing p) pass w idle same = record { pass = pass; is = refl; idle = idle number w; same = same }
laid_by region number (writers.Refused p) pass w idle same = record { pass = pass; is = refl; idle = idle number w; same = same }
laid_by region number writers.Away pass w idle same = absurd w

pub put_by : (server : List Mounted) (at : ℕ) (found : MadeRegion) (mounted : Mounted) (number : ℕ) (writer other : Writer) (pass : Token) → writer ≡ other → (writer ≡ writers.Away → ⊥) → Some found ≡ option_map (λ (row : Mounted). row.region) (slice_get server at)
    → slice_get server at ≡ Some mounted → (writer ≡ writers.Away) ⊎ IsWriter mounted.region number writer → ((k : ℕ) → IsWriter found k other → IsPassOf found k Idle pass) → (writing_of other ≡ Writing.idle → pass.view ≡ view_of other)
    → LaidDown mounted.region number writer (Some pass)
put_by server at found mounted number writer other pass e not_away f there is idle same = ⊎_elim
    (λ (gone : writer ≡ writers.Away). absurd (not_away gone))
    (λ (w : IsWriter mounted.region number writer).
    let region : found ≡ mounted.region = region_same server at found mounted f there in
    subst (λ (x : Writer). LaidDown mounted.region number x (Some pass)) (sym e)
    (laid_by mounted.region number other pass (subst (λ (x : Writer). IsWriter mounted.region number x) e w) (λ k v. subst (λ (r : MadeRegion). IsPassOf r k Idle pass) region (idle k (subst (λ (r : MadeRegion). IsWriter r k other) (sym region) v))) same))
    is
