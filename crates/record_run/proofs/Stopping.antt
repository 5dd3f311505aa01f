-- Why a recording ends as it does, and what it did to its archive, from what stopped its samples.
use Rattle.std.proofs.Common.{◌≡◌, ◌⊎◌, inl, inr, ℕ, ◌<◌, ◌≤◌, List, [], ◌∷◌, ◌++◌, length, Option, refl, sym, subst}
use Rattle.pcp_base.specs.Time.{Moment}
use Rattle.pcp_model.specs.Disk.{Files}
use Rattle.pcp_outside.specs.declared.disk.Disk.{Ghosts as DiskGhosts}
use Rattle.region_rule.specs.Seats.{Token}
use Rattle.fetch_answers.specs.declared.fetch.Fetched.{Fetched}
use Rattle.fetch_answers.specs.Readings.{RegionReading}
use Rattle.fetch_engine.specs.declared.server.Mounted.{Mounted}
use Rattle.fetch_engine.specs.Visits.{AreRead}
use Rattle.log_schedule.specs.declared.config.Group.{Group}
use Rattle.logging_session.specs.Course.{WentBy}
use Rattle.logging_session.specs.Events.{Event, opening, with_report}
use Rattle.logging_session.specs.Keeping.{Carried}
use Rattle.run_script.specs.declared.script.Script.{Script}
use Rattle.script_runs.specs.declared.ending.Ending.{Ending}
use Rattle.script_runs.specs.declared.ending.Ending.TheVariants as ends
use Rattle.script_runs.specs.declared.ending.LimitKind.TheVariants as kinds
use Rattle.script_runs.specs.Archives.{IsTurnedAway, report_of, run_label}
use Rattle.script_runs.specs.Groups.{Plan}
use Rattle.run_archive.specs.Endings.{EndsUnlogged}
use Rattle.run_archive.specs.Kept.{HasDone, IsLeft, KeepsRun, LeavesUnlogged, TurnsItAway}
use Rattle.run_archive.specs.Shown.{events_of, pmids_by}
use Rattle.record_run.specs.Beside.{IsSampled, StopsLogging}
use Rattle.record_run.specs.Halting.{EndsSamples, Took}
use Rattle.record_run.specs.Stopping.{LoggingDid, ShowsLast, TurnsLastAway, WhyStopped, shown_last}

-- an ending behind which all that was shown is logged
abbrev pub EndsLogged : Ending → Type 0
EndsLogged ends.Done = Unit {0}
EndsLogged (ends.ClockEnd left) = Unit {0}
EndsLogged (ends.ClockFault left) = Unit {0}
EndsLogged ends.NoMemory = Unit {0}
EndsLogged ending = ⊥

-- Too many metrics

module _ (groups : List Group) (server : List Mounted) (before after : List Token) (e : Ending) where
  -- too many are asked for at the moment that lacks a sample
  pub record AsksMany (lacking : List Moment) (plans : Option (List Plan)) : Type 0 where
    pub stamp : Moment
    pub lacks : lacking ≡ stamp ∷ []
    pub names : List RegionReading
    pub read : AreRead server before names after
    pub many : 1024 < length (pmids_by groups plans names stamp)
    pub is : e ≡ ends.Limit kinds.Sets (length (pmids_by groups plans names stamp))

  -- that, or memory was refused
  pub asked_why : (stamp : Moment) (names : List RegionReading) (plans : Option (List Plan))
      → (e ≡ ends.NoMemory) ⊎ (AreRead server before names after × (1024 < length (pmids_by groups plans names stamp)) × (e ≡ ends.Limit kinds.Sets (length (pmids_by groups plans names stamp))))
      → EndsLogged e ⊎ AsksMany (stamp ∷ []) plans
  asked_why stamp names plans (inl is) = inl (subst EndsLogged (sym is) tt)
  asked_why stamp names plans (inr (read, many, is)) = inr (record { stamp = stamp; lacks = refl; names = names; read = read; many = many; is = is })

-- Endings of samples

pub unlogged_ends : (e : Ending) → EndsUnlogged e → StopsLogging e × EndsSamples e × ((samples count : ℕ) → count ≤ samples → Took samples count e)
unlogged_ends ends.Done why = absurd why
unlogged_ends ends.DiskFault why = (tt, tt, λ samples count most. most)
unlogged_ends (ends.Condition line) why = absurd why
unlogged_ends (ends.NotArchive file at) why = absurd why
unlogged_ends (ends.Compressed file) why = absurd why
unlogged_ends (ends.Limit what number) why = (tt, tt, λ samples count most. most)
unlogged_ends (ends.ClockEnd samples) why = absurd why
unlogged_ends (ends.ClockFault samples) why = absurd why
unlogged_ends ends.NoMemory why = (tt, tt, λ samples count most. most)
unlogged_ends (ends.NotLater last) why = (tt, tt, λ samples count most. most)
unlogged_ends (ends.Changed pmid) why = (tt, tt, λ samples count most. most)

module _ {script : Script} {server : List Mounted} {first final : List Token} {ending : Ending} {moments : List Moment} {results : List Fetched} (sampled : IsSampled script server first final ending moments results) where
  -- ---- over any disk

  pub logged_why : (e : Ending) → EndsLogged e → WhyStopped sampled e
  logged_why ends.Done all = tt
  logged_why ends.DiskFault all = tt
  logged_why (ends.Condition line) all = tt
  logged_why (ends.NotArchive file at) all = tt
  logged_why (ends.Compressed file) all = tt
  logged_why (ends.Limit what number) all = absurd all
  logged_why (ends.ClockEnd samples) all = tt
  logged_why (ends.ClockFault samples) all = tt
  logged_why ends.NoMemory all = tt
  logged_why (ends.NotLater last) all = absurd all
  logged_why (ends.Changed pmid) all = absurd all

  pub shown_why : (e : Ending) → EndsUnlogged e → ShowsLast sampled → WhyStopped sampled e
  shown_why ends.Done why x = tt
  shown_why ends.DiskFault why x = tt
  shown_why (ends.Condition line) why x = tt
  shown_why (ends.NotArchive file at) why x = tt
  shown_why (ends.Compressed file) why x = tt
  shown_why (ends.Limit kinds.Sets number) why x = absurd why
  shown_why (ends.Limit kinds.Record number) why x = x
  shown_why (ends.Limit kinds.Meta number) why x = x
  shown_why (ends.Limit kinds.Index number) why x = x
  shown_why (ends.Limit kinds.Volume number) why x = x
  shown_why (ends.ClockEnd samples) why x = tt
  shown_why (ends.ClockFault samples) why x = tt
  shown_why ends.NoMemory why x = tt
  shown_why (ends.NotLater last) why x = x
  shown_why (ends.Changed pmid) why x = x

  -- ---- over a disk that tells

  module _ {D : Type 0} (d : DiskGhosts D) (limit : ℕ) (left : Files) (start : D) (s : Carried) (disk : D) where
    abbrev Did : Ending → Type 0
    Did e = HasDone d left start s disk e (LoggingDid sampled limit left e)

    all_done : (e : Ending) → LoggingDid sampled limit left e (events_of results) [] → IsLeft d left start s disk (events_of results) [] e → Did e
    all_done e did stands = record { events = events_of results; more = []; did = did; stands = stands }

    -- all that was shown is logged
    pub logged_done : (e : Ending) → EndsLogged e → KeepsRun d left (events_of results) start s disk → Did e
    logged_done ends.Done all kept = all_done ends.Done (refl, refl) kept
    logged_done ends.DiskFault all kept = absurd all
    logged_done (ends.Condition line) all kept = absurd all
    logged_done (ends.NotArchive file at) all kept = absurd all
    logged_done (ends.Compressed file) all kept = absurd all
    logged_done (ends.Limit what number) all kept = absurd all
    logged_done (ends.ClockEnd samples) all kept = all_done (ends.ClockEnd samples) (refl, refl) kept
    logged_done (ends.ClockFault samples) all kept = all_done (ends.ClockFault samples) (refl, refl) kept
    logged_done ends.NoMemory all kept = all_done ends.NoMemory (inl (refl, refl)) kept
    logged_done (ends.NotLater last) all kept = absurd all
    logged_done (ends.Changed pmid) all kept = absurd all

    -- the disk failed as the last one was to be written or made sure
    pub unsure_done : (before : List Fetched) (last : Fetched) → results ≡ before ++ last ∷ [] → WentBy d run_label s.limit left (with_report (events_of before) (report_of last)) [] start disk → Did ends.DiskFault
    unsure_done before last are went = record { events = with_report (events_of before) (report_of last); more = []; did = inr (inr (before, last, are, refl, refl)); stands = went }

    -- also where too many metrics are asked for behind it
    pub many_done : (number : ℕ) → KeepsRun d left (events_of results) start s disk → Did (ends.Limit kinds.Sets number)
    many_done number kept = all_done (ends.Limit kinds.Sets number) (refl, refl) kept

    module _ (x : ShowsLast sampled) (same : s.limit ≡ limit) where
      abbrev opened : List Event
      opened = opening x.sample.stamp (events_of results)

      away_done : (e : Ending) → (TurnsLastAway sampled limit left e opened [] → LoggingDid sampled limit left e opened []) → (KeepsRun d left opened start s disk → IsLeft d left start s disk opened [] e)
          → TurnsItAway d left (events_of results) start (shown_last sampled x) s disk e → Did e
      away_done e did stands t = record {
        events = opened;
        more = [];
        did = did (x, subst (λ (n : ℕ). IsTurnedAway n left (events_of results) (shown_last sampled x) e) same t.away, refl, refl);
        stands = stands t.kept;
      }

      want_done : KeepsRun d left (events_of results) start s disk ⊎ KeepsRun d left opened start s disk → Did ends.NoMemory
      want_done (inl kept) = all_done ends.NoMemory (inl (refl, refl)) kept
      want_done (inr kept) = record { events = opened; more = []; did = inr (x, refl, refl); stands = kept }

      fault_done : WentBy d run_label s.limit left (events_of results) [] start disk → Did ends.DiskFault
      fault_done went = all_done ends.DiskFault (inl (refl, refl)) went

      -- the last one isn't
      pub unlogged_done : (e : Ending) → EndsUnlogged e → LeavesUnlogged d left (events_of results) start (shown_last sampled x) s disk e → Did e
      unlogged_done ends.Done why u = absurd why
      unlogged_done ends.DiskFault why u = fault_done u
      unlogged_done (ends.Condition line) why u = absurd why
      unlogged_done (ends.NotArchive file at) why u = absurd why
      unlogged_done (ends.Compressed file) why u = absurd why
      unlogged_done (ends.Limit kinds.Sets number) why u = absurd why
      unlogged_done (ends.Limit kinds.Record number) why u = away_done (ends.Limit kinds.Record number) (λ t. t) (λ k. k) u
      unlogged_done (ends.Limit kinds.Meta number) why u = away_done (ends.Limit kinds.Meta number) (λ t. t) (λ k. k) u
      unlogged_done (ends.Limit kinds.Index number) why u = away_done (ends.Limit kinds.Index number) (λ t. t) (λ k. k) u
      unlogged_done (ends.Limit kinds.Volume number) why u = away_done (ends.Limit kinds.Volume number) (λ t. t) (λ k. k) u
      unlogged_done (ends.ClockEnd samples) why u = absurd why
      unlogged_done (ends.ClockFault samples) why u = absurd why
      unlogged_done ends.NoMemory why u = want_done u
      unlogged_done (ends.NotLater last) why u = away_done (ends.NotLater last) (λ t. t) (λ k. k) u
      unlogged_done (ends.Changed pmid) why u = away_done (ends.Changed pmid) (λ t. t) (λ k. k) u
