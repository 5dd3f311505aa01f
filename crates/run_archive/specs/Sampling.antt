-- What a call of a sampler makes of its seat, its clock and its archive, and why it stops.
use Rattle.std.specs.Prelude.{◌≡◌, ◌⊎◌, ℕ, ◌+◌, ◌<◌, ◌≤◌, List, [], ◌∷◌, ◌++◌, length, Option}
use Rattle.pcp_base.specs.Time.{Moment}
use Rattle.pcp_outside.specs.Causes.{Rose}
use Rattle.pcp_outside.specs.declared.clocks.Clock.{Ghosts as ClockGhosts}
use Rattle.pcp_outside.specs.declared.disk.Disk.{Ghosts as DiskGhosts}
use Rattle.region_rule.specs.Seats.{Token}
use Rattle.fetch_answers.specs.declared.fetch.Fetched.{Fetched}
use Rattle.fetch_engine.specs.declared.server.Mounted.{Mounted}
use Rattle.fetch_answers.specs.Readings.{RegionReading}
use Rattle.fetch_engine.specs.Visits.{AreLoaded, AreRead}
use Rattle.log_schedule.specs.declared.config.Group.{Group}
use Rattle.script_runs.specs.declared.ending.Ending.{Ending}
use Rattle.script_runs.specs.declared.ending.Ending.TheVariants as ends
use Rattle.script_runs.specs.declared.ending.LimitKind.TheVariants as kinds
use Rattle.logging_session.specs.Course.{WentBy}
use Rattle.logging_session.specs.Events.{with_report}
use Rattle.script_runs.specs.Archives.{report_of, run_label}
use Rattle.script_runs.specs.Groups.{Plan}
use Rattle.script_runs.specs.Steps.{fetched_from}
use Rattle.run_archive.specs.Endings.{EndsUnlogged}
use Rattle.run_archive.specs.Kept.{KeepsRun, LeavesUnlogged, OverAny}
use Rattle.run_archive.specs.declared.sampler.Sampler.{Sampler}
use Rattle.run_archive.specs.Samples.{SampleTaken, IsTaken, AreTaken, stamps_of}
use Rattle.run_archive.specs.Shown.{AreShown, pmids_by, with_results, with_sure_results}

-- the clock's list of moments had ended
abbrev pub HasEnded : {C : Type 0} → ClockGhosts C → C → Type 0
HasEnded c clock = c.tells → c.left clock ≡ []

-- which ending a sample may have at its moment, over any disk: a fault of the disk only where its count of faults rose
abbrev pub MayRefuse : ℕ → ℕ → Ending → Type 0
MayRefuse before after ends.DiskFault = Rose before after
MayRefuse before after (ends.ClockEnd left) = ⊥
MayRefuse before after (ends.ClockFault left) = ⊥
MayRefuse before after (ends.Condition line) = ⊥
MayRefuse before after (ends.NotArchive file at) = ⊥
MayRefuse before after (ends.Compressed file) = ⊥
MayRefuse before after ends.Done = ⊥
MayRefuse before after _ = Unit {0}

-- and over any disk and any clock: the clock's end only where its list had ended, and a fault of it only where its count rose
module _ {C D : Type 0} (c : ClockGhosts C) (d : DiskGhosts D) (old new : D) (before after : C) where
  abbrev pub MayStop : Ending → Type 0
  MayStop (ends.ClockEnd left) = HasEnded c after
  MayStop (ends.ClockFault left) = Rose (c.faults before) (c.faults after)
  MayStop ending = MayRefuse (d.faults old) (d.faults new) ending

-- At a moment
module _ {D : Type 0} (d : DiskGhosts D) (groups : List Group) (server : List Mounted) (was is : Sampler) (seat_was seat_is : List Token) (old new : D) (now : Moment) where
  -- a sample was taken, which asks for so many metrics, and what it shows was logged
  pub record TakesAt (count : ℕ) : Type 0 where
    pub sample : SampleTaken
    pub stamp : sample.stamp ≡ now
    pub before : sample.before ≡ seat_was
    pub after : sample.after ≡ seat_is
    pub taken : IsTaken server sample
    pub results : List Fetched
    pub shown : AreShown groups was.plans (sample ∷ []) results is.plans
    pub so_many : count ≡ length (pmids_by groups was.plans sample.names now)
    pub logs : OverAny d was.session old (λ left events start. KeepsRun d left (with_results events results) start is.session new)
    pub counted : is.session.logged ≡ was.session.logged + length results

  -- nothing was logged, nor anything done to the archive: memory was refused, or too many metrics are asked for
  pub record AsksInVain (ending : Ending) : Type 0 where
    pub loaded : AreLoaded seat_was seat_is
    pub names : List RegionReading
    pub why : (ending ≡ ends.NoMemory)
        ⊎ (AreRead server seat_was names seat_is × (1024 < length (pmids_by groups was.plans names now)) × (ending ≡ ends.Limit kinds.Sets (length (pmids_by groups was.plans names now))))
    pub session : is.session ≡ was.session
    pub disk : new ≡ old

  -- a sample was taken, and what it shows was not logged
  pub record ShowsInVain (ending : Ending) : Type 0 where
    pub sample : SampleTaken
    pub stamp : sample.stamp ≡ now
    pub before : sample.before ≡ seat_was
    pub after : sample.after ≡ seat_is
    pub taken : IsTaken server sample
    pub some : 0 < length (pmids_by groups was.plans sample.names sample.stamp)
    pub few : length (pmids_by groups was.plans sample.names sample.stamp) ≤ 1024
    pub why : EndsUnlogged ending
    pub logs : OverAny d was.session old (λ left events start. LeavesUnlogged d left events start
        (fetched_from sample.values (pmids_by groups was.plans sample.names sample.stamp) sample.stamp) is.session new ending)
    pub counted : is.session.logged ≡ was.session.logged

  abbrev pub StopsAt : Ending → Type 0
  StopsAt ending = AsksInVain ending ⊎ ShowsInVain ending

module _ {C D : Type 0} (c : ClockGhosts C) (d : DiskGhosts D) (groups : List Group) (server : List Mounted) (was is : Sampler) (seat_was seat_is : List Token) (clock_was clock_is : C) (disk_was disk_is : D) where
  -- These samples were taken, and what they show was logged, and made sure behind each of them.
  pub record GoesOn (samples : List SampleTaken) : Type 0 where
    pub taken : AreTaken server seat_was samples seat_is
    pub moments : c.tells → c.left clock_was ≡ stamps_of samples ++ c.left clock_is
    pub results : List Fetched
    pub shown : AreShown groups was.plans samples results is.plans
    pub logs : OverAny d was.session disk_was (λ left events start. KeepsRun d left (with_sure_results events results) start is.session disk_is)
    pub counted : is.session.logged ≡ was.session.logged + length results

  -- The clock gave no further moment.
  pub record EndsBefore (samples : List SampleTaken) (ending : Ending) (left : ℕ) : Type 0 where
    pub goes : GoesOn samples
    pub why : (ending ≡ ends.ClockEnd left) ⊎ (ending ≡ ends.ClockFault left)

  -- Behind these samples one more moment was taken, and nothing was logged at it: want of memory, or too many metrics are asked
  -- for. The sample lacks its reading for values at least.
  pub record AskedInVain (samples : List SampleTaken) (ending : Ending) : Type 0 where
    pub stamp : Moment
    pub middle : List Token
    pub taken : AreTaken server seat_was samples middle
    pub loaded : AreLoaded middle seat_is
    pub moments : c.tells → c.left clock_was ≡ stamps_of samples ++ stamp ∷ c.left clock_is
    pub results : List Fetched
    pub plans : Option (List Plan)
    pub shown : AreShown groups was.plans samples results plans
    pub names : List RegionReading
    pub why : (ending ≡ ends.NoMemory)
        ⊎ (AreRead server middle names seat_is × (1024 < length (pmids_by groups plans names stamp)) × (ending ≡ ends.Limit kinds.Sets (length (pmids_by groups plans names stamp))))
    pub logs : OverAny d was.session disk_was (λ left events start. KeepsRun d left (with_sure_results events results) start is.session disk_is)
    pub counted : is.session.logged ≡ was.session.logged + length results

  -- Behind these samples one more was taken, and what it shows was not logged.
  pub record ShownInVain (samples : List SampleTaken) (ending : Ending) : Type 0 where
    pub last : SampleTaken
    pub taken : AreTaken server seat_was (samples ++ last ∷ []) seat_is
    pub moments : c.tells → c.left clock_was ≡ stamps_of samples ++ last.stamp ∷ c.left clock_is
    pub results : List Fetched
    pub plans : Option (List Plan)
    pub shown : AreShown groups was.plans samples results plans
    pub some : 0 < length (pmids_by groups plans last.names last.stamp)
    pub few : length (pmids_by groups plans last.names last.stamp) ≤ 1024
    pub why : EndsUnlogged ending
    pub logs : OverAny d was.session disk_was (λ left events start. LeavesUnlogged d left (with_sure_results events results) start
        (fetched_from last.values (pmids_by groups plans last.names last.stamp) last.stamp) is.session disk_is ending)
    pub counted : is.session.logged ≡ was.session.logged + length results

  -- Behind these samples one more was taken, and what it shows was logged; the disk failed as that was to be made sure.
  pub record LoggedUnsure (samples : List SampleTaken) (ending : Ending) : Type 0 where
    pub last : SampleTaken
    pub taken : AreTaken server seat_was (samples ++ last ∷ []) seat_is
    pub moments : c.tells → c.left clock_was ≡ stamps_of samples ++ last.stamp ∷ c.left clock_is
    pub results : List Fetched
    pub unsure : Fetched
    pub shown : AreShown groups was.plans (samples ++ last ∷ []) (results ++ unsure ∷ []) is.plans
    pub why : ending ≡ ends.DiskFault
    pub logs : OverAny d was.session disk_was (λ left events start. WentBy d run_label is.session.limit left (with_report (with_sure_results events results) (report_of unsure)) [] start disk_is)
    pub counted : is.session.logged ≡ was.session.logged + length results + 1

  -- sampling stopped, when so many samples were left
  abbrev pub StopsSampling : List SampleTaken → ℕ → Ending → Type 0
  StopsSampling samples left ending = EndsBefore samples ending left ⊎ (AskedInVain samples ending ⊎ (ShownInVain samples ending ⊎ LoggedUnsure samples ending))
