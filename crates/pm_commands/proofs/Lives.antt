-- Status 14 comes exactly where `retire` finds an archive whose current volume is below its number, or that has no label.
use Rattle.std.proofs.Common.{◌≡◌, ◌⊎◌, inl, inr, ⊎_elim, ℕ, ◌<◌, ◌≤◌, List, [], length, refl, sym, ◌∙◌, ap, subst, arith, Option, Some, None}
use Rattle.std.proofs.lemmas.Bool.{cases_lt}
use Rattle.pcp_base.specs.declared.file.FileId.{FileId}
use Rattle.pcp_model.specs.Archive.{ArchiveContents, ArchiveReading, IsArchive}
use Rattle.pcp_model.specs.Disk.{Files, contents_of}
use Rattle.pcp_model.specs.Recovered.{IsRecovered}
use Rattle.pcp_model.proofs.OneReading.{one_reading}
use Rattle.pcp_outside.specs.Sides.{SourceSide, SinkSide}
use Rattle.logging_session.proofs.ComeBack.{same_left}
use Rattle.script_runs.specs.declared.ending.Ending.{Ending}
use Rattle.script_runs.specs.declared.ending.Ending.TheVariants as ends
use Rattle.pm_words.specs.declared.refusal.Refusal.{Refusal}
use Rattle.pm_words.specs.declared.refusal.Refusal.TheVariants.{Compressed, NotArchive, Script, Rules, Live}
use Rattle.pm_words.specs.declared.words.Command.{Command}
use Rattle.pm_words.specs.declared.words.Command.TheVariants.{Once, Replay, Make, Retire, MmvMake, MmvDump, MmvLift, Dump, Info, Check, Recover, At, Range, Value, Watch, Record, Serve, Pull, Extract, Summary, Export}
use Rattle.pm_words.specs.Refusals.{AtFiles, ending_refusal, status_of}
use Rattle.pm_words.specs.Sides.{DiskSide, Found, files_found}
use Rattle.pm_words.proofs.Asked.{rules_apart, script_apart}
use Rattle.pm_runs.specs.Runners.{Runner}
use Rattle.pm_runs.specs.Scripts.{runs_script}
use Rattle.pm_runs.specs.commands.make.{making}
use Rattle.pm_runs.specs.commands.once.{logging}
use Rattle.pm_runs.specs.commands.recover.{IsMendedSide}
use Rattle.pm_runs.specs.commands.replay.{replaying}
use Rattle.pm_runs.specs.commands.retire as retire
use Rattle.pm_runs.specs.commands.retire.{IsCurrent, IsLive, IsLiveAs, IsLiveFound, IsRetiredSide}
use Rattle.pm_words.proofs.Unreadable.{refused_is_none}
use Rattle.pm_tasks.proofs.Lookings.{at_fits, check_fits, dump_fits, info_fits, range_fits, value_fits}
use Rattle.pm_commands.specs.Causes.{Asks, Cause, CauseAt}
use Rattle.pm_commands.specs.Ends.{Ends, HasBegun, HasRun}
use Rattle.pm_commands.specs.Facts.{IsCommand, IsGiven, LiveIsExact, TurnsAway}
use Rattle.pm_commands.specs.Meanings.{meaning}
use Rattle.pm_commands.proofs.Facts.{by_end, one, turned_away, turned_found}
use Rattle.pm_commands.proofs.Judged.{without_three}

not_both : (w : Option FileId) (file : FileId) → w ≡ None → w ≡ Some file → ⊥
not_both w file none some = let e : None ≡ Some file = sym none ∙ some in cc

-- ---- only `retire` tells so

no_ending : (ending : Ending) (volume : ℕ) → ending_refusal ending ≡ Some (Live volume) → ⊥
no_ending ends.Done volume h = cc
no_ending _ volume h = cc

no_run : (c : Runner) (input : List ℕ) (f : Found) (volume : ℕ) → (runs_script c).turns_away input f (Live volume) → ⊥
no_run c input f volume t = no_ending t.2.1 volume t.2.2.1

abbrev IsRetiring : Command → Type 0
IsRetiring command = (below : ℕ) × (command ≡ Retire below)

only_retire : (command : Command) (input : List ℕ) (f : Found) (volume : ℕ) → (meaning command).turns_away input f (Live volume) → IsRetiring command
only_retire (Once asked) input f volume t = absurd (no_run (logging asked) input f volume t)
only_retire (Replay limit) input f volume t = absurd (no_run (replaying limit) input f volume t)
only_retire (Make asked) input f volume t = absurd (no_run (making asked) input f volume t)
only_retire (Retire below) input f volume t = (below, refl)
only_retire MmvMake input f volume t = absurd t
only_retire MmvDump input f volume t = absurd t
only_retire MmvLift input f volume t = absurd t
only_retire Dump input f volume t = absurd (dump_fits.only f (Live volume) t)
only_retire Info input f volume t = absurd (info_fits.only f (Live volume) t)
only_retire Check input f volume t = absurd (check_fits.only f (Live volume) t)
only_retire Recover input f volume t = absurd t
only_retire (At moment) input f volume t = absurd ((at_fits moment).only f (Live volume) t)
only_retire (Range from to) input f volume t = absurd ((range_fits from to).only f (Live volume) t)
only_retire (Value asked) input f volume t = absurd ((value_fits asked).only f (Live volume) t)
only_retire (Watch from to) input f volume t = absurd (dump_fits.only f (Live volume) t)
only_retire (Record asked) input f volume t = absurd t
only_retire (Serve count) input f volume t = absurd t
only_retire (Pull asked) input f volume t = absurd t
only_retire (Extract limit) input f volume t = absurd t
only_retire (Summary asked) input f volume t = absurd t
only_retire Export input f volume t = absurd t

-- ---- which archives are live

-- the current volume is one
below_current : (files : Files) (volume current : ℕ) → IsCurrent files volume → IsCurrent files current → current ≡ volume
below_current files volume current a b = omega (arith, lower volume current a b, lower current volume b a)
  where
    lower : (m n : ℕ) → IsCurrent files m → IsCurrent files n → n ≤ m
    lower m n x y = ⊎_elim (λ (lt : m < n). absurd (omega (arith, y.filled, ap length (x.above n lt)))) (λ (le : n ≤ m). le) (cases_lt m n)

-- an archive isn't live whose current volume isn't below the number
pub not_live : (files : Files) (c : ArchiveContents) (left : Files) (current below volume : ℕ) → IsArchive files c → IsRecovered files c left → IsCurrent left current → below ≤ current → IsLive below files volume → ⊥
not_live files c left current below volume is recovered at low (r, reads, live) =
    let same : r ≡ ArchiveReading.archive c = one_reading files r (ArchiveReading.archive c) reads is in
    lives (subst (λ (x : ArchiveReading). IsLiveAs below files x volume) same live)
  where
    lives : IsLiveAs below files (ArchiveReading.archive c) volume → ⊥
    lives (other, also, there, under) =
        let here : other ≡ left = same_left files other left (ArchiveReading.archive c) also recovered in
        omega (arith, low, under, below_current left volume current (subst (λ (f : Files). IsCurrent f volume) here there) at)

pub passes_current : (f : Found) (c : ArchiveContents) (left : Files) (current below : ℕ) → IsArchive f.files c → IsRecovered f.files c left → IsCurrent left current → below ≤ current → f.wrapped ≡ None → (e : Refusal) → retire.IsTurnedAway below f e → ⊥
passes_current f c left current below is recovered at low unwrapped (Compressed file) t = not_both f.wrapped file unwrapped t
passes_current f c left current below is recovered at low unwrapped (NotArchive file offset) t = refused_is_none f.files file offset (ArchiveReading.archive c, is) t.1
passes_current f c left current below is recovered at low unwrapped (Live volume) t = not_live f.files c left current below volume is recovered at low t.1
passes_current f c left current below is recovered at low unwrapped _ t = t

-- where it is live that is told
live_only : (below : ℕ) (f : Found) (volume : ℕ) → IsLiveFound below f volume → (e : Refusal) → retire.IsTurnedAway below f e → status_of e ≡ 14
live_only below f volume live (Compressed file) t = absurd (not_both f.wrapped file live.0 t)
live_only below f volume live (NotArchive file offset) t = absurd (refused_is_none f.files file offset (live.1.0, live.1.1) t.1)
live_only below f volume live (Live other) t = refl
live_only below f volume live _ t = absurd t

module _ (words : List (List ℕ)) (s : SourceSide) (k : SinkSide) (d : DiskSide) where
  abbrev Only : Type 0
  Only = (volume : ℕ) × TurnsAway words s d (Live volume) × (d.tells → (below : ℕ) × IsCommand words (Retire below) × IsLiveFound below (files_found d) volume × IsMendedSide d)

  told : (volume : ℕ) (front : List ℕ) → CauseAt AtFiles words s d (Live volume) → HasBegun words s d (Live volume) front → Only
  told volume front c begun = (
    volume,
    turned_away words s k d (Live volume) c,
    λ tells.
        let asks : IsRetiring c.0.command = only_retire c.0.command c.0.input (files_found d) volume (c.1.2 tells) in
        let is : IsCommand words (Retire asks.0) = subst (IsCommand words) asks.1 c.0.words_are in
        let also : begun.0.command ≡ Retire asks.0 = one words s k d begun.0.command (Retire asks.0) begun.0.words_are is in
        let stands : (meaning (Retire asks.0)).begins begun.0.input d (Live volume) front = subst (λ (x : Command). (meaning x).begins begun.0.input d (Live volume) front) also begun.1 in (
          asks.0,
          is,
          subst (λ (x : Command). (meaning x).turns_away c.0.input (files_found d) (Live volume)) asks.1 (c.1.2 tells),
          stands.1 tells,
        ),
  )

  fourteen : (e : Refusal) (front : List ℕ) → Cause words s d e → HasBegun words s d e front → status_of e ≡ 14 → Only
  fourteen (Live volume) front c begun h = told volume front c begun
  fourteen (Script fault) front c begun h = absurd (script_apart 14 (λ n. omega (arith, n)) (λ n. omega (arith, n)) fault.fault h)
  fourteen (Rules fault) front c begun h = absurd (rules_apart 14 (λ n. omega (arith, n)) (λ n. omega (arith, n)) fault.fault h)
  fourteen _ front c begun h = absurd (omega (arith, h))

  only : (status : ℕ) → Ends words s k d status → status ≡ 14 → Only
  only status (inl done) h = absurd (omega (arith, done.0, h))
  only status (inr (inl untold)) h = absurd (omega (arith, untold.0, h))
  only status (inr (inr refused)) h = fourteen refused.refusal refused.front refused.cause refused.begun (sym refused.status_is ∙ h)

  -- over a live archive it isn't done
  not_done : (text : List ℕ) → HasRun words s d text → (below volume : ℕ) → IsCommand words (Retire below) → d.tells → IsLiveFound below (files_found d) volume → ⊥
  not_done text run below volume is tells live =
      let same : run.asks.command ≡ Retire below = one words s k d run.asks.command (Retire below) run.asks.words_are is in
      let done : (meaning (Retire below)).done run.asks.input d = subst (λ (x : Command). (meaning x).done run.asks.input d) same run.served.done in
      let x : IsRetiredSide below d = done tells in
      not_live (contents_of d.held) x.contents x.left x.current below volume x.was x.recovered x.is_current x.not_above live.1

  -- and each is told, unless memory ran out or the disk failed
  found : (e : Refusal) → Cause words s d e → (below volume : ℕ) → IsCommand words (Retire below) → d.tells → IsLiveFound below (files_found d) volume → (status_of e ≡ 14) ⊎ ((status_of e ≡ 9) ⊎ (status_of e ≡ 5))
  found e c below volume is tells live =
      let asked : IsGiven words s = record { command = Retire below; words_are = is; input = []; given = refl } in
      without_three words s k d (Retire below) refl 14 e c is (turned_found words s k d 14 asked refl
      (λ (a : Asks words s) (x : Refusal) turned.
      live_only below (files_found d) volume live x (subst (λ (y : Command). (meaning y).turns_away a.input (files_found d) x) (one words s k d a.command (Retire below) a.words_are is) (turned tells))) e c)

  pub live_is_exact : (status : ℕ) → Ends words s k d status → LiveIsExact words s d status
  live_is_exact status ends = record {
    only = only status ends;
    always = by_end words s k d status (λ n. (below volume : ℕ) → IsCommand words (Retire below) → d.tells → IsLiveFound below (files_found d) volume → (n ≡ 14) ⊎ ((n ≡ 9) ⊎ (n ≡ 5))) ends
        (λ done below volume is tells live. absurd (not_done done.text done.run below volume is tells live)) (λ untold below volume is tells live. absurd (not_done untold.text untold.run below volume is tells live)) found;
  }
