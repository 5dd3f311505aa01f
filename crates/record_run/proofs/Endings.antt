-- How a run ends behind its last line: what was logged is flushed and told.
use Rattle.std.proofs.Common.{◌≡◌, ◌≢◌, ◌⊎◌, inl, inr, ℕ, ◌-◌, ◌≤◌, List, [], length, refl, sym, ap, ◌∙◌, subst}
use Rattle.pcp_base.specs.declared.result.Item.{Item}
use Rattle.pcp_model.specs.Disk.{Files}
use Rattle.pcp_outside.specs.declared.disk.Disk.{Ghosts as DiskGhosts}
use Rattle.region_rule.specs.Seats.{Token}
use Rattle.fetch_engine.specs.declared.server.Mounted.{Mounted}
use Rattle.logging_session.specs.Course.{WentBy}
use Rattle.logging_session.specs.Events.{Event, items_by, logged_all}
use Rattle.run_script.specs.declared.script.Script.{Script}
use Rattle.run_passes.specs.Seen.{HaveSeen}
use Rattle.script_runs.specs.declared.ending.Ending.{Ending}
use Rattle.script_runs.specs.declared.ending.Ending.TheVariants as ends
use Rattle.script_runs.specs.declared.ending.LimitKind.{LimitKind}
use Rattle.script_runs.specs.declared.ending.LimitKind.TheVariants as kinds
use Rattle.script_runs.specs.Archives.{run_label}
use Rattle.script_runs.specs.Closing.{closed_regions}
use Rattle.script_runs.specs.Runs.{Does, FailsBehind, Halts, LineDoes, Next, RanTo, with_end}
use Rattle.script_runs.specs.Steps.{RunState}
use Rattle.run_archive.specs.declared.replayed.Replayed.{Replayed}
use Rattle.run_archive.specs.Endings.{EndsAs, before_lost, told_behind}
use Rattle.run_archive.specs.Kept.{HasDone}
use Rattle.run_archive.specs.Outcomes.{HasFinished, ended}
use Rattle.run_archive.proofs.Outcomes.{Failed, Fails, Flushed, has_finished}
use Rattle.record_run.specs.declared.run.Run.{Run}
use Rattle.record_run.specs.Replays.{EndsFrom, HasReplayed, ReplaysOver}
use Rattle.record_run.specs.States.{CameTo, DoesBehind, Leads}
use Rattle.record_run.proofs.Lost.{EndsAt, LosesOf, ends_at, went_lost}
use Rattle.record_run.proofs.Undone.{is_failing}

-- ---- an ending, and that of the run

told_is : (e : Ending) (s : RunState) → told_behind e s.output (length (items_by s.events)) ≡ with_end e s
told_is ends.Done s = refl
told_is (ends.Condition line) s = refl
told_is ends.DiskFault s = refl
told_is (ends.NotArchive file at) s = refl
told_is (ends.Compressed file) s = refl
told_is (ends.Limit what number) s = refl
told_is (ends.ClockEnd samples) s = refl
told_is (ends.ClockFault samples) s = refl
told_is ends.NoMemory s = refl
told_is (ends.NotLater last) s = refl
told_is (ends.Changed pmid) s = refl

last_halts : (script : Script) (count : ℕ) (s : RunState) (e last : Ending) → EndsAs e last → Halts script count s e → Halts script count s last
last_halts script count s e last (inl same) halts = subst (λ (x : Ending). Halts script count s x) (sym same) halts
last_halts script count s e last (inr (inl failing)) halts = subst (λ (x : Ending). Halts script count s x) (sym failing) tt
last_halts script count s e last (inr (inr (done, refused))) halts = subst (λ (x : Ending). Halts script count s x) (sym refused) tt

module _ (script : Script) (limit : ℕ) (left : Files) (count : ℕ) (s : RunState) (events : List Event) (more : List Item) where
  abbrev Failing : Type 0
  Failing = FailsBehind script count s events × (more ≡ [])

  -- where the disk fails at the end of a run it has done no more than it had
  line_fails : (what : LimitKind) (number : ℕ) → Next script count (λ n l. LineDoes script limit left s l (ends.Limit what number) events more) → Failing
  line_fails kinds.Sets number (n, l, there, did) = (inl did.0, did.1)
  line_fails kinds.Record number (n, l, there, (x, away, opens, none)) = (inr (n, l, there, (x, opens)), none)
  line_fails kinds.Meta number (n, l, there, (x, away, opens, none)) = (inr (n, l, there, (x, opens)), none)
  line_fails kinds.Index number (n, l, there, (x, away, opens, none)) = (inr (n, l, there, (x, opens)), none)
  line_fails kinds.Volume number (n, l, there, (x, away, opens, none)) = (inr (n, l, there, (x, opens)), none)

  fails_behind : (e : Ending) → DoesBehind script limit left count s e events more → Failing
  fails_behind ends.Done did = (inl did.0, did.1)
  fails_behind (ends.Condition line) did = (inl did.0, did.1)
  fails_behind ends.DiskFault did = did
  fails_behind (ends.NotArchive file at) did = absurd did
  fails_behind (ends.Compressed file) did = absurd did
  fails_behind (ends.Limit what number) did = line_fails what number did
  fails_behind (ends.ClockEnd samples) did = absurd did
  fails_behind (ends.ClockFault samples) did = absurd did
  fails_behind ends.NoMemory (inl nothing) = (inl nothing.0, nothing.1)
  fails_behind ends.NoMemory (inr (at, line, there, inl nothing)) = (inl nothing.0, nothing.1)
  fails_behind ends.NoMemory (inr (at, line, there, inr (x, opens, none))) = (inr (at, line, there, (x, opens)), none)
  fails_behind (ends.NotLater last) (at, line, there, (x, away, opens, none)) = (inr (at, line, there, (x, opens)), none)
  fails_behind (ends.Changed pmid) (at, line, there, (x, away, opens, none)) = (inr (at, line, there, (x, opens)), none)

  -- unless it failed this is what it did
  does_behind : (e : Ending) → e ≢ ends.DiskFault → DoesBehind script limit left count s e events more → Does script limit left count s count s e events more
  does_behind ends.Done other did = did
  does_behind (ends.Condition line) other did = did
  does_behind ends.DiskFault other did = absurd (other refl)
  does_behind (ends.NotArchive file at) other did = did
  does_behind (ends.Compressed file) other did = did
  does_behind (ends.Limit what number) other did = did
  does_behind (ends.ClockEnd samples) other did = did
  does_behind (ends.ClockFault samples) other did = did
  does_behind ends.NoMemory other did = did
  does_behind (ends.NotLater last) other did = did
  does_behind (ends.Changed pmid) other did = did

  last_does : (e last : Ending) → last ≢ ends.DiskFault → EndsAs e last → DoesBehind script limit left count s e events more → Does script limit left count s count s last events more
  last_does e last other (inl same) did =
      subst (λ (x : Ending). Does script limit left count s count s x events more) (sym same) (does_behind e (λ failing. other (same ∙ failing)) did)
  last_does e last other (inr (inl failing)) did = absurd (other failing)
  last_does e last other (inr (inr (done, refused))) did =
      subst (λ (x : Ending). Does script limit left count s count s x events more) (sym refused) (inl (subst (λ (x : Ending). DoesBehind script limit left count s x events more) done did))

-- ---- a run over what recovery left

module _ {D : Type 0} (d : DiskGhosts D) (script : Script) (server : List Mounted) (was is : Run) (seat after : List Token) (start stopped new : D) (e : Ending) (r : Replayed) (came : CameTo d script server was is seat start stopped e)
    (same_limit : is.sampler.session.limit ≡ was.sampler.session.limit) (how : EndsAs e r.ending) (lost : ℕ) (within : lost ≤ length is.marks.items) (unlost : r.ending ≢ ends.DiskFault → lost ≡ 0)
    (counted : r.logged ≡ is.sampler.session.logged - lost) (output : r.output ≡ told_behind r.ending (before_lost is.marks.items lost is.out.items) (is.sampler.session.logged - lost))
    (seen : HaveSeen script (closed_regions came.last.regions) server after) where
  -- its lines, but for those from the tick of the first lost result on
  cut : EndsAt script came.count came.last is.marks.items lost
  cut = ends_at script came.count came.last is.marks.items came.ran came.marks.reports came.marks.are lost within

  still : (A : ℕ → RunState → Type 0) → lost ≡ 0 → A came.count came.last → A cut.lines cut.state
  still A none a =
      let same : (came.count ≡ cut.lines) × (came.last ≡ cut.state) = cut.same none in
      subst (λ (n : ℕ). A n cut.state) same.0 (subst (λ (s : RunState). A came.count s) same.1 a)

  halts_so : (r.ending ≡ ends.DiskFault) ⊎ (r.ending ≢ ends.DiskFault) → Halts script cut.lines cut.state r.ending
  halts_so (inl failing) = subst (λ (x : Ending). Halts script cut.lines cut.state x) (sym failing) tt
  halts_so (inr other) = still (λ n s. Halts script n s r.ending) (unlost other) (last_halts script came.count came.last e r.ending how came.halts)

  many : is.sampler.session.logged - lost ≡ length (items_by cut.state.events)
  many = ap (λ (n : ℕ). n - lost) came.stands.counted ∙ cut.counted

  abbrev ran : RanTo script r.ending r.output (closed_regions came.last.regions)
  ran = record {
    count = cut.lines;
    last = cut.state;
    ran = cut.ran;
    halts = halts_so (is_failing r.ending);
    output_is =
        output
        ∙ ap (λ (lines : List ℕ). told_behind r.ending (before_lost is.marks.items lost lines) (is.sampler.session.logged - lost)) came.stands.output
        ∙ ap (λ (lines : List ℕ). told_behind r.ending lines (is.sampler.session.logged - lost)) cut.output
        ∙ ap (λ (n : ℕ). told_behind r.ending cut.state.output n) many
        ∙ told_is r.ending cut.state;
    further = record { lines = came.count; state = came.last; ran = came.ran; on = cut.on; same = λ other. cut.same (unlost other); before = cut.before };
    closed = refl;
  }

  abbrev has_replayed : HasReplayed script server after r
  has_replayed = record { regions = closed_regions came.last.regions; ran = ran; counted = counted ∙ many; seen = seen }

  module _ (left : Files) (events : List Event) (more : List Item) (did : DoesBehind script was.sampler.session.limit left came.count came.last e events more) (leads : Leads was.sampler.session.limit left events)
      (finished : HasFinished d was.sampler.session.limit left events more start new r.ending) where
    abbrev limit : ℕ
    limit = was.sampler.session.limit

    fails : FailsBehind script came.count came.last events × (more ≡ [])
    fails = fails_behind script limit left came.count came.last events more e did

    -- the disk failed: the last results are lost, or none is
    ends_failing : r.ending ≡ ends.DiskFault → EndsFrom d limit left start new ran
    ends_failing failing =
        let l : LosesOf script came.count came.last is.marks.items limit left cut.lines cut.state events = cut.loses limit left events fails.0 leads in
        let went : WentBy d run_label limit left events more start new = subst (λ (x : Ending). WentBy d run_label limit left (ended x events) more start new) failing finished.went in
        let went_none : WentBy d run_label limit left events [] start new = subst (λ (items : List Item). WentBy d run_label limit left events items start new) fails.1 went in
        record {
          events = l.events;
          more = items_by (logged_all l.lost);
          did = subst (λ (x : Ending). Does script limit left cut.lines cut.state came.count came.last x l.events (items_by (logged_all l.lost))) (sym failing) l.loses;
          finished = record {
            went = subst (λ (x : Ending). WentBy d run_label limit left (ended x l.events) (items_by (logged_all l.lost)) start new) (sym failing) (went_lost d run_label limit left events l.events l.lost start new l.is went_none);
            flushed = λ other. absurd (other failing);
          };
        }

    ends_well : r.ending ≢ ends.DiskFault → EndsFrom d limit left start new ran
    ends_well other = record {
      events = events;
      more = more;
      did = still (λ n s. Does script limit left n s came.count came.last r.ending events more) (unlost other) (last_does script limit left came.count came.last events more e r.ending other how did);
      finished = finished;
    }

    ends_so : (r.ending ≡ ends.DiskFault) ⊎ (r.ending ≢ ends.DiskFault) → EndsFrom d limit left start new ran
    ends_so (inl failing) = ends_failing failing
    ends_so (inr other) = ends_well other

  none_more : (left : Files) (events : List Event) (more : List Item) → DoesBehind script was.sampler.session.limit left came.count came.last e events more → more ≡ []
  none_more left events more did = (fails_behind script was.sampler.session.limit left came.count came.last events more e did).1

  pub replays_over : ((tells : d.tells) (left : Files) (events : List Event) (more : List Item) → Flushed d was.sampler.session.limit left events more start tells is.sampler.session stopped new e r.ending)
      → ((tells : d.tells) (left : Files) (events : List Event) (more : List Item) → Fails d was.sampler.session.limit left events more start tells is.sampler.session stopped new e r.ending)
      → ((tells : d.tells) (left : Files) (events : List Event) (more : List Item) → Failed d was.sampler.session.limit left events more start tells is.sampler.session stopped new e r.ending)
      → ReplaysOver d script server after was.sampler.session start new r
  replays_over flushed fails failed = record {
    run = has_replayed;
    told = λ tells left k.
        let limit : ℕ = was.sampler.session.limit in
        let done : HasDone d left start is.sampler.session stopped e (λ events more. DoesBehind script limit left came.count came.last e events more × Leads limit left events) = came.told tells left start k in
        let finished : HasFinished d limit left done.events done.more start new r.ending =
        has_finished d limit left done.events done.more start tells is.sampler.session stopped new e r.ending (flushed tells left done.events done.more) (fails tells left done.events done.more) (failed tells left done.events done.more) same_limit
        (λ other. none_more left done.events done.more done.did.0) done.stands in
        ends_so left done.events done.more done.did.0 done.did.1 finished (is_failing r.ending);
  }
