-- Commands that only read an archive: that they meet their meaning, and which of their refusals go together.
use Rattle.std.proofs.Common.{◌≡◌, ◌⊎◌, inl, ⊎_elim, ℕ, Bool, true, false, List, [], ◌++◌, refl, sym, ◌∙◌, Option, Some, None, Result, Ok, Err, IfOk, IfErr, OnErr, OnOk}
use Rattle.pcp_base.specs.Time.{Moment}
use Rattle.pcp_base.specs.declared.file.FileId.{FileId}
use Rattle.pcp_model.specs.Disk.{Files, CrashImage, contents_of}
use Rattle.pcp_outside.specs.declared.disk.Disk.{Ghosts as DiskGhosts}
use Rattle.pcp_outside.specs.Sides.{SinkSide}
use Rattle.pcp_outside.proofs.Crash.{weaker}
use Rattle.archive_loading.specs.Looks.{Looks}
use Rattle.archive_loading.specs.Loaded.{Loaded}
use Rattle.pm_words.specs.declared.refusal.Refusal.{Refusal}
use Rattle.pm_words.specs.declared.refusal.Refusal.TheVariants.{Condition, Limit, NotLater, Changed, Compressed, NotArchive, Nothing, UnsoundItems, UnsoundBoundary, UnsoundLate}
use Rattle.pm_words.specs.declared.words.ValueWords.{ValueWords}
use Rattle.pm_words.specs.Meaning.{Meaning}
use Rattle.pm_words.specs.Refusals.{Stage, AtFiles, AtDisk, AtMemory, IsOfRun, IsOfSoundness, stage_of, status_of}
use Rattle.pm_words.specs.Serving.{StopCause, StopsAt, HasServed, IsNever, MayLeave, Meets, MeetsSending}
use Rattle.pm_words.specs.Sides.{DiskSide, Found, disk_side, files_found, Untouched, Leaves}
use Rattle.pm_words.proofs.Coherent.{IsCoherent}
use Rattle.pm_words.proofs.Serving.{still_settled, left_alone}
use Rattle.pm_tasks.specs.Archives.{IsNotLoaded, TurnedAfter, TurnedAt, TurnedAway, looks, takes_any}
use Rattle.pm_tasks.specs.commands.at as at
use Rattle.pm_tasks.specs.commands.check as check
use Rattle.pm_tasks.specs.commands.dump as dump
use Rattle.pm_tasks.specs.commands.info as info
use Rattle.pm_tasks.specs.commands.range as range
use Rattle.pm_tasks.specs.commands.value as value
use Rattle.pm_tasks.specs.commands.watch as watch

-- the refusals of such a command
abbrev pub IsOfLook : Refusal → Type 0
IsOfLook (Compressed file) = Unit {0}
IsOfLook (NotArchive file at) = Unit {0}
IsOfLook (Nothing stamp) = Unit {0}
IsOfLook e = IsOfSoundness e

-- over which files such a command refuses, and over which it writes a text
pub record FitsLook (turned : Found → Refusal → Type 0) (said : Found → List ℕ → Type 0) : Type 0 where
  -- none speaks of a run
  pub only : (f : Found) (e : Refusal) → turned f e → IsOfLook e
  -- a file stands wrapped where one says so, and none does where a text was written
  pub wrapped : (f : Found) (file : FileId) → turned f (Compressed file) → f.wrapped ≡ Some file
  pub unwrapped : (f : Found) (text : List ℕ) → said f text → f.wrapped ≡ None
  -- nor where nothing was found, nor where an archive that was read isn't sound
  pub nothing : (f : Found) (stamp : Moment) → turned f (Nothing stamp) → f.wrapped ≡ None
  pub judged : (f : Found) (e : Refusal) → IsOfSoundness e → turned f e → f.wrapped ≡ None

unloaded_only : (f : Found) (e : Refusal) → IsNotLoaded f e → IsOfLook e
unloaded_only f (Compressed file) n = tt
unloaded_only f (NotArchive file at) n = tt
unloaded_only f _ n = absurd n

-- files that aren't loaded aren't told to be sound or not
pub not_judged : (f : Found) (e : Refusal) → IsOfSoundness e → IsNotLoaded f e → ⊥
not_judged f (Compressed file) of n = of
not_judged f (NotArchive file at) of n = of
not_judged f _ of n = n

pub info_fits : FitsLook info.IsTurnedAway info.IsOutput
info_fits = record {
  only = unloaded_only;
  wrapped = λ f file t. t;
  nothing = λ f stamp t. absurd t;
  judged = λ f e of t. absurd (not_judged f e of t);
  unwrapped = λ f text s. s.1.unwrapped;
}

-- a command that checks files turns them away for all that it finds of them
check_only : (f : Found) (e : Refusal) → check.IsTurnedAway f e → IsOfLook e
check_only f (Compressed file) t = tt
check_only f (NotArchive file at) t = tt
check_only f (UnsoundItems first second) t = tt
check_only f (UnsoundBoundary entry file below above) t = tt
check_only f (UnsoundLate entry stamp) t = tt
check_only f _ t = absurd t

check_judged : (f : Found) (e : Refusal) → IsOfSoundness e → check.IsTurnedAway f e → f.wrapped ≡ None
check_judged f (UnsoundItems first second) of t = t.unwrapped
check_judged f (UnsoundBoundary entry file below above) of t = t.unwrapped
check_judged f (UnsoundLate entry stamp) of t = t.unwrapped
check_judged f _ of t = absurd of

pub check_fits : FitsLook check.IsTurnedAway check.IsOutput
check_fits = record {
  only = check_only;
  wrapped = λ f file t. t;
  nothing = λ f stamp t. absurd t;
  judged = check_judged;
  unwrapped = λ f text s. s.0;
}

pub neither : {A B : Type 0} → (A → ⊥) → (B → ⊥) → A ⊎ B → ⊥
neither f g t = ⊎_elim f g t

-- a command that turns files away for what it finds in an archive that was loaded
asked_fits : (why : Loaded → Found → Refusal → Type 0) (said : Found → List ℕ → Type 0) → ((r : Loaded) (f : Found) (e : Refusal) → why r f e → IsOfLook e) → ((r : Loaded) (f : Found) (file : FileId) → why r f (Compressed file) → ⊥)
    → ((f : Found) (text : List ℕ) → said f text → f.wrapped ≡ None) → FitsLook (TurnedAfter why) said
asked_fits why said only wrapped unwrapped = record {
  only = λ f e t. ⊎_elim (λ (n : IsNotLoaded f e). unloaded_only f e n) (λ b. only b.0 f e b.2) t;
  wrapped = λ f file t. ⊎_elim (λ (w : f.wrapped ≡ Some file). w) (λ b. absurd (wrapped b.0 f file b.2)) t;
  nothing = λ f stamp t. ⊎_elim (λ (n : ⊥). absurd n) (λ b. b.1.unwrapped) t;
  judged = λ f e of t. ⊎_elim (λ (n : IsNotLoaded f e). absurd (not_judged f e of n)) (λ b. b.1.unwrapped) t;
  unwrapped = unwrapped;
}

bad_only : (r : Loaded) (f : Found) (e : Refusal) → dump.BadRecord r f e → IsOfLook e
bad_only r f (NotArchive file at) b = tt
bad_only r f _ b = absurd b

pub dump_fits : FitsLook dump.IsTurnedAway dump.IsOutput
dump_fits = asked_fits dump.BadRecord dump.IsOutput bad_only (λ r f file b. b) (λ f text s. s.1.unwrapped)

at_only : (t : Moment) (r : Loaded) (f : Found) (e : Refusal) → at.IsStopped t r f e → IsOfLook e
at_only t r f (NotArchive file at) b = tt
at_only t r f (Nothing stamp) b = tt
at_only t r f _ b = absurd b

pub at_fits : (t : Moment) → FitsLook (at.IsTurnedAway t) (at.IsOutput t)
at_fits t = asked_fits (at.IsStopped t) (at.IsOutput t) (at_only t) (λ r f file b. b) (λ f text s. s.1.unwrapped)

range_only : (from to : Moment) (r : Loaded) (f : Found) (e : Refusal) → range.IsStopped from to r f e → IsOfLook e
range_only from to r f (NotArchive file at) b = tt
range_only from to r f _ b = absurd b

pub range_fits : (from to : Moment) → FitsLook (range.IsTurnedAway from to) (range.IsOutput from to)
range_fits from to = asked_fits (range.IsStopped from to) (range.IsOutput from to) (range_only from to) (λ r f file b. b) (λ f text s. s.1.unwrapped)

-- a watch of an input turns away what a dump does
pub watch_fits : (from to : Moment) (input : List ℕ) → FitsLook dump.IsTurnedAway (watch.IsOutput from to input)
watch_fits from to input = asked_fits dump.BadRecord (watch.IsOutput from to input) bad_only (λ r f file b. b) (λ f text s. s.2.1.unwrapped)

value_only : (asked : ValueWords) (r : Loaded) (f : Found) (e : Refusal) → value.IsStopped asked r f e → IsOfLook e
value_only asked r f (NotArchive file at) b = tt
value_only asked r f (Nothing stamp) b = tt
value_only asked r f _ b = absurd b

pub value_fits : (asked : ValueWords) → FitsLook (value.IsTurnedAway asked) (value.IsOutput asked)
value_fits asked = asked_fits (value.IsStopped asked) (value.IsOutput asked) (value_only asked) (λ r f file b. b) (λ f text s. s.1.unwrapped)

not_both : (w : Option FileId) (file : FileId) → w ≡ None → w ≡ Some file → ⊥
not_both w file none some = let e : None ≡ Some file = sym none ∙ some in cc

pub not_so : {A : Type 0} → false ≡ true → A
not_so h = let e : false ≡ true = h in cc

-- at any moment it leaves what was there
pub look_leaves : {D : Type 0} (g : DiskGhosts D) (m : Meaning) (input : List ℕ) (a b : D) → Looks g a b → Leaves g a b (MayLeave m input)
look_leaves g m input a b looks = λ tells. weaker g.moment g.left_since g.held a b (CrashImage (g.held a)) (MayLeave m input (g.held a)) (looks.moments tells) (λ crash was. inl was)

module _ (turned : Found → Refusal → Type 0) (said : Found → List ℕ → Type 0) (first : DiskSide → List ℕ → Type 0) (taken : Files → ℕ → ℕ → Type 0) (fits : FitsLook turned said) where
  -- no run is refused
  look_runs : (f : Found) (e : Refusal) → IsOfRun e → turned f e → ⊥
  look_runs f (Condition line) run t = fits.only f (Condition line) t
  look_runs f (Limit what number) run t = fits.only f (Limit what number) t
  look_runs f (NotLater last) run t = fits.only f (NotLater last) t
  look_runs f (Changed pmid) run t = fits.only f (Changed pmid) t
  look_runs f _ run t = run

  never_turned : (f : Found) (text : List ℕ) → said f text → (e : Refusal) → IsNever e → turned f e → ⊥
  never_turned f text s (Compressed file) never t = not_both f.wrapped file (fits.unwrapped f text s) (fits.wrapped f file t)
  never_turned f text s e never t = look_runs f e never t

  -- where a file stands wrapped, the archive is turned away
  look_wrapped : (f : Found) (file : FileId) (e : Refusal) → turned f (Compressed file) → turned f e → status_of e ≡ 6
  look_wrapped f file (Compressed other) w t = refl
  look_wrapped f file (NotArchive other offset) w t = refl
  look_wrapped f file (Nothing stamp) w t = absurd (not_both f.wrapped file (fits.nothing f stamp t) (fits.wrapped f file w))
  look_wrapped f file (UnsoundItems first second) w t = absurd (not_both f.wrapped file (fits.judged f (UnsoundItems first second) tt t) (fits.wrapped f file w))
  look_wrapped f file (UnsoundBoundary entry at below above) w t = absurd (not_both f.wrapped file (fits.judged f (UnsoundBoundary entry at below above) tt t) (fits.wrapped f file w))
  look_wrapped f file (UnsoundLate entry stamp) w t = absurd (not_both f.wrapped file (fits.judged f (UnsoundLate entry stamp) tt t) (fits.wrapped f file w))
  look_wrapped f file e w t = absurd (fits.only f e t)

  -- what such a command is served
  look_served : (input : List ℕ) (d : DiskSide) (text : List ℕ) → Untouched d → d.faults_after ≡ d.faults → (d.tells → said (files_found d) text) → HasServed (looks turned said first taken) input d text
  look_served input d text still quiet told = record {
    good = refl;
    welcome = λ tells e never away. never_turned (files_found d) text (told tells) e never away;
    done = still;
    says = told;
    kept = λ tells crash left. tt;
    settled = still_settled d still;
    quiet = quiet;
  }

  -- and why it is stopped
  stops_at : (stage : Stage) (input : List ℕ) (d : DiskSide) (e : Refusal) → Untouched d → TurnedAt stage turned d e → StopsAt stage (looks turned said first taken) input d e
  stops_at AtFiles input d e still c = ((refl, refl), left_alone (looks turned said first taken) (status_of e) input d still, c)
  stops_at AtDisk input d e still c = ((refl, refl), left_alone (looks turned said first taken) (status_of e) input d still, c)
  stops_at AtMemory input d e still c = left_alone (looks turned said first taken) (status_of e) input d still
  stops_at _ input d e still c = absurd c

  look_stops : (input : List ℕ) (d : DiskSide) (e : Refusal) → Untouched d → TurnedAway turned d e → StopCause (looks turned said first taken) input d e
  look_stops input d e still c = stops_at (stage_of e) input d e still c

  -- Its meaning is coherent where nothing that was asked for is there and nothing else is wrong then.
  pub look_coherent : ((files : Files) (n : ℕ) → taken files n n) → ((f : Found) (stamp : Moment) (e : Refusal) → turned f (Nothing stamp) → turned f e → status_of e ≡ 11) → ((f : Found) (stamp : Moment) (text : List ℕ) → turned f (Nothing stamp) → said f text → ⊥)
      → IsCoherent (looks turned said first taken)
  look_coherent idle alone silent = record {
    one_reason = λ input f reason e run refused t. absurd (look_runs f reason run refused);
    wrapped_first = λ input f file e w t. look_wrapped f file e w t;
    nothing_first = λ input f stamp e nothing t. alone f stamp e nothing t;
    never_done = λ input d text served tells stamp nothing. silent (files_found d) stamp text nothing (served.says tells);
    untold = λ input d status other begun. begun;
    begins_untold = λ input d e front some begins. begins;
    takes_none = idle;
    sound = λ input d writes tells done. not_so writes;
  }

  -- and where such a refusal never comes
  pub quiet_coherent : ((files : Files) (n : ℕ) → taken files n n) → ((f : Found) (stamp : Moment) → turned f (Nothing stamp) → ⊥) → IsCoherent (looks turned said first taken)
  quiet_coherent idle quiet = look_coherent idle (λ f stamp e nothing t. absurd (quiet f stamp nothing)) (λ f stamp text nothing s. quiet f stamp nothing)

  module _ {D : Type 0} (g : DiskGhosts D) (input : List ℕ) (a b : D) (looked : Looks g a b) (took : g.tells → taken (contents_of (g.held a)) (g.taken a) (g.taken b)) where
    -- done, where a front of the text went to the sink before
    pub look_done : (front text : List ℕ) → g.faults b ≡ g.faults a → (g.tells → said (files_found (disk_side g a b)) (front ++ text)) → Meets (looks turned said first taken) input g a b None front (Ok text)
    look_done front text quiet told = record {
      done = look_served input (disk_side g a b) (front ++ text) looked.held quiet told;
      stops = tt;
      aside = λ h. not_so (sym h);
      unread = λ other. looked.moments;
      any_moment = look_leaves g (looks turned said first taken) input a b looked;
      taken = took;
      since = λ tells recovered. tt;
      ran = refl;
      regions = not_so;
      unrun = λ runs none. not_so runs;
    }

    -- or stopped
    pub look_stopped : (front : List ℕ) (e : Refusal) → TurnedAway turned (disk_side g a b) e → first (disk_side g a b) front → Meets (looks turned said first taken) input g a b None front (Err e)
    look_stopped front e away begun = record {
      done = tt;
      stops = (look_stops input (disk_side g a b) e looked.held away, begun);
      aside = λ h. not_so (sym h);
      unread = λ other. looked.moments;
      any_moment = look_leaves g (looks turned said first taken) input a b looked;
      taken = took;
      since = λ tells recovered. tt;
      ran = refl;
      regions = not_so;
      unrun = λ runs none. not_so runs;
    }

    -- one that writes nothing before it is done
    pub look_meets : (result : Result (List ℕ) Refusal) → OnOk result (g.faults b ≡ g.faults a) → first (disk_side g a b) [] → (g.tells → IfOk result (said (files_found (disk_side g a b)))) → IfErr result (TurnedAway turned (disk_side g a b))
        → Meets (looks turned said first taken) input g a b None [] result
    look_meets (Ok text) quiet begun told away = look_done [] text quiet told
    look_meets (Err e) quiet begun told away = look_stopped [] e away begun

-- `dump`, whose text goes on behind what was sent
pub dump_meets : {D : Type 0} (g : DiskGhosts D) (input : List ℕ) (k : SinkSide) (failed : Bool) (a b : D) (result : Result (List ℕ) Refusal) → Looks g a b → OnOk result (g.faults b ≡ g.faults a) → IfOk result (dump.HasSaid k failed (disk_side g a b)) → OnErr result (dump.HasStopped k failed (disk_side g a b))
    → IfErr result (TurnedAway dump.IsTurnedAway (disk_side g a b)) → MeetsSending k failed dump.dump input g a b None result
dump_meets g input k failed a b (Ok text) looked quiet has stopped away = (has.front, has.sent, look_done dump.IsTurnedAway dump.IsOutput dump.IsFrontOutput takes_any dump_fits g input a b looked (λ tells. tt) has.front text quiet has.whole)
dump_meets g input k failed a b (Err e) looked quiet has stopped away =
    (stopped.front, stopped.sent, look_stopped dump.IsTurnedAway dump.IsOutput dump.IsFrontOutput takes_any dump_fits g input a b looked (λ tells. tt) stopped.front e away stopped.so_far)
