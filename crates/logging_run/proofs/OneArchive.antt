-- The archive to which events lead is one: it is opened, takes a result or turns it away, and is flushed in one way.
use Rattle.std.proofs.Common.{◌≡◌, ◌≢◌, inl, inr, ℕ, List, [], ◌∷◌, Bool, sym, ap, ◌∙◌, subst}
use Rattle.std.proofs.Math.Path.{fun_ext}
use Rattle.pcp_model.specs.declared.records.MetaRecord.{MetaRecord}
use Rattle.pcp_model.specs.Archive.{ArchiveContents, IsArchive}
use Rattle.pcp_model.specs.Disk.{Files}
use Rattle.pcp_model.specs.Frame.{frame}
use Rattle.pcp_model.specs.LabelFields.{LabelFields}
use Rattle.pcp_model.specs.Laws.{EndsWhole}
use Rattle.pcp_model.specs.Payload.{payload}
use Rattle.archive_meta.specs.Missing.{framed_records}
use Rattle.logger_core.specs.declared.ends.Ends.{Ends}
use Rattle.logger_core.specs.declared.fault.LogFault.{LogFault}
use Rattle.logger_core.specs.declared.fault.LogFault.TheVariants as faults
use Rattle.logger_core.specs.Logging.{IsRefused}
use Rattle.logger_core.specs.LogSteps.{LogStep, base_files, base_number, with_run}
use Rattle.logger_core.specs.Steps.{FlushStep, greatest_in, has_item}
use Rattle.logging_session.specs.Course.{LeadsTo}
use Rattle.logging_session.specs.Events.{Event, Lead, LeadFrom, Steps, opening}
use Rattle.logging_session.specs.Written.{EndsAre, Flushes, Logs, Opens, OpensFound, Refuses, Report, Stand, Written, files_of, starting}
use Rattle.logging_session.proofs.OneReason.{last_number, no_archive, one_contents, one_ends, one_missing, one_refusal, recovered_once}
use Rattle.logging_run.specs.Named.{run_label}
use Rattle.logging_run.specs.Running.{IsTurnedAway}

-- ---- one archive is opened

abbrev written : Files → ArchiveContents → ℕ → Written
written files contents volume = record { files = files; contents = contents; volume = volume }

same_written : (a b : Written) → a.files ≡ b.files → a.contents ≡ b.contents → a.volume ≡ b.volume → a ≡ b
same_written a b files contents volume =
    ap (λ (f : Files). written f a.contents a.volume) files ∙ ap (λ (c : ArchiveContents). written b.files c a.volume) contents ∙ ap (λ (n : ℕ). written b.files b.contents n) volume

one_volume : (files : Files) (c : ArchiveContents) (m n : ℕ) → EndsWhole files c m → EndsWhole files c n → m ≡ n
one_volume files c m n w v = last_number w.before v.before m n w.items v.items (sym w.are ∙ v.are)

-- of the same files and contents
last_as : (a b : Written) → a.files ≡ b.files → a.contents ≡ b.contents → EndsWhole b.files b.contents b.volume → EndsWhole a.files a.contents b.volume
last_as a b files contents v = subst (λ (f : Files). EndsWhole f a.contents b.volume) (sym files) (subst (λ (c : ArchiveContents). EndsWhole b.files c b.volume) (sym contents) v)

one_found : (l : LabelFields) (left : Files) (a b : Written) → OpensFound l left a.files a.contents → OpensFound l left b.files b.contents → (a.files ≡ b.files) × (a.contents ≡ b.contents)
one_found l left a b (inl x) (inl y) = (x.1 ∙ sym y.1, x.2 ∙ sym y.2)
one_found l left a b (inl x) (inr y) = absurd (no_archive left b.contents x.0 y.1)
one_found l left a b (inr x) (inl y) = absurd (no_archive left a.contents y.0 x.1)
one_found l left a b (inr x) (inr y) = (x.0 ∙ sym y.0, one_contents left a.contents b.contents x.1 y.1)

one_open : (l : LabelFields) (left : Files) (a b : Written) → Opens l left a → Opens l left b → a ≡ b
one_open l left a b (x, w) (y, v) =
    let same = one_found l left a b x y in
    same_written a b same.0 same.1 (one_volume a.files a.contents a.volume b.volume w (last_as a b same.0 same.1 v))

-- this is its last volume
abbrev pub IsGood : Written → Type 0
IsGood w = EndsWhole w.files w.contents w.volume

abbrev pub Good : Stand → Type 0
Good (Stand.found left) = Unit {0}
Good (Stand.opened w) = IsGood w

opens_good : (l : LabelFields) (left : Files) (w : Written) → Opens l left w → IsGood w
opens_good l left w (x, v) = v

-- what a logger keeps of it in numbers is one
pub one_count : (w : Written) → IsGood w → (a b : Ends) → EndsAre w a → EndsAre w b → a ≡ b
one_count w good a b x y =
    one_ends w.files w.contents a b x.are y.are (subst (λ (n : ℕ). EndsWhole w.files w.contents n) (sym x.volume) good) (subst (λ (n : ℕ). EndsWhole w.files w.contents n) (sym y.volume) good)

-- ---- a result is logged in one way, or refused for one reason

module _ (limit : ℕ) (r : Report) (old : Written) (good : IsGood old) where
  abbrev run_of : List MetaRecord → Bool → Files
  run_of missing crossing =
      with_run (base_number crossing old.volume) (framed_records missing) (frame (payload r.result)) (base_files crossing old.files old.contents old.volume (greatest_in old.contents) (has_item old.contents))

  abbrev Step : Files → Type 0
  Step new = LogStep old.files old.contents old.volume (greatest_in old.contents) (has_item old.contents) limit r.result r.facts new

  one_step : (a b : Files) → Step a → Step b → a ≡ b
  one_step a b x y =
      let same : run_of x.missing x.crossing ≡ run_of y.missing y.crossing =
      ap (λ (rs : List MetaRecord). run_of rs x.crossing) (one_missing old.contents.records r.facts r.result x.missing y.missing x.needed y.needed)
      ∙ ap (λ (b : Bool). run_of y.missing b) (x.crosses_is ∙ sym y.crosses_is) in
      fun_ext (λ file. x.is file ∙ ap (λ (fs : Files). fs file) same ∙ sym (y.is file))

  one_log : (a b : Written) → Logs limit r old a → Logs limit r old b → a ≡ b
  one_log a b x y =
      let files = one_step a.files b.files x.step y.step in
      let contents = one_contents a.files a.contents b.contents x.is (subst (λ (fs : Files). IsArchive fs b.contents) (sym files) y.is) in
      same_written a b files contents (one_volume a.files a.contents a.volume b.volume x.last (last_as a b files contents y.last))

  pub one_refused : (a b : LogFault) → a ≢ faults.NoMemory → b ≢ faults.NoMemory → Refuses limit r old a → Refuses limit r old b → a ≡ b
  one_refused a b ra rb x y =
      one_refusal old.contents.records x.ends limit r.result r.facts a b ra rb x.refused
      (subst (λ (e : Ends). IsRefused old.contents.records e limit r.result r.facts b) (sym (one_count old good x.ends y.ends x.ends_are y.ends_are)) y.refused)

logs_good : (limit : ℕ) (r : Report) (old new : Written) → Logs limit r old new → IsGood new
logs_good limit r old new x = x.last

-- ---- a flush makes one thing of it

abbrev Flushed : Written → Files → Type 0
Flushed old new = FlushStep old.files old.contents old.volume (greatest_in old.contents) (has_item old.contents) new

one_flushed : (old : Written) (a b : Files) → Flushed old a → Flushed old b → a ≡ b
one_flushed old a b x y = fun_ext (λ file. x.is file ∙ sym (y.is file))

one_flush : (old a b : Written) → Flushes old a → Flushes old b → a ≡ b
one_flush old a b x y =
    let files = one_flushed old a.files b.files x.step y.step in
    same_written a b files (one_contents a.files a.contents b.contents x.is (subst (λ (fs : Files). IsArchive fs b.contents) (sym files) y.is)) (x.volume ∙ sym y.volume)

flush_good : (old new : Written) → Flushes old new → IsGood new
flush_good old new x = x.last

-- ---- events lead to one archive

module _ (l : LabelFields) (limit : ℕ) where
  one_step_on : (s : Stand) (e : Event) (a b : Stand) → Good s → Steps l limit s e a → Steps l limit s e b → a ≡ b
  one_step_on (Stand.found left) (Event.opened stamp) a b good (w, x, is) (v, y, also) = is ∙ ap (λ (o : Written). Stand.opened o) (one_open (starting l stamp) left w v x y) ∙ sym also
  one_step_on (Stand.found left) (Event.logged r) a b good x y = absurd x
  one_step_on (Stand.found left) Event.flushed a b good x y = absurd x
  one_step_on (Stand.found left) Event.synced a b good x y = absurd x
  one_step_on (Stand.opened old) (Event.opened stamp) a b good x y = absurd x
  one_step_on (Stand.opened old) (Event.logged r) a b good (w, x, is) (v, y, also) = is ∙ ap (λ (o : Written). Stand.opened o) (one_log limit r old good w v x y) ∙ sym also
  one_step_on (Stand.opened old) Event.flushed a b good (w, x, is) (v, y, also) = is ∙ ap (λ (o : Written). Stand.opened o) (one_flush old w v x y) ∙ sym also
  one_step_on (Stand.opened old) Event.synced a b good x y = x ∙ sym y

  step_good : (s : Stand) (e : Event) (a : Stand) → Good s → Steps l limit s e a → Good a
  step_good (Stand.found left) (Event.opened stamp) a good (w, x, is) = subst Good (sym is) (opens_good (starting l stamp) left w x)
  step_good (Stand.found left) (Event.logged r) a good x = absurd x
  step_good (Stand.found left) Event.flushed a good x = absurd x
  step_good (Stand.found left) Event.synced a good x = absurd x
  step_good (Stand.opened old) (Event.opened stamp) a good x = absurd x
  step_good (Stand.opened old) (Event.logged r) a good (w, x, is) = subst Good (sym is) (logs_good limit r old w x)
  step_good (Stand.opened old) Event.flushed a good (w, x, is) = subst Good (sym is) (flush_good old w x)
  step_good (Stand.opened old) Event.synced a good x = subst Good (sym x) good

  one_lead_on : (events : List Event) (s a b : Stand) → Good s → Lead l limit s events a → Lead l limit s events b → a ≡ b
  one_lead_on [] s a b good x y = x ∙ sym y
  one_lead_on (e ∷ events) s a b good (n, step, x) (m, also, y) =
      one_lead_on events n a b (step_good s e n good step) x (subst (λ (k : Stand). Lead l limit k events b) (sym (one_step_on s e n m good step also)) y)

  pub lead_good : (events : List Event) (s a : Stand) → Good s → Lead l limit s events a → Good a
  lead_good [] s a good x = subst Good (sym x) good
  lead_good (e ∷ events) s a good (n, step, x) = lead_good events n a (step_good s e n good step) x

  pub one_lead : (left : Files) (events : List Event) (a b : Stand) → LeadFrom l limit left events a → LeadFrom l limit left events b → a ≡ b
  one_lead left events a b x y = one_lead_on events (Stand.found left) a b tt x y

  pub one_led : (left : Files) (events : List Event) (f g : Files) → LeadsTo l limit left events f → LeadsTo l limit left events g → f ≡ g
  one_led left events f g x y = fun_ext (λ file. x.are file ∙ ap (λ (s : Stand). files_of s file) (one_lead left events x.stand y.stand x.lead y.lead) ∙ sym (y.are file))

-- ---- a result is turned away for one reason

pub same_opened : (a b : Written) → Stand.opened a ≡ Stand.opened b → a ≡ b
same_opened a b e = cc

pub one_away : (limit : ℕ) (start : Files) (events : List Event) (r : Report) (a b : LogFault) → a ≢ faults.NoMemory → b ≢ faults.NoMemory → IsTurnedAway limit start events r a → IsTurnedAway limit start events r b → a ≡ b
one_away limit start events r a b ra rb x y =
    let open_ : List Event = opening r.result.stamp events in
    let here : x.left ≡ y.left = recovered_once start y.left x.left y.recovered.reading x.recovered.reading y.recovered.was x.recovered.was y.recovered.recovered x.recovered.recovered in
    let lead : LeadFrom run_label limit x.left open_ (Stand.opened y.w) = subst (λ (left : Files). LeadFrom run_label limit left open_ (Stand.opened y.w)) (sym here) y.lead in
    let same : x.w ≡ y.w = same_opened x.w y.w (one_lead run_label limit x.left open_ (Stand.opened x.w) (Stand.opened y.w) x.lead lead) in
    let good : IsGood x.w = lead_good run_label limit open_ (Stand.found x.left) (Stand.opened x.w) tt x.lead in
    one_refused limit r x.w good a b ra rb x.refuses (subst (λ (w : Written). Refuses limit r w b) (sym same) y.refuses)
