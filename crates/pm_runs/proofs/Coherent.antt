-- Why files are turned away by the commands here, and laws of their meanings: there is one reason, and where memory for a refusal's line is
-- wanting, what was done and written stands.
use Rattle.std.proofs.Common.{◌≡◌, inl, inr, ⊎_elim, ℕ, List, Option, Some, None, refl, sym, ap, ◌∙◌, subst}
use Rattle.std.proofs.lemmas.Option.{none-some, same_Some}
use Rattle.pcp_base.specs.Time.{Moment}
use Rattle.pcp_base.specs.declared.file.FileId.{FileId}
use Rattle.pcp_model.specs.Archive.{Readable}
use Rattle.pcp_model.specs.Disk.{Files}
use Rattle.logging_session.specs.Events.{Event}
use Rattle.run_script.specs.declared.script.Script.{Script}
use Rattle.script_runs.specs.declared.ending.Ending.{Ending}
use Rattle.script_runs.specs.declared.ending.Ending.TheVariants as ends
use Rattle.pm_words.specs.declared.refusal.Refusal.{Refusal}
use Rattle.pm_words.specs.declared.refusal.Refusal.TheVariants.{Condition, Limit, NotLater, Changed, Compressed, NotArchive, Nothing, UnsoundItems, UnsoundBoundary, UnsoundLate, Live, DiskFault, NoMemory}
use Rattle.pm_words.specs.Refusals.{IsNumbered, IsOfRun, ending_refusal, status_of}
use Rattle.pm_words.specs.Sides.{DiskSide, Found}
use Rattle.pm_words.proofs.Coherent.{IsCoherent}
use Rattle.pm_words.proofs.Unreadable.{refused_is_none}
use Rattle.pm_runs.specs.Runners.{OfScript, Runner}
use Rattle.pm_runs.specs.Scripts.{HasWritten, IsRunRefused, IsRunUnderWay, IsTurnedAway, Leads, runs_script}
use Rattle.pm_runs.specs.commands.recover as recovery
use Rattle.pm_runs.specs.commands.recover.{IsMendedSide, IsUnderWay, recover}
use Rattle.pm_runs.proofs.OneRun.{one_ending}
use Rattle.pm_runs.proofs.Sound.{mended_is_sound}

pub not_both : (w : Option FileId) (file : FileId) → w ≡ None → w ≡ Some file → ⊥
not_both w file none some = none-some file (sym none ∙ some)

-- ---- one script, one end

pub of_one : (c : Runner) (input : List ℕ) (P Q : Script → Type 0) → OfScript c input P → OfScript c input Q → OfScript c input (λ s. P s × Q s)
of_one c input P Q (a, x, p) (b, y, q) = (a, x, (p, subst Q (same_Some b a (sym y ∙ x)) q))

-- no run finds nothing
no_nothing : (ending : Ending) (stamp : Moment) → ending_refusal ending ≡ Some (Nothing stamp) → ⊥
no_nothing ends.Done stamp h = cc
no_nothing _ stamp h = cc

can_be_read : (script : Script) (limit : ℕ) (start : Files) (ending : Ending) (output : List ℕ) (events : List Event) (final : Files) → Leads script limit start ending output events final → Readable start
can_be_read script limit start ending output events final leads = (leads.runs.recovered.reading, leads.runs.recovered.was)

module _ (limit : ℕ) (f : Found) (script : Script) where
  run_refused : (e : Refusal) → IsOfRun e → IsTurnedAway limit f script e → IsRunRefused limit f script e
  run_refused (Condition line) run t = t
  run_refused (Limit what number) run t = t
  run_refused (NotLater last) run t = t
  run_refused (Changed pmid) run t = t
  run_refused _ run t = absurd run

  one_run : (a b : Refusal) → IsRunRefused limit f script a → IsRunRefused limit f script b → status_of b ≡ status_of a
  one_run a b x y =
      let same : x.1 ≡ y.1 = one_ending script limit f.files x.1 y.1 x.2.0 y.2.0 x.3 y.3 x.4 y.4 x.6.regions y.6.regions x.5 y.5 x.6.runs y.6.runs in
      ap status_of (same_Some b a (sym y.2.1 ∙ ap ending_refusal (sym same) ∙ x.2.1))

  -- where a run is refused, nothing else is
  one_refused : (reason e : Refusal) → IsOfRun reason → IsTurnedAway limit f script reason → IsTurnedAway limit f script e → status_of e ≡ status_of reason
  one_refused reason (Compressed file) run x y = absurd (not_both f.wrapped file (run_refused reason run x).0 y)
  one_refused reason (NotArchive file offset) run x y = let r = run_refused reason run x in absurd (refused_is_none f.files file offset (can_be_read script limit f.files r.1 r.3 r.4 r.5 r.6) y.1)
  one_refused reason e run x y = one_run reason e (run_refused reason run x) y

  -- where a file stands wrapped, the archive is turned away
  one_wrapped : (file : FileId) (e : Refusal) → IsTurnedAway limit f script (Compressed file) → IsTurnedAway limit f script e → status_of e ≡ 6
  one_wrapped file (Compressed other) w t = refl
  one_wrapped file (NotArchive other offset) w t = refl
  one_wrapped file e w t = absurd (not_both f.wrapped file t.0 w)

-- a run that comes to its end isn't refused
pub done_welcome : (f : Found) (script : Script) (limit : ℕ) (output : List ℕ) (events : List Event) (final : Files) → Leads script limit f.files ends.Done output events final → f.wrapped ≡ None → (e : Refusal) → IsTurnedAway limit f script e → ⊥
done_welcome f script limit output events final leads unwrapped (Compressed file) t = not_both f.wrapped file unwrapped t
done_welcome f script limit output events final leads unwrapped (NotArchive file offset) t = refused_is_none f.files file offset (can_be_read script limit f.files ends.Done output events final leads) t.1
done_welcome f script limit output events final leads unwrapped e t =
    let same : ends.Done ≡ t.1 = one_ending script limit f.files ends.Done t.1 tt t.2.0 output t.3 events t.4 leads.regions t.6.regions final t.5 leads.runs t.6.runs in none-some e (ap ending_refusal same ∙ t.2.1)

-- ---- a refusal whose line wants memory

begun_on : (limit status : ℕ) (script : Script) (d : DiskSide) → (status ≡ 5 → ⊥) → IsRunUnderWay limit status script d → IsRunUnderWay limit 9 script d
begun_on limit status script d other (inl five) = absurd (other five)
begun_on limit status script d other (inr (inl (nine, w))) = inr (inl (refl, w))
begun_on limit status script d other (inr (inr (e, run, is, w))) = inr (inl (refl, λ t. inr ((w t).0, ((w t).1.0, (w t).1.2))))

written_on : (c : Runner) (input : List ℕ) (d : DiskSide) (e : Refusal) (front : List ℕ) → IsNumbered e → HasWritten c input d e front → HasWritten c input d NoMemory front
written_on c input d (Compressed file) front some (output, is, f) = inr (output, is, λ t. inl (f t).2)
written_on c input d (NotArchive file at) front some (output, is, f) = inr (output, is, λ t. inl (f t).2)
written_on c input d (Condition line) front some (output, is, f) = inr (output, is, λ t. let x = f t in inr (x.0, x.1, (x.2.0, x.2.2)))
written_on c input d (Limit what number) front some (output, is, f) = inr (output, is, λ t. let x = f t in inr (x.0, x.1, (x.2.0, x.2.2)))
written_on c input d (NotLater last) front some (output, is, f) = inr (output, is, λ t. let x = f t in inr (x.0, x.1, (x.2.0, x.2.2)))
written_on c input d (Changed pmid) front some (output, is, f) = inr (output, is, λ t. let x = f t in inr (x.0, x.1, (x.2.0, x.2.2)))
written_on c input d (Nothing stamp) front some (output, is, f) = inr (output, is, λ t. let x = f t in inr (x.0, x.1, (x.2.0, x.2.2)))
written_on c input d (UnsoundItems first second) front some (output, is, f) = inr (output, is, λ t. let x = f t in inr (x.0, x.1, (x.2.0, x.2.2)))
written_on c input d (UnsoundBoundary entry file below above) front some (output, is, f) = inr (output, is, λ t. let x = f t in inr (x.0, x.1, (x.2.0, x.2.2)))
written_on c input d (UnsoundLate entry stamp) front some (output, is, f) = inr (output, is, λ t. let x = f t in inr (x.0, x.1, (x.2.0, x.2.2)))
written_on c input d (Live volume) front some (output, is, f) = inr (output, is, λ t. let x = f t in inr (x.0, x.1, (x.2.0, x.2.2)))
written_on c input d DiskFault front some b = absurd some
written_on c input d NoMemory front some b = b
written_on c input d _ front some b = inl b

-- ---- the laws

pub runs_coherent : (c : Runner) → IsCoherent (runs_script c)
runs_coherent c = record {
  one_reason = λ input f reason e run x y.
      let both = of_one c input (λ s. IsTurnedAway c.limit f s reason) (λ s. IsTurnedAway c.limit f s e) x y in one_refused c.limit f both.0 reason e run both.2.0 both.2.1;
  wrapped_first = λ input f file e x y.
      let both = of_one c input (λ s. IsTurnedAway c.limit f s (Compressed file)) (λ s. IsTurnedAway c.limit f s e) x y in one_wrapped c.limit f both.0 file e both.2.0 both.2.1;
  nothing_first = λ input f stamp e x y. absurd (no_nothing x.2.1 stamp x.2.2.1);
  never_done = λ input d text served tells stamp x. no_nothing x.2.1 stamp x.2.2.1;
  untold = λ input d status other b. (b.0, b.1, begun_on c.limit status b.0 d other b.2);
  begins_untold = λ input d e front some b. written_on c input d e front some b;
  takes_none = λ files n. tt;
  sound = λ input d writes tells done. (done tells).sound;
}

-- where a file stands wrapped, the archive is turned away
recover_wrapped : (f : Found) (file : FileId) (e : Refusal) → recovery.IsTurnedAway f (Compressed file) → recovery.IsTurnedAway f e → status_of e ≡ 6
recover_wrapped f file (Compressed other) w t = refl
recover_wrapped f file (NotArchive other offset) w t = refl
recover_wrapped f file _ w t = absurd t

-- and no run is refused
recover_runs : (f : Found) (e : Refusal) → IsOfRun e → recovery.IsTurnedAway f e → ⊥
recover_runs f (Compressed file) run t = run
recover_runs f (NotArchive file at) run t = run
recover_runs f _ run t = t

pub recover_coherent : IsCoherent recover
recover_coherent = record {
  one_reason = λ input f reason e run x y. absurd (recover_runs f reason run x);
  wrapped_first = λ input f file e x y. recover_wrapped f file e x y;
  nothing_first = λ input f stamp e x y. absurd x;
  never_done = λ input d text served tells stamp x. x;
  untold = λ input d status other begun. ⊎_elim (λ (five : status ≡ 5). absurd (other five)) (λ (mended : (status ≡ 9) × (d.tells → IsMendedSide d)). inr (refl, mended.1)) begun;
  begins_untold = λ input d e front some begins. begins;
  takes_none = λ files n. tt;
  sound = λ input d writes tells done. mended_is_sound d (done tells);
}
