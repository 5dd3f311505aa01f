-- Readable archives are turned away by no command that reads them whole, and by none that asks by time where recovery would leave them
-- sound.
use Rattle.std.proofs.Common.{◌≡◌, ⊎_elim, ℕ, refl, sym, ◌∙◌, Option, Some, None}
use Rattle.pcp_base.specs.Time.{Moment}
use Rattle.pcp_base.specs.declared.file.FileId.{FileId}
use Rattle.pcp_model.specs.Archive.{ArchiveReading, Reads, Readable}
use Rattle.archive_loading.specs.Loaded.{Loaded}
use Rattle.archive_reader.proofs.Downward.{readable_finds_value}
use Rattle.archive_reader.proofs.Finds.{readable_stands}
use Rattle.archive_reader.proofs.Loadable.{loads_readable}
use Rattle.pm_words.specs.declared.refusal.Refusal.{Refusal}
use Rattle.pm_words.specs.declared.refusal.Refusal.TheVariants.{Compressed, NotArchive, Nothing}
use Rattle.pm_words.specs.declared.words.ValueWords.{ValueWords}
use Rattle.pm_tasks.specs.Archives.{IsLoaded, IsNotLoaded}
use Rattle.pm_commands.specs.Laws.{IsWelcome, IsWelcomeByTime}
use Rattle.pm_words.specs.Refusals.{status_of}
use Rattle.pm_words.specs.Sides.{Found}
use Rattle.pm_runs.proofs.Refused.{takes_readable}
use Rattle.pm_words.specs.Sound.{RecoversSound}
use Rattle.pm_commands.proofs.Checked.{passes_sound}
use Rattle.pm_commands.proofs.Torn.{last_never_refused, range_never_refused, torn_is_sound}
use Rattle.pm_tasks.specs.commands.at as at
use Rattle.pm_tasks.specs.commands.dump as dump
use Rattle.pm_tasks.specs.commands.range as range
use Rattle.pm_tasks.specs.commands.value as value

not_both : (w : Option FileId) (file : FileId) → w ≡ None → w ≡ Some file → ⊥
not_both w file none some = let e : None ≡ Some file = sym none ∙ some in cc

is_loaded : (f : Found) → Readable f.files → f.wrapped ≡ None → (e : Refusal) → IsNotLoaded f e → ⊥
is_loaded f readable unwrapped (Compressed file) why = not_both f.wrapped file unwrapped why
is_loaded f readable unwrapped (NotArchive file offset) why = loads_readable f.files file offset readable why.1
is_loaded f readable unwrapped _ why = why

good_records : (f : Found) (reading : ArchiveReading) → Reads f.files reading → (r : Loaded) → IsLoaded f r → (e : Refusal) → dump.BadRecord r f e → ⊥
good_records f reading reads r loaded (NotArchive file offset) why =
    let bad = why.1 in
    (readable_stands f.files reading r reads loaded.over).good why.0 bad.last bad.to file offset bad.leads bad.bad
good_records f reading reads r loaded _ why = why

good_values : (f : Found) (reading : ArchiveReading) → Reads f.files reading → (r : Loaded) → IsLoaded f r → (asked : ValueWords) (e : Refusal) → value.IsStopped asked r f e → status_of e ≡ 11
good_values f reading reads r loaded asked (NotArchive file offset) why = absurd ((readable_finds_value f.files reading r why.0 asked.stamp reads loaded.over).refused file offset why.2)
good_values f reading reads r loaded asked (Nothing stamp) why = refl
good_values f reading reads r loaded asked _ why = absurd why

pub welcomes : (f : Found) → Readable f.files → f.wrapped ≡ None → IsWelcome f
welcomes f readable unwrapped = record {
  descriptions = λ e why. is_loaded f readable unwrapped e why;
  items = λ e why. ⊎_elim (λ (n : IsNotLoaded f e). is_loaded f readable unwrapped e n) (λ b. good_records f readable.0 readable.1 b.0 b.1 e b.2) why;
  recovery = λ e why. takes_readable f unwrapped readable e why;
  values = λ asked e why. ⊎_elim (λ (n : IsNotLoaded f e). absurd (is_loaded f readable unwrapped e n)) (λ b. good_values f readable.0 readable.1 b.0 b.1 asked e b.2) why;
}

-- ---- by time

good_last : (f : Found) (reading : ArchiveReading) → Reads f.files reading → RecoversSound f.files → (r : Loaded) → IsLoaded f r → (t : Moment) (e : Refusal) → at.IsStopped t r f e → status_of e ≡ 11
good_last f reading reads sound r loaded t (NotArchive file offset) why = absurd (last_never_refused f.files reading reads sound r loaded.over t file offset why)
good_last f reading reads sound r loaded t (Nothing stamp) why = refl
good_last f reading reads sound r loaded t _ why = absurd why

good_range : (f : Found) (reading : ArchiveReading) → Reads f.files reading → RecoversSound f.files → (r : Loaded) → IsLoaded f r → (from to : Moment) (e : Refusal) → range.IsStopped from to r f e → ⊥
good_range f reading reads sound r loaded from to (NotArchive file offset) why = range_never_refused f.files reading reads sound r loaded.over from to file offset why
good_range f reading reads sound r loaded from to _ why = why

pub welcomes_by_time : (f : Found) → Readable f.files → RecoversSound f.files → f.wrapped ≡ None → IsWelcomeByTime f
welcomes_by_time f readable sound unwrapped = record {
  last = λ t e why. ⊎_elim (λ (n : IsNotLoaded f e). absurd (is_loaded f readable unwrapped e n)) (λ b. good_last f readable.0 readable.1 sound b.0 b.1 t e b.2) why;
  between = λ from to e why. ⊎_elim (λ (n : IsNotLoaded f e). is_loaded f readable unwrapped e n) (λ b. good_range f readable.0 readable.1 sound b.0 b.1 from to e b.2) why;
  soundness = λ e why. passes_sound f unwrapped (readable.0, readable.1, (torn_is_sound f.files readable.0 readable.1 sound).0) e why;
}
