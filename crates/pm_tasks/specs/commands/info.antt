-- `info` writes the descriptions of an archive.
use Rattle.std.specs.Prelude.{◌≡◌, ℕ, List}
use Rattle.archive_loading.specs.Loaded.{Loaded}
use Rattle.pm_print.specs.Infos.{info_text}
use Rattle.pm_words.specs.declared.refusal.Refusal.{Refusal}
use Rattle.pm_tasks.specs.Archives.{IsLoaded, IsNotLoaded, looks, nothing_before, takes_any}
use Rattle.pm_words.specs.Meaning.{Meaning}
use Rattle.pm_words.specs.Sides.{Found}

-- it turns files away only where they aren't loaded
abbrev pub IsTurnedAway : Found → Refusal → Type 0
IsTurnedAway found e = IsNotLoaded found e

abbrev pub IsOutput : Found → List ℕ → Type 0
IsOutput found text = (r : Loaded) × IsLoaded found r × (text ≡ info_text r.records)

abbrev pub info : Meaning
info = looks IsTurnedAway IsOutput nothing_before takes_any
