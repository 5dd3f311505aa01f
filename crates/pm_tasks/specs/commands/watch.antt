-- `watch SEC USEC SEC USEC` reads a text of rules, and writes which of them hold at each sample of the archive between two moments, both
-- included, over the samples from the first of these on.
use Rattle.std.specs.Prelude.{◌≡◌, ◌⊎◌, ℕ, Bool, true, false, List, [], ◌++◌, Option, Ok}
use Rattle.pcp_base.specs.Time.{Moment}
use Rattle.pcp_base.specs.declared.result.Item.{Item}
use Rattle.pcp_model.specs.Disk.{Files}
use Rattle.archive_loading.specs.Loaded.{Loaded}
use Rattle.archive_reader.specs.Laws.{IsReadAs}
use Rattle.archive_reader.specs.Searches.{between}
use Rattle.archive_reader.specs.Walks.{volumes_from, StepsOver, IsEnd}
use Rattle.archive_reader.specs.declared.places.Place.{Place}
use Rattle.rule_watch.specs.declared.rule.Rule.{Rule}
use Rattle.rule_watch.specs.declared.fault.ReadRulesError.{ReadRulesError}
use Rattle.rule_watch.specs.declared.fault.ReadRulesError.TheVariants as unread
use Rattle.rule_watch.specs.Reading.{rules_of}
use Rattle.rule_watch.specs.Shown.{KeptRule}
use Rattle.pm_words.specs.declared.refusal.Refusal.{Refusal}
use Rattle.pm_words.specs.declared.refusal.Refusal.TheVariants.{NoMemory, Rules}
use Rattle.pm_words.specs.Inputs.{rules_refusal}
use Rattle.pm_words.specs.Meaning.{Meaning}
use Rattle.pcp_outside.specs.Sides.{SinkSide}
use Rattle.pm_words.specs.Sides.{DiskSide, Found, files_found}
use Rattle.pm_words.specs.Streams.{IsFront, IsSent}
use Rattle.pm_tasks.specs.declared.commands.watch.Told.{Told}
use Rattle.pm_tasks.specs.Archives.{IsLoaded, looks_by, takes_any}
use Rattle.pm_tasks.specs.Telling.{AreTold, Firing, IsToldOf, TellsAll, TellsBetween, firing_lines, samples_of}
use Rattle.pm_tasks.specs.commands.dump.{BeginsWith, HasItems, IsTurnedAway}

abbrev pub refuses : List ℕ → Option Refusal
refuses input = rules_refusal (rules_of input)

-- why the rules of a text weren't read, as the command refuses it
abbrev pub refusal_of : ReadRulesError → Refusal
refusal_of (unread.Fault fault) = Rules fault
refusal_of unread.NoMemory = NoMemory

-- of these rules: what they tell of the archive's items between the moments
abbrev pub HasTold : Moment → Moment → List Rule → Found → List ℕ → Type 0
HasTold from to rules found text = (r : Loaded) × IsLoaded found r × (items : List Item) × HasItems found.files r items × IsReadAs found.files r.records items
    × IsToldOf r.records rules (between from to items) text

abbrev pub IsOutput : Moment → Moment → List ℕ → Found → List ℕ → Type 0
IsOutput from to input found text = (rules : List Rule) × (rules_of input ≡ Ok rules) × HasTold from to rules found text

-- these bytes begin the lines of what rules tell of some items that the archive begins with
abbrev pub BeginsTelling : Moment → Moment → List Rule → Files → Loaded → List ℕ → Type 0
BeginsTelling from to rules files r front =
    (items : List Item) × BeginsWith files r items × (told : List Firing) × AreTold rules [] (samples_of r.records (between from to items)) told × IsFront front (firing_lines told)

-- of these rules: a front of the lines of what they tell of the items that the archive begins with
abbrev pub HasTelling : Moment → Moment → List Rule → Found → List ℕ → Type 0
HasTelling from to rules found front = (r : Loaded) × IsLoaded found r × BeginsTelling from to rules found.files r front

-- before it is stopped it may have written such a front
abbrev pub HasBegun : Moment → Moment → List ℕ → Found → List ℕ → Type 0
HasBegun from to input found front = (front ≡ []) ⊎ ((rules : List Rule) × (rules_of input ≡ Ok rules) × HasTelling from to rules found front)

abbrev pub IsFrontOutput : Moment → Moment → List ℕ → DiskSide → List ℕ → Type 0
IsFrontOutput from to input d front = d.tells → HasBegun from to input (files_found d) front

abbrev pub watch : Moment → Moment → Meaning
watch from to = looks_by refuses IsTurnedAway (IsOutput from to) (IsFrontOutput from to) takes_any

-- Of one step: an item's record follows and the item was watched, or none follows
abbrev pub WatchesNext : Files → Loaded → Place → Place → Moment → Moment → List KeptRule → List KeptRule → Told → Told → Bool → Type 0
WatchesNext files r p q from to old new before after true =
    (x : Item) × StepsOver files (volumes_from p.volume r.volumes) p.offset x (volumes_from q.volume r.volumes) q.offset × TellsBetween r.records from to x old new before after
WatchesNext files r p q from to old new before after false = IsEnd files (volumes_from p.volume r.volumes) p.offset × (new ≡ old) × (after ≡ before)

-- Of all steps: what rules tell of the items between the moments stands in lines; a front of these went to the sink, and the rest waits.
pub record HasSentAll (tells : Type 0) (files : Files) (r : Loaded) (rules : List Rule) (from to : Moment) (k : SinkSide) (failed : Bool) (told : Told) : Type 0 where
  pub front : List ℕ
  pub sent : IsSent k front failed
  pub all : tells → (items : List Item) × HasItems files r items × TellsAll r.records rules (between from to items) front told

-- or of some steps: a front of such lines went to the sink
pub record HasSentSome (tells : Type 0) (files : Files) (r : Loaded) (rules : List Rule) (from to : Moment) (k : SinkSide) (failed : Bool) : Type 0 where
  pub front : List ℕ
  pub sent : IsSent k front failed
  pub some : tells → BeginsTelling from to rules files r front

-- of the whole text, a front went to the sink, and the rest waits
pub record HasSaid (from to : Moment) (rules : List Rule) (k : SinkSide) (failed : Bool) (d : DiskSide) (waits : List ℕ) : Type 0 where
  pub front : List ℕ
  pub sent : IsSent k front failed
  pub whole : d.tells → HasTold from to rules (files_found d) (front ++ waits)

-- or what was begun went there
pub record HasStopped (from to : Moment) (rules : List Rule) (k : SinkSide) (failed : Bool) (d : DiskSide) : Type 0 where
  pub front : List ℕ
  pub sent : IsSent k front failed
  pub so_far : d.tells → (front ≡ []) ⊎ HasTelling from to rules (files_found d) front
