-- The events of a list of entries, and what their replay leaves.
use Rattle.std.proofs.Common.{◌≡◌, ℕ, List, [], ◌∷◌, refl, ap, sym, ◌∙◌}
use Rattle.std.specs.Prelude.{Option, Some, None}
use Rattle.std.specs.List.{cons_option}
use Rattle.region_core.specs.declared.act.Act.{Act}
use Rattle.region_core.specs.declared.act.Act.TheVariants.{Load, Swap, Add, Enter, Leave, Take, Begin, Put, End, Free}
use Rattle.region_core.specs.declared.act.Entry.{Entry}
use Rattle.region_core.specs.declared.event.Event.{Event}
use Rattle.region_core.specs.State.{State, after}
use Rattle.region_core.specs.Journal.{state}
use Rattle.region_core.specs.Events.{event_by, event_of, events_of, after_event, after_events}

-- the words after an act's event, if it is one
abbrev pub applied_option : List ℕ → Option Event → List ℕ
applied_option words None = words
applied_option words (Some e) = after_event words e

-- an act does to the words what its event does
pub words_after_event : (s : State) (k : ℕ) (act : Act) → (after s k act).words ≡ applied_option s.words (event_by k act)
words_after_event s k (Load w) = refl
words_after_event s k (Swap w v) = refl
words_after_event s k (Add w d) = refl
words_after_event s k Enter = refl
words_after_event s k Leave = refl
words_after_event s k Take = refl
words_after_event s k (Begin n) = refl
words_after_event s k (Put w v) = refl
words_after_event s k (End n) = refl
words_after_event s k Free = refl

first_replayed : (words : List ℕ) (o : Option Event) (es : List Event) → after_events words (cons_option o es) ≡ after_events (applied_option words o) es
first_replayed words None es = refl
first_replayed words (Some e) es = refl

-- the words after any entries are the replay of their events
pub words_replayed : (s : State) (es : List Entry) → (state s es).words ≡ after_events s.words (events_of es)
words_replayed s [] = refl
words_replayed s (e ∷ es) =
    words_replayed (after s e.by e.act) es
    ∙ ap (λ (words : List ℕ). after_events words (events_of es)) (words_after_event s e.by e.act)
    ∙ sym (first_replayed s.words (event_of e) (events_of es))
