-- What an archive took, held to be written with others, and then flushed, it doesn't turn away.
use Rattle.std.proofs.Common.{◌≡◌, ◌≢◌, ℕ, List, [], ◌∷◌, ◌++◌, refl, sym, ap, ◌∙◌, subst, append-nil, append_assoc}
use Rattle.pcp_base.specs.declared.result.Item.{Item}
use Rattle.pcp_model.specs.Disk.{Files}
use Rattle.pcp_model.specs.LabelFields.{LabelFields}
use Rattle.logger_core.specs.declared.ends.Ends.{Ends}
use Rattle.logger_core.specs.declared.fault.LogFault.{LogFault}
use Rattle.logger_core.specs.declared.fault.LogFault.TheVariants as logs
use Rattle.logger_core.specs.Logging.{IsRefused}
use Rattle.logging_session.specs.Course.{LeadsTo}
use Rattle.logging_session.specs.Events.{Event, Lead, LeadFrom, Steps, closing, flushed_behind, items_by, opening, with_report}
use Rattle.logging_session.specs.Written.{Logs, Refuses, Report, Stand, Written}
use Rattle.logging_session.proofs.OneReason.{not_refused, recovered_once}
use Rattle.logging_run.specs.Handing.{Handed, each_held, events_behind, events_of, with_handed}
use Rattle.logging_run.specs.Named.{run_label}
use Rattle.logging_run.specs.Recovering.{IsRecovered}
use Rattle.logging_run.specs.Running.{IsTurnedAway}
use Rattle.logging_run.proofs.OneArchive.{IsGood, lead_good, one_count, one_lead, same_opened}
use Rattle.pm_extracting.specs.Good.{TakesEach}

-- ---- the events up to an item

abbrev Begins : List Event → List Event → Type 0
Begins front events = (rest : List Event) × (events ≡ front ++ rest)

begins_more : (front more events : List Event) → Begins (front ++ more) events → Begins front events
begins_more front more events (rest, is) = (more ++ rest, is ∙ append_assoc front more rest)

-- once it is open, what is handed in stands behind what was
grown : (e : Event) (events : List Event) (handed : List Handed) → Begins (e ∷ events) (events_behind (e ∷ events) handed)
grown e events [] = ([], sym (append-nil (e ∷ events)))
grown e events (Handed.sure r ∷ handed) = begins_more (e ∷ events) (Event.logged r ∷ []) (events_behind (with_handed (e ∷ events) (Handed.sure r)) handed)
    (begins_more ((e ∷ events) ++ Event.logged r ∷ []) (Event.synced ∷ []) (events_behind (with_handed (e ∷ events) (Handed.sure r)) handed) (grown e ((events ++ Event.logged r ∷ []) ++ Event.synced ∷ []) handed))
grown e events (Handed.held r ∷ handed) = begins_more (e ∷ events) (Event.logged r ∷ []) (events_behind (with_handed (e ∷ events) (Handed.held r)) handed) (grown e (events ++ Event.logged r ∷ []) handed)
grown e events (Handed.refused r ∷ handed) = grown e events handed

flushed_grown : (items : List Item) (events : List Event) → Begins events (flushed_behind items events)
flushed_grown [] events = ([], sym (append-nil events))
flushed_grown (x ∷ items) events = (Event.flushed ∷ [], refl)

begins_flushed : (front events : List Event) → Begins front events → Begins front (closing events)
begins_flushed front events (rest, is) =
    let (more, also) = flushed_grown (items_by events) events in (rest ++ more, also ∙ ap (λ (es : List Event). es ++ more) is ∙ append_assoc front rest more)

behind_all : (events : List Event) (before after : List Handed) → events_behind events (before ++ after) ≡ events_behind (events_behind events before) after
behind_all events [] after = refl
behind_all events (h ∷ before) after = behind_all (with_handed events h) before after

reported : (events : List Event) (r : Report) (after : List Handed) → Begins (with_report events r) (events_behind (with_handed events (Handed.held r)) after)
reported [] r after = grown (Event.opened r.result.stamp) (Event.logged r ∷ []) after
reported (e ∷ events) r after = grown e (events ++ Event.logged r ∷ []) after

up_to : (before after : List Handed) (r : Report) → Begins (with_report (events_of before) r) (closing (events_of (before ++ Handed.held r ∷ after)))
up_to before after r =
    begins_flushed (with_report (events_of before) r) (events_of (before ++ Handed.held r ∷ after))
    (subst (λ (es : List Event). Begins (with_report (events_of before) r) es) (sym (behind_all [] before (Handed.held r ∷ after))) (reported (events_of before) r after))

-- ---- the archive at that moment

lead_front : (l : LabelFields) (limit : ℕ) (s : Stand) (front rest : List Event) (last : Stand) → Lead l limit s (front ++ rest) last → (m : Stand) × Lead l limit s front m × Lead l limit m rest last
lead_front l limit s [] rest last x = (s, refl, x)
lead_front l limit s (e ∷ front) rest last (n, step, x) = let found = lead_front l limit n front rest last x in (found.0, (n, step, found.1), found.2)

not_away : (limit : ℕ) (r : Report) (s : Stand) (w : Written) (next : Stand) (fault : LogFault) → fault ≢ logs.NoMemory → IsGood w → s ≡ Stand.opened w → Steps run_label limit s (Event.logged r) next → Refuses limit r w fault → ⊥
not_away limit r (Stand.found left) w next fault other good is x refuses = absurd x
not_away limit r (Stand.opened old) w next fault other good is (v, logged, also) refuses =
    let took : Logs limit r w v = subst (λ (o : Written). Logs limit r o v) (same_opened old w is) logged in
    not_refused w.contents.records took.ends limit r.result r.facts fault other took.loggable
    (subst (λ (e : Ends). IsRefused w.contents.records e limit r.result r.facts fault) (one_count w good refuses.ends took.ends refuses.ends_are took.ends_are) refuses.refused)

led_past : (limit : ℕ) (start left : Files) (events after : List Event) (r : Report) (last : Stand) (fault : LogFault) → fault ≢ logs.NoMemory → IsRecovered start left → LeadFrom run_label limit left (with_report events r ++ after) last
    → IsTurnedAway limit start events r fault → ⊥
led_past limit start left events after r last fault other recovered lead away =
    let open_ : List Event = opening r.result.stamp events in
    let all = lead_front run_label limit (Stand.found left) (open_ ++ Event.logged r ∷ []) after last lead in
    let here = lead_front run_label limit (Stand.found left) open_ (Event.logged r ∷ []) all.0 all.1 in
    let found : away.left ≡ left = recovered_once start left away.left recovered.reading away.recovered.reading recovered.was away.recovered.was recovered.recovered away.recovered.recovered in
    let also : LeadFrom run_label limit left open_ (Stand.opened away.w) = subst (λ (f : Files). LeadFrom run_label limit f open_ (Stand.opened away.w)) found away.lead in
    let same : here.0 ≡ Stand.opened away.w = one_lead run_label limit left open_ here.0 (Stand.opened away.w) here.1 also in
    not_away limit r here.0 away.w here.2.0 fault other (lead_good run_label limit open_ (Stand.found left) (Stand.opened away.w) tt also) same here.2.1 away.refuses

-- ---- items that were flushed

held_behind : (a b : List Report) → each_held (a ++ b) ≡ each_held a ++ each_held b
held_behind [] b = refl
held_behind (r ∷ a) b = ap (λ (hs : List Handed). Handed.held r ∷ hs) (held_behind a b)

handed_so : (before rest reports : List Report) (r : Report) (last : List Handed) → reports ≡ before ++ r ∷ rest → each_held reports ++ last ≡ each_held before ++ Handed.held r ∷ (each_held rest ++ last)
handed_so before rest reports r last is =
    ap (λ (rs : List Report). each_held rs ++ last) is ∙ ap (λ (hs : List Handed). hs ++ last) (held_behind before (r ∷ rest)) ∙ append_assoc (each_held before) (each_held (r ∷ rest)) last

-- also where one more was handed in behind them
pub flushed_taken : (limit : ℕ) (start left : Files) (reports : List Report) (last : List Handed) (files : Files) → IsRecovered start left → LeadsTo run_label limit left (closing (events_of (each_held reports ++ last))) files
    → TakesEach limit start reports
flushed_taken limit start left reports last files recovered leads = λ before r rest fault other is away.
    let (more, so) = up_to (each_held before) (each_held rest ++ last) r in
    let whole = ap (λ (hs : List Handed). closing (events_of hs)) (handed_so before rest reports r last is) ∙ so in
    led_past limit start left (events_of (each_held before)) more r leads.stand fault other recovered (subst (λ (es : List Event). LeadFrom run_label limit left es leads.stand) whole leads.lead) away

pub led_taken : (limit : ℕ) (start left : Files) (reports : List Report) (files : Files) → IsRecovered start left → LeadsTo run_label limit left (closing (events_of (each_held reports))) files → TakesEach limit start reports
led_taken limit start left reports files recovered leads =
    flushed_taken limit start left reports [] files recovered (subst (λ (hs : List Handed). LeadsTo run_label limit left (closing (events_of hs)) files) (sym (append-nil (each_held reports))) leads)
