-- A result is turned away for one reason, and no run goes on with it: the archive to which events lead is one.
use Rattle.std.proofs.Common.{◌≡◌, ◌≢◌, ℕ, List, [], ◌∷◌, ◌++◌, Some, refl, sym, ap, ◌∙◌, subst}
use Rattle.std.proofs.lemmas.Option.{none-some, same_Some}
use Rattle.pcp_model.specs.Disk.{Files}
use Rattle.pcp_model.specs.LabelFields.{LabelFields}
use Rattle.fetch_answers.specs.declared.fetch.Fetched.{Fetched}
use Rattle.logger_core.specs.declared.ends.Ends.{Ends}
use Rattle.logger_core.specs.declared.fault.LogFault.{LogFault}
use Rattle.logger_core.specs.declared.fault.LogFault.TheVariants as faults
use Rattle.logger_core.specs.Logging.{IsRefused}
use Rattle.logging_session.specs.Course.{LeadsTo}
use Rattle.logging_session.specs.Events.{Event, Lead, LeadFrom, opening}
use Rattle.logging_session.specs.Written.{Logs, Refuses, Report, Stand, Written}
use Rattle.logging_session.proofs.OneReason.{not_refused}
use Rattle.logging_run.proofs.OneArchive.{IsGood, lead_good, one_count, one_lead, one_refused, same_opened}
use Rattle.script_runs.specs.declared.ending.Ending.{Ending}
use Rattle.script_runs.specs.Archives.{IsTurnedAway, ending_of, report_of, run_label}

-- what is logged isn't refused
module _ (limit : ℕ) (r : Report) (old : Written) (good : IsGood old) where
  not_both : (a : Written) (b : LogFault) → b ≢ faults.NoMemory → Logs limit r old a → Refuses limit r old b → ⊥
  not_both a b rb x y =
      not_refused old.contents.records x.ends limit r.result r.facts b rb x.loggable
      (subst (λ (e : Ends). IsRefused old.contents.records e limit r.result r.facts b) (sym (one_count old good x.ends y.ends x.ends_are y.ends_are)) y.refused)

-- ---- no events go on with what is turned away

module _ (l : LabelFields) (limit : ℕ) where
  -- by way of what the first ones lead to
  split_lead : (front rest : List Event) (s last : Stand) → Lead l limit s (front ++ rest) last → (middle : Stand) × Lead l limit s front middle × Lead l limit middle rest last
  split_lead [] rest s last x = (s, refl, x)
  split_lead (e ∷ front) rest s last (n, step, x) = let more = split_lead front rest n last x in (more.0, (n, step, more.1), more.2)

  -- no events go on with a result that the archive turns away
  goes_not_on : (left : Files) (events rest : List Event) (r : Report) (w : Written) (fault : LogFault) (files : Files) → LeadFrom l limit left events (Stand.opened w) → Refuses limit r w fault → fault ≢ faults.NoMemory
      → LeadsTo l limit left (events ++ Event.logged r ∷ rest) files → ⊥
  goes_not_on left events rest r w fault files lead refuses other on =
      let parts = split_lead events (Event.logged r ∷ rest) (Stand.found left) on.stand on.lead in
      let here : Lead l limit (Stand.opened w) (Event.logged r ∷ rest) on.stand = subst (λ (s : Stand). Lead l limit s (Event.logged r ∷ rest) on.stand) (one_lead l limit left events parts.0 (Stand.opened w) parts.1 lead) parts.2 in
      let good : IsGood w = lead_good l limit events (Stand.found left) (Stand.opened w) tt lead in
      not_both limit r w good here.1.0 fault other here.1.1 refuses

-- ---- a result is turned away for one reason

is_fault : (fault : LogFault) (ending : Ending) → ending_of fault ≡ Some ending → fault ≢ faults.NoMemory
is_fault fault ending is none = none-some ending (sym (ap ending_of none) ∙ is)

module _ (limit : ℕ) (left : Files) (events : List Event) (f : Fetched) where
  pub one_away : (a b : Ending) → IsTurnedAway limit left events f a → IsTurnedAway limit left events f b → a ≡ b
  one_away a b x y =
      let open_ = opening f.result.stamp events in
      let same : x.w ≡ y.w = same_opened x.w y.w (one_lead run_label limit left open_ (Stand.opened x.w) (Stand.opened y.w) x.lead y.lead) in
      let good : IsGood x.w = lead_good run_label limit open_ (Stand.found left) (Stand.opened x.w) tt x.lead in
      let fault : x.fault ≡ y.fault =
      one_refused limit (report_of f) x.w good x.fault y.fault (is_fault x.fault a x.ends) (is_fault y.fault b y.ends) x.refuses (subst (λ (w : Written). Refuses limit (report_of f) w y.fault) (sym same) y.refuses) in
      same_Some a b (sym x.ends ∙ ap ending_of fault ∙ y.ends)

  -- where it is turned away no run goes on with it
  pub away_ends : (a : Ending) (rest : List Event) (files : Files) → IsTurnedAway limit left events f a → LeadsTo run_label limit left (opening f.result.stamp events ++ Event.logged (report_of f) ∷ rest) files → ⊥
  away_ends a rest files x on = goes_not_on run_label limit left (opening f.result.stamp events) rest (report_of f) x.w x.fault files x.lead x.refuses (is_fault x.fault a x.ends) on
