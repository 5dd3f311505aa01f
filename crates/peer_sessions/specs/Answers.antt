-- Which results are the answers of a session to its fetches, one behind another.
use Rattle.std.specs.Prelude.{◌≡◌, ℕ, false, List, [], ◌∷◌, ◌++◌, length, All, Option, Some, None}
use Rattle.std.specs.List.{AllByRecursion}
use Rattle.pcp_base.specs.Time.{Moment, IsMoment}
use Rattle.pcp_base.specs.declared.result.PmResult.{PmResult}
use Rattle.mmv_layout.specs.declared.rows.Layout.{Layout}
use Rattle.region_core.specs.Readings.{Missed}
use Rattle.region_rule.specs.declared.view.View.{View}
use Rattle.region_rule.specs.Views.{opening_of}
use Rattle.pdu_codec.specs.declared.pdu.Pdu.TheVariants as pdus
use Rattle.pdu_codec.specs.Bodies.{IsPdu}
use Rattle.fetch_engine.specs.declared.server.Mounted.{Mounted}
use Rattle.fetch_engine.specs.Servers.{Seated}
use Rattle.fetch_engine.specs.Visits.{IsAnswered, ShowsLayout, Visit}
use Rattle.pmcd_session.specs.declared.standing.Standing.{Standing}
use Rattle.pmcd_session.specs.Agents.{ReadsRegions}
use Rattle.pmcd_session.specs.Contexts.{keeps_all}
use Rattle.pmcd_session.specs.Serving.{Deed, Does, DoesAll}
use Rattle.pmcd_session.specs.Sessions.{is_fetch}
use Rattle.pmcd_client.specs.Talks.{Sample}
use Rattle.pmcd_client.specs.Turns.{pmids_of}

-- a pass read this of its region, which is shown, or it missed the region; from the end of what the pass had seen before
abbrev pub ShowsOrMisses : View → Option Layout → View → Type 0
ShowsOrMisses v None w = Missed (opening_of v) w.seen (length v.seen) v.number
ShowsOrMisses v (Some layout) w = ShowsLayout v layout w

abbrev pub IsShownOrMissed : Visit → Type 0
IsShownOrMissed visit = ShowsOrMisses visit.before.view visit.reading.layout visit.after.view

-- A result is the answer to the next fetch among the PDUs that a session serves from here on.
pub record AnswersNext (rows : List Mounted) (s : Standing Seated) (pdus_left : List (List ℕ)) (moments_left : List Moment) (result : PmResult) : Type 0 where
  pub before : List (List ℕ)
  pub fetch : List ℕ
  pub behind : List (List ℕ)
  pub are : pdus_left ≡ before ++ fetch ∷ behind
  -- no PDU before it is a fetch, and none of them takes a moment
  pub no_fetch : AllByRecursion (λ pdu. is_fetch pdu ≡ false) before
  pub between : Standing Seated
  pub replies : List ℕ
  pub others : DoesAll (ReadsRegions rows) s before (record { moments = []; written = replies; after = between })
  -- it asks for the metrics of the result, in the first context
  pub asks : IsPdu fetch (pdus.Fetch 0 0 0 (pmids_of result.sets))
  -- it takes the next moment, and the session replies these sets with that stamp
  pub deed : Deed Seated
  pub does : Does (ReadsRegions rows) between fetch deed
  pub moment : Moment
  pub later : List Moment
  pub next : moments_left ≡ moment ∷ later
  pub took : deed.moments ≡ moment ∷ []
  pub replied : deed.reply ≡ Some (pdus.Result (record { stamp = moment; sets = result.sets }))
  -- a moment that seconds and microseconds can tell is the result's stamp
  pub stamped : IsMoment moment → result.stamp ≡ moment
  -- the result is what a fetch answers over one reading of each region, by the seat's own passes, with every instance kept
  pub answered : IsAnswered rows between.agent.tokens keeps_all (pmids_of result.sets) result.stamp result deed.after.agent.tokens
  pub read_so : All IsShownOrMissed answered.read.visits

-- each sample's result is the answer to the next fetch behind that of the sample before
abbrev pub AnswerEach : List Mounted → Standing Seated → List (List ℕ) → List Moment → List Sample → Type 0
AnswerEach rows s pdus_left moments_left [] = Unit {0}
AnswerEach rows s pdus_left moments_left (x ∷ samples) =
    (a : AnswersNext rows s pdus_left moments_left x.result) × AnswerEach rows a.deed.after a.behind a.later samples
