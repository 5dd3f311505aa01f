-- What regions show can be logged: it fits, and is described.
use Rattle.std.proofs.Common.{◌≡◌, ℕ, ◌<◌, List, [], ◌∷◌, length, map, Option, None, Some, refl, sym, ap, ◌∙◌, subst, arith}
use Rattle.std.specs.List.{AllByRecursion}
use Rattle.std.proofs.lemmas.List.Elements.{recursion_from_All}
use Rattle.pcp_base.specs.Time.{Moment}
use Rattle.pcp_base.specs.declared.result.PmResult.{PmResult}
use Rattle.mmv_layout.specs.declared.rows.Layout.{Layout}
use Rattle.mmv_layout.specs.Rows.{layout_of}
use Rattle.mmv_writer.specs.Draft.{IsDraft}
use Rattle.mmv_writer.proofs.ImageDrafts.{layouts_are_drafts}
use Rattle.region_rule.specs.declared.view.View.{View}
use Rattle.region_rule.specs.Seats.{Token}
use Rattle.fetch_answers.specs.declared.fetch.Fetched.{Fetched}
use Rattle.fetch_engine.specs.declared.server.Mounted.{Mounted}
use Rattle.fetch_answers.specs.Answers.{facts_of}
use Rattle.fetch_answers.specs.Bounds.{IsBounded}
use Rattle.fetch_answers.specs.Readings.{RegionReading}
use Rattle.fetch_engine.specs.Visits.{AreRead, IsFetched, IsRead, IsVisit, ShowsLayout, Visit}
use Rattle.fetch_answers.proofs.Bounds.{bounded}
use Rattle.fetch_answers.proofs.SetsFit.{sets_fit}
use Rattle.script_runs.specs.Steps.{every_instance, fetched_from}
use Rattle.run_archive.specs.Shown.{IsResult}
use Rattle.run_archive.proofs.Enough.{AreSaid, IsSaidBy, facts_are_enough}
use Rattle.run_archive.proofs.Results.{many}

said_by : (v w : View) (o : Option Layout) → IsRead v o w → IsSaidBy o
said_by v w None read = tt
said_by v w (Some layout) (tries, few, u, refused, once) =
    let s : ShowsLayout u layout w = once.shows in
    subst (λ (l : Layout). IsDraft l × IsBounded l) (sym s.says) (layouts_are_drafts s.words s.image, bounded s.words (layout_of s.words) s.image refl)

all_said : (visits : List Visit) → AllByRecursion IsVisit visits → AreSaid (map (λ (visit : Visit). visit.reading) visits)
all_said [] all = tt
all_said (v ∷ vs) all = (said_by v.before.view v.after.view v.reading.layout all.0.read.read, all_said vs all.1)

-- what was read of regions shows a result
read_is_result : (rows : List Mounted) (olds news : List Token) (values : List RegionReading) (pmids : List ℕ) (now : Moment) → AreRead rows olds values news → 0 < length pmids → IsResult (fetched_from values pmids now)
read_is_result rows olds news values pmids now read some =
    let said : AreSaid values = subst AreSaid read.readings_are (all_said read.visits (recursion_from_All IsVisit read.visits read.each)) in
    record {
      some = omega (arith, some, many values pmids);
      fits = sets_fit values every_instance pmids;
      enough = facts_are_enough values said every_instance pmids;
    }

pub shown_is_result : (rows : List Mounted) (olds news : List Token) (values : List RegionReading) (pmids : List ℕ) (now : Moment) (f : Fetched) → f ≡ fetched_from values pmids now → AreRead rows olds values news → 0 < length pmids → IsResult f
shown_is_result rows olds news values pmids now f is read some = subst IsResult (sym is) (read_is_result rows olds news values pmids now read some)

-- a fetch of every instance shows what was read
pub shows_read : (rows : List Mounted) (olds news : List Token) (pmids : List ℕ) (now : Moment) (fetched : Fetched) (f : IsFetched rows olds every_instance pmids now fetched.result fetched.facts news) → fetched ≡ fetched_from f.readings pmids now
shows_read rows olds news pmids now fetched f =
    let facts = f.facts_are ∙ ap (λ (x : PmResult). facts_of f.readings x.sets) f.result_is in
    λ i. record { result = f.result_is i; facts = facts i }
