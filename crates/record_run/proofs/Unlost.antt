-- No line of a recording is lost.
use Rattle.std.proofs.Common.{◌≡◌, ◌≢◌, ⊎_elim, ℕ, ◌-◌, ◌<◌, ◌≤◌, ◌^◌, List, ◌++◌, append-nil, length, slice_index, slice_get, Some, None, sym, ap, ◌∙◌, subst, arith}
use Rattle.pcp_base.specs.Time.{Moment}
use Rattle.mmv_layout.specs.Form.{form_of}
use Rattle.region_core.specs.declared.act.Entry.{Entry}
use Rattle.region_core.specs.Journal.{state, own, IsJournal}
use Rattle.region_core.specs.State.{State, g1, opening, IsStable}
use Rattle.region_core.proofs.Journals.{own-append}
use Rattle.region_rule.specs.Seats.{Token}
use Rattle.region_words.specs.Images.{mmv, mmv_laws}
use Rattle.fetch_answers.specs.declared.fetch.Fetched.{Fetched}
use Rattle.fetch_engine.specs.declared.server.Mounted.{Mounted}
use Rattle.run_script.specs.Recording.{held_by, lines_of, refused_line}
use Rattle.run_script.specs.Rules.{KeepsRules}
use Rattle.run_script.specs.declared.script.Script.{Script}
use Rattle.run_passes.specs.Crews.{Serves, ServesScript}
use Rattle.script_runs.specs.declared.ending.Ending.{Ending}
use Rattle.run_passes.specs.Hands.{IsServedAt}
use Rattle.run_passes.specs.LineEntries.{Writing, HasMade}
use Rattle.run_passes.proofs.WriterPlaces.{capacity_at, made_at}
use Rattle.record_run.specs.Beside.{AtJournals, Beside, WritersRan, start_of}
use Rattle.record_run.specs.Pictured.{AreImages, AreOfWords}
use Rattle.record_run.specs.Whole.{NoLineIsLost, WritesAll}
use Rattle.record_run.proofs.Fitting.{MayChange, few_lines, lines_fit, opened_form, opened_held, opened_image, opened_low, opened_words}
use Rattle.record_run.proofs.Forms.{form_at, not_spent}
use Rattle.record_run.proofs.Owned.{Bounded, Good, begun, begun_lines, bounded_lines, bounded_more, good_lines}
use Rattle.record_run.proofs.Summing.{AreWords}
use Rattle.record_run.proofs.Wrote.{IsHeld, all_write}

module _ (script : Script) (server : List Mounted) (first final : List Token) (ending : Ending) (moments : List Moment) (results : List Fetched) (keeps : KeepsRules script) (refused : refused_line script ≡ None) (images : AreImages script) (words : AreOfWords script)
    (serves : ServesScript script 1 server) (b : Beside script server first final ending moments results) (writers : AtJournals WritersRan script server final) (i j : ℕ) (at : IsServedAt script server i j) (token : Token) (there : slice_get final j ≡ Some token) where
  abbrev log : List Entry
  log = token.view.seen

  abbrev start : State
  start = start_of at.mounted

  pub made : Serves script 1 at.row at.mounted
  made = made_at script server 1 keeps serves i j at

  pub journal : IsJournal mmv at.mounted.region.words at.mounted.region.passes log
  journal = b.legal i j at token there

  pub ran : WritersRan script server i j at log
  ran = writers i j at token there

  abbrev pub P : List ℕ → Type 0
  P = MayChange script keeps refused images i at.row at.is

  low_start : g1 start < 2 ^ 63
  low_start = subst (λ (ws : List ℕ). slice_index ws 1 < 2 ^ 63) (sym made.words) (opened_low script keeps refused images i at.row at.is)

  pub words_start : AreWords start
  words_start = subst (λ (ws : List ℕ). AreWords (opening ws at.mounted.region.passes)) (sym made.words) (opened_words script keeps refused images i at.row at.is words at.mounted.region.passes)

  pub held_images : (image : List ℕ) → P image → mmv.IsImage image × (length image ≤ length at.mounted.region.words)
  held_images image h = (h.0, subst (λ (n : ℕ). length image ≤ n) (sym (capacity_at script server 1 keeps serves i j at)) h.1)

  module _ (k : ℕ) (below : k < at.row.passes) where
    has : HasMade script.images k start (lines_of i k script.steps) log
    has = ran.each k below

    own_is : own k log ≡ own k has.made
    own_is = ap (λ (es : List Entry). own k es) has.is ∙ (own-append k has.made has.rest ∙ (ap (λ (es : List Entry). own k has.made ++ es) has.none ∙ append-nil (own k has.made)))

    pub good : Good P k (own k log)
    good = subst (Good P k) (sym own_is) (good_lines P k script.images start Writing.idle (lines_of i k script.steps) has.made (lines_fit script keeps refused images i at.row at.is k).0 has.makes)

    bounded : Bounded start k log
    bounded = subst (λ (es : List Entry). Bounded start k es) (sym has.is)
        (bounded_more start k has.made has.rest (bounded_lines P script.images k start Writing.idle (lines_of i k script.steps) has.made Writing.idle (lines_fit script keeps refused images i at.row at.is k).0 has.makes) has.none)

    few_begun : length script.steps ≤ 2 ^ 54 → begun (own k log) ≤ 2 ^ 54
    few_begun few =
        let most = begun_lines P script.images k start Writing.idle (lines_of i k script.steps) has.made Writing.idle (lines_fit script keeps refused images i at.row at.is k).0 has.makes in
        let short = few_lines i k script.steps in
        let is : begun (own k log) ≡ begun (own k has.made) = ap begun own_is in
        omega arith

  stands : (pre post : List Entry) → log ≡ pre ++ post → IsStable (state start pre) → (image : List ℕ) × IsHeld (held_by script i) image × (form_of (state start pre).words ≡ form_of image)
  stands pre post is stable = ⊎_elim
      (λ (opened : form_of (state start pre).words ≡ form_of at.mounted.region.words). (
        opened_image script keeps refused images i at.row at.is,
        opened_held script keeps refused images i at.row at.is,
        opened ∙ (ap (λ (ws : List ℕ). form_of ws) made.words ∙ opened_form script keeps refused images i at.row at.is),
      ))
      (λ (changed : (image : List ℕ) × P image × (form_of (state start pre).words ≡ form_of image)). (changed.0, changed.1.2, changed.2))
      (form_at mmv mmv_laws P at.mounted.region.words at.mounted.region.passes at.row.passes log journal made.passes (b.loads i j at token there) words_start held_images good pre post is stable)

  none_spent : length script.steps ≤ 2 ^ 54 → (pre post : List Entry) → log ≡ pre ++ post → g1 (state start pre) ≢ 2 ^ 64 - 1
  none_spent few =
      let few_passes = (keeps.opened i at.row at.is).passes in
      not_spent mmv mmv_laws P at.mounted.region.words at.mounted.region.passes at.row.passes log journal made.passes (b.loads i j at token there) words_start held_images good (omega arith) low_start bounded (λ k below. few_begun k below few)

  whole : length script.steps ≤ 2 ^ 54 → (k : ℕ) → k < at.row.passes → WritesAll script.images k start (lines_of i k script.steps) log
  whole few k below = record {
    made = (has k below).made;
    rest = (has k below).rest;
    is = (has k below).is;
    writes = all_write script.images (held_by script i) at.mounted.region.words at.mounted.region.passes k log journal stands (none_spent few) (lines_of i k script.steps) (has k below).made (has k below).rest (has k below).is
        (lines_fit script keeps refused images i at.row at.is k).1 (has k below).makes;
    none = (has k below).none;
  }

pub no_line_lost : NoLineIsLost
no_line_lost script server first final ending moments results keeps refused images words few serves b writers i j at token there k below =
    whole script server first final ending moments results keeps refused images words serves b writers i j at token there few k below
