-- What a call came to.
use Rattle.std.proofs.Common.{rules, map, string_bytes, Global, Option, inl, inr, sym, ap, ◌∙◌}
use Rattle.pcp_outside.specs.Sides.{source_side}
use Rattle.pm_words.specs.declared.refusal.Refusal.{Refusal}
use Rattle.pm_words.specs.declared.refusal.Refusal.TheVariants.{NoMemory}
use Rattle.pm_recording.specs.Ends.{count_of, logged_line, told_as}
use Rattle.pm_recording.specs.Recording.{call_side, run_side}
use Rattle.pm_recording.proofs.Stopping.{ran_by, told_done, took}
use Rattle.pm_recording.proofs.top.run.Goals as goal

pub returns-in_err-recorded : goal.returns-in_err-recorded
returns-in_err-recorded g c =
    let words = map (string_bytes {Z = Global}) c.args.words.now in
    let s = source_side g.I.Source c.args.input.now c.prepare.new.input in
    let e = c.in_err-recorded.ensures in inl (record {
      refusal = NoMemory;
      is = search rules;
      cause = took words s c.in_ok-asked.ensures.order.asks;
      unrun = record { none = e.unopened ∙ c.requires.fresh; disk = e.untouched; clock = e.unasked };
    })

pub returns-in-None : goal.returns-in-None
returns-in-None g c =
    let words = map (string_bytes {Z = Global}) c.args.words.now in
    let s = source_side g.I.Source c.args.input.now c.prepare.new.input in
    let side = call_side words s (run_side g.C.Clock g.D.Disk c.args.clock.now c.record_on.new.clock c.args.disk.now c.record_on.new.disk c.record_on.new.opened) in
    let told = c.in_ok-recorded.recorded in
    let ran = ran_by side c.in_ok-asked.asked c.in_ok-asked.script c.in_ok-asked.ensures.order told c.in_ok-recorded.ensures.recorded in
    inr (record { ending = told.ending; ran = ran; is = told_done side told.ending ran (sym c.of_ending.ensures ∙ c.in-None.is) })

pub returns-in-Some : goal.returns-in-Some
returns-in-Some g c =
    let words = map (string_bytes {Z = Global}) c.args.words.now in
    let s = source_side g.I.Source c.args.input.now c.prepare.new.input in
    let side = call_side words s (run_side g.C.Clock g.D.Disk c.args.clock.now c.record_on.new.clock c.args.disk.now c.record_on.new.disk c.record_on.new.opened) in
    let told = c.in_ok-recorded.recorded in
    let ran = ran_by side c.in_ok-asked.asked c.in_ok-asked.script c.in_ok-asked.ensures.order told c.in_ok-recorded.ensures.recorded in
    inr (record { ending = told.ending; ran = ran; is = sym (ap (λ (o : Option Refusal). told_as (logged_line (count_of ran)) o) (sym c.of_ending.ensures ∙ c.in-Some.is)) })
