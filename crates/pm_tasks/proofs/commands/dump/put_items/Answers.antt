-- The items that were read, one behind another, are those of the archive.
use Rattle.std.proofs.Common.{rules, true, false, ◌∙◌, refl}
use Rattle.pcp_model.specs.Disk.{contents_of}
use Rattle.archive_loading.proofs.Looking.{looks_none, looks_on}
use Rattle.archive_loading.specs.Loaded.{IsOver}
use Rattle.pcp_outside.specs.Sides.{sink_side}
use Rattle.pm_tasks.proofs.Dumped.{starts, goes_further, ends_here, stops_here, no_record, stepped}
use Rattle.pm_tasks.proofs.Asking.{still_over}
use Rattle.pm_tasks.proofs.commands.dump.put_items.Goals as goal

pub loop-init : goal.loop-init
loop-init g c = record {
  looks = looks_none g.D.Disk g.met.D.Disk.only_now c.args.disk.now;
  quiet = refl;
  lines = c.of-lines.ensures ∙ c.meta.ensures;
  going = starts g.O.Sink g.D.Disk.tells (contents_of (g.D.Disk.held c.args.disk.now)) c.args.reader.now c.args.page.now.items c.start-place.result c.args.out.now c.args.failed.now c.requires.fresh c.start-place.ensures.volume c.start-place.ensures.offset;
}

pub put_next-requires-clause-over : goal.put_next-requires-clause-over
put_next-requires-clause-over g c = λ tells. still_over g.D.Disk (λ files. IsOver files c.args.reader.now) c.args.disk.now c.loop.disk c.loop.invariant.looks c.requires.over tells

pub loop-preserved : goal.loop-preserved
loop-preserved g c = record {
  looks = looks_on g.D.Disk c.args.disk.now c.loop.disk c.put_next.new.disk c.loop.invariant.looks c.put_next.ensures.looks;
  quiet = c.in_ok-more.ensures.quiet ∙ c.loop.invariant.quiet;
  lines = c.put_next.ensures.same ∙ c.loop.invariant.lines;
  going = goes_further g.O.Sink g.D.Disk.tells (contents_of (g.D.Disk.held c.args.disk.now)) c.args.reader.now c.args.page.now.items c.loop.place c.put_next.new.place c.args.out.now c.loop.out c.turn_page.new.out
      c.loop.failed c.turn_page.new.failed c.loop.page.items c.put_next.new.out.items c.turn_page.new.page.items c.loop.invariant.going
      (λ tells. stepped g.D.Disk c.args.disk.now c.loop.disk c.loop.invariant.looks tells c.args.reader.now c.loop.place c.put_next.new.place c.loop.page.items c.put_next.new.out.items c.in_ok-more.more true c.if-not-more.false (c.in_ok-more.ensures.put tells))
      c.turn_page.ensures;
}

pub returns-then-not-more-clause-put : goal.returns-then-not-more-clause-put
returns-then-not-more-clause-put g c =
    ends_here g.O.Sink g.D.Disk.tells (contents_of (g.D.Disk.held c.args.disk.now)) c.args.reader.now c.args.page.now.items c.loop.place c.put_next.new.place (sink_side g.O.Sink c.args.out.now c.loop.out) c.loop.failed c.loop.page.items c.put_next.new.out.items c.loop.invariant.going
    (λ tells. stepped g.D.Disk c.args.disk.now c.loop.disk c.loop.invariant.looks tells c.args.reader.now c.loop.place c.put_next.new.place c.loop.page.items c.put_next.new.out.items c.in_ok-more.more false c.if-not-more.true (c.in_ok-more.ensures.put tells))

pub returns-then-not-more-clause-looks : goal.returns-then-not-more-clause-looks
returns-then-not-more-clause-looks g c = looks_on g.D.Disk c.args.disk.now c.loop.disk c.put_next.new.disk c.loop.invariant.looks c.put_next.ensures.looks

pub returns-in_err-more-clause-looks : goal.returns-in_err-more-clause-looks
returns-in_err-more-clause-looks g c = looks_on g.D.Disk c.args.disk.now c.loop.disk c.put_next.new.disk c.loop.invariant.looks c.put_next.ensures.looks

pub returns-in_err-more-clause-stops : goal.returns-in_err-more-clause-stops
returns-in_err-more-clause-stops g c =
    let stops = stops_here g.O.Sink g.D.Disk.tells (contents_of (g.D.Disk.held c.args.disk.now)) c.args.reader.now c.args.page.now.items c.loop.place (sink_side g.O.Sink c.args.out.now c.loop.out) c.loop.failed c.loop.page.items c.loop.invariant.going in
    search (rules, stops)

pub returns-clause-stops : goal.returns-clause-stops
returns-clause-stops g c =
    stops_here g.O.Sink g.D.Disk.tells (contents_of (g.D.Disk.held c.args.disk.now)) c.args.reader.now c.args.page.now.items c.loop.place (sink_side g.O.Sink c.args.out.now c.loop.out) c.loop.failed c.loop.page.items c.loop.invariant.going

pub returns-in_err-more-clause-turned : goal.returns-in_err-more-clause-turned
returns-in_err-more-clause-turned g c =
    let so = c.loop.invariant.going in
    let away = no_record g.D.Disk c.args.reader.now c.loop.place c.args.page.now.items _ c.args.disk.now c.loop.disk c.put_next.new.disk c.loop.invariant.looks so.so c.in_err-more.field-0.0 c.in_err-more.ensures.turned in
    search (rules, away)
