-- The items that were read and watched, one behind another, are those of the archive.
use Rattle.std.proofs.Common.{rules, true, false, sym, subst, ◌∙◌, refl}
use Rattle.pcp_model.specs.Disk.{contents_of}
use Rattle.archive_loading.proofs.Looking.{looks_none, looks_on}
use Rattle.archive_loading.specs.Loaded.{IsOver}
use Rattle.rule_watch.specs.Shown.{rules_of}
use Rattle.pm_tasks.specs.Archives.{TurnedAway}
use Rattle.pcp_outside.specs.Sides.{sink_side}
use Rattle.pm_words.specs.Sides.{disk_side}
use Rattle.pm_tasks.specs.commands.dump.{BadNext}
use Rattle.pm_tasks.proofs.Watched.{going_begins, going_ends, going_on, going_stops, step_here, walk_stops}
use Rattle.pm_tasks.proofs.Asking.{still_over}
use Rattle.pm_tasks.proofs.commands.watch.watch_all.Goals as goal

pub loop-init : goal.loop-init
loop-init g c = record {
  looks = looks_none g.D.Disk g.met.D.Disk.only_now c.args.disk.now;
  quiet = refl;
  same = refl;
  going = going_begins g.O.Sink g.D.Disk.tells (contents_of (g.D.Disk.held c.args.disk.now)) c.args.reader.now (rules_of c.args.watch.now) c.args.from c.args.to c.start-place.result c.args.watch.now c.args.told.now c.args.out.now
      c.args.failed.now c.requires.fresh c.start-place.ensures.volume c.start-place.ensures.offset c.requires.shows refl c.requires.text c.requires.count;
}

pub watch_next-requires : goal.watch_next-requires
watch_next-requires g c = λ tells.
    subst (IsOver (contents_of (g.D.Disk.held c.loop.disk))) (sym c.loop.invariant.same)
    (still_over g.D.Disk (λ files. IsOver files c.args.reader.now) c.args.disk.now c.loop.disk c.loop.invariant.looks c.requires.over tells)

pub loop-preserved : goal.loop-preserved
loop-preserved g c = record {
  looks = looks_on g.D.Disk c.args.disk.now c.loop.disk c.watch_next.new.disk c.loop.invariant.looks c.watch_next.ensures.looks;
  quiet = c.in_ok-more.ensures.quiet ∙ c.loop.invariant.quiet;
  same = c.watch_next.ensures.same ∙ c.loop.invariant.same;
  going = going_on g.O.Sink g.D.Disk.tells (contents_of (g.D.Disk.held c.args.disk.now)) c.args.reader.now (rules_of c.args.watch.now) c.args.from c.args.to c.loop.place c.watch_next.new.place c.loop.watch c.watch_next.new.watch
      c.args.out.now c.loop.out c.turn_page.new.out c.loop.failed c.turn_page.new.failed c.loop.told c.watch_next.new.told (record { text = c.turn_page.new.page; count = c.watch_next.new.told.count }) c.loop.invariant.going
      (λ tells. step_here g.D.Disk c.args.disk.now c.loop.disk c.loop.invariant.looks tells c.args.reader.now c.loop.reader c.loop.invariant.same c.loop.place c.watch_next.new.place c.args.from c.args.to c.loop.watch c.watch_next.new.watch
      c.loop.told c.watch_next.new.told c.in_ok-more.more true c.if-not-more.false (c.in_ok-more.ensures.told tells))
      c.turn_page.ensures refl;
}

pub returns-then-not-more-clause-told : goal.returns-then-not-more-clause-told
returns-then-not-more-clause-told g c =
    going_ends g.O.Sink g.D.Disk.tells (contents_of (g.D.Disk.held c.args.disk.now)) c.args.reader.now (rules_of c.args.watch.now) c.args.from c.args.to c.loop.place c.watch_next.new.place c.loop.watch c.watch_next.new.watch
    (sink_side g.O.Sink c.args.out.now c.loop.out) c.loop.failed c.loop.told c.watch_next.new.told c.loop.invariant.going
    (λ tells. step_here g.D.Disk c.args.disk.now c.loop.disk c.loop.invariant.looks tells c.args.reader.now c.loop.reader c.loop.invariant.same c.loop.place c.watch_next.new.place c.args.from c.args.to c.loop.watch c.watch_next.new.watch
    c.loop.told c.watch_next.new.told c.in_ok-more.more false c.if-not-more.true (c.in_ok-more.ensures.told tells))

pub returns-then-not-more-clause-looks : goal.returns-then-not-more-clause-looks
returns-then-not-more-clause-looks g c = looks_on g.D.Disk c.args.disk.now c.loop.disk c.watch_next.new.disk c.loop.invariant.looks c.watch_next.ensures.looks

pub returns-in_err-more-clause-looks : goal.returns-in_err-more-clause-looks
returns-in_err-more-clause-looks g c = looks_on g.D.Disk c.args.disk.now c.loop.disk c.watch_next.new.disk c.loop.invariant.looks c.watch_next.ensures.looks

pub returns-in_err-more-clause-stops : goal.returns-in_err-more-clause-stops
returns-in_err-more-clause-stops g c =
    let stops = going_stops g.O.Sink g.D.Disk.tells (contents_of (g.D.Disk.held c.args.disk.now)) c.args.reader.now (rules_of c.args.watch.now) c.args.from c.args.to c.loop.place c.loop.watch (sink_side g.O.Sink c.args.out.now c.loop.out)
    c.loop.failed c.loop.told c.loop.invariant.going in
    search (rules, stops)

pub returns-clause-stops : goal.returns-clause-stops
returns-clause-stops g c =
    going_stops g.O.Sink g.D.Disk.tells (contents_of (g.D.Disk.held c.args.disk.now)) c.args.reader.now (rules_of c.args.watch.now) c.args.from c.args.to c.loop.place c.loop.watch (sink_side g.O.Sink c.args.out.now c.loop.out) c.loop.failed
    c.loop.told c.loop.invariant.going

pub returns-in_err-more-clause-turned : goal.returns-in_err-more-clause-turned
returns-in_err-more-clause-turned g c =
    let going = c.loop.invariant.going in
    let away = walk_stops g.D.Disk c.args.reader.now (rules_of c.args.watch.now) c.args.from c.args.to c.loop.place c.loop.watch going.front c.loop.told c.args.disk.now c.loop.disk c.watch_next.new.disk c.loop.invariant.looks going.walking
    c.in_err-more.field-0.0 (subst (λ r. TurnedAway (BadNext r c.loop.place) (disk_side g.D.Disk c.loop.disk c.watch_next.new.disk) c.in_err-more.field-0.0) c.loop.invariant.same c.in_err-more.ensures.turned) in
    search (rules, away)
