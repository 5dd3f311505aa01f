-- An archive that is loaded, and what rules tell of its items.
use Rattle.std.proofs.Common.{rules, inl}
use Rattle.archive_loading.proofs.Looking.{looks_on}
use Rattle.archive_loading.specs.Loaded.{IsOver}
use Rattle.pcp_outside.specs.Sides.{sink_side}
use Rattle.rule_watch.specs.Shown.{rules_of}
use Rattle.pm_words.specs.declared.refusal.Refusal.TheVariants.{NoMemory}
use Rattle.pm_words.specs.Sides.{disk_side}
use Rattle.pm_tasks.specs.Archives.{TurnedAway}
use Rattle.pm_tasks.specs.commands.dump.{IsTurnedAway, BadRecord}
use Rattle.pm_tasks.proofs.Asking.{not_loaded, is_loaded, asked_turned, still_over}
use Rattle.pm_tasks.proofs.Watched.{refused_from, said_all, said_some, said_whole, stopped_at_once}
use Rattle.pm_tasks.proofs.commands.watch.watch_archive.Goals as goal

pub returns-in_err-reader-clause-turned : goal.returns-in_err-reader-clause-turned
returns-in_err-reader-clause-turned g c =
    let away = not_loaded g.D.Disk IsTurnedAway (λ f e n. inl n) c.args.disk.now c.load.new.disk c.in_err-reader.field-0.0 c.in_err-reader.ensures.fault c.in_err-reader.ensures.cause in
    search (rules, away)

pub watch_all-requires-clause-over : goal.watch_all-requires-clause-over
watch_all-requires-clause-over g c = λ tells. still_over g.D.Disk (λ files. IsOver files c.in_ok-reader.reader) c.args.disk.now c.load.new.disk c.load.ensures.looks c.in_ok-reader.ensures.loaded tells

pub returns-in_err-watch_all-clause-looks : goal.returns-in_err-watch_all-clause-looks
returns-in_err-watch_all-clause-looks g c = looks_on g.D.Disk c.args.disk.now c.load.new.disk c.watch_all.new.disk c.load.ensures.looks c.watch_all.ensures.looks

pub returns-in_err-watch_all-clause-turned : goal.returns-in_err-watch_all-clause-turned
returns-in_err-watch_all-clause-turned g c =
    let away = asked_turned g.D.Disk BadRecord c.in_ok-reader.reader c.args.disk.now c.load.new.disk c.watch_all.new.disk c.load.ensures.looks
    (λ tells. is_loaded g.D.Disk c.args.disk.now c.load.new.disk c.watch_all.new.disk c.in_ok-reader.reader tells c.in_ok-reader.ensures.loaded c.in_ok-reader.ensures.unwrapped) c.in_err-watch_all.field-0.0 c.in_err-watch_all.ensures.turned in
    refused_from c.from_residual-in_err-watch_all.result c.in_err-watch_all.field-0.0 (TurnedAway IsTurnedAway (disk_side g.D.Disk c.args.disk.now c.watch_all.new.disk)) c.from_residual-in_err-watch_all.ensures.1 away

pub returns-in_err-text-clause-turned : goal.returns-in_err-text-clause-turned
returns-in_err-text-clause-turned g c =
    refused_from c.from_residual-in_err-text.result NoMemory (TurnedAway IsTurnedAway (disk_side g.D.Disk c.args.disk.now c.watch_all.new.disk)) c.from_residual-in_err-text.ensures.1 tt

pub returns-in_err-text-clause-looks : goal.returns-in_err-text-clause-looks
returns-in_err-text-clause-looks g c = looks_on g.D.Disk c.args.disk.now c.load.new.disk c.watch_all.new.disk c.load.ensures.looks c.watch_all.ensures.looks

pub returns-clause-looks : goal.returns-clause-looks
returns-clause-looks g c = looks_on g.D.Disk c.args.disk.now c.load.new.disk c.watch_all.new.disk c.load.ensures.looks c.watch_all.ensures.looks

pub returns-in_err-reader-clause-stops : goal.returns-in_err-reader-clause-stops
returns-in_err-reader-clause-stops g c =
    let stops = stopped_at_once g.O.Sink c.args.out.now c.args.failed.now c.args.from c.args.to c.args.rules (disk_side g.D.Disk c.args.disk.now c.load.new.disk) c.requires in
    search (rules, stops)

pub returns-in_err-watch-clause-stops : goal.returns-in_err-watch-clause-stops
returns-in_err-watch-clause-stops g c =
    let stops = stopped_at_once g.O.Sink c.args.out.now c.args.failed.now c.args.from c.args.to c.args.rules (disk_side g.D.Disk c.args.disk.now c.load.new.disk) c.requires in
    search (rules, stops)

pub returns-in_err-watch_all-clause-stops : goal.returns-in_err-watch_all-clause-stops
returns-in_err-watch_all-clause-stops g c =
    let stops = said_some g.D.Disk c.args.disk.now c.load.new.disk c.watch_all.new.disk c.load.ensures.looks c.in_ok-reader.reader c.args.rules (rules_of c.in_ok-watch.watch) c.in_ok-watch.ensures.rules c.args.from c.args.to
    (sink_side g.O.Sink c.args.out.now c.watch_all.new.out) c.watch_all.new.failed (λ tells. is_loaded g.D.Disk c.args.disk.now c.load.new.disk c.watch_all.new.disk c.in_ok-reader.reader tells c.in_ok-reader.ensures.loaded c.in_ok-reader.ensures.unwrapped) c.in_err-watch_all.ensures.stops in
    search (rules, stops)

pub returns-in_err-text-clause-stops : goal.returns-in_err-text-clause-stops
returns-in_err-text-clause-stops g c =
    let stops = said_all g.D.Disk c.args.disk.now c.load.new.disk c.watch_all.new.disk c.load.ensures.looks c.in_ok-reader.reader c.args.rules (rules_of c.in_ok-watch.watch) c.in_ok-watch.ensures.rules c.args.from c.args.to
    (sink_side g.O.Sink c.args.out.now c.watch_all.new.out) c.watch_all.new.failed c.watch_all.new.told (λ tells. is_loaded g.D.Disk c.args.disk.now c.load.new.disk c.watch_all.new.disk c.in_ok-reader.reader tells c.in_ok-reader.ensures.loaded c.in_ok-reader.ensures.unwrapped) c.in_ok-watch_all.ensures.told in
    search (rules, stops)

pub returns-clause-said : goal.returns-clause-said
returns-clause-said g c =
    said_whole g.D.Disk c.args.disk.now c.load.new.disk c.watch_all.new.disk c.load.ensures.looks c.in_ok-reader.reader c.args.rules (rules_of c.in_ok-watch.watch) c.in_ok-watch.ensures.rules c.args.from c.args.to
    (sink_side g.O.Sink c.args.out.now c.watch_all.new.out) c.watch_all.new.failed c.watch_all.new.told c.in_ok-text.text (λ tells. is_loaded g.D.Disk c.args.disk.now c.load.new.disk c.watch_all.new.disk c.in_ok-reader.reader tells c.in_ok-reader.ensures.loaded c.in_ok-reader.ensures.unwrapped) c.in_ok-watch_all.ensures.told c.in_ok-text.ensures
