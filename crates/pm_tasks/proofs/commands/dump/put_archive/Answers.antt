-- An archive that is loaded, and its items.
use Rattle.std.proofs.Common.{rules, inl, ◌++◌, ap, ◌∙◌}
use Rattle.archive_loading.proofs.Looking.{looks_on}
use Rattle.archive_loading.specs.Loaded.{Loaded, IsOver}
use Rattle.pcp_outside.specs.Sides.{SinkSide, sink_side}
use Rattle.pm_words.specs.Sides.{disk_side}
use Rattle.pm_tasks.specs.commands.dump.{label_line, IsTurnedAway, BadRecord}
use Rattle.pm_tasks.proofs.Asking.{not_loaded, is_loaded, asked_turned, still_over}
use Rattle.pm_tasks.proofs.Dumped.{stopped_at_once, said_whole, said_some}
use Rattle.pm_tasks.proofs.commands.dump.put_archive.Goals as goal

pub returns-in_err-reader-clause-turned : goal.returns-in_err-reader-clause-turned
returns-in_err-reader-clause-turned g c =
    let away = not_loaded g.D.Disk IsTurnedAway (λ f e n. inl n) c.args.disk.now c.load.new.disk c.in_err-reader.field-0.0 c.in_err-reader.ensures.fault c.in_err-reader.ensures.cause in
    search (rules, away)

pub returns-in_err-reader-clause-stops : goal.returns-in_err-reader-clause-stops
returns-in_err-reader-clause-stops g c =
    let stops = stopped_at_once g.O.Sink c.args.out.now c.args.failed.now (disk_side g.D.Disk c.args.disk.now c.load.new.disk) c.requires in
    search (rules, stops)

pub returns-in_err-put_head-clause-stops : goal.returns-in_err-put_head-clause-stops
returns-in_err-put_head-clause-stops g c =
    let stops = stopped_at_once g.O.Sink c.args.out.now c.args.failed.now (disk_side g.D.Disk c.args.disk.now c.load.new.disk) c.requires in
    search (rules, stops)

pub put_items-requires-clause-over : goal.put_items-requires-clause-over
put_items-requires-clause-over g c = λ tells. still_over g.D.Disk (λ files. IsOver files c.in_ok-reader.reader) c.args.disk.now c.load.new.disk c.load.ensures.looks c.in_ok-reader.ensures.loaded tells

pub returns-in_err-put_items-clause-looks : goal.returns-in_err-put_items-clause-looks
returns-in_err-put_items-clause-looks g c = looks_on g.D.Disk c.args.disk.now c.load.new.disk c.put_items.new.disk c.load.ensures.looks c.put_items.ensures.looks

pub returns-in_err-put_items-clause-turned : goal.returns-in_err-put_items-clause-turned
returns-in_err-put_items-clause-turned g c =
    let away = asked_turned g.D.Disk BadRecord c.in_ok-reader.reader c.args.disk.now c.load.new.disk c.put_items.new.disk c.load.ensures.looks
    (λ tells. is_loaded g.D.Disk c.args.disk.now c.load.new.disk c.put_items.new.disk c.in_ok-reader.reader tells c.in_ok-reader.ensures.loaded c.in_ok-reader.ensures.unwrapped) c.in_err-put_items.field-0.0 c.in_err-put_items.ensures.turned in
    search (rules, away)

pub returns-in_err-put_items-clause-stops : goal.returns-in_err-put_items-clause-stops
returns-in_err-put_items-clause-stops g c =
    let r : Loaded = c.in_ok-reader.reader in
    let k : SinkSide = sink_side g.O.Sink c.args.out.now c.put_items.new.out in
    let stops = said_some g.D.Disk c.args.disk.now c.load.new.disk c.put_items.new.disk c.load.ensures.looks r k c.put_items.new.failed c.put_head.new.out.items (c.in_ok-put_head.ensures ∙ ap (λ t. t ++ label_line r.label) c.new-page.ensures.items)
    (λ tells. is_loaded g.D.Disk c.args.disk.now c.load.new.disk c.put_items.new.disk r tells c.in_ok-reader.ensures.loaded c.in_ok-reader.ensures.unwrapped) c.in_err-put_items.ensures.stops in
    search (rules, stops)

pub returns-clause-looks : goal.returns-clause-looks
returns-clause-looks g c = looks_on g.D.Disk c.args.disk.now c.load.new.disk c.put_items.new.disk c.load.ensures.looks c.put_items.ensures.looks

pub returns-clause-said : goal.returns-clause-said
returns-clause-said g c =
    let r : Loaded = c.in_ok-reader.reader in
    let k : SinkSide = sink_side g.O.Sink c.args.out.now c.put_items.new.out in
    said_whole g.D.Disk c.args.disk.now c.load.new.disk c.put_items.new.disk c.load.ensures.looks r k c.put_items.new.failed c.put_head.new.out.items c.put_items.new.page.items c.from_vec.result
    (c.in_ok-put_head.ensures ∙ ap (λ t. t ++ label_line r.label) c.new-page.ensures.items) c.from_vec.ensures
    (λ tells. is_loaded g.D.Disk c.args.disk.now c.load.new.disk c.put_items.new.disk r tells c.in_ok-reader.ensures.loaded c.in_ok-reader.ensures.unwrapped) c.in_ok-put_items.ensures.put
