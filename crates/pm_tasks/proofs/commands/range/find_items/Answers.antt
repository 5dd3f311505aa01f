-- The items that a search answers.
use Rattle.std.proofs.Common.{rules, inl, ap, subst, ◌∙◌}
use Rattle.pcp_model.specs.Disk.{Holdings, contents_of}
use Rattle.archive_loading.proofs.Looking.{looks_on}
use Rattle.archive_loading.specs.Loaded.{Loaded, IsOver}
use Rattle.archive_reader.specs.Asked.{range_begin, IsRangeFrom}
use Rattle.pm_print.specs.Items.{items_text}
use Rattle.pm_words.specs.Refusals.{reader_refusal}
use Rattle.pm_words.specs.Sides.{disk_side}
use Rattle.pm_tasks.specs.Archives.{TurnedAway}
use Rattle.pm_tasks.specs.commands.range.{IsTurnedAway, IsStopped}
use Rattle.pm_tasks.proofs.Asking.{not_loaded, is_loaded, asked_turned, still_over}
use Rattle.archive_reader.specs.Takes.{TakesRange}
use Rattle.pm_tasks.proofs.Taken.{took_labels, took_range}
use Rattle.pm_tasks.proofs.Timed.{range_stops, range_scan}
use Rattle.pm_tasks.proofs.commands.range.find_items.Goals as goal

pub returns-in_err-reader-clause-turned : goal.returns-in_err-reader-clause-turned
returns-in_err-reader-clause-turned g c =
    let away = not_loaded g.D.Disk (IsTurnedAway c.args.from c.args.to) (λ f e n. inl n) c.args.disk.now c.load.new.disk c.in_err-reader.field-0.0 c.in_err-reader.ensures.fault c.in_err-reader.ensures.cause in
    search (rules, away)

pub range-requires : goal.range-requires
range-requires g c = λ tells. still_over g.D.Disk (λ files. IsOver files c.in_ok-reader.reader) c.args.disk.now c.load.new.disk c.load.ensures.looks c.in_ok-reader.ensures.loaded tells

pub returns-in_err-items-clause-turned : goal.returns-in_err-items-clause-turned
returns-in_err-items-clause-turned g c =
    let r : Loaded = c.in_ok-reader.reader in
    let away : TurnedAway (IsTurnedAway c.args.from c.args.to) (disk_side g.D.Disk c.args.disk.now c.range.new.disk) (reader_refusal c.in_err-items.field-0.0) =
    asked_turned g.D.Disk (IsStopped c.args.from c.args.to) r c.args.disk.now c.load.new.disk c.range.new.disk c.load.ensures.looks (λ tells. is_loaded g.D.Disk c.args.disk.now c.load.new.disk c.range.new.disk r tells c.in_ok-reader.ensures.loaded c.in_ok-reader.ensures.unwrapped)
    (reader_refusal c.in_err-items.field-0.0) (range_stops g.D.Disk r c.load.new.disk c.range.new.disk c.args.from c.args.to c.in_err-items.field-0.0 c.in_err-items.ensures.fault c.in_err-items.ensures.cause) in
    search (rules, away)

pub returns-in_err-items-clause-looks : goal.returns-in_err-items-clause-looks
returns-in_err-items-clause-looks g c = looks_on g.D.Disk c.args.disk.now c.load.new.disk c.range.new.disk c.load.ensures.looks c.range.ensures.looks

pub returns-in_err-text-clause-looks : goal.returns-in_err-text-clause-looks
returns-in_err-text-clause-looks g c = looks_on g.D.Disk c.args.disk.now c.load.new.disk c.range.new.disk c.load.ensures.looks c.range.ensures.looks

pub returns-clause-looks : goal.returns-clause-looks
returns-clause-looks g c = looks_on g.D.Disk c.args.disk.now c.load.new.disk c.range.new.disk c.load.ensures.looks c.range.ensures.looks

pub returns-clause-said : goal.returns-clause-said
returns-clause-said g c = λ tells.
    let r : Loaded = c.in_ok-reader.reader in
    let is = subst (λ (h : Holdings). IsRangeFrom (contents_of h) r.volumes c.args.from c.args.to (range_begin r c.args.from) c.in_ok-items.items) (c.load.ensures.looks.held tells) (c.in_ok-items.ensures.found tells) in (
      r,
      is_loaded g.D.Disk c.args.disk.now c.load.new.disk c.range.new.disk r tells c.in_ok-reader.ensures.loaded c.in_ok-reader.ensures.unwrapped,
      c.in_ok-items.items,
      is,
      range_scan c.args.from c.args.to (record { files = contents_of (g.D.Disk.held c.args.disk.now); wrapped = g.D.Disk.wrapped_file c.args.disk.now }) r c.in_ok-items.items (c.in_ok-reader.ensures.loaded tells) is,
      c.in_ok-text.ensures ∙ ap (λ items. items_text c.meta.result.now items) c.as_slice.ensures ∙ ap (λ records. items_text records c.in_ok-items.items) (c.meta.ensures ∙ ap (λ (s : Loaded). s.records) c.range.ensures.same),
    )

pub returns-in_err-reader-clause-taken : goal.returns-in_err-reader-clause-taken
returns-in_err-reader-clause-taken g c = took_labels g.D.Disk c.args.disk.now c.load.new.disk c.load.new.disk (λ r. TakesRange (contents_of (g.D.Disk.held c.args.disk.now)) r.volumes c.args.to (range_begin r c.args.from)) c.load.ensures.taken

pub returns-in_err-items-clause-taken : goal.returns-in_err-items-clause-taken
returns-in_err-items-clause-taken g c = took_range g.D.Disk c.args.disk.now c.load.new.disk c.range.new.disk c.args.from c.args.to c.in_ok-reader.reader c.load.ensures.looks c.in_ok-reader.ensures.loaded c.load.ensures.taken c.range.ensures.taken

pub returns-in_err-text-clause-taken : goal.returns-in_err-text-clause-taken
returns-in_err-text-clause-taken g c = took_range g.D.Disk c.args.disk.now c.load.new.disk c.range.new.disk c.args.from c.args.to c.in_ok-reader.reader c.load.ensures.looks c.in_ok-reader.ensures.loaded c.load.ensures.taken c.range.ensures.taken

pub returns-clause-taken : goal.returns-clause-taken
returns-clause-taken g c = took_range g.D.Disk c.args.disk.now c.load.new.disk c.range.new.disk c.args.from c.args.to c.in_ok-reader.reader c.load.ensures.looks c.in_ok-reader.ensures.loaded c.load.ensures.taken c.range.ensures.taken
