-- A source is checked, loaded and opened, or turned back.
use Rattle.std.proofs.Common.{◌∙◌, sym, subst, rules}
use Rattle.pcp_model.specs.Disk.{Holdings, contents_of}
use Rattle.archive_check.specs.declared.fault.CheckFault.TheVariants.{Reader}
use Rattle.archive_loading.specs.Loaded.{IsOver}
use Rattle.archive_loading.specs.Looks.{Looks}
use Rattle.archive_loading.proofs.Looking.{looks_none, looks_on}
use Rattle.archive_reader.proofs.Finds.{readable_stands}
use Rattle.log_extract.specs.Sources.{IsTurnedBack}
use Rattle.log_extract.proofs.Opening.{not_begun, not_loaded, opened, ready}
use Rattle.log_extract.proofs.extracting.open_source.Goals as goal

pub returns-in_err-check-clause-back : goal.returns-in_err-check-clause-back
returns-in_err-check-clause-back g c =
    let why : IsTurnedBack g.D.Disk c.args.disk.now c.check.new.disk c.in_err-check.field-0.0 = record { why = c.in_err-check.ensures.fault; blamed = c.in_err-check.ensures.cause } in
    search (rules, why)

pub returns-in_err-reader-clause-back : goal.returns-in_err-reader-clause-back
returns-in_err-reader-clause-back g c =
    let why : IsTurnedBack g.D.Disk c.args.disk.now c.load.new.disk (Reader c.in_err-reader.field-0.0) =
    not_loaded g.D.Disk c.args.disk.now c.check.new.disk c.load.new.disk c.in_err-reader.field-0.0 c.check.ensures.looks c.in_ok-check.ensures.quiet c.in_err-reader.ensures.fault c.in_err-reader.ensures.cause in
    search (rules, why)

pub returns-in_err-reader-clause-looks : goal.returns-in_err-reader-clause-looks
returns-in_err-reader-clause-looks g c = looks_on g.D.Disk c.args.disk.now c.check.new.disk c.load.new.disk c.check.ensures.looks c.load.ensures.looks

pub at_first-requires-clause-over : goal.at_first-requires-clause-over
at_first-requires-clause-over g c = λ tells. subst (λ (h : Holdings). IsOver (contents_of h) c.in_ok-reader.reader) (sym (c.load.ensures.looks.held tells)) (c.in_ok-reader.ensures.loaded tells)

pub at_first-requires-clause-ready : goal.at_first-requires-clause-ready
at_first-requires-clause-ready g c = λ tells.
    let looks : Looks g.D.Disk c.args.disk.now c.load.new.disk = looks_on g.D.Disk c.args.disk.now c.check.new.disk c.load.new.disk c.check.ensures.looks c.load.ensures.looks in
    let over = subst (λ (h : Holdings). IsOver (contents_of h) c.in_ok-reader.reader) (sym (c.load.ensures.looks.held tells)) (c.in_ok-reader.ensures.loaded tells) in
    ready g.D.Disk c.args.disk.now c.load.new.disk c.in_ok-reader.reader c.in_ok-check.field-0 readable_stands looks tells (c.in_ok-check.ensures.sound tells) over

pub returns-in_err-cursor-clause-back : goal.returns-in_err-cursor-clause-back
returns-in_err-cursor-clause-back g c =
    let why : IsTurnedBack g.D.Disk c.args.disk.now c.at_first.new.disk (Reader c.in_err-cursor.field-0.0) =
    not_begun g.D.Disk c.args.disk.now c.load.new.disk c.at_first.new.disk c.in_err-cursor.field-0.0 (c.in_ok-reader.ensures.quiet ∙ c.in_ok-check.ensures.quiet) c.in_err-cursor.ensures.broken in
    search (rules, why)

pub returns-in_err-cursor-clause-looks : goal.returns-in_err-cursor-clause-looks
returns-in_err-cursor-clause-looks g c =
    looks_on g.D.Disk c.args.disk.now c.load.new.disk c.at_first.new.disk (looks_on g.D.Disk c.args.disk.now c.check.new.disk c.load.new.disk c.check.ensures.looks c.load.ensures.looks) c.at_first.ensures.looks

pub returns-clause-opens : goal.returns-clause-opens
returns-clause-opens g c = λ tells.
    let looks : Looks g.D.Disk c.args.disk.now c.load.new.disk = looks_on g.D.Disk c.args.disk.now c.check.new.disk c.load.new.disk c.check.ensures.looks c.load.ensures.looks in
    let over = subst (λ (h : Holdings). IsOver (contents_of h) c.in_ok-reader.reader) (sym (c.load.ensures.looks.held tells)) (c.in_ok-reader.ensures.loaded tells) in
    opened g.D.Disk c.args.disk.now c.load.new.disk c.in_ok-reader.reader c.in_ok-check.field-0 readable_stands looks tells (c.in_ok-check.ensures.sound tells) over
    c.load.new.disk c.in_ok-cursor.cursor (looks_none g.D.Disk g.met.D.Disk.only_now c.load.new.disk) (c.in_ok-check.ensures.unwrapped tells) c.in_ok-cursor.ensures.same (c.in_ok-cursor.ensures.leaves tells)

pub returns-clause-looks : goal.returns-clause-looks
returns-clause-looks g c =
    looks_on g.D.Disk c.args.disk.now c.load.new.disk c.at_first.new.disk (looks_on g.D.Disk c.args.disk.now c.check.new.disk c.load.new.disk c.check.ensures.looks c.load.ensures.looks) c.at_first.ensures.looks

pub returns-clause-quiet : goal.returns-clause-quiet
returns-clause-quiet g c = c.in_ok-cursor.ensures.quiet ∙ c.in_ok-reader.ensures.quiet ∙ c.in_ok-check.ensures.quiet
