use Rattle.std.proofs.Common.{◌∙◌, ◌<◌, ◌≤◌, ℕ, List, subst, arith}
use Rattle.pcp_base.specs.declared.file.FileId.TheVariants.{Volume}
use Rattle.pcp_model.specs.Disk.{contents_of}
use Rattle.archive_loading.specs.Standing.{IsNextRecord, FitsNext}
use Rattle.archive_loading.proofs.Looking.{looks_on}
use Rattle.archive_recovery.proofs.OneVolume.{one_item_more, items_break}
use Rattle.archive_recovery.proofs.counting.read_items.Goals as goal

pub returns-in-Ok-Bad-clause-read : goal.returns-in-Ok-Bad-clause-read
returns-in-Ok-Bad-clause-read g c = λ tells.
    let bytes : List ℕ = contents_of (g.D.Disk.held c.args.disk.now) (Volume c.args.number) in
    let found = subst (λ h. IsNextRecord (contents_of h (Volume c.args.number)) c.loop-at.at c.in-Ok-Bad.field-0) (c.loop-at.invariant.looks.held tells) (c.in-Ok-Bad.ensures.found tells) in
    let bad = subst (IsNextRecord bytes c.loop-at.at) c.in-Ok-Bad.field-0-is found in
    items_break bytes c.loop-at.at c.args.end c.args.tally.now c.loop-at.tally (c.requires.end tells) c.loop-at.invariant.low c.loop-at-test.true (c.loop-at.invariant.so_far tells) bad.0 bad.1

pub returns-in-Ok-Bad-clause-looks : goal.returns-in-Ok-Bad-clause-looks
returns-in-Ok-Bad-clause-looks g c = looks_on g.D.Disk c.args.disk.now c.loop-at.disk c.next_record.new.disk c.loop-at.invariant.looks c.next_record.ensures.looks

pub returns-in-Ok-End-clause-looks : goal.returns-in-Ok-End-clause-looks
returns-in-Ok-End-clause-looks g c = looks_on g.D.Disk c.args.disk.now c.loop-at.disk c.next_record.new.disk c.loop-at.invariant.looks c.next_record.ensures.looks

pub returns-in_err-count-in-Ok-Item-clause-looks : goal.returns-in_err-count-in-Ok-Item-clause-looks
returns-in_err-count-in-Ok-Item-clause-looks g c = looks_on g.D.Disk c.args.disk.now c.loop-at.disk c.next_record.new.disk c.loop-at.invariant.looks c.next_record.ensures.looks

pub loop-at-preserved : goal.loop-at-preserved
loop-at-preserved g c =
    let fits : (c.loop-at.at < c.in-Ok-Item.next) × (c.in-Ok-Item.next ≤ c.args.end) = subst (FitsNext c.args.end c.loop-at.at) c.in-Ok-Item.field-0-is c.in-Ok-Item.ensures.within in
    record {
      looks = looks_on g.D.Disk c.args.disk.now c.loop-at.disk c.next_record.new.disk c.loop-at.invariant.looks c.next_record.ensures.looks;
      quiet = c.in-Ok-Item.ensures.quiet ∙ c.loop-at.invariant.quiet;
      low = omega (arith, c.loop-at.invariant.low, fits.0);
      within = fits.1;
      so_far = λ tells.
          let bytes : List ℕ = contents_of (g.D.Disk.held c.args.disk.now) (Volume c.args.number) in
          let found = subst (λ h. IsNextRecord (contents_of h (Volume c.args.number)) c.loop-at.at c.in-Ok-Item.field-0) (c.loop-at.invariant.looks.held tells) (c.in-Ok-Item.ensures.found tells) in
          one_item_more bytes c.loop-at.at c.in-Ok-Item.next c.in-Ok-Item.item c.args.tally.now c.loop-at.tally c.count.new.self (c.loop-at.invariant.so_far tells) (subst (IsNextRecord bytes c.loop-at.at) c.in-Ok-Item.field-0-is found) c.in_ok-count-in-Ok-Item.ensures;
    }

pub returns-in-Err-clause-looks : goal.returns-in-Err-clause-looks
returns-in-Err-clause-looks g c = looks_on g.D.Disk c.args.disk.now c.loop-at.disk c.next_record.new.disk c.loop-at.invariant.looks c.next_record.ensures.looks
