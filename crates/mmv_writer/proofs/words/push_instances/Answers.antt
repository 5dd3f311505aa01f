-- The instances of one domain more.
use Rattle.std.proofs.Common.{◌++◌, ◌∙◌, ap, arith}
use Rattle.std.specs.List.{flat_map}
use Rattle.mmv_writer.specs.Spelling.{domain_offset, instance_words}
use Rattle.mmv_writer.proofs.Missing.{written_more}
use Rattle.mmv_writer.proofs.words.push_instances.Goals as goal

pub loop-row-preserved : goal.loop-row-preserved
loop-row-preserved c =
    written_more (λ row. flat_map (λ instance. instance_words c.args.offsets.now c.args.strings.now (domain_offset c.args.offsets.now c.args.indoms.now row.serial) instance) row.instances)
    c.args.out.now.items c.loop-row.out.items c.push_row.new.out.items c.args.indoms.now c.loop-row.row-index c.row-item.result (omega arith) c.row-item.is c.loop-row.invariant
    (c.in_ok-push_row.ensures ∙ ap (λ rows. c.loop-row.out.items ++ flat_map (λ instance. instance_words c.args.offsets.now c.args.strings.now (domain_offset c.args.offsets.now rows c.row-item.result.serial) instance) c.row-item.result.instances) c.requires.same)
