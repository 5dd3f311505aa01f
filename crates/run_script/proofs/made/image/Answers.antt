-- The text is read as the image of its layout.
use Rattle.std.proofs.Common.{◌++◌, Err, ap, subst, ◌∙◌}
use Rattle.mmv_writer.specs.Reading.{text_image, Answers}
use Rattle.run_script.proofs.Texts.{text_reads, joined, only_image, no_fault}
use Rattle.run_script.proofs.made.image.Goals as goal

pub returns-in-Ok : goal.returns-in-Ok
returns-in-Ok c = only_image c.deref.result.now c.in-Ok.image c.in-Ok.ensures (ap text_image (
    c.deref.ensures.value
    ∙ joined _ _ _ _ _ c.in_ok-text.ensures.items c.in_ok-push.ensures.items c.in_ok-extend_from_slice.ensures.items
    (c.in_ok-extend_from_slice-2.ensures.items ∙ ap (λ l. c.extend_from_slice.new.self.items ++ l) c.when.ensures)
    c.in_ok-extend_from_slice-3.ensures.items
    (c.in_ok-extend_from_slice-4.ensures.items ∙ ap (λ l. c.extend_from_slice-3.new.self.items ++ l) c.when-2.ensures)) ∙ text_reads c.args.cluster c.args.late c.requires.low c.requires.high)

pub unreachable-requires : goal.unreachable-requires
unreachable-requires c = no_fault c.deref.result.now c.in-Err-Fault.field-0-0 (subst (Answers (text_image c.deref.result.now)) (ap Err c.in-Err-Fault.field-0-is) (subst (Answers (text_image c.deref.result.now)) c.in-Err-Fault.is c.read_text.ensures)) (ap text_image (
    c.deref.ensures.value
    ∙ joined _ _ _ _ _ c.in_ok-text.ensures.items c.in_ok-push.ensures.items c.in_ok-extend_from_slice.ensures.items
    (c.in_ok-extend_from_slice-2.ensures.items ∙ ap (λ l. c.extend_from_slice.new.self.items ++ l) c.when.ensures)
    c.in_ok-extend_from_slice-3.ensures.items
    (c.in_ok-extend_from_slice-4.ensures.items ∙ ap (λ l. c.extend_from_slice-3.new.self.items ++ l) c.when-2.ensures)) ∙ text_reads c.args.cluster c.args.late c.requires.low c.requires.high)
