use Rattle.std.proofs.Common.{◌∙◌, ap, subst, arith}
use Rattle.pcp_base.specs.Texts.{IsText}
use Rattle.pcp_base.specs.Time.{IsMoment}
use Rattle.std.specs.Int.{w32, cast_unsigned}
use Rattle.std.proofs.lemmas.Int.{to_z-of_z}
use Rattle.archive_frame.proofs.Filling.{label_written}
use Rattle.archive_frame.proofs.writing.label_bytes.Goals as goal

pub returns-clause-bytes : goal.returns-clause-bytes
returns-clause-bytes c =
    label_written c.args.label.now c.args.volume _ _ _ _ _ _ _ _ _ _ _ _ _ _ _ c.host.ensures.fits
    c.pid.ensures
    (c.sec.ensures.value ∙ ap (λ t. t.sec) c.start.ensures)
    (c.usec.ensures.value ∙ ap (λ t. t.usec) c.start-2.ensures)
    (c.cast_unsigned.ensures ∙ ap (cast_unsigned w32) (to_z-of_z w32 c.args.volume c.ranges.volume))
    (c.as_slice.ensures.value ∙ c.host.ensures.value)
    (c.as_slice-2.ensures.value ∙ c.zone.ensures.value)
    c.put_word.ensures
    c.put_word-2.ensures
    c.put_word-3.ensures
    c.put_word-4.ensures
    c.put_word-5.ensures
    c.put_word-6.ensures
    c.put.ensures
    c.put-2.ensures
    c.put_word-7.ensures

pub returns-clause-range : goal.returns-clause-range
returns-clause-range c = record {
  pid = omega (arith, c.pid.ensures);
  start = subst (λ t. IsMoment t) c.start.ensures c.sec.ensures.range;
  host = subst IsText c.host.ensures.value c.as_slice.ensures.text;
  zone = subst IsText c.zone.ensures.value c.as_slice-2.ensures.text;
  fits = c.host.ensures.fits;
  signed = c.ranges.volume;
}
