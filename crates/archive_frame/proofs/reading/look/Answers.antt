use Rattle.std.proofs.Common.{◌≡◌, ◌<◌, ◌≤◌, length, refl, sym, ap, ◌∙◌, subst, arith}
use Rattle.std.specs.Int.{w32, cast_signed, cast_unsigned}
use Rattle.std.proofs.lemmas.Int.{of_z-to_z}
use Rattle.std.proofs.lemmas.List.{length-drop}
use Rattle.archive_frame.specs.Labels.{IsLabelOf, IsWanted, IsNumberField, IsMisfit, IsUpTo, IsTextField}
use Rattle.archive_frame.proofs.Exits.{handed_on}
use Rattle.archive_frame.proofs.Fields.{wanted_wide, word_wide, text_wide}
use Rattle.archive_frame.proofs.Labels.{front_bytes, back_bytes, FromEnd, FromBack, FromZone, FromHost, FromNumber, FromUsec, FromSec, FromPid, some_end, some_back, some_zone, some_host, some_number, some_usec, some_sec, some_pid, at_front, end_misfit}
use Rattle.archive_frame.proofs.Looked.{to_pid, to_sec, to_usec, to_number, to_host, to_zone, to_back, to_end, label_said}
use Rattle.archive_frame.proofs.Misfits.{stop}
use Rattle.archive_frame.proofs.Numbers.{number_wide, some_wanted}
use Rattle.archive_frame.proofs.reading.look.Goals as goal

pub returns-in_err-wanted_at-clause-fault : goal.returns-in_err-wanted_at-clause-fault
returns-in_err-wanted_at-clause-fault c =
    handed_on c.from_residual.result c.in_err-wanted_at.field-0.0 c.in_err-wanted_at.field-0.0 (IsMisfit (IsLabelOf (IsWanted c.args.wanted)) c.args.bytes.now) c.from_residual.ensures.1 refl
    (stop (IsLabelOf (IsWanted c.args.wanted)) c.args.bytes.now (λ t. t ≡ front_bytes) 8 (FromPid (IsWanted c.args.wanted)) 0 (wanted_wide front_bytes) (some_pid (IsWanted c.args.wanted) (some_wanted c.args.wanted)) (at_front (IsWanted c.args.wanted) c.args.bytes.now) c.in_err-wanted_at.field-0.0 c.in_err-wanted_at.ensures.fault)

pub returns-in_err-pid-clause-fault : goal.returns-in_err-pid-clause-fault
returns-in_err-pid-clause-fault c =
    handed_on c.from_residual-in_err-pid.result c.in_err-pid.field-0.0 c.in_err-pid.field-0.0 (IsMisfit (IsLabelOf (IsWanted c.args.wanted)) c.args.bytes.now) c.from_residual-in_err-pid.ensures.1 refl
    (stop (IsLabelOf (IsWanted c.args.wanted)) c.args.bytes.now (IsUpTo 4294967295) 4 (FromSec (IsWanted c.args.wanted)) 8 (word_wide 4294967295) (some_sec (IsWanted c.args.wanted) (some_wanted c.args.wanted)) (to_pid (IsWanted c.args.wanted) c.args.bytes.now c.in_ok-wanted_at.ensures.there) c.in_err-pid.field-0.0 c.in_err-pid.ensures.fault)

pub returns-in_err-sec-clause-fault : goal.returns-in_err-sec-clause-fault
returns-in_err-sec-clause-fault c =
    handed_on c.from_residual-in_err-sec.result c.in_err-sec.field-0.0 c.in_err-sec.field-0.0 (IsMisfit (IsLabelOf (IsWanted c.args.wanted)) c.args.bytes.now) c.from_residual-in_err-sec.ensures.1 refl
    (stop (IsLabelOf (IsWanted c.args.wanted)) c.args.bytes.now (IsUpTo 2147483647) 4 (FromUsec (IsWanted c.args.wanted)) 12 (word_wide 2147483647) (some_usec (IsWanted c.args.wanted) (some_wanted c.args.wanted)) (to_sec (IsWanted c.args.wanted) c.args.bytes.now c.in_ok-pid.pid c.in_ok-wanted_at.ensures.there c.in_ok-pid.ensures.word) c.in_err-sec.field-0.0 c.in_err-sec.ensures.fault)

pub returns-in_err-usec-clause-fault : goal.returns-in_err-usec-clause-fault
returns-in_err-usec-clause-fault c =
    handed_on c.from_residual-in_err-usec.result c.in_err-usec.field-0.0 c.in_err-usec.field-0.0 (IsMisfit (IsLabelOf (IsWanted c.args.wanted)) c.args.bytes.now) c.from_residual-in_err-usec.ensures.1 refl
    (stop (IsLabelOf (IsWanted c.args.wanted)) c.args.bytes.now (IsUpTo 999999) 4 (FromNumber (IsWanted c.args.wanted)) 16 (word_wide 999999) (some_number (IsWanted c.args.wanted) (some_wanted c.args.wanted)) (to_usec (IsWanted c.args.wanted) c.args.bytes.now c.in_ok-pid.pid c.in_ok-sec.sec c.in_ok-wanted_at.ensures.there c.in_ok-pid.ensures.word c.in_ok-sec.ensures.word) c.in_err-usec.field-0.0 c.in_err-usec.ensures.fault)

pub returns-in_err-number-clause-fault : goal.returns-in_err-number-clause-fault
returns-in_err-number-clause-fault c =
    handed_on c.from_residual-in_err-number.result c.in_err-number.field-0.0 c.in_err-number.field-0.0 (IsMisfit (IsLabelOf (IsWanted c.args.wanted)) c.args.bytes.now) c.from_residual-in_err-number.ensures.1 refl
    (stop (IsLabelOf (IsWanted c.args.wanted)) c.args.bytes.now (IsNumberField (IsWanted c.args.wanted)) 4 FromHost 20 (number_wide (IsWanted c.args.wanted)) some_host (to_number (IsWanted c.args.wanted) c.args.bytes.now c.in_ok-pid.pid c.in_ok-sec.sec c.in_ok-usec.usec c.in_ok-wanted_at.ensures.there c.in_ok-pid.ensures.word c.in_ok-sec.ensures.word c.in_ok-usec.ensures.word) c.in_err-number.field-0.0 c.in_err-number.ensures.fault)

pub returns-in_err-host-clause-fault : goal.returns-in_err-host-clause-fault
returns-in_err-host-clause-fault c =
    handed_on c.from_residual-in_err-host.result c.in_err-host.field-0.0 c.in_err-host.field-0.0 (IsMisfit (IsLabelOf (IsWanted c.args.wanted)) c.args.bytes.now) c.from_residual-in_err-host.ensures.1 refl
    (stop (IsLabelOf (IsWanted c.args.wanted)) c.args.bytes.now (IsTextField 64) 64 FromZone 24 (text_wide 64) some_zone (to_host (IsWanted c.args.wanted) c.args.bytes.now c.in_ok-pid.pid c.in_ok-sec.sec c.in_ok-usec.usec c.in_ok-number.number c.in_ok-wanted_at.ensures.there c.in_ok-pid.ensures.word c.in_ok-sec.ensures.word c.in_ok-usec.ensures.word c.in_ok-number.ensures.number) c.in_err-host.field-0.0 c.in_err-host.ensures.fault)

pub returns-in_err-zone-clause-fault : goal.returns-in_err-zone-clause-fault
returns-in_err-zone-clause-fault c =
    handed_on c.from_residual-in_err-zone.result c.in_err-zone.field-0.0 c.in_err-zone.field-0.0 (IsMisfit (IsLabelOf (IsWanted c.args.wanted)) c.args.bytes.now) c.from_residual-in_err-zone.ensures.1 refl
    (stop (IsLabelOf (IsWanted c.args.wanted)) c.args.bytes.now (IsTextField 40) 40 FromBack 88 (text_wide 40) some_back (to_zone (IsWanted c.args.wanted) c.args.bytes.now c.in_ok-pid.pid c.in_ok-sec.sec c.in_ok-usec.usec c.in_ok-number.number c.in_ok-host.host c.in_ok-wanted_at.ensures.there c.in_ok-pid.ensures.word c.in_ok-sec.ensures.word c.in_ok-usec.ensures.word c.in_ok-number.ensures.number c.in_ok-host.ensures.text) c.in_err-zone.field-0.0 c.in_err-zone.ensures.fault)

pub returns-in_err-wanted_at-2-clause-fault : goal.returns-in_err-wanted_at-2-clause-fault
returns-in_err-wanted_at-2-clause-fault c =
    handed_on c.from_residual-in_err-wanted_at-2.result c.in_err-wanted_at-2.field-0.0 c.in_err-wanted_at-2.field-0.0 (IsMisfit (IsLabelOf (IsWanted c.args.wanted)) c.args.bytes.now) c.from_residual-in_err-wanted_at-2.ensures.1 refl
    (stop (IsLabelOf (IsWanted c.args.wanted)) c.args.bytes.now (λ t. t ≡ back_bytes) 4 FromEnd 128 (wanted_wide back_bytes) some_end (to_back (IsWanted c.args.wanted) c.args.bytes.now c.in_ok-pid.pid c.in_ok-sec.sec c.in_ok-usec.usec c.in_ok-number.number c.in_ok-host.host c.in_ok-zone.zone c.in_ok-wanted_at.ensures.there c.in_ok-pid.ensures.word c.in_ok-sec.ensures.word c.in_ok-usec.ensures.word c.in_ok-number.ensures.number c.in_ok-host.ensures.text c.in_ok-zone.ensures.text) c.in_err-wanted_at-2.field-0.0 c.in_err-wanted_at-2.ensures.fault)

pub returns-then-bytes-gt-LABEL-clause-fault : goal.returns-then-bytes-gt-LABEL-clause-fault
returns-then-bytes-gt-LABEL-clause-fault c =
    subst (IsMisfit (IsLabelOf (IsWanted c.args.wanted)) c.args.bytes.now) (sym c.misfit.ensures)
    (to_end (IsWanted c.args.wanted) c.args.bytes.now c.in_ok-pid.pid c.in_ok-sec.sec c.in_ok-usec.usec c.in_ok-number.number c.in_ok-host.host c.in_ok-zone.zone c.in_ok-wanted_at.ensures.there c.in_ok-pid.ensures.word c.in_ok-sec.ensures.word c.in_ok-usec.ensures.word c.in_ok-number.ensures.number c.in_ok-host.ensures.text c.in_ok-zone.ensures.text c.in_ok-wanted_at-2.ensures.there 0 (end_misfit _ (omega (arith, length-drop 132 c.args.bytes.now))))

pub returns-clause-label : goal.returns-clause-label
returns-clause-label c =
    let low : c.in_ok-number.number < 4294967296 = c.in_ok-number.ensures.number.1 in (
      c.in_ok-host.ensures.text.1,
      c.in_ok-zone.ensures.text.1,
      (let there : 132 ≤ length c.args.bytes.now = c.in_ok-wanted_at-2.ensures.there.0 in omega arith),
      label_said (IsWanted c.args.wanted) c.args.bytes.now c.in_ok-pid.pid c.in_ok-sec.sec c.in_ok-usec.usec c.in_ok-number.number c.in_ok-host.host c.in_ok-zone.zone c.in-Some.start _ c.in_ok-wanted_at.ensures.there
          c.in_ok-pid.ensures.word c.in_ok-sec.ensures.word c.in_ok-usec.ensures.word c.in_ok-number.ensures.number c.in_ok-host.ensures.text c.in_ok-zone.ensures.text c.in_ok-wanted_at-2.ensures.there (omega arith)
          c.in-Some.ensures.1 (ap (λ z. cast_signed w32 (cast_unsigned w32 z)) c.cast_signed.ensures ∙ ap (cast_signed w32) (of_z-to_z w32 c.in_ok-number.number low)),
    )

pub returns-clause-number : goal.returns-clause-number
returns-clause-number c =
    let low : c.in_ok-number.number < 4294967296 = c.in_ok-number.ensures.number.1 in
    subst (IsWanted c.args.wanted) (sym (ap (λ z. cast_signed w32 (cast_unsigned w32 z)) c.cast_signed.ensures ∙ ap (cast_signed w32) (of_z-to_z w32 c.in_ok-number.number low))) c.in_ok-number.ensures.number.2
