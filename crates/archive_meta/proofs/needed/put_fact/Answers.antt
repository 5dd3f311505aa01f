use Rattle.std.proofs.Common.{◌≡◌, ◌+◌, [], ◌∷◌, ◌++◌, length, ap, ◌∙◌, subst, arith}
use Rattle.pcp_model.specs.Records.{description, DescriptionInRange}
use Rattle.pcp_model.proofs.Lengths.{length-frame}
use Rattle.pcp_model.proofs.Spelled.{length-description}
use Rattle.archive_meta.proofs.FramedRecords.{framed_out, description_spelled}
use Rattle.archive_meta.proofs.needed.put_fact.Goals as goal

pub returns-then-bytes-gt-MOST-clause-fault : goal.returns-then-bytes-gt-MOST-clause-fault
returns-then-bytes-gt-MOST-clause-fault c =
    let p = description c.args.desc.now (c.args.name.now ∷ []) in
    let long : length p ≡ 28 + (4 + length c.args.name.now + 0) = length-description c.args.desc.now (c.args.name.now ∷ []) in
    (omega (arith, length-frame p, long, c.description_length-bytes.ensures, c.if-bytes-gt-MOST.true), omega (arith, length-frame p, long, c.description_length-bytes.ensures))

pub returns-clause-bytes : goal.returns-clause-bytes
returns-clause-bytes c =
    let p = description c.args.desc.now (c.args.name.now ∷ []) in
    let long : length p ≡ 28 + (4 + length c.args.name.now + 0) = length-description c.args.desc.now (c.args.name.now ∷ []) in
    framed_out c.args.out.now.items p c.put_word.new.out.items c.put_description.new.out.items c.put_word-2.new.out.items c.description_length-bytes.result
    (omega (arith, long, c.description_length-bytes.ensures, c.if-bytes-gt-MOST.false)) c.in_ok-put_word.ensures.bytes
    (c.in_ok-put_description.ensures.bytes ∙ ap (λ ns. c.put_word.new.out.items ++ description c.args.desc.now ns) c.from_ref.ensures.value) c.in_ok-put_word-2.ensures.bytes

pub returns-clause-fits : goal.returns-clause-fits
returns-clause-fits c =
    let p = description c.args.desc.now (c.args.name.now ∷ []) in
    let long : length p ≡ 28 + (4 + length c.args.name.now + 0) = length-description c.args.desc.now (c.args.name.now ∷ []) in
    omega (arith, length-frame p, long, c.description_length-bytes.ensures, c.if-bytes-gt-MOST.false)

pub returns-clause-read : goal.returns-clause-read
returns-clause-read c =
    let p = description c.args.desc.now (c.args.name.now ∷ []) in
    let long : length p ≡ 28 + (4 + length c.args.name.now + 0) = length-description c.args.desc.now (c.args.name.now ∷ []) in
    description_spelled c.args.desc.now c.args.name.now (omega (arith, length-frame p, long, c.description_length-bytes.ensures, c.if-bytes-gt-MOST.false))
    (subst (DescriptionInRange c.args.desc.now) c.from_ref.ensures.value c.in_ok-put_description.ensures.range)
