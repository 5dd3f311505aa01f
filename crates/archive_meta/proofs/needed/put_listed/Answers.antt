use Rattle.std.proofs.Common.{arith}
use Rattle.pcp_model.specs.Records.{domain}
use Rattle.pcp_model.proofs.Lengths.{length-frame}
use Rattle.pcp_model.proofs.Spelled.{length-domain}
use Rattle.archive_meta.proofs.FramedRecords.{framed_out, domain_spelled}
use Rattle.archive_meta.proofs.needed.put_listed.Goals as goal

pub returns-then-bytes-gt-MOST-clause-fault : goal.returns-then-bytes-gt-MOST-clause-fault
returns-then-bytes-gt-MOST-clause-fault c =
    let p = domain c.args.t c.args.indom c.args.pairs.now in
    let long = length-domain c.args.t c.args.indom c.args.pairs.now in
    (omega (arith, length-frame p, long, c.domain_length-bytes.ensures, c.if-bytes-gt-MOST.true), omega (arith, length-frame p, long, c.domain_length-bytes.ensures))

pub returns-clause-bytes : goal.returns-clause-bytes
returns-clause-bytes c =
    let p = domain c.args.t c.args.indom c.args.pairs.now in
    framed_out c.args.out.now.items p c.put_word.new.out.items c.put_domain.new.out.items c.put_word-2.new.out.items c.domain_length-bytes.result
    (omega (arith, length-domain c.args.t c.args.indom c.args.pairs.now, c.domain_length-bytes.ensures, c.if-bytes-gt-MOST.false)) c.in_ok-put_word.ensures.bytes
    c.in_ok-put_domain.ensures.bytes c.in_ok-put_word-2.ensures.bytes

pub returns-clause-fits : goal.returns-clause-fits
returns-clause-fits c =
    let p = domain c.args.t c.args.indom c.args.pairs.now in
    omega (arith, length-frame p, length-domain c.args.t c.args.indom c.args.pairs.now, c.domain_length-bytes.ensures, c.if-bytes-gt-MOST.false)

pub returns-clause-read : goal.returns-clause-read
returns-clause-read c =
    let p = domain c.args.t c.args.indom c.args.pairs.now in
    domain_spelled c.args.t c.args.indom c.args.pairs.now (omega (arith, length-frame p, length-domain c.args.t c.args.indom c.args.pairs.now, c.domain_length-bytes.ensures, c.if-bytes-gt-MOST.false))
    c.in_ok-put_domain.ensures.range
