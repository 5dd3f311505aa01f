use Rattle.std.proofs.Common.{sym, ◌∙◌, subst}
use Rattle.pdu_stream.specs.Streams.{IsStop}
use Rattle.pdu_stream.proofs.OneWay.{same, one_stop}
use Rattle.pdu_stream.proofs.laws.stream_splits_one_way.Goals as goal

pub returns : goal.returns
returns c = λ stream pdus others rest left bad worse a s b t.
    let r = same pdus others rest left bad worse a.whole b.whole s t (sym a.is ∙ b.is) in
    (r.0, r.1, one_stop left bad worse (subst (λ x. IsStop x bad) r.1 s) t)
