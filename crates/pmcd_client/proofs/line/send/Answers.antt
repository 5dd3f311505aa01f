use Rattle.std.proofs.Common.{[], ◌++◌, ◌∙◌, sym, rules}
use Rattle.std.proofs.lemmas.List.{append-nil}
use Rattle.pcp_outside.specs.Sides.{sink_side}
use Rattle.pdu_codec.specs.Spelling.{pdu_bytes}
use Rattle.pmcd_client.proofs.Sent.{front_of_piece}
use Rattle.pmcd_client.proofs.line.send.Goals as goal

pub returns : goal.returns
returns g c =
    let o = g.L.Sink in (
      front_of_piece (sink_side o c.args.out.now c.write_all.new.out) (pdu_bytes c.args.request.now ++ []) c.as_slice.result.now (c.as_slice.ensures ∙ c.in_ok-bytes.ensures.bytes ∙ sym (append-nil (pdu_bytes c.args.request.now))) c.in-Err.ensures.bytes,
      c.in-Err.ensures.cause.failed (search rules),
      c.in-Err.ensures.cause.later,
    )
