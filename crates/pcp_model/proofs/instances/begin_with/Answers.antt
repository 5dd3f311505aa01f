use Rattle.pcp_model.proofs.Listed.{ended, ended_front}
use Rattle.pcp_model.proofs.instances.begin_with.Goals as goal

pub returns : goal.returns
returns c = (
  λ same. ended c.args.bytes.now c.args.name.now c.if-bytes-end.false c.if-bytes-end-ne0.false (c.is_same.ensures.0 same),
  λ begins. c.is_same.ensures.1 (ended_front c.args.bytes.now c.args.name.now begins),
)
