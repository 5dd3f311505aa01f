use Rattle.pmcd_session.proofs.Nothing.{nothing_asked}
use Rattle.pmcd_session.proofs.requests.request_in.Goals as goal

pub returns-in-Err : goal.returns-in-Err
returns-in-Err c = nothing_asked c.args.bytes.now c.in-Err.fault c.nothing_for.result c.in-Err.ensures.only c.nothing_for.ensures
