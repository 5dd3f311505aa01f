use Rattle.std.proofs.Common.{sym, subst}
use Rattle.pmcd_client.specs.declared.faults.TalkFault.{TalkFault}
use Rattle.pmcd_client.specs.Pieces.{IsUndecoded}
use Rattle.pmcd_client.proofs.Replying.{undecoded_by}
use Rattle.pmcd_client.proofs.receiving.pdu_in.Goals as goal

pub returns-in-Err : goal.returns-in-Err
returns-in-Err c =
    subst (λ (e : TalkFault). IsUndecoded c.args.bytes.now c.args.number e) (sym c.unread_by.ensures) (undecoded_by c.args.bytes.now c.args.number c.in-Err.fault c.in-Err.ensures.only)
