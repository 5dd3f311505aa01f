use Rattle.pmcd_session.proofs.Streams.{stays_open}
use Rattle.pmcd_session.proofs.conversing.go_on.Goals as goal

pub returns-clause-stays : goal.returns-clause-stays
returns-clause-stays c = λ taken given read.
    stays_open taken given c.in_ok-whole_pdus.field-0 c.args.stream.now c.whole_pdus.new.stream read (c.in_ok-whole_pdus.ensures.brings taken given read)
