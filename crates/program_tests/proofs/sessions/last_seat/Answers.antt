-- What holds of each seat holds of the last.
use Rattle.fetch_engine.specs.Servers.{IsSeated, Seated}
use Rattle.program_tests.proofs.Last.{last_holds}
use Rattle.program_tests.proofs.sessions.last_seat.Goals as goal

pub returns : goal.returns
returns c = last_holds (λ (seat : Seated). IsSeated c.args.server.now seat.tokens) c.args.seats.items c.pop.new.self.items c.pop.result c.pop.ensures.items c.requires
