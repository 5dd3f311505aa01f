-- The names are those of the readings.
use Rattle.std.proofs.Common.{List, map, ap, subst, ◌∙◌}
use Rattle.region_rule.specs.Seats.{Token}
use Rattle.fetch_answers.specs.Names.{missed_of, names_of}
use Rattle.fetch_answers.specs.Readings.{reading_of}
use Rattle.fetch_answers.specs.declared.shot.Shot.{Shot}
use Rattle.fetch_engine.specs.Servers.{Seated}
use Rattle.fetch_engine.specs.Visits.{AreRead}
use Rattle.fetch_engine.specs.declared.server.Mounted.{Mounted}
use Rattle.fetch_engine.proofs.Visited.{are_named}
use Rattle.fetch_engine.proofs.server.Server.names.Goals as goal

pub returns-clause-names : goal.returns-clause-names
returns-clause-names c =
    let shots = c.read_all.new.known.items in
    let news = c.read_all.new.passes.items in
    let read : AreRead c.args.self.now c.args.seat.now.tokens (map reading_of shots) news =
    subst (λ (rows : List Mounted). AreRead rows c.args.seat.now.tokens (map reading_of shots) news) (c.deref.ensures.value ∙ c.self.view_is)
    (subst (λ (olds : List Token). AreRead c.deref.result.now olds (map reading_of shots) news) (ap (λ (seat : Seated). seat.tokens) c.seat.view_is) c.in_ok-read_all.ensures.read.read) in
    are_named c.args.self.now c.args.seat.now.tokens c.in_ok-named.named.names c.in_ok-named.named.missing news shots read
    (c.in_ok-named.ensures.names ∙ ap (λ (xs : List Shot). names_of xs) c.deref-2.ensures.value) (c.in_ok-named.ensures.missing ∙ ap (λ (xs : List Shot). missed_of xs) c.deref-2.ensures.value)
