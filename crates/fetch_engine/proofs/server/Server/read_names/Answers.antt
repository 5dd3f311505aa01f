-- The names that are kept are those of the readings.
use Rattle.std.proofs.Common.{List, map, ap, subst, ◌∙◌}
use Rattle.region_rule.specs.Seats.{Token}
use Rattle.fetch_answers.specs.Readings.{reading_of}
use Rattle.fetch_answers.specs.declared.shot.Shot.{Shot}
use Rattle.fetch_engine.specs.Kept.{HasNamesOf, kept_in}
use Rattle.fetch_engine.specs.Servers.{Seated}
use Rattle.fetch_engine.specs.Visits.{AreRead, AreReadKeeping}
use Rattle.fetch_engine.specs.declared.server.Mounted.{Mounted}
use Rattle.fetch_engine.proofs.Visited.{are_named_by, named_anew, naming}
use Rattle.fetch_engine.proofs.server.Server.read_names.Goals as goal

pub returns-clause-names : goal.returns-clause-names
returns-clause-names c =
    let shots = c.read_all.new.known.items in
    let news = c.read_all.new.passes.items in
    let read : AreRead c.args.self.now c.args.seat.now.tokens (map reading_of shots) news =
    subst (λ (rows : List Mounted). AreRead rows c.args.seat.now.tokens (map reading_of shots) news) (c.deref.ensures.value ∙ c.self.view_is)
    (subst (λ (olds : List Token). AreRead c.deref.result.now olds (map reading_of shots) news) (ap (λ (seat : Seated). seat.tokens) c.seat.view_is) c.in_ok-read_all.ensures.read.read) in
    are_named_by c.args.self.now c.args.seat.now.tokens c.keep_names.new.named news shots read (subst (λ (xs : List Shot). HasNamesOf xs c.keep_names.new.named) c.deref-2.ensures.value c.in_ok-keep_names.ensures.kept)

pub returns-clause-keeping : goal.returns-clause-keeping
returns-clause-keeping c =
    let readings = map reading_of c.read_all.new.known.items in
    let news = c.read_all.new.passes.items in
    let kept = kept_in c.read_all.new.known.items c.read_all.new.spares.items in
    let read : AreReadKeeping c.args.self.now c.args.seat.now readings (naming news kept c.read_all.new.named) =
    subst (λ (rows : List Mounted). AreReadKeeping rows c.args.seat.now readings (naming news kept c.read_all.new.named)) (c.deref.ensures.value ∙ c.self.view_is)
    (subst (λ (old : Seated). AreReadKeeping c.deref.result.now old readings (naming news kept c.read_all.new.named)) c.seat.view_is c.in_ok-read_all.ensures.read) in
    (readings, named_anew c.args.self.now c.args.seat.now readings news kept c.read_all.new.named c.keep_names.new.named read)
