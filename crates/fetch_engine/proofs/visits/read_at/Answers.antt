-- The region at the position was read by its own pass.
use Rattle.std.proofs.Common.{rules, ◌≡◌, ◌<◌, length, get_or, Option, sym, subst, arith}
use Rattle.std.specs.Prelude.{IfSome}
use Rattle.fetch_answers.specs.declared.names.Named.{Named}
use Rattle.fetch_engine.specs.Kept.{AreNamesOf}
use Rattle.fetch_engine.proofs.Holding.{long_kept}
use Rattle.fetch_engine.proofs.Naming.{names_stay}
use Rattle.fetch_engine.proofs.SeatPasses.{is_there}
use Rattle.fetch_engine.proofs.Visited.{read_there}
use Rattle.fetch_engine.proofs.visits.read_at.Goals as goal

pub returns-clause-read : goal.returns-clause-read
returns-clause-read c =
    let many = is_there c.args.rows.now c.args.passes.now.items c.requires.seated in
    let wide = long_kept c.args.known.now.items c.args.spares.now.items c.requires.many in
    let kept = c.requires.kept.many in
    let there : c.args.at < length c.args.rows.now = c.requires.there in
    let row : c.index-rows-at.result ≡ get_or c.args.rows.now c.args.at c.index-rows-at.result = search rules in
    read_there c.args.rows.now c.args.passes.now.items c.args.known.now.items c.args.spares.now.items c.args.at c.index_mut-2.result.now c.read_known.new.known c.index_mut-3.result.now c.read_known.new.spare
    c.index_mut.result.now c.index-rows-at.result c.read_known.new.pass _ _ there (omega arith) (omega arith) c.requires.many c.index_mut.ensures.value row c.index_mut-2.ensures.value c.index_mut-3.ensures.value
    c.in_ok-same.ensures.file c.in_ok-same.ensures.cluster c.in_ok-same.ensures.read c.in_ok-same.ensures.keeping

pub returns-clause-named : goal.returns-clause-named
returns-clause-named c =
    let many = is_there c.args.rows.now c.args.passes.now.items c.requires.seated in
    let wide = long_kept c.args.known.now.items c.args.spares.now.items c.requires.many in
    let kept = c.requires.kept.many in
    let there : c.args.at < length c.args.rows.now = c.requires.there in
    let still : c.take-still.result ≡ c.args.named.now = search rules in
    names_stay c.args.known.now.items c.args.at c.index_mut-2.result.now c.read_known.new.known c.in_ok-same.same c.take-still.result c.kept_if.result (omega arith) c.index_mut-2.ensures.value c.in_ok-same.ensures.names
    c.kept_if.ensures (subst (λ (o : Option Named). IfSome o (AreNamesOf c.args.known.now.items)) (sym still) c.requires.named)
