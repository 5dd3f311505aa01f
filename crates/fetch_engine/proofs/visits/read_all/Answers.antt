-- One region more is read by its own pass.
use Rattle.std.proofs.Common.{rules, ◌≡◌, ◌<◌, ℕ, length, get_or, map, take, Option, ap, subst, sym, ◌∙◌, arith}
use Rattle.std.specs.Prelude.{IfSome}
use Rattle.fetch_answers.specs.declared.names.Named.{Named}
use Rattle.region_rule.specs.Seats.{Token}
use Rattle.fetch_answers.specs.Readings.{reading_of}
use Rattle.fetch_engine.specs.Kept.{AreNamesOf, kept_in}
use Rattle.fetch_engine.specs.declared.server.Mounted.{Mounted}
use Rattle.fetch_engine.proofs.Holding.{known_set, long_kept, long_set}
use Rattle.fetch_engine.proofs.Naming.{names_stay}
use Rattle.fetch_engine.proofs.SeatPasses.{is_there}
use Rattle.fetch_engine.proofs.Visited.{HasRead, all_shots_read, many_there, next_read, nothing_yet, one_there}
use Rattle.fetch_engine.proofs.visits.read_all.Goals as goal

pub loop-at-init : goal.loop-at-init
loop-at-init c =
    let still : c.take-still.result ≡ c.args.named.now = search rules in
    record {
      read = nothing_yet c.args.rows.now c.args.passes.now.items (kept_in c.args.known.now.items c.args.spares.now.items);
      kept = c.requires.kept;
      many = c.requires.many;
      named = subst (λ (o : Option Named). IfSome o (AreNamesOf c.args.known.now.items)) (sym still) c.requires.named;
    }

pub read_known-requires-clause-here : goal.read_known-requires-clause-here
read_known-requires-clause-here c =
    let below : c.loop-at.at < length c.args.rows.now = search rules in
    let row : c.index-rows-at.result ≡ get_or c.args.rows.now c.loop-at.at c.index-rows-at.result = search rules in
    ap (λ (t : Token). t.region) c.index_mut.ensures.value
    ∙ one_there c.loop-at.at c.args.rows.now c.args.passes.now.items c.loop-at.passes.items (kept_in c.args.known.now.items c.args.spares.now.items) (kept_in c.loop-at.known.items c.loop-at.spares.items)
    (map reading_of (take c.loop-at.at c.loop-at.known.items)) c.index_mut.result.now c.index-rows-at.result c.requires.seated c.loop-at.invariant.read below
    ∙ ap (λ (r : Mounted). r.region) (sym row)

pub loop-at-preserved : goal.loop-at-preserved
loop-at-preserved c =
    let below : c.loop-at.at < length c.args.rows.now = search rules in
    let row : c.index-rows-at.result ≡ get_or c.args.rows.now c.loop-at.at c.index-rows-at.result = search rules in
    let kolds = kept_in c.args.known.now.items c.args.spares.now.items in
    let knews = kept_in c.loop-at.known.items c.loop-at.spares.items in
    let many = many_there c.loop-at.at c.args.rows.now c.args.passes.now.items c.loop-at.passes.items kolds knews (map reading_of (take c.loop-at.at c.loop-at.known.items)) c.requires.seated c.loop-at.invariant.read in
    let long = c.loop-at.invariant.many in
    let wide = c.loop-at.invariant.kept.many in
    let same = long_kept c.loop-at.known.items c.loop-at.spares.items long in
    record {
      read =
          next_read c.loop-at.at c.args.rows.now c.args.passes.now.items c.loop-at.passes.items kolds c.loop-at.known.items c.loop-at.spares.items c.index_mut-in-loop-at.result.now c.read_known.new.known c.index_mut-in-loop-at-2.result.now
          c.read_known.new.spare c.index_mut.result.now c.index-rows-at.result c.read_known.new.pass c.loop-at.invariant.read c.requires.seated below (omega arith) long c.index_mut.ensures.value row
          c.index_mut-in-loop-at.ensures.value c.index_mut-in-loop-at-2.ensures.value c.in_ok-same.ensures.file c.in_ok-same.ensures.cluster c.in_ok-same.ensures.read c.in_ok-same.ensures.keeping;
      kept = known_set c.loop-at.passes.items c.loop-at.known.items c.loop-at.spares.items c.loop-at.at c.read_known.new.pass c.read_known.new.known c.read_known.new.spare c.loop-at.invariant.kept long (omega arith)
          c.in_ok-same.ensures.kept;
      many = long_set c.loop-at.known.items c.loop-at.spares.items c.loop-at.at c.read_known.new.known c.read_known.new.spare long;
      named = names_stay c.loop-at.known.items c.loop-at.at c.index_mut-in-loop-at.result.now c.read_known.new.known c.in_ok-same.same c.loop-at.still c.kept_if-still.result (omega arith) c.index_mut-in-loop-at.ensures.value
          c.in_ok-same.ensures.names c.kept_if-still.ensures c.loop-at.invariant.named;
    }

pub returns-clause-read : goal.returns-clause-read
returns-clause-read c =
    let last : c.loop-at.at ≡ length c.args.rows.now = search rules in
    let olds = c.args.passes.now.items in
    let news = c.loop-at.passes.items in
    let kolds = kept_in c.args.known.now.items c.args.spares.now.items in
    let knews = kept_in c.loop-at.known.items c.loop-at.spares.items in
    let there = is_there c.args.rows.now olds c.requires.seated in
    let many = many_there c.loop-at.at c.args.rows.now olds news kolds knews (map reading_of (take c.loop-at.at c.loop-at.known.items)) c.requires.seated c.loop-at.invariant.read in
    let wide : length c.loop-at.known.items ≡ length c.args.rows.now = sym (long_kept c.loop-at.known.items c.loop-at.spares.items c.loop-at.invariant.many) ∙ c.loop-at.invariant.kept.many ∙ many in
    all_shots_read c.args.rows.now olds news kolds c.loop-at.known.items c.loop-at.spares.items _ _ there (c.requires.kept.many ∙ there) wide
    (subst (λ (n : ℕ). HasRead n c.args.rows.now olds news kolds knews (map reading_of (take n c.loop-at.known.items))) last c.loop-at.invariant.read)
