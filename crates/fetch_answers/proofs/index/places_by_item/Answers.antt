-- One place more was kept.
use Rattle.std.proofs.Common.{rules, ◌<◌, length, get_or, refl}
use Rattle.fetch_answers.proofs.Indexes.{places_step}
use Rattle.fetch_answers.proofs.index.places_by_item.Goals as goal

pub loop-place-preserved : goal.loop-place-preserved
loop-place-preserved c =
    let below : c.loop-place.place < length c.args.rows.now = search rules in
    places_step c.loop-place.table c.keep_place.new.table c.args.rows.now c.loop-place.place (get_or c.args.rows.now c.loop-place.place c.index-rows-place.result) c.index-rows-place.result below refl c.loop-place.invariant
    c.in_ok-keep_place.ensures
