-- What a run came to.
use Rattle.std.proofs.Common.{inl, rules, ℕ, map, string_bytes, Global, refl, subst, Ok}
use Rattle.pcp_outside.specs.Sides.{SourceSide, source_side}
use Rattle.pm_serving.specs.Serving.{Leaves, doors_side}
use Rattle.pm_serving.proofs.Ordered.{came_short, came_unserved}
use Rattle.pm_serving.proofs.top.run.Goals as goal

pub returns-in_err-count : goal.returns-in_err-count
returns-in_err-count g c =
    let words = map (string_bytes {Z = Global}) c.args.words.now in
    let s : SourceSide = source_side g.I.Source c.args.input.now c.prepare.new.input in
    let why = came_unserved words s (doors_side g.P.Door c.args.doors.now c.args.doors.now) c.args.served.now c.in_err-count.field-0.0 c.in_err-count.ensures.orders (record { none = c.requires.fresh; doors = refl }) in
    search (rules, why)

pub returns-in_err-line : goal.returns-in_err-line
returns-in_err-line g c =
    let words = map (string_bytes {Z = Global}) c.args.words.now in
    let s : SourceSide = source_side g.I.Source c.args.input.now c.prepare.new.input in
    let why = came_short words s (doors_side g.P.Door c.args.doors.now c.args.doors.now) c.args.served.now c.in_ok-count.count c.in_ok-count.script c.in_ok-count.ensures.orders (inl (record { none = c.requires.fresh; doors = refl })) in
    search (rules, why)

pub returns-in-Ok : goal.returns-in-Ok
returns-in-Ok g c =
    let left = c.in-Ok.ensures in (
      record {
        count = c.in_ok-count.count;
        script = c.in_ok-count.script;
        orders = c.in_ok-count.ensures.orders;
        leaves = subst (λ (n : ℕ). Leaves (doors_side g.P.Door c.args.doors.now c.serve_script.new.doors) c.in_ok-count.count c.in_ok-count.script (Ok n) c.serve_script.new.served) left.serving.serves.0 left;
      },
      c.in_ok-line.ensures,
    )

pub returns-in-Err-Accept : goal.returns-in-Err-Accept
returns-in-Err-Accept g c = record {
  count = c.in_ok-count.count;
  script = c.in_ok-count.script;
  orders = c.in_ok-count.ensures.orders;
  leaves = rw c.in-Err-Accept.field-0-is at c.in-Err-Accept.ensures;
}

pub returns : goal.returns
returns g c = came_short _ _ _ _ c.in_ok-count.count c.in_ok-count.script c.in_ok-count.ensures.orders (rw c.in-Err-NoMemory.field-0-is at c.in-Err-NoMemory.ensures)
