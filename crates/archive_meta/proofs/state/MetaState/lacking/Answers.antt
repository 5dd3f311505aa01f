use Rattle.std.proofs.Common.{get_or, subst, ◌∙◌}
use Rattle.std.proofs.lemmas.List.{drop_more}
use Rattle.archive_meta.specs.Missing.{Tells}
use Rattle.archive_meta.proofs.Lacking.{lacks_here, holds_already, nothing_here, all_so_far}
use Rattle.archive_meta.proofs.state.MetaState.lacking.Goals as goal
use Rattle.archive_meta.proofs.state.MetaState.lacking.Goals.{in-Some+then-not-holds+in_ok-push, in-Some+else-not-holds, in_default}

pub loop-position-preserved : goal.loop-position-preserved
loop-position-preserved c = elim c.match-get.branch [
  | in-Some+then-not-holds+in_ok-push w ↦
      let d = w.in-Some.field-0.now in
      let tells = subst (λ b. Tells c.args.self.now c.args.t (d.0, d.1) b) w.if-not-holds.true (subst (λ ps. Tells c.args.self.now c.args.t (d.0, ps) w.holds.result) w.as_slice.ensures w.holds.ensures) in
      lacks_here c.args.self.now c.args.t c.args.domains.now c.args.positions.now c.loop-position.position-index (get_or c.args.positions.now c.loop-position.position-index 0) (drop_more c.args.positions.now c.loop-position.position-index 0 c.loop-position-test.true) c.loop-position.left c.match-get.left c.loop-position.invariant
      d w.in-Some.ensures tells (w.left-is ∙ w.in_ok-push.ensures.ok)
  | in-Some+else-not-holds w ↦
      let d = w.in-Some.field-0.now in
      let tells = subst (λ b. Tells c.args.self.now c.args.t (d.0, d.1) b) w.if-not-holds.false (subst (λ ps. Tells c.args.self.now c.args.t (d.0, ps) w.holds.result) w.as_slice.ensures w.holds.ensures) in
      holds_already c.args.self.now c.args.t c.args.domains.now c.args.positions.now c.loop-position.position-index (get_or c.args.positions.now c.loop-position.position-index 0) (drop_more c.args.positions.now c.loop-position.position-index 0 c.loop-position-test.true) c.loop-position.left c.match-get.left c.loop-position.invariant
      d w.in-Some.ensures tells w.left-is
  | in_default w ↦
      nothing_here c.args.self.now c.args.t c.args.domains.now c.args.positions.now c.loop-position.position-index (get_or c.args.positions.now c.loop-position.position-index 0) (drop_more c.args.positions.now c.loop-position.position-index 0 c.loop-position-test.true) c.loop-position.left c.match-get.left c.loop-position.invariant
      w.in_default.ensures w.left-is
]

pub returns : goal.returns
returns c = all_so_far c.args.self.now c.args.t c.args.domains.now c.args.positions.now c.loop-position.left c.loop-position.position-index c.loop-position-test.false c.loop-position.invariant
