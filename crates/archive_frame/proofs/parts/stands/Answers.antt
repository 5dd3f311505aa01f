use Rattle.std.proofs.Common.{◌≡◌, inl, inr, ◌-◌, ◌≤◌, length, get_or, take, drop, refl, arith, ap, sym, ◌∙◌}
use Rattle.std.proofs.lemmas.List.{length-take, length-drop, take-take, take_rest, get_or-take}
use Rattle.archive_frame.proofs.Fields.{wanted_misfit}
use Rattle.archive_frame.proofs.parts.stands.Goals as goal
use Rattle.archive_frame.proofs.parts.stands.Goals.{then-i-rest-via-then-i-rest, then-i-rest-via-else-i-rest+then-rest-i}

pub returns-then-i-rest-clause-stop : goal.returns-then-i-rest-clause-stop
returns-then-i-rest-clause-stop c =
    let wanted = c.args.wanted.now in
    let bytes = c.args.bytes.now in
    let rest = drop c.args.at bytes in
    let i = c.loop-i.i in
    let f = take (length wanted) rest in
    let whole : take (length bytes - c.args.at) rest ≡ rest = take_rest bytes c.args.at in
    let room : length (take (length bytes - c.args.at) rest) ≡ length bytes - c.args.at = omega (arith, length-take (length bytes - c.args.at) rest, length-drop c.args.at bytes) in
    let long : (length f ≤ length wanted) × (length f ≤ length bytes - c.args.at) = (omega (arith, length-take (length wanted) rest), omega (arith, length-take (length wanted) rest, length-drop c.args.at bytes)) in
    let within : i ≤ length f = omega (arith, c.loop-i.invariant.within, room, length-take (length wanted) rest, length-drop c.args.at bytes) in
    let same : take i f ≡ take i wanted = take-take i (length wanted) rest (omega arith) ∙ ap (take i) (sym whole) ∙ c.loop-i.invariant.same in (
      i,
      refl,
      wanted_misfit wanted f i (omega arith) within same
          (elim c.then-i-rest.branch [
            | then-i-rest-via-then-i-rest w ↦ inl (omega (arith, room, long.1))
            | then-i-rest-via-else-i-rest+then-rest-i w ↦ inr (
              omega (arith, room, length-take (length wanted) rest, length-drop c.args.at bytes),
              λ e. w.if-rest-i.true (ap (λ t. get_or t i 0) whole ∙ sym (get_or-take (length wanted) rest i 0 (omega arith)) ∙ e),
            )
          ]),
    )
