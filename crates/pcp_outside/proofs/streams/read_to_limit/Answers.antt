use Rattle.std.proofs.Common.{◌≡◌, ℕ, ◌++◌, take, List, length, Err, sym, ap, ◌∙◌, subst, rules, append_assoc, arith}
use Rattle.std.proofs.lemmas.Grind.{common_steps}
use Rattle.pcp_outside.specs.declared.streams.ReadFault.TheVariants.{NoMemory}
use Rattle.pcp_outside.specs.Streams.{ReadsTo}
use Rattle.pcp_outside.proofs.Runs.{left_behind}
use Rattle.pcp_outside.proofs.streams.read_to_limit.Goals as goal

pub returns-in_err-extend_from_slice-clause-bytes :
    goal.returns-in_err-extend_from_slice-clause-bytes
returns-in_err-extend_from_slice-clause-bytes g c = λ tells.
    let i = g.I.Source in
    let before = i.left c.args.input.now in
    let bytes = c.loop-buffer.bytes.items in
    let more = take c.in_ok-count.count c.take.new.buffer in
    let is : c.from_residual-in_err-extend_from_slice.result ≡ Err NoMemory = search rules in
    let all : before ≡ (bytes ++ more) ++ i.left c.take.new.self =
    c.loop-buffer.invariant.so_far tells
    ∙ ap (λ (l : List ℕ). bytes ++ l) (c.in_ok-count.ensures.bytes tells).next
    ∙ sym (append_assoc bytes more (i.left c.take.new.self)) in
    subst (ReadsTo c.args.limit before (i.left c.take.new.self)) (sym is) (
      length (bytes ++ more),
      grind (arith, common_steps),
      left_behind before (bytes ++ more) (i.left c.take.new.self) all,
    )
