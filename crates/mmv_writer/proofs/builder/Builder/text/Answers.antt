-- A refused push leaves the draft, and another string stands at its end.
use Rattle.std.proofs.Common.{refl}
use Rattle.mmv_writer.specs.Draft.{with_string}
use Rattle.mmv_writer.proofs.Drafts.{string_added}
use Rattle.mmv_writer.proofs.builder.Builder.text.Goals as goal

pub invariant_of-self : goal.invariant_of-self
invariant_of-self c = (rw c.in_err-push.ensures.err c.self.invariant.0, record { domains = c.self.invariant.1.domains; items = c.self.invariant.1.items; names = c.self.invariant.1.names; values = c.self.invariant.1.values })

pub invariant_of-self-2 : goal.invariant_of-self-2
unfolding with_string
invariant_of-self-2 c = (
  rw c.in_ok-push.ensures.ok (string_added c.self.inside.layout c.args.text c.self.invariant.0 (c.in_default.ensures.string refl)),
  record { domains = c.self.invariant.1.domains; items = c.self.invariant.1.items; names = c.self.invariant.1.names; values = c.self.invariant.1.values },
)
