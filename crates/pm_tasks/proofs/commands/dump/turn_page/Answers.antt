-- A full page went to the sink whole, and another stays.
use Rattle.std.proofs.Common.{[], refl, sym, ap, subst, ◌∙◌, ◌++◌, append-nil}
use Rattle.pcp_outside.specs.Sides.{sink_side}
use Rattle.pm_words.specs.Streams.{Sends}
use Rattle.pm_words.proofs.Sending.{unmoved}
use Rattle.pm_tasks.proofs.commands.dump.turn_page.Goals as goal

pub returns-then-not-is_full : goal.returns-then-not-is_full
returns-then-not-is_full g c = record { piece = []; whole = refl; sends = unmoved g.O.Sink c.args.out.now c.args.failed.now }

pub returns : goal.returns
returns g c = record {
  piece = c.args.page.now.items;
  whole = sym (append-nil c.args.page.now.items) ∙ ap (λ t. c.args.page.now.items ++ t) (sym c.clear.ensures.items);
  sends = subst (λ t. Sends (sink_side g.O.Sink c.args.out.now c.send.new.out) c.args.failed.now t c.send.result) c.deref.ensures.value c.send.ensures;
}
