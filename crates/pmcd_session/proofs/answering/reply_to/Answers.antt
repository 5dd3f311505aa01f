use Rattle.std.specs.Prelude.{option_to_list, []}
use Rattle.pmcd_session.proofs.Asking.{clock_halts, does_asked}
use Rattle.pmcd_session.proofs.answering.reply_to.Goals as goal

pub returns-in-Err-clause-done : goal.returns-in-Err-clause-done
returns-in-Err-clause-done g c = (
  [],
  c.in-Err.ensures.moments,
  clock_halts (g.A.Agent.loads c.args.regions.now) c.args.s.now c.args.pdu.now c.in_ok-asked.asked g.C.Clock.tells (g.C.Clock.left c.moment_for.new.clock) (g.C.Clock.faults c.args.clock.now) (g.C.Clock.faults c.moment_for.new.clock)
      c.needs_moment-is_needed.result c.in-Err.halt c.in_ok-asked.ensures c.needs_moment-is_needed.ensures c.in-Err.ensures.answer,
)

pub returns-in_ok-serve-in-Ok-clause-done : goal.returns-in_ok-serve-in-Ok-clause-done
returns-in_ok-serve-in-Ok-clause-done g c = (
  option_to_list c.in-Ok.moment,
  c.in-Ok.ensures.moments,
  does_asked (g.A.Agent.reads c.args.regions.now) c.args.s.now c.args.pdu.now c.in_ok-asked.asked
      (record { moments = option_to_list c.in-Ok.moment; reply = c.in_ok-serve-in-Ok.field-0; after = c.serve.new.s }) c.in_ok-asked.ensures c.in_ok-serve-in-Ok.ensures.done,
)
