use Rattle.std.proofs.Common.{arith}
use Rattle.pcp_model.proofs.Payloads.{sets_few}
use Rattle.result_form.proofs.Ranged.{sets_in_range}
use Rattle.result_form.proofs.spelling.put_payload.Goals as goal

pub returns-clause-range : goal.returns-clause-range
returns-clause-range c = record {
  moment = c.in_ok-put_head.ensures.moment;
  few = omega (arith, sets_few c.args.answer.now.sets);
  sets = sets_in_range c.args.answer.now.sets c.requires.fits c.in_ok-put_head.ensures.numbers;
}
