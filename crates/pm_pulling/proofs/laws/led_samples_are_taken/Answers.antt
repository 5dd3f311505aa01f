use Rattle.pm_pulling.proofs.Declined.{led_taken}
use Rattle.pm_pulling.proofs.laws.led_samples_are_taken.Goals as goal

pub returns : goal.returns
returns c = led_taken
