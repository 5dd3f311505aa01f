use Rattle.pm_extracting.proofs.Taken.{led_taken}
use Rattle.pm_extracting.proofs.laws.led_items_are_taken.Goals as goal

pub returns : goal.returns
returns c = led_taken
