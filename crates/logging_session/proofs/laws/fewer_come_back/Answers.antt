use Rattle.logging_session.proofs.Going.{comes_fewer, comes_more}
use Rattle.logging_session.proofs.laws.fewer_come_back.Goals as goal

pub returns : goal.returns
returns c = λ more rest j k left image le comes. comes_more more rest j left image (comes_fewer more k j left image le comes)
