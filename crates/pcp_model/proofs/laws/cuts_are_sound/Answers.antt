use Rattle.pcp_model.proofs.CutSound.{sound_part}
use Rattle.pcp_model.proofs.laws.cuts_are_sound.Goals as goal

pub returns : goal.returns
returns c = sound_part
