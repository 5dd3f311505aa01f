use Rattle.run_passes.proofs.Staying.{texts_told}
use Rattle.run_passes.proofs.kept.look_for_texts.Goals as goal

pub returns-in_ok-texts-clause-kept : goal.returns-in_ok-texts-clause-kept
returns-in_ok-texts-clause-kept c = texts_told c.in_ok-texts.field-0 c.texts.new.stint.view c.in_ok-texts.ensures.texts
