use Rattle.region_words.specs.Calls.{form_seen}
use Rattle.region_words.proofs.Inside.{texts_told}
use Rattle.region_words.proofs.region.Region.texts.Goals as goal

pub returns-clause-texts : goal.returns-clause-texts
returns-clause-texts c =
    let reads = c.in-Ok.ensures.reads in
    texts_told c.texts.result c.in-Ok.image (form_seen c.image_inside.new.stint.view) reads.form c.texts.ensures
