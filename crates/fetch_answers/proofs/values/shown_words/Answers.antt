-- One value more.
use Rattle.std.proofs.Common.{◌≡◌, ◌++◌, ap, ◌∙◌, w32, to_z, of_z, rules, ℤ}
use Rattle.std.proofs.lemmas.Int.{to_z-of_z}
use Rattle.fetch_answers.specs.Numbers.{content_at, contents_at}
use Rattle.fetch_answers.specs.Values.{shown_word}
use Rattle.fetch_answers.proofs.Steps.{flat_step}
use Rattle.fetch_answers.proofs.values.shown_words.Goals as goal

pub loop-instance-preserved : goal.loop-instance-preserved
loop-instance-preserved c =
    let same : to_z w32 (of_z w32 c.in-Some.instance.now) ≡ c.in-Some.instance.now = to_z-of_z w32 c.in-Some.instance.now (search rules) in
    flat_step (shown_word c.args.choice.now.settings c.args.choice.now.indom) c.loop-instance.pairs c.push_word.new.pairs (contents_at c.args.words.now c.loop-instance.instance-iterator) (contents_at c.args.words.now c.next.new.self)
    (c.in-Some.instance.now, content_at c.args.words.now c.in-Some.number.now) _ c.loop-instance.invariant (ap (contents_at c.args.words.now) c.in-Some.ensures.steps)
    (c.in_ok-push_word.ensures ∙ ap (λ (n : ℤ). c.loop-instance.pairs ++ shown_word c.args.choice.now.settings c.args.choice.now.indom (n, content_at c.args.words.now c.in-Some.number.now)) same)
