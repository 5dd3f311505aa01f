use Rattle.std.proofs.Common.{List, ◌∷◌, sym, subst}
use Rattle.run_passes.specs.Hands.{HasWritten, KnownHand}
use Rattle.run_passes.specs.Written.{AreSame, AreWritten}
use Rattle.run_passes.proofs.Together.{both_well, same_refl, written_none}
use Rattle.run_passes.proofs.threads.+crew.Goals as goal

pub run-returns-in_default-clause-same_all : goal.run-returns-in_default-clause-same_all
run-returns-in_default-clause-same_all g t c = same_refl c.args.hands.now

pub run-returns-in_default-clause-all_written : goal.run-returns-in_default-clause-all_written
run-returns-in_default-clause-all_written g t c = written_none c.args.script.now c.args.server.now c.args.hands.now c.in_default.ensures.cases

pub run-returns-clause-same_all : goal.run-returns-clause-same_all
run-returns-clause-same_all g t c =
    subst (λ (l : List KnownHand). AreSame l (c.beside-answers.new.hand ∷ c.beside-answers.new.hands)) (sym c.in-Some.ensures.cases.0) (c.beside-answers.ensures.same, c.beside-answers.ensures.same_all)

pub run-returns-clause-all_written : goal.run-returns-clause-all_written
run-returns-clause-all_written g t c =
    let one = HasWritten c.args.script.now c.args.server.now c.in-Some.hand.now c.beside-answers.new.hand in
    let others = AreWritten c.args.script.now c.args.server.now c.in-Some.hands.now c.beside-answers.new.hands in
    let all = AreWritten c.args.script.now c.args.server.now c.args.hands.now (c.beside-answers.new.hand ∷ c.beside-answers.new.hands) in
    both_well one others all c.beside-answers.result.0 c.beside-answers.result.1
    (λ (h : one) (hs : others). subst (λ (l : List KnownHand). AreWritten c.args.script.now c.args.server.now l (c.beside-answers.new.hand ∷ c.beside-answers.new.hands)) (sym c.in-Some.ensures.cases.0) (h, hs))
    c.beside-answers.ensures.written c.beside-answers.ensures.all_written
