-- All that were kept are said, and so is the one that is added.
use Rattle.std.proofs.Common.{List, sym, subst}
use Rattle.std.proofs.lemmas.List.Elements.{All-push}
use Rattle.pm_print.specs.declared.starts.Start.{Start}
use Rattle.pm_print.specs.Starts.{IsSaid, AreSaid}
use Rattle.pm_print.proofs.starts.Starts.keep.Goals as goal

pub returns-in_err-push : goal.returns-in_err-push
returns-in_err-push c = λ records said one. subst (λ (l : List Start). AreSaid records l) (sym c.in_err-push.ensures.items) (c.make_room.ensures records said)

pub returns-in_err-insert : goal.returns-in_err-insert
returns-in_err-insert c = λ records said one. subst (λ (l : List Start). AreSaid records l) (sym c.in_ok-push.ensures.items) (All-push (IsSaid records) c.make_room.new.self.list.items c.args.start (c.make_room.ensures records said) one)

pub returns : goal.returns
returns c = λ records said one. subst (λ (l : List Start). AreSaid records l) (sym c.in_ok-push.ensures.items) (All-push (IsSaid records) c.make_room.new.self.list.items c.args.start (c.make_room.ensures records said) one)
