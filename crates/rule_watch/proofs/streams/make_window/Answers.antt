-- The instance has a window, or gets one.
use Rattle.std.proofs.Common.{is_some, sym, ap, ◌∙◌}
use Rattle.std.specs.Int.{w32}
use Rattle.std.specs.Ordering.{int_cmp}
use Rattle.std.specs.BTreeMap.{get}
use Rattle.std.proofs.lemmas.Int.{to_z-of_z}
use Rattle.rule_watch.proofs.streams.make_window.Goals as goal

pub returns-then-contains_key-clause-window : goal.returns-then-contains_key-clause-window
returns-then-contains_key-clause-window c =
    ap (λ n. is_some (get int_cmp c.args.windows.now n)) (sym (to_z-of_z w32 c.args.instance c.ranges.instance)) ∙ sym c.if-contains_key.ensures

pub returns-clause-window : goal.returns-clause-window
returns-clause-window c =
    ap (λ n. is_some (get int_cmp c.insert.new.self n)) (sym (to_z-of_z w32 c.args.instance c.ranges.instance)) ∙ ap is_some c.in_ok-insert.ensures.updates.1
