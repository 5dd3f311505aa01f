-- The window without its oldest value.
use Rattle.std.proofs.Common.{◌≡◌, ◌≤◌, drop, length, length-drop, sym, ap, subst, arith}
use Rattle.std.specs.List.{AllByRecursion}
use Rattle.rule_watch.specs.Running.{IsRunning}
use Rattle.rule_watch.specs.Windows.{IsValue}
use Rattle.rule_watch.proofs.Windows.{all_behind}
use Rattle.rule_watch.proofs.window.make_room.Goals as goal

pub returns-clause-window : goal.returns-clause-window
returns-clause-window c =
    let old = c.args.values.now.items in
    let rest : c.pop_front.new.self.items ≡ drop 1 old = c.pop_front.ensures.rest in
    record {
      some = c.requires.some;
      few = c.requires.few;
      within = (let fewer : length old ≤ c.args.size = c.requires.within in omega (arith, ap length rest, length-drop 1 old));
      small = subst (AllByRecursion IsValue) (sym rest) (all_behind IsValue old c.requires.small);
      room = subst (λ n. c.args.size ≤ n) (sym c.pop_front.ensures.capacity) c.requires.room;
      space = c.forget.ensures.room c.args.size c.requires.space;
      told = subst (λ values. IsRunning values c.forget.new.running) (sym rest) c.forget.ensures.running;
    }
