-- The window with a newer value.
use Rattle.std.proofs.Common.{◌≡◌, ◌≤◌, ◌<◌, ℤ, List, [], ◌∷◌, ◌++◌, length, length-append, to_z, of_z, sym, ap, subst, arith}
use Rattle.std.specs.Int.{w128}
use Rattle.std.specs.List.{AllByRecursion}
use Rattle.std.proofs.lemmas.Int.{to_z-of_z}
use Rattle.rule_watch.specs.Running.{IsRunning, IsWindow}
use Rattle.rule_watch.specs.Windows.{IsValue}
use Rattle.rule_watch.proofs.Windows.{all_with}
use Rattle.rule_watch.proofs.window.push_value.Goals as goal

pub returns-clause-window : goal.returns-clause-window
returns-clause-window c =
    let old : List ℤ = c.make_room.new.values.items in
    let x : ℤ = to_z w128 (of_z w128 c.args.number) in
    let is : IsWindow c.args.size c.make_room.new.values c.make_room.new.running = c.make_room.ensures.window in
    let grown : c.push_back_reserved.new.self.items ≡ old ++ x ∷ [] = c.push_back_reserved.ensures.items in
    let value : IsValue x = subst IsValue (sym (to_z-of_z w128 c.args.number c.ranges.number)) c.requires.value in
    record {
      some = is.some;
      few = is.few;
      within = (let fewer : length old < c.args.size = c.make_room.ensures.room in omega (arith, ap length grown, length-append old (x ∷ [])));
      small = subst (AllByRecursion IsValue) (sym grown) (all_with IsValue old x is.small value);
      room = subst (λ n. c.args.size ≤ n) (sym c.push_back_reserved.ensures.capacity) is.room;
      space = c.keep.ensures.room c.args.size is.space;
      told = subst (λ values. IsRunning values c.keep.new.running) (sym grown) c.keep.ensures.running;
    }
