use Rattle.std.proofs.Common.{get_or, ◌≡◌, ◌+◌, ◌++◌, drop, nat_eq, ap, sym, ◌∙◌}
use Rattle.std.specs.Prelude.{option_to_list}
use Rattle.std.proofs.lemmas.List.{append-nil, drop_more}
use Rattle.indexmap.specs.IndexMap.{get}
use Rattle.archive_meta.specs.Missing.{values_of_keys, position_from}
use Rattle.archive_meta.proofs.Positions.{taken_same, taken_one}
use Rattle.archive_meta.proofs.taking.take_positions.Goals as goal
use Rattle.archive_meta.proofs.taking.take_positions.Goals.{in-Some+in_ok-push, in_default}

pub loop-key-init : goal.loop-key-init
loop-key-init c =
    ap (λ l. l ++ values_of_keys (get nat_eq c.in_ok-left.left) c.args.keys.now) c.empty-positions.ensures ∙ taken_same (get nat_eq c.in_ok-left.left) (position_from 0 c.args.table.now) c.args.keys.now c.in_ok-left.ensures

pub loop-key-preserved : goal.loop-key-preserved
loop-key-preserved c =
    let grown : c.match-swap_remove.positions ≡ c.loop-key.positions ++ option_to_list c.swap_remove.result = elim c.match-swap_remove.branch [
      | in-Some+in_ok-push w ↦ w.positions-is ∙ w.in_ok-push.ensures.ok ∙ ap (λ o. c.loop-key.positions ++ option_to_list o) (sym w.in-Some.is)
      | in_default w ↦ w.positions-is ∙ sym (append-nil c.loop-key.positions) ∙ ap (λ o. c.loop-key.positions ++ option_to_list o) (sym w.in_default.is)
    ] in
    let k = get_or c.args.keys.now c.loop-key.key-index 0 in
    ap (λ l. l ++ values_of_keys (get nat_eq c.swap_remove.new.self) (drop (c.loop-key.key-index + 1) c.args.keys.now)) (grown ∙ ap (λ o. c.loop-key.positions ++ option_to_list o) c.swap_remove.ensures.value)
    ∙ taken_one c.loop-key.positions (get nat_eq c.loop-key.left) (get nat_eq c.swap_remove.new.self) k (drop (c.loop-key.key-index + 1) c.args.keys.now) (values_of_keys (position_from 0 c.args.table.now) c.args.keys.now) c.swap_remove.ensures.updates.0
    (ap (λ l. c.loop-key.positions ++ values_of_keys (get nat_eq c.loop-key.left) l) (sym (drop_more c.args.keys.now c.loop-key.key-index 0 c.loop-key-test.true)) ∙ c.loop-key.invariant)
