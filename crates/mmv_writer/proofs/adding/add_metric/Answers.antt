-- The metric's item and its name stand beside its row.
use Rattle.std.proofs.Common.{◌≡◌, ◌∙◌, ◌||◌, ◌-◌, ap, cond, sym, subst, take, length, Some, bytes_eq}
use Rattle.std.specs.Ordering.{nat_cmp, is_eq}
use Rattle.std.specs.BTreeMap.{get}
use Rattle.mmv_writer.specs.Keys.{is_named, HasItems}
use Rattle.mmv_writer.proofs.Firsts.{taken_back}
use Rattle.mmv_writer.proofs.RowLookups.{reads, reads_insert}
use Rattle.mmv_writer.proofs.Kept.{metric_kept, names_kept, item_back}
use Rattle.mmv_writer.proofs.adding.add_metric.Goals as goal

pub returns-clause-keys : goal.returns-clause-keys
returns-clause-keys c =
    rw c.in_ok-push.ensures.ok
    (metric_kept c.args.items.now c.insert.new.self c.args.rows.now c.args.row c.requires.keys c.requires.new
    (λ i. c.in_default.ensures.updates.0 i ∙ ap (λ n. cond (is_eq (nat_cmp c.args.row.item i)) (Some n) (get nat_cmp c.args.items.now i)) c.len-at.ensures))

pub returns-clause-names : goal.returns-clause-names
returns-clause-names c =
    rw c.in_ok-push.ensures.ok
    (names_kept c.args.names.now c.insert-2.new.self c.args.rows.now c.args.row c.requires.names
    (λ q. ap (reads (λ k. k.items) q) c.in_default-insert.ensures.keys ∙ reads_insert (λ k. k.items) q c.args.name c.args.names.now.keys ∙ ap (λ t. bytes_eq q t || is_named c.args.names.now q) c.requires.name))

pub returns-in-Err-insert-clause-keys : goal.returns-in-Err-insert-clause-keys
returns-in-Err-insert-clause-keys c =
    let popped : c.pop-in-Err-insert.new.self ≡ c.args.rows.now = c.pop-in-Err-insert.ensures.rest ∙ ap (λ xs. take (length xs - 1) xs) c.in_ok-push.ensures.ok ∙ taken_back c.args.rows.now c.args.row in
    subst (HasItems c.remove.new.self) (sym popped)
    (item_back c.args.items.now c.insert.new.self c.remove.new.self c.args.rows.now c.args.row c.len-at.result c.requires.keys c.requires.new c.in_default.ensures.updates.0 c.remove.ensures.updates.0)
