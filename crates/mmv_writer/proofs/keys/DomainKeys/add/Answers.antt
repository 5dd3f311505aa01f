-- The number and the name are in the sets.
use Rattle.std.proofs.Common.{◌≡◌, ◌∙◌, ap, refl, rules, cond, true}
use Rattle.std.specs.Ordering.{int_eq, int_cmp}
use Rattle.std.specs.BTreeSet.{contains}
use Rattle.mmv_writer.proofs.RowLookups.{reads, reads_insert, cond_or}
use Rattle.mmv_writer.proofs.keys.DomainKeys.add.Goals as goal

pub returns-clause-ok : goal.returns-clause-ok
returns-clause-ok c = record {
  at = refl;
  numbers = λ q. let changed : contains int_cmp c.insert.new.self q ≡ cond (int_eq c.args.id.now q) true (contains int_cmp c.args.self.now.numbers q) = search rules in changed ∙ cond_or (int_eq c.args.id.now q) (contains int_cmp c.args.self.now.numbers q);
  names = λ q. ap (reads (λ k. k.items) q) c.in_default.ensures.keys ∙ reads_insert (λ k. k.items) q c.args.name c.args.self.now.names.keys;
}
