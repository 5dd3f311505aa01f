use Rattle.std.proofs.Common.{◌≡◌, ℤ, subst, to_z, of_z, w32}
use Rattle.std.specs.Prelude.{IfOk, IfErr}
use Rattle.std.proofs.lemmas.Int.{to_z-of_z}
use Rattle.archive_frame.specs.Heads.{IsHead, IsHeadFault}
use Rattle.archive_frame.proofs.Beginnings.{whole_only, part_only}
use Rattle.archive_frame.proofs.heads.read_label_of.Goals as goal

pub returns-clause-whole : goal.returns-clause-whole
returns-clause-whole c =
    let n = c.args.number in
    let e : to_z w32 (of_z w32 n) ≡ n = to_z-of_z w32 n c.ranges.number in
    whole_only c.args.label.now n c.args.bytes.now c.compared.result (subst (λ (k : ℤ). IfOk c.compared.result (IsHead c.args.label.now k c.args.bytes.now)) e c.compared.ensures.found)
    (subst (λ (k : ℤ). IfErr c.compared.result (IsHeadFault c.args.label.now k c.args.bytes.now)) e c.compared.ensures.fault)

pub returns-clause-part : goal.returns-clause-part
returns-clause-part c =
    let n = c.args.number in
    let e : to_z w32 (of_z w32 n) ≡ n = to_z-of_z w32 n c.ranges.number in
    part_only c.args.label.now n c.args.bytes.now c.compared.result (subst (λ (k : ℤ). IfOk c.compared.result (IsHead c.args.label.now k c.args.bytes.now)) e c.compared.ensures.found)
    (subst (λ (k : ℤ). IfErr c.compared.result (IsHeadFault c.args.label.now k c.args.bytes.now)) e c.compared.ensures.fault)
