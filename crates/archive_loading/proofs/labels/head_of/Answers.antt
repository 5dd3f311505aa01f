use Rattle.std.proofs.Common.{◌≡◌, ◌∙◌, sym, subst, to_z, of_z, w32}
use Rattle.std.proofs.lemmas.Int.{to_z-of_z}
use Rattle.archive_frame.specs.Heads.{IsHeadFault}
use Rattle.archive_loading.proofs.PartsRead.{stops_at, stops_somewhere}
use Rattle.archive_loading.proofs.labels.head_of.Goals as goal

pub returns-in-Some : goal.returns-in-Some
returns-in-Some c =
    let n = c.args.number in
    let e : to_z w32 (of_z w32 n) ≡ n = to_z-of_z w32 n c.ranges.number in
    stops_at c.args.bytes.now c.args.label.now n c.in-Err.fault c.in-Some.at (sym c.label_offset.ensures ∙ c.in-Some.is) (subst (λ k. IsHeadFault c.args.label.now k c.args.bytes.now c.in-Err.fault) e c.in-Err.ensures.fault)

pub returns-in-None : goal.returns-in-None
returns-in-None c =
    let n = c.args.number in
    let e : to_z w32 (of_z w32 n) ≡ n = to_z-of_z w32 n c.ranges.number in
    absurd (stops_somewhere c.args.bytes.now c.args.label.now n c.in-Err.fault (sym c.label_offset.ensures ∙ c.in-None.is) (subst (λ k. IsHeadFault c.args.label.now k c.args.bytes.now c.in-Err.fault) e c.in-Err.ensures.fault))
