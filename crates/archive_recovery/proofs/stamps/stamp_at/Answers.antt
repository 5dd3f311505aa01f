use Rattle.std.proofs.Common.{◌≡◌, ◌∙◌, ◌+◌, ◌++◌, suc, ℕ, List, Option, ap, arith, sym, take}
use Rattle.std.specs.Prelude.{None, Some, slice_get}
use Rattle.pcp_model.specs.declared.records.Entry.{Entry}
use Rattle.archive_recovery.specs.Stamps.{entry_stamps}
use Rattle.archive_recovery.proofs.Latest.{stamp_if_any, stamps_more}
use Rattle.archive_recovery.proofs.stamps.stamp_at.Goals as goal

more : (es : List Entry) (at : ℕ) (o : Option Entry) → o ≡ slice_get es at → entry_stamps (take (at + 1) es) ≡ entry_stamps (take at es) ++ stamp_if_any o
more es at o is =
    let next : at + 1 ≡ suc at = omega arith in
    ap (λ (n : ℕ). entry_stamps (take n es)) next ∙ stamps_more es at ∙ ap (λ (x : Option Entry). entry_stamps (take at es) ++ stamp_if_any x) (sym is)

pub returns-in-Some : goal.returns-in-Some
returns-in-Some c = more c.args.index.now c.args.at (Some c.in-Some.entry) (sym c.in-Some.is ∙ c.entry.ensures)

pub returns-in-None : goal.returns-in-None
returns-in-None c = more c.args.index.now c.args.at None (sym c.in-None.is ∙ c.entry.ensures)
