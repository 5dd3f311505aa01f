use Rattle.std.proofs.Common.{ℕ, List, refl, subst}
use Rattle.std.specs.Prelude.{slice_index_or}
use Rattle.pcp_model.specs.Disk.{contents_of}
use Rattle.archive_reader.specs.Steps.{IsWalked, IsIn}
use Rattle.archive_reader.proofs.Nexts.{next_item}
use Rattle.archive_reader.proofs.reader.view_from.Goals as goal

pub returns-in-Item-clause-found : goal.returns-in-Item-clause-found
returns-in-Item-clause-found g c = λ tells.
    let files = contents_of (g.D.Disk.held c.args.disk.now) in
    let volumes : List (ℕ × ℕ) = c.args.volumes.now in
    next_item files volumes c.args.place c.first_from-index.result c.first_from-index.ensures.volumes c.in-Item.item c.in-Item.behind (slice_index_or volumes c.in-Item.behind (0, 0)).0 c.in-Item.offset
    c.requires.rises (subst (IsIn volumes) c.in-Item.is c.in_ok-item.ensures.within) refl
    (subst (IsWalked files volumes c.first_from-index.result c.args.place.offset) c.in-Item.is (c.in_ok-item.ensures.step tells))
