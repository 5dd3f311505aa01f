use Rattle.std.proofs.Common.{◌≡◌, ℕ, ◌+◌, List, ◌∷◌, drop, subst}
use Rattle.std.specs.Prelude.{slice_index_or}
use Rattle.std.proofs.lemmas.List.{drop_more}
use Rattle.pcp_base.specs.declared.file.FileId.TheVariants.{Volume}
use Rattle.pcp_model.specs.Disk.{contents_of}
use Rattle.archive_loading.specs.Standing.{IsNextRecord}
use Rattle.archive_reader.proofs.Stepping.{stood_torn}
use Rattle.archive_reader.proofs.walking.stand.Goals as goal

pub returns-then-index-volumes-2-clause-step : goal.returns-then-index-volumes-2-clause-step
returns-then-index-volumes-2-clause-step g c = λ tells.
    let files = contents_of (g.D.Disk.held c.args.disk.now) in
    let volumes : List (ℕ × ℕ) = c.args.volumes.now in
    let v : ℕ × ℕ = slice_index_or volumes c.args.index (0, 0) in
    let here : drop c.args.index volumes ≡ v ∷ drop (c.args.index + 1) volumes = drop_more volumes c.args.index (0, 0) c.if-index-volumes.false in
    stood_torn files volumes c.args.index c.args.at v.0 v.1 here (subst (IsNextRecord (files (Volume v.0)) c.args.at) c.in-End.is (c.in_ok-item.ensures.found tells)) c.if-index-volumes-2.true
