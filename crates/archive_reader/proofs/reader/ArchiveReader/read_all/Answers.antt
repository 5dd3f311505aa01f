use Rattle.std.proofs.Common.{◌∙◌, sym, ap, subst}
use Rattle.std.specs.List.{AllByRecursion}
use Rattle.pcp_model.specs.Disk.{contents_of}
use Rattle.archive_loading.specs.Loaded.{Loaded, IsMeasured}
use Rattle.archive_reader.proofs.Nexts.{kept_measured}
use Rattle.archive_reader.proofs.reader.ArchiveReader.read_all.Goals as goal

pub read_each-requires-clause-lengths : goal.read_each-requires-clause-lengths
read_each-requires-clause-lengths g c = λ tells.
    let files = contents_of (g.D.Disk.held c.args.disk.now) in
    let r : Loaded = c.args.self.now in
    subst (AllByRecursion (IsMeasured files)) (sym (c.as_slice.ensures ∙ ap (λ (q : Loaded). q.volumes) c.self.view_is)) (kept_measured files r.label r.records r.entries r.volumes (c.requires tells))
