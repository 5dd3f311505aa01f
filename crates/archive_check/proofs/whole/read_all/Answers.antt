use Rattle.std.proofs.Common.{Result, Ok, Err}
use Rattle.std.specs.Prelude.{OnOk}
use Rattle.pcp_model.specs.Archive.{Readable}
use Rattle.pcp_model.specs.Disk.{contents_of}
use Rattle.archive_reader.specs.Values.{AllRead}
use Rattle.archive_reader.proofs.Readable.{standing_is_read}
use Rattle.archive_check.proofs.whole.read_all.Goals as goal

-- where it was read, more holds
on_read : {T E : Type 0} (r : Result T E) (P Q : Type 0) → (P → Q) → OnOk r P → OnOk r Q
on_read (Ok x) P Q more p = more p
on_read (Err e) P Q more p = tt

pub returns-clause-read : goal.returns-clause-read
returns-clause-read g c = λ tells.
    let files = contents_of (g.D.Disk.held c.args.disk.now) in
    on_read c.read_all.result (AllRead files c.args.reader.now.volumes) (Readable files)
    (λ (all : AllRead files c.args.reader.now.volumes). let r = standing_is_read files c.args.reader.now all.0 (c.requires tells) all.1 in (r.reading, r.is)) (c.read_all.ensures.read tells)
