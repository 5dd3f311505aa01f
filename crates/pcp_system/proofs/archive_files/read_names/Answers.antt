use Rattle.std.proofs.Common.{rules}
use Rattle.pcp_system.proofs.Folders.{all_told}
use Rattle.pcp_system.proofs.archive_files.read_names.Goals as goal

pub returns-in-Ok-eq0 : goal.returns-in-Ok-eq0
returns-in-Ok-eq0 g c =
    let told = g.D.Read.remaining in
    record {
      all = all_told (told c.args.folder.now) (told c.loop.folder) (told c.read.new.self) c.loop.names.items c.read.new.buf c.read.result c.in-Ok-eq0.field-0
          c.loop.invariant c.read.ensures.bytes c.in-Ok-eq0.is c.in-Ok-eq0.field-0-test (search rules);
    }
