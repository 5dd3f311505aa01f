use Rattle.std.specs.Io.KnownBytes.{Consumes}
use Rattle.pcp_system.proofs.archive_files.read_names.Given as goal

abbrev pub invariant-loop : goal.invariant-loop
invariant-loop g l = Consumes (g.D.Read.remaining l.fn.folder) (g.D.Read.remaining l.folder) l.names.items
