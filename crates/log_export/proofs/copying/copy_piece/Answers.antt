-- The piece is read, and then appended.
use Rattle.std.proofs.Common.{drop, length, take}
use Rattle.pcp_model.specs.Disk.{contents_of}
use Rattle.archive_loading.proofs.Looking.{looked}
use Rattle.log_export.proofs.Pieces.{appended, nothing_yet}
use Rattle.log_export.proofs.copying.copy_piece.Goals as goal

pub returns-in-Err-clause-any_moment : goal.returns-in-Err-clause-any_moment
returns-in-Err-clause-any_moment g c = λ source tells. nothing_yet g.D.Disk g.met.D.Disk.only_now c.args.disk.now c.args.file (take (length c.args.piece.now) (drop c.args.at (contents_of (g.A.Disk.held c.args.source.now) c.args.file)))

pub returns-in-Err-clause-looks : goal.returns-in-Err-clause-looks
returns-in-Err-clause-looks g c = looked g.A.Disk g.met.A.Disk.only_now c.args.source.now c.read.new.self c.read.result c.read.ensures.cause c.read.ensures.held c.read.ensures.wrapped c.read.ensures.time

pub returns-in_err-append-clause-any_moment : goal.returns-in_err-append-clause-any_moment
returns-in_err-append-clause-any_moment g c = λ source tells.
    appended g.D.Disk g.met.D.Disk.only_now c.args.disk.now c.append.new.self c.args.file c.read.new.buffer (take (length c.args.piece.now) (drop c.args.at (contents_of (g.A.Disk.held c.args.source.now) c.args.file))) c.append.result
    (c.in-Ok.ensures.bytes source) c.append.ensures.time (c.append.ensures.held tells)

pub returns-in_err-append-clause-looks : goal.returns-in_err-append-clause-looks
returns-in_err-append-clause-looks g c = looked g.A.Disk g.met.A.Disk.only_now c.args.source.now c.read.new.self c.read.result c.read.ensures.cause c.read.ensures.held c.read.ensures.wrapped c.read.ensures.time

pub returns-clause-any_moment : goal.returns-clause-any_moment
returns-clause-any_moment g c = λ source tells.
    appended g.D.Disk g.met.D.Disk.only_now c.args.disk.now c.append.new.self c.args.file c.read.new.buffer (take (length c.args.piece.now) (drop c.args.at (contents_of (g.A.Disk.held c.args.source.now) c.args.file))) c.append.result
    (c.in-Ok.ensures.bytes source) c.append.ensures.time (c.append.ensures.held tells)

pub returns-clause-looks : goal.returns-clause-looks
returns-clause-looks g c = looked g.A.Disk g.met.A.Disk.only_now c.args.source.now c.read.new.self c.read.result c.read.ensures.cause c.read.ensures.held c.read.ensures.wrapped c.read.ensures.time
