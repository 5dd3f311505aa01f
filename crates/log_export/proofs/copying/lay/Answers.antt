-- The bytes of the head, then the source's, and a sync.
use Rattle.std.proofs.Common.{ℕ, List, ◌++◌, length, refl, sym}
use Rattle.std.proofs.Math.Seq.{take-length}
use Rattle.pcp_model.specs.Disk.{contents_of}
use Rattle.log_export.specs.Copying.{piece_of}
use Rattle.log_export.proofs.Pieces.{appended_first, becomes_more, run_on, then_synced}
use Rattle.log_export.proofs.copying.lay.Goals as goal

pub returns-in_err-append-clause-any_moment : goal.returns-in_err-append-clause-any_moment
returns-in_err-append-clause-any_moment g c = λ source tells.
    let rest : List ℕ = piece_of c.args.from c.args.to (contents_of (g.A.Disk.held c.args.source.now) c.args.file) in
    appended_first g.D.Disk g.met.D.Disk.only_now c.args.disk.now c.append.new.self c.args.file c.args.head.now rest c.append.result c.append.ensures.time (c.append.ensures.held tells)

pub returns-in_err-copy_between-clause-any_moment : goal.returns-in_err-copy_between-clause-any_moment
returns-in_err-copy_between-clause-any_moment g c = λ source tells.
    let rest : List ℕ = piece_of c.args.from c.args.to (contents_of (g.A.Disk.held c.args.source.now) c.args.file) in
    let first = appended_first g.D.Disk g.met.D.Disk.only_now c.args.disk.now c.append.new.self c.args.file c.args.head.now rest c.append.result c.append.ensures.time (c.append.ensures.held tells) in
    run_on g.D.Disk g.met.D.Disk.only_now c.args.disk.now c.append.new.self c.copy_between.new.disk c.args.file (c.args.head.now ++ rest) c.args.head.now rest (length (c.args.head.now ++ rest)) first (c.in_ok-append.ensures.held tells) (sym (take-length (c.args.head.now ++ rest))) (c.copy_between.ensures.any_moment source tells)

pub returns-in_err-sync-clause-any_moment : goal.returns-in_err-sync-clause-any_moment
returns-in_err-sync-clause-any_moment g c = λ source tells.
    let rest : List ℕ = piece_of c.args.from c.args.to (contents_of (g.A.Disk.held c.args.source.now) c.args.file) in
    let first = appended_first g.D.Disk g.met.D.Disk.only_now c.args.disk.now c.append.new.self c.args.file c.args.head.now rest c.append.result c.append.ensures.time (c.append.ensures.held tells) in
    let second = run_on g.D.Disk g.met.D.Disk.only_now c.args.disk.now c.append.new.self c.copy_between.new.disk c.args.file (c.args.head.now ++ rest) c.args.head.now rest (length (c.args.head.now ++ rest)) first (c.in_ok-append.ensures.held tells) (sym (take-length (c.args.head.now ++ rest))) (c.copy_between.ensures.any_moment source tells) in
    then_synced g.D.Disk g.met.D.Disk.only_now c.args.disk.now c.copy_between.new.disk c.sync.new.self c.args.file (c.args.head.now ++ rest) c.sync.result second
    (becomes_more c.args.file c.args.head.now rest (c.args.head.now ++ rest) (g.D.Disk.held c.args.disk.now) (g.D.Disk.held c.append.new.self) (g.D.Disk.held c.copy_between.new.disk) (c.in_ok-append.ensures.held tells) (c.in_ok-copy_between.ensures.copied source tells) refl)
    c.sync.ensures.time (c.sync.ensures.held tells)

pub returns-clause-any_moment : goal.returns-clause-any_moment
returns-clause-any_moment g c = λ source tells.
    let rest : List ℕ = piece_of c.args.from c.args.to (contents_of (g.A.Disk.held c.args.source.now) c.args.file) in
    let first = appended_first g.D.Disk g.met.D.Disk.only_now c.args.disk.now c.append.new.self c.args.file c.args.head.now rest c.append.result c.append.ensures.time (c.append.ensures.held tells) in
    let second = run_on g.D.Disk g.met.D.Disk.only_now c.args.disk.now c.append.new.self c.copy_between.new.disk c.args.file (c.args.head.now ++ rest) c.args.head.now rest (length (c.args.head.now ++ rest)) first (c.in_ok-append.ensures.held tells) (sym (take-length (c.args.head.now ++ rest))) (c.copy_between.ensures.any_moment source tells) in
    then_synced g.D.Disk g.met.D.Disk.only_now c.args.disk.now c.copy_between.new.disk c.sync.new.self c.args.file (c.args.head.now ++ rest) c.sync.result second
    (becomes_more c.args.file c.args.head.now rest (c.args.head.now ++ rest) (g.D.Disk.held c.args.disk.now) (g.D.Disk.held c.append.new.self) (g.D.Disk.held c.copy_between.new.disk) (c.in_ok-append.ensures.held tells) (c.in_ok-copy_between.ensures.copied source tells) refl)
    c.sync.ensures.time (c.sync.ensures.held tells)
