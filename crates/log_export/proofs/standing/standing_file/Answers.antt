-- Meta, the index, the volumes and the wrapped files are looked at one after another.
use Rattle.archive_loading.proofs.Looking.{looked, looks_on}
use Rattle.log_export.proofs.standing.standing_file.Goals as goal

pub returns-in_err-meta-clause-looks : goal.returns-in_err-meta-clause-looks
returns-in_err-meta-clause-looks g c = looked g.D.Disk g.met.D.Disk.only_now c.args.disk.now c.len.new.self c.len.result c.len.ensures.cause c.len.ensures.held c.len.ensures.wrapped c.len.ensures.time

pub returns-then-meta-gt0-clause-looks : goal.returns-then-meta-gt0-clause-looks
returns-then-meta-gt0-clause-looks g c = looked g.D.Disk g.met.D.Disk.only_now c.args.disk.now c.len.new.self c.len.result c.len.ensures.cause c.len.ensures.held c.len.ensures.wrapped c.len.ensures.time

pub returns-in_err-index-clause-looks : goal.returns-in_err-index-clause-looks
returns-in_err-index-clause-looks g c =
    let first = looked g.D.Disk g.met.D.Disk.only_now c.args.disk.now c.len.new.self c.len.result c.len.ensures.cause c.len.ensures.held c.len.ensures.wrapped c.len.ensures.time in
    let second = looked g.D.Disk g.met.D.Disk.only_now c.len.new.self c.len-2.new.self c.len-2.result c.len-2.ensures.cause c.len-2.ensures.held c.len-2.ensures.wrapped c.len-2.ensures.time in
    looks_on g.D.Disk c.args.disk.now c.len.new.self c.len-2.new.self first second

pub returns-then-index-gt0-clause-looks : goal.returns-then-index-gt0-clause-looks
returns-then-index-gt0-clause-looks g c =
    let first = looked g.D.Disk g.met.D.Disk.only_now c.args.disk.now c.len.new.self c.len.result c.len.ensures.cause c.len.ensures.held c.len.ensures.wrapped c.len.ensures.time in
    let second = looked g.D.Disk g.met.D.Disk.only_now c.len.new.self c.len-2.new.self c.len-2.result c.len-2.ensures.cause c.len-2.ensures.held c.len-2.ensures.wrapped c.len-2.ensures.time in
    looks_on g.D.Disk c.args.disk.now c.len.new.self c.len-2.new.self first second

pub returns-in_err-number-clause-looks : goal.returns-in_err-number-clause-looks
returns-in_err-number-clause-looks g c =
    let first = looked g.D.Disk g.met.D.Disk.only_now c.args.disk.now c.len.new.self c.len.result c.len.ensures.cause c.len.ensures.held c.len.ensures.wrapped c.len.ensures.time in
    let second = looked g.D.Disk g.met.D.Disk.only_now c.len.new.self c.len-2.new.self c.len-2.result c.len-2.ensures.cause c.len-2.ensures.held c.len-2.ensures.wrapped c.len-2.ensures.time in
    looks_on g.D.Disk c.args.disk.now c.len-2.new.self c.lowest_volume.new.disk (looks_on g.D.Disk c.args.disk.now c.len.new.self c.len-2.new.self first second) c.lowest_volume.ensures.looks

pub returns-in-Some-clause-looks : goal.returns-in-Some-clause-looks
returns-in-Some-clause-looks g c =
    let first = looked g.D.Disk g.met.D.Disk.only_now c.args.disk.now c.len.new.self c.len.result c.len.ensures.cause c.len.ensures.held c.len.ensures.wrapped c.len.ensures.time in
    let second = looked g.D.Disk g.met.D.Disk.only_now c.len.new.self c.len-2.new.self c.len-2.result c.len-2.ensures.cause c.len-2.ensures.held c.len-2.ensures.wrapped c.len-2.ensures.time in
    looks_on g.D.Disk c.args.disk.now c.len-2.new.self c.lowest_volume.new.disk (looks_on g.D.Disk c.args.disk.now c.len.new.self c.len-2.new.self first second) c.lowest_volume.ensures.looks

pub returns-clause-looks : goal.returns-clause-looks
returns-clause-looks g c =
    let first = looked g.D.Disk g.met.D.Disk.only_now c.args.disk.now c.len.new.self c.len.result c.len.ensures.cause c.len.ensures.held c.len.ensures.wrapped c.len.ensures.time in
    let second = looked g.D.Disk g.met.D.Disk.only_now c.len.new.self c.len-2.new.self c.len-2.result c.len-2.ensures.cause c.len-2.ensures.held c.len-2.ensures.wrapped c.len-2.ensures.time in
    let third = looks_on g.D.Disk c.args.disk.now c.len-2.new.self c.lowest_volume.new.disk (looks_on g.D.Disk c.args.disk.now c.len.new.self c.len-2.new.self first second) c.lowest_volume.ensures.looks in
    looks_on g.D.Disk c.args.disk.now c.lowest_volume.new.disk c.wrapped.new.self third
    (looked g.D.Disk g.met.D.Disk.only_now c.lowest_volume.new.disk c.wrapped.new.self c.wrapped.result c.wrapped.ensures.cause c.wrapped.ensures.held c.wrapped.ensures.wrapped c.wrapped.ensures.time)
