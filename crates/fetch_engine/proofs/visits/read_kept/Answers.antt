-- One try more was refused.
use Rattle.std.proofs.Common.{rules, ◌≡◌, ◌<◌}
use Rattle.region_rule.specs.declared.fault.ReadFault.TheVariants.{Again}
use Rattle.fetch_engine.proofs.Tries.{fails_by, loaded_trans, shows_told}
use Rattle.fetch_engine.proofs.visits.read_kept.Goals as goal

pub loop-tries-preserved : goal.loop-tries-preserved
loop-tries-preserved c =
    let is : c.in-Err-Again.field-0 ≡ Again c.in-Err-Again.field-0-0 c.in-Err-Again.field-0-1 = search rules in
    let more = fails_by c.args.kept.now c.loop-tries.kept c.try_region.new.kept c.loop-tries._tries c.args.pass.now c.loop-tries.pass c.try_region.new.pass c.in-Err-Again.field-0 c.in-Err-Again.field-0-0
    c.in-Err-Again.field-0-1 c.loop-tries.invariant.failed c.loop-tries.invariant.same c.in-Err-Again.ensures.reads c.in-Err-Again.ensures.stays is in
    record { failed = more.0; same = more.1; kept = c.in-Err-Again.ensures.kept }

pub returns-in-Ok-clause-loads : goal.returns-in-Ok-clause-loads
returns-in-Ok-clause-loads c = loaded_trans c.args.pass.now c.loop-tries.pass c.try_region.new.pass c.loop-tries.invariant.failed.loaded c.in-Ok.ensures.loads

pub returns-in-Err-NoMemory-clause-loads : goal.returns-in-Err-NoMemory-clause-loads
returns-in-Err-NoMemory-clause-loads c = loaded_trans c.args.pass.now c.loop-tries.pass c.try_region.new.pass c.loop-tries.invariant.failed.loaded c.in-Err-NoMemory.ensures.loads

pub returns-in-Ok-clause-read : goal.returns-in-Ok-clause-read
returns-in-Ok-clause-read c =
    let few : c.loop-tries._tries < 3 = search rules in
    shows_told c.args.kept.now c.loop-tries.kept c.try_region.new.kept c.loop-tries._tries c.args.pass.now c.loop-tries.pass c.try_region.new.pass c.in-Ok.how few c.loop-tries.invariant.failed c.in-Ok.ensures.reads
    c.in-Ok.ensures.stays
