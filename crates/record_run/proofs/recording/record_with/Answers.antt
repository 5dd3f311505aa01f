-- A recording over any files.
use Rattle.std.proofs.Common.{◌≡◌, ◌≢◌, ◌⊎◌, inl, inr, refl, sym, ◌∙◌, subst}
use Rattle.script_runs.specs.declared.ending.Ending.{Ending}
use Rattle.script_runs.specs.declared.ending.Ending.TheVariants as ends
use Rattle.record_run.proofs.Recovered.{record_ended, record_refused, record_unbegun}
use Rattle.record_run.proofs.Undone.{ended_undone, wanting_undone}
use Rattle.record_run.proofs.recording.record_with.Goals as goal

-- what would end so anyway ends so
wants_still : (e : Ending) (P : Type 0) → (e ≡ ends.NoMemory) ⊎ (P × (e ≡ ends.NoMemory)) → e ≡ ends.NoMemory
wants_still e P (inl is) = is
wants_still e P (inr (other, is)) = is

pub returns-in_default-clause-records : goal.returns-in_default-clause-records
returns-in_default-clause-records g c =
    let r = c.unrecorded.result in
    record_unbegun g.C.Clock g.D.Disk g.met.D.Disk.only_now g.met.D.Disk.counts_now c.args.clock.now c.args.clock.now c.args.script.now c.args.volume c.args.samples c.args.server.now c.args.seat.now.tokens c.unrecorded.new.seat.tokens c.args.disk.now r c.args.disk.now
    c.requires.some (c.unrecorded.ensures.beside wanting_undone) c.unrecorded.ensures.output c.unrecorded.ensures.logged refl (wants_still r.ending (ends.NoMemory ≢ ends.DiskFault) c.unrecorded.ensures.ending)

pub returns-in-Ok-recover-clause-records : goal.returns-in-Ok-recover-clause-records
returns-in-Ok-recover-clause-records g c =
    let told = c.in-Ok-recover in
    record_ended g.C.Clock g.D.Disk g.met.D.Disk.only_now g.met.D.Disk.counts_now c.args.clock.now c.record_over.new.clock c.args.script.now c.args.volume c.args.samples c.args.server.now c.args.seat.now.tokens c.record_over.new.seat.tokens c.args.disk.now c.record_over.result
    c.recover.new.disk c.record_over.new.disk told.archive c.record_over.ensures.records
    (λ tells. record { unwrapped = told.ensures.unwrapped tells; w = told.ensures.recovered tells; sure = told.ensures.sure tells; half = c.recover.ensures.any_moment tells })

pub returns-in-Err-clause-records : goal.returns-in-Err-clause-records
returns-in-Err-clause-records g c =
    let r = c.unrecorded-in-Err.result in
    record_refused g.C.Clock g.D.Disk g.met.D.Disk.only_now g.met.D.Disk.counts_now c.args.clock.now c.args.clock.now c.args.script.now c.args.volume c.args.samples c.args.server.now c.args.seat.now.tokens c.unrecorded-in-Err.new.seat.tokens c.args.disk.now r
    c.recover.new.disk c.requires.some (c.unrecorded-in-Err.ensures.beside (λ done. ended_undone c.in-Err.fault (sym c.ending_of-ending.ensures ∙ done))) c.unrecorded-in-Err.ensures.output c.unrecorded-in-Err.ensures.logged
    c.recover.ensures.any_moment c.in-Err.fault c.in-Err.ensures.fault c.in-Err.ensures.kept
    (subst (λ (e : Ending). (r.ending ≡ e) ⊎ ((e ≢ ends.DiskFault) × (r.ending ≡ ends.NoMemory))) c.ending_of-ending.ensures c.unrecorded-in-Err.ensures.ending)
