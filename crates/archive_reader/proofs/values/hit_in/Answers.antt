use Rattle.std.proofs.Common.{◌∙◌, ℕ, List, drop, subst}
use Rattle.pcp_base.specs.declared.file.FileId.TheVariants.{Volume}
use Rattle.pcp_model.specs.Disk.{contents_of}
use Rattle.archive_loading.proofs.Looking.{looks_on}
use Rattle.archive_reader.specs.Steps.{IsWithin}
use Rattle.archive_reader.proofs.Valued.{passes_on, passes_end, passes_bad}
use Rattle.archive_reader.proofs.values.hit_in.Goals as goal

pub returns-in-End-clause-found : goal.returns-in-End-clause-found
returns-in-End-clause-found g c = λ tells.
    let files = contents_of (g.D.Disk.held c.args.disk.now) in
    let vs : List (ℕ × ℕ) = drop c.args.index c.args.volumes.now in
    let step = subst (λ h. IsWithin (contents_of h) vs c.loop.at c.in_ok-stand_within.field-0) (c.loop.invariant.looks.held tells) (c.in_ok-stand_within.ensures.step tells) in
    passes_end files vs c.args.pmid c.args.t c.loop.found c.loop.at (c.loop.invariant.so_far tells) (subst (IsWithin files vs c.loop.at) c.in-End.is step)

pub returns-in-Bad-clause-fault : goal.returns-in-Bad-clause-fault
returns-in-Bad-clause-fault g c = λ tells.
    let files = contents_of (g.D.Disk.held c.args.disk.now) in
    let vs : List (ℕ × ℕ) = drop c.args.index c.args.volumes.now in
    let step = subst (λ h. IsWithin (contents_of h) vs c.loop.at c.in_ok-stand_within.field-0) (c.loop.invariant.looks.held tells) (c.in_ok-stand_within.ensures.step tells) in
    let bad = subst (IsWithin files vs c.loop.at) c.in-Bad.is step in
    passes_bad files vs c.args.pmid c.args.t c.loop.found c.loop.at (Volume c.in-Bad.number) c.in-Bad.offset (c.loop.invariant.so_far tells) bad.0 bad.1

pub loop-preserved : goal.loop-preserved
loop-preserved g c = record {
  looks = looks_on g.D.Disk c.args.disk.now c.loop.disk c.stand_within.new.disk c.loop.invariant.looks c.stand_within.ensures.looks;
  quiet = c.in_ok-stand_within.ensures.quiet ∙ c.loop.invariant.quiet;
  so_far = λ tells.
      let files = contents_of (g.D.Disk.held c.args.disk.now) in
      let vs : List (ℕ × ℕ) = drop c.args.index c.args.volumes.now in
      let step = subst (IsWithin files vs c.loop.at) c.in-Item.is
      (subst (λ h. IsWithin (contents_of h) vs c.loop.at c.in_ok-stand_within.field-0) (c.loop.invariant.looks.held tells) (c.in_ok-stand_within.ensures.step tells)) in
      passes_on files vs c.args.pmid c.args.t c.loop.found c.loop.at c.in-Item.next c.in-Item.item c.later_hit-found.result c.later_hit-found.ensures (c.loop.invariant.so_far tells) step.0 step.1;
}
