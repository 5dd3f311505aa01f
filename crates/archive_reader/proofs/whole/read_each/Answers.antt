use Rattle.std.proofs.Common.{◌∙◌, ◌<◌, ℕ, List, length, drop, subst, arith}
use Rattle.pcp_base.specs.declared.file.FileId.TheVariants.{Volume}
use Rattle.pcp_model.specs.Disk.{contents_of}
use Rattle.archive_loading.proofs.Looking.{looks_on}
use Rattle.archive_reader.specs.Steps.{IsWalked, IsIn}
use Rattle.archive_reader.specs.Takes.{TookNext}
use Rattle.archive_reader.proofs.Spanned.{Passed, goes_on, all_here, bad_here}
use Rattle.archive_reader.proofs.whole.read_each.Goals as goal

pub returns-in-End-clause-read : goal.returns-in-End-clause-read
returns-in-End-clause-read g c = λ tells.
    let files = contents_of (g.D.Disk.held c.args.disk.now) in
    let volumes : List (ℕ × ℕ) = c.args.volumes.now in
    let so_far = c.loop.invariant.so_far tells in
    let step = subst (λ h. IsWalked (contents_of h) volumes c.loop.index c.loop.at c.in_ok-walk.field-0) (c.loop.invariant.looks.held tells) (c.in_ok-walk.ensures.step tells) in (
      so_far.items,
      all_here files volumes 0 132 (g.D.Disk.taken c.args.disk.now) Passed c.loop.index c.loop.at (g.D.Disk.taken c.loop.disk) so_far (subst (IsWalked files volumes c.loop.index c.loop.at) c.in-End.is step),
    )

pub returns-in-Bad-clause-fault : goal.returns-in-Bad-clause-fault
returns-in-Bad-clause-fault g c = λ tells.
    let files = contents_of (g.D.Disk.held c.args.disk.now) in
    let volumes : List (ℕ × ℕ) = c.args.volumes.now in
    let so_far = c.loop.invariant.so_far tells in
    let step = subst (λ h. IsWalked (contents_of h) volumes c.loop.index c.loop.at c.in_ok-walk.field-0) (c.loop.invariant.looks.held tells) (c.in_ok-walk.ensures.step tells) in (
      so_far.items,
      bad_here files volumes 0 132 (g.D.Disk.taken c.args.disk.now) Passed c.loop.index c.loop.at (g.D.Disk.taken c.loop.disk) so_far (Volume c.in-Bad.number) c.in-Bad.offset
          (subst (IsWalked files volumes c.loop.index c.loop.at) c.in-Bad.is step),
    )

pub loop-preserved : goal.loop-preserved
loop-preserved g c = record {
  within = let lt : c.in-Item.behind < length c.args.volumes.now = subst (IsIn c.args.volumes.now) c.in-Item.is c.in_ok-walk.ensures.within in omega (arith, lt);
  looks = looks_on g.D.Disk c.args.disk.now c.loop.disk c.walk.new.disk c.loop.invariant.looks c.walk.ensures.looks;
  quiet = c.in_ok-walk.ensures.quiet ∙ c.loop.invariant.quiet;
  so_far = λ tells.
      let files = contents_of (g.D.Disk.held c.args.disk.now) in
      let volumes : List (ℕ × ℕ) = c.args.volumes.now in
      let step = subst (λ h. IsWalked (contents_of h) volumes c.loop.index c.loop.at c.in_ok-walk.field-0) (c.loop.invariant.looks.held tells) (c.in_ok-walk.ensures.step tells) in
      let past = subst (λ h. TookNext (contents_of h) (drop c.loop.index volumes) c.loop.at (g.D.Disk.taken c.loop.disk) (g.D.Disk.taken c.walk.new.disk)) (c.loop.invariant.looks.held tells) (c.walk.ensures.count tells) in
      goes_on files volumes 0 132 (g.D.Disk.taken c.args.disk.now) Passed Passed c.loop.index c.loop.at (g.D.Disk.taken c.loop.disk) (g.D.Disk.taken c.walk.new.disk)
      c.in-Item.field-0 c.in-Item.behind c.in-Item.next (c.loop.invariant.so_far tells) (subst (IsWalked files volumes c.loop.index c.loop.at) c.in-Item.is step) past (λ items none. tt);
}
