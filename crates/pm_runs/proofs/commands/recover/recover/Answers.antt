-- What recovery tells, as a line; or why there is none.
use Rattle.std.proofs.Common.{rules}
use Rattle.pm_runs.proofs.Mended.{mended_meets, refused_meets, unsaid_meets}
use Rattle.pm_runs.proofs.commands.recover.recover.Goals as goal

pub returns-in_err-archive : goal.returns-in_err-archive
returns-in_err-archive g c = record {
  meets = λ input.
      let meets = refused_meets g.D.Disk c.args.disk.now c.recover.new.disk input c.recover.ensures.any_moment c.recover.ensures.unread c.in_err-archive.field-0.0 c.in_err-archive.ensures.fault c.in_err-archive.ensures.kept c.in_err-archive.ensures.cause in
      search (rules, meets);
}

pub returns-in_err-line : goal.returns-in_err-line
returns-in_err-line g c = record {
  meets = λ input.
      let meets = unsaid_meets g.D.Disk c.args.disk.now c.recover.new.disk input c.recover.ensures.any_moment c.recover.ensures.unread c.in_ok-archive.archive c.in_ok-archive.ensures.recovered c.in_ok-archive.ensures.sure in
      search (rules, meets);
}

pub returns : goal.returns
returns g c = record {
  meets = λ input.
      mended_meets g.D.Disk c.args.disk.now c.recover.new.disk input c.recover.ensures.any_moment c.recover.ensures.unread c.in_ok-archive.archive c.in_ok-archive.ensures.recovered c.in_ok-archive.ensures.sure c.in_ok-line.line c.in_ok-archive.ensures.quiet c.in_ok-archive.ensures.unwrapped c.in_ok-line.ensures;
}
