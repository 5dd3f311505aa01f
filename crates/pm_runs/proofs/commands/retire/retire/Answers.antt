-- The line is made, the files are mended, and the lowest volumes emptied; or which of these fails.
use Rattle.std.proofs.Common.{rules, ◌∙◌}
use Rattle.pcp_model.specs.Disk.{contents_of}
use Rattle.pm_runs.proofs.Retired.{refused_meets, retired_meets, unemptied_meets, unmade_meets}
use Rattle.pm_runs.proofs.commands.retire.retire.Goals as goal

pub returns-in_err-line : goal.returns-in_err-line
returns-in_err-line g c = record {
  meets = λ input.
      let meets = unmade_meets g.D.Disk c.args.below input g.met.D.Disk.only_now c.args.disk.now in
      search (rules, meets);
}

pub returns-in_err-archive : goal.returns-in_err-archive
returns-in_err-archive g c = record {
  meets = λ input.
      let meets = refused_meets g.D.Disk c.args.below input c.args.disk.now c.recover.new.disk c.recover.ensures.any_moment c.recover.ensures.unread c.in_err-archive.field-0.0 c.in_err-archive.ensures.fault c.in_err-archive.ensures.kept c.in_err-archive.ensures.cause in
      search (rules, meets);
}

pub returns-in_err-empty_below : goal.returns-in_err-empty_below
returns-in_err-empty_below g c = record {
  meets = λ input.
      let meets =
      unemptied_meets g.D.Disk c.args.below input g.met.D.Disk.only_now g.met.D.Disk.counts_now c.args.disk.now c.recover.new.disk c.empty_below.new.disk c.in_ok-archive.archive c.recover.ensures.any_moment c.in_ok-archive.ensures.recovered c.in_ok-archive.ensures.sure
      c.in_ok-archive.ensures.unwrapped
      (λ tells. c.empty_below.ensures.any_moment tells (record { files = contents_of (g.D.Disk.held c.args.disk.now); recovered = c.in_ok-archive.ensures.recovered tells; sure = c.in_ok-archive.ensures.sure tells })) c.in_err-empty_below.field-0.0
      c.recover.ensures.later c.in_err-empty_below.ensures.stops in
      search (rules, meets);
}

pub returns : goal.returns
returns g c = record {
  meets = λ input.
      retired_meets g.D.Disk c.args.below input g.met.D.Disk.only_now g.met.D.Disk.counts_now c.args.disk.now c.recover.new.disk c.empty_below.new.disk c.in_ok-archive.archive c.recover.ensures.any_moment c.in_ok-archive.ensures.recovered c.in_ok-archive.ensures.sure
      c.in_ok-archive.ensures.unwrapped
      (λ tells. c.empty_below.ensures.any_moment tells (record { files = contents_of (g.D.Disk.held c.args.disk.now); recovered = c.in_ok-archive.ensures.recovered tells; sure = c.in_ok-archive.ensures.sure tells })) c.in_ok-empty_below.ensures.emptied
      c.in_ok-empty_below.ensures.allowed.0 c.in_ok-empty_below.ensures.allowed.1 c.in_ok-line.line c.in_ok-line.ensures (c.in_ok-empty_below.ensures.quiet ∙ c.in_ok-archive.ensures.quiet);
}
