-- The sets of both are taken, or the reading of one breaks off.
use Rattle.std.proofs.Common.{inl, inr, List, [], refl, sym, subst, ◌∙◌, rules}
use Rattle.pcp_base.specs.declared.result.ValueSet.{ValueSet}
use Rattle.pcp_model.specs.Disk.{Files, contents_of}
use Rattle.archive_check.specs.declared.fault.CheckFault.TheVariants.{Reader}
use Rattle.archive_loading.proofs.Looking.{looks_none}
use Rattle.log_extract.specs.declared.fault.ExtractFault.TheVariants.{Source}
use Rattle.log_extract.specs.Cursors.{TakesStamp}
use Rattle.log_extract.specs.Logging.{BlamesSources, IsOfSource, QuietBut}
use Rattle.log_extract.proofs.Stamps.{parted_so, took_both}
use Rattle.log_extract.proofs.taking.take_both.Goals as goal

pub returns-in-Err-clause-broken : goal.returns-in-Err-clause-broken
returns-in-Err-clause-broken g c =
    subst (BlamesSources g.A.Disk g.B.Disk c.args.first_disk.now c.take_stamp.new.disk c.args.second_disk.now c.args.second_disk.now) (sym c.source_fault.ensures) (inl (refl, c.in-Err.ensures.broken))

pub returns-in-Err-clause-kinds : goal.returns-in-Err-clause-kinds
returns-in-Err-clause-kinds g c = subst IsOfSource (sym c.source_fault.ensures) tt

pub returns-in-Err-clause-second_looks : goal.returns-in-Err-clause-second_looks
returns-in-Err-clause-second_looks g c = looks_none g.B.Disk g.met.B.Disk.only_now c.args.second_disk.now

pub returns-in-Err-take_stamp-clause-broken : goal.returns-in-Err-take_stamp-clause-broken
returns-in-Err-take_stamp-clause-broken g c =
    let why : BlamesSources g.A.Disk g.B.Disk c.args.first_disk.now c.take_stamp.new.disk c.args.second_disk.now c.take_stamp-2.new.disk (Source 2 (Reader c.in-Err-take_stamp.fault)) = inr (refl, c.in-Err-take_stamp.ensures.broken) in
    search (rules, why)

pub returns-in-Err-take_stamp-clause-kinds : goal.returns-in-Err-take_stamp-clause-kinds
returns-in-Err-take_stamp-clause-kinds g c =
    let why : IsOfSource (Source 2 (Reader c.in-Err-take_stamp.fault)) = tt in
    search (rules, why)

pub returns-in-Err-clause-others_quiet : goal.returns-in-Err-clause-others_quiet
returns-in-Err-clause-others_quiet g c =
    subst (QuietBut g.A.Disk g.B.Disk c.args.first_disk.now c.take_stamp.new.disk c.args.second_disk.now c.args.second_disk.now) (sym c.source_fault.ensures) (inl (refl, refl))

pub returns-in-Err-take_stamp-clause-others_quiet : goal.returns-in-Err-take_stamp-clause-others_quiet
returns-in-Err-take_stamp-clause-others_quiet g c =
    let why : QuietBut g.A.Disk g.B.Disk c.args.first_disk.now c.take_stamp.new.disk c.args.second_disk.now c.take_stamp-2.new.disk (Source 2 (Reader c.in-Err-take_stamp.fault)) = inr (refl, c.in-Ok.ensures.quiet) in
    search (rules, why)

pub returns-in-Ok-take_stamp-clause-parted : goal.returns-in-Ok-take_stamp-clause-parted
returns-in-Ok-take_stamp-clause-parted g c =
    let (more, is) = c.in-Ok-take_stamp.ensures.grown in
    parted_so c.in-Ok.ours more c.into_list.result c.len-count.result (c.into_list.ensures ∙ is) c.len-count.ensures

pub returns-in-Ok-take_stamp-clause-takes : goal.returns-in-Ok-take_stamp-clause-takes
returns-in-Ok-take_stamp-clause-takes g c = λ xs ys left low other.
    let files : Files = contents_of (g.A.Disk.held c.args.first_disk.now) in
    let others : Files = contents_of (g.B.Disk.held c.args.second_disk.now) in
    let one : TakesStamp files c.args.t xs [] c.in-Ok.ours c.take_stamp.new.cursor =
    subst (λ (s : List ValueSet). TakesStamp files c.args.t xs s c.in-Ok.ours c.take_stamp.new.cursor) c.empty.ensures (c.in-Ok.ensures.takes left.first_tells xs left.first_left low left.first_rises) in
    let two : TakesStamp others c.args.t ys c.in-Ok.ours c.into_list.result c.take_stamp-2.new.cursor =
    subst (λ (s : List ValueSet). TakesStamp others c.args.t ys c.in-Ok.ours s c.take_stamp-2.new.cursor) (sym c.into_list.ensures) (c.in-Ok-take_stamp.ensures.takes left.second_tells ys left.second_left other left.second_rises) in
    took_both files others c.args.t xs ys c.in-Ok.ours c.into_list.result c.len-count.result c.take_stamp.new.cursor c.take_stamp-2.new.cursor one two c.len-count.ensures
