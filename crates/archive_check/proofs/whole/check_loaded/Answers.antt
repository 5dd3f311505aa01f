use Rattle.std.proofs.Common.{◌∙◌, sym, ap, subst}
use Rattle.std.specs.Option.{option_copied}
use Rattle.pcp_model.specs.Disk.{contents_of}
use Rattle.archive_loading.specs.Loaded.{Loaded}
use Rattle.archive_check.specs.Verdicts.{IsVerdict}
use Rattle.archive_check.proofs.Judging.{loaded_sound, loaded_breach}
use Rattle.archive_check.proofs.whole.check_loaded.Goals as goal

pub returns-in-Sound-clause-sound : goal.returns-in-Sound-clause-sound
returns-in-Sound-clause-sound g c = λ tells.
    let files = contents_of (g.D.Disk.held c.args.disk.now) in
    let r : Loaded = c.args.reader.now in
    let labelled = sym c.label.ensures ∙ ap option_copied c.in-Some.is in
    let told = subst (λ h. IsVerdict (contents_of h) c.volumes.result.now c.index.result.now c.in_ok-count.field-0) (c.read_all.ensures.looks.held tells) (c.in_ok-count.ensures.verdict tells) in
    loaded_sound files r c.in-Some.field-0.now c.volumes.result.now c.index.result.now labelled (c.requires.over tells) (c.in_ok-read_all.ensures.read tells) c.volumes.ensures c.index.ensures c.in_ok-count.field-0 c.in-Sound.count c.in-Sound.is told

pub returns-in-Unsound-clause-fault : goal.returns-in-Unsound-clause-fault
returns-in-Unsound-clause-fault g c = λ tells.
    let files = contents_of (g.D.Disk.held c.args.disk.now) in
    let r : Loaded = c.args.reader.now in
    let labelled = sym c.label.ensures ∙ ap option_copied c.in-Some.is in
    let told = subst (λ h. IsVerdict (contents_of h) c.volumes.result.now c.index.result.now c.in_ok-count.field-0) (c.read_all.ensures.looks.held tells) (c.in_ok-count.ensures.verdict tells) in
    loaded_breach files r c.in-Some.field-0.now c.volumes.result.now c.index.result.now labelled (c.requires.over tells) (c.in_ok-read_all.ensures.read tells) c.volumes.ensures c.index.ensures c.in_ok-count.field-0 (g.D.Disk.wrapped_file c.args.disk.now) c.in-Unsound.fault c.in-Unsound.is (c.requires.unwrapped tells) c.in_ok-count.ensures.told told
