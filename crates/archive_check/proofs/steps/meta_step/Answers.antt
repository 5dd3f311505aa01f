use Rattle.std.proofs.Common.{◌+◌, ℕ, List, [], ◌∷◌, ◌++◌, length, sym, ap, ◌∙◌, subst}
use Rattle.std.specs.Prelude.{option_to_list}
use Rattle.pcp_base.specs.declared.file.FileId.TheVariants.{Meta}
use Rattle.pcp_model.specs.declared.records.MetaRecord.{MetaRecord}
use Rattle.pcp_model.specs.Disk.{contents_of}
use Rattle.archive_meta.specs.Records.{AreRecords}
use Rattle.archive_loading.specs.Standing.{IsSized, WasTaken, IsTaken, FitsIn}
use Rattle.archive_check.specs.Stamped.{IsAt}
use Rattle.archive_check.proofs.Places.{ended, never_wrong, meta_frame}
use Rattle.archive_check.proofs.steps.meta_step.Goals as goal

pub returns-in-Torn-clause-found : goal.returns-in-Torn-clause-found
returns-in-Torn-clause-found g c = λ tells records front p.
    let bytes : List ℕ = contents_of (g.D.Disk.held c.args.disk.now) Meta in
    ended Meta bytes records c.args.at front p (subst (IsTaken bytes c.args.at c.take_frame.new.frame.items) c.in-Torn.is (c.in_ok-take_frame.ensures.taken tells))

pub returns-in-Wrong-clause-found : goal.returns-in-Wrong-clause-found
returns-in-Wrong-clause-found g c = λ tells records front p.
    let bytes : List ℕ = contents_of (g.D.Disk.held c.args.disk.now) Meta in
    let wrong = subst (IsTaken bytes c.args.at c.take_frame.new.frame.items) c.in-Wrong.is (c.in_ok-take_frame.ensures.taken tells) in
    absurd (never_wrong Meta bytes records c.args.at front p wrong.0 wrong.1)

pub stamp_in-requires : goal.stamp_in-requires
stamp_in-requires g c = subst IsSized (sym c.deref.ensures.value) (subst (FitsIn c.args.end c.args.at c.take_frame.new.frame.items) c.in-Frame.is c.in_ok-take_frame.ensures.within).0

pub returns-in-Frame-clause-found : goal.returns-in-Frame-clause-found
returns-in-Frame-clause-found g c = λ tells records front p.
    let bytes : List ℕ = contents_of (g.D.Disk.held c.args.disk.now) Meta in
    let taken : WasTaken bytes c.args.at c.take_frame.new.frame.items = subst (IsTaken bytes c.args.at c.take_frame.new.frame.items) c.in-Frame.is (c.in_ok-take_frame.ensures.taken tells) in
    let says = λ (rs : List MetaRecord) (are : AreRecords c.take_frame.new.frame.items rs). c.stamp_in.ensures rs (subst (λ f. AreRecords f rs) (sym c.deref.ensures.value) are) in
    subst (λ n. IsAt Meta bytes records n (front ++ option_to_list c.stamp_in.result ∷ [])) (sym (ap (λ n. c.args.at + n) (c.len.ensures ∙ sym c.deref.ensures.len ∙ ap length c.deref.ensures.value))) (meta_frame bytes records c.args.at front p c.take_frame.new.frame.items taken c.stamp_in.result says)
