use Rattle.std.proofs.Common.{◌≡◌, ◌+◌, ◌-◌, ◌<◌, ◌≤◌, ℕ, List, sym, ◌∙◌, subst, arith}
use Rattle.pcp_base.specs.Fields.{number_at}
use Rattle.pcp_base.specs.declared.file.FileId.TheVariants.{Volume}
use Rattle.pcp_model.specs.Disk.{contents_of}
use Rattle.archive_frame.specs.Steps.{IsSize}
use Rattle.archive_loading.specs.Ending.{IsTailed, IsWholeRecord}
use Rattle.archive_loading.proofs.Endings.{last_alone, none_before, none_wrong, is_tailed, last_there}
use Rattle.archive_loading.proofs.backward.last_by.Goals as goal

pub returns-in-Torn-clause-found : goal.returns-in-Torn-clause-found
returns-in-Torn-clause-found g c = λ tells.
    none_before (contents_of (g.D.Disk.held c.args.disk.now) (Volume c.args.number)) c.args.tail.now c.args.at (c.requires.there tells).1 (subst (λ w. c.args.at - 132 < w) c.word_of.ensures c.in-Torn.ensures.1)

pub returns-in-Torn-clause-count : goal.returns-in-Torn-clause-count
returns-in-Torn-clause-count g c = λ tells.
    last_alone (contents_of (g.D.Disk.held c.args.disk.now) (Volume c.args.number)) c.args.at (g.D.Disk.taken c.args.disk.now) (g.D.Disk.taken c.args.disk.now) c.requires.above (omega arith)

pub returns-in-Wrong-clause-found : goal.returns-in-Wrong-clause-found
returns-in-Wrong-clause-found g c = λ tells.
    none_wrong (contents_of (g.D.Disk.held c.args.disk.now) (Volume c.args.number)) c.args.tail.now c.args.at (c.requires.there tells).1 (λ s. c.in-Wrong.ensures (subst IsSize (sym c.word_of.ensures) s))

pub returns-in-Wrong-clause-count : goal.returns-in-Wrong-clause-count
returns-in-Wrong-clause-count g c = λ tells.
    last_alone (contents_of (g.D.Disk.held c.args.disk.now) (Volume c.args.number)) c.args.at (g.D.Disk.taken c.args.disk.now) (g.D.Disk.taken c.args.disk.now) c.requires.above (omega arith)

pub returns-in_ok-last-in-Whole-clause-found : goal.returns-in_ok-last-in-Whole-clause-found
returns-in_ok-last-in-Whole-clause-found g c = λ tells.
    let bytes : List ℕ = contents_of (g.D.Disk.held c.args.disk.now) (Volume c.args.number) in
    let tail : List ℕ = c.args.tail.now in
    let frame : List ℕ = c.in_ok-frame-in-Whole.frame in
    let size : ℕ = c.in-Whole.size in
    let there = c.requires.there tells in
    let whole = c.in_ok-frame-in-Whole.ensures.frame tells in
    let sized : IsSize size = subst IsSize (sym c.in-Whole.ensures.0) c.in-Whole.ensures.1 in
    let above : 132 + size ≤ c.args.at = omega (arith, c.in-Whole.ensures.0, c.in-Whole.ensures.2, c.requires.above) in
    let says : size ≡ number_at tail 0 = c.in-Whole.ensures.0 ∙ c.word_of.ensures in
    let tailed : IsTailed frame = is_tailed bytes tail frame c.args.at size there.1 c.requires.word whole sized above there.0 says in
    let read = subst (λ f. IsWholeRecord f (c.args.at - size) c.in_ok-last-in-Whole.last) c.as_slice.ensures (c.in_ok-last-in-Whole.ensures (subst IsTailed (sym c.as_slice.ensures) tailed)) in
    last_there bytes tail frame c.args.at size there.1 c.requires.word whole sized above there.0 says c.in_ok-last-in-Whole.last read
