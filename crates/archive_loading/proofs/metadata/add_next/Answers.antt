use Rattle.std.proofs.Common.{◌≡◌, ℕ, ◌+◌, ◌-◌, ◌≤◌, List, length, refl, sym, ap, ◌∙◌, subst, arith}
use Rattle.pcp_base.specs.declared.file.FileId.TheVariants.{Meta}
use Rattle.pcp_model.specs.Disk.{contents_of}
use Rattle.archive_loading.specs.Standing.{IsTaken, WasTaken}
use Rattle.archive_loading.proofs.Loads.{when_true, when_false}
use Rattle.archive_loading.specs.Metadata.{FrameIsAdded, FrameIsBad}
use Rattle.archive_loading.proofs.MetaSteps.{torn_behind, not_torn_behind, no_frame_fits, frame_not_torn, bad_fits, frame_stands}
use Rattle.archive_loading.proofs.metadata.add_next.Goals as goal

pub returns-in-Torn-clause-added : goal.returns-in-Torn-clause-added
returns-in-Torn-clause-added g c = λ tells.
    let bytes : List ℕ = contents_of (g.D.Disk.held c.args.disk.now) Meta in
    let k : ℕ = c.args.at - 132 in
    let behind : c.args.at ≡ 132 + k = omega (arith, c.requires.behind) in
    let long : 132 ≤ length bytes = omega (arith, (c.requires.long tells).0, (c.requires.long tells).1) in
    (refl, refl, torn_behind bytes c.args.at k behind long (subst (IsTaken bytes c.args.at c.take_frame.new.frame.items) c.in-Torn.is (c.in_ok-take_frame.ensures.taken tells)))

pub returns-in-Wrong-clause-added : goal.returns-in-Wrong-clause-added
returns-in-Wrong-clause-added g c = λ tells.
    let bytes : List ℕ = contents_of (g.D.Disk.held c.args.disk.now) Meta in
    let k : ℕ = c.args.at - 132 in
    let behind : c.args.at ≡ 132 + k = omega (arith, c.requires.behind) in
    let long : 132 ≤ length bytes = omega (arith, (c.requires.long tells).0, (c.requires.long tells).1) in
    let none = subst (IsTaken bytes c.args.at c.take_frame.new.frame.items) c.in-Wrong.is (c.in_ok-take_frame.ensures.taken tells) in
    (no_frame_fits bytes c.args.at k behind long c.args.meta.now none.0, not_torn_behind bytes c.args.at k behind long none.1)

pub returns-then-added-clause-added : goal.returns-then-added-clause-added
returns-then-added-clause-added g c = λ tells.
    let bytes : List ℕ = contents_of (g.D.Disk.held c.args.disk.now) Meta in
    let k : ℕ = c.args.at - 132 in
    let behind : c.args.at ≡ 132 + k = omega (arith, c.requires.behind) in
    let long : 132 ≤ length bytes = omega (arith, (c.requires.long tells).0, (c.requires.long tells).1) in
    let taken : WasTaken bytes c.args.at c.take_frame.new.frame.items = subst (IsTaken bytes c.args.at c.take_frame.new.frame.items) c.in-Frame.is (c.in_ok-take_frame.ensures.taken tells) in
    let told = when_true (FrameIsAdded c.deref.result.now c.args.meta.now c.add_frame.new.meta c.args.last.now c.add_frame.new.last) (FrameIsBad c.deref.result.now c.args.meta.now c.add_frame.new.meta) c.in_ok-added.added c.in_ok-added.ensures c.if-added.true in
    frame_stands bytes c.args.at k behind long c.take_frame.new.frame.items taken c.args.meta.now c.add_frame.new.meta c.args.last.now c.add_frame.new.last (c.args.at + c.len.result) (ap (λ n. c.args.at + n) (c.len.ensures ∙ sym c.deref.ensures.len ∙ ap length c.deref.ensures.value))
    (subst (λ f. FrameIsAdded f c.args.meta.now c.add_frame.new.meta c.args.last.now c.add_frame.new.last) c.deref.ensures.value told)

pub returns-clause-added : goal.returns-clause-added
returns-clause-added g c = λ tells.
    let bytes : List ℕ = contents_of (g.D.Disk.held c.args.disk.now) Meta in
    let k : ℕ = c.args.at - 132 in
    let behind : c.args.at ≡ 132 + k = omega (arith, c.requires.behind) in
    let long : 132 ≤ length bytes = omega (arith, (c.requires.long tells).0, (c.requires.long tells).1) in
    let taken : WasTaken bytes c.args.at c.take_frame.new.frame.items = subst (IsTaken bytes c.args.at c.take_frame.new.frame.items) c.in-Frame.is (c.in_ok-take_frame.ensures.taken tells) in
    let told = when_false (FrameIsAdded c.deref.result.now c.args.meta.now c.add_frame.new.meta c.args.last.now c.add_frame.new.last) (FrameIsBad c.deref.result.now c.args.meta.now c.add_frame.new.meta) c.in_ok-added.added c.in_ok-added.ensures c.if-added.false in
    (bad_fits bytes c.args.at k behind long c.take_frame.new.frame.items taken c.args.meta.now c.add_frame.new.meta (subst (λ f. FrameIsBad f c.args.meta.now c.add_frame.new.meta) c.deref.ensures.value told), frame_not_torn bytes c.args.at k behind long c.take_frame.new.frame.items taken)
