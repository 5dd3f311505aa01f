-- The set of the part's listed instances decides.
use Rattle.std.proofs.Common.{◌≡◌, true, false, ap, sym, ◌∙◌, w32, to_z, of_z, rules}
use Rattle.std.proofs.lemmas.Int.{to_z-of_z}
use Rattle.std.specs.Option.{option_copied}
use Rattle.std.specs.Ordering.{int_cmp}
use Rattle.std.specs.BTreeSet.{contains}
use Rattle.profile_filter.specs.Kept.{Question, keeps}
use Rattle.profile_filter.proofs.Parts.{keeps_listed}
use Rattle.profile_filter.proofs.choices.Choice.keeps.Goals as goal

pub returns-then-contains : goal.returns-then-contains
returns-then-contains c =
    let same : to_z w32 (of_z w32 c.args.instance) ≡ c.args.instance = to_z-of_z w32 c.args.instance (search rules) in
    keeps_listed c.self.inside.base (option_copied c.self.inside.listed) c.in-Some.listed.now true c.self.inside.profile.now c.self.inside.indom c.args.instance c.self.invariant (ap option_copied c.in-Some.is)
    (sym c.if-contains.true ∙ c.contains.ensures ∙ ap (contains int_cmp c.in-Some.listed.now) same)
    ∙ ap (λ (q : Question). keeps q.settings q.indom c.args.instance) c.self.view_is

pub returns-else-contains : goal.returns-else-contains
returns-else-contains c =
    let same : to_z w32 (of_z w32 c.args.instance) ≡ c.args.instance = to_z-of_z w32 c.args.instance (search rules) in
    keeps_listed c.self.inside.base (option_copied c.self.inside.listed) c.in-Some.listed.now false c.self.inside.profile.now c.self.inside.indom c.args.instance c.self.invariant (ap option_copied c.in-Some.is)
    (sym c.if-contains.false ∙ c.contains.ensures ∙ ap (contains int_cmp c.in-Some.listed.now) same)
    ∙ ap (λ (q : Question). keeps q.settings q.indom c.args.instance) c.self.view_is
