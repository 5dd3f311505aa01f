-- The range is all of the table.
use Rattle.std.proofs.Common.{◌≡◌, ℕ, Bool, List, ◌++◌, map, sym, ap, ◌∙◌, subst}
use Rattle.std.proofs.lemmas.List.{append-nil}
use Rattle.std.specs.Global.{Vec}
use Rattle.pmns_core.specs.Tables.{AreTextParts}
use Rattle.pmns_core.proofs.Parts.{part, unbounded}
use Rattle.pmns_core.proofs.below.texts_of.Goals as goal

pub loop-key-init : goal.loop-key-init
loop-key-init c =
    let all : c.range-rest.result ≡ c.args.parts.now.entries = c.range-rest.ensures.between tt ∙ unbounded c.args.parts.now.entries in (
      tt,
      tt,
      subst (λ (es : List (Vec ℕ × Bool)). AreTextParts (map part es)) (sym all) c.requires,
      ap (λ (ps : List (List ℕ × Bool)). ps ++ map part c.range-rest.result) c.empty-found.ensures,
    )

pub returns : goal.returns
returns c =
    sym (append-nil c.loop-key.found)
    ∙ ap (λ (es : List (Vec ℕ × Bool)). c.loop-key.found ++ map part es) (sym c.in_default.ensures.steps.0)
    ∙ c.loop-key.invariant.3
    ∙ ap (map part) (c.range-rest.ensures.between tt ∙ unbounded c.args.parts.now.entries)
