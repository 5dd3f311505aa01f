-- The component takes its place.
use Rattle.std.proofs.Common.{◌≡◌, ◌≢◌, ℕ, Bool, List, length, map, sym, ap, ◌∙◌, subst}
use Rattle.std.specs.Prelude.{unwrap_or, position}
use Rattle.std.specs.BTreeMap.{insert_entry}
use Rattle.std.proofs.lemmas.List.Elements.{All-take}
use Rattle.pcp_base.specs.Texts.{IsText}
use Rattle.pmns_core.specs.Order.{byte_order}
use Rattle.pmns_core.specs.Below.{component, is_leaf, is_point}
use Rattle.pmns_core.specs.Tables.{parts_of, AreTextParts}
use Rattle.pmns_core.proofs.Parts.{part, insert_parts, insert_texts}
use Rattle.pmns_core.proofs.below.add_part.Goals as goal

takes_place : (c : goal.In_ok-insert) → parts_of c.insert.new.self ≡ insert_entry byte_order (parts_of c.args.parts.now) (component c.args.rest.now) (is_leaf c.args.rest.now)
takes_place c =
    let same : c.in_ok-key.key.items ≡ component c.args.rest.now = c.in_ok-key.ensures.items ∙ c.part_of-is_leaf.ensures.part in
    ap (map part) c.in_ok-insert.ensures.entries
    ∙ insert_parts c.args.parts.now.entries c.in_ok-key.key c.part_of-is_leaf.result.1
    ∙ ap (λ (n : List ℕ). insert_entry byte_order (parts_of c.args.parts.now) n c.part_of-is_leaf.result.1) same
    ∙ ap (λ (b : Bool). insert_entry byte_order (parts_of c.args.parts.now) (component c.args.rest.now) b) c.part_of-is_leaf.ensures.leaf

pub returns-clause-part : goal.returns-clause-part
returns-clause-part c = takes_place c

pub returns-clause-texts : goal.returns-clause-texts
returns-clause-texts c =
    let text : IsText (component c.args.rest.now) = All-take (λ b. b ≢ 0) (unwrap_or (position is_point c.args.rest.now) (length c.args.rest.now)) c.args.rest.now c.requires.text in
    subst AreTextParts (sym (takes_place c)) (insert_texts (parts_of c.args.parts.now) (component c.args.rest.now) (is_leaf c.args.rest.now) text c.requires.texts)
