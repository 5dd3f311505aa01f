-- The first name that isn't before the place decides: one that doesn't begin with the front ends the search.
use Rattle.std.proofs.Common.{◌≡◌, ℕ, Bool, map, List, [], ◌<◌, length, fold, sym, ap, ◌∙◌, subst}
use Rattle.std.specs.Global.{Vec}
use Rattle.pmns_core.proofs.Parts.{part}
use Rattle.pmns_core.proofs.Tables.{from_front}
use Rattle.pmns_core.specs.Below.{behind, with_child}
use Rattle.pmns_core.specs.Tables.{parts_of, AreTextParts}
use Rattle.pmns_core.proofs.Ranges.{taken, taken_all}
use Rattle.pmns_core.proofs.Seeks.{sought_in, sought_place}
use Rattle.pmns_core.proofs.below.parts_below.Goals as goal

pub loop-key-init : goal.loop-key-init
loop-key-init c =
    let front = c.args.front.now.items in
    let at : c.in_ok-at.at.items ≡ front = c.in_ok-at.ensures.items ∙ c.as_slice.ensures.value in (
      subst (λ (es : List (Vec ℕ × Bool)). AreTextParts (map part es)) (sym c.new-parts.ensures.empty) tt,
      ap (λ (a : List ℕ). fold (with_child front) (parts_of c.new-parts.result) (taken front (from_front a c.args.table.now.entries))) at
          ∙ ap (λ (es : List (Vec ℕ × Bool)). fold (with_child front) (map part es) (taken front (from_front front c.args.table.now.entries))) c.new-parts.ensures.empty
          ∙ ap (fold (with_child front) []) (taken_all front c.args.table.now.entries c.requires),
    )

pub add_part-requires-clause-text : goal.add_part-requires-clause-text
add_part-requires-clause-text c =
    let s = sought_in c.args.front.now.items c.loop-key.at.items c.in-Some-strip_prefix.rest.now (parts_of c.loop-key.parts) c.args.table.now.entries c.range.result c.next.new.self (c.in-Some.key.now, c.in-Some._pmid.now)
    c.as_slice-in-Some.result.now c.as_slice-in-Some-2.result.now c.requires (c.range.ensures.between tt) c.in-Some.ensures.steps c.as_slice-in-Some.ensures.value c.as_slice-in-Some-2.ensures.value
    c.in-Some-strip_prefix.ensures.cases.0 c.in-Some-strip_prefix.ensures.cases.1 in
    s.text

pub loop-key-smaller : goal.loop-key-smaller
loop-key-smaller c =
    let front = c.args.front.now.items in
    let s = sought_in front c.loop-key.at.items c.in-Some-strip_prefix.rest.now (parts_of c.loop-key.parts) c.args.table.now.entries c.range.result c.next.new.self (c.in-Some.key.now, c.in-Some._pmid.now)
    c.as_slice-in-Some.result.now c.as_slice-in-Some-2.result.now c.requires (c.range.ensures.between tt) c.in-Some.ensures.steps c.as_slice-in-Some.ensures.value c.as_slice-in-Some-2.ensures.value
    c.in-Some-strip_prefix.ensures.cases.0 c.in-Some-strip_prefix.ensures.cases.1 in
    let place = sought_place front c.as_slice-in-Some-3.result.now c.in-Some-strip_prefix.rest.now c.in_ok-at-2.at.items c.as_slice-in-Some-3.ensures.value c.in_ok-at-2.ensures in
    subst (λ (a : List ℕ). length (from_front a c.args.table.now.entries) < length (from_front c.loop-key.at.items c.args.table.now.entries)) (sym place) s.fewer

pub loop-key-preserved : goal.loop-key-preserved
loop-key-preserved c =
    let front = c.args.front.now.items in
    let s = sought_in front c.loop-key.at.items c.in-Some-strip_prefix.rest.now (parts_of c.loop-key.parts) c.args.table.now.entries c.range.result c.next.new.self (c.in-Some.key.now, c.in-Some._pmid.now)
    c.as_slice-in-Some.result.now c.as_slice-in-Some-2.result.now c.requires (c.range.ensures.between tt) c.in-Some.ensures.steps c.as_slice-in-Some.ensures.value c.as_slice-in-Some-2.ensures.value
    c.in-Some-strip_prefix.ensures.cases.0 c.in-Some-strip_prefix.ensures.cases.1 in
    let place = sought_place front c.as_slice-in-Some-3.result.now c.in-Some-strip_prefix.rest.now c.in_ok-at-2.at.items c.as_slice-in-Some-3.ensures.value c.in_ok-at-2.ensures in (
      c.in_ok-add_part.ensures.texts,
      ap (λ (a : List ℕ). fold (with_child front) (parts_of c.add_part.new.parts) (taken front (from_front a c.args.table.now.entries))) place
          ∙ ap (λ (list : List (List ℕ × Bool)). fold (with_child front) list (taken front (from_front (behind front c.in-Some-strip_prefix.rest.now) c.args.table.now.entries))) c.in_ok-add_part.ensures.part
          ∙ s.same
          ∙ c.loop-key.invariant.1,
    )
