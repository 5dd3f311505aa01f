use Rattle.std.proofs.Common.{◌≡◌, ◌+◌, ◌-◌, ◌<◌, ℕ, List, [], ◌∷◌, sym, ap, ◌∙◌, subst, arith}
use Rattle.atomic_table.specs.Table.{Splits}
use Rattle.region_core.specs.declared.act.Entry.{Entry}
use Rattle.region_rule.specs.declared.view.View.{View}
use Rattle.region_rule.specs.Views.{fresh_view, numbers_from}
use Rattle.region_rule.specs.Tokens.{after_giving, next_pass}
use Rattle.region_rule.specs.Seats.{MadeRegion}
use Rattle.region_rule.proofs.Tokens.{gives, IsRuled, waiting_next}
use Rattle.region_rule.proofs.region.Region.hand_on.Goals as goal

pub split_seat-requires : goal.split_seat-requires
split_seat-requires g c =
    let S = g.S.Shape.shaping in
    let r = c.self.inside in
    let n = c.args.number in
    let region : MadeRegion = record { table = r.table.shared.table_id; words = r.table.shared.key.words; passes = r.table.shared.key.passes } in
    let here : region ≡ c.args.self.now = c.self.view_is in
    let more : n + 1 < region.passes = subst (λ (p : MadeRegion). n + 1 < p.passes) (sym here) c.requires.more in
    let seat : c.args.seat.now.me ≡ (fresh_view region.words region.passes n (numbers_from (n + 1) (region.passes - (n + 1))), []) =
    subst (λ (p : MadeRegion). c.args.seat.now.me ≡ (fresh_view p.words p.passes n (numbers_from (n + 1) (p.passes - (n + 1))), [])) (sym here) c.requires.fresh in
    let rest : List (ℕ × List Entry) = numbers_from (n + 2) (region.passes - (n + 2)) in
    let whole : c.args.seat.now.me.0 ≡ fresh_view region.words region.passes n ((n + 1, []) ∷ rest) =
    ap (λ m. m.0) seat ∙ ap (λ (kept : List (ℕ × List Entry)). fresh_view region.words region.passes n kept) (waiting_next (n + 1) (n + 2) region.passes (omega arith) more) in
    let count = c.self.invariant.0 in (
      c.requires.table ∙ sym (ap (λ (p : MadeRegion). p.table) here),
      omega arith,
      subst (λ (v : View). Splits (IsRuled S region.words region.passes) c.args.seat.now.id v (after_giving v) (next_pass v)) (sym whole)
          (gives S region.words region.passes c.args.seat.now.id n (n + 1, []) rest),
    )

pub returns-clause-next : goal.returns-clause-next
returns-clause-next g c =
    let n = c.args.number in
    let p : MadeRegion = c.args.self.now in
    let rest : List (ℕ × List Entry) = numbers_from (n + 2) (p.passes - (n + 2)) in
    let whole : c.args.seat.now.me.0 ≡ fresh_view p.words p.passes n ((n + 1, []) ∷ rest) =
    ap (λ m. m.0) c.requires.fresh ∙ ap (λ (kept : List (ℕ × List Entry)). fresh_view p.words p.passes n kept) (waiting_next (n + 1) (n + 2) p.passes (omega arith) c.requires.more) in
    let e = c.split_seat.ensures in (e.3, e.4 ∙ ap (λ (v : View). (next_pass v, [])) whole)
