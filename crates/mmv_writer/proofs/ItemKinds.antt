-- The kind of the metric with an item, by the place of its row.
use Rattle.std.proofs.Common.{◌≡◌, ℕ, suc, ◌+◌, Bool, true, false, not, ◌||◌, cond, nat_eq, List, [], ◌∷◌, ap, sym, ◌∙◌, refl, arith, Option, Some, None, option_map}
use Rattle.std.specs.List.{list_any, slice_get, position, position_or_len}
use Rattle.mmv_layout.specs.declared.rows.MetricRow.{MetricRow}
use Rattle.mmv_writer.specs.Reading.{kind_in}
use Rattle.mmv_writer.proofs.Kept.{position_at}
use Rattle.mmv_writer.proofs.Positions.{get_some}

pub no_kind : (metrics : List MetricRow) (item : ℕ) → list_any (λ m. nat_eq m.item item) metrics ≡ false → kind_in metrics item ≡ None
no_kind [] item h = refl
no_kind (m ∷ ms) item h = next (nat_eq m.item item) (no_kind ms item) h
  where
    next : (q : Bool) → (list_any (λ r. nat_eq r.item item) ms ≡ false → kind_in ms item ≡ None) → (q || list_any (λ r. nat_eq r.item item) ms) ≡ false → cond q (Some m.kind) (kind_in ms item) ≡ None
    next true more h = cc
    next false more h = more h

-- the first row with the item
pub first_kind : (metrics : List MetricRow) (item : ℕ) (row : MetricRow) → slice_get metrics (position_or_len (λ m. nat_eq m.item item) metrics) ≡ Some row → kind_in metrics item ≡ Some row.kind
first_kind [] item row h = cc
first_kind (m ∷ ms) item row h = next (nat_eq m.item item) (first_kind ms item row) h
  where
    next : (q : Bool) → (slice_get ms (position_or_len (λ r. nat_eq r.item item) ms) ≡ Some row → kind_in ms item ≡ Some row.kind) → slice_get (m ∷ ms) (cond (not q) (1 + position_or_len (λ r. nat_eq r.item item) ms) 0) ≡ Some row → cond q (Some m.kind) (kind_in ms item) ≡ Some row.kind
    next true more h = let same : m ≡ row = cc in ap (λ (r : MetricRow). Some r.kind) same
    next false more h =
        let one : 1 + position_or_len (λ r. nat_eq r.item item) ms ≡ suc (position_or_len (λ r. nat_eq r.item item) ms) = omega arith in
        more (sym (ap (slice_get (m ∷ ms)) one) ∙ h)

-- a row stands at the first place with the item, and tells the kind
pub kind_there : (metrics : List MetricRow) (item i : ℕ) (found : Option MetricRow) → position (λ m. nat_eq m.item item) metrics ≡ Some i → slice_get metrics i ≡ found → kind_in metrics item ≡ option_map (λ (m : MetricRow). m.kind) found
kind_there metrics item i None place at =
    let there = get_some metrics i (position_at (λ m. nat_eq m.item item) metrics i place).1 in
    let wrong : Some there.0 ≡ None = sym there.1 ∙ at in
    cc
kind_there metrics item i (Some row) place at =
    first_kind metrics item row (ap (slice_get metrics) (position_at (λ m. nat_eq m.item item) metrics i place).0 ∙ at)
