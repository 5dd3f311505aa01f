-- Where no line of a script is unserved, each region has room for the seats.
use Rattle.std.proofs.Common.{◌≡◌, ℕ, ◌≤◌, false, nat_lt, List, subst, arith, Option, Some, None, option_map, refl}
use Rattle.std.proofs.lemmas.Bool.{ltb-false}
use Rattle.std.proofs.lemmas.Option.{get_or_from_slice_get, slice_get_within}
use Rattle.mmv_layout.proofs.SlotLists.{found_none}
use Rattle.run_script.specs.declared.script.RegionRow.{RegionRow}
use Rattle.run_script.specs.declared.script.Script.{Script}
use Rattle.run_script.specs.Recording.{refused_line}
use Rattle.run_passes.specs.Openings.{HaveRoom}
use Rattle.pm_serving.specs.Scripts.{crowded_line, earlier, first_crowded, unserved_line}

uncrowded : (rows : List RegionRow) → first_crowded rows ≡ None → HaveRoom rows 4
uncrowded rows none i row at =
    let found = found_none RegionRow (λ (r : RegionRow). nat_lt 252 r.passes) rows none i row (slice_get_within rows i row at) in
    let low : row.passes ≤ 252 = ltb-false 252 row.passes (subst (λ (r : RegionRow). nat_lt 252 r.passes ≡ false) (get_or_from_slice_get rows i row row at) found) in
    omega arith

none_crowded : (found : Option RegionRow) → option_map (λ (row : RegionRow). row.line) found ≡ None → found ≡ None
none_crowded None h = refl
none_crowded (Some row) h = absurd (cc)

-- no line of two is the earlier one
none_first : (line other : Option ℕ) → earlier line other ≡ None → line ≡ None
none_first None other h = refl
none_first (Some line) None h = absurd (cc)
none_first (Some line) (Some other) h = absurd (cc)

pub roomy : (script : Script) → unserved_line script ≡ None → HaveRoom script.regions 4
roomy script h = uncrowded script.regions (none_crowded (first_crowded script.regions) (none_first (crowded_line script) (refused_line script) h))
