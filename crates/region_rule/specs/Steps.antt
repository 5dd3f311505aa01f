-- What one step of a pass does to what it has seen.
use Rattle.std.specs.Prelude.{◌≡◌, ℕ, List, [], ◌∷◌, ◌++◌}
use Rattle.region_core.specs.declared.act.Act.{Act}
use Rattle.region_core.specs.declared.act.Act.TheVariants.{Load, Swap, Add, Enter, Leave, Take, Begin, Put, End, Free}
use Rattle.region_core.specs.declared.act.Entry.{Entry}
use Rattle.region_core.specs.Shape.{Shaping}
use Rattle.region_core.specs.State.{State, word, next_mode, IsIn}
use Rattle.region_core.specs.Journal.{state, own, IsJournal}
use Rattle.region_rule.specs.declared.view.View.{View}
use Rattle.region_rule.specs.Views.{now, opening_of, HasNone}

-- the entry of this act by this pass
abbrev pub entry : ℕ → Act → Entry
entry k act = record { by = k; act = act }

-- the number that an act finds; at a store the number that is stored
abbrev pub found_by : Act → State → ℕ
found_by (Load w) s = word s w
found_by (Swap w v) s = word s w
found_by (Add w d) s = word s w
found_by Enter s = s.gate
found_by Leave s = s.gate
found_by Take s = s.gate
found_by (Begin n) s = n
found_by (Put w v) s = v
found_by (End n) s = n
found_by Free s = s.gate

-- the view after an act that found n, with the entries of others that came before it
abbrev pub view_after : View → List Entry → Act → ℕ → View
view_after v between act n = record {
  role = v.role;
  start = v.start;
  passes = v.passes;
  seen = (v.seen ++ between) ++ entry v.number act ∷ [];
  told = [];
  number = v.number;
  mode = next_mode n v.mode act;
  own = v.own ++ entry v.number act ∷ [];
  kept = v.kept;
}

-- The new view has seen what the old one had, then entries of others, and then this act, which found n
pub record Extends (S : Shaping) (v : View) (act : Act) (n : ℕ) (w : View) : Type 0 where
  pub between : List Entry
  pub others : own v.number between ≡ []
  pub gathered : HasNone between v.kept
  pub is : w ≡ view_after v between act n
  pub found : n ≡ found_by act (state (opening_of v) (v.seen ++ between))
  pub journal : IsJournal S v.start v.passes ((v.seen ++ between) ++ entry v.number act ∷ [])
  pub mode : IsIn w.mode (now w) w.number
  pub had : own w.number w.seen ≡ w.own
