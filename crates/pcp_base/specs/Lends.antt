-- What a list ends as, where a `&mut` to its items is returned.
use Rattle.std.specs.Prelude.{List, ◌++◌, length, take, drop}
use Rattle.std.specs.Borrow.{Lends, Fml, RattleType, MutBor, Array}
use Rattle.pcp_base.specs.contracts.list.List.{the_row}

-- items with others written over them from the first on; their number stays
abbrev pub with_items : {T : Type 0} → List T → List T → List T
with_items items others = take (length items) (others ++ drop (length others) items)

-- once the borrow ends, the list has the items that it shows last
abbrev pub LendsItems : (T : RattleType) → MutBor (List T.Denot) → MutBor (List T.Denot) → Fml
LendsItems T list items = Lends (the_row T) (Array T 0) list items (with_items list.now)
