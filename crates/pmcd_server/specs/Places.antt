-- Places, and who draws them.
use Rattle.std.specs.Prelude.{ℕ, List}
use Rattle.atomic_table.specs.Seated.{TableId}

-- from which word numbers are drawn, how many may still be, and those drawn, in their order
pub record Drawer : Type 0 where
  pub word : TableId
  pub left : ℕ
  pub drawn : List ℕ
