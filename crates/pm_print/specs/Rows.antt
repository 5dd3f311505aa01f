-- The table of rows by name, as a list.
use Rattle.std.specs.Prelude.{ℕ, List, map}
use Rattle.std.specs.Global.{Vec}
use Rattle.std.specs.BTreeMap.{BTreeMap}
use Rattle.pcp_base.specs.declared.desc.Desc.{Desc}
use Rattle.pm_print.specs.Infos.{Row}

abbrev pub row : (Vec ℕ × ℕ) × Desc → Row
row e = ((e.0.0.items, e.0.1), e.1)

abbrev pub listed_rows : BTreeMap (Vec ℕ × ℕ) Desc → List Row
listed_rows rows = map row rows.entries
