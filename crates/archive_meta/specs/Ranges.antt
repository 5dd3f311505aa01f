-- Numbers that fit their words, and texts without a zero byte, part by part.
use Rattle.std.specs.Prelude.{ℕ, ℤ, ◌<◌, List, length, FitsSigned}
use Rattle.std.specs.Int.{w32}
use Rattle.pcp_base.specs.Texts.{IsText}
use Rattle.pcp_base.specs.declared.desc.Desc.{Desc}

abbrev pub IsShortText : List ℕ → Type 0
IsShortText name = IsText name × (length name < 4294967296)

abbrev pub HasNumber : ℤ × List ℕ → Type 0
HasNumber p = FitsSigned w32 p.0

abbrev pub HasText : ℤ × List ℕ → Type 0
HasText p = IsText p.1

abbrev pub DescInRange : Desc → Type 0
DescInRange d = (d.pmid < 4294967296) × (d.code < 4294967296) × (d.indom < 4294967296) × (d.semantics < 4294967296) × (d.units < 4294967296)
