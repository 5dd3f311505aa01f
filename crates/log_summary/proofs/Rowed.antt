-- A row where it stands, and what is put there.
use Rattle.std.proofs.Common.{◌≡◌, ℕ, Some, sym, ap, ◌∙◌, slice_get}
use Rattle.std.specs.List.{IsDistinct}
use Rattle.std.specs.Map.{keys_of}
use Rattle.std.specs.Cmp.{IsEquivalence}
use Rattle.std.proofs.lemmas.Cmp.{and_equiv, on_equiv, nat_eq_equiv, int_eq_equiv}
use Rattle.std.proofs.lemmas.Map.Entries.{lookup_from_place}
use Rattle.indexmap.specs.IndexMap.{insert_entry}
use Rattle.indexmap.specs.Layout.{set_value_at}
use Rattle.indexmap.proofs.MapLemmas.{insert_entry-first}
use Rattle.indexmap.proofs.RemoveLemmas.{own_first}
use Rattle.log_summary.specs.declared.tally.Tally.{Tally}
use Rattle.log_summary.specs.Tallies.{joined}
use Rattle.log_summary.specs.Tables.{Key, Rows, same_key, joined_to, put}

same_key_equiv : IsEquivalence same_key
same_key_equiv = and_equiv (on_equiv (λ (k : Key). k.0) nat_eq_equiv) (on_equiv (λ (k : Key). k.1) int_eq_equiv)

-- what is joined to a row in its place is put there
pub put_there : (rows : Rows) (row : ℕ) (key : Key) (before tally : Tally) → IsDistinct same_key (keys_of rows) → slice_get rows row ≡ Some (key, before)
    → set_value_at rows row (joined before tally) ≡ put rows (key, tally)
put_there rows row key before tally distinct at =
    sym (insert_entry-first same_key key (joined before tally) rows row (own_first same_key same_key_equiv rows row key before distinct at))
    ∙ ap (λ o. insert_entry same_key rows key (joined_to o tally)) (sym (lookup_from_place same_key_equiv rows row key before distinct at))
