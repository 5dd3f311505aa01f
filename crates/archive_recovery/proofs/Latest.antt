-- Items that are counted, and the latest stamp so far.
use Rattle.std.proofs.Common.{zero, suc, ◌≡◌, ℕ, ◌+◌, Option, None, Some, take, refl, List, [], ◌∷◌, ◌++◌, sym, ap, ◌∙◌, subst, arith, append_assoc}
use Rattle.std.proofs.lemmas.List.{append-nil, map-append, length-append}
use Rattle.pcp_base.specs.Time.{Moment}
use Rattle.pcp_base.specs.declared.result.Item.{Item}
use Rattle.std.specs.Prelude.{slice_get}
use Rattle.pcp_model.specs.declared.records.Entry.{Entry}
use Rattle.pcp_model.specs.Payload.{stamp_of}
use Rattle.archive_recovery.specs.declared.stamps.Tally.{Tally}
use Rattle.archive_recovery.specs.Counts.{CountsMore}
use Rattle.archive_recovery.specs.Stamps.{entry_stamps, item_stamps, IsLatest, IsLatestOn}

-- nothing more
pub counted_none : (t : Tally) → CountsMore t [] t
counted_none t = record { more = omega arith; on = λ moments is. subst (λ (ms : List Moment). IsLatest ms t.last) (sym (append-nil moments)) is }

-- some and then some
pub counted_on : (a b c : Tally) (xs ys : List Item) → CountsMore a xs b → CountsMore b ys c → CountsMore a (xs ++ ys) c
counted_on a b c xs ys one two = record {
  more = omega (arith, one.more, two.more, length-append xs ys);
  on = λ moments is.
      subst (λ (ms : List Moment). IsLatest ms c.last) (append_assoc moments (item_stamps xs) (item_stamps ys) ∙ ap (λ (l : List Moment). moments ++ l) (sym (map-append stamp_of xs ys)))
      (two.on (moments ++ item_stamps xs) (one.on moments is));
}

pub one_counted : (old new : Tally) (x : Item) → new.items ≡ old.items + 1 → ((moments : List Moment) → IsLatest moments old.last → IsLatest (moments ++ stamp_of x ∷ []) new.last) → CountsMore old (x ∷ []) new
one_counted old new x more on = record { more = omega (arith, more); on = on }

-- the stamps of the entries up to a position, with that of the entry there
abbrev pub stamp_if_any : Option Entry → List Moment
stamp_if_any None = []
stamp_if_any (Some e) = e.stamp ∷ []

pub stamps_more : (es : List Entry) (at : ℕ) → entry_stamps (take (suc at) es) ≡ entry_stamps (take at es) ++ stamp_if_any (slice_get es at)
stamps_more [] zero = refl
stamps_more [] (suc at) = refl
stamps_more (e ∷ es) zero = refl
stamps_more (e ∷ es) (suc at) = ap (λ (l : List Moment). e.stamp ∷ l) (stamps_more es at)

-- some moments and then more
pub latest_then : (a b c : Option Moment) (xs ys : List Moment) → IsLatestOn a xs b → IsLatestOn b ys c → IsLatestOn a (xs ++ ys) c
latest_then a b c xs ys one two moments is = subst (λ (ms : List Moment). IsLatest ms c) (append_assoc moments xs ys) (two (moments ++ xs) (one moments is))
