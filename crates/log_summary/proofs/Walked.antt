-- Records of one volume, one behind another.
use Rattle.std.proofs.Common.{◌≡◌, inl, inr, ℕ, ◌<◌, ◌≤◌, Bool, true, false, ◌||◌, nat_eq, List, [], ◌∷◌, ◌++◌, length, drop, fold, refl, sym, ap, ◌∙◌, subst, true≢false, eq-eqb, arith, append_assoc}
use Rattle.std.specs.Prelude.{if◌then◌else◌}
use Rattle.std.proofs.lemmas.List.{length-drop, append-nil}
use Rattle.std.proofs.lemmas.List.Sums.{fold-append}
use Rattle.std.proofs.lemmas.Bool.{eqb-true}
use Rattle.pcp_base.specs.Time.{Moment}
use Rattle.pcp_base.specs.declared.result.Item.{Item}
use Rattle.pcp_model.specs.declared.records.MetaRecord.{MetaRecord}
use Rattle.pcp_model.specs.Frame.{IsTorn}
use Rattle.archive_frame.specs.declared.fault.FrameFault.{FrameFault}
use Rattle.archive_frame.specs.declared.fault.FrameFault.TheVariants.{Torn, Size, Lengths, Label, NoMemory}
use Rattle.archive_frame.specs.Steps.{Stands, IsForwardFault}
use Rattle.archive_frame.proofs.Records.{Ends, stood}
use Rattle.archive_loading.specs.Standing.{ItemStands, NoItemStands}
use Rattle.archive_reader.specs.Searches.{between, is_before, is_after}
use Rattle.archive_reader.proofs.Spanned.{between-append}
use Rattle.log_summary.specs.Tables.{Rows, counted}
use Rattle.log_summary.specs.Values.{Value, item_values, values_of}
use Rattle.log_summary.specs.Pieces.{IsWalked}
use Rattle.log_summary.specs.Volumes.{is_torn, StandUpTo, SoFar, IsCounted, IsBroken}

-- ---- one step

-- a step that is refused for a record that isn't whole
pub torn_step : (bytes : List ℕ) (at : ℕ) (e : FrameFault) → IsForwardFault bytes at e → is_torn e ≡ true → IsTorn (drop at bytes)
torn_step bytes at (Torn offset) (is, lt, inl few) b = inl (omega (arith, length-drop at bytes, few, lt))
torn_step bytes at (Torn offset) (is, lt, inr (size, few)) b = inr (size.0, size.1, omega (arith, length-drop at bytes, few, lt))
torn_step bytes at (Size offset found) f b = absurd (true≢false (sym b))
torn_step bytes at (Lengths offset head tail) f b = absurd (true≢false (sym b))
torn_step bytes at (Label offset) f b = absurd f
torn_step bytes at NoMemory f b = absurd f

-- and one that is refused for another cause
pub other_step : (bytes : List ℕ) (at : ℕ) (e : FrameFault) → IsForwardFault bytes at e → is_torn e ≡ false → IsTorn (drop at bytes) → ⊥
other_step bytes at (Torn offset) f b torn = true≢false b
other_step bytes at (Size offset found) (long, (is, says, out)) b (inl few) = omega (arith, length-drop at bytes, few, long)
other_step bytes at (Size offset found) (long, (is, says, inl low)) b (inr (least, most, few)) = omega (arith, says, low, least)
other_step bytes at (Size offset found) (long, (is, says, inr high)) b (inr (least, most, few)) = omega (arith, says, high, most)
other_step bytes at (Lengths offset head tail) (is, size, fits, says, other, differ) b (inl few) = omega (arith, length-drop at bytes, few, fits, size.0)
other_step bytes at (Lengths offset head tail) (is, size, fits, says, other, differ) b (inr (least, most, few)) = omega (arith, length-drop at bytes, few, fits, says, size.0)
other_step bytes at (Label offset) f b torn = absurd f
other_step bytes at NoMemory f b torn = absurd f

-- a frame that stands there is whole
pub stands_whole : (bytes payload : List ℕ) (at next : ℕ) → Stands bytes payload at next → IsTorn (drop at bytes) → ⊥
stands_whole bytes payload at next s (inl few) = let e : Ends bytes payload at next = stood bytes payload at next s in omega (arith, length-drop at bytes, few, e.size, e.within, e.sized.0)
stands_whole bytes payload at next s (inr (least, most, few)) = let e : Ends bytes payload at next = stood bytes payload at next s in omega (arith, length-drop at bytes, few, e.size, e.within, e.head, e.sized.0)

pub torn_has_no_item : (bytes : List ℕ) (at : ℕ) → IsTorn (drop at bytes) → NoItemStands bytes at
torn_has_no_item bytes at torn next x s = stands_whole bytes s.payload at next s.stands torn

pub item_fits : (bytes : List ℕ) (at next : ℕ) (x : Item) → ItemStands bytes at next x → (at < next) × (next ≤ length bytes)
item_fits bytes at next x s = let e : Ends bytes s.payload at next = stood bytes s.payload at next s.stands in (omega (arith, e.size), e.within)

-- ---- items so far

one_stands : (bytes : List ℕ) (at : ℕ) (items : List Item) (end next : ℕ) (x : Item) → StandUpTo bytes at items end → ItemStands bytes end next x → StandUpTo bytes at (items ++ x ∷ []) next
one_stands bytes at [] end next x is s = (next, subst (λ n. ItemStands bytes n next x) is s, refl)
one_stands bytes at (y ∷ items) end next x (mid, first, rest) s = (mid, first, one_stands bytes mid items end next x rest s)

pub values-append : (records : List MetaRecord) (xs ys : List Item) → values_of records (xs ++ ys) ≡ values_of records xs ++ values_of records ys
values-append records [] ys = refl
values-append records (x ∷ xs) ys = ap (λ (l : List Value). item_values records x ++ l) (values-append records xs ys) ∙ sym (append_assoc (item_values records x) (values_of records xs) (values_of records ys))

pub both_between : (records : List MetaRecord) (from to : Moment) (xs ys : List Item)
    → values_of records (between from to (xs ++ ys)) ≡ values_of records (between from to xs) ++ values_of records (between from to ys)
both_between records from to xs ys = ap (values_of records) (between-append from to xs ys) ∙ values-append records (between from to xs) (between from to ys)

-- an item that isn't between the moments has no values there
pub before_all : (records : List MetaRecord) (from to : Moment) (x : Item) → is_before from x ≡ true → values_of records (between from to (x ∷ [])) ≡ []
before_all records from to x b = ap (λ c. values_of records (if c || is_after to x then [] else x ∷ [])) b

pub after_all : (records : List MetaRecord) (from to : Moment) (x : Item) → is_before from x ≡ false → is_after to x ≡ true → values_of records (between from to (x ∷ [])) ≡ []
after_all records from to x b a = ap (λ c. values_of records (if c || is_after to x then [] else x ∷ [])) b ∙ ap (λ c. values_of records (if c then [] else x ∷ [])) a

pub within_all : (records : List MetaRecord) (from to : Moment) (x : Item) → is_before from x ≡ false → is_after to x ≡ false → values_of records (between from to (x ∷ [])) ≡ item_values records x
within_all records from to x b a =
    ap (λ c. values_of records (if c || is_after to x then [] else x ∷ [])) b ∙ ap (λ c. values_of records (if c then [] else x ∷ [])) a ∙ append-nil (item_values records x)

-- ---- how a volume ends

module _ (bytes : List ℕ) (is_last : Bool) (records : List MetaRecord) (from to : Moment) (at : ℕ) (table : Rows) (s : SoFar bytes records from to at table) where
  pub counted_here : IsTorn (drop at bytes) → is_last || nat_eq at (length bytes) ≡ true → IsCounted bytes is_last records from to table
  counted_here torn well = record {
    items = s.items;
    end = at;
    stand = s.stand;
    ends = record { torn = torn; whole = λ no_. eqb-true at (length bytes) (ap (λ b. b || nat_eq at (length bytes)) (sym no_) ∙ well) };
    is = s.is;
  }

  pub ends_early : IsTorn (drop at bytes) → is_last || nat_eq at (length bytes) ≡ false → IsBroken bytes is_last at
  ends_early torn badly = record {
    items = s.items;
    stand = s.stand;
    breaks = record {
      none = torn_has_no_item bytes at torn;
      torn = λ last _. true≢false (ap (λ b. b || nat_eq at (length bytes)) (sym last) ∙ badly);
      ends = λ no_ end. true≢false (sym (eq-eqb at (length bytes) end) ∙ ap (λ b. b || nat_eq at (length bytes)) (sym no_) ∙ badly);
    };
  }

  pub breaks_here : NoItemStands bytes at → (IsTorn (drop at bytes) → ⊥) → IsBroken bytes is_last at
  breaks_here none whole = record {
    items = s.items;
    stand = s.stand;
    breaks = record { none = none; torn = λ _ torn. whole torn; ends = λ _ end. whole (inl (omega (arith, length-drop at bytes, end))) };
  }

-- ---- a piece

pub walked_none : (bytes : List ℕ) (records : List MetaRecord) (from to : Moment) (table : Rows) → IsWalked bytes records from to table table 0
walked_none bytes records from to table = record { items = []; stand = refl; within = omega arith; is = refl }

-- an item more
pub walked_on : (bytes : List ℕ) (records : List MetaRecord) (from to : Moment) (old new more : Rows) (at next : ℕ) (x : Item) → IsWalked bytes records from to old new at → ItemStands bytes at next x
    → more ≡ fold counted new (values_of records (between from to (x ∷ []))) → IsWalked bytes records from to old more next
walked_on bytes records from to old new more at next x w s is = record {
  items = w.items ++ x ∷ [];
  stand = one_stands bytes 0 w.items at next x w.stand s;
  within = (item_fits bytes at next x s).1;
  is = is ∙ ap (λ (rows : Rows). fold counted rows (values_of records (between from to (x ∷ [])))) w.is
      ∙ sym (fold-append counted old (values_of records (between from to w.items)) (values_of records (between from to (x ∷ []))))
      ∙ ap (fold counted old) (sym (both_between records from to w.items (x ∷ [])));
}
