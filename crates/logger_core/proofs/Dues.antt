-- The entry of a flush, where one is due.
use Rattle.std.proofs.Common.{◌≡◌, ℕ, zero, suc, ◌+◌, ◌<◌, Bool, true, false, ◌&&◌, ◌||◌, nat_lt, if◌then◌else◌, Option, Some, None, List, [], ◌∷◌, ◌++◌, refl, sym, ap, ◌∙◌, arith}
use Rattle.std.proofs.lemmas.Bool.{ltb-true, lt-ltb, and_parts}
use Rattle.pcp_base.specs.Time.{Moment}
use Rattle.pcp_model.specs.declared.records.Entry.{Entry}
use Rattle.pcp_outside.specs.Causes.{shown_count}
use Rattle.logger_core.specs.declared.ends.Ends.{Ends}
use Rattle.logger_core.specs.Steps.{last_entry, up_to, fits_index, fitting, is_behind, where_behind, due}
use Rattle.logger_core.specs.Going.{HasRoom, HasRoomIfAny, LeadsToEnds, LeadIfAny}
use Rattle.logger_core.specs.Meant.{Meant}
use Rattle.pcp_model.specs.Disk.{Holdings}

if_some : {X : Type 0} (b : Bool) (e x : X) → (if b then Some e else None) ≡ Some x → (b ≡ true) × (x ≡ e)
if_some true e x is = (refl, cc)
if_some false e x is = absurd cc

-- an entry that fits is this one, and there is room for it
pub fitting_is : (size : ℕ) (e x : Entry) → fitting size e ≡ Some x → (x ≡ e) × (size + 20 < 2147483648) × (e.meta < 2147483648) × (e.offset < 2147483648)
fitting_is size e x is =
    let both = if_some (fits_index size e) e x is in
    let parts = and_parts (nat_lt (size + 20) 2147483648) (nat_lt e.meta 2147483648 && nat_lt e.offset 2147483648) both.0 in
    let offsets = and_parts (nat_lt e.meta 2147483648) (nat_lt e.offset 2147483648) parts.1 in
    (both.1, ltb-true (size + 20) 2147483648 parts.0, ltb-true e.meta 2147483648 offsets.0, ltb-true e.offset 2147483648 offsets.1)

behind_is : (last o : Option Entry) (x : Entry) → where_behind last o ≡ Some x → o ≡ Some x
behind_is last None x is = is
behind_is last (Some e) x is = ap (λ (y : Entry). Some y) (sym (if_some (is_behind last e) e x is).1)

pub record Due (g : Option Moment) (size volume meta offset : ℕ) (x : Entry) : Type 0 where
  pub t : Moment
  pub stamped : g ≡ Some t
  pub is : x ≡ up_to t volume meta offset
  pub room : size + 20 < 2147483648
  pub meta_small : meta < 2147483648
  pub offset_small : offset < 2147483648

if_due : (b : Bool) (o : Option Entry) (x : Entry) → (if b then o else None) ≡ Some x → (b ≡ true) × (o ≡ Some x)
if_due true o x is = (refl, is)
if_due false o x is = absurd cc

pub due_is : (g : Option Moment) (stood : Bool) (last : Option Entry) (size volume meta offset : ℕ) (x : Entry) → due g stood last size volume meta offset ≡ Some x → Due g size volume meta offset x
due_is None stood last size volume meta offset x is = absurd cc
due_is (Some t) stood last size volume meta offset x is =
    let both = if_due stood (where_behind last (fitting size (up_to t volume meta offset))) x is in
    let fits = fitting_is size (up_to t volume meta offset) x (behind_is last (fitting size (up_to t volume meta offset)) x both.1) in
    record { t = t; stamped = refl; is = fits.0; room = fits.1; meta_small = fits.2; offset_small = fits.3 }

-- of a count it matters alone whether there is one
pub some_capped : (n : ℕ) → nat_lt 0 (shown_count n) ≡ nat_lt 0 n
some_capped zero = refl
some_capped (suc n) = lt-ltb 0 (shown_count (suc n)) (omega arith) ∙ sym (lt-ltb 0 (suc n) (omega arith))

-- of two counts together there is one where one of them has one
pub some_of : (a b : ℕ) → nat_lt 0 (a + b) ≡ (nat_lt 0 a || nat_lt 0 b)
some_of zero b =
    let none : zero + b ≡ b = omega arith in
    ap (nat_lt 0) none
some_of (suc a) b = lt-ltb 0 (suc a + b) (omega arith) ∙ ap (λ (x : Bool). x || nat_lt 0 b) (sym (lt-ltb 0 (suc a) (omega arith)))

-- ---- what holds of an entry holds of one that may be missing

pub room_if_any : (e : Ends) (o : Option Entry) → ((x : Entry) → o ≡ Some x → HasRoom e x) → HasRoomIfAny e o
room_if_any e None all = tt
room_if_any e (Some x) all = all x refl

pub lead_if_any : (m : Meant) (e : Ends) (held : Holdings) (o : Option Entry) → ((x : Entry) → o ≡ Some x → LeadsToEnds m e held x) → LeadIfAny m e held o
lead_if_any m e held None all = tt
lead_if_any m e held (Some x) all = all x refl

pub last_of_added : (es : List Entry) (x : Entry) → last_entry (es ++ x ∷ []) ≡ Some x
last_of_added [] x = refl
last_of_added (e ∷ []) x = refl
last_of_added (e ∷ f ∷ es) x = last_of_added (f ∷ es) x
