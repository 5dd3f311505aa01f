-- What the tables tell of a key's first row.
use Rattle.std.proofs.Common.{◌≡◌, ℕ, ℤ, zero, suc, ◌+◌, ◌<◌, ◌≤◌, Bool, true, false, cond, min, List, [], ◌∷◌, length, take, get_or, ap, sym, subst, ◌∙◌, refl, arith, nat_eq, nat_lt, Option, Some, None, unwrap_or, find}
use Rattle.std.specs.List.{position, position_or_len, slice_get}
use Rattle.std.specs.Ordering.{int_cmp, int_eq}
use Rattle.std.specs.BTreeMap.{get}
use Rattle.mmv_layout.specs.declared.rows.IndomRow.{IndomRow}
use Rattle.mmv_layout.specs.declared.rows.MetricRow.{MetricRow}
use Rattle.mmv_writer.specs.declared.lookups.DomainPlace.{DomainPlace}
use Rattle.mmv_writer.specs.Offsets.{instances_in}
use Rattle.mmv_writer.specs.Spelling.{serial_in, serial_of, members_in, member_of}
use Rattle.mmv_writer.specs.Tables.{IsTold, IsPlace}
use Rattle.mmv_writer.proofs.Members.{first_or_len, first_fits, found_fits}
use Rattle.mmv_writer.proofs.Positions.{find_at}

-- A row that stands there, and one past the end

pub get_at : {T : Type 0} (xs : List T) (i : ℕ) (x : T) → i < length xs → x ≡ get_or xs i x → slice_get xs i ≡ Some x
get_at [] i x below is = absurd (omega arith)
get_at (y ∷ xs) zero x below is = ap Some (sym is)
get_at (y ∷ xs) (suc i) x below is = get_at xs i x (omega arith) is

pub past : {T : Type 0} (xs : List T) (i : ℕ) → length xs ≤ i → slice_get xs i ≡ None
past [] i h = refl
past (x ∷ xs) zero h = absurd (omega arith)
past (x ∷ xs) (suc i) h = past xs i (omega arith)

-- No row has the key

pub first_none : {T : Type 0} (test : T → Bool) (rows : List T) → position test rows ≡ None → length rows ≡ position_or_len test rows
first_none test rows e = ap (λ o. unwrap_or o (length rows)) (sym e) ∙ first_or_len test rows

find_none : {T : Type 0} (test : T → Bool) (rows : List T) → position test rows ≡ None → find test rows ≡ None
find_none test rows e = find_at test rows ∙ ap (slice_get rows) (sym (first_none test rows e)) ∙ past rows (length rows) (omega arith)

pub told_none : (rows : List IndomRow) (o : Option DomainPlace) (p : Option ℕ) → IsTold rows o p → None ≡ o → p ≡ None
told_none rows None None t e = refl
told_none rows None (Some at) t e = absurd t
told_none rows (Some place) p t e = cc

pub no_member : (rows : List IndomRow) (serial : ℕ) (id : ℤ) → position (λ row. nat_eq row.serial serial) rows ≡ None → 0 ≡ member_of rows serial id
no_member rows serial id e = ap (λ o. position_or_len (λ other. int_eq other.0 id) (members_in o)) (sym (find_none (λ row. nat_eq row.serial serial) rows e))

-- A row has it

first_is : {T : Type 0} (test : T → Bool) (rows : List T) (at : ℕ) → position test rows ≡ Some at → position_or_len test rows ≡ at
first_is test rows at e = here (nat_lt (position_or_len test rows) (length rows)) e
  where
    here : (b : Bool) → cond b (Some (position_or_len test rows)) None ≡ Some at → position_or_len test rows ≡ at
    here true h = cc
    here false h = cc

pub record Told (rows : List IndomRow) (serial : ℕ) (place : DomainPlace) : Type 0 where
  pub at : ℕ
  pub row : IndomRow
  pub first : position_or_len (λ r. nat_eq r.serial serial) rows ≡ at
  pub found : find (λ r. nat_eq r.serial serial) rows ≡ Some row
  pub is : IsPlace row at (min (instances_in (take at rows)) 18446744073709551615) place

pub told_some : (rows : List IndomRow) (serial : ℕ) (o : Option DomainPlace) (p : Option ℕ) (place : DomainPlace) → IsTold rows o p → position (λ r. nat_eq r.serial serial) rows ≡ p → Some place ≡ o → Told rows serial place
told_some rows serial None p place t e f = cc
told_some rows serial (Some other) None place t e f = absurd t
told_some rows serial (Some other) (Some at) place (row, there, is) e f =
    let same : other ≡ place = cc in
    let first : position_or_len (λ r. nat_eq r.serial serial) rows ≡ at = first_is (λ r. nat_eq r.serial serial) rows at e in
    record {
      at = at;
      row = row;
      first = first;
      found = find_at (λ r. nat_eq r.serial serial) rows ∙ ap (slice_get rows) first ∙ there;
      is = subst (IsPlace row at (min (instances_in (take at rows)) 18446744073709551615)) same is;
    }

-- which member has a number, and that it isn't far
pub member_told : (rows : List IndomRow) (serial : ℕ) (id : ℤ) (place : DomainPlace) → Told rows serial place → unwrap_or (get int_cmp place.members id) place.count ≡ member_of rows serial id
member_told rows serial id place t =
    ap (λ o. unwrap_or o place.count) (t.is.members id) ∙ ap (unwrap_or (position (λ other. int_eq other.0 id) t.row.instances)) t.is.count
    ∙ first_or_len (λ other. int_eq other.0 id) t.row.instances
    ∙ ap (λ o. position_or_len (λ other. int_eq other.0 id) (members_in o)) (sym t.found)

pub member_near : (rows : List IndomRow) (serial : ℕ) (id : ℤ) (place : DomainPlace) (n : ℕ) → Told rows serial place → n ≡ unwrap_or (get int_cmp place.members id) place.count → n ≤ instances_in rows
member_near rows serial id place n t e =
    let is : n ≡ position_or_len (λ other. int_eq other.0 id) t.row.instances =
    e ∙ member_told rows serial id place t ∙ ap (λ o. position_or_len (λ other. int_eq other.0 id) (members_in o)) t.found in
    let within : position_or_len (λ other. int_eq other.0 id) t.row.instances ≤ length t.row.instances = first_fits (λ other. int_eq other.0 id) t.row.instances in
    let all : length t.row.instances ≤ instances_in rows = found_fits rows serial t.row t.found in
    omega arith

-- a domain's place, by other names of its numbers
pub placed : (row : IndomRow) (a b x y : ℕ) (place : DomainPlace) → IsPlace row a b place → a ≡ x → b ≡ y → IsPlace row x y place
placed row a b x y place is e f = record { stands = is.stands ∙ e; behind = is.behind ∙ f; count = is.count; members = is.members }

-- a metric's serial
pub serial_told : (rows : List MetricRow) (item at : ℕ) (o : Option MetricRow) → at ≡ position_or_len (λ m. nat_eq m.item item) rows → o ≡ slice_get rows at → serial_in o ≡ serial_of rows item
serial_told rows item at o first e = ap serial_in (e ∙ ap (slice_get rows) first ∙ sym (find_at (λ m. nat_eq m.item item) rows))
