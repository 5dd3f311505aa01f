-- An item is the result of its payload, and back.
use Rattle.std.proofs.Common.{◌≡◌, ℕ, ◌<◌, List, [], ◌∷◌, ◌++◌, length, Result, Ok, Err, refl, sym, ap, ◌∙◌, subst, arith, cond, inl, inr}
use Rattle.std.proofs.lemmas.Bool.{ne_eqb}
use Rattle.std.proofs.lemmas.List.{take_all, append-nil, length-append}
use Rattle.pcp_base.specs.Time.{Moment}
use Rattle.pcp_base.specs.declared.result.ValueSet.{ValueSet}
use Rattle.pcp_base.specs.declared.result.PmResult.{PmResult}
use Rattle.pcp_base.specs.declared.result.Item.{Item}
use Rattle.pcp_base.specs.declared.result.Item.TheVariants.{Sample, Mark}
use Rattle.pcp_model.specs.Words.{word, length-word}
use Rattle.pcp_model.specs.Payload.{reach, IsPayload, IsItem}
use Rattle.result_form.specs.declared.fault.FormFault.{FormFault}
use Rattle.result_form.specs.Decoding.{Gives}
use Rattle.archive_volume.specs.Items.{item_of}

-- a result without a set
abbrev no_sets : Moment → PmResult
no_sets t = record { stamp = t; sets = [] }

pub length-mark : (t : Moment) → length (word t.sec ++ (word t.usec ++ word 0)) ≡ 12
length-mark t = omega (arith, length-append (word t.sec) (word t.usec ++ word 0), length-append (word t.usec) (word 0), length-word t.sec, length-word t.usec, length-word 0)

head_ends : (t : Moment) → word t.sec ++ (word t.usec ++ (word 0 ++ [])) ≡ word t.sec ++ (word t.usec ++ word 0)
head_ends t = ap (λ x. word t.sec ++ (word t.usec ++ x)) (append-nil (word 0))

-- a mark is a result without a set
mark_payload : (bytes : List ℕ) (t : Moment) → IsItem bytes (Mark t) → IsPayload bytes (no_sets t)
mark_payload bytes t is =
    let long : length bytes ≡ 12 = ap length is.1 ∙ length-mark t in
    record {
      range = record { moment = is.0; few = omega arith; sets = tt };
      offsets = [];
      head = take_all 12 bytes (omega arith) ∙ is.1 ∙ sym (head_ends t);
      blocks = tt;
      whole = long;
    }

no_reach : (end : ℕ) (offsets : List ℕ) → reach end offsets [] ≡ end
no_reach end [] = refl
no_reach end (offset ∷ offsets) = refl

-- and back
payload_mark : (bytes : List ℕ) (t : Moment) → IsPayload bytes (no_sets t) → IsItem bytes (Mark t)
payload_mark bytes t p =
    let long : length bytes ≡ 12 = p.whole ∙ no_reach 12 p.offsets in
    (p.range.moment, sym (take_all 12 bytes (omega arith)) ∙ p.head ∙ head_ends t)

-- a result with a set is a sample
is_sample : (r : PmResult) → 0 < length r.sets → item_of r ≡ Sample r
is_sample r h = ap (λ b. cond b (Mark r.stamp) (Sample r)) (ne_eqb (length r.sets) 0 (λ e. omega (arith, h, e)))

-- what a payload spells is its item
pub item_is : (bytes : List ℕ) (r : PmResult) → IsPayload bytes r → IsItem bytes (item_of r)
item_is bytes r p = by r.stamp r.sets p
  where
    by : (t : Moment) (sets : List ValueSet) → IsPayload bytes (record { stamp = t; sets = sets }) → IsItem bytes (item_of (record { stamp = t; sets = sets }))
    by t [] q = payload_mark bytes t q
    by t (set ∷ sets) q = subst (IsItem bytes) (sym (is_sample (record { stamp = t; sets = set ∷ sets }) (omega arith))) (omega arith, q)

-- an item is that of a result that its payload spells
item_from : (bytes : List ℕ) (item : Item) → IsItem bytes item → (r : PmResult) × IsPayload bytes r × (item_of r ≡ item)
item_from bytes (Mark t) is = (no_sets t, mark_payload bytes t is, refl)
item_from bytes (Sample r) is = (r, is.1, is_sample r is.0)

-- what was read of a result, as an item
abbrev pub as_item : Result PmResult FormFault → Result Item FormFault
as_item (Ok r) = Ok (item_of r)
as_item (Err fault) = Err fault

as_given : (read : Result PmResult FormFault) (r : PmResult) → Gives read (Ok r) → Gives (as_item read) (Ok (item_of r))
as_given (Ok x) r given = ap as_item given
as_given (Err fault) r (inl e) = inl e
as_given (Err fault) r (inr e) = absurd cc

-- where each result that the payload spells is read, so is each item
pub item_only : (bytes : List ℕ) (read : Result PmResult FormFault) → ((r : PmResult) → IsPayload bytes r → Gives read (Ok r)) → (item : Item) → IsItem bytes item → Gives (as_item read) (Ok item)
item_only bytes read only item is =
    let f = item_from bytes item is in
    subst (λ x. Gives (as_item read) (Ok x)) f.2 (as_given read f.0 (only f.0 f.1))

-- what was shown of a result, as an item: where each result that the payload spells is shown, so is each item
pub item_shown : (bytes : List ℕ) (read : Result PmResult FormFault) → ((r : PmResult) → IsPayload bytes r → read ≡ Ok r) → (item : Item) → IsItem bytes item → as_item read ≡ Ok item
item_shown bytes read only item is =
    let f = item_from bytes item is in
    ap as_item (only f.0 f.1) ∙ ap (λ x. Ok x) f.2
