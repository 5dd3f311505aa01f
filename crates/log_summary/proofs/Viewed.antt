-- A result that was read, as an item.
use Rattle.std.proofs.Common.{◌≡◌, ◌≢◌, inr, ⊎_elim, ℕ, Bool, true, false, List, [], ◌∷◌, length, Result, Ok, Err, refl, sym, ap, ◌∙◌, arith}
use Rattle.std.specs.Prelude.{◌==◌, if◌then◌else◌}
use Rattle.std.proofs.lemmas.Bool.{ne_eqb}
use Rattle.pcp_base.specs.Time.{Moment}
use Rattle.pcp_base.specs.declared.result.ValueSet.{ValueSet}
use Rattle.pcp_base.specs.declared.result.PmResult.{PmResult}
use Rattle.pcp_base.specs.declared.result.Item.{Item}
use Rattle.pcp_base.specs.declared.result.Item.TheVariants.{Sample, Mark}
use Rattle.pcp_model.specs.declared.records.MetaRecord.{MetaRecord}
use Rattle.pcp_model.specs.Payload.{IsItem, IsPayload, stamp_of}
use Rattle.result_form.specs.declared.fault.FormFault.{FormFault}
use Rattle.result_form.specs.declared.fault.FormFault.TheVariants.{NoMemory}
use Rattle.archive_volume.proofs.Readings.{item_only}
use Rattle.archive_volume.specs.Items.{item_of}
use Rattle.log_summary.specs.Values.{sets_values, item_values}

pub item_stamp : (r : PmResult) → stamp_of (item_of r) ≡ r.stamp
item_stamp r = by (length r.sets == 0)
  where
    by : (b : Bool) → stamp_of (if b then Mark r.stamp else Sample r) ≡ r.stamp
    by true = refl
    by false = refl

-- its values are those of its sets
pub item_sets : (records : List MetaRecord) (r : PmResult) → item_values records (item_of r) ≡ sets_values records r.stamp r.sets
item_sets records r = by r.stamp r.sets
  where
    by : (t : Moment) (sets : List ValueSet) → item_values records (item_of (record { stamp = t; sets = sets })) ≡ sets_values records t sets
    by t [] = refl
    by t (set ∷ sets) = ap (λ b. item_values records (if b then Mark t else Sample (record { stamp = t; sets = set ∷ sets }))) (ne_eqb (length (set ∷ sets)) 0 (λ e. omega (arith, e)))

clash : (x : Item) (e : FormFault) → ◌≡◌ {A = Result Item FormFault} (Ok x) (Err e) → ⊥
clash x e is = cc

-- a payload that isn't read, and not for want of memory, is no item's
pub no_item : (bytes : List ℕ) (answer : Result PmResult FormFault) (e : FormFault) → answer ≡ Err e → e ≢ NoMemory → ((r : PmResult) → IsPayload bytes r → answer ≡ Ok r) → (x : Item) → IsItem bytes x → ⊥
no_item bytes answer e is other only x item =
    ⊎_elim other (clash x e) (item_only bytes (Err e) (λ r p. inr (sym (only r p) ∙ is)) x item)
