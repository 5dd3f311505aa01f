-- The next record from a place, as it is answered.
use Rattle.std.proofs.Common.{◌≡◌, ℕ, ◌<◌, List, length, drop, sym, ap, ◌∙◌, subst, Option, Some, None}
use Rattle.std.specs.Prelude.{get_or}
use Rattle.std.specs.List.{AllByRecursion}
use Rattle.pcp_base.specs.declared.file.FileId.TheVariants.{Volume}
use Rattle.pcp_base.specs.declared.result.Item.{Item}
use Rattle.pcp_model.specs.Disk.{Files}
use Rattle.archive_loading.specs.declared.lack.Lack.{Lack}
use Rattle.archive_loading.specs.declared.lack.Lack.TheVariants.{Disk, Memory}
use Rattle.archive_reader.specs.declared.places.Place.{Place}
use Rattle.archive_reader.specs.Lacks.{of_lack}
use Rattle.pcp_model.specs.declared.records.MetaRecord.{MetaRecord}
use Rattle.pcp_model.specs.declared.records.Entry.{Entry}
use Rattle.pcp_model.specs.LabelFields.{LabelFields}
use Rattle.archive_loading.specs.Loaded.{IsKeptOf, IsMeasured, Rises}
use Rattle.archive_reader.specs.Nexts.{IsNext, IsNextFault}
use Rattle.archive_reader.specs.Walks.{volumes_from, StepsOver, IsEnd, IsBad}
use Rattle.archive_loading.proofs.Volumes.{measured}
use Rattle.archive_reader.proofs.Stepping.{from_own}

pub lack_next : (files : Files) (volumes : List (ℕ × ℕ)) (p : Place) (lack : Lack) → IsNextFault files volumes p (of_lack lack)
lack_next files volumes p Disk = tt
lack_next files volumes p Memory = tt

module _ (files : Files) (volumes : List (ℕ × ℕ)) (p : Place) (index : ℕ) (from : drop index volumes ≡ volumes_from p.volume volumes) where
  pub next_item : (x : Item) (behind number next : ℕ) → Rises volumes → behind < length volumes → number ≡ (get_or volumes behind (0, 0)).0 → StepsOver files (drop index volumes) p.offset x (drop behind volumes) next
      → IsNext files volumes p (Some (x, record { volume = number; offset = next }))
  next_item x behind number next rises lt is s =
      let own : drop behind volumes ≡ volumes_from number volumes = sym (ap (λ n. volumes_from n volumes) is ∙ from_own volumes behind rises lt) in
      subst (λ vs. StepsOver files vs p.offset x (volumes_from number volumes) next) from (subst (λ ws. StepsOver files (drop index volumes) p.offset x ws next) own s)

  pub next_none : IsEnd files (drop index volumes) p.offset → IsNext files volumes p None
  next_none e = subst (λ vs. IsEnd files vs p.offset) from e

  pub next_bad : (number at : ℕ) → IsBad files (drop index volumes) p.offset (Volume number) at → IsBad files (volumes_from p.volume volumes) p.offset (Volume number) at
  next_bad number at b = subst (λ vs. IsBad files vs p.offset (Volume number) at) from b

-- what a reader has kept of the volumes
pub kept_measured : (files : Files) (label : Option LabelFields) (records : List MetaRecord) (entries : List Entry) (vs : List (ℕ × ℕ)) → IsKeptOf files label records entries vs → AllByRecursion (IsMeasured files) vs
kept_measured files None records entries vs over = subst (AllByRecursion (IsMeasured files)) (sym over.3) tt
kept_measured files (Some l) records entries vs over = measured files l vs over.labelled

pub kept_rises : (files : Files) (label : Option LabelFields) (records : List MetaRecord) (entries : List Entry) (vs : List (ℕ × ℕ)) → IsKeptOf files label records entries vs → Rises vs
kept_rises files None records entries vs over = subst Rises (sym over.3) tt
kept_rises files (Some l) records entries vs over = over.labelled.1
