-- The records that stand from a place on, and the next of them.
use Rattle.std.proofs.Common.{◌≡◌, ℕ, List, [], ◌∷◌, refl, sym, ap, ◌∙◌, subst, Some, None}
use Rattle.pcp_base.specs.declared.file.FileId.{FileId}
use Rattle.pcp_base.specs.declared.result.Item.{Item}
use Rattle.pcp_base.specs.declared.result.Item.TheVariants.{Sample, Mark}
use Rattle.pcp_base.specs.declared.result.PmResult.{PmResult}
use Rattle.pcp_model.specs.Disk.{Files}
use Rattle.archive_reader.specs.declared.fault.ReaderFault.{ReaderFault}
use Rattle.archive_reader.specs.declared.fault.ReaderFault.TheVariants.{Compressed, NotArchive, DiskFault, NoMemory}
use Rattle.archive_reader.specs.declared.places.Place.{Place}
use Rattle.archive_reader.specs.Nexts.{IsNext, IsNextFault}
use Rattle.archive_reader.specs.Walks.{AllFrom, IsBad, IsEnd, StepsOver, volumes_from}
use Rattle.archive_reader.proofs.Segmented.{SameNext, moved, never_bad, no_step, same_step}
use Rattle.archive_merge.specs.Merging.{samples_of}
use Rattle.log_extract.specs.Cursors.{IsNextSample, StandFrom}
use Rattle.log_extract.specs.Sources.{IsLack}

-- what stands behind the next record
record StepsOn (files : Files) (x : Item) (ws : List (ℕ × ℕ)) (to : ℕ) (items : List Item) : Type 0 where
  rest : List Item
  is : items ≡ x ∷ rest
  all : AllFrom files ws to rest

module _ (files : Files) (vs : List (ℕ × ℕ)) (at : ℕ) where
  ended : (items : List Item) → AllFrom files vs at items → IsEnd files vs at → items ≡ []
  ended [] all end = refl
  ended (x ∷ items) all end = let (us, next, step, more) = all.leads in absurd (no_step files vs at x us next end step)

  unbad : (items : List Item) (file : FileId) (offset : ℕ) → AllFrom files vs at items → IsBad files vs at file offset → ⊥
  unbad items file offset all bad = never_bad files [] items vs at vs at all.last all.to file offset (refl, refl) bad all.leads all.ends

  stepped : (x : Item) (ws : List (ℕ × ℕ)) (to : ℕ) (items : List Item) → AllFrom files vs at items → StepsOver files vs at x ws to → StepsOn files x ws to items
  stepped x ws to [] all step =
      let end : IsEnd files vs at = subst (λ (o : ℕ). IsEnd files vs o) all.leads.1 (subst (λ (l : List (ℕ × ℕ)). IsEnd files l all.to) all.leads.0 all.ends) in
      absurd (no_step files vs at x ws to end step)
  stepped x ws to (y ∷ items) all step =
      let (us, next, over, more) = all.leads in
      let one : SameNext x y to next = same_step files vs at x y ws us to next step over in
      record {
        rest = items;
        is = ap (λ (z : Item). z ∷ items) (sym one.item);
        all = record { last = all.last; to = all.to; leads = moved files vs ws us at to next x y items all.last all.to step over more; ends = all.ends };
      }

-- The results from one place on are those from another.
pub record Passed (files : Files) (volumes : List (ℕ × ℕ)) (at : Place) (items : List Item) : Type 0 where
  pub rest : List Item
  pub stand : StandFrom files volumes at rest
  pub same : samples_of rest ≡ samples_of items

module _ (files : Files) (volumes : List (ℕ × ℕ)) (at : Place) (items : List Item) where
  -- no record follows
  pub none_follows : Passed files volumes at items → IsNext files volumes at None → IsNextSample files volumes items None
  none_follows p end = sym p.same ∙ ap samples_of (ended files (volumes_from at.volume volumes) at.offset p.rest p.stand end)

  -- a result's record
  pub sample_follows : (r : PmResult) (behind : Place) → Passed files volumes at items → IsNext files volumes at (Some (Sample r, behind)) → IsNextSample files volumes items (Some (r, behind))
  sample_follows r behind p next =
      let on : StepsOn files (Sample r) (volumes_from behind.volume volumes) behind.offset p.rest = stepped files (volumes_from at.volume volumes) at.offset (Sample r) (volumes_from behind.volume volumes) behind.offset p.rest p.stand next in
      (on.rest, sym p.same ∙ ap samples_of on.is, on.all)

  -- or a mark's, which is passed over
  pub mark_follows : (x : Item) (behind : Place) → ((r : PmResult) → x ≡ Sample r → ⊥) → Passed files volumes at items → IsNext files volumes at (Some (x, behind)) → Passed files volumes behind items
  mark_follows (Sample r) behind other p next = absurd (other r refl)
  mark_follows (Mark t) behind other p next =
      let on : StepsOn files (Mark t) (volumes_from behind.volume volumes) behind.offset p.rest = stepped files (volumes_from at.volume volumes) at.offset (Mark t) (volumes_from behind.volume volumes) behind.offset p.rest p.stand next in
      record { rest = on.rest; stand = on.all; same = sym (ap samples_of on.is) ∙ p.same }

  -- nothing but a lack breaks reading off
  pub lack_follows : (e : ReaderFault) → Passed files volumes at items → IsNextFault files volumes at e → IsLack e
  lack_follows (Compressed file) p bad = bad
  lack_follows (NotArchive file offset) p bad = unbad files (volumes_from at.volume volumes) at.offset p.rest file offset p.stand bad
  lack_follows DiskFault p bad = tt
  lack_follows NoMemory p bad = tt
