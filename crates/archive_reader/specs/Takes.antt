-- How many bytes of volumes a search by time takes.
use Rattle.std.specs.Prelude.{◌≡◌, ℕ, ◌+◌, ◌≤◌, List, [], ◌∷◌, Option, Some, None}
use Rattle.pcp_base.specs.Time.{Moment}
use Rattle.pcp_base.specs.declared.file.FileId.TheVariants.{Volume}
use Rattle.pcp_base.specs.declared.result.Item.{Item}
use Rattle.pcp_model.specs.Disk.{Files}
use Rattle.pcp_model.specs.Sound.{NoItemAfter}
use Rattle.archive_loading.specs.Taking.{Took, TookBack}
use Rattle.archive_reader.specs.declared.beginning.Begin.{Begin}
use Rattle.archive_reader.specs.declared.beginning.Begin.TheVariants.{At, Outside}
use Rattle.archive_reader.specs.Asked.{back_end}
use Rattle.archive_reader.specs.Walks.{volumes_from, next_volumes, next_offset, StepsOver}

-- at a place no more than a record's bytes, or those of one that wasn't written whole
abbrev pub TookThere : Files → List (ℕ × ℕ) → ℕ → ℕ → ℕ → Type 0
TookThere files [] at before after = after ≤ before
TookThere files (v ∷ vs) at before after = Took (files (Volume v.0)) at before after

-- behind the ends of volumes
abbrev pub TookNext : Files → List (ℕ × ℕ) → ℕ → ℕ → ℕ → Type 0
TookNext files vs at before after = TookThere files (next_volumes vs at) (next_offset vs at) before after

-- from one place up to another stand the records of these items, which have so many bytes together
abbrev pub Spans : Files → List (ℕ × ℕ) → ℕ → List Item → List (ℕ × ℕ) → ℕ → ℕ → Type 0
Spans files vs at [] ws to size = (ws ≡ vs) × (to ≡ at) × (size ≡ 0)
Spans files vs at (x ∷ items) ws to size =
    (us : List (ℕ × ℕ)) × (next : ℕ) × (more : ℕ) × StepsOver files vs at x us next × Spans files us next items ws to more × (size + next_offset vs at ≡ next + more)

-- no more bytes than those of records from a place on whose items aren't after t, and of the one record behind them
pub record TakesSegment (files : Files) (vs : List (ℕ × ℕ)) (at : ℕ) (t : Moment) (before after : ℕ) : Type 0 where
  pub items : List Item
  pub last : List (ℕ × ℕ)
  pub to : ℕ
  pub size : ℕ
  pub spans : Spans files vs at items last to size
  pub by : NoItemAfter t items
  pub past : TookNext files last to (before + size) after

-- and of the one record that ends at a place
abbrev pub TookLast : Files → Option (ℕ × ℕ) → ℕ → ℕ → Type 0
TookLast files None before after = after ≤ before
TookLast files (Some v) before after = TookBack (files (Volume v.0)) v.1 before after

pub record TakesAround (files : Files) (vs : List (ℕ × ℕ)) (at : ℕ) (back : Option (ℕ × ℕ)) (t : Moment) (before after : ℕ) : Type 0 where
  pub mid : ℕ
  pub segment : TakesSegment files vs at t before mid
  pub back_part : TookLast files back mid after

-- What a range takes, and what the search for the last item not after a moment; nothing where the search begins outside its
-- volume's records.
abbrev pub TakesRange : Files → List (ℕ × ℕ) → Moment → Begin → ℕ → ℕ → Type 0
TakesRange files volumes to (At n offset) before after = TakesSegment files (volumes_from n volumes) offset to before after
TakesRange files volumes to (Outside n offset) before after = after ≤ before

abbrev pub TakesAt : Files → List (ℕ × ℕ) → Moment → Begin → ℕ → ℕ → Type 0
TakesAt files volumes t (At n offset) before after = TakesAround files (volumes_from n volumes) offset (back_end volumes n offset) t before after
TakesAt files volumes t (Outside n offset) before after = after ≤ before
