-- The instances of a domain's run are instances of the image.
use Rattle.std.proofs.Common.{◌≡◌, ℕ, ◌<◌, true, List, sym, subst}
use Rattle.mmv_layout.specs.Sizes.{instance_size}
use Rattle.mmv_layout.specs.EntryFields.{count_in_indom, name_offset_in_instance}
use Rattle.mmv_layout.specs.Contents.{version_in, section_of}
use Rattle.mmv_layout.specs.Entries.{indom_count, indom_at, instance_count, instance_at, run_at, is_instance_of, has_good_run, is_good_indom, name_leads}
use Rattle.mmv_layout.specs.Images.{is_image}
use Rattle.mmv_layout.specs.Says.{LeadsTo}
use Rattle.mmv_layout.proofs.Below.{all_at, both_left, both_right}
use Rattle.mmv_layout.proofs.Goods.{leads_there, good_indom}
use Rattle.mmv_layout.proofs.Named.{instance_named}

good_run : (words : List ℕ) (i : ℕ) → is_good_indom words i ≡ true → has_good_run words (indom_at words i) ≡ true
unfolding is_good_indom
good_run words i good = both_right _ _ (both_left _ _ (both_left _ _ good))

member_leads : (words : List ℕ) (domain instance : ℕ) → is_instance_of words domain instance ≡ true → LeadsTo (instance_count words) (instance_at words) instance
unfolding is_instance_of
member_leads words domain instance member =
    leads_there (section_of words 2).offset (section_of words 2).count (instance_size (version_in words)) instance (both_left _ _ member)

pub run_leads : (words : List ℕ) (i k : ℕ) → is_image words ≡ true → i < indom_count words → k < count_in_indom words (indom_at words i)
    → LeadsTo (instance_count words) (instance_at words) (run_at words (indom_at words i) k)
unfolding has_good_run
run_leads words i k h below within =
    member_leads words (indom_at words i) (run_at words (indom_at words i) k)
    (all_at (count_in_indom words (indom_at words i)) k (λ k. is_instance_of words (indom_at words i) (run_at words (indom_at words i) k)) (good_run words i (good_indom words i h below)) within)

pub run_named : (words : List ℕ) (i k : ℕ) → is_image words ≡ true → i < indom_count words → k < count_in_indom words (indom_at words i)
    → name_leads words (name_offset_in_instance (run_at words (indom_at words i) k)) ≡ true
run_named words i k h below within =
    let (j, known, stands) = run_leads words i k h below within in
    subst (λ p. name_leads words (name_offset_in_instance p) ≡ true) (sym stands) (instance_named words j h known)
