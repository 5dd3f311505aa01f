-- The bytes of labels, volume by volume.
use Rattle.std.proofs.Common.{zero, suc, ◌≡◌, ℕ, ◌+◌, ◌-◌, ◌<◌, ◌≤◌, length, take, ap, ◌∙◌, subst, add-one, arith}
use Rattle.pcp_base.specs.declared.file.FileId.TheVariants.{Volume}
use Rattle.pcp_model.specs.Disk.{Files}
use Rattle.archive_loading.specs.Takes.{label_bytes}

pub none_taken : (before : ℕ) (files : Files) → before ≤ before + label_bytes files 0
none_taken before files = omega arith

label_more : (files : Files) (n : ℕ) → label_bytes files (n + 1) ≡ label_bytes files n + length (take 132 (files (Volume n)))
unfolding label_bytes
label_more files n = rw add-one

pub one_label : (files : Files) (n before mid after : ℕ) → mid ≤ before + label_bytes files n → after ≤ mid + length (take 132 (files (Volume n))) → after ≤ before + label_bytes files (n + 1)
one_label files n before mid after so_far one =
    let more : label_bytes files (n + 1) ≡ label_bytes files n + length (take 132 (files (Volume n))) = label_more files n in
    omega (arith, so_far, one, more)

pub labels_so_far : (files : Files) (n count before after : ℕ) → n ≡ count → after ≤ before + label_bytes files n → after ≤ before + label_bytes files count
labels_so_far files n count before after end took = subst (λ k. after ≤ before + label_bytes files k) end took

-- fewer volumes' labels have no more bytes
pub labels_up_to : (files : Files) (n more : ℕ) → label_bytes files n ≤ label_bytes files (n + more)
labels_up_to files n zero =
    let same : label_bytes files (n + 0) ≡ label_bytes files n = ap (label_bytes files) (let none : n + 0 ≡ n = omega arith in none) in
    omega (arith, same)
labels_up_to files n (suc more) =
    let end : n + suc more ≡ n + more + 1 = omega arith in
    let one : label_bytes files (n + suc more) ≡ label_bytes files (n + more) + length (take 132 (files (Volume (n + more)))) = ap (label_bytes files) end ∙ label_more files (n + more) in
    let fewer : label_bytes files n ≤ label_bytes files (n + more) = labels_up_to files n more in
    omega (arith, one, fewer)

-- and so at a volume whose successors weren't looked at
pub labels_below : (files : Files) (n count before mid after : ℕ) → n < count → mid ≤ before + label_bytes files n → after ≤ mid + length (take 132 (files (Volume n))) → after ≤ before + label_bytes files count
labels_below files n count before mid after low so_far one =
    let here : after ≤ before + label_bytes files (n + 1) = one_label files n before mid after so_far one in
    let more : label_bytes files (n + 1) ≤ label_bytes files (n + 1 + (count - (n + 1))) = labels_up_to files (n + 1) (count - (n + 1)) in
    let end : n + 1 + (count - (n + 1)) ≡ count = omega (arith, low) in
    let same : label_bytes files (n + 1 + (count - (n + 1))) ≡ label_bytes files count = ap (label_bytes files) end in
    omega (arith, here, more, same)
