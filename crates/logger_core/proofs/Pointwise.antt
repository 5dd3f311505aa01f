-- Files that hold the same bytes, with the same put behind one of them.
use Rattle.std.proofs.Common.{◌≡◌, ℕ, Bool, true, false, List, [], ◌++◌, Option, Some, None, refl, ap, append_assoc, cond, append-nil}
use Rattle.pcp_base.specs.declared.file.FileId.{FileId}
use Rattle.pcp_base.specs.declared.file.FileId.TheVariants.{Index}
use Rattle.pcp_model.specs.declared.records.Entry.{Entry}
use Rattle.pcp_model.specs.Disk.{Files}
use Rattle.pcp_model.specs.Records.{entry}
use Rattle.pcp_model.specs.Written.{same_file, with_added}
use Rattle.logger_core.specs.Steps.{with_entry}

pub added_same : (file : FileId) (bytes : List ℕ) (f h : Files) → ((g : FileId) → f g ≡ h g) → (g : FileId) → with_added file bytes f g ≡ with_added file bytes h g
added_same file bytes f h same g = ap (λ t. cond (same_file file g) (t ++ bytes) t) (same g)

pub other_added : (file : FileId) (bytes : List ℕ) (f : Files) (g : FileId) → same_file file g ≡ false → with_added file bytes f g ≡ f g
other_added file bytes f g other = ap (λ b. cond b (f g ++ bytes) (f g)) other

pub twice : (b : Bool) (t x y : List ℕ) → cond b (cond b (t ++ x) t ++ y) (cond b (t ++ x) t) ≡ cond b (t ++ (x ++ y)) t
twice true t x y = append_assoc t x y
twice false t x y = refl

pub added_twice : (file : FileId) (x y : List ℕ) (f : Files) (g : FileId) → with_added file y (with_added file x f) g ≡ with_added file (x ++ y) f g
added_twice file x y f g = twice (same_file file g) (f g) x y

none_put : (b : Bool) (t : List ℕ) → cond b (t ++ []) t ≡ t
none_put true t = append-nil t
none_put false t = refl

pub added_none : (file : FileId) (f : Files) (g : FileId) → with_added file [] f g ≡ f g
added_none file f g = none_put (same_file file g) (f g)

pub entry_same : (o : Option Entry) (f h : Files) → ((g : FileId) → f g ≡ h g) → (g : FileId) → with_entry o f g ≡ with_entry o h g
entry_same None f h same g = same g
entry_same (Some e) f h same g = added_same Index (entry e) f h same g
