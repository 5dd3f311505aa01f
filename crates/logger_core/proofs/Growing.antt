-- No call of a disk takes a byte away from a file but a cut.
use Rattle.std.proofs.Common.{◌≡◌, ⊎_elim, ℕ, true, false, List, [], ◌++◌, take, sym, ap, ◌∙◌, subst, append_assoc}
use Rattle.std.specs.Prelude.{Result, Ok, Err}
use Rattle.std.proofs.lemmas.List.{append-nil}
use Rattle.pcp_base.specs.declared.file.FileId.{FileId}
use Rattle.pcp_model.specs.Disk.{Held, Holdings, bytes_of}
use Rattle.pcp_model.specs.Written.{same_file}
use Rattle.pcp_outside.specs.Devices.{Appends, AppendsSure, Becomes, Syncs, held_after_append, held_after_sync, made_sure}
use Rattle.pcp_outside.proofs.Images.{same_or_other, same_file_is, bytes-appended, bytes-made_sure, bytes-synced}
use Rattle.logger_core.specs.Going.{OnlyGrows}

pub grows_not : (held : Holdings) → OnlyGrows held held
grows_not held file = ([], sym (append-nil (bytes_of (held file))))

pub grows_as : (old new : Holdings) → new ≡ old → OnlyGrows old new
grows_as old new same = subst (OnlyGrows old) (sym same) (grows_not old)

pub grows_then : (a b c : Holdings) → OnlyGrows a b → OnlyGrows b c → OnlyGrows a c
grows_then a b c first second file =
    ((first file).0 ++ (second file).0, (second file).1 ∙ ap (λ t. t ++ (second file).0) (first file).1 ∙ append_assoc (bytes_of (a file)) (first file).0 (second file).0)

one_grows : (file : FileId) (h : Held) (old new : Holdings) → Becomes file h old new → (more : List ℕ) → bytes_of h ≡ bytes_of (old file) ++ more → OnlyGrows old new
one_grows file h old new change more is g = ⊎_elim
    (λ (same : same_file file g ≡ true). subst (λ (f : FileId). (rest : List ℕ) × (bytes_of (new f) ≡ bytes_of (old f) ++ rest)) (same_file_is file g same) (more, ap bytes_of change.this ∙ is))
    (λ (other : same_file file g ≡ false). ([], ap bytes_of (change.others g other) ∙ sym (append-nil (bytes_of (old g)))))
    (same_or_other file g)

pub grows_append : {T E : Type 0} (file : FileId) (bytes : List ℕ) (old new : Holdings) (result : Result T E) → Appends file bytes old new result → OnlyGrows old new
grows_append file bytes old new (Ok v) change = one_grows file (held_after_append (old file) bytes) old new change bytes (bytes-appended (old file) bytes)
grows_append file bytes old new (Err e) change = one_grows file (held_after_append (old file) (take change.0 bytes)) old new change.1 (take change.0 bytes) (bytes-appended (old file) (take change.0 bytes))

synced_grows : (file : FileId) (old new : Holdings) → Becomes file (held_after_sync (old file)) old new → OnlyGrows old new
synced_grows file old new change = one_grows file (held_after_sync (old file)) old new change [] (bytes-synced (old file) ∙ sym (append-nil (bytes_of (old file))))

pub grows_sync : {T E : Type 0} (file : FileId) (old new : Holdings) (result : Result T E) → Syncs file old new result → OnlyGrows old new
grows_sync file old new (Ok v) change = synced_grows file old new change
grows_sync file old new (Err e) change = ⊎_elim (λ (same : new ≡ old). grows_as old new same) (λ (synced : Becomes file (held_after_sync (old file)) old new). synced_grows file old new synced) change

sure_grows : (file : FileId) (bytes : List ℕ) (old new : Holdings) → Becomes file (made_sure (old file) bytes) old new → OnlyGrows old new
sure_grows file bytes old new change = one_grows file (made_sure (old file) bytes) old new change bytes (bytes-made_sure (old file) bytes)

pub grows_append_synced : {T E : Type 0} (file : FileId) (bytes : List ℕ) (old new : Holdings) (result : Result T E) → AppendsSure file bytes old new result → OnlyGrows old new
grows_append_synced file bytes old new (Ok v) change = sure_grows file bytes old new change
grows_append_synced file bytes old new (Err e) change = ⊎_elim
    (λ (rest : Becomes file (held_after_append (old file) (take change.0 bytes)) old new). one_grows file (held_after_append (old file) (take change.0 bytes)) old new rest (take change.0 bytes) (bytes-appended (old file) (take change.0 bytes)))
    (λ (sure : Becomes file (made_sure (old file) (take change.0 bytes)) old new). sure_grows file (take change.0 bytes) old new sure)
    change.1
