-- A reader of the parts that were read.
use Rattle.std.proofs.Common.{◌≡◌, ◌≢◌, ◌⊎◌, inl, inr, ⊎_elim, ℕ, ◌-◌, ◌<◌, ◌≤◌, Bool, true, false, List, [], ◌∷◌, length, refl, sym, ap, ◌∙◌, subst, arith}
use Rattle.std.specs.Prelude.{Contains, MatchBool}
use Rattle.std.specs.List.{AllByRecursion}
use Rattle.std.proofs.lemmas.Bool.{cases_lt}
use Rattle.std.proofs.lemmas.List.{nil_from_length}
use Rattle.std.proofs.lemmas.List.Elements.{All-contains, All-from_recursion}
use Rattle.pcp_base.specs.declared.file.FileId.TheVariants.{Meta, Index, Volume}
use Rattle.pcp_model.specs.declared.records.MetaRecord.{MetaRecord}
use Rattle.pcp_model.specs.declared.records.Entry.{Entry}
use Rattle.pcp_model.specs.Archive.{IsStoppedCreation}
use Rattle.pcp_model.specs.Disk.{Files, Holdings, contents_of, bytes_of}
use Rattle.pcp_model.specs.LabelFields.{LabelFields}
use Rattle.pcp_outside.specs.Devices.{IsVolumes}
use Rattle.archive_loading.specs.declared.metadata.MetaPart.TheVariants.{Begun}
use Rattle.archive_loading.specs.Metadata.{IsMetaPart}
use Rattle.archive_loading.specs.Loaded.{IsLabelledArchive, AreLabelled, IsHeaded, IsMeasured, HasLong, AllShort, numbers}
use Rattle.archive_loading.specs.LoadFaults.{HeadIs, NotLoaded, IsBeside}
use Rattle.archive_loading.specs.Volumes.{IsAlone}
use Rattle.archive_loading.proofs.Volumes.{measured}

-- the volumes' lengths, by their numbers
short_numbers : (files : Files) (l : LabelFields) (vs : List (ℕ × ℕ)) → AllByRecursion (IsHeaded files l) vs → AllShort vs → AllByRecursion (λ k. length (files (Volume k)) < 132) (numbers vs)
short_numbers files l [] each short = tt
short_numbers files l (v ∷ vs) each short = (omega (arith, each.0.0, short.0), short_numbers files l vs each.1 short.1)

-- no volume has its label
pub none_long : (files : Files) (l : LabelFields) (vs : List (ℕ × ℕ)) → AreLabelled files l vs → ((n : ℕ) → (Contains (numbers vs) n → ⊥) → files (Volume n) ≡ []) → AllShort vs → (n : ℕ) → length (files (Volume n)) < 132
none_long files l vs are others short n = ⊎_elim (λ lt. lt) (λ le. absurd (no le)) (cases_lt (length (files (Volume n))) 132)
  where
    no : 132 ≤ length (files (Volume n)) → ⊥
    no le =
        let none : files (Volume n) ≡ [] = others n (λ told.
        let low : length (files (Volume n)) < 132 = All-contains (λ k. length (files (Volume k)) < 132) (numbers vs) n
        (All-from_recursion (λ k. length (files (Volume k)) < 132) (numbers vs) (short_numbers files l vs are.0 short)) told in omega (arith, le, low)) in
        omega (arith, le, ap length none)

-- a volume has its label
pub one_long : (files : Files) (l : LabelFields) (vs : List (ℕ × ℕ)) → AreLabelled files l vs → HasLong vs → (n : ℕ) × (132 ≤ length (files (Volume n)))
one_long files l vs are (v, there, long) =
    let size : v.1 ≡ length (files (Volume v.0)) = All-contains (IsMeasured files) vs v (All-from_recursion (IsMeasured files) vs (measured files l vs are)) there in
    (v.0, omega (arith, long, size))

pub whole_archive : (files : Files) (l : LabelFields) (records : List MetaRecord) (entries : List Entry) (vs : List (ℕ × ℕ)) → HeadIs files l records entries
    → AreLabelled files l vs × ((n : ℕ) → (Contains (numbers vs) n → ⊥) → files (Volume n) ≡ []) → (entries ≡ []) ⊎ HasLong vs → IsLabelledArchive files l records entries vs
whole_archive files l records entries vs head (are, others) beside = record {
  meta = head.meta;
  index = head.index;
  labelled = are;
  others = others;
  beside = ⊎_elim (λ none. inl none) (λ long. inr (one_long files l vs are long)) beside;
}

-- ---- a creation that was stopped

some_bytes : (bytes : List ℕ) → (bytes ≡ [] → ⊥) → 0 < length bytes
some_bytes [] some = absurd (some refl)
some_bytes (b ∷ bytes) some = omega arith

pub beside_index : (files : Files) (n : ℕ) → n ≡ length (files Index) → n ≢ 0 → IsBeside files
beside_index files n size some = (Index, (λ e. cc), omega (arith, size, lt n some))
  where
    lt : (n : ℕ) → n ≢ 0 → 0 < n
    lt n some = ⊎_elim (λ h. h) (λ le. absurd (some (omega arith))) (cases_lt 0 n)

pub beside_volume : (held : Holdings) (n : ℕ) → IsVolumes held n → n ≢ 0 → IsBeside (contents_of held)
beside_volume held n all some =
    let up : 0 < n = ⊎_elim (λ h. h) (λ le. absurd (some (omega arith))) (cases_lt 0 n) in
    (Volume (n - 1), (λ e. cc), some_bytes (bytes_of (held (Volume (n - 1)))) (all.last (n - 1) (omega (arith, up))))

pub is_alone : (held : Holdings) (size n : ℕ) → size ≡ length (contents_of held Index) → size ≡ 0 → IsVolumes held n → n ≡ 0 → IsAlone (contents_of held)
is_alone held size n e zero_size all none = record {
  index = nil_from_length (contents_of held Index) (sym e ∙ zero_size);
  volumes = λ k. all.past k (omega (arith, none));
}

pub begun : (files : Files) (n : ℕ) → IsMetaPart (files Meta) (Begun n) → IsAlone files → IsStoppedCreation files
begun files n part alone = record { meta = inr (part.1, part.2); index = alone.index; volumes = alone.volumes }

-- ---- what a test answered

pub when_true : (P Q : Type 0) (b : Bool) → MatchBool b P Q → b ≡ true → P
when_true P Q b m is = subst (λ t. MatchBool t P Q) is m

pub when_false : (P Q : Type 0) (b : Bool) → MatchBool b P Q → b ≡ false → Q
when_false P Q b m is = subst (λ t. MatchBool t P Q) is m

pub beside_fault : (files : Files) (l : LabelFields) (records : List MetaRecord) (entries : List Entry) (vs : List (ℕ × ℕ)) → HeadIs files l records entries
    → AreLabelled files l vs × ((n : ℕ) → (Contains (numbers vs) n → ⊥) → files (Volume n) ≡ []) → (entries ≢ []) × AllShort vs → NotLoaded files Index 132
beside_fault files l records entries vs head (are, others) (some, short) = inr (refl, l, records, entries, head, some, none_long files l vs are others short)
