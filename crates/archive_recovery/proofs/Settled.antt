-- What a crash leaves of a settled disk is what recovery begins with.
use Rattle.std.proofs.Common.{◌≡◌, ◌⊎◌, inl, inr, ℕ, ℤ, ◌+◌, pos, negsuc, List, [], ◌∷◌, ◌++◌, length, take, map, refl, sym, ap, ◌∙◌, subst, append_assoc, arith}
use Rattle.std.proofs.Math.Seq.{take-nil, take-append-add, take-length}
use Rattle.std.proofs.lemmas.List.{append-nil}
use Rattle.pcp_base.specs.declared.file.FileId.{FileId}
use Rattle.pcp_base.specs.declared.file.FileId.TheVariants.{Meta, Index, Volume}
use Rattle.pcp_base.specs.declared.result.Item.{Item}
use Rattle.pcp_model.specs.Archive.{ArchiveContents, ArchiveReading, LabelledFile, IsLastVolume, AreVolumes, IsArchive, Reads}
use Rattle.pcp_model.specs.Disk.{Files, Holdings, CrashImage, IsSettled, bytes_of, contents_of}
use Rattle.pcp_model.specs.Frame.{IsTorn, frames}
use Rattle.pcp_model.specs.LabelFields.{LabelFields}
use Rattle.pcp_model.specs.Laws.{HasLast}
use Rattle.pcp_model.specs.Payload.{IsItem}
use Rattle.pcp_model.specs.Records.{IsRecord}
use Rattle.pcp_model.specs.Recovered.{labelled_volumes}
use Rattle.pcp_model.proofs.CutArchive.{last_of}
use Rattle.archive_recovery.specs.Halfway.{IsCutBehind, IsHalfLast, LastIsCut, FirstIsBegun, IsHalfway, HalfwayFrom}

-- a file whose bytes are all sure keeps them
pub all_sure : (held : Holdings) (image : Files) (file : FileId) → (held file).rest ≡ [] → CrashImage held image → image file ≡ bytes_of (held file)
all_sure held image file none crash =
    (crash file).1 ∙ ap (λ t. (held file).sure ++ take (crash file).0 t) none ∙ ap (λ t. (held file).sure ++ t) (take-nil (crash file).0 ∙ sym none)

-- any other keeps a beginning
pub some_sure : (held : Holdings) (image : Files) (file : FileId) → (crash : CrashImage held image) → image file ≡ take (length (held file).sure + (crash file).0) (bytes_of (held file))
some_sure held image file crash = (crash file).1 ∙ sym (take-append-add (held file).sure (held file).rest (crash file).0)

-- a file with a torn end is cut behind it
pub not_cut : {X : Type 0} (R : List ℕ → X → Type 0) (bytes : List ℕ) (l : LabelFields) (number : ℤ) (values : List X) (torn image : List ℕ) → IsTorn torn → LabelledFile R bytes l number values torn → image ≡ bytes → IsCutBehind R bytes l number values image
not_cut R bytes l number values torn image is_torn h same =
    let text : bytes ≡ (h.head ++ (frames h.payloads ++ [])) ++ torn = h.is ∙ sym (append_assoc h.head (frames h.payloads) torn) ∙ ap (λ t. (h.head ++ t) ++ torn) (sym (append-nil (frames h.payloads))) in
    record {
      left = h.head ++ (frames h.payloads ++ []);
      mended = record { torn = torn; is_torn = is_torn; is = text; whole = record { head = h.head; label = h.label; payloads = h.payloads; read = h.read; is = refl } };
      n = length torn;
      is = same ∙ text ∙ ap (λ t. (h.head ++ (frames h.payloads ++ [])) ++ t) (sym (take-length torn));
    }

-- what has a last volume
last_exists : (v : ℕ × List Item) (vs : List (ℕ × List Item)) → (before : List (ℕ × List Item)) × (number : ℕ) × (items : List Item) × (v ∷ vs ≡ before ++ (number, items) ∷ [])
last_exists v [] = ([], v.0, v.1, refl)
last_exists v (w ∷ vs) =
    let rest : (before : List (ℕ × List Item)) × (number : ℕ) × (items : List Item) × (w ∷ vs ≡ before ++ (number, items) ∷ []) = last_exists w vs in
    (v ∷ rest.0, rest.1, rest.2, ap (λ xs. v ∷ xs) rest.3)

module _ (files image : Files) (c : ArchiveContents) (is : IsArchive files c) (volume_same : (n : ℕ) → image (Volume n) ≡ files (Volume n)) where
  uncut_last : (last : HasLast c) → IsLastVolume (files (Volume last.number)) c.label last.number last.items → IsHalfLast (files (Volume last.number)) c last (image (Volume last.number))
  uncut_last last (inl begins) = inr (begins.2.short, length (files (Volume last.number)), volume_same last.number ∙ sym (take-length (files (Volume last.number))))
  uncut_last last (inr whole) = inl (not_cut IsItem (files (Volume last.number)) c.label (pos last.number) last.items whole.0 (image (Volume last.number)) whole.1 whole.2 (volume_same last.number))

  uncut_listed : (vs : List (ℕ × List Item)) → c.volumes ≡ vs → LastIsCut files image c ⊎ FirstIsBegun files image c
  uncut_listed [] none = inr (record {
    none = ap (labelled_volumes files) none;
    n = 0;
    first = no_volume 0;
    others = λ k other. no_volume k;
  })
    where
      no_volume : (n : ℕ) → image (Volume n) ≡ []
      no_volume n = volume_same n ∙ is.others n (λ has. let e : length (map (λ (v : ℕ × List Item). v.0) c.volumes) ≡ 0 = ap (λ vs. length (map (λ (v : ℕ × List Item). v.0) vs)) none in omega (arith, has.1))
  uncut_listed (v ∷ vs) some =
      let l : (before : List (ℕ × List Item)) × (number : ℕ) × (items : List Item) × (v ∷ vs ≡ before ++ (number, items) ∷ []) = last_exists v vs in
      let last : HasLast c = record { before = l.0; number = l.1; items = l.2; are = some ∙ l.3 } in
      inl (record {
        last = last;
        cut = uncut_last last (last_of files c.label last.number last.items last.before (subst (AreVolumes files c.label) last.are is.volumes));
        others = λ n other. volume_same n;
      })

  pub uncut_volumes : LastIsCut files image c ⊎ FirstIsBegun files image c
  uncut_volumes = uncut_listed c.volumes refl

module _ (held : Holdings) (image : Files) (c : ArchiveContents) (settled : IsSettled held) (is : IsArchive (contents_of held) c) (crash : CrashImage held image) where
  uncut : IsHalfway (contents_of held) c image
  uncut = record {
    meta = not_cut IsRecord (contents_of held Meta) c.label (negsuc 0) c.records is.meta.torn (image Meta) is.meta.is_torn is.meta.holds (all_sure held image Meta settled.meta crash);
    index = inl (length (held Index).sure + (crash Index).0, some_sure held image Index crash);
    volumes = uncut_volumes (contents_of held) image c is (λ n. all_sure held image (Volume n) (settled.volumes n) crash);
  }

pub no_bytes : (held : Holdings) (image : Files) (file : FileId) → bytes_of (held file) ≡ [] → CrashImage held image → image file ≡ []
no_bytes held image file none crash = some_sure held image file crash ∙ ap (take (length (held file).sure + (crash file).0)) none ∙ take-nil (length (held file).sure + (crash file).0)

pub settled_begins : (held : Holdings) (r : ArchiveReading) (image : Files) → IsSettled held → Reads (contents_of held) r → CrashImage held image → HalfwayFrom (contents_of held) r image
settled_begins held ArchiveReading.nothing image settled is crash = record {
  n = length (held Meta).sure + (crash Meta).0;
  meta = some_sure held image Meta crash;
  index = no_bytes held image Index is.index crash;
  volumes = λ k. no_bytes held image (Volume k) (is.volumes k) crash;
}
settled_begins held (ArchiveReading.archive c) image settled is crash = uncut held image c settled is crash
