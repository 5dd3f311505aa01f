-- An export of an export is itself.
use Rattle.std.proofs.Common.{◌≡◌, inr, ℕ, ◌≤◌, pos, negsuc, Bool, true, false, List, [], ◌∷◌, ◌++◌, length, take, map, refl, sym, ap, ◌∙◌, subst, arith, eq-eqb}
use Rattle.std.specs.Prelude.{Contains, ◌&&◌, ◌==◌, if◌then◌else◌, nat_lt}
use Rattle.std.specs.List.{AllByRecursion}
use Rattle.std.proofs.lemmas.List.{append-nil, take_at}
use Rattle.pcp_base.specs.declared.file.FileId.TheVariants.{Meta, Index, Volume}
use Rattle.pcp_base.specs.declared.result.Item.{Item}
use Rattle.pcp_model.specs.declared.records.Entry.{Entry}
use Rattle.pcp_model.specs.Archive.{ArchiveContents, ArchiveReading, IsArchive, LabelledFile, Reads}
use Rattle.pcp_model.specs.Disk.{Files}
use Rattle.pcp_model.specs.Labels.{label}
use Rattle.pcp_model.specs.Payload.{IsItem}
use Rattle.pcp_model.specs.Records.{IsRecord, entries}
use Rattle.pcp_model.specs.Recovered.{AreMended, IsMended, IsRecovered, labelled_volumes, or_first_volume, recovered_contents}
use Rattle.pcp_model.proofs.Cuts.{length_of_label}
use Rattle.pcp_model.proofs.Lengths.{length-label}
use Rattle.pcp_model.proofs.Recovered.{labelled_all, nothing_torn, recovered_stays}
use Rattle.pcp_model.proofs.Sound.{labelled_long}
use Rattle.log_export.specs.Exported.{ExportsAs, IsExported, exported_contents, exported_entries, exported_reading, first_number, is_one_of, kept_entries, same_entry, start_entry, with_first}
use Rattle.log_export.proofs.Exports.{all_kept, has_entries, put_first, spelled}
use Rattle.log_export.proofs.Plans.{one_here}

-- ---- entries

all_true : (p q r s t : Bool) → p ≡ true → q ≡ true → r ≡ true → s ≡ true → t ≡ true → (p && q && r && s && t) ≡ true
all_true p q r s t a b c d e =
    ap (λ (x : Bool). x && q && r && s && t) a ∙ ap (λ (x : Bool). true && x && r && s && t) b ∙ ap (λ (x : Bool). true && true && x && s && t) c ∙ ap (λ (x : Bool). true && true && true && x && t) d
    ∙ ap (λ (x : Bool). true && true && true && true && x) e

entry_same : (x : Entry) → same_entry x x ≡ true
entry_same x =
    all_true (x.stamp.sec == x.stamp.sec) (x.stamp.usec == x.stamp.usec) (x.volume == x.volume) (x.meta == x.meta) (x.offset == x.offset)
    (eq-eqb x.stamp.sec x.stamp.sec refl) (eq-eqb x.stamp.usec x.stamp.usec refl) (eq-eqb x.volume x.volume refl) (eq-eqb x.meta x.meta refl) (eq-eqb x.offset x.offset refl)

first_again : (first : Entry) (es : List Entry) → with_first first (with_first first es) ≡ with_first first es
first_again first [] = ap (λ (b : Bool). if b then first ∷ [] else first ∷ first ∷ []) (entry_same first)
first_again first (x ∷ es) = by (same_entry first x) refl
  where
    by : (b : Bool) → same_entry first x ≡ b → with_first first (if b then x ∷ es else first ∷ x ∷ es) ≡ (if b then x ∷ es else first ∷ x ∷ es)
    by true h = ap (λ (b : Bool). if b then x ∷ es else first ∷ x ∷ es) h
    by false h = ap (λ (b : Bool). if b then first ∷ x ∷ es else first ∷ first ∷ x ∷ es) (entry_same first)

kept_again : (ns : List ℕ) (es : List Entry) → AllByRecursion (λ (x : Entry). is_one_of ns x.volume ≡ true) es → kept_entries ns es ≡ es
kept_again ns [] all = refl
kept_again ns (x ∷ es) all = ap (λ (b : Bool). if b then x ∷ kept_entries ns es else kept_entries ns es) all.0 ∙ ap (λ xs. x ∷ xs) (kept_again ns es all.1)

any_all : (es : List Entry) → AllByRecursion (λ (x : Entry). Unit {0}) es
any_all [] = tt
any_all (x ∷ es) = (tt, any_all es)

-- ---- numbers of volumes

abbrev numbers_of : List (ℕ × List Item) → List ℕ
numbers_of vs = map (λ (v : ℕ × List Item). v.0) vs

first_in : (vs : List (ℕ × List Item)) → is_one_of (numbers_of (or_first_volume vs)) (first_number vs) ≡ true
first_in [] = refl
first_in (v ∷ vs) = one_here (numbers_of vs) v.0 v.0 refl

others_in : (vs : List (ℕ × List Item)) (n : ℕ) → is_one_of (numbers_of vs) n ≡ true → is_one_of (numbers_of (or_first_volume vs)) n ≡ true
others_in [] n is = let both : false ≡ true = is in cc
others_in (v ∷ vs) n is = is

same_first : (vs : List (ℕ × List Item)) → first_number (or_first_volume vs) ≡ first_number vs
same_first [] = refl
same_first (v ∷ vs) = refl

-- ---- the files

module _ (files : Files) (c : ArchiveContents) (is : IsArchive files c) (out : Files) (e : IsExported files c out) where
  abbrev those : List (ℕ × List Item)
  those = labelled_volumes files c.volumes

  stays : IsRecovered e.left (recovered_contents files c) e.left
  stays = recovered_stays files e.left c is e.recovered

  same_labelled : (vs : List (ℕ × List Item)) → labelled_volumes out vs ≡ labelled_volumes e.left vs
  same_labelled [] = refl
  same_labelled (v ∷ []) = ap (λ (t : List ℕ). if nat_lt (length t) 132 then [] else v ∷ []) (e.volumes v.0)
  same_labelled (v ∷ w ∷ vs) = ap (λ xs. v ∷ xs) (same_labelled (w ∷ vs))

  all_long : (vs : List (ℕ × List Item)) → AllByRecursion (λ (v : ℕ × List Item). IsMended IsItem (files (Volume v.0)) c.label (pos v.0) v.1 (e.left (Volume v.0))) vs → AllByRecursion (λ (v : ℕ × List Item). 132 ≤ length (out (Volume v.0))) vs
  all_long [] all = tt
  all_long (v ∷ vs) all = (subst (λ (t : List ℕ). 132 ≤ length t) (sym (e.volumes v.0)) (labelled_long IsItem (e.left (Volume v.0)) c.label (pos v.0) v.1 [] all.0.whole), all_long vs all.1)

  each_long : (vs : List (ℕ × List Item)) → AreMended files c.label e.left vs → AllByRecursion (λ (v : ℕ × List Item). 132 ≤ length (out (Volume v.0))) (or_first_volume vs)
  each_long [] mended = (let long : length (label c.label (pos 0)) ≡ 132 = length-label c.label (pos 0) (spelled files c is).fits in omega (arith, long, ap length (e.volumes 0 ∙ mended)), tt)
  each_long (v ∷ vs) mended = all_long (v ∷ vs) mended

  all_labelled : labelled_volumes out (or_first_volume those) ≡ or_first_volume those
  all_labelled = labelled_all out (or_first_volume those) (each_long those e.recovered.volumes)

  all_carried : (vs : List (ℕ × List Item)) → AllByRecursion (λ (v : ℕ × List Item). IsMended IsItem (e.left (Volume v.0)) c.label (pos v.0) v.1 (e.left (Volume v.0))) vs
      → AllByRecursion (λ (v : ℕ × List Item). IsMended IsItem (out (Volume v.0)) c.label (pos v.0) v.1 (out (Volume v.0))) vs
  all_carried [] all = tt
  all_carried (v ∷ vs) all = (subst (λ (t : List ℕ). IsMended IsItem t c.label (pos v.0) v.1 t) (sym (e.volumes v.0)) all.0, all_carried vs all.1)

  carried : (vs : List (ℕ × List Item)) → AreMended e.left c.label e.left vs → AreMended out c.label out vs
  carried [] mended = e.volumes 0 ∙ mended
  carried (v ∷ vs) mended = all_carried (v ∷ vs) mended

  recovered : IsRecovered out (exported_contents files c) out
  recovered = record {
    meta = record { torn = []; is_torn = nothing_torn; is = sym (append-nil (out Meta)); whole = subst (λ (t : List ℕ). LabelledFile IsRecord t c.label (negsuc 0) c.records []) (sym e.meta) e.recovered.meta.whole };
    index = inr (has_entries files c is out e, e.index);
    volumes = subst (AreMended out c.label out) (sym (same_labelled (or_first_volume those))) (carried (labelled_volumes e.left (or_first_volume those)) stays.volumes);
    others = λ n none. e.volumes n ∙ stays.others n (λ has. none (subst (λ (vs : List (ℕ × List Item)). Contains (numbers_of (or_first_volume vs)) n) (sym (same_labelled (or_first_volume those))) has));
  }

  abbrev start : Entry
  start = start_entry c.label (first_number those)

  all_in : AllByRecursion (λ (x : Entry). is_one_of (numbers_of (or_first_volume those)) x.volume ≡ true) (exported_entries files c)
  all_in = put_first (λ (x : Entry). is_one_of (numbers_of (or_first_volume those)) x.volume ≡ true) start (kept_entries (numbers_of those) c.entries) (first_in those)
      (all_kept (λ (x : Entry). Unit {0}) (λ (x : Entry). is_one_of (numbers_of (or_first_volume those)) x.volume ≡ true) (numbers_of those) c.entries (λ x listed any. others_in those x.volume listed) (any_all c.entries))

  same_entries : exported_entries out (exported_contents files c) ≡ exported_entries files c
  same_entries =
      ap (λ (vs : List (ℕ × List Item)). with_first (start_entry c.label (first_number vs)) (kept_entries (numbers_of vs) (exported_entries files c))) all_labelled
      ∙ ap (λ (n : ℕ). with_first (start_entry c.label n) (kept_entries (numbers_of (or_first_volume those)) (exported_entries files c))) (same_first those)
      ∙ ap (with_first start) (kept_again (numbers_of (or_first_volume those)) (exported_entries files c) all_in)
      ∙ first_again start (kept_entries (numbers_of those) c.entries)

  same_label : take 132 (out Index) ≡ take 132 (e.left Index)
  same_label = ap (take 132) e.index ∙ take_at (take 132 (e.left Index)) (entries (exported_entries files c)) 132 (length_of_label (take 132 (e.left Index)) c.label (negsuc 1) (has_entries files c is out e).label)

  pub again : IsExported out (exported_contents files c) out
  again = record {
    left = out;
    recovered = recovered;
    meta = refl;
    index = e.index ∙ ap (λ (t : List ℕ). t ++ entries (exported_entries files c)) (sym same_label) ∙ ap (λ (es : List Entry). take 132 (out Index) ++ entries es) (sym same_entries);
    volumes = λ n. refl;
  }

pub export_stays : (files out : Files) (r : ArchiveReading) → Reads files r → ExportsAs files r out → ExportsAs out (exported_reading files r) out
export_stays files out ArchiveReading.nothing reads e = e
export_stays files out (ArchiveReading.archive c) reads e = again files c reads out e
