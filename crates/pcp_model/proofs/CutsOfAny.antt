-- What a crash leaves of files that any logger wrote: of a label, of a file with a torn end, of an index with bytes behind its
-- whole entries.
use Rattle.std.proofs.Common.{◌≡◌, inl, inr, ⊎_elim, ℕ, ℤ, ◌+◌, ◌-◌, ◌*◌, ◌<◌, ◌≤◌, List, [], ◌∷◌, ◌++◌, length, take, drop, refl, sym, ap, ◌∙◌, subst, append_assoc, arith, length-append, length-take, negsuc}
use Rattle.std.specs.Int.{w32, from_be_bytes}
use Rattle.std.specs.List.{AllByRecursion}
use Rattle.std.proofs.lemmas.Bool.{cases_lt}
use Rattle.std.proofs.lemmas.List.{take_all, take-take, take-append-le, take-append-drop}
use Rattle.std.proofs.Math.Seq.{take-append-add}
use Rattle.pcp_model.specs.declared.records.Entry.{Entry}
use Rattle.pcp_model.specs.Archive.{ArchiveContents, LabelledFile, HasEntries}
use Rattle.pcp_model.specs.Frame.{frames, IsFrameable, IsTorn}
use Rattle.pcp_model.specs.LabelFields.{LabelFields}
use Rattle.pcp_model.specs.Labels.{IsLabel, BeginsLabel}
use Rattle.pcp_model.specs.Records.{entry, entries}
use Rattle.pcp_model.proofs.Cuts.{CutFrames, cut_frames, CutEntries, cut_entries, length_of_label, frameable, first_read, as_many, behind_label, first_fit, length-entry}

-- what is left within a label begins it
pub cut_some_label : (head rest : List ℕ) (l : LabelFields) (number : ℤ) (n : ℕ) → IsLabel head l number → n < 132 → BeginsLabel (take n (head ++ rest)) l number
cut_some_label head rest l number n is h =
    let long : length head ≡ 132 = length_of_label head l number is in
    let cut : take n (head ++ rest) ≡ take n head = take-append-le n head rest (omega arith) in
    record {
      short = omega (arith, ap length cut, length-take n head);
      more = drop n head;
      label = subst (λ bytes. IsLabel bytes l number) (sym (ap (λ t. t ++ drop n head) cut ∙ take-append-drop n head)) is;
    }

-- what begins a label and is cut begins it
pub cut_beginning : (bytes : List ℕ) (l : LabelFields) (number : ℤ) (n : ℕ) → BeginsLabel bytes l number → BeginsLabel (take n bytes) l number
cut_beginning bytes l number n begins =
    let few : length bytes < 132 = begins.short in
    ⊎_elim (λ (lt : n < 132). record {
      short = omega (arith, length-take n bytes);
      more = drop n bytes ++ begins.more;
      label = subst (λ t. IsLabel t l number) (ap (λ t. t ++ begins.more) (sym (take-append-drop n bytes)) ∙ append_assoc (take n bytes) (drop n bytes) begins.more) begins.label;
    })
    (λ (ge : 132 ≤ n). subst (λ t. BeginsLabel t l number) (sym (take_all n bytes (omega arith))) begins) (cases_lt n 132)

-- what is left of a torn end is torn
pub front_of_torn : (n : ℕ) (torn : List ℕ) → IsTorn torn → IsTorn (take n torn)
front_of_torn n torn (inl few) = inl (omega (arith, length-take n torn))
front_of_torn n torn (inr cut) =
    ⊎_elim (λ (few : n < 4). inl (omega (arith, length-take n torn)))
    (λ (more : 4 ≤ n). let word : from_be_bytes w32 (take 4 (take n torn)) ≡ from_be_bytes w32 (take 4 torn) = ap (from_be_bytes w32) (take-take 4 n torn more) in
    inr (omega (arith, cut.0), omega (arith, cut.1), omega (arith, cut.2, length-take n torn))) (cases_lt n 4)

-- what is left of framed records with a torn end behind them
pub record CutTorn (payloads : List (List ℕ)) (torn : List ℕ) (n : ℕ) : Type 0 where
  pub k : ℕ
  pub left : List ℕ
  pub is_torn : IsTorn left
  pub is : take n (frames payloads ++ torn) ≡ frames (take k payloads) ++ left
  pub few : k ≤ length payloads
  pub within : length (frames (take k payloads)) ≤ n
  pub every : (j : ℕ) → j ≤ length payloads → length (frames (take j payloads)) ≤ n → j ≤ k

module _ (payloads : List (List ℕ)) (torn : List ℕ) (n : ℕ) (fits : AllByRecursion IsFrameable payloads) (is_torn : IsTorn torn) where
  cut_before : n < length (frames payloads) → CutFrames payloads n → CutTorn payloads torn n
  cut_before lt c = record {
    k = c.k;
    left = c.torn;
    is_torn = c.is_torn;
    is = take-append-le n (frames payloads) torn (omega arith) ∙ c.is;
    few = c.few;
    within = c.within;
    every = c.every;
  }

  cut_behind : length (frames payloads) ≤ n → CutTorn payloads torn n
  cut_behind ge =
      let left : List ℕ = take (n - length (frames payloads)) torn in
      let all : take (length payloads) payloads ≡ payloads = take_all (length payloads) payloads (omega arith) in
      record {
        k = length payloads;
        left = left;
        is_torn = front_of_torn (n - length (frames payloads)) torn is_torn;
        is = ap (λ m. take m (frames payloads ++ torn)) (let e : n ≡ length (frames payloads) + (n - length (frames payloads)) = omega arith in e)
            ∙ take-append-add (frames payloads) torn (n - length (frames payloads)) ∙ ap (λ ps. frames ps ++ left) (sym all);
        few = omega arith;
        within = omega (arith, ap (λ ps. length (frames ps)) all);
        every = λ j few le. few;
      }

  pub cut_torn : CutTorn payloads torn n
  cut_torn = ⊎_elim (λ (lt : n < length (frames payloads)). cut_before lt (cut_frames payloads n fits)) cut_behind (cases_lt n (length (frames payloads)))

-- what is left of a file with a torn end that is cut behind its label
pub record CutTornFile {X : Type 0} (R : List ℕ → X → Type 0) (bytes : List ℕ) (l : LabelFields) (number : ℤ) (values : List X) (n : ℕ) : Type 0 where
  pub k : ℕ
  pub left : List ℕ
  pub is_torn : IsTorn left
  pub holds : LabelledFile R (take n bytes) l number (take k values) left
  pub whole : length bytes ≤ n → length values ≤ k

module _ {X : Type 0} (R : List ℕ → X → Type 0) (bytes : List ℕ) (l : LabelFields) (number : ℤ) (values : List X) (torn : List ℕ) (n : ℕ) where
  cut_torn_of : (h : LabelledFile R bytes l number values torn) → 132 ≤ n → CutTorn h.payloads torn (n - 132) → CutTornFile R bytes l number values n
  cut_torn_of h long c =
      let head : length h.head ≡ 132 = length_of_label h.head l number h.label in
      let size : length bytes ≡ length h.head + length (frames h.payloads ++ torn) = ap length h.is ∙ length-append h.head (frames h.payloads ++ torn) in
      let both : length (frames h.payloads ++ torn) ≡ length (frames h.payloads) + length torn = length-append (frames h.payloads) torn in
      let many : length h.payloads ≡ length values = as_many R h.payloads values h.read in
      record {
        k = c.k;
        left = c.left;
        is_torn = c.is_torn;
        holds = record {
          head = h.head;
          label = h.label;
          payloads = take c.k h.payloads;
          read = first_read R c.k h.payloads values h.read;
          is = behind_label bytes h.head (frames h.payloads ++ torn) n head h.is long ∙ ap (λ t. h.head ++ t) c.is;
        };
        whole = λ le. let all : length h.payloads ≤ c.k = c.every (length h.payloads) (omega arith)
            (let e : length (frames (take (length h.payloads) h.payloads)) ≡ length (frames h.payloads) = ap (λ t. length (frames t)) (take_all (length h.payloads) h.payloads (omega arith)) in omega arith) in omega arith;
      }

  pub cut_torn_file : LabelledFile R bytes l number values torn → IsTorn torn → 132 ≤ n → CutTornFile R bytes l number values n
  cut_torn_file h is_torn long = cut_torn_of h long (cut_torn h.payloads torn (n - 132) (frameable R h.payloads values h.read) is_torn)

-- what is left of entries with fewer bytes than one more behind them
pub record CutIndex (es : List Entry) (rest : List ℕ) (n : ℕ) : Type 0 where
  pub k : ℕ
  pub left : List ℕ
  pub short : length left < 20
  pub is : take n (entries es ++ rest) ≡ entries (take k es) ++ left
  pub few : k ≤ length es
  pub within : 20 * k ≤ n
  pub whole : 20 * length es ≤ n → length es ≤ k

pub length-entries : (es : List Entry) → length (entries es) ≡ 20 * length es
length-entries [] = refl
length-entries (e ∷ es) = omega (arith, length-append (entry e) (entries es), length-entry e, length-entries es)

module _ (es : List Entry) (rest : List ℕ) (n : ℕ) (short : length rest < 20) where
  entries_before : n < length (entries es) → CutEntries es n → CutIndex es rest n
  entries_before lt c = record {
    k = c.k;
    left = c.rest;
    short = c.short;
    is = take-append-le n (entries es) rest (omega arith) ∙ c.is;
    few = c.few;
    within = c.within;
    whole = c.whole;
  }

  entries_behind : length (entries es) ≤ n → CutIndex es rest n
  entries_behind ge =
      let left : List ℕ = take (n - length (entries es)) rest in
      record {
        k = length es;
        left = left;
        short = omega (arith, length-take (n - length (entries es)) rest);
        is = ap (λ m. take m (entries es ++ rest)) (let e : n ≡ length (entries es) + (n - length (entries es)) = omega arith in e)
            ∙ take-append-add (entries es) rest (n - length (entries es)) ∙ ap (λ fs. entries fs ++ left) (sym (take_all (length es) es (omega arith)));
        few = omega arith;
        within = omega (arith, length-entries es);
        whole = λ le. omega arith;
      }

  pub cut_some_entries : CutIndex es rest n
  cut_some_entries = ⊎_elim (λ (lt : n < length (entries es)). entries_before lt (cut_entries es n)) entries_behind (cases_lt n (length (entries es)))

-- an index that is cut behind its label has its first entries
pub cut_some_index : (bytes : List ℕ) (c : ArchiveContents) (n : ℕ) → (h : HasEntries bytes c) → 132 ≤ n → (r : CutIndex c.entries h.rest (n - 132))
    → HasEntries (take n bytes) (record { label = c.label; records = c.records; entries = take r.k c.entries; volumes = c.volumes })
cut_some_index bytes c n h long r = record {
  head = h.head;
  label = h.label;
  fit = first_fit r.k c.entries h.fit;
  rest = r.left;
  short = r.short;
  is = behind_label bytes h.head (entries c.entries ++ h.rest) n (length_of_label h.head c.label (negsuc 1) h.label) h.is long ∙ ap (λ t. h.head ++ t) r.is;
}
