-- What a crash leaves of a label, of a frame and of frames: bytes that are cut anywhere.
use Rattle.std.proofs.Common.{zero, suc, ◌≡◌, ◌⊎◌, inl, inr, ⊎_elim, ℕ, ℤ, ◌+◌, ◌-◌, ◌*◌, ◌<◌, ◌≤◌, List, [], ◌∷◌, ◌++◌, length, take, drop, refl, sym, ap, ◌∙◌, subst, append_assoc, arith, length-append}
use Rattle.std.specs.Prelude.{FitsSigned, negsuc}
use Rattle.std.specs.Int.{w32, from_be_bytes}
use Rattle.std.specs.List.{AllByRecursion}
use Rattle.std.proofs.lemmas.Bool.{cases_lt}
use Rattle.std.proofs.lemmas.List.{take_at, take_all, take-take, take-append-le, take-append-drop, length-take-le, append-nil}
use Rattle.std.proofs.lemmas.Int.{fits_signed_from_abs}
use Rattle.std.proofs.lemmas.Nat.{from_be_bytes-to_be_bytes_4}
use Rattle.std.proofs.Math.ListN.{length-replicate}
use Rattle.std.proofs.Math.Seq.{take-append-add}
use Rattle.pcp_base.specs.Texts.{IsText}
use Rattle.pcp_base.specs.Time.{IsMoment}
use Rattle.pcp_base.specs.declared.result.Item.{Item}
use Rattle.pcp_model.specs.declared.records.Entry.{Entry}
use Rattle.pcp_model.specs.declared.records.MetaRecord.{MetaRecord}
use Rattle.pcp_model.specs.Archive.{AreRead, LabelledFile, HasEntries}
use Rattle.pcp_model.specs.Records.{entry, entries, FitsEntry}
use Rattle.pcp_model.specs.Words.{word, signed_word, length-word, length-signed_word, text_field, zeros}
use Rattle.pcp_model.specs.Frame.{frame, frames, IsFrameable, IsTorn}
use Rattle.pcp_model.specs.LabelFields.{LabelFields, FitsLabel}
use Rattle.pcp_model.specs.Labels.{label, label_head, HasText, IsLabel, BeginsLabel}
use Rattle.pcp_model.proofs.Lengths.{length-frame, length-label}

-- a word says its number
pub number_of_word : (n : ℕ) → n < 4294967296 → from_be_bytes w32 (word n) ≡ n
unfolding word
number_of_word n h = from_be_bytes-to_be_bytes_4 n h

pub front_of_frame : (payload : List ℕ) → take 4 (frame payload) ≡ word (length payload + 8)
unfolding frame
front_of_frame payload = take_at (word (length payload + 8)) (payload ++ word (length payload + 8)) 4 (length-word (length payload + 8))

length_word_of_frame : (payload : List ℕ) (n : ℕ) → IsFrameable payload → 4 ≤ n → from_be_bytes w32 (take 4 (take n (frame payload))) ≡ length payload + 8
length_word_of_frame payload n fits h =
    ap (from_be_bytes w32) (take-take 4 n (frame payload) h ∙ front_of_frame payload) ∙ number_of_word (length payload + 8) (let f : length payload ≤ 16777208 = fits.most in omega arith)

-- fewer bytes of a frame than it has are torn
pub cut_frame : (payload : List ℕ) (n : ℕ) → IsFrameable payload → n < length (frame payload) → IsTorn (take n (frame payload))
cut_frame payload n fits h =
    let long : length (frame payload) ≡ length payload + 8 = length-frame payload in
    let cut : length (take n (frame payload)) ≡ n = length-take-le n (frame payload) (omega arith) in
    ⊎_elim (λ (few : n < 4). inl (omega arith))
    (λ (more : 4 ≤ n). let says : from_be_bytes w32 (take 4 (take n (frame payload))) ≡ length payload + 8 = length_word_of_frame payload n fits more in
    let least : 4 ≤ length payload = fits.least in
    let most : length payload ≤ 16777208 = fits.most in
    inr (omega arith, omega arith, omega arith))
    (cases_lt n 4)

-- what the writer puts into a label's fields
pub record SpelledLabel (l : LabelFields) : Type 0 where
  pub pid : l.pid < 4294967296
  pub start : IsMoment l.start
  pub host : IsText l.host
  pub zone : IsText l.zone
  pub fits : FitsLabel l

-- a field filled with zeros has its text
pub has_text : (width : ℕ) (text : List ℕ) → IsText text → length text < width → HasText width (text_field width text) text
has_text width text clean short = record {
  wide = omega (arith, length-append text (zeros (width - length text)), length-replicate {A = ℕ} (width - length text) 0);
  clean = clean;
  ended = (zeros (width - length text - 1), ap (λ n. text ++ zeros n) (let e : width - length text ≡ suc (width - length text - 1) = omega arith in e));
}

-- the writer's label is a label
pub is_label : (l : LabelFields) (number : ℤ) → SpelledLabel l → FitsSigned w32 number → IsLabel (label l number) l number
unfolding label
is_label l number s fits = record {
  number_fits = fits;
  pid = s.pid;
  start = s.start;
  host = text_field 64 l.host;
  zone = text_field 40 l.zone;
  has_host = has_text 64 l.host s.host (let h : length l.host ≤ 63 = s.fits.host in omega arith);
  has_zone = has_text 40 l.zone s.zone (let h : length l.zone ≤ 39 = s.fits.zone in omega arith);
  is = refl;
}

-- and less than it begins it
pub cut_label : (l : LabelFields) (number : ℤ) (n : ℕ) → SpelledLabel l → FitsSigned w32 number → n < 132 → BeginsLabel (take n (label l number)) l number
cut_label l number n s fits h =
    let long : length (label l number) ≡ 132 = length-label l number s.fits in
    let cut : length (take n (label l number)) ≡ n = length-take-le n (label l number) (omega arith) in
    record {
      short = omega arith;
      more = drop n (label l number);
      label = subst (λ bytes. IsLabel bytes l number) (sym (take-append-drop n (label l number))) (is_label l number s fits);
    }

label_head_long : (l : LabelFields) (number : ℤ) → length (label_head l number) ≡ 20
label_head_long l number =
    omega (
      arith,
      length-append (word 1342514690) (word l.pid ++ (word l.start.sec ++ (word l.start.usec ++ signed_word number))),
      length-append (word l.pid) (word l.start.sec ++ (word l.start.usec ++ signed_word number)),
      length-append (word l.start.sec) (word l.start.usec ++ signed_word number),
      length-append (word l.start.usec) (signed_word number),
      length-word 1342514690,
      length-word l.pid,
      length-word l.start.sec,
      length-word l.start.usec,
      length-signed_word number,
    )

-- each label has 132 bytes
pub length_of_label : (bytes : List ℕ) (l : LabelFields) (number : ℤ) → IsLabel bytes l number → length bytes ≡ 132
length_of_label bytes l number is =
    let host : length is.host ≡ 64 = is.has_host.wide in
    let zone : length is.zone ≡ 40 = is.has_zone.wide in
    let whole : length bytes ≡ length (frame (label_head l number ++ (is.host ++ is.zone))) = ap length is.is in
    omega (arith, length-frame (label_head l number ++ (is.host ++ is.zone)), length-append (label_head l number) (is.host ++ is.zone), length-append is.host is.zone, label_head_long l number)

-- what is left of framed records: whole ones and a torn end
pub record CutFrames (payloads : List (List ℕ)) (n : ℕ) : Type 0 where
  pub k : ℕ
  pub torn : List ℕ
  pub is_torn : IsTorn torn
  pub is : take n (frames payloads) ≡ frames (take k payloads) ++ torn
  pub few : k ≤ length payloads
  pub within : length (frames (take k payloads)) ≤ n
  pub every : (j : ℕ) → j ≤ length payloads → length (frames (take j payloads)) ≤ n → j ≤ k

none_fits : (payload : List ℕ) (payloads : List (List ℕ)) (n : ℕ) → n < length (frame payload) → (j : ℕ) → length (frames (take j (payload ∷ payloads))) ≤ n → j ≤ 0
none_fits payload payloads n h zero le = omega arith
none_fits payload payloads n h (suc j) le = omega (arith, length-append (frame payload) (frames (take j payloads)))

one_more : (payload : List ℕ) (payloads : List (List ℕ)) (n k : ℕ) → length (frame payload) ≤ n
    → ((j : ℕ) → j ≤ length payloads → length (frames (take j payloads)) ≤ n - length (frame payload) → j ≤ k)
    → (j : ℕ) → j ≤ length (payload ∷ payloads) → length (frames (take j (payload ∷ payloads))) ≤ n → j ≤ suc k
one_more payload payloads n k h every zero few le = omega arith
one_more payload payloads n k h every (suc j) few le =
    let both : length (frame payload ++ frames (take j payloads)) ≡ length (frame payload) + length (frames (take j payloads)) = length-append (frame payload) (frames (take j payloads)) in
    let here : j ≤ k = every j (omega arith) (omega arith) in
    omega arith

cut_first : (payload : List ℕ) (payloads : List (List ℕ)) (n : ℕ) → IsFrameable payload → n < length (frame payload) → CutFrames (payload ∷ payloads) n
cut_first payload payloads n fits h = record {
  k = 0;
  torn = take n (frame payload);
  is_torn = cut_frame payload n fits h;
  is = take-append-le n (frame payload) (frames payloads) (omega arith);
  few = omega arith;
  within = omega arith;
  every = λ j few le. none_fits payload payloads n h j le;
}

cut_later : (payload : List ℕ) (payloads : List (List ℕ)) (n : ℕ) → length (frame payload) ≤ n → CutFrames payloads (n - length (frame payload)) → CutFrames (payload ∷ payloads) n
cut_later payload payloads n h r =
    let split : n ≡ length (frame payload) + (n - length (frame payload)) = omega arith in
    let within : length (frames (take r.k payloads)) ≤ n - length (frame payload) = r.within in
    record {
      k = suc r.k;
      torn = r.torn;
      is_torn = r.is_torn;
      is = ap (λ m. take m (frame payload ++ frames payloads)) split ∙ take-append-add (frame payload) (frames payloads) (n - length (frame payload))
          ∙ ap (λ t. frame payload ++ t) r.is ∙ sym (append_assoc (frame payload) (frames (take r.k payloads)) r.torn);
      few = let f : r.k ≤ length payloads = r.few in omega arith;
      within = omega (arith, length-append (frame payload) (frames (take r.k payloads)));
      every = one_more payload payloads n r.k h r.every;
    }

pub cut_frames : (payloads : List (List ℕ)) (n : ℕ) → AllByRecursion IsFrameable payloads → CutFrames payloads n
cut_frames [] n fits = record {
  k = 0;
  torn = [];
  is_torn = inl (omega arith);
  is = take_all {A = ℕ} n [] (omega arith);
  few = omega arith;
  within = omega arith;
  every = λ j few le. few;
}
cut_frames (payload ∷ payloads) n fits =
    ⊎_elim (cut_first payload payloads n fits.0) (λ (h : length (frame payload) ≤ n). cut_later payload payloads n h (cut_frames payloads (n - length (frame payload)) fits.1)) (cases_lt n (length (frame payload)))

-- what is read can be framed, and the first of it is read as the first values
pub frameable : {X : Type 0} (R : List ℕ → X → Type 0) (payloads : List (List ℕ)) (values : List X) → AreRead R payloads values → AllByRecursion IsFrameable payloads
frameable R [] [] read = tt
frameable R [] (x ∷ xs) read = tt
frameable R (payload ∷ payloads) [] read = absurd (read tt)
frameable R (payload ∷ payloads) (x ∷ xs) read = (read.0, frameable R payloads xs read.2)

pub first_read : {X : Type 0} (R : List ℕ → X → Type 0) (k : ℕ) (payloads : List (List ℕ)) (values : List X) → AreRead R payloads values → AreRead R (take k payloads) (take k values)
first_read R zero payloads values read = tt
first_read R (suc k) [] [] read = tt
first_read R (suc k) [] (x ∷ xs) read = absurd (read tt)
first_read R (suc k) (payload ∷ payloads) [] read = absurd (read tt)
first_read R (suc k) (payload ∷ payloads) (x ∷ xs) read = (read.0, read.1, first_read R k payloads xs read.2)

pub as_many : {X : Type 0} (R : List ℕ → X → Type 0) (payloads : List (List ℕ)) (values : List X) → AreRead R payloads values → length payloads ≡ length values
as_many R [] [] read = refl
as_many R [] (x ∷ xs) read = absurd (read tt)
as_many R (payload ∷ payloads) [] read = absurd (read tt)
as_many R (payload ∷ payloads) (x ∷ xs) read = ap suc (as_many R payloads xs read.2)

-- what is left of a whole file that is cut behind its label: its first values and a torn end
pub record CutFile {X : Type 0} (R : List ℕ → X → Type 0) (bytes : List ℕ) (l : LabelFields) (number : ℤ) (values : List X) (n : ℕ) : Type 0 where
  pub k : ℕ
  pub torn : List ℕ
  pub is_torn : IsTorn torn
  pub holds : LabelledFile R (take n bytes) l number (take k values) torn
  pub whole : length bytes ≤ n → length values ≤ k
  pub behind : (k ≡ 0) ⊎ (132 < n)

some_behind : (payloads : List (List ℕ)) (k n : ℕ) → k ≤ length payloads → length (frames (take k payloads)) + 132 ≤ n → (k ≡ 0) ⊎ (132 < n)
some_behind payloads zero n few h = inl refl
some_behind [] (suc k) n few h = absurd (omega arith)
some_behind (payload ∷ payloads) (suc k) n few h =
    inr (omega (arith, length-append (frame payload) (frames (take k payloads)), length-frame payload))

-- the cut of what follows a beginning of 132 bytes
pub behind_label : (bytes head rest : List ℕ) (n : ℕ) → length head ≡ 132 → bytes ≡ head ++ rest → 132 ≤ n → take n bytes ≡ head ++ take (n - 132) rest
behind_label bytes head rest n long is h =
    ap (take n) is ∙ ap (λ m. take m (head ++ rest)) (let e : n ≡ length head + (n - 132) = omega arith in e) ∙ take-append-add head rest (n - 132)

module _ {X : Type 0} (R : List ℕ → X → Type 0) (bytes : List ℕ) (l : LabelFields) (number : ℤ) (values : List X) (n : ℕ) where
  cut_of : (h : LabelledFile R bytes l number values []) → 132 ≤ n → CutFrames h.payloads (n - 132) → CutFile R bytes l number values n
  cut_of h long c =
      let head : length h.head ≡ 132 = length_of_label h.head l number h.label in
      let is : bytes ≡ h.head ++ frames h.payloads = h.is ∙ ap (λ t. h.head ++ t) (append-nil (frames h.payloads)) in
      let size : length bytes ≡ 132 + length (frames h.payloads) = ap length is ∙ length-append h.head (frames h.payloads) ∙ ap (λ m. m + length (frames h.payloads)) head in
      let many : length h.payloads ≡ length values = as_many R h.payloads values h.read in
      let within : length (frames (take c.k h.payloads)) ≤ n - 132 = c.within in
      record {
        k = c.k;
        torn = c.torn;
        is_torn = c.is_torn;
        holds = record {
          head = h.head;
          label = h.label;
          payloads = take c.k h.payloads;
          read = first_read R c.k h.payloads values h.read;
          is = behind_label bytes h.head (frames h.payloads) n head is long ∙ ap (λ t. h.head ++ t) c.is;
        };
        whole = λ le. let all : length h.payloads ≤ c.k = c.every (length h.payloads) (omega arith)
            (let e : length (frames (take (length h.payloads) h.payloads)) ≡ length (frames h.payloads) = ap (λ t. length (frames t)) (take_all (length h.payloads) h.payloads (omega arith)) in omega arith) in omega arith;
        behind = some_behind h.payloads c.k n c.few (omega arith);
      }

  pub cut_file : LabelledFile R bytes l number values [] → 132 ≤ n → CutFile R bytes l number values n
  cut_file h long = cut_of h long (cut_frames h.payloads (n - 132) (frameable R h.payloads values h.read))

  -- each record that ends within the cut is among them
  pub cut_every : (h : LabelledFile R bytes l number values []) (long : 132 ≤ n) (j : ℕ) → j ≤ length values → 132 + length (frames (take j h.payloads)) ≤ n → j ≤ (cut_file h long).k
  unfolding cut_file cut_frames cut_of
  cut_every h long j few within =
      (cut_frames h.payloads (n - 132) (frameable R h.payloads values h.read)).every j (omega (arith, as_many R h.payloads values h.read)) (omega arith)

-- an entry has 20 bytes
pub length-entry : (e : Entry) → length (entry e) ≡ 20
unfolding entry
length-entry e =
    omega (
      arith,
      length-append (word e.stamp.sec) (word e.stamp.usec ++ (word e.volume ++ (word e.meta ++ word e.offset))),
      length-append (word e.stamp.usec) (word e.volume ++ (word e.meta ++ word e.offset)),
      length-append (word e.volume) (word e.meta ++ word e.offset),
      length-append (word e.meta) (word e.offset),
      length-word e.stamp.sec,
      length-word e.stamp.usec,
      length-word e.volume,
      length-word e.meta,
      length-word e.offset,
    )

-- what is left of entries: whole ones and fewer bytes than one more
pub record CutEntries (es : List Entry) (n : ℕ) : Type 0 where
  pub k : ℕ
  pub rest : List ℕ
  pub short : length rest < 20
  pub is : take n (entries es) ≡ entries (take k es) ++ rest
  pub few : k ≤ length es
  pub within : 20 * k ≤ n
  pub whole : 20 * length es ≤ n → length es ≤ k

cut_first_entry : (e : Entry) (es : List Entry) (n : ℕ) → n < 20 → CutEntries (e ∷ es) n
cut_first_entry e es n h =
    let long : length (entry e) ≡ 20 = length-entry e in
    let cut : length (take n (entry e)) ≡ n = length-take-le n (entry e) (omega arith) in
    record {
      k = 0;
      rest = take n (entry e);
      short = omega arith;
      is = take-append-le n (entry e) (entries es) (omega arith);
      few = omega arith;
      within = omega arith;
      whole = λ le. absurd (omega arith);
    }

cut_later_entry : (e : Entry) (es : List Entry) (n : ℕ) → 20 ≤ n → CutEntries es (n - 20) → CutEntries (e ∷ es) n
cut_later_entry e es n h r =
    let long : length (entry e) ≡ 20 = length-entry e in
    let few : r.k ≤ length es = r.few in
    let within : 20 * r.k ≤ n - 20 = r.within in
    record {
      k = suc r.k;
      rest = r.rest;
      short = r.short;
      is = ap (λ m. take m (entry e ++ entries es)) (let split : n ≡ length (entry e) + (n - 20) = omega arith in split) ∙ take-append-add (entry e) (entries es) (n - 20)
          ∙ ap (λ t. entry e ++ t) r.is ∙ sym (append_assoc (entry e) (entries (take r.k es)) r.rest);
      few = omega arith;
      within = omega arith;
      whole = λ le. let all : length es ≤ r.k = r.whole (omega arith) in omega arith;
    }

pub cut_entries : (es : List Entry) (n : ℕ) → CutEntries es n
cut_entries [] n = record {
  k = 0;
  rest = [];
  short = omega arith;
  is = take_all {A = ℕ} n [] (omega arith);
  few = omega arith;
  within = omega arith;
  whole = λ le. omega arith;
}
cut_entries (e ∷ es) n = ⊎_elim (cut_first_entry e es n) (λ (h : 20 ≤ n). cut_later_entry e es n h (cut_entries es (n - 20))) (cases_lt n 20)

pub first_fit : (k : ℕ) (es : List Entry) → AllByRecursion FitsEntry es → AllByRecursion FitsEntry (take k es)
first_fit zero es fit = tt
first_fit (suc k) [] fit = tt
first_fit (suc k) (e ∷ es) fit = (fit.0, first_fit k es fit.1)

-- a written file: its label, and framed records that are read as these values
pub written_file : {X : Type 0} (R : List ℕ → X → Type 0) (l : LabelFields) (number : ℤ) (payloads : List (List ℕ)) (values : List X) → SpelledLabel l → FitsSigned w32 number → AreRead R payloads values
    → LabelledFile R (label l number ++ frames payloads) l number values []
written_file R l number payloads values s fits read = record {
  head = label l number;
  label = is_label l number s fits;
  payloads = payloads;
  read = read;
  is = ap (λ t. label l number ++ t) (sym (append-nil (frames payloads)));
}

-- a file that is cut within its label begins it
pub cut_in_label : (l : LabelFields) (number : ℤ) (rest : List ℕ) (n : ℕ) → SpelledLabel l → FitsSigned w32 number → n < 132 → BeginsLabel (take n (label l number ++ rest)) l number
cut_in_label l number rest n s fits h =
    let long : length (label l number) ≡ 132 = length-label l number s.fits in
    subst (λ t. BeginsLabel t l number) (sym (take-append-le n (label l number) rest (omega arith))) (cut_label l number n s fits h)

-- the index that is cut behind its label has its first entries
pub cut_index : (l : LabelFields) (es : List Entry) (n : ℕ) (records : List MetaRecord) (volumes : List (ℕ × List Item)) → SpelledLabel l → AllByRecursion FitsEntry es → 132 ≤ n → (r : CutEntries es (n - 132))
    → HasEntries (take n (label l (negsuc 1) ++ entries es)) (record { label = l; records = records; entries = take r.k es; volumes = volumes })
cut_index l es n records volumes s fit h r =
    let long : length (label l (negsuc 1)) ≡ 132 = length-label l (negsuc 1) s.fits in
    record {
      head = label l (negsuc 1);
      label = is_label l (negsuc 1) s (fits_signed_from_abs w32 (negsuc 1) (omega arith));
      fit = first_fit r.k es fit;
      rest = r.rest;
      short = r.short;
      is = behind_label (label l (negsuc 1) ++ entries es) (label l (negsuc 1)) (entries es) n long refl h ∙ ap (λ t. label l (negsuc 1) ++ t) r.is;
    }

pub frames-append : (first more : List (List ℕ)) → frames (first ++ more) ≡ frames first ++ frames more
frames-append [] more = refl
frames-append (payload ∷ first) more = ap (λ t. frame payload ++ t) (frames-append first more) ∙ sym (append_assoc (frame payload) (frames first) (frames more))

pub read-append : {X : Type 0} (R : List ℕ → X → Type 0) (first more : List (List ℕ)) (values others : List X) → AreRead R first values → AreRead R more others → AreRead R (first ++ more) (values ++ others)
read-append R [] more [] others read next = next
read-append R [] more (x ∷ xs) others read next = absurd (read tt)
read-append R (payload ∷ first) more [] others read next = absurd (read tt)
read-append R (payload ∷ first) more (x ∷ xs) others read next = (read.0, read.1, read-append R first more xs others read.2 next)

-- a framed record behind a whole file is one value more
pub added_record : {X : Type 0} (R : List ℕ → X → Type 0) (bytes : List ℕ) (l : LabelFields) (number : ℤ) (values : List X) (payload : List ℕ) (x : X)
    → LabelledFile R bytes l number values [] → IsFrameable payload → R payload x → LabelledFile R (bytes ++ frame payload) l number (values ++ x ∷ []) []
added_record R bytes l number values payload x h fits read = record {
  head = h.head;
  label = h.label;
  payloads = h.payloads ++ payload ∷ [];
  read = read-append R h.payloads (payload ∷ []) values (x ∷ []) h.read (fits, read, tt);
  is = ap (λ t. t ++ frame payload) (h.is ∙ ap (λ t. h.head ++ t) (append-nil (frames h.payloads))) ∙ append_assoc h.head (frames h.payloads) (frame payload)
      ∙ ap (λ t. h.head ++ t) (sym (append-nil (frames (h.payloads ++ payload ∷ [])) ∙ frames-append h.payloads (payload ∷ []) ∙ ap (λ t. frames h.payloads ++ t) (append-nil (frame payload))));
}

-- without its torn end a file is whole
pub without_end : {X : Type 0} (R : List ℕ → X → Type 0) (bytes : List ℕ) (l : LabelFields) (number : ℤ) (values : List X) (torn : List ℕ)
    → LabelledFile R bytes l number values torn → LabelledFile R (take (length bytes - length torn) bytes) l number values []
without_end R bytes l number values torn h =
    let is : bytes ≡ (h.head ++ frames h.payloads) ++ torn = h.is ∙ sym (append_assoc h.head (frames h.payloads) torn) in
    let size : length bytes ≡ length (h.head ++ frames h.payloads) + length torn = ap length is ∙ length-append (h.head ++ frames h.payloads) torn in
    record {
      head = h.head;
      label = h.label;
      payloads = h.payloads;
      read = h.read;
      is = ap (take (length bytes - length torn)) is ∙ take_at (h.head ++ frames h.payloads) torn (length bytes - length torn) (omega arith)
          ∙ ap (λ t. h.head ++ t) (sym (append-nil (frames h.payloads)));
    }
