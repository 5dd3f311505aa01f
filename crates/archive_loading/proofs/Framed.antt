-- One framed record of Meta: its stamp, where it stands, and where it is refused.
use Rattle.std.proofs.Common.{◌≡◌, ℕ, ◌+◌, ◌-◌, ◌<◌, ◌≤◌, List, [], ◌∷◌, ◌++◌, length, take, drop, refl, sym, ap, ◌∙◌, subst, arith, append_assoc, Option, Some, None}
use Rattle.std.specs.Prelude.{MatchOption, option_to_list}
use Rattle.std.specs.Int.{w32, from_be_bytes}
use Rattle.std.specs.List.{slice_range}
use Rattle.std.proofs.lemmas.List.{append-nil, length-append, length-drop, length-take, drop-drop, take-append-drop, take_at, nil_from_length}
use Rattle.pcp_base.specs.Time.{Moment}
use Rattle.pcp_model.specs.declared.records.MetaRecord.{MetaRecord}
use Rattle.pcp_model.specs.declared.records.MetaRecord.TheVariants.{Description, Domain, Other}
use Rattle.pcp_model.specs.Archive.{AreRead}
use Rattle.pcp_model.specs.Frame.{frame, frames}
use Rattle.pcp_model.specs.Records.{IsRecord, IsDomain, description, instance_words, word_bytes}
use Rattle.pcp_model.specs.Words.{word, length-word}
use Rattle.pcp_model.proofs.Cuts.{number_of_word}
use Rattle.pcp_model.proofs.Lengths.{length-frame}
use Rattle.pcp_model.proofs.Unique.{both_words}
use Rattle.archive_frame.specs.Steps.{Stands}
use Rattle.archive_frame.proofs.Records.{Ends, stood}
use Rattle.archive_meta.specs.Framed.{RecordStands}
use Rattle.archive_meta.specs.Records.{AreRecords}
use Rattle.archive_meta.specs.Stamped.{IsStamped}
use Rattle.archive_loading.specs.Standing.{IsSized, WasTaken, NoFrameStands}
use Rattle.archive_loading.proofs.Frames.{in_place, out_of_place}
use Rattle.archive_loading.specs.Stamps.{domain_stamps}

-- bytes that say their length are one frame of the framed records that they are
pub record OneFrame (bytes : List ℕ) (records : List MetaRecord) : Type 0 where
  pub payload : List ℕ
  pub r : MetaRecord
  pub records_are : records ≡ r ∷ []
  pub reads : IsRecord payload r
  pub stands : Stands bytes payload 0 (length bytes)

pub one_frame : (bytes : List ℕ) (records : List MetaRecord) → IsSized bytes → AreRecords bytes records → OneFrame bytes records
one_frame bytes records sized a = go a.payloads records a.read a.is
  where
    none : (ps : List (List ℕ)) → length (frames ps) ≡ 0 → ps ≡ []
    none [] e = refl
    none (p ∷ ps) e = absurd (omega (arith, e, length-append (frame p) (frames ps), length-frame p))

    no_more : (ps : List (List ℕ)) (rs : List MetaRecord) → ps ≡ [] → AreRead IsRecord ps rs → rs ≡ []
    no_more ps [] e read = refl
    no_more ps (r ∷ rs) e read = absurd (subst (λ (qs : List (List ℕ)). AreRead IsRecord qs (r ∷ rs)) e read tt)

    go : (ps : List (List ℕ)) (rs : List MetaRecord) → AreRead IsRecord ps rs → bytes ≡ frames ps → OneFrame bytes rs
    go [] [] read e = absurd (omega (arith, ap length e, sized.size.0))
    go [] (r ∷ rs) read e = absurd (read tt)
    go (p ∷ ps) [] read e = absurd (read tt)
    go (p ∷ ps) (r ∷ rs) read e =
        let first : Stands bytes p 0 (length p + 8) = record { fits = read.0; front = []; rest = frames ps; is = e; begins = refl; ends = omega arith } in
        let ends : Ends bytes p 0 (length p + 8) = stood bytes p 0 (length p + 8) first in
        let long : length bytes ≡ length p + 8 = sym sized.word ∙ ends.head in
        let empty : ps ≡ [] = none ps (omega (arith, long, ap length e, length-append (frame p) (frames ps), length-frame p)) in
        record {
          payload = p;
          r = r;
          records_are = ap (λ (l : List MetaRecord). r ∷ l) (no_more ps rs empty read.2);
          reads = read.1;
          stands = subst (Stands bytes p 0) (sym long) first;
        }

-- ---- the stamp of a record

first_word : (n : ℕ) (rest payload : List ℕ) → n < 4294967296 → payload ≡ word n ++ rest → from_be_bytes w32 (take 4 payload) ≡ n
first_word n rest payload fits e = ap (λ t. from_be_bytes w32 (take 4 t)) e ∙ ap (from_be_bytes w32) (take_at (word n) rest 4 (length-word n)) ∙ number_of_word n fits

description_first : (payload : List ℕ) (t : Moment) (d : _) (names : List (List ℕ)) → payload ≡ description d names → IsStamped payload t → ⊥
unfolding description
description_first payload t d names e s =
    let two : from_be_bytes w32 (take 4 payload) ≡ 2 = first_word 2 (word t.sec ++ (word t.usec ++ s.rest)) payload (omega arith) s.is in
    let one : from_be_bytes w32 (take 4 payload) ≡ 1 = first_word 1 _ payload (omega arith) e in
    omega (arith, one, two)

domain_begins : (payload : List ℕ) (t : Moment) (indom : ℕ) (pairs : _) → IsDomain payload t indom pairs → IsStamped payload t
domain_begins payload t indom pairs d = record {
  moment = d.moment;
  rest = (word indom ++ (word (length pairs) ++ (instance_words pairs ++ word_bytes d.offsets))) ++ d.table;
  is = d.is ∙ append_assoc (word 2) (word t.sec ++ (word t.usec ++ (word indom ++ (word (length pairs) ++ (instance_words pairs ++ word_bytes d.offsets))))) d.table
      ∙ ap (λ l. word 2 ++ l) (append_assoc (word t.sec) (word t.usec ++ (word indom ++ (word (length pairs) ++ (instance_words pairs ++ word_bytes d.offsets)))) d.table
      ∙ ap (λ l. word t.sec ++ l) (append_assoc (word t.usec) (word indom ++ (word (length pairs) ++ (instance_words pairs ++ word_bytes d.offsets))) d.table));
}

abbrev moment_of : ℕ → ℕ → Moment
moment_of sec usec = record { sec = sec; usec = usec }

one_stamp : (payload : List ℕ) (s t : Moment) → IsStamped payload s → IsStamped payload t → s ≡ t
one_stamp payload s t a b =
    let low : (m : Moment) → m.sec < 2147483648 → m.sec < 4294967296 = λ m h. omega (arith, h) in
    let few : (m : Moment) → m.usec < 1000000 → m.usec < 4294967296 = λ m h. omega (arith, h) in
    let e : word 2 ++ (word s.sec ++ (word s.usec ++ a.rest)) ≡ word 2 ++ (word t.sec ++ (word t.usec ++ b.rest)) = sym a.is ∙ b.is in
    let p = both_words 2 2 (word s.sec ++ (word s.usec ++ a.rest)) (word t.sec ++ (word t.usec ++ b.rest)) (omega arith) (omega arith) e in
    let q = both_words s.sec t.sec (word s.usec ++ a.rest) (word t.usec ++ b.rest) (low s a.moment.sec) (low t b.moment.sec) p.1 in
    let u = both_words s.usec t.usec a.rest b.rest (few s a.moment.usec) (few t b.moment.usec) q.1 in
    same s t q.0 u.0
  where
    same : (s t : Moment) → s.sec ≡ t.sec → s.usec ≡ t.usec → s ≡ t
    same s t a b = ap (λ n. moment_of n s.usec) a ∙ ap (λ n. moment_of t.sec n) b

stamp_of_record : (payload : List ℕ) (r : MetaRecord) (found : Option Moment) → IsRecord payload r → MatchOption found ((t : Moment) → IsStamped payload t → ⊥) (IsStamped payload) → domain_stamps (r ∷ []) ≡ option_to_list found
stamp_of_record payload (Description d names) None is told = refl
stamp_of_record payload (Description d names) (Some t) is told = absurd (description_first payload t d names is.1 told)
stamp_of_record payload (Domain t indom pairs) None is told = absurd (told t (domain_begins payload t indom pairs is))
stamp_of_record payload (Domain t indom pairs) (Some s) is told = ap (λ (m : Moment). m ∷ []) (one_stamp payload t s (domain_begins payload t indom pairs is) told)
stamp_of_record payload Other None is told = refl
stamp_of_record payload Other (Some t) is told = absurd (is.2 (first_word 2 (word t.sec ++ (word t.usec ++ told.rest)) payload (omega arith) told.is))

pub stamp_of_frame : (bytes inner : List ℕ) (records : List MetaRecord) (found : Option Moment) → IsSized bytes → inner ≡ slice_range bytes 4 (length bytes - 4) → AreRecords bytes records
    → MatchOption found ((t : Moment) → IsStamped inner t → ⊥) (IsStamped inner) → domain_stamps records ≡ option_to_list found
stamp_of_frame bytes inner records found sized part a told =
    let one : OneFrame bytes records = one_frame bytes records sized a in
    let ends : Ends bytes one.payload 0 (length bytes) = stood bytes one.payload 0 (length bytes) one.stands in
    let same : inner ≡ one.payload = part ∙ ends.payload_is in
    ap domain_stamps one.records_are ∙ stamp_of_record one.payload one.r found one.reads (subst (λ p. MatchOption found ((t : Moment) → IsStamped p t → ⊥) (IsStamped p)) same told)

pub domain_stamps-append : (xs ys : List MetaRecord) → domain_stamps (xs ++ ys) ≡ domain_stamps xs ++ domain_stamps ys
domain_stamps-append [] ys = refl
domain_stamps-append (Description d names ∷ xs) ys = domain_stamps-append xs ys
domain_stamps-append (Domain t indom pairs ∷ xs) ys = ap (λ (l : List Moment). t ∷ l) (domain_stamps-append xs ys)
domain_stamps-append (Other ∷ xs) ys = domain_stamps-append xs ys

-- ---- bytes behind a label

-- what was taken of a file was taken of what follows its label
pub taken_behind : (bytes taken : List ℕ) (k : ℕ) → WasTaken bytes (132 + k) taken → WasTaken (drop 132 bytes) k taken
taken_behind bytes taken k t = record {
  sized = t.sized;
  within = omega (arith, t.within, length-drop 132 bytes);
  is = t.is ∙ ap (take (length taken)) (sym (drop-drop k 132 bytes));
}

pub stands_behind : (bytes payload : List ℕ) (k next : ℕ) → 132 ≤ length bytes → Stands (drop 132 bytes) payload k next → Stands bytes payload (132 + k) (132 + next)
stands_behind bytes payload k next long s = record {
  fits = s.fits;
  front = take 132 bytes ++ s.front;
  rest = s.rest;
  is = sym (take-append-drop 132 bytes) ∙ ap (λ t. take 132 bytes ++ t) s.is ∙ sym (append_assoc (take 132 bytes) s.front (frame payload ++ s.rest));
  begins = omega (arith, length-append (take 132 bytes) s.front, length-take 132 bytes, long, s.begins);
  ends = omega (arith, s.ends);
}

-- a frame that was taken is all of it
frame_is : (taken payload : List ℕ) → Stands taken payload 0 (length taken) → taken ≡ frame payload
frame_is taken payload s =
    let front : s.front ≡ [] = nil_from_length s.front s.begins in
    let long : length taken ≡ length (s.front ++ (frame payload ++ s.rest)) = ap length s.is in
    let rest : s.rest ≡ [] = nil_from_length s.rest (omega (arith, long, length-append s.front (frame payload ++ s.rest), length-append (frame payload) s.rest, length-frame payload, s.ends)) in
    s.is ∙ ap (λ f. f ++ (frame payload ++ s.rest)) front ∙ ap (λ r. frame payload ++ r) rest ∙ append-nil (frame payload)

-- a record that stands where a frame was taken is that frame's
pub stands_in : (bytes taken : List ℕ) (at next : ℕ) (r : MetaRecord) → WasTaken bytes at taken → RecordStands bytes at next r → AreRecords taken (r ∷ [])
stands_in bytes taken at next r t s = record {
  payloads = s.payload ∷ [];
  read = (s.stands.fits, s.reads, tt);
  is = frame_is taken s.payload (out_of_place bytes taken s.payload at next t s.stands) ∙ sym (append-nil (frame s.payload));
}

-- and a frame's record stands there
pub stands_there : (bytes taken : List ℕ) (at : ℕ) (records : List MetaRecord) → WasTaken bytes at taken → AreRecords taken records → (r : MetaRecord) × (records ≡ r ∷ []) × RecordStands bytes at (at + length taken) r
stands_there bytes taken at records t a =
    let one : OneFrame taken records = one_frame taken records t.sized a in
    (one.r, one.records_are, record { payload = one.payload; stands = in_place bytes taken one.payload at t one.stands; reads = one.reads })

pub none_behind : (bytes : List ℕ) (k next : ℕ) (r : MetaRecord) → 132 ≤ length bytes → NoFrameStands bytes (132 + k) → RecordStands (drop 132 bytes) k next r → ⊥
none_behind bytes k next r long none s = none s.payload (132 + next) (stands_behind bytes s.payload k next long s.stands)
