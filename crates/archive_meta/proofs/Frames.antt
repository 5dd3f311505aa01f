-- Framed records, one behind another.
use Rattle.std.proofs.Common.{◌≡◌, ℕ, ◌+◌, ◌<◌, ◌≤◌, List, [], ◌∷◌, ◌++◌, length, take, drop, Result, refl, sym, ap, ◌∙◌, subst, append_assoc, arith, length-append}
use Rattle.std.specs.Prelude.{IfErr}
use Rattle.std.specs.Result.{IsErrAnd}
use Rattle.std.proofs.lemmas.Result.{err_from_is_err_and}
use Rattle.std.proofs.lemmas.List.{take_at, take_all, take-append-drop, append-nil, length-drop, length-take-le}
use Rattle.pcp_model.specs.declared.records.MetaRecord.{MetaRecord}
use Rattle.pcp_model.specs.Archive.{AreRead}
use Rattle.pcp_model.specs.Frame.{frame, frames}
use Rattle.pcp_model.specs.Records.{IsRecord, AreConsistent}
use Rattle.pcp_model.proofs.Lengths.{length-frame}
use Rattle.pcp_model.proofs.Cuts.{frames-append}
use Rattle.pcp_model.proofs.Unique.{both_frames}
use Rattle.archive_frame.specs.Steps.{Stands}
use Rattle.archive_meta.specs.declared.fault.MetaFault.{MetaFault}
use Rattle.archive_meta.specs.declared.fault.MetaFault.TheVariants.{Record, NoMemory}
use Rattle.archive_meta.specs.Framed.{RecordStands, NoRecordStands, IsRecordFault}
use Rattle.archive_meta.proofs.OneRecord.{one_record, one_stands}
use Rattle.archive_meta.specs.Laws.{RecordsGoOn}
use Rattle.archive_meta.specs.Records.{AreRecords, IsFirstBad, IsMetaFault, IsAddFault, Adds, AreFound}
use Rattle.archive_meta.proofs.Consistent.{consistent_front}

read_more : (first more : List (List ℕ)) (xs ys : List MetaRecord) → AreRead IsRecord first xs → AreRead IsRecord more ys → AreRead IsRecord (first ++ more) (xs ++ ys)
read_more [] more [] ys read next = next
read_more [] more (x ∷ xs) ys read next = absurd (read tt)
read_more (payload ∷ first) more [] ys read next = absurd (read tt)
read_more (payload ∷ first) more (x ∷ xs) ys read next = (read.0, read.1, read_more first more xs ys read.2 next)

-- ---- adding one behind another

pub adds_none : (before : List MetaRecord) (bytes : List ℕ) → AreConsistent before → Adds before (take 0 bytes) before
adds_none before bytes c = record {
  records = [];
  read = record { payloads = []; read = tt; is = refl };
  is = sym (append-nil before);
  consistent = c;
}

up_to : (bytes payload : List ℕ) (at next : ℕ) → Stands bytes payload at next → take next bytes ≡ take at bytes ++ frame payload
up_to bytes payload at next s =
    let long : length (s.front ++ frame payload) ≡ next = omega (arith, length-append s.front (frame payload), length-frame payload, s.begins, s.ends) in
    let one : bytes ≡ (s.front ++ frame payload) ++ s.rest = s.is ∙ sym (append_assoc s.front (frame payload) s.rest) in
    let first : take at bytes ≡ s.front = ap (take at) s.is ∙ take_at s.front (frame payload ++ s.rest) at s.begins in
    ap (take next) one ∙ take_at (s.front ++ frame payload) s.rest next long ∙ ap (λ t. t ++ frame payload) (sym first)

pub adds_one : (before mid after : List MetaRecord) (bytes : List ℕ) (at next : ℕ) (r : MetaRecord) → Adds before (take at bytes) mid → RecordStands bytes at next r → after ≡ mid ++ r ∷ [] → AreConsistent (mid ++ r ∷ []) → Adds before (take next bytes) after
adds_one before mid after bytes at next r a s is c = record {
  records = a.records ++ r ∷ [];
  read = record {
    payloads = a.read.payloads ++ s.payload ∷ [];
    read = read_more a.read.payloads (s.payload ∷ []) a.records (r ∷ []) a.read.read (s.stands.fits, s.reads, tt);
    is = up_to bytes s.payload at next s.stands ∙ ap (λ t. t ++ frame s.payload) a.read.is
        ∙ sym (frames-append a.read.payloads (s.payload ∷ []) ∙ ap (λ t. frames a.read.payloads ++ t) (append-nil (frame s.payload)));
  };
  is = is ∙ ap (λ l. l ++ r ∷ []) a.is ∙ append_assoc before a.records (r ∷ []);
  consistent = subst AreConsistent (sym is) c;
}

pub adds_all : (before after : List MetaRecord) (bytes : List ℕ) (at : ℕ) → Adds before (take at bytes) after → length bytes ≤ at → Adds before bytes after
adds_all before after bytes at a end = subst (λ t. Adds before t after) (take_all at bytes end) a

-- the records before those added stay in front
pub front_kept : (before after : List MetaRecord) (bytes : List ℕ) → Adds before bytes after → take (length before) after ≡ before
front_kept before after bytes a = ap (take (length before)) a.is ∙ take_at before a.records (length before) refl

pub bad_frame : (before mid : List MetaRecord) (bytes : List ℕ) (at : ℕ) → Adds before (take at bytes) mid → at < length bytes → NoRecordStands bytes at → IsFirstBad before bytes at
bad_frame before mid bytes at a within none = record {
  within = within;
  records = a.records;
  good = a.read;
  consistent = subst AreConsistent a.is a.consistent;
  bad = λ next r s c. none next r s;
}

pub bad_record : (before mid : List MetaRecord) (bytes : List ℕ) (at next : ℕ) (r : MetaRecord) → Adds before (take at bytes) mid → at < length bytes → RecordStands bytes at next r → (AreConsistent (mid ++ r ∷ []) → ⊥) → IsFirstBad before bytes at
bad_record before mid bytes at next r a within s differs = record {
  within = within;
  records = a.records;
  good = a.read;
  consistent = subst AreConsistent a.is a.consistent;
  bad = λ n x t c. differs (subst (λ y. AreConsistent (mid ++ y ∷ [])) (one_stands bytes at n next x r t s) (subst (λ l. AreConsistent (l ++ x ∷ [])) (sym a.is) c));
}

-- ---- one list of records

-- what is left of framed records behind others
record Left (rest : List ℕ) (first all : List MetaRecord) : Type 0 where
  payloads : List (List ℕ)
  records : List MetaRecord
  whole : all ≡ first ++ records
  read : AreRead IsRecord payloads records
  is : rest ≡ frames payloads

left : (ps qs : List (List ℕ)) (xs ys : List MetaRecord) (rest : List ℕ) → AreRead IsRecord ps xs → AreRead IsRecord qs ys → frames ps ++ rest ≡ frames qs → Left rest xs ys
left [] qs [] ys rest one two e = record { payloads = qs; records = ys; whole = refl; read = two; is = e }
left [] qs (x ∷ xs) ys rest one two e = absurd (one tt)
left (p ∷ ps) qs [] ys rest one two e = absurd (one tt)
left (p ∷ ps) [] (x ∷ xs) ys rest one two e =
    absurd (omega (arith, ap length e, length-append (frame p ++ frames ps) rest, length-append (frame p) (frames ps), length-frame p))
left (p ∷ ps) (q ∷ qs) (x ∷ xs) [] rest one two e = absurd (two tt)
left (p ∷ ps) (q ∷ qs) (x ∷ xs) (y ∷ ys) rest one two e =
    let both = both_frames p q (frames ps ++ rest) (frames qs) one.0 two.0 (sym (append_assoc (frame p) (frames ps) rest) ∙ e) in
    let same : x ≡ y = one_record q x y two.0 (subst (λ t. IsRecord t x) both.0 one.1) two.1 in
    let more : Left rest xs ys = left ps qs xs ys rest one.2 two.2 both.1 in
    record {
      payloads = more.payloads;
      records = more.records;
      whole = ap (λ l. y ∷ l) more.whole ∙ ap (λ z. z ∷ (xs ++ more.records)) (sym same);
      read = more.read;
      is = more.is;
    }

left_none : (payloads : List (List ℕ)) (records : List MetaRecord) → AreRead IsRecord payloads records → [] ≡ frames payloads → records ≡ []
left_none [] [] read e = refl
left_none [] (r ∷ records) read e = absurd (read tt)
left_none (p ∷ payloads) [] read e = absurd (read tt)
left_none (p ∷ payloads) (r ∷ records) read e = absurd (omega (arith, ap length e, length-append (frame p) (frames payloads), length-frame p))

once : (a : List ℕ) (xs ys : List MetaRecord) → AreRecords a xs → AreRecords a ys → xs ≡ ys
once a xs ys one two =
    let l : Left [] xs ys = left one.payloads two.payloads xs ys [] one.read two.read (append-nil (frames one.payloads) ∙ sym one.is ∙ two.is) in
    sym (l.whole ∙ ap (λ t. xs ++ t) (left_none l.payloads l.records l.read l.is) ∙ append-nil xs)

both_parts : (a b : List ℕ) (xs ys : List MetaRecord) → AreRecords a xs → AreRecords b ys → AreRecords (a ++ b) (xs ++ ys)
both_parts a b xs ys one two = record {
  payloads = one.payloads ++ two.payloads;
  read = read_more one.payloads two.payloads xs ys one.read two.read;
  is = ap (λ t. t ++ b) one.is ∙ ap (λ t. frames one.payloads ++ t) two.is ∙ sym (frames-append one.payloads two.payloads);
}

pub go_on : RecordsGoOn
go_on = record { both = both_parts; once = once }

-- ---- what is whole has no first bad record

next_stands : (bytes : List ℕ) (at : ℕ) (payloads : List (List ℕ)) (records : List MetaRecord) → at < length bytes → AreRead IsRecord payloads records → drop at bytes ≡ frames payloads
    → (r : MetaRecord) × (others : List MetaRecord) × (records ≡ r ∷ others) × (next : ℕ) × RecordStands bytes at next r
next_stands bytes at [] records within read e = absurd (omega (arith, ap length e, length-drop at bytes))
next_stands bytes at (p ∷ payloads) [] within read e = absurd (read tt)
next_stands bytes at (p ∷ payloads) (r ∷ records) within read e = (
  r,
  records,
  refl,
  at + length p + 8,
  record {
    payload = p;
    stands = record {
      fits = read.0;
      front = take at bytes;
      rest = frames payloads;
      is = sym (take-append-drop at bytes) ∙ ap (λ t. take at bytes ++ t) e;
      begins = length-take-le at bytes (omega arith);
      ends = refl;
    };
    reads = read.1;
  },
)

not_bad : (before : List MetaRecord) (bytes : List ℕ) (at : ℕ) (records : List MetaRecord) → AreRecords bytes records → AreConsistent (before ++ records) → IsFirstBad before bytes at → ⊥
not_bad before bytes at records all c f =
    let l : Left (drop at bytes) f.records records = left f.good.payloads all.payloads f.records records (drop at bytes) f.good.read all.read
    (ap (λ t. t ++ drop at bytes) (sym f.good.is) ∙ take-append-drop at bytes ∙ all.is) in
    let n = next_stands bytes at l.payloads l.records f.within l.read l.is in
    let whole : before ++ records ≡ ((before ++ f.records) ++ n.0 ∷ []) ++ n.1 =
    ap (λ t. before ++ t) (l.whole ∙ ap (λ t. f.records ++ t) n.2) ∙ sym (append_assoc before f.records (n.0 ∷ n.1)) ∙ sym (append_assoc (before ++ f.records) (n.0 ∷ []) n.1) in
    f.bad n.3 n.0 n.4 (consistent_front ((before ++ f.records) ++ n.0 ∷ []) n.1 (subst AreConsistent whole c))

-- what was added is what the bytes are
pub added_only : (before after : List MetaRecord) (bytes : List ℕ) → Adds before bytes after → (records : List MetaRecord) → AreRecords bytes records → after ≡ before ++ records
added_only before after bytes a records all = a.is ∙ ap (λ t. before ++ t) (once bytes a.records records a.read all)

pub refused_only : (before : List MetaRecord) (bytes : List ℕ) (f : MetaFault) → IsMetaFault before bytes f → (records : List MetaRecord) → AreRecords bytes records → AreConsistent (before ++ records) → f ≡ NoMemory
refused_only before bytes (Record at) fault records all c = absurd (not_bad before bytes at records all c fault)
refused_only before bytes NoMemory fault records all c = refl

-- ---- faults that are handed on

pub frame_fault : (before mid : List MetaRecord) (bytes : List ℕ) (at : ℕ) (f : MetaFault) → Adds before (take at bytes) mid → at < length bytes → IsRecordFault bytes at f → IsMetaFault before bytes f
frame_fault before mid bytes at (Record offset) a within fault = subst (IsFirstBad before bytes) (sym fault.0) (bad_frame before mid bytes at a within fault.1)
frame_fault before mid bytes at NoMemory a within fault = tt

pub add_fault : (before mid : List MetaRecord) (bytes : List ℕ) (at next : ℕ) (r : MetaRecord) (f : MetaFault) → Adds before (take at bytes) mid → at < length bytes → RecordStands bytes at next r → IsAddFault mid r at f → IsMetaFault before bytes f
add_fault before mid bytes at next r (Record offset) a within s fault = subst (IsFirstBad before bytes) (sym fault.0) (bad_record before mid bytes at next r a within s fault.1)
add_fault before mid bytes at next r NoMemory a within s fault = tt

pub handed_on : {T : Type 0} (r : Result T MetaFault) (e : MetaFault) (P : MetaFault → Type 0) → IsErrAnd r (λ y. y ≡ e) → P e → IfErr r P
handed_on r e P was h = let p = err_from_is_err_and r was in subst (λ x. IfErr x P) (sym p.1) (subst P (sym p.2) h)

-- want of memory says nothing of the records
pub no_room : {X : Type 0} (Says : X → List MetaRecord → Type 0) (records : List MetaRecord) (r : Result X MetaFault) → IsErrAnd r (λ y. y ≡ NoMemory) → AreFound Says records r
no_room Says records r was = let p = err_from_is_err_and r was in subst (λ x. AreFound Says records x) (sym p.1) p.2
