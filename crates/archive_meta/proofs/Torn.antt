-- Records in front of a torn end are one list, and end at one offset.
use Rattle.std.proofs.Common.{◌≡◌, inl, ℕ, Bool, true, false, ◌+◌, ◌<◌, ◌≤◌, List, [], ◌∷◌, ◌++◌, length, take, drop, Result, refl, sym, ap, ◌∙◌, subst, append_assoc, arith}
use Rattle.std.specs.Prelude.{◌↔◌, IsTrue}
use Rattle.std.specs.Result.{IsErrAnd}
use Rattle.std.proofs.lemmas.Result.{err_from_is_err_and}
use Rattle.std.proofs.lemmas.List.{take-append-drop, append-nil, length-drop, length-take-le}
use Rattle.pcp_model.specs.declared.records.MetaRecord.{MetaRecord}
use Rattle.pcp_model.specs.Archive.{AreRead}
use Rattle.pcp_model.specs.Frame.{frame, frames, IsTorn}
use Rattle.pcp_model.specs.Records.{IsRecord, AreConsistent}
use Rattle.pcp_model.proofs.Unique.{both_frames, torn_has_none}
use Rattle.archive_meta.specs.declared.fault.MetaFault.{MetaFault}
use Rattle.archive_meta.specs.declared.fault.MetaFault.TheVariants.{Record, NoMemory}
use Rattle.archive_meta.specs.Framed.{RecordStands, IsRecordFault}
use Rattle.archive_meta.specs.Records.{AreRecords, IsFirstBad, IsAddFault, IsFrontFault, HasFront, Adds, AreFound}
use Rattle.archive_meta.proofs.Consistent.{consistent_front}
use Rattle.archive_meta.proofs.OneRecord.{one_record}
use Rattle.archive_meta.proofs.Frames.{frame_fault, add_fault}

-- what is left of framed records behind others, in front of a torn end
record LeftTorn (rest torn : List ℕ) (first all : List MetaRecord) : Type 0 where
  payloads : List (List ℕ)
  records : List MetaRecord
  whole : all ≡ first ++ records
  read : AreRead IsRecord payloads records
  is : rest ≡ frames payloads ++ torn

left_torn : (ps qs : List (List ℕ)) (xs ys : List MetaRecord) (rest torn : List ℕ) → IsTorn torn → AreRead IsRecord ps xs → AreRead IsRecord qs ys → frames ps ++ rest ≡ frames qs ++ torn → LeftTorn rest torn xs ys
left_torn [] qs [] ys rest torn t one two e = record { payloads = qs; records = ys; whole = refl; read = two; is = e }
left_torn [] qs (x ∷ xs) ys rest torn t one two e = absurd (one tt)
left_torn (p ∷ ps) qs [] ys rest torn t one two e = absurd (one tt)
left_torn (p ∷ ps) [] (x ∷ xs) ys rest torn t one two e =
    absurd (torn_has_none p (frames ps ++ rest) one.0 (subst IsTorn (sym e ∙ append_assoc (frame p) (frames ps) rest) t))
left_torn (p ∷ ps) (q ∷ qs) (x ∷ xs) [] rest torn t one two e = absurd (two tt)
left_torn (p ∷ ps) (q ∷ qs) (x ∷ xs) (y ∷ ys) rest torn t one two e =
    let both = both_frames p q (frames ps ++ rest) (frames qs ++ torn) one.0 two.0 (sym (append_assoc (frame p) (frames ps) rest) ∙ e ∙ append_assoc (frame q) (frames qs) torn) in
    let same : x ≡ y = one_record q x y two.0 (subst (λ t. IsRecord t x) both.0 one.1) two.1 in
    let more : LeftTorn rest torn xs ys = left_torn ps qs xs ys rest torn t one.2 two.2 both.1 in
    record {
      payloads = more.payloads;
      records = more.records;
      whole = ap (λ l. y ∷ l) more.whole ∙ ap (λ z. z ∷ (xs ++ more.records)) (sym same);
      read = more.read;
      is = more.is;
    }

halves : (bytes : List ℕ) (at : ℕ) (ps : List (List ℕ)) → take at bytes ≡ frames ps → frames ps ++ drop at bytes ≡ bytes
halves bytes at ps e = ap (λ t. t ++ drop at bytes) (sym e) ∙ take-append-drop at bytes

-- nothing is left where the rest is torn too
none_left : (payloads : List (List ℕ)) (records : List MetaRecord) (rest torn : List ℕ) → AreRead IsRecord payloads records → IsTorn rest → rest ≡ frames payloads ++ torn → (records ≡ []) × (rest ≡ torn)
none_left [] [] rest torn read t e = (refl, e)
none_left [] (r ∷ records) rest torn read t e = absurd (read tt)
none_left (p ∷ payloads) [] rest torn read t e = absurd (read tt)
none_left (p ∷ payloads) (r ∷ records) rest torn read t e = absurd (torn_has_none p (frames payloads ++ torn) read.0 (subst IsTorn (e ∙ append_assoc (frame p) (frames payloads) torn) t))

pub record SameFront (xs ys : List MetaRecord) (m n : ℕ) : Type 0 where
  pub records : xs ≡ ys
  pub end : m ≡ n

-- a front is one list of records, and ends at one offset
pub one_front : (bytes : List ℕ) (xs ys : List MetaRecord) (m n : ℕ) → HasFront bytes xs m → HasFront bytes ys n → SameFront xs ys m n
one_front bytes xs ys m n a b =
    let l : LeftTorn (drop m bytes) (drop n bytes) xs ys = left_torn a.read.payloads b.read.payloads xs ys (drop m bytes) (drop n bytes) b.torn a.read.read b.read.read
    (halves bytes m a.read.payloads a.read.is ∙ sym (halves bytes n b.read.payloads b.read.is)) in
    let none = none_left l.payloads l.records (drop m bytes) (drop n bytes) l.read a.torn l.is in
    record {
      records = sym (l.whole ∙ ap (λ t. xs ++ t) none.0 ∙ append-nil xs);
      end = omega (arith, ap length none.1, length-drop m bytes, length-drop n bytes, a.within, b.within);
    }

-- a record in front of a torn end isn't bad
left_bad : (bytes torn : List ℕ) (at : ℕ) (payloads : List (List ℕ)) (records : List MetaRecord) → AreRead IsRecord payloads records → IsTorn torn → (IsTorn (drop at bytes) → ⊥) → at < length bytes → drop at bytes ≡ frames payloads ++ torn
    → (r : MetaRecord) × (others : List MetaRecord) × (records ≡ r ∷ others) × (next : ℕ) × RecordStands bytes at next r
left_bad bytes torn at [] records read t not_ within e = absurd (not_ (subst IsTorn (sym e) t))
left_bad bytes torn at (p ∷ payloads) [] read t not_ within e = absurd (read tt)
left_bad bytes torn at (p ∷ payloads) (r ∷ records) read t not_ within e = (
  r,
  records,
  refl,
  at + length p + 8,
  record {
    payload = p;
    stands = record {
      fits = read.0;
      front = take at bytes;
      rest = frames payloads ++ torn;
      is = sym (take-append-drop at bytes) ∙ ap (λ s. take at bytes ++ s) (e ∙ append_assoc (frame p) (frames payloads) torn);
      begins = length-take-le at bytes (omega arith);
      ends = refl;
    };
    reads = read.1;
  },
)

not_bad : (before : List MetaRecord) (bytes : List ℕ) (at end : ℕ) (records : List MetaRecord) → AreRecords (take end bytes) records → IsTorn (drop end bytes) → AreConsistent (before ++ records) → IsFirstBad before bytes at → (IsTorn (drop at bytes) → ⊥) → ⊥
not_bad before bytes at end records all torn c f not_ =
    let l : LeftTorn (drop at bytes) (drop end bytes) f.records records = left_torn f.good.payloads all.payloads f.records records (drop at bytes) (drop end bytes) torn f.good.read all.read
    (halves bytes at f.good.payloads f.good.is ∙ sym (halves bytes end all.payloads all.is)) in
    let n = left_bad bytes (drop end bytes) at l.payloads l.records l.read torn not_ f.within l.is in
    let whole : before ++ records ≡ ((before ++ f.records) ++ n.0 ∷ []) ++ n.1 =
    ap (λ t. before ++ t) (l.whole ∙ ap (λ t. f.records ++ t) n.2) ∙ sym (append_assoc before f.records (n.0 ∷ n.1)) ∙ sym (append_assoc (before ++ f.records) (n.0 ∷ []) n.1) in
    f.bad n.3 n.0 n.4 (consistent_front ((before ++ f.records) ++ n.0 ∷ []) n.1 (subst AreConsistent whole c))

pub front_refused : (bytes : List ℕ) (records : List MetaRecord) (end : ℕ) (f : MetaFault) → IsFrontFault [] bytes f → HasFront bytes records end → f ≡ NoMemory
front_refused bytes records end (Record at) fault h = absurd (not_bad [] bytes at end records h.read h.torn h.consistent fault.0 fault.1)
front_refused bytes records end NoMemory fault h = refl

pub front_none : {X : Type 0} (Says : X → List MetaRecord → Type 0) (before : List MetaRecord) (bytes : List ℕ) (records : List MetaRecord) (end : ℕ) (r : Result X MetaFault) (e : MetaFault) → before ≡ [] → IsErrAnd r (λ y. y ≡ e)
    → IsFrontFault before bytes e → HasFront bytes records end → AreFound Says records r
front_none Says before bytes records end r e none was fault h =
    let p = err_from_is_err_and r was in
    let f : IsFrontFault [] bytes e = subst (λ b. IsFrontFault b bytes e) none fault in
    subst (λ x. AreFound Says records x) (sym p.1) (p.2 ∙ front_refused bytes records end e f h)

-- what isn't torn is bad
not_torn : (bytes : List ℕ) (at : ℕ) (b : Bool) → b ≡ false → IsTrue b ↔ IsTorn (drop at bytes) → IsTorn (drop at bytes) → ⊥
not_torn bytes at b no_ tells torn = absurd (let both : true ≡ false = sym (tells.1 torn) ∙ no_ in cc)

pub front_frame_fault : (before mid : List MetaRecord) (bytes : List ℕ) (at : ℕ) (f : MetaFault) (b : Bool) → b ≡ false → IsTrue b ↔ IsTorn (drop at bytes) → Adds before (take at bytes) mid → at < length bytes → IsRecordFault bytes at f → IsFrontFault before bytes f
front_frame_fault before mid bytes at (Record offset) b no_ tells a within fault =
    (frame_fault before mid bytes at (Record offset) a within fault, subst (λ n. IsTorn (drop n bytes) → ⊥) (sym fault.0) (not_torn bytes at b no_ tells))
front_frame_fault before mid bytes at NoMemory b no_ tells a within fault = tt

pub front_add_fault : (before mid : List MetaRecord) (bytes : List ℕ) (at next : ℕ) (r : MetaRecord) (f : MetaFault) (b : Bool) → b ≡ false → IsTrue b ↔ IsTorn (drop at bytes) → Adds before (take at bytes) mid → at < length bytes
    → RecordStands bytes at next r → IsAddFault mid r at f → IsFrontFault before bytes f
front_add_fault before mid bytes at next r (Record offset) b no_ tells a within s fault =
    (add_fault before mid bytes at next r (Record offset) a within s fault, subst (λ n. IsTorn (drop n bytes) → ⊥) (sym fault.0) (not_torn bytes at b no_ tells))
front_add_fault before mid bytes at next r NoMemory b no_ tells a within s fault = tt

-- at their end bytes are torn
pub end_torn : (bytes : List ℕ) (at : ℕ) → length bytes ≤ at → IsTorn (drop at bytes)
end_torn bytes at past = inl (omega (arith, length-drop at bytes))

pub has_front : (bytes : List ℕ) (records : List MetaRecord) (end : ℕ) → end ≤ length bytes → Adds [] (take end bytes) records → IsTorn (drop end bytes) → HasFront bytes records end
has_front bytes records end within a torn = record {
  within = within;
  read = subst (AreRecords (take end bytes)) (sym a.is) a.read;
  consistent = a.consistent;
  torn = torn;
}
