-- Places among a file's records, and record boundaries.
use Rattle.std.proofs.Common.{◌≡◌, ℕ, ◌+◌, ◌<◌, ◌≤◌, List, [], ◌∷◌, ◌++◌, length, take, drop, refl, sym, ap, ◌∙◌, subst, append_assoc, arith, length-append, Option}
use Rattle.std.specs.Prelude.{option_to_list}
use Rattle.std.specs.List.{AllByRecursion}
use Rattle.std.proofs.lemmas.List.{take-append-drop, drop_at, drop-drop, append-nil, length-drop, length-take}
use Rattle.pcp_base.specs.Time.{Moment}
use Rattle.pcp_base.specs.declared.file.FileId.{FileId}
use Rattle.pcp_base.specs.declared.file.FileId.TheVariants.{Meta, Index, Volume}
use Rattle.pcp_base.specs.declared.result.Item.{Item}
use Rattle.pcp_model.specs.Archive.{AreRead}
use Rattle.pcp_model.specs.Frame.{frame, frames, IsFrameable, IsTorn}
use Rattle.pcp_model.specs.Payload.{stamp_of}
use Rattle.pcp_model.specs.Sound.{IsBoundary}
use Rattle.pcp_model.proofs.Boundaries.{front_lists}
use Rattle.pcp_model.proofs.Cuts.{frameable, as_many, frames-append}
use Rattle.pcp_model.proofs.Lengths.{length-frame}
use Rattle.pcp_model.proofs.Lists.{each-append}
use Rattle.pcp_model.proofs.OneItem.{one_item}
use Rattle.pcp_model.proofs.Sound.{label_boundary}
use Rattle.pcp_model.proofs.Unique.{both_frames, torn_has_none}
use Rattle.archive_frame.specs.Steps.{Stands}
use Rattle.archive_meta.specs.Framed.{RecordStands}
use Rattle.archive_meta.specs.Records.{AreRecords}
use Rattle.archive_loading.specs.Stamps.{domain_stamps}
use Rattle.archive_loading.specs.Standing.{ItemStands, NoFrameStands, WasTaken}
use Rattle.archive_loading.proofs.Framed.{stands_in}
use Rattle.archive_loading.proofs.Frames.{out_of_place, whole_not_torn}
use Rattle.archive_check.specs.Stamped.{Stamps, Holds, IsAt}

-- ---- boundaries

fewer : (a b : List (List ℕ)) (x y : List ℕ) → AllByRecursion IsFrameable a → AllByRecursion IsFrameable b → frames a ++ x ≡ frames b ++ y → length (frames a) < length (frames b) → length a < length b
fewer [] [] x y one two e lt = absurd (omega (arith, lt))
fewer [] (q ∷ b) x y one two e lt = omega arith
fewer (p ∷ a) [] x y one two e lt = absurd (omega (arith, lt, length-append (frame p) (frames a)))
fewer (p ∷ a) (q ∷ b) x y one two e lt =
    let first : (p ≡ q) × (frames a ++ x ≡ frames b ++ y) =
    both_frames p q (frames a ++ x) (frames b ++ y) one.0 two.0 (sym (append_assoc (frame p) (frames a) x) ∙ e ∙ append_assoc (frame q) (frames b) y) in
    let sizes : length (frame p) ≡ length (frame q) = ap (λ t. length (frame t)) first.0 in
    let more : length a < length b = fewer a b x y one.1 two.1 first.1 (omega (arith, lt, sizes, length-append (frame p) (frames a), length-append (frame q) (frames b))) in
    omega (arith, more)

-- a boundary behind another has more records before it
pub order : (bytes : List ℕ) (a b j k : ℕ) → IsBoundary bytes a j → IsBoundary bytes b k → a < b → j < k
order bytes a b j k p q lt =
    let more : length p.payloads < length q.payloads = fewer p.payloads q.payloads p.behind q.behind p.fit q.fit (sym p.stand ∙ q.stand) (omega (arith, lt, p.is, q.is)) in
    omega (arith, more, p.many, q.many)

-- and none has more than all
pub counted : (file : FileId) (bytes : List ℕ) (records : List (List Moment)) (offset k : ℕ) → Holds file (drop 132 bytes) records → IsBoundary bytes offset k → k ≤ length records
counted file bytes records offset k h b =
    let front = front_lists b.payloads h.payloads b.behind h.torn b.fit (frameable (Stamps file) h.payloads records h.read) h.is_torn (sym b.stand ∙ h.stand) in
    let many : length h.payloads ≡ length records = as_many (Stamps file) h.payloads records h.read in
    omega (arith, b.many, front.1, many)

-- ---- places

pub begins : (file : FileId) (bytes : List ℕ) (records : List (List Moment)) → Holds file (drop 132 bytes) records → IsAt file bytes records 132 []
begins file bytes records h = record { boundary = label_boundary bytes; behind = records; are = refl; rest = h }

pub stands_next : (bytes : List ℕ) (at : ℕ) (p rest : List ℕ) → IsFrameable p → drop at bytes ≡ frame p ++ rest → Stands bytes p at (at + length p + 8)
stands_next bytes at p rest fits is = record {
  fits = fits;
  front = take at bytes;
  rest = rest;
  is = sym (take-append-drop at bytes) ∙ ap (λ t. take at bytes ++ t) is;
  begins = let size : length (drop at bytes) ≡ length (frame p) + length rest = ap length is ∙ length-append (frame p) rest in omega (arith, length-take at bytes, length-drop at bytes, size, length-frame p);
  ends = refl;
}

pub behind_frame : (bytes payload : List ℕ) (at next : ℕ) → (s : Stands bytes payload at next) → (drop at bytes ≡ frame payload ++ s.rest) × (drop next bytes ≡ s.rest)
behind_frame bytes payload at next s =
    let here : drop at bytes ≡ frame payload ++ s.rest = ap (drop at) s.is ∙ drop_at s.front (frame payload ++ s.rest) at s.begins in
    let size : next ≡ at + length (frame payload) = omega (arith, s.ends, length-frame payload) in
    (here, ap (λ n. drop n bytes) size ∙ sym (drop-drop (length (frame payload)) at bytes) ∙ ap (drop (length (frame payload))) here ∙ drop_at (frame payload) s.rest (length (frame payload)) refl)

-- a boundary behind a record that stands at one
boundary_on : (bytes payload : List ℕ) (at next k : ℕ) → IsBoundary bytes at k → Stands bytes payload at next → IsBoundary bytes next (k + 1)
boundary_on bytes payload at next k b s =
    let here = behind_frame bytes payload at next s in
    let rest : b.behind ≡ frame payload ++ s.rest =
    sym (drop_at (frames b.payloads) b.behind (length (frames b.payloads)) refl) ∙ ap (drop (length (frames b.payloads))) (sym b.stand) ∙ drop-drop (length (frames b.payloads)) 132 bytes ∙ ap (λ n. drop n bytes) (sym b.is) ∙ here.0 in
    record {
      payloads = b.payloads ++ payload ∷ [];
      many = length-append b.payloads (payload ∷ []) ∙ ap (λ n. n + 1) b.many;
      fit = each-append IsFrameable b.payloads (payload ∷ []) b.fit (s.fits, tt);
      behind = s.rest;
      stand = b.stand ∙ ap (λ t. frames b.payloads ++ t) rest ∙ sym (append_assoc (frames b.payloads) (frame payload) s.rest)
          ∙ ap (λ t. t ++ s.rest) (ap (λ t. frames b.payloads ++ t) (sym (append-nil (frame payload))) ∙ sym (frames-append b.payloads (payload ∷ [])));
      is = omega (arith, b.is, s.ends, ap length (frames-append b.payloads (payload ∷ [])), length-append (frames b.payloads) (frame payload ++ []), length-append (frame payload) [], length-frame payload);
    }

-- the next of a place's records
pub record NextIs (file : FileId) (bytes : List ℕ) (records : List (List Moment)) (front : List (List Moment)) (payload : List ℕ) (next : ℕ) : Type 0 where
  pub stamps : List Moment
  pub has : Stamps file payload stamps
  pub place : IsAt file bytes records next (front ++ stamps ∷ [])

module _ (file : FileId) (bytes : List ℕ) (records : List (List Moment)) (at : ℕ) (front : List (List Moment)) (p : IsAt file bytes records at front) where
  -- no record follows a place where the file's end begins
  pub ended : IsTorn (drop at bytes) → records ≡ front
  ended torn = go p.behind p.rest.payloads p.rest.read p.rest.stand p.are
    where
      go : (behind : List (List Moment)) (ps : List (List ℕ)) → AreRead (Stamps file) ps behind → drop at bytes ≡ frames ps ++ p.rest.torn → records ≡ front ++ behind → records ≡ front
      go [] ps read is are = are ∙ append-nil front
      go (v ∷ behind) [] read is are = absurd (read tt)
      go (v ∷ behind) (q ∷ ps) read is are = absurd (torn_has_none q (frames ps ++ p.rest.torn) read.0 (subst IsTorn (is ∙ append_assoc (frame q) (frames ps) p.rest.torn) torn))

  -- a record that stands there is the next
  pub next_at : (payload : List ℕ) (next : ℕ) → Stands bytes payload at next → NextIs file bytes records front payload next
  next_at payload next s = go p.behind p.rest.payloads p.rest.read p.rest.stand p.are
    where
      go : (behind : List (List Moment)) (ps : List (List ℕ)) → AreRead (Stamps file) ps behind → drop at bytes ≡ frames ps ++ p.rest.torn → records ≡ front ++ behind → NextIs file bytes records front payload next
      go [] [] read is are = absurd (torn_has_none payload s.rest s.fits (subst IsTorn (sym is ∙ (behind_frame bytes payload at next s).0) p.rest.is_torn))
      go [] (q ∷ ps) read is are = absurd (read tt)
      go (v ∷ behind) [] read is are = absurd (read tt)
      go (v ∷ behind) (q ∷ ps) read is are =
          let here = behind_frame bytes payload at next s in
          let same = both_frames q payload (frames ps ++ p.rest.torn) s.rest read.0 s.fits (sym (append_assoc (frame q) (frames ps) p.rest.torn) ∙ sym is ∙ here.0) in
          record {
            stamps = v;
            has = subst (λ t. Stamps file t v) same.0 read.1;
            place = record {
              boundary = subst (IsBoundary bytes next) (sym (length-append front (v ∷ []))) (boundary_on bytes payload at next (length front) p.boundary s);
              behind = behind;
              are = are ∙ sym (append_assoc front (v ∷ []) behind);
              rest = record { payloads = ps; read = read.2; torn = p.rest.torn; is_torn = p.rest.is_torn; stand = here.1 ∙ sym same.1 };
            };
          }

  -- where no frame stands and the end doesn't begin there is no place
  pub never_wrong : NoFrameStands bytes at → (IsTorn (drop at bytes) → ⊥) → ⊥
  never_wrong none whole = go p.behind p.rest.payloads p.rest.read p.rest.stand
    where
      go : (behind : List (List Moment)) (ps : List (List ℕ)) → AreRead (Stamps file) ps behind → drop at bytes ≡ frames ps ++ p.rest.torn → ⊥
      go [] [] read is = whole (subst IsTorn (sym is) p.rest.is_torn)
      go [] (q ∷ ps) read is = read tt
      go (v ∷ behind) [] read is = read tt
      go (v ∷ behind) (q ∷ ps) read is = none q (at + length q + 8) (stands_next bytes at q (frames ps ++ p.rest.torn) read.0 (is ∙ append_assoc (frame q) (frames ps) p.rest.torn))

  -- a frame that was taken there is a record's
  pub taken_stands : (taken : List ℕ) → WasTaken bytes at taken → (payload : List ℕ) × Stands bytes payload at (at + length taken)
  taken_stands taken t = go p.behind p.rest.payloads p.rest.read p.rest.stand
    where
      go : (behind : List (List Moment)) (ps : List (List ℕ)) → AreRead (Stamps file) ps behind → drop at bytes ≡ frames ps ++ p.rest.torn → (payload : List ℕ) × Stands bytes payload at (at + length taken)
      go [] [] read is = absurd (whole_not_torn bytes taken at t (subst IsTorn (sym is) p.rest.is_torn))
      go [] (q ∷ ps) read is = absurd (read tt)
      go (v ∷ behind) [] read is = absurd (read tt)
      go (v ∷ behind) (q ∷ ps) read is =
          let s : Stands bytes q at (at + length q + 8) = stands_next bytes at q (frames ps ++ p.rest.torn) read.0 (is ∙ append_assoc (frame q) (frames ps) p.rest.torn) in
          let whole : Stands taken q 0 (length taken) = out_of_place bytes taken q at (at + length q + 8) t s in
          let size : at + length q + 8 ≡ at + length taken = omega (arith, whole.ends) in
          (q, subst (Stands bytes q at) size s)

-- ---- Meta's and a volume's

module _ (bytes : List ℕ) (records : List (List Moment)) (at : ℕ) (front : List (List Moment)) where
  -- a frame of Meta, with the stamp that it says
  pub meta_frame : IsAt Meta bytes records at front → (taken : List ℕ) → WasTaken bytes at taken → (found : Option Moment) → ((rs : List _) → AreRecords taken rs → domain_stamps rs ≡ option_to_list found)
      → IsAt Meta bytes records (at + length taken) (front ++ option_to_list found ∷ [])
  meta_frame p taken t found says =
      let s = taken_stands Meta bytes records at front p taken t in
      let n : NextIs Meta bytes records front s.0 (at + length taken) = next_at Meta bytes records at front p s.0 (at + length taken) s.1 in
      let stands : RecordStands bytes at (at + length taken) n.has.0 = record { payload = s.0; stands = s.1; reads = n.has.1 } in
      let is : n.stamps ≡ option_to_list found = n.has.2 ∙ says (n.has.0 ∷ []) (stands_in bytes taken at (at + length taken) n.has.0 t stands) in
      subst (λ v. IsAt Meta bytes records (at + length taken) (front ++ v ∷ [])) is n.place

  -- an item of a volume
  pub volume_item : (number next : ℕ) (x : Item) → IsAt (Volume number) bytes records at front → ItemStands bytes at next x → IsAt (Volume number) bytes records next (front ++ (stamp_of x ∷ []) ∷ [])
  volume_item number next x p s =
      let n : NextIs (Volume number) bytes records front s.payload next = next_at (Volume number) bytes records at front p s.payload next s.stands in
      let same : n.has.0 ≡ x = one_item s.payload n.has.0 x s.stands.fits n.has.1 s.reads in
      let is : n.stamps ≡ stamp_of x ∷ [] = n.has.2 ∙ ap (λ y. stamp_of y ∷ []) same in
      subst (λ v. IsAt (Volume number) bytes records next (front ++ v ∷ [])) is n.place

-- the index has no records here
pub no_index : (bytes : List ℕ) (records : List (List Moment)) (at : ℕ) (front : List (List Moment)) → IsAt Index bytes records at front → records ≡ front
no_index bytes records at front p = go p.behind p.rest.payloads p.rest.read p.are
  where
    go : (behind : List (List Moment)) (ps : List (List ℕ)) → AreRead (Stamps Index) ps behind → records ≡ front ++ behind → records ≡ front
    go [] ps read are = are ∙ append-nil front
    go (v ∷ behind) [] read are = absurd (read tt)
    go (v ∷ behind) (q ∷ ps) read are = absurd read.1
