-- Records of a volume that were passed one after another, from behind its label on.
use Rattle.std.proofs.Common.{◌≡◌, ℕ, pos, ◌<◌, List, [], ◌∷◌, ◌++◌, length, take, drop, refl, sym, ap, ◌∙◌, append_assoc, arith}
use Rattle.std.proofs.lemmas.List.{take-append-drop, drop_at, append-nil, length-append, length-drop}
use Rattle.pcp_base.specs.declared.file.FileId.TheVariants.{Volume}
use Rattle.pcp_base.specs.declared.result.Item.{Item}
use Rattle.pcp_model.specs.Archive.{AreRead, LabelledFile}
use Rattle.pcp_model.specs.Disk.{Files}
use Rattle.pcp_model.specs.Frame.{frame, frames}
use Rattle.pcp_model.specs.LabelFields.{LabelFields}
use Rattle.pcp_model.specs.Payload.{IsItem}
use Rattle.pcp_model.proofs.Cuts.{frames-append}
use Rattle.pcp_model.proofs.Lengths.{length-frame}
use Rattle.archive_frame.specs.Steps.{Stands}
use Rattle.archive_loading.specs.Standing.{ItemStands}
use Rattle.archive_loading.specs.Loaded.{IsLabelled}

-- a record and what follows it
pub behind_record : (bytes payload : List ℕ) (at next : ℕ) → Stands bytes payload at next → drop at bytes ≡ frame payload ++ drop next bytes
behind_record bytes payload at next s =
    let one : drop at bytes ≡ frame payload ++ s.rest = ap (drop at) s.is ∙ drop_at s.front (frame payload ++ s.rest) at s.begins in
    let long : length (s.front ++ frame payload) ≡ next = omega (arith, length-append s.front (frame payload), length-frame payload, s.begins, s.ends) in
    let two : drop next bytes ≡ s.rest = ap (drop next) (s.is ∙ sym (append_assoc s.front (frame payload) s.rest)) ∙ drop_at (s.front ++ frame payload) s.rest next long in
    one ∙ ap (λ t. frame payload ++ t) (sym two)

read_more : (ps : List (List ℕ)) (xs : List Item) (p : List ℕ) (x : Item) → AreRead IsItem ps xs → AreRead IsItem (p ∷ []) (x ∷ []) → AreRead IsItem (ps ++ p ∷ []) (xs ++ x ∷ [])
read_more [] [] p x read one = one
read_more [] (y ∷ xs) p x read one = absurd (read tt)
read_more (q ∷ ps) [] p x read one = absurd (read tt)
read_more (q ∷ ps) (y ∷ xs) p x read one = (read.0, read.1, read_more ps xs p x read.2 one)

-- the records of a volume up to an offset
pub record Passed (bytes : List ℕ) (at : ℕ) (xs : List Item) : Type 0 where
  pub payloads : List (List ℕ)
  pub read : AreRead IsItem payloads xs
  pub is : drop 132 bytes ≡ frames payloads ++ drop at bytes

pub none_passed : (bytes : List ℕ) → Passed bytes 132 []
none_passed bytes = record { payloads = []; read = tt; is = refl }

pub one_passed : (bytes : List ℕ) (at next : ℕ) (xs : List Item) (x : Item) → Passed bytes at xs → ItemStands bytes at next x → Passed bytes next (xs ++ x ∷ [])
one_passed bytes at next xs x p s = record {
  payloads = p.payloads ++ s.payload ∷ [];
  read = read_more p.payloads xs s.payload x p.read (s.stands.fits, s.reads, tt);
  is = p.is ∙ ap (λ t. frames p.payloads ++ t) (behind_record bytes s.payload at next s.stands) ∙ sym (append_assoc (frames p.payloads) (frame s.payload) (drop next bytes))
      ∙ ap (λ t. t ++ drop next bytes) (sym (frames-append p.payloads (s.payload ∷ []) ∙ ap (λ t. frames p.payloads ++ t) (append-nil (frame s.payload))));
}

module _ (files : Files) (l : LabelFields) where
  pub file_of : (n at : ℕ) (xs : List Item) → IsLabelled (files (Volume n)) l n → Passed (files (Volume n)) at xs → LabelledFile IsItem (files (Volume n)) l (pos n) xs (drop at (files (Volume n)))
  file_of n at xs label p = record {
    head = take 132 (files (Volume n));
    label = label;
    payloads = p.payloads;
    read = p.read;
    is = sym (take-append-drop 132 (files (Volume n))) ∙ ap (λ t. take 132 (files (Volume n)) ++ t) p.is;
  }

  -- a volume that ends within its label has no record
  pub none_read : (n at : ℕ) (xs : List Item) → length (files (Volume n)) < 132 → Passed (files (Volume n)) at xs → xs ≡ []
  none_read n at xs short p = go p.payloads xs p.read (p.is)
    where
      go : (ps : List (List ℕ)) (xs : List Item) → AreRead IsItem ps xs → drop 132 (files (Volume n)) ≡ frames ps ++ drop at (files (Volume n)) → xs ≡ []
      go [] [] read is = refl
      go [] (x ∷ xs) read is = absurd (read tt)
      go (q ∷ ps) [] read is = absurd (read tt)
      go (q ∷ ps) (x ∷ xs) read is = absurd (omega (arith, ap length is, length-drop 132 (files (Volume n)), short, length-append (frame q ++ frames ps) (drop at (files (Volume n))), length-append (frame q) (frames ps), length-frame q))
