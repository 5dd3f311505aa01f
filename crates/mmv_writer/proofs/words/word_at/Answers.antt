-- The eight bytes from an offset on.
use Rattle.std.proofs.Common.{◌≡◌, ℕ, List, [], ◌∷◌, ◌+◌, ◌*◌, ◌<◌, take, drop, slice_index, ap, ◌∙◌, sym, arith, refl}
use Rattle.std.proofs.lemmas.List.{get_or-take, get_or-drop}
use Rattle.byteorder.specs.Endian.{little_number}
use Rattle.pcp_base.proofs.Orders.{little_eight}
use Rattle.mmv_writer.proofs.words.word_at.Goals as goal

byte_is : (bytes : List ℕ) (at k m r : ℕ) → k < 8 → at + k ≡ m → r ≡ slice_index bytes m → r ≡ slice_index (take 8 (drop at bytes)) k
byte_is bytes at k m r h e f = f ∙ ap (slice_index bytes) (sym e) ∙ sym (get_or-take 8 (drop at bytes) k 0 h ∙ get_or-drop at bytes k 0)

sum_of : (r a b c d e f g h s t u v w x y z : ℕ) → r ≡ little_number 8 (a ∷ b ∷ c ∷ d ∷ e ∷ f ∷ g ∷ h ∷ [])
    → a ≡ s → b ≡ t → c ≡ u → d ≡ v → e ≡ w → f ≡ x → g ≡ y → h ≡ z → r ≡ s + t * 256 + u * 65536 + v * 16777216 + w * 4294967296 + x * 1099511627776 + y * 281474976710656 + z * 72057594037927936
sum_of r a b c d e f g h s t u v w x y z is p1 p2 p3 p4 p5 p6 p7 p8 =
    let sum : r ≡ a + b * 256 + c * 65536 + d * 16777216 + e * 4294967296 + f * 1099511627776 + g * 281474976710656 + h * 72057594037927936 =
    is ∙ little_eight (a ∷ b ∷ c ∷ d ∷ e ∷ f ∷ g ∷ h ∷ []) in omega arith

pub returns : goal.returns
returns c =
    sum_of c.read_u64.result _ _ _ _ _ _ _ _ _ _ _ _ _ _ _ _ c.read_u64.ensures
    (byte_is c.args.bytes.now c.args.at 0 c.args.at _ (omega arith) (omega arith) c.byte_or_zero.ensures)
    (byte_is c.args.bytes.now c.args.at 1 (c.args.at + 1) _ (omega arith) refl c.byte_or_zero-2.ensures)
    (byte_is c.args.bytes.now c.args.at 2 (c.args.at + 2) _ (omega arith) refl c.byte_or_zero-3.ensures)
    (byte_is c.args.bytes.now c.args.at 3 (c.args.at + 3) _ (omega arith) refl c.byte_or_zero-4.ensures)
    (byte_is c.args.bytes.now c.args.at 4 (c.args.at + 4) _ (omega arith) refl c.byte_or_zero-5.ensures)
    (byte_is c.args.bytes.now c.args.at 5 (c.args.at + 5) _ (omega arith) refl c.byte_or_zero-6.ensures)
    (byte_is c.args.bytes.now c.args.at 6 (c.args.at + 6) _ (omega arith) refl c.byte_or_zero-7.ensures)
    (byte_is c.args.bytes.now c.args.at 7 (c.args.at + 7) _ (omega arith) refl c.byte_or_zero-8.ensures)
