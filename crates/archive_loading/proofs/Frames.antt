-- Bytes that were taken at an offset, and what stands there.
use Rattle.std.proofs.Common.{◌≡◌, ◌⊎◌, inl, inr, ⊎_elim, ℕ, ◌+◌, ◌-◌, ◌<◌, ◌≤◌, List, [], ◌∷◌, ◌++◌, length, take, drop, Result, Ok, Err, refl, sym, ap, ◌∙◌, subst, append_assoc, arith}
use Rattle.std.specs.Int.{w32, from_be_bytes}
use Rattle.std.proofs.Math.Seq.{take-add}
use Rattle.std.proofs.lemmas.List.{take_at, drop_at, take_all, take-append-drop, take-take, drop-drop, length-take, length-drop, append-nil}
use Rattle.pcp_base.specs.declared.result.Item.{Item}
use Rattle.pcp_model.specs.Frame.{frame, IsTorn}
use Rattle.pcp_model.specs.Payload.{IsItem}
use Rattle.std.specs.List.{slice_range}
use Rattle.archive_frame.specs.declared.fault.FrameFault.{FrameFault}
use Rattle.archive_frame.specs.declared.steps.Step.{Step}
use Rattle.archive_frame.specs.declared.steps.Step.TheVariants.{End, Payload}
use Rattle.archive_frame.specs.Steps.{Stands, IsSize, IsForward}
use Rattle.pcp_model.proofs.Lengths.{length-frame}
use Rattle.archive_frame.proofs.Records.{Ends, stood}
use Rattle.std.specs.Prelude.{Option, Some, None}
use Rattle.pcp_base.specs.Fields.{number_at}
use Rattle.archive_loading.specs.Standing.{IsItemOf, IsItemIn, ItemStands, NoItemStands, NoFrameStands, IsSized, WasTaken}

-- a file that ends too early for a length word
pub too_short : (bytes : List ℕ) (at : ℕ) → (length bytes ≤ at) ⊎ (length bytes - at < 4) → IsTorn (drop at bytes)
too_short bytes at few = inl (⊎_elim (λ h. omega (arith, length-drop at bytes, h)) (λ h. omega (arith, length-drop at bytes, h)) few)

-- a first part that was taken has the length word
pub word_there : (bytes first : List ℕ) (at : ℕ) → first ≡ take 4 (drop at bytes) → number_at first 0 ≡ number_at bytes at
word_there bytes first at is = ap (λ t. from_be_bytes w32 (take 4 t)) is ∙ ap (from_be_bytes w32) (take-take 4 4 (drop at bytes) (omega arith))

pub torn_there : (bytes first : List ℕ) (at : ℕ) → first ≡ take 4 (drop at bytes) → IsSize (number_at first 0) → length bytes - at < number_at first 0 → IsTorn (drop at bytes)
torn_there bytes first at is size few =
    let word : number_at first 0 ≡ number_at bytes at = word_there bytes first at is in
    inr (omega (arith, word, size.0), omega (arith, word, size.1), omega (arith, word, few, length-drop at bytes))

-- no frame has a length word out of range
pub no_frame : (bytes first : List ℕ) (at : ℕ) → first ≡ take 4 (drop at bytes) → (IsSize (number_at first 0) → ⊥) → NoFrameStands bytes at
no_frame bytes first at is wrong payload next s =
    let e : Ends bytes payload at next = stood bytes payload at next s in
    let word : number_at first 0 ≡ length payload + 8 = word_there bytes first at is ∙ e.head in
    wrong (omega (arith, word, e.sized.0), omega (arith, word, e.sized.1))

pub not_torn : (bytes first : List ℕ) (at : ℕ) → first ≡ take 4 (drop at bytes) → 4 ≤ length bytes - at → (IsSize (number_at first 0) → ⊥) → IsTorn (drop at bytes) → ⊥
not_torn bytes first at is long wrong (inl few) = omega (arith, length-drop at bytes, few)
not_torn bytes first at is long wrong (inr torn) =
    let word : number_at first 0 ≡ number_at bytes at = word_there bytes first at is in
    wrong (omega (arith, word, torn.0), omega (arith, word, torn.1))

-- a whole frame in two parts
pub taken_whole : (bytes first rest whole : List ℕ) (at size : ℕ) → first ≡ take 4 (drop at bytes) → length first ≡ 4 → rest ≡ take (size - 4) (drop (at + 4) bytes) → whole ≡ first ++ rest
    → size ≡ number_at first 0 → IsSize (number_at first 0) → size ≤ length bytes - at → WasTaken bytes at whole
taken_whole bytes first rest whole at size one four two is says sized fits =
    let split : size ≡ 4 + (size - 4) = omega (arith, says, sized.0) in
    let same : whole ≡ take size (drop at bytes) =
    is ∙ ap (λ t. t ++ rest) one ∙ ap (λ t. take 4 (drop at bytes) ++ t) (two ∙ ap (take (size - 4)) (sym (drop-drop 4 at bytes)))
    ∙ sym (take-add 4 (size - 4) (drop at bytes)) ∙ ap (λ n. take n (drop at bytes)) (sym split) in
    let long : length whole ≡ size = omega (arith, ap length same, length-take size (drop at bytes), length-drop at bytes, fits) in
    let word : number_at whole 0 ≡ number_at first 0 =
    ap (λ t. from_be_bytes w32 (take 4 t)) is ∙ ap (from_be_bytes w32) (take_at first rest 4 four) ∙ ap (from_be_bytes w32) (sym (take_all 4 first (omega (arith, four)))) in
    record {
      sized = record { size = (omega (arith, long, says, sized.0), omega (arith, long, says, sized.1)); word = word ∙ sym says ∙ sym long };
      within = omega (arith, long, fits, says, sized.0);
      is = same ∙ ap (λ n. take n (drop at bytes)) (sym long);
    }

-- a length word that the bytes begin with, and as many bytes as it says
pub sized_by : (old new : List ℕ) (size : ℕ) → length old ≡ 4 → take (length old) new ≡ old → length new ≡ length old + (size - 4) → size ≡ number_at old 0 → IsSize (number_at old 0) → IsSized new
sized_by old new size four front long says sized =
    let word : number_at new 0 ≡ number_at old 0 =
    ap (λ n. from_be_bytes w32 (take n new)) (sym four) ∙ ap (from_be_bytes w32) front ∙ ap (from_be_bytes w32) (sym (take_all 4 old (omega (arith, four)))) in
    let all : length new ≡ size = omega (arith, long, four, says, sized.0) in
    record { size = (omega (arith, all, says, sized.0), omega (arith, all, says, sized.1)); word = word ∙ sym says ∙ sym all }

-- ---- what stands in the bytes that were taken stands there

-- a frame in its own bytes
pub in_place : (bytes taken payload : List ℕ) (at : ℕ) → WasTaken bytes at taken → Stands taken payload 0 (length taken) → Stands bytes payload at (at + length taken)
in_place bytes taken payload at t s =
    let front : s.front ≡ [] = empty s.front s.begins in
    let e : Ends taken payload 0 (length taken) = stood taken payload 0 (length taken) s in
    let whole : drop at bytes ≡ taken ++ drop (length taken) (drop at bytes) =
    sym (take-append-drop (length taken) (drop at bytes)) ∙ ap (λ x. x ++ drop (length taken) (drop at bytes)) (sym t.is) in
    let frame_is : taken ≡ frame payload ++ s.rest = s.is ∙ ap (λ f. f ++ (frame payload ++ s.rest)) front in
    record {
      fits = s.fits;
      front = take at bytes;
      rest = s.rest ++ drop (length taken) (drop at bytes);
      is = sym (take-append-drop at bytes)
          ∙ ap (λ x. take at bytes ++ x) (whole ∙ ap (λ x. x ++ drop (length taken) (drop at bytes)) frame_is ∙ append_assoc (frame payload) s.rest (drop (length taken) (drop at bytes)));
      begins = omega (arith, length-take at bytes, t.within);
      ends = omega (arith, s.ends);
    }
  where
    empty : (l : List ℕ) → length l ≡ 0 → l ≡ []
    empty [] h = refl
    empty (x ∷ l) h = absurd (omega (arith, h))

-- and the other way round
pub out_of_place : (bytes taken payload : List ℕ) (at next : ℕ) → WasTaken bytes at taken → Stands bytes payload at next → Stands taken payload 0 (length taken)
out_of_place bytes taken payload at next t s =
    let e : Ends bytes payload at next = stood bytes payload at next s in
    let word : number_at taken 0 ≡ number_at bytes at = ap (λ x. from_be_bytes w32 (take 4 x)) t.is
    ∙ ap (from_be_bytes w32) (take-take 4 (length taken) (drop at bytes) (omega (arith, t.sized.size.0))) in
    let long : length taken ≡ length payload + 8 = sym t.sized.word ∙ word ∙ e.head in
    let behind : drop at bytes ≡ frame payload ++ s.rest = ap (drop at) s.is ∙ drop_at s.front (frame payload ++ s.rest) at s.begins in
    let is : taken ≡ frame payload = t.is ∙ ap (take (length taken)) behind ∙ take_at (frame payload) s.rest (length taken) (size payload (length taken) long) in
    record {
      fits = s.fits;
      front = [];
      rest = [];
      is = is ∙ sym (nil (frame payload));
      begins = refl;
      ends = omega (arith, long);
    }
  where
    size : (payload : List ℕ) (n : ℕ) → n ≡ length payload + 8 → length (frame payload) ≡ n
    size payload n h = length-frame payload ∙ sym h

    nil : (l : List ℕ) → l ++ [] ≡ l
    nil l = append-nil l

pub item_there : (bytes taken : List ℕ) (at next : ℕ) (x : Item) → WasTaken bytes at taken → next ≡ at + length taken → ItemStands taken 0 (length taken) x → ItemStands bytes at next x
item_there bytes taken at next x t is s = record {
  payload = s.payload;
  stands = subst (Stands bytes s.payload at) (sym is) (in_place bytes taken s.payload at t s.stands);
  reads = s.reads;
}

pub no_item_there : (bytes taken : List ℕ) (at : ℕ) → WasTaken bytes at taken → NoItemStands taken 0 → NoItemStands bytes at
no_item_there bytes taken at t none next x s = none (length taken) x (record { payload = s.payload; stands = out_of_place bytes taken s.payload at next t s.stands; reads = s.reads })

pub whole_not_torn : (bytes taken : List ℕ) (at : ℕ) → WasTaken bytes at taken → IsTorn (drop at bytes) → ⊥
whole_not_torn bytes taken at t (inl few) = omega (arith, length-drop at bytes, few, t.within, t.sized.size.0)
whole_not_torn bytes taken at t (inr torn) =
    let word : number_at taken 0 ≡ number_at bytes at = ap (λ x. from_be_bytes w32 (take 4 x)) t.is
    ∙ ap (from_be_bytes w32) (take-take 4 (length taken) (drop at bytes) (omega (arith, t.sized.size.0))) in
    omega (arith, length-drop at bytes, torn.2, word, t.sized.word, t.within)

-- ---- one record that was looked at

module _ (bytes : List ℕ) (at : ℕ) (result : Result Step FrameFault) (only : (payload : List ℕ) (next : ℕ) → Stands bytes payload at next → result ≡ Ok (Payload (at + 4) (at + 4 + length payload) next)) where
  no_step : ((from to next : ℕ) → result ≡ Ok (Payload from to next) → ⊥) → NoItemStands bytes at
  no_step none next x s = none (at + 4) (at + 4 + length s.payload) next (only s.payload next s.stands)

  pub not_read : (from to next : ℕ) → result ≡ Ok (Payload from to next) → ((x : Item) → IsItem (slice_range bytes from to) x → ⊥) → NoItemStands bytes at
  not_read from to next is none other x s =
      let e : Ends bytes s.payload at other = stood bytes s.payload at other s.stands in
      let same : Ok (Payload from to next) ≡ Ok (Payload (at + 4) (at + 4 + length s.payload) other) = sym is ∙ only s.payload other s.stands in
      let first : from ≡ at + 4 = cc in
      let last : to ≡ at + 4 + length s.payload = cc in
      let behind : at + 4 + length s.payload ≡ other - 4 = omega (arith, e.size) in
      none x (subst (λ p. IsItem p x) (sym (ap (λ n. slice_range bytes n to) first ∙ ap (slice_range bytes (at + 4)) (last ∙ behind) ∙ e.payload_is)) s.reads)

  pub no_end : (s : Step) → result ≡ Ok s → s ≡ End → NoItemStands bytes at
  no_end s is end = no_step (λ from to next h. let both : Ok End ≡ Ok (Payload from to next) = sym (is ∙ ap Ok end) ∙ h in cc)

  pub no_answer : (e : FrameFault) → result ≡ Err e → NoItemStands bytes at
  no_answer e is = no_step (λ from to next h. let both : Err e ≡ Ok (Payload from to next) = sym is ∙ h in cc)

-- a frame's item, of which the frame is all
pub item_in_frame : (frame : List ℕ) (from to next : ℕ) (x : Item) → IsSized frame → IsForward frame 0 (Payload from to next) → IsItem (slice_range frame from to) x → ItemStands frame 0 (length frame) x
item_in_frame frame from to next x sized found is =
    let e : Ends frame (slice_range frame from to) 0 next = stood frame (slice_range frame from to) 0 next found.0 in
    let whole : next ≡ length frame = omega (arith, e.size, e.head, sized.word) in
    record { payload = slice_range frame from to; stands = subst (Stands frame (slice_range frame from to) 0) whole found.0; reads = is }

-- the item in a frame over which a step went
module _ (frame : List ℕ) (result : Result Step FrameFault) (only : (payload : List ℕ) (next : ℕ) → Stands frame payload 0 next → result ≡ Ok (Payload (0 + 4) (0 + 4 + length payload) next)) where
  pub item_found : (from to next : ℕ) (answer : Option Item) → IsSized frame → result ≡ Ok (Payload from to next) → IsForward frame 0 (Payload from to next)
      → IsItemOf (slice_range frame from to) answer → IsItemIn frame answer
  item_found from to next None sized is found read = not_read frame 0 result only from to next is read
  item_found from to next (Some x) sized is found read = item_in_frame frame from to next x sized found read

-- the first bytes of a file
pub front_is : (bytes read : List ℕ) (count most : ℕ) → read ≡ [] ++ take count (drop 0 bytes) → (count ≡ most) ⊎ ((count ≡ length bytes) × (length bytes ≤ most)) → read ≡ take most bytes
front_is bytes read count most is (inl e) = is ∙ ap (λ n. take n bytes) e
front_is bytes read count most is (inr (e, few)) = is ∙ ap (λ n. take n bytes) e ∙ take_all (length bytes) bytes (omega arith) ∙ sym (take_all most bytes few)
