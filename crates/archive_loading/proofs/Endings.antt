-- A record that ends at an offset, and how many bytes were taken.
use Rattle.std.proofs.Common.{◌≡◌, inl, inr, ℕ, ◌+◌, ◌-◌, ◌<◌, ◌≤◌, List, ◌++◌, length, take, drop, Result, Ok, Err, refl, sym, ap, ◌∙◌, subst, arith}
use Rattle.std.specs.Int.{w32, from_be_bytes}
use Rattle.std.specs.List.{slice_range}
use Rattle.std.specs.Prelude.{Option, Some, None}
use Rattle.std.proofs.Math.Seq.{take-add}
use Rattle.std.proofs.lemmas.List.{drop_at, take-take, drop-drop, length-append, length-take, length-drop}
use Rattle.pcp_base.specs.Fields.{number_at}
use Rattle.pcp_base.specs.declared.file.FileId.{FileId}
use Rattle.pcp_base.specs.declared.file.FileId.TheVariants.{Meta, Index, Volume}
use Rattle.pcp_base.specs.declared.result.Item.{Item}
use Rattle.pcp_outside.specs.Devices.{Counts}
use Rattle.archive_frame.specs.declared.fault.FrameFault.{FrameFault}
use Rattle.archive_frame.specs.declared.steps.Step.{Step}
use Rattle.archive_frame.specs.declared.steps.Step.TheVariants.{End, Payload}
use Rattle.archive_frame.specs.Steps.{Stands, IsSize, IsBack}
use Rattle.archive_frame.proofs.Records.{Ends, stood}
use Rattle.archive_loading.specs.declared.backward.Last.{Last}
use Rattle.archive_loading.specs.declared.backward.Last.TheVariants.{Nothing, Bad, Item as AnItem}
use Rattle.archive_loading.specs.Ending.{NoFrameEnds, IsLastRecord, IsTailed, IsWholeRecord}
use Rattle.archive_loading.specs.Standing.{IsItemOf, WasTaken}
use Rattle.archive_loading.specs.Taking.{volume_bytes, Took, TookBack, TookBehind, TookBefore}
use Rattle.archive_loading.proofs.Frames.{word_there, in_place, out_of_place, item_there}

-- ---- how many bytes

pub counted : {T E : Type 0} (file : FileId) (n before after : ℕ) (result : Result T E) → Counts file n before after result → after ≤ before + volume_bytes file n
counted (Volume k) n before after (Ok x) c = omega (arith, c)
counted Meta n before after (Ok x) c = omega (arith, c)
counted Index n before after (Ok x) c = omega (arith, c)
counted file n before after (Err e) c = omega (arith, c)

pub bytes_up : (file : FileId) (m n : ℕ) → m ≤ n → volume_bytes file m ≤ volume_bytes file n
bytes_up (Volume k) m n le = le
bytes_up Meta m n le = omega arith
bytes_up Index m n le = omega arith

-- no more than so many
pub took_up : (file : FileId) (n most before after : ℕ) → n ≤ most → after ≤ before + volume_bytes file n → after ≤ before + volume_bytes file most
took_up file n most before after le took =
    let up : volume_bytes file n ≤ volume_bytes file most = bytes_up file n most le in
    omega (arith, up, took)

-- in two calls
pub took_both : (file : FileId) (m n before mid after : ℕ) → mid ≤ before + volume_bytes file m → after ≤ mid + volume_bytes file n → after ≤ before + volume_bytes file (m + n)
took_both (Volume k) m n before mid after one two = omega (arith, one, two)
took_both Meta m n before mid after one two = omega (arith, one, two)
took_both Index m n before mid after one two = omega (arith, one, two)

pub took_none : (bytes : List ℕ) (at before after : ℕ) → after ≡ before → Took bytes at before after
took_none bytes at before after same = record { count = 0; part = inl refl; most = omega (arith, same) }

pub took_back_none : (bytes : List ℕ) (at before after : ℕ) → after ≡ before → TookBack bytes at before after
took_back_none bytes at before after same = record { count = 0; part = inl refl; most = omega (arith, same) }

-- a length word
pub took_word : (bytes : List ℕ) (at before after : ℕ) → at + 4 ≤ length bytes → after ≤ before + 4 → Took bytes at before after
took_word bytes at before after fits most = record { count = 4; part = inr (fits, inl refl); most = most }

pub took_back_word : (bytes : List ℕ) (at before after : ℕ) → 144 ≤ at → after ≤ before + 4 → TookBack bytes at before after
took_back_word bytes at before after above most = record { count = 4; part = inr (omega (arith, above), inl refl); most = most }

pub word_alone : (bytes : List ℕ) (at before after : ℕ) → at + 4 ≤ length bytes → after ≤ before → TookBehind bytes at before after
word_alone bytes at before after fits most = record { count = 4; part = inr (fits, inl refl); most = omega (arith, most) }

pub last_alone : (bytes : List ℕ) (at before after : ℕ) → 144 ≤ at → after ≤ before → TookBefore bytes at before after
last_alone bytes at before after above most = record { count = 4; part = inr (omega (arith, above), inl refl); most = omega (arith, most) }

-- and the bytes that it says
pub word_and_rest : (bytes : List ℕ) (at size before after : ℕ) → IsSize size → number_at bytes at ≡ size → at + size ≤ length bytes → after ≤ before + (size - 4) → TookBehind bytes at before after
word_and_rest bytes at size before after sized says fits most = record { count = size; part = inr (fits, inr (sized, says)); most = omega (arith, most, sized.0) }

pub last_and_front : (bytes : List ℕ) (at size before after : ℕ) → IsSize size → number_at bytes (at - 4) ≡ size → 132 + size ≤ at → after ≤ before + (size - 4) → TookBefore bytes at before after
last_and_front bytes at size before after sized says fits most = record { count = size; part = inr (fits, inr (sized, says)); most = omega (arith, most, sized.0) }

pub took_all : (bytes : List ℕ) (at before mid after : ℕ) → mid ≤ before + 4 → TookBehind bytes at mid after → Took bytes at before after
took_all bytes at before mid after one t = record { count = t.count; part = t.part; most = omega (arith, one, t.most) }

pub took_back_all : (bytes : List ℕ) (at before mid after : ℕ) → mid ≤ before + 4 → TookBefore bytes at mid after → TookBack bytes at before after
took_back_all bytes at before mid after one t = record { count = t.count; part = t.part; most = omega (arith, one, t.most) }

-- ---- no record ends

pub none_low : (bytes : List ℕ) (at : ℕ) → at < 144 → NoFrameEnds bytes at
none_low bytes at low payload first behind s =
    let e : Ends bytes payload first at = stood bytes payload first at s in omega (arith, low, behind, e.size, e.sized.0)

module _ (bytes tail : List ℕ) (at : ℕ) (is : tail ≡ take 4 (drop (at - 4) bytes)) where
  pub said_there : number_at tail 0 ≡ number_at bytes (at - 4)
  said_there = word_there bytes tail (at - 4) is

  pub none_wrong : (IsSize (number_at tail 0) → ⊥) → NoFrameEnds bytes at
  none_wrong wrong payload first behind s =
      let e : Ends bytes payload first at = stood bytes payload first at s in
      let word : number_at tail 0 ≡ length payload + 8 = said_there ∙ e.tail in
      wrong (omega (arith, word, e.sized.0), omega (arith, word, e.sized.1))

  pub none_before : at - 132 < number_at tail 0 → NoFrameEnds bytes at
  none_before few payload first behind s =
      let e : Ends bytes payload first at = stood bytes payload first at s in
      let word : number_at tail 0 ≡ length payload + 8 = said_there ∙ e.tail in
      omega (arith, word, few, behind, e.size)

-- ---- a record's bytes in two parts, the last word behind the others

module _ (bytes tail frame : List ℕ) (at size : ℕ) (is : tail ≡ take 4 (drop (at - 4) bytes)) (four : length tail ≡ 4) (whole : frame ≡ take (size - 4) (drop (at - size) bytes) ++ tail)
    (sized : IsSize size) (above : 132 + size ≤ at) (within : at ≤ length bytes) (says : size ≡ number_at tail 0) where
  its_front : length (take (size - 4) (drop (at - size) bytes)) ≡ size - 4
  its_front = omega (arith, length-take (size - 4) (drop (at - size) bytes), length-drop (at - size) bytes, within, above)

  pub its_length : length frame ≡ size
  its_length = omega (arith, ap length whole, length-append (take (size - 4) (drop (at - size) bytes)) tail, its_front, four, sized.0)

  pub its_bytes : frame ≡ take size (drop (at - size) bytes)
  its_bytes =
      let behind : at - size + (size - 4) ≡ at - 4 = omega (arith, above, sized.0) in
      let split : size - 4 + 4 ≡ size = omega (arith, sized.0) in
      whole ∙ ap (λ t. take (size - 4) (drop (at - size) bytes) ++ t) (is ∙ ap (λ n. take 4 (drop n bytes)) (sym behind) ∙ ap (take 4) (sym (drop-drop (size - 4) (at - size) bytes)))
      ∙ sym (take-add (size - 4) 4 (drop (at - size) bytes)) ∙ ap (λ n. take n (drop (at - size) bytes)) split

  pub is_tailed : IsTailed frame
  is_tailed =
      let here : length frame - 4 ≡ size - 4 = omega (arith, its_length) in
      ap (λ n. number_at frame n) here ∙ ap (λ t. number_at t (size - 4)) whole
      ∙ ap (λ t. from_be_bytes w32 (take 4 t)) (drop_at (take (size - 4) (drop (at - size) bytes)) tail (size - 4) its_front) ∙ sym says ∙ sym its_length

  its_head : number_at frame 0 ≡ number_at bytes (at - size)
  its_head = ap (λ x. from_be_bytes w32 (take 4 x)) its_bytes ∙ ap (from_be_bytes w32) (take-take 4 size (drop (at - size) bytes) (omega (arith, sized.0)))

  taken_by : number_at frame 0 ≡ size → WasTaken bytes (at - size) frame
  taken_by head = record {
    sized = record { size = (omega (arith, its_length, sized.0), omega (arith, its_length, sized.1)); word = head ∙ sym its_length };
    within = omega (arith, its_length, above, within);
    is = its_bytes ∙ ap (λ n. take n (drop (at - size) bytes)) (sym its_length);
  }

  taken_of : (payload : List ℕ) → Stands frame payload 0 (length frame) → WasTaken bytes (at - size) frame
  taken_of payload s =
      let e : Ends frame payload 0 (length frame) = stood frame payload 0 (length frame) s in
      taken_by (let head : number_at frame 0 ≡ size = omega (arith, e.head, e.size, its_length) in head)

  its_end : at - size + length frame ≡ at
  its_end = omega (arith, its_length, above)

  pub last_there : (last : Last) → IsWholeRecord frame (at - size) last → IsLastRecord bytes at last
  last_there Nothing none = λ payload first behind s.
      let e : Ends bytes payload first at = stood bytes payload first at s in
      let long : length payload + 8 ≡ size = sym e.tail ∙ sym (word_there bytes tail (at - 4) is) ∙ sym says in
      let here : first ≡ at - size = omega (arith, e.size, long) in
      let there : Stands bytes payload (at - size) at = subst (λ n. Stands bytes payload n at) here s in
      let head : number_at frame 0 ≡ size = its_head ∙ (stood bytes payload (at - size) at there).head ∙ long in
      none payload (out_of_place bytes frame payload (at - size) at (taken_by head) there)
  last_there (Bad offset) (same, payload, s, none) = record {
    behind = omega (arith, same, above);
    payload = payload;
    stands = subst (λ n. Stands bytes payload n at) (sym same) (subst (Stands bytes payload (at - size)) its_end (in_place bytes frame payload (at - size) (taken_of payload s) s));
    none = none;
  }
  last_there (AnItem x) s = record {
    first = at - size;
    behind = omega (arith, above);
    stands = item_there bytes frame (at - size) at x (taken_of s.payload s.stands) (sym its_end) s;
  }

-- ---- the record that whole bytes are

module _ (frame : List ℕ) (result : Result Step FrameFault) (only : (payload : List ℕ) (next : ℕ) → Stands frame payload next (length frame) → result ≡ Ok (Payload (next + 4) (next + 4 + length payload) next)) where
  pub ends_nothing : (e : FrameFault) → result ≡ Err e → (payload : List ℕ) → Stands frame payload 0 (length frame) → ⊥
  ends_nothing e is payload s = let both : Err e ≡ Ok (Payload (0 + 4) (0 + 4 + length payload) 0) = sym is ∙ only payload 0 s in cc

  pub ends_at_first : (s : Step) → result ≡ Ok s → s ≡ End → (payload : List ℕ) → Stands frame payload 0 (length frame) → ⊥
  ends_at_first s is end payload stands = let both : Ok End ≡ Ok (Payload (0 + 4) (0 + 4 + length payload) 0) = sym (is ∙ ap Ok end) ∙ only payload 0 stands in cc

pub its_record : (frame : List ℕ) (from to next : ℕ) → IsTailed frame → IsBack frame (length frame) (Payload from to next) → Stands frame (slice_range frame from to) 0 (length frame)
its_record frame from to next tailed found =
    let e : Ends frame (slice_range frame from to) next (length frame) = stood frame (slice_range frame from to) next (length frame) found.0 in
    subst (λ n. Stands frame (slice_range frame from to) n (length frame)) (let none : next ≡ 0 = omega (arith, e.size, e.tail, tailed) in none) found.0

pub read_of : (frame : List ℕ) (first from to next : ℕ) (answer : Option Item) → IsTailed frame → IsBack frame (length frame) (Payload from to next) → IsItemOf (slice_range frame from to) answer
    → (answer ≡ None → IsWholeRecord frame first (Bad first)) × ((x : Item) → answer ≡ Some x → IsWholeRecord frame first (AnItem x))
read_of frame first from to next answer tailed found read = (
  λ none. (refl, slice_range frame from to, its_record frame from to next tailed found, subst (IsItemOf (slice_range frame from to)) none read),
  λ x some. record { payload = slice_range frame from to; stands = its_record frame from to next tailed found; reads = subst (IsItemOf (slice_range frame from to)) some read },
)
