-- What stands in a piece of a volume stands in the volume.
use Rattle.std.proofs.Common.{◌≡◌, inl, inr, ⊎_elim, ℕ, ◌+◌, ◌-◌, ◌≤◌, List, [], ◌∷◌, ◌++◌, length, take, drop, fold, sym, ap, ◌∙◌, subst, append_assoc, arith}
use Rattle.std.specs.Int.{w32, from_be_bytes}
use Rattle.std.proofs.lemmas.Bool.{cases_lt}
use Rattle.std.proofs.lemmas.List.{length-append, length-drop, length-take, take-append-drop, take-take, drop-take, drop-drop, take_all}
use Rattle.std.proofs.Math.Seq.{take-add}
use Rattle.std.proofs.lemmas.List.Sums.{fold-append}
use Rattle.pcp_base.specs.Fields.{number_at}
use Rattle.pcp_base.specs.Time.{Moment}
use Rattle.pcp_base.specs.declared.result.Item.{Item}
use Rattle.pcp_model.specs.declared.records.MetaRecord.{MetaRecord}
use Rattle.pcp_model.specs.Frame.{frame, IsTorn}
use Rattle.archive_frame.specs.Steps.{Stands}
use Rattle.archive_frame.proofs.Records.{Ends, stood}
use Rattle.archive_loading.specs.Standing.{NoItemStands, IsSized, WasTaken}
use Rattle.archive_loading.proofs.Frames.{in_place, out_of_place}
use Rattle.archive_reader.specs.Searches.{between}
use Rattle.pcp_base.specs.declared.file.FileId.TheVariants.{Volume}
use Rattle.pcp_model.specs.Disk.{Files}
use Rattle.log_summary.specs.declared.job.Job.{Job}
use Rattle.log_summary.specs.declared.piece.Piece.{Piece}
use Rattle.log_summary.specs.Jobs.{IsPiece, IsReadOf}
use Rattle.log_summary.specs.Tables.{Rows, counted}
use Rattle.log_summary.specs.Pieces.{IsWalked}
use Rattle.log_summary.specs.Values.{values_of}
use Rattle.log_summary.specs.Volumes.{SoFar, StandUpTo}
use Rattle.log_summary.proofs.Walked.{both_between}

-- records behind records
stands_on : (bytes : List ℕ) (items others : List Item) (at mid end : ℕ) → StandUpTo bytes at items mid → StandUpTo bytes mid others end → StandUpTo bytes at (items ++ others) end
stands_on bytes [] others at mid end is more = subst (λ n. StandUpTo bytes n others end) is more
stands_on bytes (x ∷ items) others at mid end (next, s, rest) more = (next, s, stands_on bytes items others next mid end rest more)

-- a list that is cut off, from one of its items on
cut_on : (n at : ℕ) (xs : List ℕ) → at ≤ n → drop at (take n xs) ≡ take (n - at) (drop at xs)
cut_on n at xs le = ap (λ m. drop at (take m xs)) (let e : n ≡ at + (n - at) = omega (arith, le) in e) ∙ drop-take at (n - at) xs

own_length : (n : ℕ) (xs : List ℕ) → take n xs ≡ take (length (take n xs)) xs
own_length n xs =
    ⊎_elim (λ lt. ap (λ m. take m xs) (let e : n ≡ length (take n xs) = omega (arith, length-take n xs, lt) in e))
    (λ le. take_all n xs le ∙ sym (take_all (length (take n xs)) xs (omega (arith, length-take n xs, le)))) (cases_lt n (length xs))

-- a piece behind one that stands in the bytes
pub more_read : (bytes old new : List ℕ) (base count offset : ℕ) → old ≡ take (length old) (drop base bytes) → offset ≡ base + length old → new ≡ old ++ take count (drop offset bytes) → new ≡ take (length new) (drop base bytes)
more_read bytes old new base count offset was at is =
    let left : List ℕ = drop base bytes in
    let whole : new ≡ take (length old + count) left =
    is ∙ ap (λ l. l ++ take count (drop offset bytes)) was
    ∙ ap (λ l. take (length old) left ++ take count l) (ap (λ n. drop n bytes) at ∙ sym (drop-drop (length old) base bytes))
    ∙ sym (take-add (length old) count left) in
    whole ∙ own_length (length old + count) left ∙ ap (λ (l : List ℕ). take (length l) left) (sym whole)

-- a piece that follows what was read of a volume
pub piece_read : (files : Files) (j : Job) (p : Piece) (new : List ℕ) → IsReadOf files j → IsPiece files p → p.number ≡ j.number → p.at ≡ j.at + length j.bytes.items → new ≡ j.bytes.items ++ p.bytes.items
    → new ≡ take (length new) (drop j.at (files (Volume j.number)))
piece_read files j p new read stands number at is =
    more_read (files (Volume j.number)) j.bytes.items new j.at (length p.bytes.items) p.at read.is at
    (is ∙ ap (λ l. j.bytes.items ++ l) (stands ∙ ap (λ n. take (length p.bytes.items) (drop p.at (files (Volume n)))) number))

-- a piece stands in the bytes from an offset on
module _ (bytes piece : List ℕ) (base : ℕ) (is : piece ≡ take (length piece) (drop base bytes)) where
  -- it ends with them, unless it is empty
  short : length piece ≤ length bytes - base
  short = omega (arith, ap length is, length-take (length piece) (drop base bytes), length-drop base bytes)

  rest_is : (at : ℕ) → at ≤ length piece → drop at piece ≡ take (length piece - at) (drop (base + at) bytes)
  rest_is at within =
      ap (drop at) is ∙ cut_on (length piece) at (drop base bytes) within
      ∙ ap (take (length piece - at)) (drop-drop at base bytes)

  -- what is left of the piece is one from further on
  pub rest_read : (at : ℕ) (rest : List ℕ) → at ≤ length piece → rest ≡ drop at piece → rest ≡ take (length rest) (drop (base + at) bytes)
  rest_read at rest within same =
      let long : length piece - at ≡ length rest = omega (arith, ap length same, length-drop at piece) in
      same ∙ rest_is at within ∙ ap (λ n. take n (drop (base + at) bytes)) long

  -- a whole piece is all there is
  pub all_read : (at : ℕ) → at ≤ length piece → length bytes - base ≤ length piece → IsTorn (drop at piece) → IsTorn (drop (base + at) bytes)
  all_read at within all torn =
      subst IsTorn (rest_is at within ∙ take_all (length piece - at) (drop (base + at) bytes) (omega (arith, length-drop (base + at) bytes, all, within))) torn

  -- a frame in the piece
  stands_in : (payload : List ℕ) (at next : ℕ) → Stands piece payload at next → Stands bytes payload (base + at) (base + next)
  stands_in payload at next s =
      let e : Ends piece payload at next = stood piece payload at next s in
      let behind : List ℕ = drop (length piece) (drop base bytes) in
      let whole : drop base bytes ≡ piece ++ behind = sym (take-append-drop (length piece) (drop base bytes)) ∙ ap (λ p. p ++ behind) (sym is) in
      record {
        fits = s.fits;
        front = take base bytes ++ s.front;
        rest = s.rest ++ behind;
        is = sym (take-append-drop base bytes)
            ∙ ap (λ p. take base bytes ++ p) (whole ∙ ap (λ p. p ++ behind) s.is ∙ append_assoc s.front (frame payload ++ s.rest) behind ∙ ap (λ p. s.front ++ p) (append_assoc (frame payload) s.rest behind))
            ∙ sym (append_assoc (take base bytes) s.front (frame payload ++ (s.rest ++ behind)));
        begins = omega (arith, length-append (take base bytes) s.front, length-take base bytes, s.begins, short, e.within, e.size, e.sized.0);
        ends = omega (arith, s.ends);
      }

  pub items_in : (items : List Item) (at end : ℕ) → StandUpTo piece at items end → StandUpTo bytes (base + at) items (base + end)
  items_in [] at end same = ap (λ n. base + n) same
  items_in (x ∷ items) at end (next, s, more) = (base + next, record { payload = s.payload; stands = stands_in s.payload at next s.stands; reads = s.reads }, items_in items next end more)

  module _ (at : ℕ) (within : at ≤ length piece) (whole : IsTorn (drop at piece) → ⊥) where
    abbrev left : List ℕ
    left = drop (base + at) bytes

    four : 4 ≤ length (drop at piece)
    four = ⊎_elim (λ lt. absurd (whole (inl lt))) (λ le. le) (cases_lt (length (drop at piece)) 4)

    fewer : length (drop at piece) ≤ length left
    fewer = omega (arith, ap length (rest_is at within), length-take (length piece - at) left)

    same_word : from_be_bytes w32 (take 4 (drop at piece)) ≡ number_at bytes (base + at)
    same_word = ap (from_be_bytes w32) (ap (take 4) (rest_is at within) ∙ take-take 4 (length piece - at) left (omega (arith, four, length-drop at piece)))

    -- a record that is whole in the piece is whole
    pub whole_in : IsTorn left → ⊥
    whole_in (inl few) = omega (arith, few, four, fewer)
    whole_in (inr (least, most, few)) = whole (inr (omega (arith, same_word, least), omega (arith, same_word, most), omega (arith, same_word, few, fewer)))

    -- no item's record in the piece is none
    pub none_in : NoItemStands piece at → NoItemStands bytes (base + at)
    none_in none next x s =
        let e : Ends bytes s.payload (base + at) next = stood bytes s.payload (base + at) next s.stands in
        let size : ℕ = length s.payload + 8 in
        let says : from_be_bytes w32 (take 4 (drop at piece)) ≡ size = same_word ∙ e.head in
        let fits : size ≤ length (drop at piece) =
        ⊎_elim (λ lt. absurd (whole (inr (omega (arith, says, e.sized.0), omega (arith, says, e.sized.1), omega (arith, says, lt))))) (λ le. le) (cases_lt (length (drop at piece)) size) in
        let taken : List ℕ = take size (drop at piece) in
        let long : length taken ≡ size = omega (arith, length-take size (drop at piece), fits) in
        let head : number_at taken 0 ≡ size = ap (from_be_bytes w32) (take-take 4 size (drop at piece) (omega (arith, e.sized.0))) ∙ says in
        let there : taken ≡ take size left = ap (take size) (rest_is at within) ∙ take-take size (length piece - at) left (omega (arith, fits, length-drop at piece)) in
        let sized : IsSized taken = record { size = (omega (arith, long, e.sized.0), omega (arith, long, e.sized.1)); word = head ∙ sym long } in
        let in_bytes : WasTaken bytes (base + at) taken = record { sized = sized; within = omega (arith, long, e.within, e.size); is = there ∙ ap (λ n. take n left) (sym long) } in
        let in_piece : WasTaken piece at taken = record { sized = sized; within = omega (arith, long, fits, length-drop at piece, e.sized.0); is = ap (λ n. take n (drop at piece)) (sym long) } in
        none (at + length taken) x (record {
          payload = s.payload;
          stands = in_place piece taken s.payload at in_piece (out_of_place bytes taken s.payload (base + at) next in_bytes s.stands);
          reads = s.reads;
        })

  -- the items of the piece are counted behind those before it
  pub counted_in : (records : List MetaRecord) (from to : Moment) (old new : Rows) (at : ℕ) → SoFar bytes records from to base old → IsWalked piece records from to old new at → SoFar bytes records from to (base + at) new
  counted_in records from to old new at s w = record {
    items = s.items ++ w.items;
    stand = stands_on bytes s.items w.items 132 base (base + at) s.stand (subst (λ n. StandUpTo bytes n w.items (base + at)) (let e : base + 0 ≡ base = omega arith in e) (items_in w.items 0 at w.stand));
    is = w.is ∙ ap (λ (rows : Rows). fold counted rows (values_of records (between from to w.items))) s.is
        ∙ sym (fold-append counted [] (values_of records (between from to s.items)) (values_of records (between from to w.items)))
        ∙ ap (fold counted []) (sym (both_between records from to s.items w.items));
  }
