-- The words with which an item's record begins.
use Rattle.std.proofs.Common.{◌≡◌, ◌⊎◌, inl, inr, ⊎_elim, ℕ, ◌+◌, ◌-◌, ◌<◌, ◌≤◌, List, [], ◌∷◌, ◌++◌, length, take, drop, refl, sym, ap, ◌∙◌, subst, append_assoc, arith, length-append, None, Some}
use Rattle.std.specs.Int.{w32, from_be_bytes}
use Rattle.std.proofs.lemmas.List.{take_at, drop_at, take-take, take-append-drop, append-nil, length-drop}
use Rattle.pcp_base.specs.Fields.{number_at}
use Rattle.pcp_base.specs.Time.{Moment, IsMoment}
use Rattle.pcp_base.specs.declared.file.FileId.TheVariants.{Volume}
use Rattle.pcp_base.specs.declared.result.Item.{Item}
use Rattle.pcp_base.specs.declared.result.Item.TheVariants.{Sample, Mark}
use Rattle.pcp_model.specs.Archive.{AreRead}
use Rattle.pcp_model.specs.Frame.{frame, frames, IsTorn}
use Rattle.pcp_model.specs.Payload.{stamp_of, set_words, head_length, IsPayload, IsItem}
use Rattle.pcp_model.specs.Words.{word, length-word}
use Rattle.pcp_model.proofs.Cuts.{number_of_word}
use Rattle.pcp_model.proofs.Lengths.{length-frame}
use Rattle.archive_loading.specs.Standing.{ItemStands}
use Rattle.archive_check.specs.Stamped.{Stamps, IsAt, IsHead}
use Rattle.archive_check.proofs.Places.{stands_next, behind_frame, volume_item}

-- ---- words

word_in : (front rest : List ℕ) (n at : ℕ) → n < 4294967296 → length front ≡ at → number_at (front ++ (word n ++ rest)) at ≡ n
word_in front rest n at fits here =
    ap (λ t. from_be_bytes w32 (take 4 t)) (drop_at front (word n ++ rest) at here) ∙ ap (from_be_bytes w32) (take_at (word n) rest 4 (length-word n)) ∙ number_of_word n fits

-- the first three words of bytes
record AreWords (head : List ℕ) (a b c : ℕ) : Type 0 where
  first : number_at head 0 ≡ a
  second : number_at head 4 ≡ b
  third : number_at head 8 ≡ c

three_words : (a b c : ℕ) (rest head : List ℕ) → a < 4294967296 → b < 4294967296 → c < 4294967296 → head ≡ take 12 (word a ++ (word b ++ (word c ++ rest))) → AreWords head a b c
three_words a b c rest head few low small is =
    let flat : word a ++ (word b ++ (word c ++ rest)) ≡ (word a ++ (word b ++ word c)) ++ rest =
    ap (λ t. word a ++ t) (sym (append_assoc (word b) (word c) rest)) ∙ sym (append_assoc (word a) (word b ++ word c) rest) in
    let long : length (word a ++ (word b ++ word c)) ≡ 12 = omega (arith, length-append (word a) (word b ++ word c), length-append (word b) (word c), length-word a, length-word b, length-word c) in
    let one : head ≡ word a ++ (word b ++ (word c ++ [])) =
    is ∙ ap (take 12) flat ∙ take_at (word a ++ (word b ++ word c)) rest 12 long ∙ ap (λ t. word a ++ (word b ++ t)) (sym (append-nil (word c))) in
    let two : head ≡ (word a ++ word b) ++ (word c ++ []) = one ∙ sym (append_assoc (word a) (word b) (word c ++ [])) in
    record {
      first = ap (λ t. number_at t 0) one ∙ word_in [] (word b ++ (word c ++ [])) a 0 few refl;
      second = ap (λ t. number_at t 4) one ∙ word_in (word a) (word c ++ []) b 4 low (length-word a);
      third = ap (λ t. number_at t 8) two ∙ word_in (word a ++ word b) [] c 8 small (omega (arith, length-append (word a) (word b), length-word a, length-word b));
    }

-- ---- an item's

-- a payload begins with a stamp
record BeginsStamped (payload : List ℕ) (t : Moment) : Type 0 where
  moment : IsMoment t
  rest : List ℕ
  is : payload ≡ word t.sec ++ (word t.usec ++ rest)

begins_stamped : (payload : List ℕ) (x : Item) → IsItem payload x → BeginsStamped payload (stamp_of x)
begins_stamped payload (Sample r) item =
    let p : IsPayload payload r = item.1 in
    let sets : List ℕ = word (length r.sets) ++ set_words p.offsets r.sets in
    let behind : List ℕ = drop (head_length r) payload in
    record {
      moment = p.range.moment;
      rest = sets ++ behind;
      is = sym (take-append-drop (head_length r) payload) ∙ ap (λ t. t ++ behind) p.head ∙ append_assoc (word r.stamp.sec) (word r.stamp.usec ++ sets) behind
          ∙ ap (λ t. word r.stamp.sec ++ t) (append_assoc (word r.stamp.usec) sets behind);
    }
begins_stamped payload (Mark t) item = record { moment = item.0; rest = word 0; is = item.1 }

framed : (payload : List ℕ) → frame payload ≡ word (length payload + 8) ++ (payload ++ word (length payload + 8))
unfolding frame
framed payload = refl

-- what the words say of an item that stands there
item_words : (bytes head : List ℕ) (at next : ℕ) (x : Item) → (s : ItemStands bytes at next x) → head ≡ take 12 (drop at bytes) → AreWords head (length s.payload + 8) (stamp_of x).sec (stamp_of x).usec
item_words bytes head at next x s is =
    let n : ℕ = length s.payload + 8 in
    let t : Moment = stamp_of x in
    let b : BeginsStamped s.payload t = begins_stamped s.payload x s.reads in
    let most : length s.payload ≤ 16777208 = s.stands.fits.most in
    let behind : List ℕ = b.rest ++ (word n ++ s.stands.rest) in
    let here : drop at bytes ≡ word n ++ (word t.sec ++ (word t.usec ++ behind)) =
    (behind_frame bytes s.payload at next s.stands).0 ∙ ap (λ f. f ++ s.stands.rest) (framed s.payload) ∙ append_assoc (word n) (s.payload ++ word n) s.stands.rest
    ∙ ap (λ f. word n ++ f) (append_assoc s.payload (word n) s.stands.rest ∙ ap (λ f. f ++ (word n ++ s.stands.rest)) b.is
    ∙ append_assoc (word t.sec) (word t.usec ++ b.rest) (word n ++ s.stands.rest) ∙ ap (λ f. word t.sec ++ f) (append_assoc (word t.usec) b.rest (word n ++ s.stands.rest))) in
    three_words n t.sec t.usec behind head (omega (arith, most)) (omega (arith, b.moment.sec)) (omega (arith, b.moment.usec)) (is ∙ ap (take 12) here)

item_within : (bytes : List ℕ) (at next : ℕ) (x : Item) → (s : ItemStands bytes at next x) → (next ≡ at + (length s.payload + 8)) × (length s.payload + 8 ≤ length bytes - at) × (12 ≤ length bytes - at)
item_within bytes at next x s =
    let long : length bytes - at ≡ length (frame s.payload) + length s.stands.rest =
    sym (length-drop at bytes) ∙ ap length (behind_frame bytes s.payload at next s.stands).0 ∙ length-append (frame s.payload) s.stands.rest in
    let least : 4 ≤ length s.payload = s.stands.fits.least in
    (omega (arith, s.stands.ends), omega (arith, long, length-frame s.payload), omega (arith, long, length-frame s.payload, least))

-- ---- at a place of a volume

module _ (bytes : List ℕ) (records : List (List Moment)) (at : ℕ) (front : List (List Moment)) (number : ℕ) (p : IsAt (Volume number) bytes records at front) where
  -- the file's end begins there, or an item's record stands there
  either : (IsTorn (drop at bytes) × (records ≡ front)) ⊎ ((x : Item) × (next : ℕ) × ItemStands bytes at next x)
  either = go p.behind p.rest.payloads p.rest.read p.rest.stand p.are
    where
      go : (behind : List (List Moment)) (ps : List (List ℕ)) → AreRead (Stamps (Volume number)) ps behind → drop at bytes ≡ frames ps ++ p.rest.torn → records ≡ front ++ behind
          → (IsTorn (drop at bytes) × (records ≡ front)) ⊎ ((x : Item) × (next : ℕ) × ItemStands bytes at next x)
      go [] [] read is are = inl (subst IsTorn (sym is) p.rest.is_torn, are ∙ append-nil front)
      go [] (q ∷ ps) read is are = absurd (read tt)
      go (v ∷ behind) [] read is are = absurd (read tt)
      go (v ∷ behind) (q ∷ ps) read is are = inr (
        read.1.0,
        at + length q + 8,
        record {
          payload = q;
          stands = stands_next bytes at q (frames ps ++ p.rest.torn) read.0 (is ∙ append_assoc (frame q) (frames ps) p.rest.torn);
          reads = read.1.1;
        },
      )

  -- fewer bytes than a record's first words are no record
  pub few_left : length bytes - at < 12 → records ≡ front
  few_left few = ⊎_elim (λ torn. torn.1) (λ (x, next, s). absurd (omega (arith, few, (item_within bytes at next x s).2))) either

  -- nor are those whose words say no stamp, or more than is left
  pub no_head : (head : List ℕ) (left : ℕ) → head ≡ take 12 (drop at bytes) → left ≡ length bytes - at → IsHead head left None → records ≡ front
  no_head head left is rest says = ⊎_elim (λ torn. torn.1) (λ (x, next, s). absurd (never x next s says)) either
    where
      never : (x : Item) (next : ℕ) → ItemStands bytes at next x → (number_at head 0 < 12) ⊎ (left < number_at head 0) ⊎ (2147483648 ≤ number_at head 4) ⊎ (1000000 ≤ number_at head 8) → ⊥
      never x next s said =
          let w : AreWords head (length s.payload + 8) (stamp_of x).sec (stamp_of x).usec = item_words bytes head at next x s is in
          let moment : IsMoment (stamp_of x) = (begins_stamped s.payload x s.reads).moment in
          elim said [
            | inl few ↦ omega (arith, few, w.first, s.stands.fits.least)
            | inr (inl more) ↦ omega (arith, more, rest, w.first, (item_within bytes at next x s).1)
            | inr (inr (inl late)) ↦ omega (arith, late, w.second, moment.sec)
            | inr (inr (inr long)) ↦ omega (arith, long, w.third, moment.usec)
          ]

  -- else they say the next record's stamp and length
  pub head_step : (head : List ℕ) (left : ℕ) (stamp : Moment) (size : ℕ) → head ≡ take 12 (drop at bytes) → left ≡ length bytes - at → 12 ≤ left → IsHead head left (Some (stamp, size)) → IsAt (Volume number) bytes records (at + size) (front ++ (stamp ∷ []) ∷ [])
  head_step head left stamp size is rest long says = ⊎_elim (λ end. absurd (whole end.0)) (λ (x, next, s). there x next s) either
    where
      there : (x : Item) (next : ℕ) → ItemStands bytes at next x → IsAt (Volume number) bytes records (at + size) (front ++ (stamp ∷ []) ∷ [])
      there x next s =
          let w : AreWords head (length s.payload + 8) (stamp_of x).sec (stamp_of x).usec = item_words bytes head at next x s is in
          let behind : next ≡ at + size = (item_within bytes at next x s).0 ∙ ap (λ n. at + n) (sym (says.1 ∙ w.first)) in
          let same : stamp_of x ≡ stamp = ap (λ n. record { sec = n; usec = (stamp_of x).usec }) (sym w.second) ∙ ap (λ n. record { sec = number_at head 4; usec = n }) (sym w.third) ∙ sym says.0 in
          subst (λ t. IsAt (Volume number) bytes records (at + size) (front ++ (t ∷ []) ∷ [])) same
          (subst (λ n. IsAt (Volume number) bytes records n (front ++ (stamp_of x ∷ []) ∷ [])) behind (volume_item bytes records at front number next x p s))

      word : number_at head 0 ≡ from_be_bytes w32 (take 4 (drop at bytes))
      word = ap (λ t. from_be_bytes w32 (take 4 t)) is ∙ ap (from_be_bytes w32) (take-take 4 12 (drop at bytes) (omega arith))

      whole : IsTorn (drop at bytes) → ⊥
      whole (inl few) = omega (arith, few, length-drop at bytes, rest, long)
      whole (inr torn) = omega (arith, torn.2, length-drop at bytes, rest, word, says.1, says.3)
