-- An entry that stands in bytes, and what its words say of it.
use Rattle.std.proofs.Common.{◌≡◌, ℕ, ◌+◌, ◌-◌, ◌<◌, ◌≤◌, Bool, true, false, cond, ltb, List, ◌++◌, length, get_or, take, drop, Option, Some, None, refl, sym, ap, ◌∙◌, subst, append_assoc, arith, inl, inr}
use Rattle.std.specs.Int.{w32, from_be_bytes, to_be_bytes}
use Rattle.std.proofs.lemmas.Bool.{cases_lt, ltb-false, le-ltb, ltb-true, lt-ltb}
use Rattle.std.proofs.lemmas.List.{take_at, drop_at, drop-drop, take-append-drop, length-take, length-drop, get_or-drop, get_or-take, get_or_past}
use Rattle.std.proofs.lemmas.Nat.{be_bytes_4, from_be_bytes-to_be_bytes_4}
use Rattle.pcp_base.specs.Fields.{be_field}
use Rattle.pcp_base.proofs.Bytes.{IsBytes, IsBytes-drop, IsBytes-take}
use Rattle.pcp_model.specs.Words.{word}
use Rattle.pcp_model.specs.declared.records.Entry.{Entry}
use Rattle.pcp_model.specs.Records.{entry, FitsEntry}
use Rattle.temporal_index.specs.Entries.{◌>>=◌, below, entry_at}

-- the value of a step that found one
bind_some : {A B : Type 0} (o : Option A) (f : A → Option B) (y : B) → (o >>= f) ≡ Some y → (x : A) × (o ≡ Some x) × (f x ≡ Some y)
bind_some (Some x) f y e = (x, refl, e)
bind_some None f y e = absurd cc

kept : (t : Bool) (m n : ℕ) → cond t (Some m) None ≡ Some n → (t ≡ true) × (m ≡ n)
kept true m n e = (refl, cc)
kept false m n e = absurd cc

below_some : (short : Bool) (bound m n : ℕ) → below bound (cond short None (Some m)) ≡ Some n → (short ≡ false) × (m ≡ n) × (m < bound)
below_some true bound m n e = absurd cc
below_some false bound m n e = let k = kept (ltb m bound) m n e in (refl, k.1, ltb-true m bound k.0)

below_again : (short : Bool) (bound m n : ℕ) → short ≡ false → m ≡ n → n < bound → below bound (cond short None (Some m)) ≡ Some n
below_again true bound m n s e h = absurd cc
below_again false bound m n s e h = ap (below bound) (ap Some e) ∙ ap (λ t. cond t (Some n) None) (lt-ltb n bound h)

-- A word below a bound stands from one byte up to another.
record Stands (bytes : List ℕ) (at n bound next : ℕ) : Type 0 where
  cut : drop at bytes ≡ word n ++ drop next bytes
  within : next ≤ length bytes
  small : n < bound

word_takes : (bytes : List ℕ) (at next bound n : ℕ) → IsBytes bytes → next ≡ at + 4 → below bound (be_field w32 at bytes) ≡ Some n → Stands bytes at n bound next
unfolding word
word_takes bytes at next bound n fits step e =
    let g = below_some (ltb (length bytes) (at + 4)) bound (from_be_bytes w32 (take 4 (drop at bytes))) n e in
    let long : at + 4 ≤ length bytes = ltb-false _ _ g.0 in
    let four : length (take 4 (drop at bytes)) ≡ 4 = omega (arith, length-take 4 (drop at bytes), length-drop at bytes) in
    let front : to_be_bytes w32 n ≡ take 4 (drop at bytes) = be_bytes_4 (take 4 (drop at bytes)) n four (IsBytes-take 4 (drop at bytes) (IsBytes-drop at bytes fits)) (sym g.1) in
    let behind : drop 4 (drop at bytes) ≡ drop next bytes = drop-drop 4 at bytes ∙ ap (λ k. drop k bytes) (sym step) in
    record {
      cut = sym (take-append-drop 4 (drop at bytes)) ∙ ap (λ t. t ++ drop 4 (drop at bytes)) (sym front) ∙ ap (λ t. to_be_bytes w32 n ++ t) behind;
      within = omega arith;
      small = subst (λ k. k < bound) g.1 g.2;
    }

-- what stands at a byte is found there
word_again : (bytes : List ℕ) (at bound n : ℕ) (rest : List ℕ) → n < bound → n < 4294967296 → drop at bytes ≡ word n ++ rest → below bound (be_field w32 at bytes) ≡ Some n
unfolding word
word_again bytes at bound n rest small lt e =
    let size : length (to_be_bytes w32 n ++ rest) ≡ length bytes - at = ap length (sym e) ∙ length-drop at bytes in
    let long : ltb (length bytes) (at + 4) ≡ false = le-ltb _ _ (omega (arith, size)) in
    let front : take 4 (drop at bytes) ≡ to_be_bytes w32 n = ap (take 4) e ∙ take_at (to_be_bytes w32 n) rest 4 refl in
    below_again (ltb (length bytes) (at + 4)) bound (from_be_bytes w32 (take 4 (drop at bytes))) n long (ap (from_be_bytes w32) front ∙ from_be_bytes-to_be_bytes_4 n lt) small

behind_word : (bytes : List ℕ) (at next n : ℕ) (rest : List ℕ) → next ≡ at + 4 → drop at bytes ≡ word n ++ rest → drop next bytes ≡ rest
unfolding word
behind_word bytes at next n rest step e =
    ap (λ k. drop k bytes) step ∙ sym (drop-drop 4 at bytes) ∙ ap (drop 4) e ∙ drop_at (to_be_bytes w32 n) rest 4 refl

-- the words of an entry, and what follows it
entry_words : (e : Entry) (rest : List ℕ) → entry e ++ rest ≡ word e.stamp.sec ++ (word e.stamp.usec ++ (word e.volume ++ (word e.meta ++ (word e.offset ++ rest))))
unfolding entry
entry_words e rest = simp append_assoc

-- five words, one behind another, and what follows them
five_words : (e : Entry) (front after_sec after_usec after_volume after_meta rest : List ℕ) → front ≡ word e.stamp.sec ++ after_sec → after_sec ≡ word e.stamp.usec ++ after_usec
    → after_usec ≡ word e.volume ++ after_volume → after_volume ≡ word e.meta ++ after_meta → after_meta ≡ word e.offset ++ rest → front ≡ entry e ++ rest
five_words e front after_sec after_usec after_volume after_meta rest sec usec volume meta offset =
    sec ∙ ap (λ x. word e.stamp.sec ++ x) (usec ∙ ap (λ x. word e.stamp.usec ++ x) (volume ∙ ap (λ x. word e.volume ++ x) (meta ∙ ap (λ x. word e.meta ++ x) offset))) ∙ sym (entry_words e rest)

-- the entry that is found stands there
pub record Taken (bytes : List ℕ) (at : ℕ) (e : Entry) : Type 0 where
  pub fits : FitsEntry e
  pub cut : drop at bytes ≡ entry e ++ drop (at + 20) bytes
  pub within : at + 20 ≤ length bytes

abbrev some : {A : Type 0} → A → Option A
some x = Some x

some_is : {A : Type 0} (x y : A) → some x ≡ some y → x ≡ y
some_is x y e = cc

abbrev made : (sec usec volume meta offset : ℕ) → Entry
made sec usec volume meta offset = record { stamp = record { sec = sec; usec = usec }; volume = volume; meta = meta; offset = offset }

taken : (bytes : List ℕ) (at sec usec volume meta offset : ℕ) (e : Entry) → Stands bytes at sec 2147483648 (at + 4) → Stands bytes (at + 4) usec 1000000 (at + 8) → Stands bytes (at + 8) volume 2147483648 (at + 12)
    → Stands bytes (at + 12) meta 2147483648 (at + 16) → Stands bytes (at + 16) offset 2147483648 (at + 20) → some (made sec usec volume meta offset) ≡ some e → Taken bytes at e
taken bytes at sec usec volume meta offset e p q r s t is =
    subst (Taken bytes at) (some_is (made sec usec volume meta offset) e is)
    (record {
      fits = record { moment = record { sec = p.small; usec = q.small }; volume = r.small; meta = s.small; offset = t.small };
      cut = five_words (made sec usec volume meta offset) (drop at bytes) (drop (at + 4) bytes) (drop (at + 8) bytes) (drop (at + 12) bytes) (drop (at + 16) bytes) (drop (at + 20) bytes) p.cut q.cut r.cut s.cut t.cut;
      within = t.within;
    })

pub entry_takes : (bytes : List ℕ) (at : ℕ) (e : Entry) → IsBytes bytes → entry_at bytes at ≡ Some e → Taken bytes at e
unfolding entry_at
entry_takes bytes at e fits is =
    let a = bind_some (below 2147483648 (be_field w32 at bytes))
    (λ sec. below 1000000 (be_field w32 (at + 4) bytes) >>= λ usec. below 2147483648 (be_field w32 (at + 8) bytes) >>= λ volume. below 2147483648 (be_field w32 (at + 12) bytes)
    >>= λ meta. below 2147483648 (be_field w32 (at + 16) bytes) >>= λ offset. Some (record { stamp = record { sec = sec; usec = usec }; volume = volume; meta = meta; offset = offset })) e is in
    let b = bind_some (below 1000000 (be_field w32 (at + 4) bytes))
    (λ usec. below 2147483648 (be_field w32 (at + 8) bytes) >>= λ volume. below 2147483648 (be_field w32 (at + 12) bytes)
    >>= λ meta. below 2147483648 (be_field w32 (at + 16) bytes) >>= λ offset. Some (record { stamp = record { sec = a.0; usec = usec }; volume = volume; meta = meta; offset = offset })) e a.2 in
    let c = bind_some (below 2147483648 (be_field w32 (at + 8) bytes))
    (λ volume. below 2147483648 (be_field w32 (at + 12) bytes)
    >>= λ meta. below 2147483648 (be_field w32 (at + 16) bytes) >>= λ offset. Some (record { stamp = record { sec = a.0; usec = b.0 }; volume = volume; meta = meta; offset = offset })) e b.2 in
    let d = bind_some (below 2147483648 (be_field w32 (at + 12) bytes))
    (λ meta. below 2147483648 (be_field w32 (at + 16) bytes) >>= λ offset. Some (record { stamp = record { sec = a.0; usec = b.0 }; volume = c.0; meta = meta; offset = offset })) e c.2 in
    let f = bind_some (below 2147483648 (be_field w32 (at + 16) bytes)) (λ offset. Some (record { stamp = record { sec = a.0; usec = b.0 }; volume = c.0; meta = d.0; offset = offset })) e d.2 in
    taken bytes at a.0 b.0 c.0 d.0 f.0 e
    (word_takes bytes at (at + 4) 2147483648 a.0 fits refl a.1)
    (word_takes bytes (at + 4) (at + 8) 1000000 b.0 fits (omega arith) b.1)
    (word_takes bytes (at + 8) (at + 12) 2147483648 c.0 fits (omega arith) c.1)
    (word_takes bytes (at + 12) (at + 16) 2147483648 d.0 fits (omega arith) d.1)
    (word_takes bytes (at + 16) (at + 20) 2147483648 f.0 fits (omega arith) f.1)
    f.2

-- the entry that stands there is found
pub entry_again : (bytes : List ℕ) (at : ℕ) (e : Entry) (rest : List ℕ) → FitsEntry e → drop at bytes ≡ entry e ++ rest → entry_at bytes at ≡ Some e
unfolding entry_at
entry_again bytes at e rest fits is =
    let sec : e.stamp.sec < 2147483648 = fits.moment.sec in
    let usec : e.stamp.usec < 1000000 = fits.moment.usec in
    let volume : e.volume < 2147483648 = fits.volume in
    let meta : e.meta < 2147483648 = fits.meta in
    let offset : e.offset < 2147483648 = fits.offset in
    let w1 : drop at bytes ≡ word e.stamp.sec ++ (word e.stamp.usec ++ (word e.volume ++ (word e.meta ++ (word e.offset ++ rest)))) = is ∙ entry_words e rest in
    let w2 : drop (at + 4) bytes ≡ word e.stamp.usec ++ (word e.volume ++ (word e.meta ++ (word e.offset ++ rest))) = behind_word bytes at (at + 4) e.stamp.sec _ refl w1 in
    let w3 : drop (at + 8) bytes ≡ word e.volume ++ (word e.meta ++ (word e.offset ++ rest)) = behind_word bytes (at + 4) (at + 8) e.stamp.usec _ (omega arith) w2 in
    let w4 : drop (at + 12) bytes ≡ word e.meta ++ (word e.offset ++ rest) = behind_word bytes (at + 8) (at + 12) e.volume _ (omega arith) w3 in
    let w5 : drop (at + 16) bytes ≡ word e.offset ++ rest = behind_word bytes (at + 12) (at + 16) e.meta _ (omega arith) w4 in
    let r1 : below 2147483648 (be_field w32 at bytes) ≡ Some e.stamp.sec = word_again bytes at 2147483648 e.stamp.sec _ sec (omega arith) w1 in
    let r2 : below 1000000 (be_field w32 (at + 4) bytes) ≡ Some e.stamp.usec = word_again bytes (at + 4) 1000000 e.stamp.usec _ usec (omega arith) w2 in
    let r3 : below 2147483648 (be_field w32 (at + 8) bytes) ≡ Some e.volume = word_again bytes (at + 8) 2147483648 e.volume _ volume (omega arith) w3 in
    let r4 : below 2147483648 (be_field w32 (at + 12) bytes) ≡ Some e.meta = word_again bytes (at + 12) 2147483648 e.meta _ meta (omega arith) w4 in
    let r5 : below 2147483648 (be_field w32 (at + 16) bytes) ≡ Some e.offset = word_again bytes (at + 16) 2147483648 e.offset rest offset (omega arith) w5 in
    rw (r1, r2, r3, r4, r5) refl
