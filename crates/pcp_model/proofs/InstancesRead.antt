-- The instances that are read of a domain's record are those that stand in it.
use Rattle.std.proofs.Common.{zero, suc, ◌≡◌, ℕ, ℤ, ◌+◌, ◌*◌, ◌<◌, Bool, true, false, ltb, ◌||◌, List, [], ◌∷◌, ◌++◌, length, drop, Some, inl, inr, refl, sym, ap, ◌∙◌, subst, append_assoc, arith}
use Rattle.std.specs.Prelude.{All, FitsSigned}
use Rattle.std.specs.Int.{w32, cast_signed, cast_unsigned}
use Rattle.std.specs.List.{AllByRecursion}
use Rattle.std.proofs.lemmas.Bool.{ltb-false, cases_lt}
use Rattle.std.proofs.lemmas.List.{drop_at, drop-drop, length-append, get_or_past}
use Rattle.pcp_base.proofs.Bytes.{IsBytes, IsBytes-drop}
use Rattle.pcp_base.specs.Fields.{be_field}
use Rattle.pcp_model.specs.Words.{word, signed_word, length-word, length-signed_word}
use Rattle.pcp_model.specs.Records.{instance_words, word_bytes, NameStands, NamesStand}
use Rattle.pcp_model.specs.Instances.{◌>>=◌, name_at, pair_at, pairs_from, instances_in}
use Rattle.pcp_model.specs.Laws.{InstancesStand}
use Rattle.pcp_model.proofs.ZeroBytes.{bind_some, some_is, past, name_stands, name_again, offset_within}
use Rattle.pcp_model.proofs.Fields.{WordStands, field_takes, field_again, behind_word, signed_is, signed_fits, unsigned_fits, signed_back, word_of_signed}
use Rattle.pcp_model.proofs.Listed.{in_room}
use Rattle.pcp_model.proofs.OneRecord.{as_many_offsets, as_many_numbers}

neither : (a b : Bool) → (a || b) ≡ false → (a ≡ false) × (b ≡ false)
neither true b e = absurd cc
neither false b e = (refl, e)

pub record PairRead (numbers offsets table : List ℕ) (p : ℤ × List ℕ) : Type 0 where
  pub offset : ℕ
  pub number : numbers ≡ signed_word p.0 ++ drop 4 numbers
  pub offset_is : offsets ≡ word offset ++ drop 4 offsets
  pub fits : FitsSigned w32 p.0
  pub stands : NameStands table offset p.1

pair_takes : (numbers offsets table : List ℕ) (p : ℤ × List ℕ) → IsBytes numbers → IsBytes offsets → pair_at numbers offsets table ≡ Some p → PairRead numbers offsets table p
unfolding pair_at
pair_takes numbers offsets table p small low x =
    let a = bind_some (be_field w32 0 numbers) (λ n. be_field w32 0 offsets >>= λ o. name_at table o >>= λ t. Some (cast_signed w32 n, t)) p x in
    let b = bind_some (be_field w32 0 offsets) (λ o. name_at table o >>= λ t. Some (cast_signed w32 a.0, t)) p a.2 in
    let c = bind_some (name_at table b.0) (λ t. Some (cast_signed w32 a.0, t)) p b.2 in
    let n : WordStands numbers 0 4 a.0 = field_takes numbers 0 4 a.0 small refl a.1 in
    let o : WordStands offsets 0 4 b.0 = field_takes offsets 0 4 b.0 low refl b.1 in
    subst (PairRead numbers offsets table) (some_is (cast_signed w32 a.0, c.0) p c.2)
    (record {
      offset = b.0;
      number = n.is ∙ ap (λ t. t ++ drop 4 numbers) (sym (signed_is a.0 n.fits));
      offset_is = o.is;
      fits = signed_fits a.0 n.fits;
      stands = name_stands table c.0 b.0 c.1;
    })

pub record PairsRead (numbers offsets table : List ℕ) (n : ℕ) (pairs : List (ℤ × List ℕ)) : Type 0 where
  pub starts : List ℕ
  pub more_numbers : List ℕ
  pub more_offsets : List ℕ
  pub numbers_are : numbers ≡ instance_words pairs ++ more_numbers
  pub offsets_are : offsets ≡ word_bytes starts ++ more_offsets
  pub count : length pairs ≡ n
  pub numbers_long : length (instance_words pairs) ≡ 4 * n
  pub offsets_long : length (word_bytes starts) ≡ 4 * n
  pub fit : AllByRecursion (λ (p : ℤ × List ℕ). FitsSigned w32 p.0) pairs
  pub stand : NamesStand table starts pairs

pairs_takes : (table : List ℕ) (n : ℕ) (numbers offsets : List ℕ) (pairs : List (ℤ × List ℕ)) → IsBytes numbers → IsBytes offsets → pairs_from table n numbers offsets ≡ Some pairs → PairsRead numbers offsets table n pairs
unfolding pairs_from
pairs_takes table zero numbers offsets pairs small low x =
    subst (PairsRead numbers offsets table 0) (some_is [] pairs x)
    (record {
      starts = [];
      more_numbers = numbers;
      more_offsets = offsets;
      numbers_are = refl;
      offsets_are = refl;
      count = refl;
      numbers_long = refl;
      offsets_long = refl;
      fit = tt;
      stand = tt;
    })
pairs_takes table (suc n) numbers offsets pairs small low x =
    let a = bind_some (pair_at numbers offsets table) (λ p. pairs_from table n (drop 4 numbers) (drop 4 offsets) >>= λ ps. Some (p ∷ ps)) pairs x in
    let b = bind_some (pairs_from table n (drop 4 numbers) (drop 4 offsets)) (λ ps. Some (a.0 ∷ ps)) pairs a.2 in
    let one : PairRead numbers offsets table a.0 = pair_takes numbers offsets table a.0 small low a.1 in
    let more : PairsRead (drop 4 numbers) (drop 4 offsets) table n b.0 = pairs_takes table n (drop 4 numbers) (drop 4 offsets) b.0 (IsBytes-drop 4 numbers small) (IsBytes-drop 4 offsets low) b.1 in
    subst (PairsRead numbers offsets table (suc n)) (some_is (a.0 ∷ b.0) pairs b.2)
    (record {
      starts = one.offset ∷ more.starts;
      more_numbers = more.more_numbers;
      more_offsets = more.more_offsets;
      numbers_are = one.number ∙ ap (λ t. signed_word a.0.0 ++ t) more.numbers_are ∙ sym (append_assoc (signed_word a.0.0) (instance_words b.0) more.more_numbers);
      offsets_are = one.offset_is ∙ ap (λ t. word one.offset ++ t) more.offsets_are ∙ sym (append_assoc (word one.offset) (word_bytes more.starts) more.more_offsets);
      count = ap suc more.count;
      numbers_long = length-append (signed_word a.0.0) (instance_words b.0) ∙ (let e : length (signed_word a.0.0) + length (instance_words b.0) ≡ 4 * suc n = omega (arith, length-signed_word a.0.0, more.numbers_long) in e);
      offsets_long = length-append (word one.offset) (word_bytes more.starts) ∙ (let e : length (word one.offset) + length (word_bytes more.starts) ≡ 4 * suc n = omega (arith, length-word one.offset, more.offsets_long) in e);
      fit = (one.fits, more.fit);
      stand = (one.stands, more.stand);
    })

pairs_again : (table : List ℕ) (starts : List ℕ) (numbers offsets more_numbers more_offsets : List ℕ) (pairs : List (ℤ × List ℕ)) → length table < 4294967296 → AllByRecursion (λ (p : ℤ × List ℕ). FitsSigned w32 p.0) pairs
    → NamesStand table starts pairs → numbers ≡ instance_words pairs ++ more_numbers → offsets ≡ word_bytes starts ++ more_offsets → pairs_from table (length pairs) numbers offsets ≡ Some pairs
unfolding pairs_from pair_at
pairs_again table [] numbers offsets mn mo [] few fit stand a b = refl
pairs_again table [] numbers offsets mn mo (p ∷ pairs) few fit stand a b = absurd (stand tt)
pairs_again table (start ∷ starts) numbers offsets mn mo [] few fit stand a b = absurd (stand tt)
pairs_again table (start ∷ starts) numbers offsets mn mo (p ∷ pairs) few fit stand a b =
    let i : ℕ = cast_unsigned w32 p.0 in
    let a0 : drop 0 numbers ≡ word i ++ (instance_words pairs ++ mn) = a ∙ append_assoc (signed_word p.0) (instance_words pairs) mn ∙ ap (λ t. t ++ (instance_words pairs ++ mn)) (word_of_signed p.0) in
    let b0 : drop 0 offsets ≡ word start ++ (word_bytes starts ++ mo) = b ∙ append_assoc (word start) (word_bytes starts) mo in
    let a4 : drop 4 numbers ≡ instance_words pairs ++ mn = behind_word numbers 0 4 i (instance_words pairs ++ mn) refl a0 in
    let b4 : drop 4 offsets ≡ word_bytes starts ++ mo = behind_word offsets 0 4 start (word_bytes starts ++ mo) refl b0 in
    let low : start < 4294967296 = omega (arith, offset_within table p.1 start stand.0) in
    let number : be_field w32 0 numbers ≡ Some i = field_again numbers 0 i (instance_words pairs ++ mn) (unsigned_fits p.0 fit.0) a0 in
    let offset : be_field w32 0 offsets ≡ Some start = field_again offsets 0 start (word_bytes starts ++ mo) low b0 in
    let more : pairs_from table (length pairs) (drop 4 numbers) (drop 4 offsets) ≡ Some pairs = pairs_again table starts (drop 4 numbers) (drop 4 offsets) mn mo pairs few fit.1 stand.1 a4 b4 in
    rw (number, offset, name_again table p.1 start stand.0, more) (ap (λ z. Some ((z, p.1) ∷ pairs)) (signed_back p.0 fit.0))

pub instances_take : (count : ℕ) (bytes : List ℕ) (pairs : List (ℤ × List ℕ)) → IsBytes bytes → instances_in count bytes ≡ Some pairs → InstancesStand count bytes pairs
unfolding instances_in
instances_take count bytes pairs fits x =
    let offsets : List ℕ = drop (4 * count) bytes in
    let table : List ℕ = drop (8 * count) bytes in
    let g = past (ltb 2147483647 count || ltb (length bytes) (8 * count)) (pairs_from table count bytes offsets) pairs x in
    let h = neither (ltb 2147483647 count) (ltb (length bytes) (8 * count)) g.0 in
    let r : PairsRead bytes offsets table count pairs = pairs_takes table count bytes offsets pairs fits (IsBytes-drop (4 * count) bytes fits) g.1 in
    let numbers_end : r.more_numbers ≡ offsets = sym (drop_at (instance_words pairs) r.more_numbers (4 * count) r.numbers_long) ∙ ap (drop (4 * count)) (sym r.numbers_are) in
    let offsets_end : r.more_offsets ≡ table =
    sym (drop_at (word_bytes r.starts) r.more_offsets (4 * count) r.offsets_long) ∙ ap (drop (4 * count)) (sym r.offsets_are) ∙ drop-drop (4 * count) (4 * count) bytes ∙ ap (λ n. drop n bytes) (let e : 4 * count + 4 * count ≡ 8 * count = omega arith in e) in
    record {
      count_is = r.count;
      few = omega (arith, ltb-false 2147483647 count h.0);
      numbers = r.fit;
      offsets = r.starts;
      table = table;
      names = r.stand;
      is = r.numbers_are ∙ ap (λ y. instance_words pairs ++ y) (numbers_end ∙ r.offsets_are ∙ ap (λ y. word_bytes r.starts ++ y) offsets_end);
    }

pub instances_again : (count : ℕ) (bytes : List ℕ) (pairs : List (ℤ × List ℕ)) → length bytes < 4294967296 → InstancesStand count bytes pairs → instances_in count bytes ≡ Some pairs
instances_again count bytes pairs few s =
    let numbers : List ℕ = instance_words pairs in
    let offsets : List ℕ = word_bytes s.offsets in
    let long : length numbers ≡ 4 * count = as_many_numbers pairs ∙ ap (λ n. 4 * n) s.count_is in
    let as_long : length offsets ≡ 4 * count = as_many_offsets s.table s.offsets pairs s.names ∙ ap (λ n. 4 * n) s.count_is in
    let size : length bytes ≡ 4 * count + (4 * count + length s.table) = ap length s.is ∙ length-append numbers (offsets ++ s.table) ∙ (let e : length numbers + length (offsets ++ s.table) ≡ 4 * count + (4 * count + length s.table) = omega (arith, length-append offsets s.table) in e) in
    let rest : drop (4 * count) bytes ≡ offsets ++ s.table = ap (drop (4 * count)) s.is ∙ drop_at numbers (offsets ++ s.table) (4 * count) long in
    let table : drop (8 * count) bytes ≡ s.table =
    ap (λ n. drop n bytes) (let e : 8 * count ≡ 4 * count + 4 * count = omega arith in e) ∙ sym (drop-drop (4 * count) (4 * count) bytes) ∙ ap (drop (4 * count)) rest ∙ drop_at offsets s.table (4 * count) as_long in
    in_room count bytes s.few (omega arith)
    ∙ ap (λ t. pairs_from t count bytes (drop (4 * count) bytes)) table ∙ ap (λ n. pairs_from s.table n bytes (drop (4 * count) bytes)) (sym s.count_is)
    ∙ pairs_again s.table s.offsets bytes (drop (4 * count) bytes) (offsets ++ s.table) s.table pairs (omega arith) s.numbers s.names s.is rest

pub are_bytes : (bytes : List ℕ) → All (λ b. b < 256) bytes → IsBytes bytes
are_bytes bytes all i =
    elim (cases_lt i (length bytes)) [
      | inl lt ↦ all i 0 lt
      | inr past ↦ subst (λ b. b < 256) (sym (get_or_past bytes i 0 past)) (omega arith)
    ]
