-- No payload of a result goes on behind the byte at which bytes stop being like one.
use Rattle.std.proofs.Common.{◌≡◌, ℕ, ℤ, ◌+◌, ◌*◌, ◌<◌, ◌≤◌, Bool, true, false, cond, ltb, leb, eqb, max, List, [], ◌∷◌, ◌++◌, length, take, drop, Result, Ok, Err, refl, sym, ap, ◌∙◌, subst, append_assoc, arith, inl, inr}
use Rattle.std.specs.Prelude.{◌⊎◌, min, ◌||◌, FitsSigned, ◌≤ℤ◌, pos}
use Rattle.std.specs.Int.{w32, cast_unsigned}
use Rattle.std.specs.List.{AllByRecursion}
use Rattle.std.proofs.lemmas.Bool.{le-ltb, ltb-false, eqb-true, eqb-false}
use Rattle.std.proofs.lemmas.List.{take-append-drop, length-append, length-take-le, get_or_append_left, get_or-take}
use Rattle.pcp_base.specs.Typed.{TypedBytes}
use Rattle.pcp_base.specs.Results.{HasContent}
use Rattle.pcp_base.specs.declared.result.Body.{Body}
use Rattle.pcp_base.specs.declared.result.Body.TheVariants as bodies
use Rattle.pcp_base.specs.declared.result.ValueSet.{ValueSet}
use Rattle.pcp_base.specs.declared.result.PmResult.{PmResult}
use Rattle.pcp_model.specs.Words.{word, signed_word, length-word, length-signed_word}
use Rattle.pcp_model.specs.Payload.{pair_blocks, blocks_in, blocks_of, value_pairs, offset_pairs, offset_byte, body_words, set_words, body_length, sets_length, head_length, result_head, BlocksStand, reach, BodyInRange, SetInRange, IsPayload}
use Rattle.result_form.proofs.Spans.{behind_text, behind_word, unsigned_fits, word_of_signed, status_word}
use Rattle.result_form.proofs.Again.{low_test, high_test}
use Rattle.archive_frame.specs.Misfits.{BeginsOne}
use Rattle.pdu_codec.specs.declared.misfit.Blocks.{Blocks}
use Rattle.pdu_codec.specs.declared.misfit.Sets.{Sets}
use Rattle.pdu_codec.specs.declared.types.PduType.TheVariants as types
use Rattle.pdu_codec.specs.Faults.{SomeBody}
use Rattle.pdu_codec.specs.ResultMisfit.{◌>>=◌, word_between, any_word, most_values, least_end, count_word, offsets_from, pairs_at, most_mode, values_at, set_at, sets_at, no_blocks, stop_behind, walk_of_sets, stop_of, result_misfit}
use Rattle.pdu_codec.proofs.ResultWords.{Fate, and_on, also, Agrees, WordAt, stands, word_goes, count_goes}
use Rattle.pdu_codec.proofs.ResultPast.{Past, either, pairs_past, values_past, sets_past}
use Rattle.pdu_codec.proofs.ResultHere.{Blocked, offsets_here}

three : (x y z rest : List ℕ) → (x ++ (y ++ z)) ++ rest ≡ x ++ (y ++ (z ++ rest))
three x y z rest = append_assoc x (y ++ z) rest ∙ ap (λ t. x ++ t) (append_assoc y z rest)

-- ---- how long the texts are

length-values : (pairs : List (ℤ × ℕ)) → length (value_pairs pairs) ≡ 8 * length pairs
length-values [] = refl
length-values (p ∷ pairs) = omega (arith, length-append (signed_word p.0) (word p.1 ++ value_pairs pairs), length-append (word p.1) (value_pairs pairs), length-word p.1, length-signed_word p.0, length-values pairs)

length-offsets : (t : List ℕ) (end : ℕ) (pairs : List (ℤ × TypedBytes)) (offsets : List ℕ) (more : List TypedBytes) → BlocksStand t end offsets (pair_blocks pairs ++ more) → length (offset_pairs offsets pairs) ≡ 8 * length pairs
length-offsets t end [] offsets more s = no_pairs offsets
  where
    no_pairs : (offsets : List ℕ) → length (offset_pairs offsets []) ≡ 0
    no_pairs [] = refl
    no_pairs (offset ∷ offsets) = refl
length-offsets t end (p ∷ pairs) [] more s = absurd (s tt)
length-offsets t end (p ∷ pairs) (offset ∷ offsets) more s =
    omega (arith, length-append (signed_word p.0) (word offset ++ offset_pairs offsets pairs), length-append (word offset) (offset_pairs offsets pairs), length-word offset, length-signed_word p.0, length-offsets t end pairs offsets more s.1)

stand_behind : (t : List ℕ) (end : ℕ) (pairs : List (ℤ × TypedBytes)) (offsets : List ℕ) (more : List TypedBytes) → BlocksStand t end offsets (pair_blocks pairs ++ more) → BlocksStand t end (drop (length (pair_blocks pairs)) offsets) more
stand_behind t end [] offsets more s = s
stand_behind t end (p ∷ pairs) [] more s = absurd (s tt)
stand_behind t end (p ∷ pairs) (offset ∷ offsets) more s = stand_behind t end pairs offsets more s.1

least_sets : (sets : List ValueSet) → 8 * length sets ≤ sets_length sets
least_sets [] = omega arith
least_sets (set ∷ sets) = let one : 4 ≤ body_length set.body = least_body set.body in let others : 8 * length sets ≤ sets_length sets = least_sets sets in omega arith
  where
    least_body : (body : Body) → 4 ≤ body_length body
    least_body (bodies.InPlace pairs) = omega arith
    least_body (bodies.Blocks pairs) = omega arith
    least_body (bodies.Status z) = omega arith

-- a set of blocks has one, so its end is one to which an offset leads
reached : (t : List ℕ) (end : ℕ) (pairs : List (ℤ × TypedBytes)) (offsets : List ℕ) (more : List TypedBytes) → 0 < length pairs → BlocksStand t end offsets (pair_blocks pairs ++ more) → end ≤ 17179869168
reached t end [] offsets more some s = absurd (omega arith)
reached t end (p ∷ pairs) [] more some s = absurd (s tt)
reached t end (p ∷ pairs) (offset ∷ offsets) more some s = let low : offset < 4294967296 = s.0.word_fits in let behind : end ≤ offset_byte offset = s.0.behind.1 in omega arith

-- ---- sets

-- Here the next set of the payload begins, and these sets are left, with these offsets.
record Within (bytes t : List ℕ) (n end : ℕ) (rest offsets : List ℕ) (sets : List ValueSet) (s : Sets) : Type 0 where
  cut : drop s.at t ≡ set_words offsets sets ++ rest
  ends : end ≡ s.at + sets_length sets
  few : length sets < 2147483648
  range : AllByRecursion SetInRange sets
  stand : BlocksStand t end offsets (blocks_of sets)
  blocked : Blocked bytes n end s.blocks offsets (blocks_of sets)

not_both : true ≡ false → ⊥
not_both e = absurd cc

mode_is : (e : ℕ) → e ≤ 17179869168 → most_mode e ≡ 1
mode_is e h = ap (λ b. cond b 0 1) (le-ltb 17179869168 e h)

few_values : (at others limit count end more n long : ℕ) → at + 4 < n → n ≤ long → long < 4294967296 → others < 2147483648 → count < 2147483648 → end ≡ at + 4 + (8 + 8 * count) + more → 8 * others ≤ more → (end ≤ limit) ⊎ (limit ≡ 68719476736) → count ≤ most_values at others limit
few_values at others limit count end more n long here within small o c ends least (inl h) = omega arith
few_values at others limit count end more n long here within small o c ends least (inr h) = omega arith

module _ (bytes t : List ℕ) (n : ℕ) (a : Agrees bytes t n) (small : length bytes < 4294967296) (end : ℕ) (rest : List ℕ) where
  abbrev On : List ℕ → List ValueSet → Sets → Type 0
  On offsets sets s = (Within bytes t n end rest offsets sets s) ⊎ (Past n s)

  past_on : (offsets : List ℕ) (sets : List ValueSet) (r : Result Sets ℕ) → Fate n (Past n) r → Fate n (On offsets sets) r
  past_on offsets sets r h = also n (Past n) (On offsets sets) r h (λ s p. inr p)

  status_on : (at : ℕ) (b : Blocks) (offsets : List ℕ) (sets : List ValueSet) (z : ℤ) → length sets < 2147483648 → AllByRecursion SetInRange sets → z ≤ℤ pos 0 → FitsSigned w32 z → BlocksStand t end offsets (blocks_of sets)
      → end ≡ at + 8 + sets_length sets → drop (at + 4) t ≡ signed_word z ++ (set_words offsets sets ++ rest) → Blocked bytes n end b offsets (blocks_of sets)
      → Fate n (On offsets sets) (count_word bytes at (length sets) b.limit >>= λ count. values_at bytes at (length sets) b count)
  unfolding values_at
  status_on at b offsets sets z few range low fits stand ends cut blocked =
      let w : ℕ = cast_unsigned w32 z in
      let tail : List ℕ = set_words offsets sets ++ rest in
      let cut1 : drop (at + 4) t ≡ word w ++ tail = cut ∙ ap (λ x. x ++ tail) (word_of_signed z) in
      let kind : (w ≡ 0) ⊎ (2147483648 ≤ w) = status_word z fits low in
      let first : WordAt t (at + 4) w = stands t tail (at + 4) w (unsigned_fits z fits) cut1 in
      and_on n (λ x. (x ≡ w) ⊎ (n ≤ at + 8)) (On offsets sets) (count_word bytes at (length sets) b.limit) _
      (count_goes bytes t n a at (length sets) b.limit w first (λ lt. elim kind [ inl e ↦ inl (omega (arith, e)) | inr e ↦ inr e ]))
      (λ x q. elim q [
        | inl e ↦ either n (On offsets sets) (eqb x 0 || leb 2147483648 x) _ _
            (λ f. inl (record { cut = behind_word t (at + 4) (at + 8) w tail (omega arith) cut1; ends = ends; few = few; range = range; stand = stand; blocked = blocked }))
            (λ f. absurd (not_both (sym (low_test x (elim kind [ inl k ↦ inl (e ∙ k) | inr k ↦ inr (omega (arith, e, k)) ])) ∙ f)))
        | inr e ↦ past_on offsets sets (values_at bytes at (length sets) b x) (values_past bytes n a.within at (length sets) b x e blocked.stop)
      ])

  place_on : (at : ℕ) (b : Blocks) (offsets : List ℕ) (sets : List ValueSet) (pairs : List (ℤ × ℕ)) (mode : ℕ) → mode ≡ 0 → length sets < 2147483648 → AllByRecursion SetInRange sets → BlocksStand t end offsets (blocks_of sets)
      → end ≡ at + 4 + (8 + 8 * length pairs) + sets_length sets → drop (at + 12) t ≡ value_pairs pairs ++ (set_words offsets sets ++ rest) → Blocked bytes n end b offsets (blocks_of sets)
      → Fate n (On offsets sets) (pairs_at bytes at (length sets) b (length pairs) mode)
  unfolding pairs_at
  place_on at b offsets sets pairs mode is few range stand ends cut blocked =
      let size : length (value_pairs pairs) ≡ 8 * length pairs = length-values pairs in
      either n (On offsets sets) (eqb mode 0) _ _
      (λ e. either n (On offsets sets) (ltb (length bytes) (at + 12 + 8 * length pairs)) _ _ (λ f. a.within)
      (λ f. inl (record { cut = behind_text t (at + 12) (at + 12 + 8 * length pairs) (value_pairs pairs) (set_words offsets sets ++ rest) (omega arith) cut; ends = omega arith; few = few; range = range; stand = stand; blocked = blocked })))
      (λ e. absurd (eqb-false mode 0 e is))

  values_on : (at : ℕ) (b : Blocks) (offsets : List ℕ) (sets : List ValueSet) (pairs : List (ℤ × ℕ)) → length sets < 2147483648 → AllByRecursion SetInRange sets → 0 < length pairs → length pairs < 2147483648 → BlocksStand t end offsets (blocks_of sets)
      → end ≡ at + 4 + (8 + 8 * length pairs) + sets_length sets → drop (at + 4) t ≡ word (length pairs) ++ (word 0 ++ (value_pairs pairs ++ (set_words offsets sets ++ rest))) → Blocked bytes n end b offsets (blocks_of sets)
      → Fate n (On offsets sets) (count_word bytes at (length sets) b.limit >>= λ count. values_at bytes at (length sets) b count)
  unfolding values_at
  values_on at b offsets sets pairs few range some low stand ends cut blocked =
      let w : ℕ = length pairs in
      let tail : List ℕ = value_pairs pairs ++ (set_words offsets sets ++ rest) in
      let cut2 : drop (at + 8) t ≡ word 0 ++ tail = behind_word t (at + 4) (at + 8) w (word 0 ++ tail) (omega arith) cut in
      let cut3 : drop (at + 12) t ≡ tail = behind_word t (at + 8) (at + 12) 0 tail (omega arith) cut2 in
      let first : WordAt t (at + 4) w = stands t (word 0 ++ tail) (at + 4) w (omega arith) cut in
      let second : WordAt t (at + 8) 0 = stands t tail (at + 8) 0 (omega arith) cut2 in
      and_on n (λ x. (x ≡ w) ⊎ (n ≤ at + 8)) (On offsets sets) (count_word bytes at (length sets) b.limit) _
      (count_goes bytes t n a at (length sets) b.limit w first (λ lt. inl (few_values at (length sets) b.limit w end (sets_length sets) n (length bytes) lt a.within small few low ends (least_sets sets) blocked.limit)))
      (λ x q. elim q [
        | inl e ↦ subst (λ v. Fate n (On offsets sets) (values_at bytes at (length sets) b v)) (sym e)
            (either n (On offsets sets) (eqb w 0 || leb 2147483648 w) _ _ (λ f. absurd (not_both (sym f ∙ high_test w some low)))
            (λ f. and_on n (λ m. (0 ≤ m) × ((m ≡ 0) ⊎ (n ≤ at + 8 + 4))) (On offsets sets) (word_between bytes (at + 8) 0 (most_mode (least_end at (length sets) w))) _
            (word_goes bytes t n a (at + 8) 0 (most_mode (least_end at (length sets) w)) 0 second (omega arith) (omega arith))
            (λ mode g. elim g.1 [
              | inl is ↦ place_on at b offsets sets pairs mode is few range stand ends cut3 blocked
              | inr is ↦ past_on offsets sets (pairs_at bytes at (length sets) b w mode) (pairs_past bytes n a.within at (length sets) b w mode (omega (arith, is)) blocked.stop)
            ])))
        | inr e ↦ past_on offsets sets (values_at bytes at (length sets) b x) (values_past bytes n a.within at (length sets) b x e blocked.stop)
      ])

  lead_on : (at : ℕ) (b : Blocks) (offsets : List ℕ) (sets : List ValueSet) (pairs : List (ℤ × TypedBytes)) (mode : ℕ) → mode ≡ 1 → length sets < 2147483648 → AllByRecursion SetInRange sets
      → AllByRecursion (λ p. FitsSigned w32 p.0 × (length p.1.bytes ≤ 16777211)) pairs → BlocksStand t end offsets (pair_blocks pairs ++ blocks_of sets)
      → end ≡ at + 4 + (8 + 8 * length pairs) + sets_length sets → drop (at + 12) t ≡ offset_pairs offsets pairs ++ (set_words (drop (length (pair_blocks pairs)) offsets) sets ++ rest) → Blocked bytes n end b offsets (pair_blocks pairs ++ blocks_of sets)
      → Fate n (On (drop (length (pair_blocks pairs)) offsets) sets) (pairs_at bytes at (length sets) b (length pairs) mode)
  unfolding pairs_at
  lead_on at b offsets sets pairs mode is few range fit stand ends cut blocked =
      let later : List ℕ = drop (length (pair_blocks pairs)) offsets in
      let tail : List ℕ = set_words later sets ++ rest in
      let size : length (offset_pairs offsets pairs) ≡ 8 * length pairs = length-offsets t end pairs offsets (blocks_of sets) stand in
      let least : 8 * length sets ≤ sets_length sets = least_sets sets in
      let last : ℕ = at + 12 + 8 * length pairs in
      either n (On later sets) (eqb mode 0) _ _
      (λ e. let zero_is : mode ≡ 0 = eqb-true mode 0 e in absurd (omega (arith, is)))
      (λ e. and_on n (λ (c : Blocks). (Blocked bytes n end c later (blocks_of sets)) ⊎ ((n ≤ last) × (n ≤ c.stop))) (On later sets) (offsets_from bytes (least_end at (length sets) (length pairs)) b (length pairs) (at + 12)) _
      (offsets_here bytes t n a end (least_end at (length sets) (length pairs)) last (at + 12) b pairs offsets (blocks_of sets) tail (omega arith) (omega arith) refl fit stand cut blocked)
      (λ c g. elim g [
        | inl on ↦ inl (record { cut = behind_text t (at + 12) last (offset_pairs offsets pairs) tail (omega arith) cut; ends = omega arith; few = few; range = range; stand = stand_behind t end pairs offsets (blocks_of sets) stand; blocked = on })
        | inr far ↦ inr (record { at = far.0; stop = far.1 })
      ]))

  blocks_on : (at : ℕ) (b : Blocks) (offsets : List ℕ) (sets : List ValueSet) (pairs : List (ℤ × TypedBytes)) → length sets < 2147483648 → AllByRecursion SetInRange sets → 0 < length pairs → length pairs < 2147483648
      → AllByRecursion (λ p. FitsSigned w32 p.0 × (length p.1.bytes ≤ 16777211)) pairs → BlocksStand t end offsets (pair_blocks pairs ++ blocks_of sets)
      → end ≡ at + 4 + (8 + 8 * length pairs) + sets_length sets → drop (at + 4) t ≡ word (length pairs) ++ (word 1 ++ (offset_pairs offsets pairs ++ (set_words (drop (length (pair_blocks pairs)) offsets) sets ++ rest))) → Blocked bytes n end b offsets (pair_blocks pairs ++ blocks_of sets)
      → Fate n (On (drop (length (pair_blocks pairs)) offsets) sets) (count_word bytes at (length sets) b.limit >>= λ count. values_at bytes at (length sets) b count)
  unfolding values_at
  blocks_on at b offsets sets pairs few range some low fit stand ends cut blocked =
      let w : ℕ = length pairs in
      let later : List ℕ = drop (length (pair_blocks pairs)) offsets in
      let tail : List ℕ = offset_pairs offsets pairs ++ (set_words later sets ++ rest) in
      let cut2 : drop (at + 8) t ≡ word 1 ++ tail = behind_word t (at + 4) (at + 8) w (word 1 ++ tail) (omega arith) cut in
      let cut3 : drop (at + 12) t ≡ tail = behind_word t (at + 8) (at + 12) 1 tail (omega arith) cut2 in
      let first : WordAt t (at + 4) w = stands t (word 1 ++ tail) (at + 4) w (omega arith) cut in
      let second : WordAt t (at + 8) 1 = stands t tail (at + 8) 1 (omega arith) cut2 in
      let least : 8 * length sets ≤ sets_length sets = least_sets sets in
      let near : end ≤ 17179869168 = reached t end pairs offsets (blocks_of sets) some stand in
      let one : most_mode (least_end at (length sets) w) ≡ 1 = mode_is (least_end at (length sets) w) (omega arith) in
      and_on n (λ x. (x ≡ w) ⊎ (n ≤ at + 8)) (On later sets) (count_word bytes at (length sets) b.limit) _
      (count_goes bytes t n a at (length sets) b.limit w first (λ lt. inl (few_values at (length sets) b.limit w end (sets_length sets) n (length bytes) lt a.within small few low ends least blocked.limit)))
      (λ x q. elim q [
        | inl e ↦ subst (λ v. Fate n (On later sets) (values_at bytes at (length sets) b v)) (sym e)
            (either n (On later sets) (eqb w 0 || leb 2147483648 w) _ _ (λ f. absurd (not_both (sym f ∙ high_test w some low)))
            (λ f. and_on n (λ m. (0 ≤ m) × ((m ≡ 1) ⊎ (n ≤ at + 8 + 4))) (On later sets) (word_between bytes (at + 8) 0 (most_mode (least_end at (length sets) w))) _
            (word_goes bytes t n a (at + 8) 0 (most_mode (least_end at (length sets) w)) 1 second (omega arith) (subst (λ m. 1 ≤ m) (sym one) (omega arith)))
            (λ mode g. elim g.1 [
              | inl is ↦ lead_on at b offsets sets pairs mode is few range fit stand ends cut3 blocked
              | inr is ↦ past_on later sets (pairs_at bytes at (length sets) b w mode) (pairs_past bytes n a.within at (length sets) b w mode (omega (arith, is)) blocked.stop)
            ])))
        | inr e ↦ past_on later sets (values_at bytes at (length sets) b x) (values_past bytes n a.within at (length sets) b x e blocked.stop)
      ])

  body_on : (at : ℕ) (b : Blocks) (offsets : List ℕ) (body : Body) (sets : List ValueSet) → length sets < 2147483648 → AllByRecursion SetInRange sets → HasContent body → BodyInRange body → BlocksStand t end offsets (blocks_in body ++ blocks_of sets)
      → end ≡ at + 4 + body_length body + sets_length sets → drop (at + 4) t ≡ body_words offsets body ++ (set_words (drop (length (blocks_in body)) offsets) sets ++ rest) → Blocked bytes n end b offsets (blocks_in body ++ blocks_of sets)
      → Fate n (On (drop (length (blocks_in body)) offsets) sets) (count_word bytes at (length sets) b.limit >>= λ count. values_at bytes at (length sets) b count)
  body_on at b offsets (bodies.Status z) sets few range some fits stand ends cut blocked = status_on at b offsets sets z few range some fits stand (omega arith) cut blocked
  body_on at b offsets (bodies.InPlace pairs) sets few range some fits stand ends cut blocked =
      values_on at b offsets sets pairs few range some fits.0 stand ends (cut ∙ three (word (length pairs)) (word 0) (value_pairs pairs) (set_words offsets sets ++ rest)) blocked
  body_on at b offsets (bodies.Blocks pairs) sets few range some fits stand ends cut blocked =
      blocks_on at b offsets sets pairs few range some fits.0 fits.1 stand ends (cut ∙ three (word (length pairs)) (word 1) (offset_pairs offsets pairs) (set_words (drop (length (pair_blocks pairs)) offsets) sets ++ rest)) blocked

  set_on : (offsets : List ℕ) (set : ValueSet) (sets : List ValueSet) (s : Sets) → Within bytes t n end rest offsets (set ∷ sets) s → Fate n (On (drop (length (blocks_in set.body)) offsets) sets) (set_at bytes (length sets) s)
  unfolding set_at
  set_on offsets set sets s w =
      let later : List ℕ = drop (length (blocks_in set.body)) offsets in
      let words : List ℕ = body_words offsets set.body in
      let tail : List ℕ = set_words later sets ++ rest in
      let cut1 : drop s.at t ≡ word set.pmid ++ (words ++ tail) = w.cut ∙ three (word set.pmid) words (set_words later sets) rest in
      let cut2 : drop (s.at + 4) t ≡ words ++ tail = behind_word t s.at (s.at + 4) set.pmid (words ++ tail) refl cut1 in
      let low : set.pmid < 4294967296 = w.range.0.0 in
      let count : length (set ∷ sets) < 2147483648 = w.few in
      let ends : end ≡ s.at + sets_length (set ∷ sets) = w.ends in
      let first : WordAt t s.at set.pmid = stands t (words ++ tail) s.at set.pmid low cut1 in
      and_on n (λ x. (0 ≤ x) × ((x ≡ set.pmid) ⊎ (n ≤ s.at + 4))) (On later sets) (any_word bytes s.at) _ (word_goes bytes t n a s.at 0 4294967295 set.pmid first (omega arith) (omega arith))
      (λ pmid q. body_on s.at s.blocks offsets set.body sets (omega arith) w.range.1 w.range.0.1 w.range.0.2 w.stand (omega arith) cut2 w.blocked)

  -- ---- behind all sets

  stop_cases : (b c : Bool) (stop long at reach : ℕ) → (b ≡ true → n ≤ stop) → n ≤ long → (b ≡ false → c ≡ false → n ≤ max at reach) → n ≤ cond b stop (cond c long (min long (max at reach)))
  stop_cases true c stop long at reach f g h = f refl
  stop_cases false true stop long at reach f g h = g
  stop_cases false false stop long at reach f g h = let far : n ≤ max at reach = h refl refl in omega arith

  past_stop : (s : Sets) → Past n s → n ≤ stop_behind bytes s
  past_stop s p = let here : n ≤ s.at = p.at in stop_cases (ltb s.blocks.stop (length bytes)) s.blocks.is_open s.blocks.stop (length bytes) s.at s.blocks.reach (λ e. p.stop) a.within (λ e f. omega arith)

  within_stop : (offsets : List ℕ) (s : Sets) → Within bytes t n end rest offsets [] s → n ≤ stop_behind bytes s
  within_stop (offset ∷ offsets) s w = absurd (w.stand tt)
  within_stop [] s w =
      let ends : end ≡ s.at + 0 = w.ends in
      stop_cases (ltb s.blocks.stop (length bytes)) s.blocks.is_open s.blocks.stop (length bytes) s.at s.blocks.reach (λ e. w.blocked.stop) a.within
      (λ e f. elim w.blocked.far [
        | inl open_is ↦ absurd (not_both (sym open_is ∙ f))
        | inr (inl less) ↦ let more : length bytes ≤ s.blocks.stop = ltb-false s.blocks.stop (length bytes) e in absurd (omega arith)
        | inr (inr far) ↦ let far_is : n ≤ max s.blocks.reach end = far in omega arith
      ])

  sets_on : (offsets : List ℕ) (sets : List ValueSet) (s : Sets) → On offsets sets s → Fate n (λ next. n ≤ stop_behind bytes next) (sets_at bytes (length sets) s)
  unfolding sets_at
  sets_on offsets sets s (inr p) = also n (Past n) (λ next. n ≤ stop_behind bytes next) (sets_at bytes (length sets) s) (sets_past bytes n a.within (length sets) s p) past_stop
  sets_on offsets [] s (inl w) = within_stop offsets s w
  sets_on offsets (set ∷ sets) s (inl w) =
      and_on n (On (drop (length (blocks_in set.body)) offsets) sets) (λ next. n ≤ stop_behind bytes next) (set_at bytes (length sets) s) _ (set_on offsets set sets s w) (λ next q. sets_on (drop (length (blocks_in set.body)) offsets) sets next q)

-- ---- the whole

stop_is : (bytes : List ℕ) (n : ℕ) (r : Result Sets ℕ) → Fate n (λ s. n ≤ stop_behind bytes s) r → n ≤ stop_of bytes r
stop_is bytes n (Ok s) h = h
stop_is bytes n (Err at) h = h

walked : (bytes t : List ℕ) (n : ℕ) (r : PmResult) → Agrees bytes t n → length bytes < 4294967296 → IsPayload t r → Fate n (λ s. n ≤ stop_behind bytes s) (walk_of_sets bytes)
unfolding walk_of_sets
walked bytes t n r a small p =
    let size : ℕ = head_length r in
    let words : List ℕ = set_words p.offsets r.sets in
    let rest : List ℕ = drop size t in
    let count : ℕ = length r.sets in
    let all : t ≡ result_head p.offsets r ++ rest = sym (take-append-drop size t) ∙ ap (λ x. x ++ rest) p.head in
    let cut : drop 0 t ≡ word r.stamp.sec ++ ((word r.stamp.usec ++ (word count ++ words)) ++ rest) = all ∙ append_assoc (word r.stamp.sec) (word r.stamp.usec ++ (word count ++ words)) rest in
    let cut2 : drop 4 t ≡ word r.stamp.usec ++ (word count ++ (words ++ rest)) = behind_word t 0 4 r.stamp.sec ((word r.stamp.usec ++ (word count ++ words)) ++ rest) refl cut ∙ three (word r.stamp.usec) (word count) words rest in
    let cut3 : drop 8 t ≡ word count ++ (words ++ rest) = behind_word t 4 8 r.stamp.usec (word count ++ (words ++ rest)) refl cut2 in
    let cut4 : drop 12 t ≡ words ++ rest = behind_word t 8 12 count (words ++ rest) refl cut3 in
    let few : count < 2147483648 = p.range.few in
    let sec : r.stamp.sec < 2147483648 = p.range.moment.sec in
    let usec : r.stamp.usec < 1000000 = p.range.moment.usec in
    let long : n ≤ length t = a.long in
    let whole : length t ≡ reach size p.offsets (blocks_of r.sets) = p.whole in
    let start : Sets = record { at = 12; blocks = no_blocks bytes } in
    let begin : Within bytes t n size rest p.offsets r.sets start = record {
      cut = cut4;
      ends = refl;
      few = few;
      range = p.range.sets;
      stand = p.blocks;
      blocked = record { limit = inr refl; stop = a.within; far = inr (inr (omega arith)) };
    } in
    let Last : Sets → Type 0 = λ s. n ≤ stop_behind bytes s in
    and_on n (λ x. (0 ≤ x) × ((x ≡ r.stamp.sec) ⊎ (n ≤ 0 + 4))) Last (word_between bytes 0 0 2147483647) _ (word_goes bytes t n a 0 0 2147483647 r.stamp.sec (stands t ((word r.stamp.usec ++ (word count ++ words)) ++ rest) 0 r.stamp.sec (omega arith) cut) (omega arith) (omega arith)) (λ x q.
    and_on n (λ x. (0 ≤ x) × ((x ≡ r.stamp.usec) ⊎ (n ≤ 4 + 4))) Last (word_between bytes 4 0 999999) _ (word_goes bytes t n a 4 0 999999 r.stamp.usec (stands t (word count ++ (words ++ rest)) 4 r.stamp.usec (omega arith) cut2) (omega arith) (omega arith)) (λ y g.
    and_on n (λ x. (0 ≤ x) × ((x ≡ count) ⊎ (n ≤ 8 + 4))) Last (word_between bytes 8 0 2147483647) _ (word_goes bytes t n a 8 0 2147483647 count (stands t (words ++ rest) 8 count (omega arith) cut3) (omega arith) (omega arith)) (λ m h.
    elim h.1 [
      | inl e ↦ subst (λ v. Fate n Last (sets_at bytes v start)) (sym e) (sets_on bytes t n a small size rest p.offsets r.sets start (inl begin))
      | inr e ↦ also n (Past n) Last (sets_at bytes m start) (sets_past bytes n a.within m start (record { at = omega (arith, e); stop = a.within })) (past_stop bytes t n a small size rest)
    ])))

agreeing : (bytes more : List ℕ) (n : ℕ) → n ≤ length bytes → Agrees bytes (take n bytes ++ more) n
agreeing bytes more n within =
    let long : length (take n bytes) ≡ n = length-take-le n bytes within in
    record {
      within = within;
      long = omega (arith, length-append (take n bytes) more);
      same = λ i lt. sym (get_or_append_left (take n bytes) more 0 i (omega arith) ∙ get_or-take n bytes i 0 lt);
    }

pub results_stop : (bytes : List ℕ) (n : ℕ) → length bytes < 4294967296 → n ≤ length bytes → BeginsOne (SomeBody types.Result) (take n bytes) → n ≤ result_misfit bytes
results_stop bytes n small within b =
    let stop : n ≤ stop_of bytes (walk_of_sets bytes) = stop_is bytes n (walk_of_sets bytes) (walked bytes (take n bytes ++ b.0) n b.1.1.answer (agreeing bytes b.0 n within) small b.1.1.payload) in
    lower n (stop_of bytes (walk_of_sets bytes)) (length bytes) stop within
  where
    lower : (n a b : ℕ) → n ≤ a → n ≤ b → n ≤ min a b
    lower n a b h g = omega arith
