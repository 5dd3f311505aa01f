-- What is read of a domain is what it spells, and what it spells is read.
use Rattle.std.proofs.Common.{◌≡◌, ℕ, ℤ, ◌<◌, Bool, true, false, cond, ltb, List, ◌++◌, length, drop, Option, Some, None, refl, sym, ap, ◌∙◌, subst, append_assoc, arith}
use Rattle.std.specs.Prelude.{◌&&◌}
use Rattle.std.specs.Int.{w32}
use Rattle.std.proofs.lemmas.Bool.{ltb-true, lt-ltb}
use Rattle.std.proofs.lemmas.List.{length-drop}
use Rattle.pcp_base.proofs.Bytes.{IsBytes, IsBytes-drop}
use Rattle.pcp_base.specs.Fields.{be_field}
use Rattle.pcp_base.specs.Time.{Moment, IsMoment}
use Rattle.pcp_model.specs.Words.{word}
use Rattle.pcp_model.specs.Records.{instance_words, word_bytes, domain_head, IsDomain}
use Rattle.pcp_model.specs.Instances.{◌>>=◌, instances_in}
use Rattle.pcp_model.specs.Laws.{InstancesStand}
use Rattle.pcp_model.proofs.InstancesRead.{instances_take, instances_again}
use Rattle.archive_meta.specs.Decoding.{stamp_in, domain_in}
use Rattle.pcp_model.proofs.ZeroBytes.{bind_some, some_is, only}
use Rattle.pcp_model.proofs.Fields.{WordStands, field_takes, field_again, behind_word}

both : (a b : Bool) → (a && b) ≡ true → (a ≡ true) × (b ≡ true)
both true b e = (refl, e)
both false b e = absurd cc

-- ---- the stamp

pub record StampRead (bytes : List ℕ) (t : Moment) : Type 0 where
  pub sec : WordStands bytes 4 8 t.sec
  pub usec : WordStands bytes 8 12 t.usec
  pub moment : IsMoment t

abbrev moment_of : ℕ → ℕ → Moment
moment_of sec usec = record { sec = sec; usec = usec }

pub stamp_takes : (bytes : List ℕ) (t : Moment) → IsBytes bytes → stamp_in bytes ≡ Some t → StampRead bytes t
unfolding stamp_in
stamp_takes bytes t fits x =
    let a = bind_some (be_field w32 4 bytes) (λ s. be_field w32 8 bytes >>= λ u. cond (ltb s 2147483648 && ltb u 1000000) (Some (moment_of s u)) None) t x in
    let b = bind_some (be_field w32 8 bytes) (λ u. cond (ltb a.0 2147483648 && ltb u 1000000) (Some (moment_of a.0 u)) None) t a.2 in
    let g = only (ltb a.0 2147483648 && ltb b.0 1000000) (Some (moment_of a.0 b.0)) t b.2 in
    let h = both (ltb a.0 2147483648) (ltb b.0 1000000) g.0 in
    subst (StampRead bytes) (some_is (moment_of a.0 b.0) t g.1)
    (record {
      sec = field_takes bytes 4 8 a.0 fits refl a.1;
      usec = field_takes bytes 8 12 b.0 fits refl b.1;
      moment = record { sec = ltb-true a.0 2147483648 h.0; usec = ltb-true b.0 1000000 h.1 };
    })

pub stamp_again : (bytes : List ℕ) (t : Moment) (rest : List ℕ) → IsMoment t → drop 4 bytes ≡ word t.sec ++ (word t.usec ++ rest) → stamp_in bytes ≡ Some t
unfolding stamp_in
stamp_again bytes t rest m e =
    let s : t.sec < 2147483648 = m.sec in
    let u : t.usec < 1000000 = m.usec in
    let f : drop 8 bytes ≡ word t.usec ++ rest = behind_word bytes 4 8 t.sec (word t.usec ++ rest) refl e in
    rw (field_again bytes 4 t.sec (word t.usec ++ rest) (omega arith) e, field_again bytes 8 t.usec rest (omega arith) f, lt-ltb t.sec 2147483648 s, lt-ltb t.usec 1000000 u) refl

-- ---- the whole of it

pub domain_takes : (bytes : List ℕ) (t : Moment) (indom : ℕ) (pairs : List (ℤ × List ℕ)) → IsBytes bytes → WordStands bytes 0 4 2 → domain_in bytes ≡ Some (t, indom, pairs) → IsDomain bytes t indom pairs
unfolding domain_in
domain_takes bytes t indom pairs fits first x =
    let a = bind_some (stamp_in bytes) (λ s. be_field w32 12 bytes >>= λ i. be_field w32 16 bytes >>= λ n. instances_in n (drop 20 bytes) >>= λ ps. Some (s, i, ps)) (t, indom, pairs) x in
    let b = bind_some (be_field w32 12 bytes) (λ i. be_field w32 16 bytes >>= λ n. instances_in n (drop 20 bytes) >>= λ ps. Some (a.0, i, ps)) (t, indom, pairs) a.2 in
    let c = bind_some (be_field w32 16 bytes) (λ n. instances_in n (drop 20 bytes) >>= λ ps. Some (a.0, b.0, ps)) (t, indom, pairs) b.2 in
    let d = bind_some (instances_in c.0 (drop 20 bytes)) (λ ps. Some (a.0, b.0, ps)) (t, indom, pairs) c.2 in
    let s : StampRead bytes a.0 = stamp_takes bytes a.0 fits a.1 in
    let i : WordStands bytes 12 16 b.0 = field_takes bytes 12 16 b.0 fits refl b.1 in
    let m : WordStands bytes 16 20 c.0 = field_takes bytes 16 20 c.0 fits refl c.1 in
    let r : InstancesStand c.0 (drop 20 bytes) d.0 = instances_take c.0 (drop 20 bytes) d.0 (IsBytes-drop 20 bytes fits) d.1 in
    let body : List ℕ = instance_words d.0 ++ (word_bytes r.offsets ++ r.table) in
    let counted : drop 16 bytes ≡ word (length d.0) ++ body = m.is ∙ ap (λ k. word k ++ drop 20 bytes) (sym r.count_is) ∙ ap (λ y. word (length d.0) ++ y) r.is in
    let whole : bytes ≡ word 2 ++ (word a.0.sec ++ (word a.0.usec ++ (word b.0 ++ (word (length d.0) ++ body)))) =
    first.is ∙ ap (λ y. word 2 ++ y) (s.sec.is ∙ ap (λ y. word a.0.sec ++ y) (s.usec.is ∙ ap (λ y. word a.0.usec ++ y) (i.is ∙ ap (λ y. word b.0 ++ y) counted))) in
    subst (λ (p : Moment × ℕ × List (ℤ × List ℕ)). IsDomain bytes p.0 p.1 p.2) (some_is (a.0, b.0, d.0) (t, indom, pairs) d.2)
    (record {
      moment = s.moment;
      indom_fits = i.fits;
      few = let e : length d.0 ≡ c.0 = r.count_is in omega (arith, r.few);
      numbers = r.numbers;
      offsets = r.offsets;
      table = r.table;
      names = r.names;
      is = whole ∙ (let e : word 2 ++ (word a.0.sec ++ (word a.0.usec ++ (word b.0 ++ (word (length d.0) ++ (instance_words d.0 ++ (word_bytes r.offsets ++ r.table)))))) ≡ domain_head a.0 b.0 d.0 r.offsets ++ r.table = simp append_assoc in e);
    })

-- the parts one after another
pub domained : (bytes : List ℕ) (t : Moment) (indom n : ℕ) (pairs : Option (List (ℤ × List ℕ))) → stamp_in bytes ≡ Some t → be_field w32 12 bytes ≡ Some indom → be_field w32 16 bytes ≡ Some n → instances_in n (drop 20 bytes) ≡ pairs
    → domain_in bytes ≡ (pairs >>= λ ps. Some (t, indom, ps))
unfolding domain_in
domained bytes t indom n pairs stamp domain count rest =
    ap (λ o. o >>= λ s. be_field w32 12 bytes >>= λ i. be_field w32 16 bytes >>= λ m. instances_in m (drop 20 bytes) >>= λ ps. Some (s, i, ps)) stamp
    ∙ ap (λ o. o >>= λ i. be_field w32 16 bytes >>= λ m. instances_in m (drop 20 bytes) >>= λ ps. Some (t, i, ps)) domain
    ∙ ap (λ o. o >>= λ m. instances_in m (drop 20 bytes) >>= λ ps. Some (t, indom, ps)) count ∙ ap (λ o. o >>= λ ps. Some (t, indom, ps)) rest

pub domain_again : (bytes : List ℕ) (t : Moment) (indom : ℕ) (pairs : List (ℤ × List ℕ)) → length bytes < 4294967296 → IsDomain bytes t indom pairs → domain_in bytes ≡ Some (t, indom, pairs)
domain_again bytes t indom pairs few d =
    let n : ℕ = length pairs in
    let low : n < 2147483648 = d.few in
    let body : List ℕ = instance_words pairs ++ (word_bytes d.offsets ++ d.table) in
    let e0 : bytes ≡ word 2 ++ (word t.sec ++ (word t.usec ++ (word indom ++ (word n ++ (instance_words pairs ++ (word_bytes d.offsets ++ d.table)))))) = d.is ∙ (simp append_assoc) in
    let e1 : drop 4 bytes ≡ word t.sec ++ (word t.usec ++ (word indom ++ (word n ++ body))) = behind_word bytes 0 4 2 _ refl e0 in
    let e2 : drop 8 bytes ≡ word t.usec ++ (word indom ++ (word n ++ body)) = behind_word bytes 4 8 t.sec _ refl e1 in
    let e3 : drop 12 bytes ≡ word indom ++ (word n ++ body) = behind_word bytes 8 12 t.usec _ refl e2 in
    let e4 : drop 16 bytes ≡ word n ++ body = behind_word bytes 12 16 indom _ refl e3 in
    let e5 : drop 20 bytes ≡ body = behind_word bytes 16 20 n _ refl e4 in
    let stand : InstancesStand n (drop 20 bytes) pairs = record { count_is = refl; few = d.few; numbers = d.numbers; offsets = d.offsets; table = d.table; names = d.names; is = e5 } in
    let inside : instances_in n (drop 20 bytes) ≡ Some pairs = instances_again n (drop 20 bytes) pairs (omega (arith, length-drop 20 bytes)) stand in
    let stamp : stamp_in bytes ≡ Some t = stamp_again bytes t _ d.moment e1 in
    let domain : be_field w32 12 bytes ≡ Some indom = field_again bytes 12 indom _ d.indom_fits e3 in
    let count : be_field w32 16 bytes ≡ Some n = field_again bytes 16 n _ (omega arith) e4 in
    domained bytes t indom n (Some pairs) stamp domain count inside
