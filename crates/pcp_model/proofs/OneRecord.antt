-- The payload of a record of Meta is read as one record.
use Rattle.std.proofs.Common.{◌≡◌, ℕ, ℤ, ◌+◌, ◌*◌, ◌<◌, List, [], ◌∷◌, ◌++◌, length, take, refl, sym, ap, ◌∙◌, subst, append_assoc, arith, length-append}
use Rattle.std.specs.Prelude.{FitsSigned}
use Rattle.std.specs.Int.{w32, from_be_bytes}
use Rattle.std.specs.List.{AllByRecursion}
use Rattle.std.proofs.lemmas.List.{take_at}
use Rattle.pcp_base.specs.Texts.{IsText}
use Rattle.pcp_base.specs.Time.{Moment}
use Rattle.pcp_base.specs.declared.desc.Desc.{Desc}
use Rattle.pcp_model.specs.declared.records.MetaRecord.TheVariants.{Description, Domain, Other}
use Rattle.pcp_model.specs.Words.{word, signed_word, length-word, length-signed_word}
use Rattle.pcp_model.specs.Records.{description, counted_names, DescriptionInRange, domain_head, instance_words, word_bytes, NameStands, NamesStand, IsDomain, IsRecord}
use Rattle.pcp_model.proofs.Cuts.{number_of_word}
use Rattle.pcp_model.proofs.ZeroBytes.{some_is, name_again, offset_within}
use Rattle.pcp_model.proofs.Unique.{both, both_words, both_signed, IsReadOnce}

-- ---- descriptions

description_flat : (d : Desc) (names : List (List ℕ)) → description d names
    ≡ word 1 ++ (word d.pmid ++ (word d.code ++ (word d.indom ++ (word d.semantics ++ (word d.units ++ (word (length names) ++ counted_names names))))))
unfolding description
description_flat d names = refl

both_names : (ns ms : List (List ℕ)) → AllByRecursion (λ (n : List ℕ). IsText n × (length n < 4294967296)) ns → AllByRecursion (λ (n : List ℕ). IsText n × (length n < 4294967296)) ms
    → length ns ≡ length ms → counted_names ns ≡ counted_names ms → ns ≡ ms
both_names [] [] fit low long is = refl
both_names [] (m ∷ ms) fit low long is = absurd (omega arith)
both_names (n ∷ ns) [] fit low long is = absurd (omega arith)
both_names (n ∷ ns) (m ∷ ms) fit low long is =
    let size : (length n ≡ length m) × (n ++ counted_names ns ≡ m ++ counted_names ms) =
    both_words (length n) (length m) (n ++ counted_names ns) (m ++ counted_names ms) fit.0.1 low.0.1 (sym (append_assoc (word (length n)) n (counted_names ns)) ∙ is ∙ append_assoc (word (length m)) m (counted_names ms)) in
    let name : (n ≡ m) × (counted_names ns ≡ counted_names ms) = both n m (counted_names ns) (counted_names ms) size.0 size.1 in
    ap (λ t. t ∷ ns) name.0 ∙ ap (λ ts. m ∷ ts) (both_names ns ms fit.1 low.1 (omega arith) name.1)

same_desc : (d e : Desc) → d.pmid ≡ e.pmid → d.code ≡ e.code → d.indom ≡ e.indom → d.semantics ≡ e.semantics → d.units ≡ e.units → d ≡ e
same_desc d e p c i s u =
    ap (λ n. record { pmid = n; code = d.code; indom = d.indom; semantics = d.semantics; units = d.units }) p
    ∙ ap (λ n. record { pmid = e.pmid; code = n; indom = d.indom; semantics = d.semantics; units = d.units }) c
    ∙ ap (λ n. record { pmid = e.pmid; code = e.code; indom = n; semantics = d.semantics; units = d.units }) i
    ∙ ap (λ n. record { pmid = e.pmid; code = e.code; indom = e.indom; semantics = n; units = d.units }) s
    ∙ ap (λ n. record { pmid = e.pmid; code = e.code; indom = e.indom; semantics = e.semantics; units = n }) u

both_descriptions : (d e : Desc) (ns ms : List (List ℕ)) → DescriptionInRange d ns → DescriptionInRange e ms → description d ns ≡ description e ms → (d ≡ e) × (ns ≡ ms)
both_descriptions d e ns ms p q is =
    let nf : List ℕ = word (length ns) ++ counted_names ns in
    let mf : List ℕ = word (length ms) ++ counted_names ms in
    let kind = both_words 1 1 (word d.pmid ++ (word d.code ++ (word d.indom ++ (word d.semantics ++ (word d.units ++ nf))))) (word e.pmid ++ (word e.code ++ (word e.indom ++ (word e.semantics ++ (word e.units ++ mf)))))
    (omega arith) (omega arith) (sym (description_flat d ns) ∙ is ∙ description_flat e ms) in
    let pmid = both_words d.pmid e.pmid (word d.code ++ (word d.indom ++ (word d.semantics ++ (word d.units ++ nf)))) (word e.code ++ (word e.indom ++ (word e.semantics ++ (word e.units ++ mf)))) p.pmid q.pmid kind.1 in
    let code = both_words d.code e.code (word d.indom ++ (word d.semantics ++ (word d.units ++ nf))) (word e.indom ++ (word e.semantics ++ (word e.units ++ mf))) p.code q.code pmid.1 in
    let indom = both_words d.indom e.indom (word d.semantics ++ (word d.units ++ nf)) (word e.semantics ++ (word e.units ++ mf)) p.indom q.indom code.1 in
    let semantics = both_words d.semantics e.semantics (word d.units ++ nf) (word e.units ++ mf) p.semantics q.semantics indom.1 in
    let units = both_words d.units e.units nf mf p.units q.units semantics.1 in
    let count = both_words (length ns) (length ms) (counted_names ns) (counted_names ms) p.few q.few units.1 in
    (same_desc d e pmid.0 code.0 indom.0 semantics.0 units.0, both_names ns ms p.texts q.texts count.0 count.1)

-- ---- domains

domain_flat : (t : Moment) (indom : ℕ) (pairs : List (ℤ × List ℕ)) (offsets table : List ℕ) → domain_head t indom pairs offsets ++ table
    ≡ word 2 ++ (word t.sec ++ (word t.usec ++ (word indom ++ (word (length pairs) ++ (instance_words pairs ++ (word_bytes offsets ++ table))))))
domain_flat t indom pairs offsets table = simp append_assoc

-- the first name has the first offset
record FirstStands (table offsets : List ℕ) (p : ℤ × List ℕ) (pairs : List (ℤ × List ℕ)) : Type 0 where
  pub offset : ℕ
  pub others : List ℕ
  pub are : offsets ≡ offset ∷ others
  pub stands : NameStands table offset p.1
  pub more : NamesStand table others pairs

first_stands : (table offsets : List ℕ) (p : ℤ × List ℕ) (pairs : List (ℤ × List ℕ)) → NamesStand table offsets (p ∷ pairs) → FirstStands table offsets p pairs
first_stands table [] p pairs stand = absurd (stand tt)
first_stands table (offset ∷ others) p pairs stand = record { offset = offset; others = others; are = refl; stands = stand.0; more = stand.1 }

no_more_offsets : (table offsets : List ℕ) → NamesStand table offsets [] → offsets ≡ []
no_more_offsets table [] stand = refl
no_more_offsets table (offset ∷ offsets) stand = absurd (stand tt)

pub as_many_offsets : (table offsets : List ℕ) (pairs : List (ℤ × List ℕ)) → NamesStand table offsets pairs → length (word_bytes offsets) ≡ 4 * length pairs
as_many_offsets table [] [] stand = refl
as_many_offsets table [] (p ∷ pairs) stand = absurd (stand tt)
as_many_offsets table (offset ∷ offsets) [] stand = absurd (stand tt)
as_many_offsets table (offset ∷ offsets) (p ∷ pairs) stand =
    omega (arith, length-append (word offset) (word_bytes offsets), length-word offset, as_many_offsets table offsets pairs stand.1)

pub as_many_numbers : (pairs : List (ℤ × List ℕ)) → length (instance_words pairs) ≡ 4 * length pairs
as_many_numbers [] = refl
as_many_numbers (p ∷ pairs) = omega (arith, length-append (signed_word p.0) (instance_words pairs), length-signed_word p.0, as_many_numbers pairs)

one_name : (table m n : List ℕ) (offset : ℕ) → NameStands table offset m → NameStands table offset n → m ≡ n
one_name table m n offset p q = some_is m n (sym (name_again table m offset p) ∙ name_again table n offset q)

both_domains : (table at to : List ℕ) (ps qs : List (ℤ × List ℕ)) → length table < 4294967296 → AllByRecursion (λ (p : ℤ × List ℕ). FitsSigned w32 p.0) ps → AllByRecursion (λ (p : ℤ × List ℕ). FitsSigned w32 p.0) qs
    → NamesStand table at ps → NamesStand table to qs → length ps ≡ length qs → instance_words ps ≡ instance_words qs → word_bytes at ≡ word_bytes to → ps ≡ qs
both_domains table at to [] [] few fit low p q long numbers offsets = refl
both_domains table at to [] (s ∷ qs) few fit low p q long numbers offsets = absurd (omega arith)
both_domains table at to (r ∷ ps) [] few fit low p q long numbers offsets = absurd (omega arith)
both_domains table at to (r ∷ ps) (s ∷ qs) few fit low p q long numbers offsets =
    let f : FirstStands table at r ps = first_stands table at r ps p in
    let g : FirstStands table to s qs = first_stands table to s qs q in
    let number : (r.0 ≡ s.0) × (instance_words ps ≡ instance_words qs) = both_signed r.0 s.0 (instance_words ps) (instance_words qs) fit.0 low.0 numbers in
    let offset : (f.offset ≡ g.offset) × (word_bytes f.others ≡ word_bytes g.others) =
    both_words f.offset g.offset (word_bytes f.others) (word_bytes g.others) (omega (arith, offset_within table r.1 f.offset f.stands)) (omega (arith, offset_within table s.1 g.offset g.stands))
    (ap word_bytes (sym f.are) ∙ offsets ∙ ap word_bytes g.are) in
    let name : r.1 ≡ s.1 = one_name table r.1 s.1 f.offset f.stands (subst (λ n. NameStands table n s.1) (sym offset.0) g.stands) in
    let one : r ≡ s = ap (λ n. (n, r.1)) number.0 ∙ ap (λ t. (s.0, t)) name in
    ap (λ v. v ∷ ps) one ∙ ap (λ vs. s ∷ vs) (both_domains table f.others g.others ps qs few fit.1 low.1 f.more g.more (omega arith) number.1 offset.1)

same_moment : (s t : Moment) → s.sec ≡ t.sec → s.usec ≡ t.usec → s ≡ t
same_moment s t sec usec = ap (λ n. record { sec = n; usec = s.usec }) sec ∙ ap (λ n. record { sec = t.sec; usec = n }) usec

-- what two domains of the same bytes have in common
record SameDomain (s t : Moment) (i j : ℕ) (ps qs : List (ℤ × List ℕ)) : Type 0 where
  pub stamp : s ≡ t
  pub indom : i ≡ j
  pub pairs : ps ≡ qs

one_domain : (bytes : List ℕ) (s t : Moment) (i j : ℕ) (ps qs : List (ℤ × List ℕ)) → length bytes < 4294967296 → IsDomain bytes s i ps → IsDomain bytes t j qs → SameDomain s t i j ps qs
one_domain bytes s t i j ps qs few p q =
    let pt : List ℕ = word_bytes p.offsets ++ p.table in
    let qt : List ℕ = word_bytes q.offsets ++ q.table in
    let whole : word 2 ++ (word s.sec ++ (word s.usec ++ (word i ++ (word (length ps) ++ (instance_words ps ++ pt))))) ≡ word 2 ++ (word t.sec ++ (word t.usec ++ (word j ++ (word (length qs) ++ (instance_words qs ++ qt))))) =
    sym (domain_flat s i ps p.offsets p.table) ∙ sym p.is ∙ q.is ∙ domain_flat t j qs q.offsets q.table in
    let kind = both_words 2 2 (word s.sec ++ (word s.usec ++ (word i ++ (word (length ps) ++ (instance_words ps ++ pt))))) (word t.sec ++ (word t.usec ++ (word j ++ (word (length qs) ++ (instance_words qs ++ qt))))) (omega arith) (omega arith) whole in
    let sec = both_words s.sec t.sec (word s.usec ++ (word i ++ (word (length ps) ++ (instance_words ps ++ pt)))) (word t.usec ++ (word j ++ (word (length qs) ++ (instance_words qs ++ qt)))) (omega (arith, p.moment.sec)) (omega (arith, q.moment.sec)) kind.1 in
    let usec = both_words s.usec t.usec (word i ++ (word (length ps) ++ (instance_words ps ++ pt))) (word j ++ (word (length qs) ++ (instance_words qs ++ qt))) (omega (arith, p.moment.usec)) (omega (arith, q.moment.usec)) sec.1 in
    let indom = both_words i j (word (length ps) ++ (instance_words ps ++ pt)) (word (length qs) ++ (instance_words qs ++ qt)) p.indom_fits q.indom_fits usec.1 in
    let count = both_words (length ps) (length qs) (instance_words ps ++ pt) (instance_words qs ++ qt) (omega (arith, p.few)) (omega (arith, q.few)) indom.1 in
    let many : length ps ≡ length qs = count.0 in
    let numbers : (instance_words ps ≡ instance_words qs) × (pt ≡ qt) = both (instance_words ps) (instance_words qs) pt qt (omega (arith, as_many_numbers ps, as_many_numbers qs)) count.1 in
    let offsets : (word_bytes p.offsets ≡ word_bytes q.offsets) × (p.table ≡ q.table) =
    both (word_bytes p.offsets) (word_bytes q.offsets) p.table q.table (omega (arith, as_many_offsets p.table p.offsets ps p.names, as_many_offsets q.table q.offsets qs q.names)) numbers.1 in
    let size : length bytes ≡ length (domain_head s i ps p.offsets) + length p.table = ap length p.is ∙ length-append (domain_head s i ps p.offsets) p.table in
    record {
      stamp = same_moment s t sec.0 usec.0;
      indom = indom.0;
      pairs = both_domains p.table p.offsets q.offsets ps qs (omega arith) p.numbers q.numbers p.names (subst (λ t. NamesStand t q.offsets qs) (sym offsets.1) q.names) many numbers.0 offsets.0;
    }

-- ---- the first word tells them apart

kind_of_description : (bytes : List ℕ) (d : Desc) (names : List (List ℕ)) → bytes ≡ description d names → from_be_bytes w32 (take 4 bytes) ≡ 1
kind_of_description bytes d names is =
    ap (λ t. from_be_bytes w32 (take 4 t)) (is ∙ description_flat d names)
    ∙ ap (from_be_bytes w32) (take_at (word 1) (word d.pmid ++ (word d.code ++ (word d.indom ++ (word d.semantics ++ (word d.units ++ (word (length names) ++ counted_names names)))))) 4 (length-word 1))
    ∙ number_of_word 1 (omega arith)

kind_of_domain : (bytes : List ℕ) (t : Moment) (indom : ℕ) (pairs : List (ℤ × List ℕ)) → IsDomain bytes t indom pairs → from_be_bytes w32 (take 4 bytes) ≡ 2
kind_of_domain bytes t indom pairs is =
    ap (λ x. from_be_bytes w32 (take 4 x)) (is.is ∙ domain_flat t indom pairs is.offsets is.table)
    ∙ ap (from_be_bytes w32) (take_at (word 2) (word t.sec ++ (word t.usec ++ (word indom ++ (word (length pairs) ++ (instance_words pairs ++ (word_bytes is.offsets ++ is.table)))))) 4 (length-word 2))
    ∙ number_of_word 2 (omega arith)

apart : (n : ℕ) → n ≡ 1 → n ≡ 2 → ⊥
apart n one two = omega arith

pub one_record : IsReadOnce IsRecord
one_record bytes (Description d ns) (Description e ms) fits p q =
    let same : (d ≡ e) × (ns ≡ ms) = both_descriptions d e ns ms p.0 q.0 (sym p.1 ∙ q.1) in
    ap (λ x. Description x ns) same.0 ∙ ap (λ x. Description e x) same.1
one_record bytes (Description d ns) (Domain t indom pairs) fits p q = absurd (apart (from_be_bytes w32 (take 4 bytes)) (kind_of_description bytes d ns p.1) (kind_of_domain bytes t indom pairs q))
one_record bytes (Description d ns) Other fits p q = absurd (q.1 (kind_of_description bytes d ns p.1))
one_record bytes (Domain t indom pairs) (Description d ns) fits p q = absurd (apart (from_be_bytes w32 (take 4 bytes)) (kind_of_description bytes d ns q.1) (kind_of_domain bytes t indom pairs p))
one_record bytes (Domain s i ps) (Domain t j qs) fits p q =
    let same : SameDomain s t i j ps qs = one_domain bytes s t i j ps qs (omega (arith, fits.most)) p q in
    ap (λ x. Domain x i ps) same.stamp ∙ ap (λ x. Domain t x ps) same.indom ∙ ap (λ x. Domain t j x) same.pairs
one_record bytes (Domain t indom pairs) Other fits p q = absurd (q.2 (kind_of_domain bytes t indom pairs p))
one_record bytes Other (Description d ns) fits p q = absurd (p.1 (kind_of_description bytes d ns q.1))
one_record bytes Other (Domain t indom pairs) fits p q = absurd (p.2 (kind_of_domain bytes t indom pairs q))
one_record bytes Other Other fits p q = refl
