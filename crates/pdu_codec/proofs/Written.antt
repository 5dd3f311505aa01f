-- What is written of a PDU is read as it.
use Rattle.std.proofs.Common.{◌≡◌, ℕ, ℤ, suc, ◌+◌, ◌*◌, ◌<◌, ◌≤◌, List, [], ◌∷◌, ◌++◌, length, refl, sym, ap, ◌∙◌, arith}
use Rattle.std.specs.Prelude.{FitsSigned}
use Rattle.std.specs.Int.{w32}
use Rattle.std.specs.List.{AllByRecursion}
use Rattle.std.proofs.lemmas.List.{append-nil, length-append, length-replicate}
use Rattle.profile_filter.specs.declared.profile.DomainPart.{DomainPart}
use Rattle.pcp_model.specs.Words.{word, signed_word, length-word, length-signed_word, zeros}
use Rattle.pcp_model.specs.Payload.{filling}
use Rattle.pcp_model.proofs.Spelled.{is_payload, length-payload}
use Rattle.pdu_codec.specs.declared.lists.Head.{Head}
use Rattle.pdu_codec.specs.declared.pdu.Pdu.{Pdu}
use Rattle.pdu_codec.specs.declared.pdu.Pdu.TheVariants as pdus
use Rattle.pdu_codec.specs.Types.{code_of_type, type_of}
use Rattle.pdu_codec.specs.Grammar.{Is, Both, Word, Signed, state_word, TextField, Pair, HeadField, Many, Parts, zero_word}
use Rattle.pdu_codec.specs.Bodies.{body_of, IsPdu}
use Rattle.pdu_codec.specs.Spelling.{all_bytes, all_lengths, text_bytes, text_length, pair_bytes, pair_length, head_bytes, instance_bytes, part_length, body_bytes, body_length, pdu_length, pdu_bytes, IsHead, IsShort, IsPair, IsWord, ListsNumbers, InRange}

-- a text, and nothing but a value behind it
ends : {X Y : Type 0} {G : List ℕ → X → Type 0} (f : X → Y) (x : X) (text : List ℕ) → G text x → Both G (λ v. Is (f v)) text (f x)
ends f x text g = record { value = x; front = text; back = []; cut = sym (append-nil text); first = g; second = (refl, refl) }

-- a text, and another behind it
goes : {X Y : Type 0} {G : List ℕ → X → Type 0} {H : X → List ℕ → Y → Type 0} (x : X) (y : Y) (front back : List ℕ) → G front x → H x back y → Both G H (front ++ back) y
goes x y front back g h = record { value = x; front = front; back = back; cut = refl; first = g; second = h }

word_is : (n : ℕ) → n < 4294967296 → Word (word n) n
word_is n h = (refl, h)

zero_is : word 0 ≡ zero_word
unfolding word
zero_is = refl

creds_are : word 1 ++ word 16908288 ≡ 0 ∷ 0 ∷ 0 ∷ 1 ∷ 1 ∷ 2 ∷ 0 ∷ 0 ∷ []
unfolding word
creds_are = refl

text_is : (t : List ℕ) → IsShort t → TextField (text_bytes t) t
text_is t h = goes (length t) t (word (length t)) (t ++ zeros (filling (length t))) (word_is (length t) h.1)
    (record { padding = zeros (filling (length t)); cut = refl; long = refl; clean = h.0; filled = length-replicate (filling (length t)) 0 })

pair_is : (p : ℤ × List ℕ) → IsPair p → Pair (pair_bytes p) p
pair_is p h = goes p.0 p (signed_word p.0) (text_bytes p.1) (refl, h.0) (ends (λ name. (p.0, name)) p.1 (text_bytes p.1) (text_is p.1 h.1))

-- so many, one behind another
many_is : {X : Type 0} (G : List ℕ → X → Type 0) (bytes : X → List ℕ) (P : X → Type 0) (xs : List X) → ((x : X) → P x → G (bytes x) x) → AllByRecursion P xs → Many G (length xs) (all_bytes bytes xs) xs
many_is G bytes P [] is all = (refl, refl)
many_is G bytes P (x ∷ xs) is all = goes x (x ∷ xs) (bytes x) (all_bytes bytes xs) (is x all.0) (ends (λ ys. x ∷ ys) xs (all_bytes bytes xs) (many_is G bytes P xs is all.1))

words_are : (pmids : List ℕ) → AllByRecursion IsWord pmids → Many Word (length pmids) (all_bytes word pmids) pmids
words_are pmids all = many_is Word word IsWord pmids word_is all

-- ---- the parts of a profile

abbrev head_of : DomainPart → Head
head_of part = record { indom = part.indom; include = part.include; count = length part.instances }

abbrev heads_of : List DomainPart → List Head
heads_of [] = []
heads_of (part ∷ parts) = head_of part ∷ heads_of parts

head_is : (part : DomainPart) → IsHead part → HeadField (head_bytes part) (head_of part)
head_is part h =
    goes part.indom (head_of part) (word part.indom) (word (state_word part.include) ++ (word (length part.instances) ++ word 0)) (word_is part.indom h.0)
    (goes part.include (head_of part) (word (state_word part.include)) (word (length part.instances) ++ word 0) refl
    (goes (length part.instances) (head_of part) (word (length part.instances)) (word 0) (word_is (length part.instances) h.1)
    (ends (λ none. head_of part) 4 (word 0) (zero_is, refl))))

heads_are : (parts : List DomainPart) → AllByRecursion IsHead parts → Many HeadField (length parts) (all_bytes head_bytes parts) (heads_of parts)
heads_are [] all = (refl, refl)
heads_are (part ∷ parts) all =
    goes (head_of part) (heads_of (part ∷ parts)) (head_bytes part) (all_bytes head_bytes parts) (head_is part all.0) (ends (λ hs. head_of part ∷ hs) (heads_of parts) (all_bytes head_bytes parts) (heads_are parts all.1))

parts_are : (parts : List DomainPart) → AllByRecursion ListsNumbers parts → Parts (heads_of parts) (all_bytes instance_bytes parts) parts
parts_are [] all = (refl, refl)
parts_are (part ∷ parts) all =
    goes part.instances (part ∷ parts) (instance_bytes part) (all_bytes instance_bytes parts) (many_is Signed signed_word (FitsSigned w32) part.instances (λ z h. (refl, h)) all.0)
    (ends (λ others. part ∷ others) parts (all_bytes instance_bytes parts) (parts_are parts all.1))

-- ---- bodies

body_is : (p : Pdu) → InRange p → body_length p ≤ 65536 → body_of (type_of p) (body_bytes p) p
body_is (pdus.Error code) h few = ends pdus.Error code (signed_word code) (refl, h)
body_is (pdus.Result r) h few = record { answer = r; is = refl; payload = is_payload r h (omega arith) }
body_is (pdus.Profile context global parts) h few =
    let p : Pdu = pdus.Profile context global parts in
    let lists : List ℕ = all_bytes head_bytes parts ++ all_bytes instance_bytes parts in
    goes context p (word context) (word (state_word global) ++ (word (length parts) ++ (word 0 ++ lists))) (word_is context h.0)
    (goes global p (word (state_word global)) (word (length parts) ++ (word 0 ++ lists)) refl
    (goes (length parts) p (word (length parts)) (word 0 ++ lists) (word_is (length parts) h.1)
    (goes 4 p (word 0) lists (zero_is, refl)
    (goes (heads_of parts) p (all_bytes head_bytes parts) (all_bytes instance_bytes parts) (heads_are parts h.2) (ends (λ ps. pdus.Profile context global ps) parts (all_bytes instance_bytes parts) (parts_are parts h.3))))))
body_is (pdus.Fetch context sec usec pmids) h few =
    let p : Pdu = pdus.Fetch context sec usec pmids in
    let list : List ℕ = all_bytes word pmids in
    goes context p (word context) (word sec ++ (word usec ++ (word (length pmids) ++ list))) (word_is context h.0)
    (goes sec p (word sec) (word usec ++ (word (length pmids) ++ list)) (word_is sec h.1)
    (goes usec p (word usec) (word (length pmids) ++ list) (word_is usec h.2)
    (goes (length pmids) p (word (length pmids)) list (word_is (length pmids) h.3) (ends (λ xs. pdus.Fetch context sec usec xs) pmids list (words_are pmids h.4)))))
body_is (pdus.DescReq pmid) h few = ends pdus.DescReq pmid (word pmid) (word_is pmid h)
body_is (pdus.Desc d) h few =
    let p : Pdu = pdus.Desc d in
    goes d.pmid p (word d.pmid) (word d.code ++ (word d.indom ++ (word d.semantics ++ word d.units))) (word_is d.pmid h.pmid)
    (goes d.code p (word d.code) (word d.indom ++ (word d.semantics ++ word d.units)) (word_is d.code h.code)
    (goes d.indom p (word d.indom) (word d.semantics ++ word d.units) (word_is d.indom h.indom)
    (goes d.semantics p (word d.semantics) (word d.units) (word_is d.semantics h.semantics)
    (ends (λ units. pdus.Desc (record { pmid = d.pmid; code = d.code; indom = d.indom; semantics = d.semantics; units = units })) d.units (word d.units) (word_is d.units h.units)))))
body_is (pdus.InstanceReq indom instance) h few = goes indom (pdus.InstanceReq indom instance) (word indom) (signed_word instance) (word_is indom h.0) (ends (λ i. pdus.InstanceReq indom i) instance (signed_word instance) (refl, h.1))
body_is (pdus.Instance indom pairs) h few =
    let p : Pdu = pdus.Instance indom pairs in
    goes indom p (word indom) (word (length pairs) ++ all_bytes pair_bytes pairs) (word_is indom h.0)
    (goes (length pairs) p (word (length pairs)) (all_bytes pair_bytes pairs) (word_is (length pairs) h.1) (ends (λ xs. pdus.Instance indom xs) pairs (all_bytes pair_bytes pairs) (many_is Pair pair_bytes IsPair pairs pair_is h.2)))
body_is pdus.Creds h few = ends (λ n. pdus.Creds) 8 (word 1 ++ word 16908288) (creds_are, refl)
body_is (pdus.PmnsIds status pmids) h few =
    let p : Pdu = pdus.PmnsIds status pmids in
    goes status p (signed_word status) (word (length pmids) ++ all_bytes word pmids) (refl, h.0)
    (goes (length pmids) p (word (length pmids)) (all_bytes word pmids) (word_is (length pmids) h.1) (ends (λ xs. pdus.PmnsIds status xs) pmids (all_bytes word pmids) (words_are pmids h.2)))
body_is (pdus.PmnsNames status names) h few =
    let p : Pdu = pdus.PmnsNames status names in
    goes status p (signed_word status) (word (length names) ++ all_bytes text_bytes names) (refl, h.0)
    (goes (length names) p (word (length names)) (all_bytes text_bytes names) (word_is (length names) h.1) (ends (λ xs. pdus.PmnsNames status xs) names (all_bytes text_bytes names) (many_is TextField text_bytes IsShort names text_is h.2)))
body_is (pdus.PmnsChild name) h few = ends pdus.PmnsChild name (text_bytes name) (text_is name h)
body_is (pdus.PmnsTraverse name) h few = ends pdus.PmnsTraverse name (text_bytes name) (text_is name h)

-- ---- lengths

all_long : {X : Type 0} (bytes : X → List ℕ) (size : X → ℕ) (xs : List X) → ((x : X) → length (bytes x) ≡ size x) → length (all_bytes bytes xs) ≡ all_lengths size xs
all_long bytes size [] each = refl
all_long bytes size (x ∷ xs) each = length-append (bytes x) (all_bytes bytes xs) ∙ (let e : length (bytes x) + length (all_bytes bytes xs) ≡ size x + all_lengths size xs = omega (arith, each x, all_long bytes size xs each) in e)

words_long : {X : Type 0} (bytes : X → List ℕ) (xs : List X) → ((x : X) → length (bytes x) ≡ 4) → length (all_bytes bytes xs) ≡ 4 * length xs
words_long bytes [] each = omega arith
words_long bytes (x ∷ xs) each = length-append (bytes x) (all_bytes bytes xs) ∙ (let e : length (bytes x) + length (all_bytes bytes xs) ≡ 4 * suc (length xs) = omega (arith, each x, words_long bytes xs each) in e)

text_long : (t : List ℕ) → length (text_bytes t) ≡ text_length t
text_long t = omega (arith, length-append (word (length t)) (t ++ zeros (filling (length t))), length-word (length t), length-append t (zeros (filling (length t))), length-replicate {A = ℕ} (filling (length t)) 0)

pair_long : (p : ℤ × List ℕ) → length (pair_bytes p) ≡ pair_length p
pair_long p = omega (arith, length-append (signed_word p.0) (text_bytes p.1), length-signed_word p.0, text_long p.1)

head_long : (part : DomainPart) → length (head_bytes part) ≡ 16
head_long part =
    omega (arith, length-append (word part.indom) (word (state_word part.include) ++ (word (length part.instances) ++ word 0)), length-append (word (state_word part.include)) (word (length part.instances) ++ word 0), length-append (word (length part.instances)) (word 0), length-word part.indom, length-word (state_word part.include), length-word (length part.instances), length-word 0)

parts_long : (parts : List DomainPart) → length (all_bytes head_bytes parts) + length (all_bytes instance_bytes parts) ≡ all_lengths part_length parts
parts_long [] = refl
parts_long (part ∷ parts) =
    omega (arith, length-append (head_bytes part) (all_bytes head_bytes parts), length-append (instance_bytes part) (all_bytes instance_bytes parts), head_long part, words_long signed_word part.instances length-signed_word, parts_long parts)

body_long : (p : Pdu) → length (body_bytes p) ≡ body_length p
body_long (pdus.Error code) = length-signed_word code
body_long (pdus.Result r) = length-payload r
body_long (pdus.Profile context global parts) =
    let lists : List ℕ = all_bytes head_bytes parts ++ all_bytes instance_bytes parts in
    omega (arith, length-append (word context) (word (state_word global) ++ (word (length parts) ++ (word 0 ++ lists))), length-append (word (state_word global)) (word (length parts) ++ (word 0 ++ lists)), length-append (word (length parts)) (word 0 ++ lists), length-append (word 0) lists, length-append (all_bytes head_bytes parts) (all_bytes instance_bytes parts), length-word context, length-word (state_word global), length-word (length parts), length-word 0, parts_long parts)
body_long (pdus.Fetch context sec usec pmids) =
    let list : List ℕ = all_bytes word pmids in
    omega (arith, length-append (word context) (word sec ++ (word usec ++ (word (length pmids) ++ list))), length-append (word sec) (word usec ++ (word (length pmids) ++ list)), length-append (word usec) (word (length pmids) ++ list), length-append (word (length pmids)) list, length-word context, length-word sec, length-word usec, length-word (length pmids), words_long word pmids length-word)
body_long (pdus.DescReq pmid) = length-word pmid
body_long (pdus.Desc d) =
    omega (arith, length-append (word d.pmid) (word d.code ++ (word d.indom ++ (word d.semantics ++ word d.units))), length-append (word d.code) (word d.indom ++ (word d.semantics ++ word d.units)), length-append (word d.indom) (word d.semantics ++ word d.units), length-append (word d.semantics) (word d.units), length-word d.pmid, length-word d.code, length-word d.indom, length-word d.semantics, length-word d.units)
body_long (pdus.InstanceReq indom instance) = omega (arith, length-append (word indom) (signed_word instance), length-word indom, length-signed_word instance)
body_long (pdus.Instance indom pairs) =
    omega (arith, length-append (word indom) (word (length pairs) ++ all_bytes pair_bytes pairs), length-append (word (length pairs)) (all_bytes pair_bytes pairs), length-word indom, length-word (length pairs), all_long pair_bytes pair_length pairs pair_long)
body_long pdus.Creds = omega (arith, length-append (word 1) (word 16908288), length-word 1, length-word 16908288)
body_long (pdus.PmnsIds status pmids) =
    omega (arith, length-append (signed_word status) (word (length pmids) ++ all_bytes word pmids), length-append (word (length pmids)) (all_bytes word pmids), length-signed_word status, length-word (length pmids), words_long word pmids length-word)
body_long (pdus.PmnsNames status names) =
    omega (arith, length-append (signed_word status) (word (length names) ++ all_bytes text_bytes names), length-append (word (length names)) (all_bytes text_bytes names), length-signed_word status, length-word (length names), all_long text_bytes text_length names text_long)
body_long (pdus.PmnsChild name) = text_long name
body_long (pdus.PmnsTraverse name) = text_long name

pub written : (p : Pdu) → InRange p → pdu_length p ≤ 65536 → IsPdu (pdu_bytes p) p
unfolding pdu_bytes
written p h few =
    let long : length (body_bytes p) ≡ body_length p = body_long p in
    let size : pdu_length p ≡ 12 + length (body_bytes p) = omega arith in
    record {
      from = 0;
      body = body_bytes p;
      is = ap (λ n. word n ++ (word (code_of_type (type_of p)) ++ (word 0 ++ body_bytes p))) size;
      fits = omega arith;
      from_fits = omega arith;
      has = body_is p h (omega arith);
    }
