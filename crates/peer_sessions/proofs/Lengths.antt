-- How many bytes are written of a PDU.
use Rattle.std.proofs.Common.{◌≡◌, ℕ, ℤ, suc, ◌+◌, ◌*◌, List, [], ◌∷◌, ◌++◌, length, refl, ◌∙◌, arith, length-append}
use Rattle.std.proofs.lemmas.List.{length-replicate}
use Rattle.profile_filter.specs.declared.profile.DomainPart.{DomainPart}
use Rattle.pcp_model.specs.Words.{word, signed_word, length-word, length-signed_word, zeros}
use Rattle.pcp_model.specs.Payload.{filling}
use Rattle.pcp_model.proofs.Spelled.{length-payload}
use Rattle.pdu_codec.specs.declared.pdu.Pdu.{Pdu}
use Rattle.pdu_codec.specs.declared.pdu.Pdu.TheVariants as pdus
use Rattle.pdu_codec.specs.Types.{code_of_type, type_of}
use Rattle.pdu_codec.specs.Grammar.{state_word}
use Rattle.pdu_codec.specs.Spelling.{all_bytes, all_lengths, text_bytes, text_length, pair_bytes, pair_length, head_bytes, instance_bytes, part_length, body_bytes, body_length, pdu_length, pdu_bytes}

all_long : {X : Type 0} (bytes : X → List ℕ) (size : X → ℕ) (xs : List X) → ((x : X) → length (bytes x) ≡ size x) → length (all_bytes bytes xs) ≡ all_lengths size xs
all_long bytes size [] each = refl
all_long bytes size (x ∷ xs) each = length-append (bytes x) (all_bytes bytes xs) ∙ (let e : length (bytes x) + length (all_bytes bytes xs) ≡ size x + all_lengths size xs = omega (arith, each x, all_long bytes size xs each) in e)

words_long : {X : Type 0} (bytes : X → List ℕ) (xs : List X) → ((x : X) → length (bytes x) ≡ 4) → length (all_bytes bytes xs) ≡ 4 * length xs
words_long bytes [] each = omega arith
words_long bytes (x ∷ xs) each = length-append (bytes x) (all_bytes bytes xs) ∙ (let e : length (bytes x) + length (all_bytes bytes xs) ≡ 4 * suc (length xs) = omega (arith, each x, words_long bytes xs each) in e)

text_long : (t : List ℕ) → length (text_bytes t) ≡ text_length t
text_long t = omega (arith, length-append (word (length t)) (t ++ zeros (filling (length t))), length-word (length t), length-append t (zeros (filling (length t))), length-replicate {A = ℕ} (filling (length t)) 0)

pair_long : (p : ℤ × List ℕ) → length (pair_bytes p) ≡ pair_length p
pair_long p = omega (arith, length-append (signed_word p.0) (text_bytes p.1), length-signed_word p.0, text_long p.1)

head_long : (part : DomainPart) → length (head_bytes part) ≡ 16
head_long part =
    omega (arith, length-append (word part.indom) (word (state_word part.include) ++ (word (length part.instances) ++ word 0)), length-append (word (state_word part.include)) (word (length part.instances) ++ word 0), length-append (word (length part.instances)) (word 0), length-word part.indom, length-word (state_word part.include), length-word (length part.instances), length-word 0)

parts_long : (parts : List DomainPart) → length (all_bytes head_bytes parts) + length (all_bytes instance_bytes parts) ≡ all_lengths part_length parts
parts_long [] = refl
parts_long (part ∷ parts) =
    omega (arith, length-append (head_bytes part) (all_bytes head_bytes parts), length-append (instance_bytes part) (all_bytes instance_bytes parts), head_long part, words_long signed_word part.instances length-signed_word, parts_long parts)

body_long : (p : Pdu) → length (body_bytes p) ≡ body_length p
body_long (pdus.Error code) = length-signed_word code
body_long (pdus.Result r) = length-payload r
body_long (pdus.Profile context global parts) =
    let lists : List ℕ = all_bytes head_bytes parts ++ all_bytes instance_bytes parts in
    omega (arith, length-append (word context) (word (state_word global) ++ (word (length parts) ++ (word 0 ++ lists))), length-append (word (state_word global)) (word (length parts) ++ (word 0 ++ lists)), length-append (word (length parts)) (word 0 ++ lists), length-append (word 0) lists, length-append (all_bytes head_bytes parts) (all_bytes instance_bytes parts), length-word context, length-word (state_word global), length-word (length parts), length-word 0, parts_long parts)
body_long (pdus.Fetch context sec usec pmids) =
    let list : List ℕ = all_bytes word pmids in
    omega (arith, length-append (word context) (word sec ++ (word usec ++ (word (length pmids) ++ list))), length-append (word sec) (word usec ++ (word (length pmids) ++ list)), length-append (word usec) (word (length pmids) ++ list), length-append (word (length pmids)) list, length-word context, length-word sec, length-word usec, length-word (length pmids), words_long word pmids length-word)
body_long (pdus.DescReq pmid) = length-word pmid
body_long (pdus.Desc d) =
    omega (arith, length-append (word d.pmid) (word d.code ++ (word d.indom ++ (word d.semantics ++ word d.units))), length-append (word d.code) (word d.indom ++ (word d.semantics ++ word d.units)), length-append (word d.indom) (word d.semantics ++ word d.units), length-append (word d.semantics) (word d.units), length-word d.pmid, length-word d.code, length-word d.indom, length-word d.semantics, length-word d.units)
body_long (pdus.InstanceReq indom instance) = omega (arith, length-append (word indom) (signed_word instance), length-word indom, length-signed_word instance)
body_long (pdus.Instance indom pairs) =
    omega (arith, length-append (word indom) (word (length pairs) ++ all_bytes pair_bytes pairs), length-append (word (length pairs)) (all_bytes pair_bytes pairs), length-word indom, length-word (length pairs), all_long pair_bytes pair_length pairs pair_long)
body_long pdus.Creds = omega (arith, length-append (word 1) (word 16908288), length-word 1, length-word 16908288)
body_long (pdus.PmnsIds status pmids) =
    omega (arith, length-append (signed_word status) (word (length pmids) ++ all_bytes word pmids), length-append (word (length pmids)) (all_bytes word pmids), length-signed_word status, length-word (length pmids), words_long word pmids length-word)
body_long (pdus.PmnsNames status names) =
    omega (arith, length-append (signed_word status) (word (length names) ++ all_bytes text_bytes names), length-append (word (length names)) (all_bytes text_bytes names), length-signed_word status, length-word (length names), all_long text_bytes text_length names text_long)
body_long (pdus.PmnsChild name) = text_long name
body_long (pdus.PmnsTraverse name) = text_long name

pub pdu_long : (p : Pdu) → length (pdu_bytes p) ≡ pdu_length p
unfolding pdu_bytes
pdu_long p =
    let code : ℕ = code_of_type (type_of p) in
    omega (arith, length-append (word (pdu_length p)) (word code ++ (word 0 ++ body_bytes p)), length-append (word code) (word 0 ++ body_bytes p), length-append (word 0) (body_bytes p), length-word (pdu_length p), length-word code, length-word 0, body_long p)
