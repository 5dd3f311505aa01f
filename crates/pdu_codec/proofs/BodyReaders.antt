-- The readers of bodies, by their grammars.
use Rattle.std.proofs.Common.{◌≡◌, ℕ, ℤ, Bool, List, [], ◌∷◌, Result, Ok, Err, refl}
use Rattle.pdu_codec.specs.declared.fault.PduFault.{PduFault}
use Rattle.pdu_codec.specs.declared.lists.Head.{Head}
use Rattle.pdu_codec.specs.declared.pdu.Pdu.TheVariants as pdus
use Rattle.pdu_codec.specs.declared.types.PduType.TheVariants as types
use Rattle.pdu_codec.specs.Reading.{◌>>=◌, signed_at, state_at, text_at, pair_at, head_at, many, part_of, one_part, parts_at, error_at, profile_at, fetch_at, desc_req_at, desc_at, instance_req_at, instance_at, creds_at, ids_at, names_at, child_at, traverse_at}
use Rattle.pdu_codec.specs.Grammar.{Signed, State, TextField, Pair, HeadField, Parts, zero_word}
use Rattle.pdu_codec.specs.Bodies.{body_of}
use Rattle.pdu_codec.proofs.Readers.{Reads, Code, code, plain, next, list_of, same_reads, is_reads}
use Rattle.pdu_codec.proofs.FieldReaders.{word_code, skip, signed_reads, state_reads}
use Rattle.pdu_codec.proofs.TextReaders.{text_reads, pair_reads}

abbrev signed_code : Code ℤ
signed_code = code Signed signed_at signed_reads

abbrev state_code : Code Bool
state_code = code State state_at state_reads

abbrev text_code : Code (List ℕ)
text_code = code TextField text_at text_reads

abbrev pair_code : Code (ℤ × List ℕ)
pair_code = code Pair pair_at pair_reads

-- ---- parts of a profile

head_reads : Reads HeadField head_at
unfolding head_at
head_reads = (next word_code (λ indom. next state_code (λ include. next word_code (λ count. skip zero_word (plain (record { indom = indom; include = include; count = count })))))).reads

regroup_part : {A B C : Type 0} (r : Result (A × ℕ) PduFault) (f : A → B) (g : B × ℕ → Result C PduFault) → ((r >>= λ x. Ok (f x.0, x.1)) >>= g) ≡ (r >>= λ x. g (f x.0, x.1))
regroup_part (Ok x) f g = refl
regroup_part (Err e) f g = refl

parts_reads : (heads : List Head) → Reads (Parts heads) (λ bytes at. parts_at bytes heads at)
unfolding parts_at
parts_reads [] = is_reads []
parts_reads (head ∷ heads) =
    let all = next (list_of signed_code head.count) (λ instances. next (code (Parts heads) (λ bytes at. parts_at bytes heads at) (parts_reads heads)) (λ parts. plain (part_of head instances ∷ parts))) in
    same_reads (Parts (head ∷ heads)) all.read (λ bytes at. one_part bytes head at >>= λ part. parts_at bytes heads part.1 >>= λ others. Ok (part.0 ∷ others.0, others.1)) all.reads
    (λ bytes at. regroup_part (many signed_at bytes head.count at) (part_of head) (λ part. parts_at bytes heads part.1 >>= λ others. Ok (part.0 ∷ others.0, others.1)))

-- ---- bodies

pub error_reads : Reads (body_of types.Error) error_at
unfolding error_at
error_reads = (next signed_code (λ status. plain (pdus.Error status))).reads

pub profile_reads : Reads (body_of types.Profile) profile_at
unfolding profile_at
profile_reads =
    (next word_code (λ context. next state_code (λ global. next word_code (λ count.
    skip zero_word (next (list_of (code HeadField head_at head_reads) count) (λ heads. next (code (Parts heads) (λ bytes at. parts_at bytes heads at) (parts_reads heads)) (λ parts. plain (pdus.Profile context global parts)))))))).reads

pub fetch_reads : Reads (body_of types.Fetch) fetch_at
unfolding fetch_at
fetch_reads = (next word_code (λ context. next word_code (λ sec. next word_code (λ usec. next word_code (λ count. next (list_of word_code count) (λ pmids. plain (pdus.Fetch context sec usec pmids))))))).reads

pub desc_req_reads : Reads (body_of types.DescReq) desc_req_at
unfolding desc_req_at
desc_req_reads = (next word_code (λ pmid. plain (pdus.DescReq pmid))).reads

pub desc_reads : Reads (body_of types.Desc) desc_at
unfolding desc_at
desc_reads =
    (next word_code (λ pmid. next word_code (λ number. next word_code (λ indom. next word_code (λ semantics. next word_code (λ units.
    plain (pdus.Desc (record { pmid = pmid; code = number; indom = indom; semantics = semantics; units = units })))))))).reads

pub instance_req_reads : Reads (body_of types.InstanceReq) instance_req_at
unfolding instance_req_at
instance_req_reads = (next word_code (λ indom. next signed_code (λ instance. plain (pdus.InstanceReq indom instance)))).reads

pub instance_reads : Reads (body_of types.Instance) instance_at
unfolding instance_at
instance_reads = (next word_code (λ indom. next word_code (λ count. next (list_of pair_code count) (λ pairs. plain (pdus.Instance indom pairs))))).reads

pub creds_reads : Reads (body_of types.Creds) creds_at
unfolding creds_at
creds_reads = (skip (0 ∷ 0 ∷ 0 ∷ 1 ∷ 1 ∷ 2 ∷ 0 ∷ 0 ∷ []) (plain pdus.Creds)).reads

pub ids_reads : Reads (body_of types.PmnsIds) ids_at
unfolding ids_at
ids_reads = (next signed_code (λ status. next word_code (λ count. next (list_of word_code count) (λ pmids. plain (pdus.PmnsIds status pmids))))).reads

pub names_reads : Reads (body_of types.PmnsNames) names_at
unfolding names_at
names_reads = (next signed_code (λ status. next word_code (λ count. next (list_of text_code count) (λ names. plain (pdus.PmnsNames status names))))).reads

pub child_reads : Reads (body_of types.PmnsChild) child_at
unfolding child_at
child_reads = (next text_code (λ name. plain (pdus.PmnsChild name))).reads

pub traverse_reads : Reads (body_of types.PmnsTraverse) traverse_at
unfolding traverse_at
traverse_reads = (next text_code (λ name. plain (pdus.PmnsTraverse name))).reads
