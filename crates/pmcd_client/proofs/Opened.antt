-- From the calls that open a dialogue to the dialogue.
use Rattle.std.proofs.Common.{◌≡◌, ℕ, ◌+◌, ◌<◌, ◌≤◌, Bool, true, false, cond, List, [], ◌∷◌, ◌++◌, length, map, refl, sym, ap, subst, arith, length-append, None}
use Rattle.std.specs.Prelude.{Ok, Err, Result, IfErr}
use Rattle.std.proofs.lemmas.List.{append-nil, length-map}
use Rattle.pcp_base.specs.declared.desc.Desc.{Desc}
use Rattle.pcp_outside.specs.Causes.{shown_count}
use Rattle.pcp_outside.specs.Sides.{SourceSide, sink_side}
use Rattle.pcp_outside.specs.declared.streams.Sink.{Ghosts as SinkGhosts}
use Rattle.pdu_codec.specs.declared.pdu.Pdu.{Pdu}
use Rattle.pdu_codec.specs.declared.pdu.Pdu.TheVariants as pdus
use Rattle.pmcd_client.specs.declared.faults.TalkFault.{TalkFault}
use Rattle.pmcd_client.specs.Bytes.{Passes, Stops}
use Rattle.pmcd_client.specs.Pieces.{Awaits, Sends}
use Rattle.pmcd_client.specs.Replies.{Listed, has_metric, with_metric, metrics_behind, metrics_named, with_names}
use Rattle.pmcd_client.specs.Turns.{Turn, Answers, desc_turn}
use Rattle.pmcd_client.proofs.One.{passes_one, stops_sent}

-- what is handed on is told
pub told_of : {T : Type 0} (r : Result T TalkFault) (e : TalkFault) (P : TalkFault → Type 0) → r ≡ Err e → P e → IfErr r P
told_of r e P is h = subst (λ x. IfErr x P) (sym is) h

-- nothing is written for the greeting
unwritten : {L : Type 0} (h : SinkGhosts L) (x : L) → Sends (sink_side h x x) []
unwritten h x = record { wrote = λ tells. sym (append-nil (h.written x)); stands = refl }

pub greet_stops : {L : Type 0} (i : SourceSide) (h : SinkGhosts L) (x : L) (n : ℕ) (e : TalkFault) → n ≡ 0 → Awaits i n None (Err e) → Stops i (sink_side h x x) (None ∷ []) 0 [] e
greet_stops i h x n e first a = stops_sent i (sink_side h x x) 0 None e (omega arith) (unwritten h x) (subst (λ (k : ℕ). Awaits i k None (Err e)) first a)

pub greet_passes : {L : Type 0} (i : SourceSide) (h : SinkGhosts L) (x : L) (n : ℕ) (reply : Pdu) → Awaits i n None (Ok reply) → Passes i (sink_side h x x) (None ∷ []) (reply ∷ [])
greet_passes i h x n reply a = passes_one i (sink_side h x x) n None reply (unwritten h x) a

-- as many replies as turns
pub answers_length : (ts : List Turn) (xs : List Pdu) → Answers ts xs [] → length ts ≡ length xs
answers_length ts [] e = ap (λ (l : List Turn). length l) (sym e)
answers_length (t ∷ ts) (x ∷ xs) h = let rest = answers_length ts xs h.1 in omega arith
answers_length [] (x ∷ xs) h = absurd h

-- as many descriptions as metrics
pub descs_many : (ms : List (ℕ × List ℕ)) (ds : List Desc) → Answers (map desc_turn ms) (map pdus.Desc ds) [] → length ds ≡ length ms
descs_many ms ds h =
    let same = answers_length (map desc_turn ms) (map pdus.Desc ds) h in
    let one : length (map desc_turn ms) ≡ length ms = length-map ms desc_turn in
    let two : length (map pdus.Desc ds) ≡ length ds = length-map ds pdus.Desc in
    omega arith

-- their descriptions are left without the names
pub names_left : (ds : List Desc) (ms : List (ℕ × List ℕ)) → length ds ≡ length ms → map (λ m. m.0) (with_names ds ms) ≡ ds
names_left [] ms same = nothing ms
  where
    nothing : (l : List (ℕ × List ℕ)) → map (λ m. m.0) (with_names [] l) ≡ []
    nothing [] = refl
    nothing (m ∷ l) = refl
names_left (d ∷ ds) [] same = absurd (omega arith)
names_left (d ∷ ds) (m ∷ ms) same = ap (λ (l : List Desc). d ∷ l) (names_left ds ms (omega arith))

-- ---- how many metrics

with_metric-length : (seen : List (ℕ × List ℕ)) (pmid : ℕ) (name : List ℕ) → (length seen ≤ length (with_metric seen pmid name)) × (length (with_metric seen pmid name) ≤ length seen + 1)
with_metric-length seen pmid name = go (has_metric seen pmid)
  where
    go : (b : Bool) → (length seen ≤ length (cond b seen (seen ++ (pmid, name) ∷ []))) × (length (cond b seen (seen ++ (pmid, name) ∷ [])) ≤ length seen + 1)
    go true = (omega arith, omega arith)
    go false = let l = length-append seen ((pmid, name) ∷ []) in (omega arith, omega arith)

metrics_bounds : (seen : List (ℕ × List ℕ)) (pmids : List ℕ) (names : List (List ℕ)) → (length seen ≤ length (metrics_behind seen pmids names)) × (length (metrics_behind seen pmids names) ≤ length seen + length names)
metrics_bounds seen [] names = (omega arith, omega arith)
metrics_bounds seen (p ∷ pmids) [] = (omega arith, omega arith)
metrics_bounds seen (p ∷ pmids) (n ∷ names) =
    let one = with_metric-length seen p n in
    let rest = metrics_bounds (with_metric seen p n) pmids names in
    let a = one.0 in
    let b = one.1 in
    let c = rest.0 in
    let d = rest.1 in
    (omega arith, omega arith)

some_metric : (pmids : List ℕ) (names : List (List ℕ)) → length pmids ≡ length names → 0 < length names → 0 < length (metrics_named pmids names)
some_metric pmids [] same some = absurd (omega arith)
some_metric [] (n ∷ names) same some = absurd (omega arith)
some_metric (p ∷ pmids) (n ∷ names) same some = let rest = (metrics_bounds ((p, n) ∷ []) pmids names).0 in omega arith

-- at least one, and no more than names
pub metrics_many : (pmids : List ℕ) (names : List (List ℕ)) → length pmids ≡ length names → 0 < length names → (0 < length (map (λ m. m.0) (metrics_named pmids names))) × (length (map (λ m. m.0) (metrics_named pmids names)) ≤ length names)
metrics_many pmids names same some =
    let long : length (map (λ m. m.0) (metrics_named pmids names)) ≡ length (metrics_named pmids names) = length-map (metrics_named pmids names) (λ m. m.0) in
    let least = some_metric pmids names same some in
    let most = (metrics_bounds [] pmids names).1 in
    (omega arith, omega arith)

-- ---- how many replies

pub count_described : (n m : ℕ) (descs : List Desc) → m ≡ shown_count 2 → n ≡ shown_count (m + length descs) → n ≡ shown_count (2 + length (map pdus.Desc descs))
count_described n m descs first is =
    let long : length (map pdus.Desc descs) ≡ length descs = length-map descs pdus.Desc in
    omega arith

pub count_opened : (n k m : ℕ) (descs : List Desc) (lists : List Listed) → m ≡ shown_count 2 → k ≡ shown_count (m + length descs) → n ≡ shown_count (k + length lists) → n ≡ shown_count (2 + (length descs + length lists))
count_opened n k m descs lists first second third = omega arith
