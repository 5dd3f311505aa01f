-- The turns before the first fetch.
use Rattle.std.proofs.Common.{◌≡◌, ℕ, ◌+◌, List, [], ◌∷◌, ◌++◌, length, map, refl, sym, ap, ◌∙◌, subst, arith, length-append, None, Some}
use Rattle.std.proofs.lemmas.List.{length-map}
use Rattle.std.specs.Prelude.{pos}
use Rattle.pcp_base.specs.declared.desc.Desc.{Desc}
use Rattle.pcp_outside.specs.Causes.{shown_count}
use Rattle.pcp_outside.specs.Sides.{source_side, sink_side}
use Rattle.pcp_outside.specs.declared.streams.Source.{Ghosts as SourceGhosts}
use Rattle.pcp_outside.specs.declared.streams.Sink.{Ghosts as SinkGhosts}
use Rattle.pdu_codec.specs.declared.pdu.Pdu.{Pdu}
use Rattle.pdu_codec.specs.declared.pdu.Pdu.TheVariants as pdus
use Rattle.pmcd_client.specs.declared.faults.TalkFault.{TalkFault}
use Rattle.pmcd_client.specs.declared.faults.TalkFault.TheVariants as faults
use Rattle.pmcd_client.specs.Bytes.{Passes, Stops}
use Rattle.pmcd_client.specs.Pieces.{list_reply}
use Rattle.pmcd_client.specs.Replies.{Listed, Standing, opened, metrics_named, domains_described, pmids_in, descs_of, descs_in, lists_in, with_names}
use Rattle.pmcd_client.specs.Turns.{Turn, Fits, Answers, opening, desc_turn, list_turn}
use Rattle.pmcd_client.proofs.Going.{passes_on, stops_on, stops_more, stops_behind}

-- a greeting that fits is ERROR 0
pub greeting_is : (g : Pdu) → Fits None g → g ≡ pdus.Error (pos 0)
greeting_is (pdus.Error code) f = ap pdus.Error f
greeting_is (pdus.Result r) f = absurd f
greeting_is (pdus.Profile context global parts) f = absurd f
greeting_is (pdus.Fetch context sec usec pmids) f = absurd f
greeting_is (pdus.DescReq pmid) f = absurd f
greeting_is (pdus.Desc d) f = absurd f
greeting_is (pdus.InstanceReq indom instance) f = absurd f
greeting_is (pdus.Instance indom pairs) f = absurd f
greeting_is pdus.Creds f = absurd f
greeting_is (pdus.PmnsIds status pmids) f = absurd f
greeting_is (pdus.PmnsNames status names) f = absurd f
greeting_is (pdus.PmnsChild name) f = absurd f
greeting_is (pdus.PmnsTraverse name) f = absurd f

-- no list of instances is a description
no_desc : (d : ℕ) (x : Pdu) → Fits (list_turn d) x → descs_of x ≡ []
no_desc d (pdus.Error code) f = refl
no_desc d (pdus.Result r) f = refl
no_desc d (pdus.Profile context global parts) f = refl
no_desc d (pdus.Fetch context sec usec pmids) f = refl
no_desc d (pdus.DescReq pmid) f = refl
no_desc d (pdus.Desc e) f = absurd f
no_desc d (pdus.InstanceReq indom instance) f = refl
no_desc d (pdus.Instance indom pairs) f = refl
no_desc d pdus.Creds f = refl
no_desc d (pdus.PmnsIds status pmids) f = refl
no_desc d (pdus.PmnsNames status names) f = refl
no_desc d (pdus.PmnsChild name) f = refl
no_desc d (pdus.PmnsTraverse name) f = refl

no_descs : (ds : List ℕ) (xs : List Pdu) (rest : List Turn) → Answers (map list_turn ds) xs rest → descs_in xs ≡ []
no_descs ds [] rest h = refl
no_descs [] (x ∷ xs) rest h = absurd h
no_descs (d ∷ ds) (x ∷ xs) rest h = ap (λ (l : List Desc). l ++ descs_in xs) (no_desc d x h.0) ∙ no_descs ds xs rest h.1

-- standings with equal parts are equal
same_standing : (p q : List ℕ) (m n : List (Desc × List ℕ)) (d e : List Listed) (j k : ℕ) → p ≡ q → m ≡ n → d ≡ e → j ≡ k
    → ◌≡◌ {A = Standing} (record { pmids = p; facts = record { metrics = m; domains = d }; replies = j }) (record { pmids = q; facts = record { metrics = n; domains = e }; replies = k })
same_standing p q m n d e j k a b c f = cc

two_more : (n : ℕ) (xs : List Pdu) → n ≡ shown_count (2 + length xs) → n ≡ shown_count (0 + length (pdus.Error (pos 0) ∷ pdus.Error (pos 0) ∷ xs))
two_more n xs e = omega arith

-- the descriptions in front are all
descs_front : (ds : List Desc) (xs : List Pdu) → descs_in xs ≡ [] → descs_in (map pdus.Desc ds ++ xs) ≡ ds
descs_front [] xs none = none
descs_front (d ∷ ds) xs none = ap (λ (l : List Desc). d ∷ l) (descs_front ds xs none)

pub lists_behind : (ls : List Listed) → lists_in (map list_reply ls) ≡ ls
lists_behind [] = refl
lists_behind (l ∷ ls) = ap (λ (m : List Listed). l ∷ m) (lists_behind ls)

lists_front : (ds : List Desc) (ls : List Listed) → lists_in (map pdus.Desc ds ++ map list_reply ls) ≡ ls
lists_front [] ls = lists_behind ls
lists_front (d ∷ ds) ls = lists_front ds ls

replies_count : (ds : List Desc) (ls : List Listed) → length (map pdus.Desc ds ++ map list_reply ls) ≡ length ds + length ls
replies_count ds ls =
    let both = length-append (map pdus.Desc ds) (map list_reply ls) in
    let first : length (map pdus.Desc ds) ≡ length ds = length-map ds pdus.Desc in
    let second : length (map list_reply ls) ≡ length ls = length-map ls list_reply in
    omega arith

abbrev pub names_turn : List (List ℕ) → Turn
names_turn names = Some (pdus.PmnsNames (pos 0) names)

abbrev pub greeted : Pdu
greeted = pdus.Error (pos 0)

abbrev pub ids_reply : List ℕ → Pdu
ids_reply ids = pdus.PmnsIds (pos 0) ids

-- what follows the names, as far as replies tell
abbrev pub told_turns : List (List ℕ) → List Pdu → List Turn
told_turns names xs = map desc_turn (metrics_named (pmids_in xs) names) ++ map list_turn (domains_described (descs_in xs))

-- the turns when all descriptions came, and some lists
all_turns : (names : List (List ℕ)) (ids : List ℕ) (descs : List Desc) (xs : List Pdu) → descs_in xs ≡ []
    → opening names (greeted ∷ ids_reply ids ∷ (map pdus.Desc descs ++ xs)) ≡ None ∷ names_turn names ∷ (map desc_turn (metrics_named ids names) ++ map list_turn (domains_described descs))
all_turns names ids descs xs none =
    ap (λ (ds : List Desc). None ∷ names_turn names ∷ (map desc_turn (metrics_named ids names) ++ map list_turn (domains_described ds))) (descs_front descs xs none)

no_list_desc : (ls : List Listed) → descs_in (map list_reply ls) ≡ []
no_list_desc [] = refl
no_list_desc (l ∷ ls) = no_list_desc ls

module _ {I L : Type 0} (g : SourceGhosts I) (h : SinkGhosts L) (names : List (List ℕ)) (a b : I) (x : L) where
  -- no greeting that fits came
  pub ungreeted : (e : TalkFault) → Stops (source_side g a b) (sink_side h x x) (None ∷ []) 0 [] e → Stops (source_side g a b) (sink_side h x x) (opening names []) 0 [] e
  ungreeted e s = stops_more g h a b x x (None ∷ []) (names_turn names ∷ told_turns names []) 0 [] e s

  pub greets : (r : Pdu) → Passes (source_side g a b) (sink_side h x x) (None ∷ []) (r ∷ []) → Passes (source_side g a b) (sink_side h x x) (None ∷ []) (greeted ∷ [])
  greets r p = subst (λ (q : Pdu). Passes (source_side g a b) (sink_side h x x) (None ∷ []) (q ∷ [])) (greeting_is r p.answered.0) p

  module _ (c : I) (y : L) (greets : Passes (source_side g a b) (sink_side h x x) (None ∷ []) (greeted ∷ [])) where
    -- memory was refused, or the names weren't answered
    pub unnamed_memory : Stops (source_side g a b) (sink_side h x x) (opening names (greeted ∷ [])) 0 (greeted ∷ []) faults.NoMemory
    unnamed_memory = stops_more g h a b x x (None ∷ []) (names_turn names ∷ told_turns names (greeted ∷ [])) 0 (greeted ∷ []) faults.NoMemory (stops_behind g h a b x x (None ∷ []) 0 (greeted ∷ []) greets)

    pub unnamed : (n : ℕ) (e : TalkFault) → n ≡ shown_count 1 → Stops (source_side g b c) (sink_side h x y) (names_turn names ∷ []) n [] e
        → Stops (source_side g a c) (sink_side h x y) (opening names (greeted ∷ [])) 0 (greeted ∷ []) e
    unnamed n e count s =
        stops_more g h a c x y (None ∷ names_turn names ∷ []) (told_turns names (greeted ∷ [])) 0 (greeted ∷ []) e
        (stops_on g h a b c x x y (None ∷ []) (names_turn names ∷ []) 0 n (greeted ∷ []) [] e count greets s)

    pub named : (ids : List ℕ) → Passes (source_side g b c) (sink_side h x y) (names_turn names ∷ []) (ids_reply ids ∷ []) → Passes (source_side g a c) (sink_side h x y) (None ∷ names_turn names ∷ []) (greeted ∷ ids_reply ids ∷ [])
    named ids p = passes_on g h a b c x x y (None ∷ []) (names_turn names ∷ []) (greeted ∷ []) (ids_reply ids ∷ []) greets p

module _ {I L : Type 0} (g : SourceGhosts I) (h : SinkGhosts L) (names : List (List ℕ)) (ids : List ℕ) (a c d : I) (x y z : L)
    (named : Passes (source_side g a c) (sink_side h x y) (None ∷ names_turn names ∷ []) (greeted ∷ ids_reply ids ∷ [])) where
  pub undescribed_memory : Stops (source_side g a c) (sink_side h x y) (opening names (greeted ∷ ids_reply ids ∷ [])) 0 (greeted ∷ ids_reply ids ∷ []) faults.NoMemory
  undescribed_memory =
      stops_more g h a c x y (None ∷ names_turn names ∷ []) (told_turns names (greeted ∷ ids_reply ids ∷ [])) 0 (greeted ∷ ids_reply ids ∷ []) faults.NoMemory
      (stops_behind g h a c x y (None ∷ names_turn names ∷ []) 0 (greeted ∷ ids_reply ids ∷ []) named)

  -- a description didn't come
  pub undescribed : (n : ℕ) (xs : List Pdu) (e : TalkFault) → n ≡ shown_count 2 → Stops (source_side g c d) (sink_side h y z) (map desc_turn (metrics_named ids names)) n xs e
      → Stops (source_side g a d) (sink_side h x z) (opening names (greeted ∷ ids_reply ids ∷ xs)) 0 (greeted ∷ ids_reply ids ∷ xs) e
  undescribed n xs e count s =
      stops_more g h a d x z (None ∷ names_turn names ∷ map desc_turn (metrics_named ids names)) (map list_turn (domains_described (descs_in (greeted ∷ ids_reply ids ∷ xs)))) 0 (greeted ∷ ids_reply ids ∷ xs) e
      (stops_on g h a c d x y z (None ∷ names_turn names ∷ []) (map desc_turn (metrics_named ids names)) 0 n (greeted ∷ ids_reply ids ∷ []) xs e count named s)

  pub described : (descs : List Desc) → Passes (source_side g c d) (sink_side h y z) (map desc_turn (metrics_named ids names)) (map pdus.Desc descs)
      → Passes (source_side g a d) (sink_side h x z) (None ∷ names_turn names ∷ map desc_turn (metrics_named ids names)) (greeted ∷ ids_reply ids ∷ map pdus.Desc descs)
  described descs p = passes_on g h a c d x y z (None ∷ names_turn names ∷ []) (map desc_turn (metrics_named ids names)) (greeted ∷ ids_reply ids ∷ []) (map pdus.Desc descs) named p

module _ {I L : Type 0} (g : SourceGhosts I) (h : SinkGhosts L) (names : List (List ℕ)) (ids : List ℕ) (descs : List Desc) (a d e : I) (x z w : L)
    (described : Passes (source_side g a d) (sink_side h x z) (None ∷ names_turn names ∷ map desc_turn (metrics_named ids names)) (greeted ∷ ids_reply ids ∷ map pdus.Desc descs)) where
  abbrev replies_to : List Pdu → List Pdu
  replies_to xs = greeted ∷ ids_reply ids ∷ (map pdus.Desc descs ++ xs)

  pub unlisted_memory : Stops (source_side g a d) (sink_side h x z) (opening names (greeted ∷ ids_reply ids ∷ map pdus.Desc descs)) 0 (greeted ∷ ids_reply ids ∷ map pdus.Desc descs) faults.NoMemory
  unlisted_memory =
      stops_more g h a d x z (None ∷ names_turn names ∷ map desc_turn (metrics_named ids names)) (map list_turn (domains_described (descs_in (greeted ∷ ids_reply ids ∷ map pdus.Desc descs)))) 0 (greeted ∷ ids_reply ids ∷ map pdus.Desc descs) faults.NoMemory
      (stops_behind g h a d x z (None ∷ names_turn names ∷ map desc_turn (metrics_named ids names)) 0 (greeted ∷ ids_reply ids ∷ map pdus.Desc descs) described)

  -- a list didn't come
  pub unlisted : (n : ℕ) (xs : List Pdu) (f : TalkFault) → n ≡ shown_count (2 + length (map pdus.Desc descs)) → Stops (source_side g d e) (sink_side h z w) (map list_turn (domains_described descs)) n xs f
      → Stops (source_side g a e) (sink_side h x w) (opening names (replies_to xs)) 0 (replies_to xs) f
  unlisted n xs f count s =
      subst (λ (ts : List Turn). Stops (source_side g a e) (sink_side h x w) ts 0 (replies_to xs) f) (sym (all_turns names ids descs xs (no_descs (domains_described descs) xs s.rest s.answered)))
      (stops_on g h a d e x z w (None ∷ names_turn names ∷ map desc_turn (metrics_named ids names)) (map list_turn (domains_described descs)) 0 n (greeted ∷ ids_reply ids ∷ map pdus.Desc descs) xs f (two_more n (map pdus.Desc descs) count) described s)

  pub listed : (ls : List Listed) → Passes (source_side g d e) (sink_side h z w) (map list_turn (domains_described descs)) (map list_reply ls)
      → Passes (source_side g a e) (sink_side h x w) (opening names (replies_to (map list_reply ls))) (replies_to (map list_reply ls))
  listed ls p =
      subst (λ (ts : List Turn). Passes (source_side g a e) (sink_side h x w) ts (replies_to (map list_reply ls))) (sym (all_turns names ids descs (map list_reply ls) (no_list_desc ls)))
      (passes_on g h a d e x z w (None ∷ names_turn names ∷ map desc_turn (metrics_named ids names)) (map list_turn (domains_described descs)) (greeted ∷ ids_reply ids ∷ map pdus.Desc descs) (map list_reply ls) described p)

-- how a dialogue stands when all came
pub stands_opened : (names : List (List ℕ)) (ids : List ℕ) (descs : List Desc) (ls : List Listed) (pmids : List ℕ) (metrics : List (Desc × List ℕ)) (n : ℕ)
    → pmids ≡ map (λ m. m.0) (metrics_named ids names) → metrics ≡ with_names descs (metrics_named ids names) → n ≡ shown_count (2 + (length descs + length ls))
    → opened names (greeted ∷ ids_reply ids ∷ (map pdus.Desc descs ++ map list_reply ls)) ≡ record { pmids = pmids; facts = record { metrics = metrics; domains = ls }; replies = n }
stands_opened names ids descs ls pmids metrics n p m k =
    let d : descs_in (map pdus.Desc descs ++ map list_reply ls) ≡ descs = descs_front descs (map list_reply ls) (no_list_desc ls) in
    let l : lists_in (map pdus.Desc descs ++ map list_reply ls) ≡ ls = lists_front descs ls in
    let c = replies_count descs ls in
    let count : shown_count (length (greeted ∷ ids_reply ids ∷ (map pdus.Desc descs ++ map list_reply ls))) ≡ n = omega arith in
    same_standing (map (λ e. e.0) (metrics_named ids names)) pmids (with_names (descs_in (map pdus.Desc descs ++ map list_reply ls)) (metrics_named ids names)) metrics (lists_in (map pdus.Desc descs ++ map list_reply ls)) ls
    (shown_count (length (greeted ∷ ids_reply ids ∷ (map pdus.Desc descs ++ map list_reply ls)))) n (sym p) (ap (λ (ds : List Desc). with_names ds (metrics_named ids names)) d ∙ sym m) l count
