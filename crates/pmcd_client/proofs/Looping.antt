-- The same kind of turn for each metric, or for each domain.
use Rattle.std.proofs.Common.{◌≡◌, ℕ, ◌+◌, ◌<◌, List, [], ◌∷◌, ◌++◌, length, map, take, drop, get_or, refl, sym, ap, ◌∙◌, subst, append_assoc, arith, length-append}
use Rattle.std.proofs.lemmas.List.{map-append, append-nil, length-map, drop_more, take_more}
use Rattle.pcp_base.specs.declared.desc.Desc.{Desc}
use Rattle.pcp_outside.specs.Causes.{shown_count}
use Rattle.pcp_outside.specs.Sides.{SourceSide, SinkSide, source_side, sink_side}
use Rattle.pcp_outside.specs.declared.streams.Source.{Ghosts as SourceGhosts}
use Rattle.pcp_outside.specs.declared.streams.Sink.{Ghosts as SinkGhosts}
use Rattle.pdu_codec.specs.declared.pdu.Pdu.{Pdu}
use Rattle.pdu_codec.specs.declared.pdu.Pdu.TheVariants as pdus
use Rattle.pmcd_client.specs.declared.faults.TalkFault.{TalkFault}
use Rattle.pmcd_client.specs.declared.faults.TalkFault.TheVariants as faults
use Rattle.pmcd_client.specs.Bytes.{Passes, Stops}
use Rattle.pmcd_client.specs.Pieces.{list_reply}
use Rattle.pmcd_client.specs.Replies.{Listed, with_names}
use Rattle.pmcd_client.specs.Turns.{Turn, desc_turn, list_turn}
use Rattle.pmcd_client.proofs.Going.{passes_on, stops_on, stops_more, stops_behind}

-- no turn, no reply
pub passes_none : {I L : Type 0} (g : SourceGhosts I) (h : SinkGhosts L) (a : I) (x : L) → Passes (source_side g a a) (sink_side h x x) [] []
passes_none g h a x = record {
  answered = refl;
  taken = [];
  spelled = refl;
  took = λ tells. refl;
  wrote = λ tells. sym (append-nil (h.written x));
  stand = record { source_stands = refl; sink_stands = refl };
}

module _ {I L A B : Type 0} (turn : A → Turn) (reply : B → Pdu) (g : SourceGhosts I) (h : SinkGhosts L) (a b c : I) (x y z : L) (ks : List A) (vs : List B) (k : A)
    (so_far : Passes (source_side g a b) (sink_side h x y) (map turn ks) (map reply vs)) where
  -- one more
  pub passes_more : (v : B) → Passes (source_side g b c) (sink_side h y z) (turn k ∷ []) (reply v ∷ []) → Passes (source_side g a c) (sink_side h x z) (map turn (ks ++ k ∷ [])) (map reply (vs ++ v ∷ []))
  passes_more v p =
      subst (λ (ts : List Turn). Passes (source_side g a c) (sink_side h x z) ts (map reply (vs ++ v ∷ []))) (sym (map-append turn ks (k ∷ [])))
      (subst (λ (xs : List Pdu). Passes (source_side g a c) (sink_side h x z) (map turn ks ++ turn k ∷ []) xs) (sym (map-append reply vs (v ∷ [])))
      (passes_on g h a b c x y z (map turn ks) (turn k ∷ []) (map reply vs) (reply v ∷ []) so_far p))

  -- the next one broke off
  pub stops_next : (all rest : List A) (n m : ℕ) (e : TalkFault) → all ≡ ks ++ k ∷ rest → m ≡ shown_count (n + length vs) → Stops (source_side g b c) (sink_side h y z) (turn k ∷ []) m [] e
      → Stops (source_side g a c) (sink_side h x z) (map turn all) n (map reply vs ++ []) e
  stops_next all rest n m e is count s =
      let long : length (map reply vs) ≡ length vs = length-map vs reply in
      let at : m ≡ shown_count (n + length (map reply vs)) = omega arith in
      let whole : (map turn ks ++ turn k ∷ []) ++ map turn rest ≡ map turn all =
      append_assoc (map turn ks) (turn k ∷ []) (map turn rest) ∙ sym (map-append turn ks (k ∷ rest)) ∙ ap (map turn) (sym is) in
      subst (λ (ts : List Turn). Stops (source_side g a c) (sink_side h x z) ts n (map reply vs ++ []) e) whole
      (stops_more g h a c x z (map turn ks ++ turn k ∷ []) (map turn rest) n (map reply vs ++ []) e
      (stops_on g h a b c x y z (map turn ks) (turn k ∷ []) n m (map reply vs) [] e at so_far s))

-- memory was refused between two
pub stops_between : {I L A B : Type 0} (turn : A → Turn) (reply : B → Pdu) (g : SourceGhosts I) (h : SinkGhosts L) (a b : I) (x y : L) (ks : List A) (vs : List B) (all rest : List A) (n : ℕ)
    → Passes (source_side g a b) (sink_side h x y) (map turn ks) (map reply vs) → all ≡ ks ++ rest → Stops (source_side g a b) (sink_side h x y) (map turn all) n (map reply vs) faults.NoMemory
stops_between turn reply g h a b x y ks vs all rest n p is =
    subst (λ (ts : List Turn). Stops (source_side g a b) (sink_side h x y) ts n (map reply vs) faults.NoMemory) (sym (map-append turn ks rest) ∙ ap (map turn) (sym is))
    (stops_more g h a b x y (map turn ks) (map turn rest) n (map reply vs) faults.NoMemory (stops_behind g h a b x y (map turn ks) n (map reply vs) p))

pub count_more : (n m k : ℕ) → m ≡ shown_count (n + k) → shown_count (m + 1) ≡ shown_count (n + (k + 1))
count_more n m k e = omega arith

-- ---- descriptions

-- descriptions of the first metrics came
pub record IsTelling (i : SourceSide) (o : SinkSide) (before now : ℕ) (metrics done rest : List (ℕ × List ℕ)) (told : List (Desc × List ℕ)) : Type 0 where
  pub descs : List Desc
  pub passes : Passes i o (map desc_turn done) (map pdus.Desc descs)
  pub many : length descs ≡ length done
  pub named : told ≡ with_names descs done
  pub count : now ≡ shown_count (before + length descs)
  pub all : metrics ≡ done ++ rest

with_names-push : (ds : List Desc) (ms : List (ℕ × List ℕ)) (d : Desc) (m : ℕ × List ℕ) → length ds ≡ length ms → with_names (ds ++ d ∷ []) (ms ++ m ∷ []) ≡ with_names ds ms ++ (d, m.1) ∷ []
with_names-push [] [] d m same = refl
with_names-push [] (n ∷ ms) d m same = absurd (omega arith)
with_names-push (e ∷ ds) [] d m same = absurd (omega arith)
with_names-push (e ∷ ds) (n ∷ ms) d m same = ap (λ (l : List (Desc × List ℕ)). (e, n.1) ∷ l) (with_names-push ds ms d m (omega arith))

-- one more
pub telling_more : {I L : Type 0} (g : SourceGhosts I) (h : SinkGhosts L) (a b c : I) (x y z : L) (n m k : ℕ) (metrics done rest : List (ℕ × List ℕ)) (metric : ℕ × List ℕ) (told : List (Desc × List ℕ)) (d : Desc)
    → IsTelling (source_side g a b) (sink_side h x y) n m metrics done (metric ∷ rest) told → Passes (source_side g b c) (sink_side h y z) (desc_turn metric ∷ []) (pdus.Desc d ∷ []) → k ≡ shown_count (m + 1)
    → IsTelling (source_side g a c) (sink_side h x z) n k metrics (done ++ metric ∷ []) rest (told ++ (d, metric.1) ∷ [])
telling_more g h a b c x y z n m k metrics done rest metric told d t p count = record {
  descs = t.descs ++ d ∷ [];
  passes = passes_more desc_turn pdus.Desc g h a b c x y z done t.descs metric t.passes d p;
  many = length-append t.descs (d ∷ []) ∙ ap (λ (j : ℕ). j + 1) t.many ∙ sym (length-append done (metric ∷ []));
  named = ap (λ (l : List (Desc × List ℕ)). l ++ (d, metric.1) ∷ []) t.named ∙ sym (with_names-push t.descs done d metric t.many);
  count = count ∙ count_more n m (length t.descs) t.count ∙ ap (λ (j : ℕ). shown_count (n + j)) (sym (length-append t.descs (d ∷ [])));
  all = t.all ∙ sym (append_assoc done (metric ∷ []) rest);
}

-- ---- lists

-- lists of the first domains came
pub record IsListing (i : SourceSide) (o : SinkSide) (before now : ℕ) (indoms done rest : List ℕ) (lists : List Listed) : Type 0 where
  pub passes : Passes i o (map list_turn done) (map list_reply lists)
  pub count : now ≡ shown_count (before + length lists)
  pub all : indoms ≡ done ++ rest

pub listing_more : {I L : Type 0} (g : SourceGhosts I) (h : SinkGhosts L) (a b c : I) (x y z : L) (n m k : ℕ) (indoms done rest : List ℕ) (indom : ℕ) (lists : List Listed) (listed : Listed)
    → IsListing (source_side g a b) (sink_side h x y) n m indoms done (indom ∷ rest) lists → Passes (source_side g b c) (sink_side h y z) (list_turn indom ∷ []) (list_reply listed ∷ []) → k ≡ shown_count (m + 1)
    → IsListing (source_side g a c) (sink_side h x z) n k indoms (done ++ indom ∷ []) rest (lists ++ listed ∷ [])
listing_more g h a b c x y z n m k indoms done rest indom lists listed t p count = record {
  passes = passes_more list_turn list_reply g h a b c x y z done lists indom t.passes listed p;
  count = count ∙ count_more n m (length lists) t.count ∙ ap (λ (j : ℕ). shown_count (n + j)) (sym (length-append lists (listed ∷ [])));
  all = t.all ∙ sym (append_assoc done (indom ∷ []) rest);
}

-- the next domain is the one at the index
pub listing_at : (i : SourceSide) (o : SinkSide) (n m : ℕ) (indoms : List ℕ) (at indom : ℕ) (lists : List Listed) → at < length indoms → indom ≡ get_or indoms at indom → IsListing i o n m indoms (take at indoms) (drop at indoms) lists
    → IsListing i o n m indoms (take at indoms) (indom ∷ drop (at + 1) indoms) lists
listing_at i o n m indoms at indom lists below is t =
    subst (λ (l : List ℕ). IsListing i o n m indoms (take at indoms) l lists) (drop_more indoms at indom below ∙ ap (λ (d : ℕ). d ∷ drop (at + 1) indoms) (sym is)) t

pub taken_more : (indoms : List ℕ) (at indom : ℕ) → at < length indoms → indom ≡ get_or indoms at indom → take at indoms ++ indom ∷ [] ≡ take (at + 1) indoms
taken_more indoms at indom below is = ap (λ (d : ℕ). take at indoms ++ d ∷ []) is ∙ sym (take_more indoms at indom below)

-- no description yet
pub telling_none : {I L : Type 0} (g : SourceGhosts I) (h : SinkGhosts L) (a : I) (x : L) (n : ℕ) (metrics rest : List (ℕ × List ℕ)) (told : List (Desc × List ℕ)) → told ≡ [] → n ≡ shown_count (n + 0) → metrics ≡ rest
    → IsTelling (source_side g a a) (sink_side h x x) n n metrics [] rest told
telling_none g h a x n metrics rest told none count all = record { descs = []; passes = passes_none g h a x; many = refl; named = none; count = count; all = all }
