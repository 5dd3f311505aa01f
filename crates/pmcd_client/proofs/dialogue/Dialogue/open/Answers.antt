use Rattle.std.proofs.Common.{◌≡◌, ◌+◌, ◌++◌, ◌∷◌, [], ℕ, List, Err, length, map, ap, ◌∙◌, subst, arith, rules}
use Rattle.pcp_base.specs.declared.desc.Desc.{Desc}
use Rattle.pcp_outside.specs.Causes.{shown_count}
use Rattle.pcp_outside.specs.Sides.{source_side, sink_side}
use Rattle.pdu_codec.specs.declared.pdu.Pdu.TheVariants as pdus
use Rattle.pmcd_client.specs.declared.faults.TalkFault.TheVariants as faults
use Rattle.pmcd_client.specs.Bytes.{Passes, Stops}
use Rattle.pmcd_client.specs.Pieces.{list_reply}
use Rattle.pmcd_client.specs.Replies.{Standing, metrics_named, domains_described, with_names}
use Rattle.pmcd_client.specs.Talks.{BreaksOff, Talks}
use Rattle.pmcd_client.specs.Turns.{desc_turn, list_turn}
use Rattle.pmcd_client.proofs.Opened.{told_of, greet_stops, greet_passes, descs_many, names_left, metrics_many, count_described, count_opened}
use Rattle.pmcd_client.proofs.Opening.{greeted, ids_reply, ungreeted, greets, unnamed, named, undescribed_memory, undescribed, described, unlisted_memory, unlisted, listed, stands_opened}
use Rattle.pmcd_client.proofs.Talking.{talks_first, breaks_first}
use Rattle.pmcd_client.proofs.dialogue.Dialogue.open.Goals as goal

pub returns-in_err-await_reply-clause-breaks : goal.returns-in_err-await_reply-clause-breaks
returns-in_err-await_reply-clause-breaks g c =
    let i = g.I.Source in
    let o = g.L.Sink in
    let names = c.args.names.now in
    let a = c.args.reply.now in
    let x = c.args.request.now in
    let b = c.await_reply.new.reply in
    let fault = c.in_err-await_reply.field-0.0 in
    let is : c.from_residual.result ≡ Err c.in_err-await_reply.field-0.0 = search rules in
    told_of c.from_residual.result fault (BreaksOff names (source_side i a b) (sink_side o x x) []) is
    (breaks_first names (source_side i a b) (sink_side o x x) [] fault (ungreeted i o names a b x fault (greet_stops (source_side i a b) o x c.new-line.result.replies fault c.new-line.ensures c.in_err-await_reply.ensures.reply)))

pub returns-in_err-pmids-clause-breaks : goal.returns-in_err-pmids-clause-breaks
returns-in_err-pmids-clause-breaks g c =
    let i = g.I.Source in
    let o = g.L.Sink in
    let names = c.args.names.now in
    let a = c.args.reply.now in
    let x = c.args.request.now in
    let b = c.await_reply.new.reply in
    let p0 = greets i o names a b x c.in_ok-await_reply.field-0 (greet_passes (source_side i a b) o x c.new-line.result.replies c.in_ok-await_reply.field-0 c.in_ok-await_reply.ensures.reply) in
    let one : c.await_reply.new.self.replies ≡ shown_count 1 = c.in_ok-await_reply.ensures.counted ∙ ap (λ (k : ℕ). shown_count (k + 1)) c.new-line.ensures in
    let d = c.ask_names.new.reply in
    let y = c.ask_names.new.request in
    let fault = c.in_err-pmids.field-0.0 in
    let is : c.from_residual-in_err-pmids.result ≡ Err c.in_err-pmids.field-0.0 = search rules in
    told_of c.from_residual-in_err-pmids.result fault (BreaksOff names (source_side i a d) (sink_side o x y) []) is
    (breaks_first names (source_side i a d) (sink_side o x y) (greeted ∷ []) fault (unnamed i o names a b x d y p0 c.await_reply.new.self.replies fault one c.in_err-pmids.ensures.done))

pub returns-in_err-named-clause-breaks : goal.returns-in_err-named-clause-breaks
returns-in_err-named-clause-breaks g c =
    let i = g.I.Source in
    let o = g.L.Sink in
    let names = c.args.names.now in
    let a = c.args.reply.now in
    let x = c.args.request.now in
    let b = c.await_reply.new.reply in
    let p0 = greets i o names a b x c.in_ok-await_reply.field-0 (greet_passes (source_side i a b) o x c.new-line.result.replies c.in_ok-await_reply.field-0 c.in_ok-await_reply.ensures.reply) in
    let one : c.await_reply.new.self.replies ≡ shown_count 1 = c.in_ok-await_reply.ensures.counted ∙ ap (λ (k : ℕ). shown_count (k + 1)) c.new-line.ensures in
    let d = c.ask_names.new.reply in
    let y = c.ask_names.new.request in
    let ids = c.in_ok-pmids.pmids in
    let p1 = named i o names a b x d y p0 ids c.in_ok-pmids.ensures.done in
    let two : c.ask_names.new.self.replies ≡ shown_count 2 = c.in_ok-pmids.ensures.counted ∙ ap (λ (k : ℕ). shown_count (k + 1)) one in
    let is : c.from_residual-in_err-named.result ≡ Err faults.NoMemory = search rules in
    told_of c.from_residual-in_err-named.result faults.NoMemory (BreaksOff names (source_side i a d) (sink_side o x y) []) is
    (breaks_first names (source_side i a d) (sink_side o x y) (greeted ∷ ids_reply ids ∷ []) faults.NoMemory (undescribed_memory i o names ids a d d x y y p1))

pub returns-in_err-pmids-2-clause-breaks : goal.returns-in_err-pmids-2-clause-breaks
returns-in_err-pmids-2-clause-breaks g c =
    let i = g.I.Source in
    let o = g.L.Sink in
    let names = c.args.names.now in
    let a = c.args.reply.now in
    let x = c.args.request.now in
    let b = c.await_reply.new.reply in
    let p0 = greets i o names a b x c.in_ok-await_reply.field-0 (greet_passes (source_side i a b) o x c.new-line.result.replies c.in_ok-await_reply.field-0 c.in_ok-await_reply.ensures.reply) in
    let one : c.await_reply.new.self.replies ≡ shown_count 1 = c.in_ok-await_reply.ensures.counted ∙ ap (λ (k : ℕ). shown_count (k + 1)) c.new-line.ensures in
    let d = c.ask_names.new.reply in
    let y = c.ask_names.new.request in
    let ids = c.in_ok-pmids.pmids in
    let p1 = named i o names a b x d y p0 ids c.in_ok-pmids.ensures.done in
    let two : c.ask_names.new.self.replies ≡ shown_count 2 = c.in_ok-pmids.ensures.counted ∙ ap (λ (k : ℕ). shown_count (k + 1)) one in
    let is : c.from_residual-in_err-pmids-2.result ≡ Err faults.NoMemory = search rules in
    told_of c.from_residual-in_err-pmids-2.result faults.NoMemory (BreaksOff names (source_side i a d) (sink_side o x y) []) is
    (breaks_first names (source_side i a d) (sink_side o x y) (greeted ∷ ids_reply ids ∷ []) faults.NoMemory (undescribed_memory i o names ids a d d x y y p1))

pub returns-in_err-metrics-clause-breaks : goal.returns-in_err-metrics-clause-breaks
returns-in_err-metrics-clause-breaks g c =
    let i = g.I.Source in
    let o = g.L.Sink in
    let names = c.args.names.now in
    let a = c.args.reply.now in
    let x = c.args.request.now in
    let b = c.await_reply.new.reply in
    let p0 = greets i o names a b x c.in_ok-await_reply.field-0 (greet_passes (source_side i a b) o x c.new-line.result.replies c.in_ok-await_reply.field-0 c.in_ok-await_reply.ensures.reply) in
    let one : c.await_reply.new.self.replies ≡ shown_count 1 = c.in_ok-await_reply.ensures.counted ∙ ap (λ (k : ℕ). shown_count (k + 1)) c.new-line.ensures in
    let d = c.ask_names.new.reply in
    let y = c.ask_names.new.request in
    let ids = c.in_ok-pmids.pmids in
    let p1 = named i o names a b x d y p0 ids c.in_ok-pmids.ensures.done in
    let two : c.ask_names.new.self.replies ≡ shown_count 2 = c.in_ok-pmids.ensures.counted ∙ ap (λ (k : ℕ). shown_count (k + 1)) one in
    let metrics : c.in_ok-named.named.items ≡ metrics_named ids names = c.in_ok-named.ensures.metrics ∙ ap (λ (p : List ℕ). metrics_named p names) c.as_slice.ensures in
    let e = c.ask_descriptions.new.reply in
    let z = c.ask_descriptions.new.request in
    let fault = c.in_err-metrics.field-0.0 in
    let is : c.from_residual-in_err-metrics.result ≡ Err c.in_err-metrics.field-0.0 = search rules in
    let s = c.in_err-metrics.ensures in
    let stops = subst (λ (ms : List (ℕ × List ℕ)). Stops (source_side i d e) (sink_side o y z) (map desc_turn ms) c.ask_names.new.self.replies s.0 fault) metrics s.1 in
    told_of c.from_residual-in_err-metrics.result fault (BreaksOff names (source_side i a e) (sink_side o x z) []) is
    (breaks_first names (source_side i a e) (sink_side o x z) (greeted ∷ ids_reply ids ∷ s.0) fault (undescribed i o names ids a d e x y z p1 c.ask_names.new.self.replies s.0 fault two stops))

pub returns-in_err-indoms-clause-breaks : goal.returns-in_err-indoms-clause-breaks
returns-in_err-indoms-clause-breaks g c =
    let i = g.I.Source in
    let o = g.L.Sink in
    let names = c.args.names.now in
    let a = c.args.reply.now in
    let x = c.args.request.now in
    let b = c.await_reply.new.reply in
    let p0 = greets i o names a b x c.in_ok-await_reply.field-0 (greet_passes (source_side i a b) o x c.new-line.result.replies c.in_ok-await_reply.field-0 c.in_ok-await_reply.ensures.reply) in
    let one : c.await_reply.new.self.replies ≡ shown_count 1 = c.in_ok-await_reply.ensures.counted ∙ ap (λ (k : ℕ). shown_count (k + 1)) c.new-line.ensures in
    let d = c.ask_names.new.reply in
    let y = c.ask_names.new.request in
    let ids = c.in_ok-pmids.pmids in
    let p1 = named i o names a b x d y p0 ids c.in_ok-pmids.ensures.done in
    let two : c.ask_names.new.self.replies ≡ shown_count 2 = c.in_ok-pmids.ensures.counted ∙ ap (λ (k : ℕ). shown_count (k + 1)) one in
    let metrics : c.in_ok-named.named.items ≡ metrics_named ids names = c.in_ok-named.ensures.metrics ∙ ap (λ (p : List ℕ). metrics_named p names) c.as_slice.ensures in
    let e = c.ask_descriptions.new.reply in
    let z = c.ask_descriptions.new.request in
    let told = c.in_ok-metrics.ensures in
    let descs = told.0 in
    let p2 =
    described i o names ids a d e x y z p1 descs (subst (λ (ms : List (ℕ × List ℕ)). Passes (source_side i d e) (sink_side o y z) (map desc_turn ms) (map pdus.Desc descs)) metrics told.1) in
    let is : c.from_residual-in_err-indoms.result ≡ Err faults.NoMemory = search rules in
    told_of c.from_residual-in_err-indoms.result faults.NoMemory (BreaksOff names (source_side i a e) (sink_side o x z) []) is
    (breaks_first names (source_side i a e) (sink_side o x z) (greeted ∷ ids_reply ids ∷ map pdus.Desc descs) faults.NoMemory (unlisted_memory i o names ids descs a e e x z z p2))

pub returns-in_err-domains-clause-breaks : goal.returns-in_err-domains-clause-breaks
returns-in_err-domains-clause-breaks g c =
    let i = g.I.Source in
    let o = g.L.Sink in
    let names = c.args.names.now in
    let a = c.args.reply.now in
    let x = c.args.request.now in
    let b = c.await_reply.new.reply in
    let p0 = greets i o names a b x c.in_ok-await_reply.field-0 (greet_passes (source_side i a b) o x c.new-line.result.replies c.in_ok-await_reply.field-0 c.in_ok-await_reply.ensures.reply) in
    let one : c.await_reply.new.self.replies ≡ shown_count 1 = c.in_ok-await_reply.ensures.counted ∙ ap (λ (k : ℕ). shown_count (k + 1)) c.new-line.ensures in
    let d = c.ask_names.new.reply in
    let y = c.ask_names.new.request in
    let ids = c.in_ok-pmids.pmids in
    let p1 = named i o names a b x d y p0 ids c.in_ok-pmids.ensures.done in
    let two : c.ask_names.new.self.replies ≡ shown_count 2 = c.in_ok-pmids.ensures.counted ∙ ap (λ (k : ℕ). shown_count (k + 1)) one in
    let metrics : c.in_ok-named.named.items ≡ metrics_named ids names = c.in_ok-named.ensures.metrics ∙ ap (λ (p : List ℕ). metrics_named p names) c.as_slice.ensures in
    let e = c.ask_descriptions.new.reply in
    let z = c.ask_descriptions.new.request in
    let told = c.in_ok-metrics.ensures in
    let descs = told.0 in
    let p2 =
    described i o names ids a d e x y z p1 descs (subst (λ (ms : List (ℕ × List ℕ)). Passes (source_side i d e) (sink_side o y z) (map desc_turn ms) (map pdus.Desc descs)) metrics told.1) in
    let many = descs_many c.in_ok-named.named.items descs told.1.answered in
    let domains : c.as_slice-4.result.now ≡ domains_described descs =
    c.as_slice-4.ensures.value
    ∙ c.in_ok-indoms.ensures
    ∙ ap (λ (ms : List (Desc × List ℕ)). domains_described (map (λ m. m.0) ms)) (c.as_slice-3.ensures ∙ told.2)
    ∙ ap domains_described (names_left descs c.in_ok-named.named.items many) in
    let f = c.ask_lists.new.reply in
    let w = c.ask_lists.new.request in
    let fault = c.in_err-domains.field-0.0 in
    let is : c.from_residual-in_err-domains.result ≡ Err c.in_err-domains.field-0.0 = search rules in
    let s = c.in_err-domains.ensures.done in
    let stops = subst (λ (ds : List ℕ). Stops (source_side i e f) (sink_side o z w) (map list_turn ds) c.ask_descriptions.new.self.replies s.0 fault) domains s.1 in
    told_of c.from_residual-in_err-domains.result fault (BreaksOff names (source_side i a f) (sink_side o x w) []) is
    (breaks_first names (source_side i a f) (sink_side o x w) (greeted ∷ ids_reply ids ∷ (map pdus.Desc descs ++ s.0)) fault
    (unlisted i o names ids descs a e f x z w p2 c.ask_descriptions.new.self.replies s.0 fault (count_described c.ask_descriptions.new.self.replies c.ask_names.new.self.replies descs two told.3) stops))

pub invariant_of-result : goal.invariant_of-result
invariant_of-result g c =
    let names = c.args.names.now in
    let ids = c.in_ok-pmids.pmids in
    let metrics : c.in_ok-named.named.items ≡ metrics_named ids names = c.in_ok-named.ensures.metrics ∙ ap (λ (p : List ℕ). metrics_named p names) c.as_slice.ensures in
    let many = metrics_many ids names c.in_ok-pmids.ensures.done.answered.0.1 c.requires.some in
    let is : c.in_ok-pmids-2.pmids ≡ map (λ m. m.0) (metrics_named ids names) = c.in_ok-pmids-2.ensures ∙ ap (λ (ms : List (ℕ × List ℕ)). map (λ m. m.0) ms) (c.as_slice-2.ensures.value ∙ metrics) in
    let long : length c.in_ok-pmids-2.pmids ≡ length (map (λ m. m.0) (metrics_named ids names)) = ap (λ (l : List ℕ). length l) is in
    let least = many.0 in
    let most = many.1 in
    let few = c.requires.few in
    (omega arith, omega arith)

pub returns-clause-talks : goal.returns-clause-talks
returns-clause-talks g c =
    let i = g.I.Source in
    let o = g.L.Sink in
    let names = c.args.names.now in
    let a = c.args.reply.now in
    let x = c.args.request.now in
    let b = c.await_reply.new.reply in
    let p0 = greets i o names a b x c.in_ok-await_reply.field-0 (greet_passes (source_side i a b) o x c.new-line.result.replies c.in_ok-await_reply.field-0 c.in_ok-await_reply.ensures.reply) in
    let one : c.await_reply.new.self.replies ≡ shown_count 1 = c.in_ok-await_reply.ensures.counted ∙ ap (λ (k : ℕ). shown_count (k + 1)) c.new-line.ensures in
    let d = c.ask_names.new.reply in
    let y = c.ask_names.new.request in
    let ids = c.in_ok-pmids.pmids in
    let p1 = named i o names a b x d y p0 ids c.in_ok-pmids.ensures.done in
    let two : c.ask_names.new.self.replies ≡ shown_count 2 = c.in_ok-pmids.ensures.counted ∙ ap (λ (k : ℕ). shown_count (k + 1)) one in
    let metrics : c.in_ok-named.named.items ≡ metrics_named ids names = c.in_ok-named.ensures.metrics ∙ ap (λ (p : List ℕ). metrics_named p names) c.as_slice.ensures in
    let e = c.ask_descriptions.new.reply in
    let z = c.ask_descriptions.new.request in
    let told = c.in_ok-metrics.ensures in
    let descs = told.0 in
    let p2 =
    described i o names ids a d e x y z p1 descs (subst (λ (ms : List (ℕ × List ℕ)). Passes (source_side i d e) (sink_side o y z) (map desc_turn ms) (map pdus.Desc descs)) metrics told.1) in
    let many = descs_many c.in_ok-named.named.items descs told.1.answered in
    let domains : c.as_slice-4.result.now ≡ domains_described descs =
    c.as_slice-4.ensures.value
    ∙ c.in_ok-indoms.ensures
    ∙ ap (λ (ms : List (Desc × List ℕ)). domains_described (map (λ m. m.0) ms)) (c.as_slice-3.ensures ∙ told.2)
    ∙ ap domains_described (names_left descs c.in_ok-named.named.items many) in
    let f = c.ask_lists.new.reply in
    let w = c.ask_lists.new.request in
    let lists = c.in_ok-domains.domains in
    let all =
    listed i o names ids descs a e f x z w p2 lists (subst (λ (ds : List ℕ). Passes (source_side i e f) (sink_side o z w) (map list_turn ds) (map list_reply lists)) domains c.in_ok-domains.ensures.done) in
    let pmids : c.in_ok-pmids-2.pmids ≡ map (λ m. m.0) (metrics_named ids names) = c.in_ok-pmids-2.ensures ∙ ap (λ (ms : List (ℕ × List ℕ)). map (λ m. m.0) ms) (c.as_slice-2.ensures.value ∙ metrics) in
    let stands =
    stands_opened names ids descs lists c.in_ok-pmids-2.pmids c.in_ok-metrics.metrics c.ask_lists.new.self.replies pmids (told.2 ∙ ap (λ (ms : List (ℕ × List ℕ)). with_names descs ms) metrics)
    (count_opened c.ask_lists.new.self.replies c.ask_descriptions.new.self.replies c.ask_names.new.self.replies descs lists two told.3 c.in_ok-domains.ensures.counted) in
    subst (λ (s : Standing). Talks names (source_side i a f) (sink_side o x w) [] s) stands (talks_first names (source_side i a f) (sink_side o x w) (greeted ∷ ids_reply ids ∷ (map pdus.Desc descs ++ map list_reply lists)) all)
