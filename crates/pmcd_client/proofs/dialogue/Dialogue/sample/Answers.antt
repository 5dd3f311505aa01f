use Rattle.std.proofs.Common.{◌≡◌, ◌-◌, ◌∷◌, [], ℕ, List, Err, true, false, map, refl, sym, ap, ◌∙◌, subst, arith, rules, true≢false}
use Rattle.std.proofs.lemmas.Grind.{common_steps}
use Rattle.pcp_base.specs.declared.result.ValueSet.{ValueSet}
use Rattle.archive_meta.specs.Enough.{AreEnough}
use Rattle.archive_meta.specs.declared.facts.Facts.{Facts}
use Rattle.pcp_outside.specs.Sides.{source_side, sink_side}
use Rattle.pdu_codec.specs.declared.pdu.Pdu.TheVariants as pdus
use Rattle.pmcd_client.specs.declared.faults.ReplyFault.TheVariants as whys
use Rattle.pmcd_client.specs.declared.faults.TalkFault.TheVariants as faults
use Rattle.pmcd_client.specs.Bytes.{Passes, Stops}
use Rattle.pmcd_client.specs.Items.{lacking, renewed, sampled}
use Rattle.pmcd_client.specs.Pieces.{list_reply}
use Rattle.pmcd_client.specs.Replies.{Standing, Listed}
use Rattle.pmcd_client.specs.Talks.{BreaksOff, Talks}
use Rattle.pmcd_client.specs.Turns.{list_turn, sampling}
use Rattle.pmcd_client.proofs.Going.{stops_behind}
use Rattle.pmcd_client.proofs.Opened.{told_of}
use Rattle.pmcd_client.proofs.Opening.{lists_behind}
use Rattle.pmcd_client.proofs.Sampling.{samples, fetched_memory, unlisted, count_sampled, becomes_sampled, is_sampled, sets_fit}
use Rattle.pmcd_client.proofs.Talking.{talks_on, breaks_on, unlisted_on}
use Rattle.pmcd_client.proofs.dialogue.Dialogue.sample.Goals as goal

pub returns-in_err-answer-clause-breaks : goal.returns-in_err-answer-clause-breaks
returns-in_err-answer-clause-breaks g c = λ names first begun items t.
    let i = g.I.Source in
    let o = g.L.Sink in
    let a = c.args.reply.now in
    let x = c.args.request.now in
    let b = c.ask_values.new.reply in
    let y = c.ask_values.new.request in
    let s : Standing = record { pmids = c.self.inside.pmids; facts = c.self.inside.facts; replies = c.self.inside.line.replies } in
    let so = subst (λ (u : Standing). Talks names (source_side i first a) (sink_side o begun x) items u) (sym c.self.view_is) t in
    let fault = c.in_err-answer.field-0.0 in
    let is : c.from_residual.result ≡ Err c.in_err-answer.field-0.0 = search rules in
    told_of c.from_residual.result fault (BreaksOff names (source_side i first b) (sink_side o begun y) items) is (breaks_on i o first a b begun x y names items s [] fault so c.in_err-answer.ensures.done)

pub returns-in_err-indoms-clause-breaks : goal.returns-in_err-indoms-clause-breaks
returns-in_err-indoms-clause-breaks g c = λ names first begun items t.
    let i = g.I.Source in
    let o = g.L.Sink in
    let a = c.args.reply.now in
    let x = c.args.request.now in
    let b = c.ask_values.new.reply in
    let y = c.ask_values.new.request in
    let s : Standing = record { pmids = c.self.inside.pmids; facts = c.self.inside.facts; replies = c.self.inside.line.replies } in
    let so = subst (λ (u : Standing). Talks names (source_side i first a) (sink_side o begun x) items u) (sym c.self.view_is) t in
    let r = c.in_ok-answer.answer in
    let m = c.ask_values.new.self.replies in
    let is : c.from_residual-in_err-indoms.result ≡ Err faults.NoMemory = search rules in
    told_of c.from_residual-in_err-indoms.result faults.NoMemory (BreaksOff names (source_side i first b) (sink_side o begun y) items) is
    (breaks_on i o first a b begun x y names items s (pdus.Result r ∷ []) faults.NoMemory so (fetched_memory i o s r a b b x y y c.in_ok-answer.ensures.done s.replies))

pub returns-in_err-fresh-clause-breaks : goal.returns-in_err-fresh-clause-breaks
returns-in_err-fresh-clause-breaks g c = λ names first begun items t.
    let i = g.I.Source in
    let o = g.L.Sink in
    let a = c.args.reply.now in
    let x = c.args.request.now in
    let b = c.ask_values.new.reply in
    let y = c.ask_values.new.request in
    let s : Standing = record { pmids = c.self.inside.pmids; facts = c.self.inside.facts; replies = c.self.inside.line.replies } in
    let so = subst (λ (u : Standing). Talks names (source_side i first a) (sink_side o begun x) items u) (sym c.self.view_is) t in
    let r = c.in_ok-answer.answer in
    let m = c.ask_values.new.self.replies in
    let d = c.ask_lists.new.reply in
    let z = c.ask_lists.new.request in
    let domains : c.as_slice-2.result.now ≡ lacking c.self.inside.facts r.sets = c.as_slice-2.ensures.value ∙ c.in_ok-indoms.ensures ∙ ap (λ (sets : List ValueSet). lacking c.self.inside.facts sets) c.as_slice.ensures in
    let fault = c.in_err-fresh.field-0.0 in
    let is : c.from_residual-in_err-fresh.result ≡ Err c.in_err-fresh.field-0.0 = search rules in
    let q = c.in_err-fresh.ensures.done in
    let stops = subst (λ (ds : List ℕ). Stops (source_side i b d) (sink_side o y z) (map list_turn ds) m q.0 fault) domains q.1 in
    told_of c.from_residual-in_err-fresh.result fault (BreaksOff names (source_side i first d) (sink_side o begun z) items) is
    (breaks_on i o first a d begun x z names items s (pdus.Result r ∷ q.0) fault so (unlisted i o s r a b d x y z c.in_ok-answer.ensures.done s.replies m q.0 fault c.in_ok-answer.ensures.counted stops))

pub returns-in_err-renew-clause-breaks : goal.returns-in_err-renew-clause-breaks
returns-in_err-renew-clause-breaks g c = λ names first begun items t.
    let i = g.I.Source in
    let o = g.L.Sink in
    let a = c.args.reply.now in
    let x = c.args.request.now in
    let b = c.ask_values.new.reply in
    let y = c.ask_values.new.request in
    let s : Standing = record { pmids = c.self.inside.pmids; facts = c.self.inside.facts; replies = c.self.inside.line.replies } in
    let so = subst (λ (u : Standing). Talks names (source_side i first a) (sink_side o begun x) items u) (sym c.self.view_is) t in
    let r = c.in_ok-answer.answer in
    let m = c.ask_values.new.self.replies in
    let d = c.ask_lists.new.reply in
    let z = c.ask_lists.new.request in
    let domains : c.as_slice-2.result.now ≡ lacking c.self.inside.facts r.sets = c.as_slice-2.ensures.value ∙ c.in_ok-indoms.ensures ∙ ap (λ (sets : List ValueSet). lacking c.self.inside.facts sets) c.as_slice.ensures in
    let fresh = c.in_ok-fresh.fresh in
    let own = pdus.Result r ∷ map list_reply fresh in
    let all =
    samples i o s r a b d x y z c.in_ok-answer.ensures.done fresh (subst (λ (ds : List ℕ). Passes (source_side i b d) (sink_side o y z) (map list_turn ds) (map list_reply fresh)) domains c.in_ok-fresh.ensures.done) in
    let is : c.from_residual-in_err-renew.result ≡ Err faults.NoMemory = search rules in
    told_of c.from_residual-in_err-renew.result faults.NoMemory (BreaksOff names (source_side i first d) (sink_side o begun z) items) is
    (breaks_on i o first a d begun x z names items s own faults.NoMemory so (stops_behind i o a d x z (sampling s own) s.replies own all))

pub returns-then-not-are_enough-clause-breaks : goal.returns-then-not-are_enough-clause-breaks
returns-then-not-are_enough-clause-breaks g c = λ names first begun items t.
    let i = g.I.Source in
    let o = g.L.Sink in
    let a = c.args.reply.now in
    let x = c.args.request.now in
    let b = c.ask_values.new.reply in
    let y = c.ask_values.new.request in
    let s : Standing = record { pmids = c.self.inside.pmids; facts = c.self.inside.facts; replies = c.self.inside.line.replies } in
    let so = subst (λ (u : Standing). Talks names (source_side i first a) (sink_side o begun x) items u) (sym c.self.view_is) t in
    let r = c.in_ok-answer.answer in
    let m = c.ask_values.new.self.replies in
    let d = c.ask_lists.new.reply in
    let z = c.ask_lists.new.request in
    let domains : c.as_slice-2.result.now ≡ lacking c.self.inside.facts r.sets = c.as_slice-2.ensures.value ∙ c.in_ok-indoms.ensures ∙ ap (λ (sets : List ValueSet). lacking c.self.inside.facts sets) c.as_slice.ensures in
    let fresh = c.in_ok-fresh.fresh in
    let own = pdus.Result r ∷ map list_reply fresh in
    let all =
    samples i o s r a b d x y z c.in_ok-answer.ensures.done fresh (subst (λ (ds : List ℕ). Passes (source_side i b d) (sink_side o y z) (map list_turn ds) (map list_reply fresh)) domains c.in_ok-fresh.ensures.done) in
    let facts : c.renew.new.facts ≡ renewed c.self.inside.facts fresh = c.in_ok-renew.ensures ∙ ap (λ (ls : List Listed). renewed c.self.inside.facts ls) c.as_slice-3.ensures in
    let no : c.are_enough.result ≡ false = first_of (search rules, grind (arith, common_steps)) in
    let k = c.ask_lists.new.self.replies in
    let last : c.saturating_sub.result ≡ k - 1 = first_of (search rules, grind (arith, common_steps)) in
    let count = count_sampled s.replies m k r fresh c.in_ok-answer.ensures.counted c.in_ok-fresh.ensures.counted in
    unlisted_on i o first a d begun x z names items s own (map list_reply fresh) r (faults.Peer c.saturating_sub.result whys.Shape) so all refl
    (λ (enough : AreEnough (sampled s own).facts r.sets).
    let told = subst (λ (ls : List Listed). AreEnough (renewed c.self.inside.facts ls) r.sets) (lists_behind fresh) enough in
    let now = subst (λ (f : Facts). AreEnough f r.sets) (sym facts) told in
    let yes = c.are_enough.ensures.1 (subst (λ (sets : List ValueSet). AreEnough c.renew.new.facts sets) (sym c.as_slice-4.ensures) now) in
    true≢false (sym yes ∙ no))
    (ap (λ (n : ℕ). faults.Peer n whys.Shape) (last ∙ ap (λ (n : ℕ). n - 1) count))

pub returns-clause-talks : goal.returns-clause-talks
returns-clause-talks g c = λ names first begun items t.
    let i = g.I.Source in
    let o = g.L.Sink in
    let a = c.args.reply.now in
    let x = c.args.request.now in
    let b = c.ask_values.new.reply in
    let y = c.ask_values.new.request in
    let s : Standing = record { pmids = c.self.inside.pmids; facts = c.self.inside.facts; replies = c.self.inside.line.replies } in
    let so = subst (λ (u : Standing). Talks names (source_side i first a) (sink_side o begun x) items u) (sym c.self.view_is) t in
    let r = c.in_ok-answer.answer in
    let m = c.ask_values.new.self.replies in
    let d = c.ask_lists.new.reply in
    let z = c.ask_lists.new.request in
    let domains : c.as_slice-2.result.now ≡ lacking c.self.inside.facts r.sets = c.as_slice-2.ensures.value ∙ c.in_ok-indoms.ensures ∙ ap (λ (sets : List ValueSet). lacking c.self.inside.facts sets) c.as_slice.ensures in
    let fresh = c.in_ok-fresh.fresh in
    let own = pdus.Result r ∷ map list_reply fresh in
    let all =
    samples i o s r a b d x y z c.in_ok-answer.ensures.done fresh (subst (λ (ds : List ℕ). Passes (source_side i b d) (sink_side o y z) (map list_turn ds) (map list_reply fresh)) domains c.in_ok-fresh.ensures.done) in
    let facts : c.renew.new.facts ≡ renewed c.self.inside.facts fresh = c.in_ok-renew.ensures ∙ ap (λ (ls : List Listed). renewed c.self.inside.facts ls) c.as_slice-3.ensures in
    let yes : c.are_enough.result ≡ true = first_of (search rules, grind (arith, common_steps)) in
    let after : Standing = record { pmids = c.self.inside.pmids; facts = c.renew.new.facts; replies = c.ask_lists.new.self.replies } in
    let enough = subst (λ (sets : List ValueSet). AreEnough c.renew.new.facts sets) c.as_slice-4.ensures (c.are_enough.ensures.0 yes) in
    let becomes = becomes_sampled s after r fresh m refl facts c.in_ok-answer.ensures.counted c.in_ok-fresh.ensures.counted in
    talks_on i o first a d begun x z names items s own (record { result = r; facts = c.renew.new.facts }) after so (is_sampled i o a d x z s after r fresh all becomes enough) all

pub returns-clause-fits : goal.returns-clause-fits
returns-clause-fits g c =
    let p = c.in_ok-answer.ensures.done.spelled in
    sets_fit p.0 c.in_ok-answer.answer p.3.is
