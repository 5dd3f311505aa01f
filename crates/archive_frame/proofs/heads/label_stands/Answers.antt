use Rattle.std.proofs.Common.{◌≡◌, ◌∙◌, ap, subst, ℕ, ℤ, List, take, to_z, of_z, w32}
use Rattle.std.proofs.lemmas.Int.{to_z-of_z}
use Rattle.archive_frame.specs.Labels.{LabelInRange}
use Rattle.pcp_model.specs.Labels.{label, HasText, IsLabel}
use Rattle.archive_frame.specs.Misfits.{IsFirstMisfit}
use Rattle.archive_frame.proofs.Labels.{back_bytes}
use Rattle.archive_frame.specs.Heads.{FieldStands, StopsIn}
use Rattle.archive_frame.proofs.Chains.{head_there, written_head_stops, host_stops, zone_stops, back_stops, label_there, on_ok, if_err}
use Rattle.archive_frame.proofs.heads.label_stands.Goals as goal

pub returns-in-Err-clause-stop : goal.returns-in-Err-clause-stop
returns-in-Err-clause-stop c =
    let l = c.args.label.now in
    let n = c.args.number in
    let e : to_z w32 (of_z w32 n) ≡ n = to_z-of_z w32 n c.ranges.number in
    let range = subst (LabelInRange l) e c.label_bytes-whole.ensures.range in
    let written = ap (take 24) c.label_bytes-whole.ensures.bytes ∙ ap (λ (k : ℤ). take 24 (label l k)) e in
    written_head_stops l n range c.args.bytes.now c.requires.few (take 24 c.label_bytes-whole.result) written c.in-Err.stop c.in-Err.ensures.stop

pub returns-in-Err-text_stands-clause-stop : goal.returns-in-Err-text_stands-clause-stop
returns-in-Err-text_stands-clause-stop c =
    let l = c.args.label.now in
    let b = c.args.bytes.now in
    let n = c.args.number in
    let e : to_z w32 (of_z w32 n) ≡ n = to_z-of_z w32 n c.ranges.number in
    let range = subst (LabelInRange l) e c.label_bytes-whole.ensures.range in
    let written = ap (take 24) c.label_bytes-whole.ensures.bytes ∙ ap (λ (k : ℤ). take 24 (label l k)) e in
    let h = head_there l n range b c.requires.few (take 24 c.label_bytes-whole.result) written c.in_default.ensures.there in
    let same = c.as_slice.ensures.value ∙ c.host.ensures.value in
    host_stops l c.args.number range b c.requires.few h c.in-Err-text_stands.stop
    (subst (λ (x : List ℕ). StopsIn (λ t. HasText 64 t x) 64 b 24 c.in-Err-text_stands.stop) same c.in-Err-text_stands.ensures.stop)

pub returns-in-Err-text_stands-2-clause-stop : goal.returns-in-Err-text_stands-2-clause-stop
returns-in-Err-text_stands-2-clause-stop c =
    let l = c.args.label.now in
    let b = c.args.bytes.now in
    let n = c.args.number in
    let e : to_z w32 (of_z w32 n) ≡ n = to_z-of_z w32 n c.ranges.number in
    let range = subst (LabelInRange l) e c.label_bytes-whole.ensures.range in
    let written = ap (take 24) c.label_bytes-whole.ensures.bytes ∙ ap (λ (k : ℤ). take 24 (label l k)) e in
    let h = head_there l n range b c.requires.few (take 24 c.label_bytes-whole.result) written c.in_default.ensures.there in
    let o = subst (λ (x : List ℕ). FieldStands (λ t. HasText 64 t x) 64 b 24) (c.as_slice.ensures.value ∙ c.host.ensures.value) c.in_default-text_stands.ensures.there in
    let same = c.as_slice-2.ensures.value ∙ c.zone.ensures.value in
    zone_stops l c.args.number range b c.requires.few h o c.in-Err-text_stands-2.stop
    (subst (λ (x : List ℕ). StopsIn (λ t. HasText 40 t x) 40 b 88 c.in-Err-text_stands-2.stop) same c.in-Err-text_stands-2.ensures.stop)

pub returns-clause-label : goal.returns-clause-label
returns-clause-label c =
    let l = c.args.label.now in
    let b = c.args.bytes.now in
    let n = c.args.number in
    let e : to_z w32 (of_z w32 n) ≡ n = to_z-of_z w32 n c.ranges.number in
    let range = subst (LabelInRange l) e c.label_bytes-whole.ensures.range in
    let written = ap (take 24) c.label_bytes-whole.ensures.bytes ∙ ap (λ (k : ℤ). take 24 (label l k)) e in
    let h = head_there l n range b c.requires.few (take 24 c.label_bytes-whole.result) written c.in_default.ensures.there in
    let o = subst (λ (x : List ℕ). FieldStands (λ t. HasText 64 t x) 64 b 24) (c.as_slice.ensures.value ∙ c.host.ensures.value) c.in_default-text_stands.ensures.there in
    let z = subst (λ (x : List ℕ). FieldStands (λ t. HasText 40 t x) 40 b 88) (c.as_slice-2.ensures.value ∙ c.zone.ensures.value) c.in_default-text_stands-2.ensures.there in
    on_ok c.stands-2.result (FieldStands (λ t. t ≡ back_bytes) 4 b 128) (IsLabel b l c.args.number) c.stands-2.ensures.there (label_there l c.args.number range b c.requires.few h o z)

pub returns-clause-stop : goal.returns-clause-stop
returns-clause-stop c =
    let l = c.args.label.now in
    let b = c.args.bytes.now in
    let n = c.args.number in
    let e : to_z w32 (of_z w32 n) ≡ n = to_z-of_z w32 n c.ranges.number in
    let range = subst (LabelInRange l) e c.label_bytes-whole.ensures.range in
    let written = ap (take 24) c.label_bytes-whole.ensures.bytes ∙ ap (λ (k : ℤ). take 24 (label l k)) e in
    let h = head_there l n range b c.requires.few (take 24 c.label_bytes-whole.result) written c.in_default.ensures.there in
    let o = subst (λ (x : List ℕ). FieldStands (λ t. HasText 64 t x) 64 b 24) (c.as_slice.ensures.value ∙ c.host.ensures.value) c.in_default-text_stands.ensures.there in
    let z = subst (λ (x : List ℕ). FieldStands (λ t. HasText 40 t x) 40 b 88) (c.as_slice-2.ensures.value ∙ c.zone.ensures.value) c.in_default-text_stands-2.ensures.there in
    if_err c.stands-2.result (StopsIn (λ t. t ≡ back_bytes) 4 b 128) (IsFirstMisfit (λ t. IsLabel t l c.args.number) b) c.stands-2.ensures.stop
    (λ offset s. back_stops l c.args.number range b c.requires.few h o z offset s)
