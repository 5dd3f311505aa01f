-- What is kept beside words stays with their form.
use Rattle.std.proofs.Common.{◌≡◌, ℕ, ℤ, List, length, map, ap, sym, subst, ◌∙◌, refl, slice_index}
use Rattle.std.specs.BTreeMap.{BTreeMap}
use Rattle.mmv_layout.specs.declared.rows.MetricRow.{MetricRow}
use Rattle.mmv_layout.specs.declared.rows.IndomRow.{IndomRow}
use Rattle.mmv_layout.specs.declared.rows.Slot.{Slot}
use Rattle.mmv_layout.specs.Form.{Form, form_of}
use Rattle.mmv_layout.specs.Rows.{layout_of}
use Rattle.mmv_layout.specs.ShapeLaws.{IsFormOf}
use Rattle.mmv_layout.proofs.FormSays.{form_said}
use Rattle.mmv_layout.proofs.Saying.{layout_says}
use Rattle.region_words.specs.Images.{mmv}
use Rattle.region_words.proofs.Inside.{slots_inside}
use Rattle.fetch_engine.specs.Kept.{IsOneForm}
use Rattle.fetch_answers.specs.Numbers.{Subject, subject_of, enumeration, HasNumbers, IsTold}

form_tells : (words : List ℕ) → mmv.IsImage words → IsFormOf (form_of words) (layout_of words)
form_tells words image = form_said words (layout_of words) (layout_says words image)

-- words of one form have the same metrics
pub one_form : (words fresh : List ℕ) → mmv.IsImage words → mmv.IsImage fresh → form_of fresh ≡ form_of words → IsOneForm words fresh
one_form words fresh was_image image form =
    let was = form_tells words was_image in
    let is = form_tells fresh image in
    record {
      form = form;
      flags = sym is.flags ∙ ap (λ (f : Form). f.flags) form ∙ was.flags;
      metrics = sym is.metrics ∙ ap (λ (f : Form). f.metrics) form ∙ was.metrics;
    }

-- what is kept beside words serves for others of their form and generation
pub told_stays : (words fresh : List ℕ) (generation : ℕ) (indexes room more : List ℕ) (flags : ℕ) (indoms : List IndomRow) (metrics : List MetricRow) (places : BTreeMap ℕ ℕ) (numbers : BTreeMap ℕ (BTreeMap ℤ ℕ))
    → IsTold words generation indexes room flags indoms metrics places numbers → mmv.IsImage fresh → form_of fresh ≡ form_of words → slice_index fresh 1 ≡ slice_index words 1 → length more ≡ length room
    → IsTold fresh generation indexes more flags indoms metrics places numbers
told_stays words fresh generation indexes room more flags indoms metrics places numbers t image form one long =
    let was = form_tells words t.image in
    let is = form_tells fresh image in
    let same_metrics : (layout_of words).metrics ≡ (layout_of fresh).metrics = sym was.metrics ∙ sym (ap (λ (f : Form). f.metrics) form) ∙ is.metrics in
    let same_subjects : map subject_of (layout_of words).values ≡ map subject_of (layout_of fresh).values = sym was.subjects ∙ sym (ap (λ (f : Form). f.subjects) form) ∙ is.subjects in
    record {
      image = image;
      generation_is = t.generation_is ∙ sym one;
      indexes_are = t.indexes_are ∙ ap (λ (slots : List Slot). map (λ (s : Slot). s.word) slots) (slots_inside words (form_of words) refl ∙ sym (slots_inside fresh (form_of words) form));
      room_is = long ∙ t.room_is;
      flags_are = t.flags_are ∙ sym was.flags ∙ sym (ap (λ (f : Form). f.flags) form) ∙ is.flags;
      indoms_are = t.indoms_are ∙ sym was.indoms ∙ sym (ap (λ (f : Form). f.indoms) form) ∙ is.indoms;
      metrics_are = t.metrics_are ∙ same_metrics;
      places_by_item = t.places_by_item;
      numbers_by_item = subst (λ (subjects : List Subject). HasNumbers numbers (enumeration 0 subjects)) same_subjects t.numbers_by_item;
    }
