-- Where nothing that was asked for is there, a command writes nothing and has no other refusal.
use Rattle.std.proofs.Common.{◌≡◌, inl, inr, ℕ, List, refl, sym, ◌∙◌, subst, Option, Some, None}
use Rattle.pcp_base.specs.Time.{Moment}
use Rattle.pcp_base.specs.declared.file.FileId.{FileId}
use Rattle.pcp_base.specs.declared.result.ValueSet.{ValueSet}
use Rattle.archive_meta.specs.Said.{metric_of_name}
use Rattle.archive_loading.specs.Loaded.{Loaded}
use Rattle.archive_reader.specs.Asked.{at_begin, IsAtFrom}
use Rattle.archive_reader.specs.declared.fault.ReaderFault.TheVariants as faults
use Rattle.archive_reader.specs.Values.{IsValueAt, IsValueFault}
use Rattle.archive_reader.proofs.Downward.{value_answers_once}
use Rattle.archive_reader.proofs.Once.{at_answers_once}
use Rattle.archive_reader.proofs.OnceLoaded.{load_answers_once}
use Rattle.pm_words.specs.declared.refusal.Refusal.{Refusal}
use Rattle.pm_words.specs.declared.refusal.Refusal.TheVariants.{Compressed, NotArchive, Nothing}
use Rattle.pm_words.specs.declared.words.ValueWords.{ValueWords}
use Rattle.pm_words.specs.Refusals.{status_of}
use Rattle.pm_words.specs.Sides.{Found}
use Rattle.pm_tasks.specs.Archives.{IsLoaded, IsNotLoaded}
use Rattle.pm_tasks.specs.commands.at as at
use Rattle.pm_tasks.specs.commands.value as value

wrapped_not : (w : Option FileId) (file : FileId) → w ≡ None → w ≡ Some file → ⊥
wrapped_not w file none some = let e : None ≡ Some file = sym none ∙ some in cc

none_or_some : (A : Type 0) (x : A) (o : Option A) → o ≡ None → o ≡ Some x → ⊥
none_or_some A x o none some = let e : None ≡ Some x = sym none ∙ some in cc

-- files that are loaded aren't refused, and are loaded in one way
not_refused : (f : Found) (r : Loaded) → IsLoaded f r → (e : Refusal) → IsNotLoaded f e → ⊥
not_refused f r loaded (Compressed file) n = wrapped_not f.wrapped file loaded.unwrapped n
not_refused f r loaded (NotArchive file offset) n = (load_answers_once f.files).apart r file offset loaded.over n.1
not_refused f r loaded _ n = n

one_load : (f : Found) (r s : Loaded) → IsLoaded f r → IsLoaded f s → s ≡ r
one_load f r s a b = (load_answers_once f.files).kept s r b.over a.over

-- ---- the last item not after a moment

abbrev no_item : Found → Moment → Loaded → Type 0
no_item f t r = IsAtFrom f.files r.volumes t (at_begin r t) None

at_else : (t : Moment) (f : Found) (r : Loaded) → no_item f t r → (e : Refusal) → at.IsStopped t r f e → status_of e ≡ 11
at_else t f r none (NotArchive file offset) why = absurd ((at_answers_once f.files r t).apart None file offset none why)
at_else t f r none (Nothing stamp) why = refl
at_else t f r none _ why = absurd why

pub at_nothing : (t : Moment) (f : Found) (stamp : Moment) (e : Refusal) → at.IsTurnedAway t f (Nothing stamp) → at.IsTurnedAway t f e → status_of e ≡ 11
at_nothing t f stamp e (inl n) other = absurd n
at_nothing t f stamp e (inr b) (inl n) = absurd (not_refused f b.0 b.1 e n)
at_nothing t f stamp e (inr b) (inr c) = at_else t f b.0 b.2.1 e (subst (λ (r : Loaded). at.IsStopped t r f e) (one_load f b.0 c.0 b.1 c.1) c.2)

pub at_said : (t : Moment) (f : Found) (stamp : Moment) (text : List ℕ) → at.IsTurnedAway t f (Nothing stamp) → at.IsOutput t f text → ⊥
at_said t f stamp text (inl n) said = n
at_said t f stamp text (inr b) said =
    let found : IsAtFrom f.files b.0.volumes t (at_begin b.0 t) (Some said.2) = subst (λ (r : Loaded). IsAtFrom f.files r.volumes t (at_begin r t) (Some said.2)) (one_load f b.0 said.0 b.1 said.1) said.3 in
    let e : None ≡ Some said.2 = (at_answers_once f.files b.0 t).found None (Some said.2) b.2.1 found in cc

-- ---- the values that a metric last had

value_else : (asked : ValueWords) (f : Found) (r : Loaded) (o : Option ℕ) → metric_of_name r.records asked.name ≡ o → value.HasNothing f r asked.stamp o → (e : Refusal) → value.IsStopped asked r f e → status_of e ≡ 11
value_else asked f r None is none (NotArchive file offset) why = absurd (none_or_some ℕ why.0 (metric_of_name r.records asked.name) is why.1)
value_else asked f r (Some pmid) is none (NotArchive file offset) why =
    let same : Some why.0 ≡ Some pmid = sym why.1 ∙ is in
    let one : why.0 ≡ pmid = cc in
    absurd ((value_answers_once f.files r pmid asked.stamp).apart None file offset none.0 (subst (λ (p : ℕ). IsValueFault f.files r.volumes p asked.stamp (faults.NotArchive file offset)) one why.2))
value_else asked f r o is none (Nothing stamp) why = refl
value_else asked f r o is none _ why = absurd why

pub value_nothing : (asked : ValueWords) (f : Found) (stamp : Moment) (e : Refusal) → value.IsTurnedAway asked f (Nothing stamp) → value.IsTurnedAway asked f e → status_of e ≡ 11
value_nothing asked f stamp e (inl n) other = absurd n
value_nothing asked f stamp e (inr b) (inl n) = absurd (not_refused f b.0 b.1 e n)
value_nothing asked f stamp e (inr b) (inr c) =
    value_else asked f b.0 (metric_of_name b.0.records asked.name) refl b.2.1 e (subst (λ (r : Loaded). value.IsStopped asked r f e) (one_load f b.0 c.0 b.1 c.1) c.2)

value_none : (asked : ValueWords) (f : Found) (r : Loaded) (o : Option ℕ) → metric_of_name r.records asked.name ≡ o → value.HasNothing f r asked.stamp o → (pmid : ℕ) → metric_of_name r.records asked.name ≡ Some pmid
    → (v : Moment × ValueSet) → IsValueAt f.files r.volumes pmid asked.stamp (Some v) → ⊥
value_none asked f r None is none pmid also v found = none_or_some ℕ pmid (metric_of_name r.records asked.name) is also
value_none asked f r (Some other) is none pmid also v found =
    let same : Some pmid ≡ Some other = sym also ∙ is in
    let one : pmid ≡ other = cc in
    let here : IsValueAt f.files r.volumes other asked.stamp (Some v) = subst (λ (p : ℕ). IsValueAt f.files r.volumes p asked.stamp (Some v)) one found in
    let e : None ≡ Some v = (value_answers_once f.files r other asked.stamp).found None (Some v) none.0 here in cc

pub value_said : (asked : ValueWords) (f : Found) (stamp : Moment) (text : List ℕ) → value.IsTurnedAway asked f (Nothing stamp) → value.IsOutput asked f text → ⊥
value_said asked f stamp text (inl n) said = n
value_said asked f stamp text (inr b) said =
    let same = one_load f b.0 said.0 b.1 said.1 in
    let v = said.4.0 in
    value_none asked f b.0 (metric_of_name b.0.records asked.name) refl b.2.1 said.2
    (subst (λ (r : Loaded). metric_of_name r.records asked.name ≡ Some said.2) same said.3) v
    (subst (λ (r : Loaded). IsValueAt f.files r.volumes said.2 asked.stamp (Some v)) same said.4.1)
