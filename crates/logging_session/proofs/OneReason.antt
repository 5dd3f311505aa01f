-- An archive that doesn't take a result has one reason for it: what is asked of it has one answer.
use Rattle.std.proofs.Common.{◌≡◌, ◌≢◌, inl, inr, ℕ, ℤ, ◌+◌, ◌<◌, ◌≤◌, List, [], ◌∷◌, ◌++◌, length, Option, None, Some, refl, sym, ap, ap₂, ◌∙◌, subst, arith, length-append}
use Rattle.std.specs.Prelude.{min}
use Rattle.pcp_base.specs.Time.{Moment, microseconds}
use Rattle.pcp_base.specs.declared.desc.Desc.{Desc}
use Rattle.pcp_base.specs.declared.file.FileId.{FileId}
use Rattle.pcp_base.specs.declared.file.FileId.TheVariants.{Meta, Index, Volume}
use Rattle.pcp_base.specs.declared.result.Item.{Item}
use Rattle.pcp_base.specs.declared.result.PmResult.{PmResult}
use Rattle.pcp_base.specs.declared.result.ValueSet.{ValueSet}
use Rattle.pcp_model.specs.declared.records.Entry.{Entry}
use Rattle.pcp_model.specs.declared.records.MetaRecord.{MetaRecord}
use Rattle.pcp_model.specs.declared.records.MetaRecord.TheVariants.{Description, Domain, Other}
use Rattle.pcp_model.specs.Archive.{ArchiveContents, ArchiveReading, IsArchive, Reads}
use Rattle.pcp_model.specs.Described.{EachStamp, HoldsAt}
use Rattle.pcp_model.specs.Disk.{Files, IsEmpty}
use Rattle.pcp_model.specs.LabelFields.{LabelFields}
use Rattle.pcp_model.specs.Laws.{EndsWhole}
use Rattle.pcp_model.specs.Payload.{payload_length}
use Rattle.pcp_model.specs.Recovered.{Recovers}
use Rattle.pcp_model.proofs.OneReading.{one_reading}
use Rattle.archive_meta.specs.declared.facts.Changed.{Changed as Change}
use Rattle.archive_meta.specs.declared.facts.Facts.{Facts}
use Rattle.archive_meta.specs.Facts.{FitSets, IsFirstChange}
use Rattle.archive_meta.specs.Missing.{AreMissing, AreMissingDomains, Lacks, domains_of, framed_records, large_length, listed_from, missing_descriptions}
use Rattle.logger_core.specs.declared.ends.Ends.{Ends}
use Rattle.logger_core.specs.declared.fault.LogFault.{LogFault}
use Rattle.logger_core.specs.declared.fault.LogFault.TheVariants.{Closed, Live, Large, NotLater, Changed, Full, NoMemory, DiskFault}
use Rattle.logger_core.specs.Created.{no_items}
use Rattle.logger_core.specs.Logging.{AreFramed, HasNoPlace, HasPlace, IsFull, IsLater, IsLoggable, IsRefused}
use Rattle.logger_core.specs.Meant.{AreEnds}
use Rattle.logger_core.specs.Reopening.{as_found}
use Rattle.logger_core.specs.Steps.{IsStampIn}
pub use Rattle.logger_core.proofs.Greatest.{one_moment}
use Rattle.logging_session.proofs.ComeBack.{same_left}

-- ---- one list of pairs holds of a domain at a moment

module _ (i : ℕ) (t : Moment) where
  each_behind : (P : Moment → Type 0) (r : MetaRecord) (rs : List MetaRecord) → EachStamp i P (r ∷ rs) → EachStamp i P rs
  each_behind P (Description d names) rs e = e
  each_behind P (Domain s j pairs) rs e = e.1
  each_behind P Other rs e = e

  each_at : (P : Moment → Type 0) (b : List MetaRecord) (s : Moment) (q : List (ℤ × List ℕ)) (h : List MetaRecord) → EachStamp i P (b ++ Domain s i q ∷ h) → P s
  each_at P [] s q h e = e.0 refl
  each_at P (r ∷ b) s q h e = each_at P b s q h (each_behind P r (b ++ Domain s i q ∷ h) e)

  abbrev UpTo : Moment → Moment → Type 0
  UpTo greatest s = microseconds s ≤ microseconds t → microseconds s ≤ microseconds greatest

  abbrev Before : Moment → Moment → Type 0
  Before last s = microseconds s ≤ microseconds t → microseconds s < microseconds last

  -- the one that stands further in front isn't the last of the greatest
  not_two : (b : List MetaRecord) (r : MetaRecord) (s u : Moment) (p q : List (ℤ × List ℕ)) (h k : List MetaRecord) → r ≡ Domain s i p → h ≡ b ++ Domain u i q ∷ k → microseconds s ≤ microseconds t → microseconds u ≤ microseconds t
      → EachStamp i (Before s) h → EachStamp i (UpTo u) (r ∷ b) → ⊥
  not_two b r s u p q h k first behind in_time in_time_too last greatest =
      let low : microseconds u < microseconds s = each_at (Before s) b u q k (subst (EachStamp i (Before s)) behind last) in_time_too in
      let high : microseconds s ≤ microseconds u = (subst (λ (x : MetaRecord). EachStamp i (UpTo u) (x ∷ b)) first greatest).0 refl in_time in
      omega (arith, low, high)

  one_split : (a b : List MetaRecord) (s u : Moment) (p q : List (ℤ × List ℕ)) (h k : List MetaRecord) → a ++ Domain s i p ∷ h ≡ b ++ Domain u i q ∷ k → microseconds s ≤ microseconds t → microseconds u ≤ microseconds t
      → EachStamp i (UpTo s) a → EachStamp i (Before s) h → EachStamp i (UpTo u) b → EachStamp i (Before u) k → p ≡ q
  one_split [] [] s u p q h k is in_time in_time_too ga la gb lb = cc
  one_split [] (r ∷ b) s u p q h k is in_time in_time_too ga la gb lb = absurd (not_two b r s u p q h k (let e : r ≡ Domain s i p = cc in e) (let e : h ≡ b ++ Domain u i q ∷ k = cc in e) in_time in_time_too la gb)
  one_split (r ∷ a) [] s u p q h k is in_time in_time_too ga la gb lb = absurd (not_two a r u s q p k h (let e : r ≡ Domain u i q = cc in e) (let e : k ≡ a ++ Domain s i p ∷ h = cc in e) in_time_too in_time lb ga)
  one_split (r ∷ a) (x ∷ b) s u p q h k is in_time in_time_too ga la gb lb =
      one_split a b s u p q h k (let e : a ++ Domain s i p ∷ h ≡ b ++ Domain u i q ∷ k = cc in e) in_time in_time_too (each_behind (UpTo s) r a ga) la (each_behind (UpTo u) x b gb) lb

  pub one_holds : (records : List MetaRecord) (p q : List (ℤ × List ℕ)) → HoldsAt records i t p → HoldsAt records i t q → p ≡ q
  one_holds records p q x y = one_split x.before y.before x.stamp y.stamp p q x.behind y.behind (sym x.is ∙ y.is) x.not_after y.not_after x.greatest x.last y.greatest y.last

-- ---- one list of records is missing

not_lacking : (records : List MetaRecord) (t : Moment) (d : ℕ × List (ℤ × List ℕ)) → HoldsAt records d.0 t d.1 → Lacks records t d → ⊥
not_lacking records t d holds (inl none) = none d.1 holds
not_lacking records t d holds (inr (pairs, other, apart)) = apart (one_holds d.0 t records pairs d.1 other holds)

one_lacking : (records : List MetaRecord) (t : Moment) (ds : List (ℕ × List (ℤ × List ℕ))) (a b : List MetaRecord) → AreMissingDomains records t ds a → AreMissingDomains records t ds b → a ≡ b
one_lacking records t [] a b x y = x ∙ sym y
one_lacking records t (d ∷ ds) a b (inl x) (inl y) = one_lacking records t ds a b x.1 y.1
one_lacking records t (d ∷ ds) a b (inl x) (inr y) = absurd (not_lacking records t d x.0 y.0)
one_lacking records t (d ∷ ds) a b (inr x) (inl y) = absurd (not_lacking records t d y.0 x.0)
one_lacking records t (d ∷ ds) a b (inr (lacks, (more, is, m))) (inr (also, (others, are, n))) =
    is ∙ ap (λ (rs : List MetaRecord). listed_from t d ∷ rs) (one_lacking records t ds more others m n) ∙ sym are

pub one_missing : (records : List MetaRecord) (facts : Facts) (answer : PmResult) (a b : List MetaRecord) → AreMissing records facts answer a → AreMissing records facts answer b → a ≡ b
one_missing records facts answer a b x y =
    x.is ∙ ap (λ (ds : List MetaRecord). missing_descriptions records facts.metrics answer.sets ++ ds) (one_lacking records answer.stamp (domains_of facts answer.sets) x.domains y.domains x.lacking y.lacking) ∙ sym y.is

-- ---- one metric is the first that changed

not_changed : (records : List MetaRecord) (metrics : List (Desc × List ℕ)) (sets : List ValueSet) (e : Change) → FitSets records metrics sets → IsFirstChange records metrics sets e → ⊥
not_changed records metrics [] e fit change = change
not_changed records metrics (set ∷ sets) e fit (inl (misfit, is)) = misfit fit.0
not_changed records metrics (set ∷ sets) e fit (inr (fits, later)) = not_changed records metrics sets e fit.1 later

one_change : (records : List MetaRecord) (metrics : List (Desc × List ℕ)) (sets : List ValueSet) (a b : Change) → IsFirstChange records metrics sets a → IsFirstChange records metrics sets b → a.pmid ≡ b.pmid
one_change records metrics [] a b x y = absurd x
one_change records metrics (set ∷ sets) a b (inl (misfit, is)) (inl (also, same)) = is ∙ sym same
one_change records metrics (set ∷ sets) a b (inl (misfit, is)) (inr (fits, later)) = absurd (misfit fits)
one_change records metrics (set ∷ sets) a b (inr (fits, later)) (inl (misfit, is)) = absurd (misfit fits)
one_change records metrics (set ∷ sets) a b (inr (fits, later)) (inr (also, other)) = one_change records metrics sets a b later other

-- ---- one file is full

module _ (e : Ends) (limit records size : ℕ) where
  one_full : (f g : FileId) (m n : ℕ) → IsFull e limit records size f m → IsFull e limit records size g n → Full f m ≡ Full g n
  one_full Meta Meta m n x y = ap (λ (k : ℕ). Full Meta k) (x.1 ∙ sym y.1)
  one_full Meta Index m n x y = absurd (omega (arith, x.0, y.0))
  one_full Meta (Volume k) m n x y = absurd (omega (arith, x.0, y.0))
  one_full Index Meta m n x y = absurd (omega (arith, x.0, y.0))
  one_full Index Index m n x y = ap (λ (k : ℕ). Full Index k) (x.2 ∙ sym y.2)
  one_full Index (Volume k) m n x y = absurd (omega (arith, x.1, y.1))
  one_full (Volume k) Meta m n x y = absurd (omega (arith, x.0, y.0))
  one_full (Volume k) Index m n x y = absurd (omega (arith, x.1, y.1))
  one_full (Volume k) (Volume j) m n x y = ap₂ (λ (v b : ℕ). Full (Volume v) b) (x.3 ∙ sym y.3) (x.5 ∙ sym y.5)

  not_full : (f : FileId) (n : ℕ) → HasPlace e limit records size → IsFull e limit records size f n → ⊥
  not_full Meta n place x = omega (arith, place.meta, x.0)
  not_full Index n place x = omega (arith, place.index, x.1)
  not_full (Volume k) n place x = omega (arith, place.volume x.2, x.3, x.4)

-- ---- one refusal of a logger

module _ (records : List MetaRecord) (e : Ends) (limit : ℕ) (answer : PmResult) (facts : Facts) where
  abbrev Refused : LogFault → Type 0
  Refused fault = IsRefused records e limit answer facts fault

  one_length : (a b : List MetaRecord) (o : Option ℕ) → AreMissing records facts answer a → AreMissing records facts answer b → large_length b ≡ o → large_length a ≡ o
  one_length a b o x y is = ap large_length (one_missing records facts answer a b x y) ∙ is

  not_large : (bytes : ℕ) → payload_length answer ≤ 16777208 → AreFramed records answer facts → Refused (Large bytes) → ⊥
  not_large bytes few framed (inl (over, is)) = omega (arith, few, over)
  not_large bytes few (m, needed, none) (inr (also, (k, others, (n, large, is)))) = let no : None ≡ Some n = sym none ∙ one_length m k (Some n) needed others large in cc

  one_large : (m n : ℕ) → Refused (Large m) → Refused (Large n) → m ≡ n
  one_large m n (inl x) (inl y) = x.1 ∙ sym y.1
  one_large m n (inl x) (inr y) = absurd (omega (arith, x.0, y.0))
  one_large m n (inr x) (inl y) = absurd (omega (arith, x.0, y.0))
  one_large m n (inr (few, (a, needed, (k, large, is)))) (inr (also, (b, others, (j, other, same)))) =
      let both : Some k ≡ Some j = sym large ∙ one_length a b (Some j) needed others other in
      let one : k ≡ j = cc in
      is ∙ ap (λ (l : ℕ). min l 18446744073709551615) one ∙ sym same

  not_late : (last : Moment) → IsLater e.greatest answer.stamp → e.greatest ≡ Some last → microseconds answer.stamp ≤ microseconds last → ⊥
  not_late last later is low = let after : IsLater (Some last) answer.stamp = subst (λ (o : Option Moment). IsLater o answer.stamp) is later in omega (arith, after, low)

  one_last : (s t : Moment) → e.greatest ≡ Some s → e.greatest ≡ Some t → s ≡ t
  one_last s t is same = let both : Some s ≡ Some t = sym is ∙ same in cc

  framed_of : (f : FileId) (n : ℕ) → HasNoPlace records e limit answer facts f n → AreFramed records answer facts
  framed_of f n (m, needed, none, full) = (m, needed, none)

  one_place : (f g : FileId) (m n : ℕ) → HasNoPlace records e limit answer facts f m → HasNoPlace records e limit answer facts g n → Full f m ≡ Full g n
  one_place f g m n (a, needed, none, x) (b, others, also, y) =
      one_full e limit (length (framed_records a)) (payload_length answer + 8) f g m n x
      (subst (λ (rs : List MetaRecord). IsFull e limit (length (framed_records rs)) (payload_length answer + 8) g n) (sym (one_missing records facts answer a b needed others)) y)

  pub one_refusal : (a b : LogFault) → a ≢ NoMemory → b ≢ NoMemory → Refused a → Refused b → a ≡ b
  one_refusal Closed b ra rb x y = absurd x
  one_refusal (Live volume) b ra rb x y = absurd x
  one_refusal DiskFault b ra rb x y = absurd x
  one_refusal NoMemory b ra rb x y = absurd (ra refl)
  one_refusal (Large m) Closed ra rb x y = absurd y
  one_refusal (Large m) (Live volume) ra rb x y = absurd y
  one_refusal (Large m) DiskFault ra rb x y = absurd y
  one_refusal (Large m) NoMemory ra rb x y = absurd (rb refl)
  one_refusal (Large m) (Large n) ra rb x y = ap (λ (k : ℕ). Large k) (one_large m n x y)
  one_refusal (Large m) (NotLater t) ra rb x y = absurd (not_large m y.0 y.1 x)
  one_refusal (Large m) (Changed p) ra rb x y = absurd (not_large m y.0 y.1 x)
  one_refusal (Large m) (Full f n) ra rb x y = absurd (not_large m y.0 (framed_of f n y.3) x)
  one_refusal (NotLater s) Closed ra rb x y = absurd y
  one_refusal (NotLater s) (Live volume) ra rb x y = absurd y
  one_refusal (NotLater s) DiskFault ra rb x y = absurd y
  one_refusal (NotLater s) NoMemory ra rb x y = absurd (rb refl)
  one_refusal (NotLater s) (Large n) ra rb x y = absurd (not_large n x.0 x.1 y)
  one_refusal (NotLater s) (NotLater t) ra rb x y = ap (λ (m : Moment). NotLater m) (one_last s t x.2 y.2)
  one_refusal (NotLater s) (Changed p) ra rb x y = absurd (not_late s y.2 x.2 x.3)
  one_refusal (NotLater s) (Full f n) ra rb x y = absurd (not_late s y.1 x.2 x.3)
  one_refusal (Changed p) Closed ra rb x y = absurd y
  one_refusal (Changed p) (Live volume) ra rb x y = absurd y
  one_refusal (Changed p) DiskFault ra rb x y = absurd y
  one_refusal (Changed p) NoMemory ra rb x y = absurd (rb refl)
  one_refusal (Changed p) (Large n) ra rb x y = absurd (not_large n x.0 x.1 y)
  one_refusal (Changed p) (NotLater t) ra rb x y = absurd (not_late t x.2 y.2 y.3)
  one_refusal (Changed p) (Changed q) ra rb (few, framed, later, (c, first, is)) (also, too, after, (d, other, same)) = ap (λ (k : ℕ). Changed k) (is ∙ one_change records facts.metrics answer.sets c d first other ∙ sym same)
  one_refusal (Changed p) (Full f n) ra rb (few, framed, later, (c, first, is)) y = absurd (not_changed records facts.metrics answer.sets c y.2 first)
  one_refusal (Full f m) Closed ra rb x y = absurd y
  one_refusal (Full f m) (Live volume) ra rb x y = absurd y
  one_refusal (Full f m) DiskFault ra rb x y = absurd y
  one_refusal (Full f m) NoMemory ra rb x y = absurd (rb refl)
  one_refusal (Full f m) (Large n) ra rb x y = absurd (not_large n x.0 (framed_of f m x.3) y)
  one_refusal (Full f m) (NotLater t) ra rb x y = absurd (not_late t x.1 y.2 y.3)
  one_refusal (Full f m) (Changed q) ra rb x (also, too, after, (d, other, same)) = absurd (not_changed records facts.metrics answer.sets d x.2 other)
  one_refusal (Full f m) (Full g n) ra rb x y = one_place f g m n x.3 y.3

  -- and none of what may be logged
  pub not_refused : (a : LogFault) → a ≢ NoMemory → IsLoggable records e limit answer facts → Refused a → ⊥
  not_refused Closed ra may x = x
  not_refused (Live volume) ra may x = x
  not_refused DiskFault ra may x = x
  not_refused NoMemory ra may x = ra refl
  not_refused (Large n) ra may x = not_large n may.framed (may.missing, may.needed, may.fits) x
  not_refused (NotLater t) ra may x = not_late t may.later x.2 x.3
  not_refused (Changed p) ra may (few, framed, later, (c, first, is)) = not_changed records facts.metrics answer.sets c may.fit first
  not_refused (Full f n) ra may (few, later, fit, (m, needed, none, full)) =
      not_full e limit (length (framed_records may.missing)) (payload_length answer + 8) f n may.place
      (subst (λ (rs : List MetaRecord). IsFull e limit (length (framed_records rs)) (payload_length answer + 8) f n) (one_missing records facts answer m may.missing needed may.needed) full)

-- ---- a new archive has no stamp

pub none_stamped : (l : LabelFields) (t : Moment) → IsStampIn (no_items l) t → ⊥
none_stamped l t (inl (x, has, same)) = omega (arith, has.1)
none_stamped l t (inr (inl (indom, pairs, has))) = omega (arith, has.1)
none_stamped l t (inr (inr (e, has, same))) = omega (arith, has.1)

-- ---- one archive is opened, and what is kept of it in numbers is one

abbrev first_number : List (ℕ × List Item) → ℕ
first_number [] = 0
first_number (v ∷ vs) = v.0

pub last_number : (a b : List (ℕ × List Item)) (m n : ℕ) (xs ys : List Item) → a ++ (m, xs) ∷ [] ≡ b ++ (n, ys) ∷ [] → m ≡ n
last_number [] [] m n xs ys same = ap first_number same
last_number [] (v ∷ b) m n xs ys same = absurd (omega (arith, ap length same, length-append b ((n, ys) ∷ [])))
last_number (v ∷ a) [] m n xs ys same = absurd (omega (arith, ap length same, length-append a ((m, xs) ∷ [])))
last_number (v ∷ a) (w ∷ b) m n xs ys same = last_number a b m n xs ys (let e : a ++ (m, xs) ∷ [] ≡ b ++ (n, ys) ∷ [] = cc in e)

pub one_contents : (files : Files) (c d : ArchiveContents) → IsArchive files c → IsArchive files d → c ≡ d
one_contents files c d x y = let same : ArchiveReading.archive c ≡ ArchiveReading.archive d = one_reading files (ArchiveReading.archive c) (ArchiveReading.archive d) x y in cc

pub no_archive : (files : Files) (c : ArchiveContents) → IsEmpty files → IsArchive files c → ⊥
no_archive files c empty is =
    let no : ArchiveReading.archive c ≡ ArchiveReading.nothing = one_reading files (ArchiveReading.archive c) ArchiveReading.nothing is (record { meta = inl (empty Meta); index = empty Index; volumes = λ n. empty (Volume n) }) in cc

abbrev ends : ℕ → ℕ → ℕ → ℕ → Option Moment → Option Entry → ℕ → ℕ → Ends
ends meta index volume size greatest entry logged acknowledged = record { meta = meta; index = index; volume = volume; length = size; greatest = greatest; entry = entry; logged = logged; acknowledged = acknowledged }

module _ (files : Files) (c : ArchiveContents) (a b : Ends) (x : AreEnds (as_found files c) a) (y : AreEnds (as_found files c) b) (w : EndsWhole files c a.volume) (v : EndsWhole files c b.volume) where
  one_volume : a.volume ≡ b.volume
  one_volume = last_number w.before v.before a.volume b.volume w.items v.items (sym w.are ∙ v.are)

  pub one_ends : a ≡ b
  one_ends =
      ap (λ (n : ℕ). ends n a.index a.volume a.length a.greatest a.entry a.logged a.acknowledged) (x.meta ∙ sym y.meta)
      ∙ ap (λ (n : ℕ). ends b.meta n a.volume a.length a.greatest a.entry a.logged a.acknowledged) (x.index ∙ sym y.index)
      ∙ ap (λ (n : ℕ). ends b.meta b.index n a.length a.greatest a.entry a.logged a.acknowledged) one_volume
      ∙ ap (λ (n : ℕ). ends b.meta b.index b.volume n a.greatest a.entry a.logged a.acknowledged) (x.length_is ∙ ap (λ (n : ℕ). length (files (Volume n))) one_volume ∙ sym y.length_is)
      ∙ ap (λ (o : Option Moment). ends b.meta b.index b.volume b.length o a.entry a.logged a.acknowledged) (x.greatest ∙ sym y.greatest)
      ∙ ap (λ (o : Option Entry). ends b.meta b.index b.volume b.length b.greatest o a.logged a.acknowledged) (x.entry ∙ sym y.entry)
      ∙ ap (λ (n : ℕ). ends b.meta b.index b.volume b.length b.greatest b.entry n a.acknowledged) (x.logged ∙ sym y.logged)
      ∙ ap (λ (n : ℕ). ends b.meta b.index b.volume b.length b.greatest b.entry b.logged n) (x.acknowledged_is ∙ sym y.acknowledged_is)

-- files are recovered to one archive
pub recovered_once : (start a b : Files) (r s : ArchiveReading) → Reads start r → Reads start s → Recovers start r a → Recovers start s b → b ≡ a
recovered_once start a b r s x y in_a in_b = same_left start b a r (subst (λ (q : ArchiveReading). Recovers start q b) (one_reading start s r y x) in_b) in_a
