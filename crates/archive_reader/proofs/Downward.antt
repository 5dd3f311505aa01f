-- Volumes are taken from the last one down: what is found in the last of them, or where the search for it stops, is one thing.
use Rattle.std.proofs.Common.{◌≡◌, ◌≢◌, ◌⊎◌, inl, inr, ℕ, List, [], ◌∷◌, ◌++◌, refl, sym, ap, ◌∙◌, subst, Option, Some, None}
use Rattle.std.specs.List.{AllByRecursion}
use Rattle.pcp_base.specs.Time.{Moment}
use Rattle.pcp_base.specs.declared.file.FileId.{FileId}
use Rattle.pcp_base.specs.declared.result.Item.{Item}
use Rattle.pcp_base.specs.declared.result.ValueSet.{ValueSet}
use Rattle.pcp_model.specs.Archive.{ArchiveReading, Reads, scan}
use Rattle.pcp_model.specs.Disk.{Files}
use Rattle.archive_loading.specs.Loaded.{Loaded, IsOver}
use Rattle.archive_reader.specs.declared.fault.ReaderFault.TheVariants.{NotArchive}
use Rattle.archive_reader.specs.Once.{AnswersOnce}
use Rattle.archive_reader.specs.Searches.{or_else}
use Rattle.archive_reader.specs.Sounds.{StandsAs, FindsValue}
use Rattle.archive_reader.specs.Values.{value_by, value_at, IsValueAt, ValueStops, IsValueFault}
use Rattle.archive_reader.specs.Walks.{AllFrom, StopsAt}
use Rattle.archive_reader.proofs.Ends.{HasRest, rest_of}
use Rattle.archive_reader.proofs.Finds.{readable_stands}
use Rattle.archive_reader.proofs.Once.{SamePlace, SameWalk, one_walk, same_bad}
use Rattle.archive_reader.proofs.Segmented.{not_bad, one_all, never_bad}

-- ---- what items show

or_assoc : {A : Type 0} (o p q : Option A) → or_else (or_else o p) q ≡ or_else o (or_else p q)
or_assoc None p q = refl
or_assoc (Some x) p q = refl

or_none : {A : Type 0} (o : Option A) → o ≡ or_else o None
or_none None = refl
or_none (Some x) = refl

or_some : {A : Type 0} (o p : Option A) → o ≢ None → or_else o p ≡ o
or_some None p some = absurd (some refl)
or_some (Some x) p some = refl

pub value_over : (pmid : ℕ) (t : Moment) (xs ys : List Item) → value_at pmid t (xs ++ ys) ≡ or_else (value_at pmid t ys) (value_at pmid t xs)
value_over pmid t [] ys = or_none (value_at pmid t ys)
value_over pmid t (x ∷ xs) ys = ap (λ o. or_else o (value_by pmid t x)) (value_over pmid t xs ys) ∙ or_assoc (value_at pmid t ys) (value_at pmid t xs) (value_by pmid t x)

-- behind others what shows nothing changes nothing, and nothing is shown but by one of both
pub value_before : (pmid : ℕ) (t : Moment) (xs ys : List Item) → value_at pmid t ys ≡ None → value_at pmid t (xs ++ ys) ≡ value_at pmid t xs
value_before pmid t xs ys none = value_over pmid t xs ys ∙ ap (λ o. or_else o (value_at pmid t xs)) none

none_behind : (pmid : ℕ) (t : Moment) (xs ys : List Item) → value_at pmid t (xs ++ ys) ≡ None → value_at pmid t ys ≡ None
none_behind pmid t xs ys none = go (value_at pmid t ys) (value_at pmid t xs) (sym (value_over pmid t xs ys) ∙ none)
  where
    go : {A : Type 0} (o p : Option A) → or_else o p ≡ None → o ≡ None
    go None p is = refl
    go (Some x) p is = is

-- ---- two parts of volumes, the last ones

-- of two divisions the one goes on within the other
record GoesOn {A : Type 0} (before rest front back : List A) : Type 0 where
  mid : List A
  rest_is : rest ≡ mid ++ back
  front_is : front ≡ before ++ mid

divided : {A : Type 0} (before rest front back : List A) → before ++ rest ≡ front ++ back → GoesOn before rest front back ⊎ GoesOn front back before rest
divided [] rest front back same = inl (record { mid = front; rest_is = same; front_is = refl })
divided (x ∷ before) rest [] back same = inr (record { mid = x ∷ before; rest_is = sym same; front_is = refl })
divided {A} (x ∷ before) rest (y ∷ front) back same = go (divided before rest front back (tails same))
  where
    tail : List A → List A
    tail [] = []
    tail (z ∷ zs) = zs

    tails : x ∷ (before ++ rest) ≡ y ∷ (front ++ back) → before ++ rest ≡ front ++ back
    tails e = ap tail e

    head : List A → A
    head [] = x
    head (z ∷ zs) = z

    go : GoesOn before rest front back ⊎ GoesOn front back before rest → GoesOn (x ∷ before) rest (y ∷ front) back ⊎ GoesOn (y ∷ front) back (x ∷ before) rest
    go (inl g) = inl (record { mid = g.mid; rest_is = g.rest_is; front_is = ap (λ l. y ∷ l) g.front_is ∙ ap (λ z. z ∷ (before ++ g.mid)) (sym (ap head same)) })
    go (inr g) = inr (record { mid = g.mid; rest_is = g.rest_is; front_is = ap (λ l. x ∷ l) g.front_is ∙ ap (λ z. z ∷ (front ++ g.mid)) (ap head same) })

no_more : {A : Type 0} (xs ys : List A) → xs ++ ys ≡ [] → ys ≡ []
no_more [] ys none = none
no_more (x ∷ xs) ys none = absurd (let is : x ∷ (xs ++ ys) ≡ [] = none in cc)

-- ---- one answer

abbrev Any : Item → Type 0
Any x = Unit {0}

all_pass : (items : List Item) → AllByRecursion Any items
all_pass [] = tt
all_pass (x ∷ items) = (tt, all_pass items)

module _ (files : Files) where
  one_list : (vs : List (ℕ × ℕ)) (items others : List Item) → AllFrom files vs 132 items → AllFrom files vs 132 others → items ≡ others
  one_list vs items others a b = one_all files items others vs 132 a.last a.to b.last b.to a.leads a.ends b.leads b.ends

  never : (vs : List (ℕ × ℕ)) (items own : List Item) (file : FileId) (offset : ℕ) → AllFrom files vs 132 items → StopsAt files vs 132 own file offset → ⊥
  never vs items own file offset a s = never_bad files own items vs 132 s.last s.to a.last a.to file offset s.leads s.bad a.leads a.ends

  pub whole_stops : (volumes : List (ℕ × ℕ)) (file other : FileId) (offset elsewhere : ℕ) (items all : List Item) → StopsAt files volumes 132 items file offset → StopsAt files volumes 132 all other elsewhere → SamePlace file other offset elsewhere
  whole_stops volumes file other offset elsewhere items all s o =
      let same : SameWalk items all s.last o.last s.to o.to = one_walk files Any items all volumes 132 s.last s.to o.last o.to s.leads (all_pass items) (λ y ws k over by. not_bad files s.last s.to y ws k file offset s.bad over) o.leads (all_pass all)
      (λ y ws k over by. not_bad files o.last o.to y ws k other elsewhere o.bad over) in
      same_bad files s.last o.last s.to o.to file other offset elsewhere same.volumes_are same.offset_is s.bad o.bad

  module _ (pmid : ℕ) (t : Moment) where
    -- where a search went on below a hit it found the same
    below : (before mid rest : List (ℕ × ℕ)) (items others : List Item) → AllFrom files (mid ++ rest) 132 items → AllFrom files rest 132 others → (before ++ mid ≡ []) ⊎ (value_at pmid t others ≢ None)
        → value_at pmid t items ≡ value_at pmid t others
    below before mid rest items others a b (inl none) = ap (value_at pmid t) (one_list rest items others (subst (λ m. AllFrom files (m ++ rest) 132 items) (no_more before mid none) a) b)
    below before mid rest items others a b (inr some) =
        let r : HasRest files rest items = rest_of files mid rest items a in
        let same : items ≡ r.front ++ others = r.is ∙ ap (λ l. r.front ++ l) (one_list rest r.back others r.all b) in
        ap (value_at pmid t) same ∙ value_over pmid t r.front others ∙ or_some (value_at pmid t others) (value_at pmid t r.front) some

    found_below : (volumes : List (ℕ × ℕ)) (x y : Option (Moment × ValueSet)) (one : IsValueAt files volumes pmid t x) (other : IsValueAt files volumes pmid t y) → GoesOn one.before one.rest other.before other.rest → x ≡ y
    found_below volumes x y one other g =
        one.is ∙ below one.before g.mid other.rest one.items other.items (subst (λ l. AllFrom files l 132 one.items) g.rest_is one.all) other.all (why other.enough) ∙ sym other.is
      where
        why : (other.before ≡ []) ⊎ (y ≢ None) → (one.before ++ g.mid ≡ []) ⊎ (value_at pmid t other.items ≢ None)
        why (inl none) = inl (sym g.front_is ∙ none)
        why (inr some) = inr (λ none. some (other.is ∙ none))

    pub value_found : (volumes : List (ℕ × ℕ)) (x y : Option (Moment × ValueSet)) → IsValueAt files volumes pmid t x → IsValueAt files volumes pmid t y → x ≡ y
    value_found volumes x y one other = go (divided one.before one.rest other.before other.rest (sym one.are ∙ other.are))
      where
        go : GoesOn one.before one.rest other.before other.rest ⊎ GoesOn other.before other.rest one.before one.rest → x ≡ y
        go (inl g) = found_below volumes x y one other g
        go (inr g) = sym (found_below volumes y x other one g)

    -- volumes whose records are all items' have none that stops a search
    stops_above : (mid vs : List (ℕ × ℕ)) (items own : List Item) (file : FileId) (offset : ℕ) → AllFrom files (mid ++ vs) 132 items → StopsAt files vs 132 own file offset → ⊥
    stops_above mid vs items own file offset a s = let r : HasRest files vs items = rest_of files mid vs items a in never vs r.back own file offset r.all s

    found_above : (volumes mid : List (ℕ × ℕ)) (x : Option (Moment × ValueSet)) (file : FileId) (offset : ℕ) (one : IsValueAt files volumes pmid t x) (s : ValueStops files volumes pmid t file offset)
        → s.volume ∷ s.behind ≡ mid ++ one.rest → one.before ≡ s.before ++ mid → ⊥
    found_above volumes [] x file offset one s rest front = never one.rest one.items s.stops.items file offset one.all (subst (λ l. StopsAt files l 132 s.stops.items file offset) rest s.stops.stops)
    found_above volumes (m ∷ mid) x file offset one s rest front =
        let behind : s.behind ≡ mid ++ one.rest = tails s.volume m s.behind (mid ++ one.rest) rest in
        let r : HasRest files one.rest s.items = rest_of files mid one.rest s.items (subst (λ l. AllFrom files l 132 s.items) behind s.all) in
        let none : value_at pmid t r.back ≡ None = none_behind pmid t r.front r.back (ap (value_at pmid t) (sym r.is) ∙ s.none) in
        let nothing : x ≡ None = one.is ∙ ap (value_at pmid t) (one_list one.rest one.items r.back one.all r.all) ∙ none in
        go one.enough nothing
      where
        tails : (a b : ℕ × ℕ) (xs ys : List (ℕ × ℕ)) → a ∷ xs ≡ b ∷ ys → xs ≡ ys
        tails a b xs ys e = cc

        go : (one.before ≡ []) ⊎ (x ≢ None) → x ≡ None → ⊥
        go (inl none) nothing = let is : m ∷ mid ≡ [] = no_more s.before (m ∷ mid) (sym front ∙ none) in cc
        go (inr some) nothing = some nothing

    pub value_apart : (volumes : List (ℕ × ℕ)) (x : Option (Moment × ValueSet)) (file : FileId) (offset : ℕ) → IsValueAt files volumes pmid t x → ValueStops files volumes pmid t file offset → ⊥
    value_apart volumes x file offset one s = go (divided one.before one.rest s.before (s.volume ∷ s.behind) (sym one.are ∙ s.are))
      where
        go : GoesOn one.before one.rest s.before (s.volume ∷ s.behind) ⊎ GoesOn s.before (s.volume ∷ s.behind) one.before one.rest → ⊥
        go (inl g) = stops_above g.mid (s.volume ∷ s.behind) one.items s.stops.items file offset (subst (λ l. AllFrom files l 132 one.items) g.rest_is one.all) s.stops.stops
        go (inr g) = found_above volumes g.mid x file offset one s g.rest_is g.front_is

    stops_below : (volumes mid : List (ℕ × ℕ)) (file other : FileId) (offset elsewhere : ℕ) (s : ValueStops files volumes pmid t file offset) (o : ValueStops files volumes pmid t other elsewhere)
        → s.volume ∷ s.behind ≡ mid ++ o.volume ∷ o.behind → SamePlace file other offset elsewhere
    stops_below volumes [] file other offset elsewhere s o rest =
        whole_stops (o.volume ∷ o.behind) file other offset elsewhere s.stops.items o.stops.items (subst (λ l. StopsAt files l 132 s.stops.items file offset) rest s.stops.stops) o.stops.stops
    stops_below volumes (m ∷ mid) file other offset elsewhere s o rest =
        absurd (stops_above mid (o.volume ∷ o.behind) s.items o.stops.items other elsewhere (subst (λ l. AllFrom files l 132 s.items) (tails s.volume m s.behind (mid ++ o.volume ∷ o.behind) rest) s.all) o.stops.stops)
      where
        tails : (a b : ℕ × ℕ) (xs ys : List (ℕ × ℕ)) → a ∷ xs ≡ b ∷ ys → xs ≡ ys
        tails a b xs ys e = cc

    pub value_stops : (volumes : List (ℕ × ℕ)) (file other : FileId) (offset elsewhere : ℕ) → ValueStops files volumes pmid t file offset → ValueStops files volumes pmid t other elsewhere → SamePlace file other offset elsewhere
    value_stops volumes file other offset elsewhere s o = go (divided s.before (s.volume ∷ s.behind) o.before (o.volume ∷ o.behind) (sym s.are ∙ o.are))
      where
        go : GoesOn s.before (s.volume ∷ s.behind) o.before (o.volume ∷ o.behind) ⊎ GoesOn o.before (o.volume ∷ o.behind) s.before (s.volume ∷ s.behind) → SamePlace file other offset elsewhere
        go (inl g) = stops_below volumes g.mid file other offset elsewhere s o g.rest_is
        go (inr g) = let same : SamePlace other file elsewhere offset = stops_below volumes g.mid other file elsewhere offset o s g.rest_is in (sym same.0, sym same.1)

-- ---- the laws

pub value_answers_once : (files : Files) (r : Loaded) (pmid : ℕ) (t : Moment) → AnswersOnce (IsValueAt files r.volumes pmid t) (λ file offset. IsValueFault files r.volumes pmid t (NotArchive file offset))
value_answers_once files r pmid t = record {
  found = λ x y. value_found files pmid t r.volumes x y;
  stops = λ file other offset elsewhere. value_stops files pmid t r.volumes file other offset elsewhere;
  apart = λ x file offset. value_apart files pmid t r.volumes x file offset;
}

pub readable_finds_value : (files : Files) (reading : ArchiveReading) (r : Loaded) (pmid : ℕ) (t : Moment) → Reads files reading → IsOver files r → FindsValue files reading r pmid t
readable_finds_value files reading r pmid t reads over =
    let stood : StandsAs files reading r = readable_stands files reading r reads over in
    let whole : IsValueAt files r.volumes pmid t (value_at pmid t (scan reading)) = record { before = []; rest = r.volumes; are = refl; items = scan reading; all = stood.all; is = refl; enough = inl refl } in
    record {
      found = λ x v. value_found files pmid t r.volumes x (value_at pmid t (scan reading)) v whole;
      refused = λ file offset f. value_apart files pmid t r.volumes (value_at pmid t (scan reading)) file offset whole f;
    }
