-- What a reading loads where the generation that is kept is found first.
use Rattle.std.proofs.Common.{◌≡◌, inl, inr, ℕ, zero, suc, List, [], ◌∷◌, ◌++◌, length, map, drop, get_or, slice_index, Option, Some, None, append_assoc, append-nil, sym, refl, ap, ap₂, ◌∙◌, subst, arith}
use Rattle.std.specs.List.{zip}
use Rattle.std.proofs.lemmas.List.{map-append}
use Rattle.region_core.specs.declared.act.Act.{Act}
use Rattle.region_core.specs.declared.act.Act.TheVariants.{Load}
use Rattle.region_core.specs.declared.act.Entry.{Entry}
use Rattle.region_core.specs.Journal.{own, state}
use Rattle.region_core.proofs.Runs.{other_first, others_rest}
use Rattle.region_rule.specs.declared.view.View.{View}
use Rattle.region_rule.specs.Views.{opening_of, IsFront}
use Rattle.region_rule.specs.Steps.{Extends, entry, found_by}
use Rattle.region_rule.specs.Reads.{Reads, WholeReading, numbered_from}
use Rattle.region_rule.proofs.Showing.{Follows, follows_reads, reads_more}
use Rattle.region_words.specs.Images.{mmv}
use Rattle.fetch_answers.specs.Numbers.{value_words}
use Rattle.fetch_engine.specs.Tries.{AreRefusedBy, BeginsAgain, HitsLoadValues, IsTry, loads_of}
use Rattle.fetch_engine.proofs.Tries.{reads_join}

abbrev words_in : List (ℕ × ℕ) → List ℕ
words_in found = map (λ (x : ℕ × ℕ). x.0) found

-- Own entries

own_step : (v w : View) (act : Act) (n : ℕ) → Extends mmv v act n w → w.own ≡ v.own ++ entry v.number act ∷ []
own_step v w act n e = ap (λ (x : View). x.own) e.is

own_reads : (v w : View) (found : List (ℕ × ℕ)) → Reads mmv v found w → w.own ≡ v.own ++ loads_of v.number (words_in found)
own_reads v w [] r = ap (λ (x : View). x.own) r ∙ sym (append-nil v.own)
own_reads v w (x ∷ xs) r =
    let u : View = r.0 in
    let e : Extends mmv v (Load x.0) x.1 u = r.1 in
    let number : u.number ≡ v.number = ap (λ (y : View). y.number) e.is in
    own_reads u w xs r.2 ∙ ap (λ (k : ℕ). u.own ++ loads_of k (words_in xs)) number ∙ ap (λ (es : List Entry). es ++ loads_of v.number (words_in xs)) (own_step v u (Load x.0) x.1 e)
    ∙ append_assoc v.own (entry v.number (Load x.0) ∷ []) (loads_of v.number (words_in xs))

whole_reads : (v w : View) (first last : ℕ) (found : List (ℕ × ℕ)) → WholeReading mmv v first found last w → Reads mmv v ((2, first) ∷ found ++ (1, last) ∷ []) w
whole_reads v w first last found r = reads_more mmv v r.ended w ((2, first) ∷ found) 1 last (r.begun, r.opens, r.each) r.closes

-- the loads behind a try: none, or generation 2 first
abbrev Begins : List (ℕ × ℕ) → Type 0
Begins [] = Unit {0}
Begins (x ∷ xs) = x.0 ≡ 2

-- what a try loads
try_reads : (kept : Option (List ℕ)) (v w : View) (first last : ℕ) (words : List ℕ) → IsTry kept v first last words w → (n : ℕ) × (rest : List (ℕ × ℕ)) × Reads mmv v ((2, n) ∷ rest) w
try_reads None v w first last words t = (first, numbered_from 0 words ++ (1, last) ∷ [], whole_reads v w first last (numbered_from 0 words) t.loads)
try_reads (Some kept) v w first last words (inl t) = (first, zip (value_words kept) t.values ++ (1, last) ∷ [], whole_reads v w first last (zip (value_words kept) t.values) t.loads)
try_reads (Some kept) v w first last words (inr t) =
    (t.found, (2, first) ∷ numbered_from 0 words ++ (1, last) ∷ [], (t.begun, t.lone, whole_reads t.begun w first last (numbered_from 0 words) t.image.loads))

abbrev Rest : View → View → Type 0
Rest v w = (found : List (ℕ × ℕ)) × Reads mmv v found w × Begins found

refused_rest : (kept : Option (List ℕ)) (n : ℕ) (v w : View) → AreRefusedBy kept n v w → Rest v w
refused_rest kept zero v w h = ([], h, tt)
refused_rest kept (suc n) v w h =
    let u : View = h.0 in
    let one = try_reads kept v u h.1.first h.1.last h.1.words h.1.tried in
    let more = refused_rest kept n u w h.2 in
    ((2, one.0) ∷ one.1 ++ more.0, reads_join v u w ((2, one.0) ∷ one.1) more.0 one.2 more.1, refl)

shown_rest : (kept : Option (List ℕ)) (n : ℕ) (v u w : View) (first last : ℕ) (words : List ℕ) → AreRefusedBy kept n v u → IsTry kept u first last words w → Rest v w
shown_rest kept zero v u w first last words h t =
    let one = try_reads kept v w first last words (subst (λ (x : View). IsTry kept x first last words w) h t) in
    ((2, one.0) ∷ one.1, one.2, refl)
shown_rest kept (suc n) v u w first last words h t =
    let z : View = h.0 in
    let one = try_reads kept v z h.1.first h.1.last h.1.words h.1.tried in
    let more = shown_rest kept n z u w first last words h.2 t in
    ((2, one.0) ∷ one.1 ++ more.0, reads_join v z w ((2, one.0) ∷ one.1) more.0 one.2 more.1, refl)

-- The first own load

cancelled : (xs ys zs : List Entry) → xs ++ ys ≡ xs ++ zs → ys ≡ zs
cancelled [] ys zs e = e
cancelled (x ∷ xs) ys zs e = cancelled xs ys zs (ap (λ (l : List Entry). drop 1 l) e)

first_same : (k : ℕ) (e : Entry) (xs ys rs ss : List Entry) → e.by ≡ k → own k xs ≡ [] → own k ys ≡ [] → xs ++ e ∷ rs ≡ ys ++ e ∷ ss → xs ≡ ys
first_same k e [] [] rs ss is none nothing same = refl
first_same k e [] (y ∷ ys) rs ss is none nothing same = absurd (other_first k y ys nothing (sym is ∙ ap (λ (x : Entry). x.by) (ap (λ (l : List Entry). get_or l 0 e) same)))
first_same k e (x ∷ xs) [] rs ss is none nothing same = absurd (other_first k x xs none (sym is ∙ sym (ap (λ (y : Entry). y.by) (ap (λ (l : List Entry). get_or l 0 e) same))))
first_same k e (x ∷ xs) (y ∷ ys) rs ss is none nothing same =
    ap₂ (λ (a : Entry) (l : List Entry). a ∷ l) (ap (λ (l : List Entry). get_or l 0 e) same)
    (first_same k e xs ys rs ss is (others_rest k x xs none) (others_rest k y ys nothing) (ap (λ (l : List Entry). drop 1 l) same))

-- how what was seen goes on behind a load
seen_on : (v u w : View) (n : ℕ) (e : Extends mmv v (Load 2) n u) (front : IsFront u.seen w.seen) → w.seen ≡ v.seen ++ (e.between ++ entry v.number (Load 2) ∷ front.0)
seen_on v u w n e front =
    front.1 ∙ ap (λ (x : View). x.seen ++ front.0) e.is ∙ append_assoc (v.seen ++ e.between) (entry v.number (Load 2) ∷ []) front.0 ∙ append_assoc v.seen e.between (entry v.number (Load 2) ∷ front.0)

-- two loads that are each the first own one are one, and found one number
found_same : (v u b w : View) (n m : ℕ) → Extends mmv v (Load 2) n u → Extends mmv v (Load 2) m b → IsFront u.seen w.seen → IsFront b.seen w.seen → n ≡ m
found_same v u b w n m e d front behind =
    let same : e.between ≡ d.between =
    first_same v.number (entry v.number (Load 2)) e.between d.between front.0 behind.0 refl e.others d.others
    (cancelled v.seen (e.between ++ entry v.number (Load 2) ∷ front.0) (d.between ++ entry v.number (Load 2) ∷ behind.0) (sym (seen_on v u w n e front) ∙ seen_on v b w m d behind)) in
    e.found ∙ ap (λ (es : List Entry). found_by (Load 2) (state (opening_of v) (v.seen ++ es))) same ∙ sym d.found

-- Hits

words_of_zip : (xs ys : List ℕ) → length ys ≡ length xs → words_in (zip xs ys) ≡ xs
words_of_zip [] [] long = refl
words_of_zip [] (y ∷ ys) long = absurd (omega arith)
words_of_zip (x ∷ xs) [] long = absurd (omega arith)
words_of_zip (x ∷ xs) (y ∷ ys) long = ap (λ (l : List ℕ). x ∷ l) (words_of_zip xs ys (omega arith))

abbrev Hit : List ℕ → View → View → Type 0
Hit kept v w = (more : List Entry) × (w.own ≡ v.own ++ (entry v.number (Load 2) ∷ loads_of v.number (value_words kept) ++ entry v.number (Load 1) ∷ more)) × BeginsAgain v.number more

begins_again : (k : ℕ) (found : List (ℕ × ℕ)) → Begins found → BeginsAgain k (loads_of k (words_in found))
begins_again k [] b = tt
begins_again k (x ∷ xs) b = ap (λ (n : ℕ). entry k (Load n)) b

first_try : (kept : List ℕ) (v u z w : View) (first last : ℕ) (words : List ℕ) → IsTry (Some kept) v first last words z → Rest z w → Extends mmv v (Load 2) (slice_index kept 1) u → IsFront u.seen w.seen → Hit kept v w
first_try kept v u z w first last words (inl t) rest e front =
    let k : ℕ = v.number in
    let found : List (ℕ × ℕ) = zip (value_words kept) t.values in
    let here : Reads mmv v ((2, first) ∷ found ++ (1, last) ∷ []) z = whole_reads v z first last found t.loads in
    let number : z.number ≡ v.number = (follows_reads mmv v z ((2, first) ∷ found ++ (1, last) ∷ []) here).number in
    let more : List Entry = loads_of k (words_in rest.0) in
    let listed : loads_of k (words_in (found ++ (1, last) ∷ [])) ≡ loads_of k (value_words kept) ++ entry k (Load 1) ∷ [] =
    ap (λ (ws : List ℕ). loads_of k ws) (map-append (λ (x : ℕ × ℕ). x.0) found ((1, last) ∷ [])) ∙ map-append (λ (word : ℕ). entry k (Load word)) (words_in found) (1 ∷ [])
    ∙ ap (λ (ws : List ℕ). loads_of k ws ++ entry k (Load 1) ∷ []) (words_of_zip (value_words kept) t.values t.long) in
    let one : z.own ≡ v.own ++ (entry k (Load 2) ∷ loads_of k (value_words kept) ++ entry k (Load 1) ∷ []) =
    own_reads v z ((2, first) ∷ found ++ (1, last) ∷ []) here ∙ ap (λ (es : List Entry). v.own ++ entry k (Load 2) ∷ es) listed in
    let all : w.own ≡ z.own ++ more = own_reads z w rest.0 rest.1 ∙ ap (λ (n : ℕ). z.own ++ loads_of n (words_in rest.0)) number in (
      more,
      all ∙ ap (λ (es : List Entry). es ++ more) one ∙ append_assoc v.own (entry k (Load 2) ∷ loads_of k (value_words kept) ++ entry k (Load 1) ∷ []) more
          ∙ ap (λ (es : List Entry). v.own ++ entry k (Load 2) ∷ es) (append_assoc (loads_of k (value_words kept)) (entry k (Load 1) ∷ []) more),
      begins_again k rest.0 rest.2,
    )
first_try kept v u z w first last words (inr t) rest e front =
    let found : List (ℕ × ℕ) = (2, first) ∷ numbered_from 0 words ++ (1, last) ∷ [] in
    let here : Reads mmv t.begun found z = whole_reads t.begun z first last (numbered_from 0 words) t.image.loads in
    let f : Follows t.begun w = follows_reads mmv t.begun w (found ++ rest.0) (reads_join t.begun z w found rest.0 here rest.1) in
    absurd (t.other (found_same v t.begun u w t.found (slice_index kept 1) t.lone e f.seen front))

hit_shown : (kept : List ℕ) (n : ℕ) (v u z w : View) (generation : ℕ) (words : List ℕ) → AreRefusedBy (Some kept) n v z → IsTry (Some kept) z generation generation words w → Extends mmv v (Load 2) (slice_index kept 1) u → IsFront u.seen w.seen
    → Hit kept v w
hit_shown kept zero v u z w generation words refused t e front = first_try kept v u w w generation generation words (subst (λ (x : View). IsTry (Some kept) x generation generation words w) refused t) ([], refl, tt) e front
hit_shown kept (suc n) v u z w generation words refused t e front =
    first_try kept v u refused.0 w refused.1.first refused.1.last refused.1.words refused.1.tried (shown_rest (Some kept) n refused.0 z w generation generation words refused.2 t) e front

pub hits_load_values : HitsLoadValues
hits_load_values kept v u w None after h e front = first_try kept v u h.0.0 w h.0.1.first h.0.1.last h.0.1.words h.0.1.tried (refused_rest (Some kept) 2 h.0.0 w h.0.2) e front
hits_load_values kept v u w (Some layout) after h e front = hit_shown kept h.0 v u h.2 w h.5.generation h.4 h.3 h.5.tried e front
