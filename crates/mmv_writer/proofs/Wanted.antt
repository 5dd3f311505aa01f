-- Each text that a reference needs is a string of the image, and each string of the image is short enough.
use Rattle.std.proofs.Common.{◌≡◌, ℕ, zero, suc, Bool, true, false, ◌&&◌, ◌||◌, List, [], ◌∷◌, ◌++◌, ap, ap₂, sym, subst, ◌∙◌, refl, arith, cond, bytes_eq, nat_eq, nat_le, nat_lt, length, Option, Some, None}
use Rattle.std.specs.List.{list_any, slice_get, flat_map}
use Rattle.std.proofs.lemmas.Bool.{eqb-true, eq-eqb}
use Rattle.mmv_layout.specs.declared.rows.Content.{Content}
use Rattle.mmv_layout.specs.declared.rows.Content.TheVariants.{Number, Choice, Raw}
use Rattle.mmv_layout.specs.declared.rows.Layout.{Layout}
use Rattle.mmv_layout.proofs.Below.{both_left, both_right}
use Rattle.mmv_layout.specs.declared.rows.MetricRow.{MetricRow}
use Rattle.mmv_layout.specs.Sizes.{has_inline_names, name_room}
use Rattle.pcp_base.specs.Names.{spells}
use Rattle.std.proofs.lemmas.Bool.Decides.{nat_tests}
use Rattle.mmv_writer.specs.Rules.{is_short_name}
use Rattle.mmv_writer.specs.Draft.{Each, IsStored, IsString, IsHelp, IsInstance, IsMetric, IsContent, IsDraft}
use Rattle.mmv_writer.specs.Spelling.{texts_of, texts_in, texts_of_name, texts_of_domain, texts_of_instances, texts_of_metric, reference_texts, with_missing, all_strings}
use Rattle.mmv_writer.proofs.Rows.{any_longer, each_snoc}

pub same_bytes : (a b : List ℕ) → bytes_eq a b ≡ true → a ≡ b
same_bytes [] [] h = refl
same_bytes [] (y ∷ b) h = cc
same_bytes (x ∷ a) [] h = cc
same_bytes (x ∷ a) (y ∷ b) h = ap₂ (λ z zs. z ∷ zs) (eqb-true x y (both_left (nat_eq x y) (bytes_eq a b) h)) (same_bytes a b (both_right (nat_eq x y) (bytes_eq a b) h))

pub bytes_same : (a : List ℕ) → bytes_eq a a ≡ true
bytes_same [] = refl
bytes_same (x ∷ a) = ap₂ (λ s t. s && t) (eq-eqb x x refl) (bytes_same a)

-- a text is among strings
abbrev pub Has : List (List ℕ) → List ℕ → Type 0
Has strings text = list_any (λ other. bytes_eq other text) strings ≡ true

abbrev pub HasHelp : List (List ℕ) → Option (List ℕ) → Type 0
HasHelp strings None = Unit {0}
HasHelp strings (Some text) = Has strings text

-- a name that doesn't stand in its field
abbrev pub HasName : List (List ℕ) → ℕ → List ℕ → Type 0
HasName strings version name = has_inline_names version ≡ false → Has strings name

abbrev pub HasContent : List (List ℕ) → Content → Type 0
HasContent strings (Number n) = Unit {0}
HasContent strings (Choice text) = Has strings text
HasContent strings (Raw value extra) = Unit {0}

-- the texts of helps and values are among the strings
pub record HasTexts (draft : Layout) : Type 0 where
  pub domains : Each (λ row. HasHelp draft.strings row.short × HasHelp draft.strings row.long) draft.indoms
  pub metrics : Each (λ row. HasHelp draft.strings row.short × HasHelp draft.strings row.long) draft.metrics
  pub values : Each (λ row. HasContent draft.strings row.content) draft.values

any_last : {T : Type 0} (test : T → Bool) (xs : List T) (y : T) → test y ≡ true → list_any test (xs ++ y ∷ []) ≡ true
any_last test [] y h = ap (λ b. b || false) h
any_last test (x ∷ xs) y h = ap (λ b. test x || b) (any_last test xs y h) ∙ or_true (test x)
  where
    or_true : (b : Bool) → (b || true) ≡ true
    or_true true = refl
    or_true false = refl

kept : (strings texts : List (List ℕ)) (text : List ℕ) → Has strings text → Has (with_missing strings texts) text
unfolding with_missing
kept strings [] text h = h
kept strings (t ∷ texts) text h =
    kept (cond (list_any (λ other. bytes_eq other t) strings) strings (strings ++ t ∷ [])) texts text (here (list_any (λ other. bytes_eq other t) strings))
  where
    here : (b : Bool) → Has (cond b strings (strings ++ t ∷ [])) text
    here true = h
    here false = any_longer (λ other. bytes_eq other text) strings (t ∷ []) h

added : (strings texts : List (List ℕ)) (text : List ℕ) → Has texts text → Has (with_missing strings texts) text
unfolding with_missing
added strings [] text h = cc
added strings (t ∷ texts) text h =
    here (bytes_eq t text) refl (added (cond (list_any (λ other. bytes_eq other t) strings) strings (strings ++ t ∷ [])) texts text) h
  where
    stands : (b : Bool) → list_any (λ other. bytes_eq other t) strings ≡ b → Has (cond b strings (strings ++ t ∷ [])) t
    stands true e = e
    stands false e = any_last (λ other. bytes_eq other t) strings t (bytes_same t)

    here : (b : Bool) → bytes_eq t text ≡ b → (Has texts text → Has (with_missing (cond (list_any (λ other. bytes_eq other t) strings) strings (strings ++ t ∷ [])) texts) text) → (b || list_any (λ other. bytes_eq other text) texts) ≡ true → Has (with_missing (cond (list_any (λ other. bytes_eq other t) strings) strings (strings ++ t ∷ [])) texts) text
    here true e rest h =
        kept (cond (list_any (λ other. bytes_eq other t) strings) strings (strings ++ t ∷ [])) texts text
        (subst (λ s. Has (cond (list_any (λ other. bytes_eq other t) strings) strings (strings ++ t ∷ [])) s) (same_bytes t text e) (stands (list_any (λ other. bytes_eq other t) strings) refl))
    here false e rest h = rest h

any_left : {T : Type 0} (test : T → Bool) (xs ys : List T) → list_any test xs ≡ true → list_any test (xs ++ ys) ≡ true
any_left test xs ys h = any_longer test xs ys h

any_right : {T : Type 0} (test : T → Bool) (xs ys : List T) → list_any test ys ≡ true → list_any test (xs ++ ys) ≡ true
any_right test [] ys h = h
any_right test (x ∷ xs) ys h = ap (λ b. test x || b) (any_right test xs ys h) ∙ or_true (test x)
  where
    or_true : (b : Bool) → (b || true) ≡ true
    or_true true = refl
    or_true false = refl

any_flat : {T A : Type 0} (test : A → Bool) (f : T → List A) (xs : List T) (i : ℕ) (x : T) → slice_get xs i ≡ Some x → list_any test (f x) ≡ true → list_any test (flat_map f xs) ≡ true
any_flat test f [] i x at h = cc
any_flat test f (y ∷ xs) zero x at h = let same : y ≡ x = cc in any_left test (f y) (flat_map f xs) (subst (λ z. list_any test (f z) ≡ true) (sym same) h)
any_flat test f (y ∷ xs) (suc i) x at h = any_right test (f y) (flat_map f xs) (any_flat test f xs i x at h)

-- where the texts of an option or a content all are among strings
help_there : (strings : List (List ℕ)) (help : Option (List ℕ)) → ((text : List ℕ) → Has (texts_of help) text → Has strings text) → HasHelp strings help
help_there strings None h = tt
help_there strings (Some text) h = h text (ap (λ b. b || false) (bytes_same text))

content_there : (strings : List (List ℕ)) (content : Content) → ((text : List ℕ) → Has (texts_in content) text → Has strings text) → HasContent strings content
content_there strings (Number n) h = tt
content_there strings (Choice text) h = h text (ap (λ b. b || false) (bytes_same text))
content_there strings (Raw value extra) h = tt

-- where a name that is referred to is among strings
name_there : (strings : List (List ℕ)) (version : ℕ) (name : List ℕ) → ((text : List ℕ) → Has (texts_of_name version name) text → Has strings text) → HasName strings version name
name_there strings version name h other = h name (subst (λ b. Has (cond b [] (name ∷ [])) name) (sym other) (ap (λ b. b || false) (bytes_same name)))

helps_there : (strings : List (List ℕ)) (short long : Option (List ℕ)) → ((text : List ℕ) → Has (texts_of short ++ texts_of long) text → Has strings text) → HasHelp strings short × HasHelp strings long
helps_there strings short long h = (
  help_there strings short (λ text g. h text (any_left (λ other. bytes_eq other text) (texts_of short) (texts_of long) g)),
  help_there strings long (λ text g. h text (any_right (λ other. bytes_eq other text) (texts_of short) (texts_of long) g)),
)

-- the parts of the texts that are referred to

abbrev of_domains : Layout → List (List ℕ)
of_domains draft = flat_map texts_of_domain draft.indoms

abbrev of_instances : Layout → List (List ℕ)
of_instances draft = flat_map (texts_of_instances draft.version) draft.indoms

abbrev of_metrics : Layout → List (List ℕ)
of_metrics draft = flat_map (texts_of_metric draft.version) draft.metrics

abbrev of_values : Layout → List (List ℕ)
of_values draft = flat_map (λ row. texts_in row.content) draft.values

pub domain_helps : (draft : Layout) → Each (λ row. HasHelp (all_strings draft) row.short × HasHelp (all_strings draft) row.long) draft.indoms
unfolding all_strings
domain_helps draft i row at =
    helps_there (with_missing draft.strings (reference_texts draft)) row.short row.long (λ text h.
    added draft.strings (reference_texts draft) text (any_left (λ other. bytes_eq other text) (of_domains draft) (of_instances draft ++ (of_metrics draft ++ of_values draft))
    (any_flat (λ other. bytes_eq other text) texts_of_domain draft.indoms i row at h)))

pub instance_names : (draft : Layout) → Each (λ row. Each (λ instance. HasName (all_strings draft) draft.version instance.1) row.instances) draft.indoms
unfolding all_strings
instance_names draft i row at k instance within =
    name_there (with_missing draft.strings (reference_texts draft)) draft.version instance.1 (λ text h.
    added draft.strings (reference_texts draft) text (any_right (λ other. bytes_eq other text) (of_domains draft) (of_instances draft ++ (of_metrics draft ++ of_values draft))
    (any_left (λ other. bytes_eq other text) (of_instances draft) (of_metrics draft ++ of_values draft)
    (any_flat (λ other. bytes_eq other text) (texts_of_instances draft.version) draft.indoms i row at
    (any_flat (λ other. bytes_eq other text) (λ instance. texts_of_name draft.version instance.1) row.instances k instance within h)))))

metric_text : (draft : Layout) (i : ℕ) (row : MetricRow) → slice_get draft.metrics i ≡ Some row → (text : List ℕ) → Has (texts_of_metric draft.version row) text → Has (with_missing draft.strings (reference_texts draft)) text
metric_text draft i row at text h =
    added draft.strings (reference_texts draft) text (any_right (λ other. bytes_eq other text) (of_domains draft) (of_instances draft ++ (of_metrics draft ++ of_values draft))
    (any_right (λ other. bytes_eq other text) (of_instances draft) (of_metrics draft ++ of_values draft)
    (any_left (λ other. bytes_eq other text) (of_metrics draft) (of_values draft)
    (any_flat (λ other. bytes_eq other text) (texts_of_metric draft.version) draft.metrics i row at h))))

pub metric_names : (draft : Layout) → Each (λ row. HasName (all_strings draft) draft.version row.name) draft.metrics
unfolding all_strings
metric_names draft i row at =
    name_there (with_missing draft.strings (reference_texts draft)) draft.version row.name (λ text h.
    metric_text draft i row at text (any_left (λ other. bytes_eq other text) (texts_of_name draft.version row.name) (texts_of row.short ++ texts_of row.long) h))

pub metric_helps : (draft : Layout) → Each (λ row. HasHelp (all_strings draft) row.short × HasHelp (all_strings draft) row.long) draft.metrics
unfolding all_strings
metric_helps draft i row at =
    helps_there (with_missing draft.strings (reference_texts draft)) row.short row.long (λ text h.
    metric_text draft i row at text (any_right (λ other. bytes_eq other text) (texts_of_name draft.version row.name) (texts_of row.short ++ texts_of row.long) h))

pub value_texts : (draft : Layout) → Each (λ row. HasContent (all_strings draft) row.content) draft.values
unfolding all_strings
value_texts draft i row at =
    content_there (with_missing draft.strings (reference_texts draft)) row.content (λ text h.
    added draft.strings (reference_texts draft) text (any_right (λ other. bytes_eq other text) (of_domains draft) (of_instances draft ++ (of_metrics draft ++ of_values draft))
    (any_right (λ other. bytes_eq other text) (of_instances draft) (of_metrics draft ++ of_values draft)
    (any_right (λ other. bytes_eq other text) (of_metrics draft) (of_values draft)
    (any_flat (λ other. bytes_eq other text) (λ r. texts_in r.content) draft.values i row at h)))))

-- All strings are short

each_joined : {T : Type 0} (P : T → Type 0) (xs ys : List T) → Each P xs → Each P ys → Each P (xs ++ ys)
each_joined P [] ys a b i x at = b i x at
each_joined P (y ∷ xs) ys a b zero x at = a zero x at
each_joined P (y ∷ xs) ys a b (suc i) x at = each_joined P xs ys (λ j z h. a (suc j) z h) b i x at

each_flat : {T A : Type 0} (P : A → Type 0) (f : T → List A) (xs : List T) → Each (λ x. Each P (f x)) xs → Each P (flat_map f xs)
each_flat P f [] all i x at = cc
each_flat P f (y ∷ xs) all i x at = each_joined P (f y) (flat_map f xs) (all zero y refl) (λ j z h. each_flat P f xs (λ k w g. all (suc k) w g) j z h) i x at

each_missing : (P : List ℕ → Type 0) (strings texts : List (List ℕ)) → Each P strings → Each P texts → Each P (with_missing strings texts)
unfolding with_missing
each_missing P strings [] a b = a
each_missing P strings (t ∷ texts) a b =
    each_missing P (cond (list_any (λ other. bytes_eq other t) strings) strings (strings ++ t ∷ [])) texts (here (list_any (λ other. bytes_eq other t) strings)) (λ j z h. b (suc j) z h)
  where
    here : (c : Bool) → Each P (cond c strings (strings ++ t ∷ []))
    here true = a
    here false = each_snoc P strings t a (b zero t refl)

help_strings : (help : Option (List ℕ)) → IsHelp help → Each IsString (texts_of help)
help_strings None h i x at = cc
help_strings (Some text) h zero x at = let same : text ≡ x = cc in subst IsString same h
help_strings (Some text) h (suc i) x at = cc

content_strings : (content : Content) → IsContent content → Each IsString (texts_in content)
content_strings (Number n) h i x at = cc
content_strings (Choice text) h zero x at = let same : text ≡ x = cc in subst IsString same h
content_strings (Choice text) h (suc i) x at = cc
content_strings (Raw value extra) h i x at = cc

-- a name is short enough for a string, whatever the version
pub name_string : (version : ℕ) (name : List ℕ) → IsStored name → is_short_name version name ≡ true → IsString name
unfolding name_room
name_string version name stored short = record { stored = stored; short = here (has_inline_names version) (length name) short }
  where
    here : (inline : Bool) (n : ℕ) → nat_lt n (cond inline 64 256) ≡ true → nat_lt 255 n ≡ false
    here true n h = grind (arith, nat_tests)
    here false n h = grind (arith, nat_tests)

name_strings : (version : ℕ) (name : List ℕ) → IsString name → Each IsString (texts_of_name version name)
name_strings version name is = here (has_inline_names version)
  where
    here : (inline : Bool) → Each IsString (cond inline [] (name ∷ []))
    here true i x at = cc
    here false zero x at = let same : name ≡ x = cc in subst IsString same is
    here false (suc i) x at = cc

helps_strings : (short long : Option (List ℕ)) → IsHelp short → IsHelp long → Each IsString (texts_of short ++ texts_of long)
helps_strings short long s l = each_joined IsString (texts_of short) (texts_of long) (help_strings short s) (help_strings long l)

pub strings_short : (draft : Layout) → IsDraft draft → Each IsString (all_strings draft)
unfolding all_strings
strings_short draft d =
    each_missing IsString draft.strings (reference_texts draft) d.strings
    (each_joined IsString (of_domains draft) (of_instances draft ++ (of_metrics draft ++ of_values draft))
    (each_flat IsString texts_of_domain draft.indoms (λ i row at. helps_strings row.short row.long (d.domains i row at).short (d.domains i row at).long))
    (each_joined IsString (of_instances draft) (of_metrics draft ++ of_values draft)
    (each_flat IsString (texts_of_instances draft.version) draft.indoms (λ i row at. each_flat IsString (λ instance. texts_of_name draft.version instance.1) row.instances (λ k instance within.
    let is : IsInstance draft.version instance = (d.domains i row at).instances k instance within in
    name_strings draft.version instance.1 (name_string draft.version instance.1 is.stored (both_right (nat_le 1 (length instance.1)) (is_short_name draft.version instance.1) is.name)))))
    (each_joined IsString (of_metrics draft) (of_values draft)
    (each_flat IsString (texts_of_metric draft.version) draft.metrics (λ i row at.
    let is : IsMetric draft.version draft.indoms row = d.metrics i row at in
    each_joined IsString (texts_of_name draft.version row.name) (texts_of row.short ++ texts_of row.long)
    (name_strings draft.version row.name (name_string draft.version row.name is.stored (both_right (spells true row.name) (is_short_name draft.version row.name) is.name)))
    (helps_strings row.short row.long is.short is.long)))
    (each_flat IsString (λ r. texts_in r.content) draft.values (λ i row at. content_strings row.content (d.values i row at).content)))))
