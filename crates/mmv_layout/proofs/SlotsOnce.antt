-- An image has at most one value word for an item and an instance.
use Rattle.std.proofs.Common.{◌≡◌, ℕ, negsuc, ◌^◌, ◌<◌, Bool, true, false, not, ◌||◌, ◌⊎◌, List, Some, unwrap_or, ap, sym, ◌∙◌, refl, arith, cond, w32, ⊎_elim, true≢false}
use Rattle.std.specs.Int.{cast_signed, cast_unsigned}
use Rattle.std.proofs.lemmas.Int.{of_z-to_z}
use Rattle.std.proofs.lemmas.Bool.{eq-eqb, cases_order}
use Rattle.mmv_layout.specs.Fields.{number32, number64}
use Rattle.mmv_layout.specs.EntryFields.{domain_in_instance, number_offset_in_instance, number_in_instance, item_in_metric, serial_in_metric, metric_in_value, instance_in_value}
use Rattle.mmv_layout.specs.Entries.{indom_count, indom_at, instance_count, instance_at, metric_count, metric_at, value_count, value_at, metric_of, is_no_domain, has_serial, is_new_indom, is_good_indom, is_same_instance, is_new_instance, is_good_instance, is_same_metric, is_new_metric, is_good_metric, instance_leads, is_same_value, is_new_value, is_good_value}
use Rattle.mmv_layout.specs.Images.{is_image}
use Rattle.mmv_layout.proofs.Below.{all_at, both_left, both_right}
use Rattle.mmv_layout.specs.Rows.{item_of, domain_of, instance_of}
use Rattle.mmv_layout.specs.Form.{slot_at, HasOneSlotEach}
use Rattle.mmv_layout.specs.Says.{LeadsTo}
use Rattle.mmv_layout.proofs.Goods.{eq_of, either, good_indom, good_instance, good_metric, good_value}
use Rattle.mmv_layout.proofs.Saying.{value_metric}
use Rattle.mmv_layout.proofs.Alike.{domain_leads, instance_there}
use Rattle.mmv_layout.proofs.SlotLists.{GivenBy}
use Rattle.mmv_layout.proofs.SlotFacts.{SlotIs, slot_is, slot_value}
use Rattle.mmv_layout.proofs.Shapes.{self_agrees}

not_both : (t : Bool) → not t ≡ true → t ≡ true → ⊥
not_both true h e = true≢false (sym h)
not_both false h e = true≢false (sym e)

-- where no earlier number below a count is the same, numbers that are the same are one
one_of : (same : ℕ → ℕ → Bool) (i j : ℕ) → (i < j → same i j ≡ false) → (j < i → same j i ≡ false) → same i j ≡ true → same j i ≡ true → i ≡ j
one_of same i j before behind e f =
    ⊎_elim (λ (here : i ≡ j). here)
    (λ (apart : (i < j) ⊎ (j < i)).
    ⊎_elim (λ (less : i < j). absurd (true≢false (sym e ∙ before less))) (λ (more : j < i). absurd (true≢false (sym f ∙ behind more))) apart) (cases_order i j)

not_false : (t : Bool) → not t ≡ true → t ≡ false
not_false true h = cc
not_false false h = refl

or_first : (x y : Bool) → x ≡ true → (x || y) ≡ true
or_first true y e = refl
or_first false y e = cc

module _ (a : List ℕ) (h : is_image a ≡ true) where
  pub metric_new : (i j : ℕ) → j < metric_count a → i < j → is_same_metric a (metric_at a i) (metric_at a j) ≡ false
  unfolding is_good_metric is_new_metric
  metric_new i j below less =
      not_false _ (all_at j i (λ i. not (is_same_metric a (metric_at a i) (metric_at a j))) (both_right _ _ (good_metric a j h below)) less)

  metric_same : (i j : ℕ) → item_in_metric a (metric_at a i) ≡ item_in_metric a (metric_at a j) → is_same_metric a (metric_at a i) (metric_at a j) ≡ true
  unfolding is_same_metric
  metric_same i j e = or_first _ _ (eq-eqb (item_in_metric a (metric_at a i)) (item_in_metric a (metric_at a j)) e)

  metric_once : (i j : ℕ) → i < metric_count a → j < metric_count a → item_in_metric a (metric_at a i) ≡ item_in_metric a (metric_at a j) → i ≡ j
  metric_once i j x y e =
      one_of (λ i j. is_same_metric a (metric_at a i) (metric_at a j)) i j (metric_new i j y) (metric_new j i x) (metric_same i j e) (metric_same j i (sym e))

  pub indom_new : (i j : ℕ) → j < indom_count a → i < j → has_serial a (number32 a (indom_at a j)) i ≡ false
  unfolding is_good_indom is_new_indom
  indom_new i j below less =
      not_false _ (all_at j i (λ i. not (has_serial a (number32 a (indom_at a j)) i)) (both_right _ _ (both_left _ _ (good_indom a j h below))) less)

  indom_same : (i j : ℕ) → number32 a (indom_at a i) ≡ number32 a (indom_at a j) → has_serial a (number32 a (indom_at a j)) i ≡ true
  unfolding has_serial
  indom_same i j e = eq-eqb (number32 a (indom_at a i)) (number32 a (indom_at a j)) e

  indom_once : (i j : ℕ) → i < indom_count a → j < indom_count a → number32 a (indom_at a i) ≡ number32 a (indom_at a j) → i ≡ j
  indom_once i j x y e =
      one_of (λ i j. has_serial a (number32 a (indom_at a j)) i) i j (indom_new i j y) (indom_new j i x) (indom_same i j e) (indom_same j i (sym e))

  instance_new : (i j : ℕ) → j < instance_count a → i < j → is_same_instance a (instance_at a i) (instance_at a j) ≡ false
  unfolding is_good_instance is_new_instance
  instance_new i j below less =
      not_false _ (all_at j i (λ i. not (is_same_instance a (instance_at a i) (instance_at a j))) (both_right _ _ (both_left _ _ (good_instance a j h below))) less)

  instance_same : (i j : ℕ) → domain_in_instance a (instance_at a i) ≡ domain_in_instance a (instance_at a j) → number_in_instance a (instance_at a i) ≡ number_in_instance a (instance_at a j)
      → is_same_instance a (instance_at a i) (instance_at a j) ≡ true
  unfolding is_same_instance
  instance_same i j e f =
      rw (eq-eqb (domain_in_instance a (instance_at a i)) (domain_in_instance a (instance_at a j)) e, eq-eqb (number_in_instance a (instance_at a i)) (number_in_instance a (instance_at a j)) f) refl

  instance_once : (i j : ℕ) → i < instance_count a → j < instance_count a → domain_in_instance a (instance_at a i) ≡ domain_in_instance a (instance_at a j)
      → number_in_instance a (instance_at a i) ≡ number_in_instance a (instance_at a j) → i ≡ j
  instance_once i j x y e f =
      one_of (λ i j. is_same_instance a (instance_at a i) (instance_at a j)) i j (instance_new i j y) (instance_new j i x) (instance_same i j e f) (instance_same j i (sym e) (sym f))

  -- instances whose domains have one serial lead to one domain
  domain_once : (i j : ℕ) → i < instance_count a → j < instance_count a → number32 a (domain_in_instance a (instance_at a i)) ≡ number32 a (domain_in_instance a (instance_at a j))
      → domain_in_instance a (instance_at a i) ≡ domain_in_instance a (instance_at a j)
  domain_once i j x y e =
      let (p, p_below, p_is) = domain_leads a a h (self_agrees a h) i x in
      let (q, q_below, q_is) = domain_leads a a h (self_agrees a h) j y in
      p_is ∙ ap (indom_at a) (indom_once p q p_below q_below (sym (ap (number32 a) p_is) ∙ e ∙ ap (number32 a) q_is)) ∙ sym q_is

  -- offsets of instances with one number, whose domains have one serial, are one
  offset_once : (x y : ℕ) → LeadsTo (instance_count a) (instance_at a) x → LeadsTo (instance_count a) (instance_at a) y → number32 a (number64 a x) ≡ number32 a (number64 a y)
      → number_in_instance a x ≡ number_in_instance a y → x ≡ y
  offset_once x y (p, p_below, p_is) (q, q_below, q_is) e f =
      let domains : number64 a (instance_at a p) ≡ number64 a (instance_at a q) =
      domain_once p q p_below q_below (sym (ap (λ n. number32 a (number64 a n)) p_is) ∙ e ∙ ap (λ n. number32 a (number64 a n)) q_is) in
      p_is ∙ ap (instance_at a) (instance_once p q p_below q_below domains (sym (ap (number_in_instance a) p_is) ∙ f ∙ ap (number_in_instance a) q_is)) ∙ sym q_is

  value_leads : (i : ℕ) → i < value_count a → instance_leads a (value_at a i) ≡ true
  unfolding is_good_value
  value_leads i below = both_right _ _ (both_left _ _ (both_left _ _ (good_value a i h below)))

  null_field : (i : ℕ) → i < value_count a → is_no_domain (domain_of a (value_at a i)) ≡ true → instance_in_value a (value_at a i) ≡ 0
  unfolding instance_leads
  null_field i below none = eq_of (instance_in_value a (value_at a i)) 0 (taken _ _ _ (value_leads i below) none)
    where
      taken : (t x y : Bool) → cond t x y ≡ true → t ≡ true → x ≡ true
      taken true x y p e = p
      taken false x y p e = cc

  field_serial : (i : ℕ) → i < value_count a → is_no_domain (domain_of a (value_at a i)) ≡ false → number32 a (number64 a (instance_in_value a (value_at a i))) ≡ domain_of a (value_at a i)
  unfolding instance_leads
  field_serial i below some = eq_of (number32 a (number64 a (instance_in_value a (value_at a i)))) (domain_of a (value_at a i)) (both_right _ _ (both_right _ _ (taken _ _ _ (value_leads i below) some)))
    where
      taken : (t x y : Bool) → cond t x y ≡ true → t ≡ false → y ≡ true
      taken true x y p e = cc
      taken false x y p e = p

  small32 : (offset : ℕ) → number32 a offset < 2 ^ 32
  unfolding number32
  small32 offset = omega arith

  number_of : (x y : ℕ) → cast_signed w32 (number32 a x) ≡ cast_signed w32 (number32 a y) → number32 a x ≡ number32 a y
  number_of x y e = sym (of_z-to_z w32 (number32 a x) (small32 x)) ∙ ap (cast_unsigned w32) e ∙ of_z-to_z w32 (number32 a y) (small32 y)

  told : (i : ℕ) → is_no_domain (domain_of a (value_at a i)) ≡ false → unwrap_or (instance_of a (value_at a i)) (negsuc 0) ≡ cast_signed w32 (number32 a (number_offset_in_instance (instance_in_value a (value_at a i))))
  unfolding instance_of
  told i some = rw some refl

  -- two values of one item and one instance are the same
  values_same : (i j : ℕ) → i < value_count a → j < value_count a → item_of a (value_at a i) ≡ item_of a (value_at a j)
      → unwrap_or (instance_of a (value_at a i)) (negsuc 0) ≡ unwrap_or (instance_of a (value_at a j)) (negsuc 0)
      → (metric_of a (value_at a i) ≡ metric_of a (value_at a j)) × (instance_in_value a (value_at a i) ≡ instance_in_value a (value_at a j))
  values_same i j x y items instances =
      let (p, p_below, p_is) = value_metric a i (good_value a i h x) in
      let (q, q_below, q_is) = value_metric a j (good_value a j h y) in
      let metrics : metric_of a (value_at a i) ≡ metric_of a (value_at a j) =
      p_is ∙ ap (metric_at a) (metric_once p q p_below q_below (sym (ap (item_in_metric a) p_is) ∙ items ∙ ap (item_in_metric a) q_is)) ∙ sym q_is in
      let domains : domain_of a (value_at a i) ≡ domain_of a (value_at a j) = ap (serial_in_metric a) metrics in (
        metrics,
        ⊎_elim
            (λ (none : is_no_domain (domain_of a (value_at a i)) ≡ true). null_field i x none ∙ sym (null_field j y (sym (ap is_no_domain domains) ∙ none)))
            (λ (some : is_no_domain (domain_of a (value_at a i)) ≡ false).
            let others : is_no_domain (domain_of a (value_at a j)) ≡ false = sym (ap is_no_domain domains) ∙ some in
            offset_once (instance_in_value a (value_at a i)) (instance_in_value a (value_at a j)) (instance_there a a h (self_agrees a h) i x some) (instance_there a a h (self_agrees a h) j y others)
            (field_serial i x some ∙ domains ∙ sym (field_serial j y others))
            (number_of (number_offset_in_instance (instance_in_value a (value_at a i))) (number_offset_in_instance (instance_in_value a (value_at a j))) (sym (told i some) ∙ instances ∙ told j others)))
            (either (is_no_domain (domain_of a (value_at a i)))),
      )

  value_new : (i j : ℕ) → j < value_count a → i < j → is_same_value a (value_at a i) (value_at a j) ≡ false
  unfolding is_good_value is_new_value
  value_new i j below less =
      not_false _ (all_at j i (λ i. not (is_same_value a (value_at a i) (value_at a j))) (both_right _ _ (good_value a j h below)) less)

  value_same : (i j : ℕ) → metric_of a (value_at a i) ≡ metric_of a (value_at a j) → instance_in_value a (value_at a i) ≡ instance_in_value a (value_at a j) → is_same_value a (value_at a i) (value_at a j) ≡ true
  unfolding is_same_value metric_of
  value_same i j e f =
      rw (eq-eqb (metric_in_value a (value_at a i)) (metric_in_value a (value_at a j)) e, eq-eqb (instance_in_value a (value_at a i)) (instance_in_value a (value_at a j)) f) refl

  pub value_once : (i j : ℕ) → i < value_count a → j < value_count a → item_of a (value_at a i) ≡ item_of a (value_at a j)
      → unwrap_or (instance_of a (value_at a i)) (negsuc 0) ≡ unwrap_or (instance_of a (value_at a j)) (negsuc 0) → i ≡ j
  value_once i j x y items instances =
      let same = values_same i j x y items instances in
      one_of (λ i j. is_same_value a (value_at a i) (value_at a j)) i j (value_new i j y) (value_new j i x) (value_same i j same.0 same.1) (value_same j i (sym same.0) (sym same.1))

some_same : {X : Type 0} (x y : X) → Some x ≡ Some y → x ≡ y
some_same x y h = cc

pub one_slot_each : HasOneSlotEach
one_slot_each words h slot other among others items instances =
    let given : GivenBy (slot_at words) (value_count words) (value_at words) slot = slot_value words slot among in
    let given_other : GivenBy (slot_at words) (value_count words) (value_at words) other = slot_value words other others in
    let is : SlotIs words (value_at words given.index) slot = slot_is words (value_at words given.index) slot given.gives in
    let is_other : SlotIs words (value_at words given_other.index) other = slot_is words (value_at words given_other.index) other given_other.gives in
    let same : given.index ≡ given_other.index =
    value_once words h given.index given_other.index given.below given_other.below
    (sym (ap (λ s. s.item) is.is) ∙ items ∙ ap (λ s. s.item) is_other.is) (sym (ap (λ s. s.instance) is.is) ∙ instances ∙ ap (λ s. s.instance) is_other.is) in
    some_same slot other (sym given.gives ∙ ap (λ i. slot_at words (value_at words i)) same ∙ given_other.gives)
