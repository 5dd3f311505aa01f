-- A draft with one row more is a draft, where no rule forbids the row.
use Rattle.std.proofs.Common.{◌≡◌, ℕ, zero, suc, ◌<◌, ◌≤◌, ◌^◌, ℤ, pos, negsuc, Bool, true, false, not, ◌&&◌, ◌||◌, ◌⊎◌, inl, inr, List, [], ◌∷◌, ◌++◌, ap, ap₂, sym, subst, ◌∙◌, refl, arith, ⊎_elim, cond, nat_eq, nat_le, Option, Some, None}
use Rattle.std.specs.List.{list_any, slice_get}
use Rattle.std.specs.Int.{w32, is_negative}
use Rattle.std.specs.Int.RustNames.{FitsSigned}
use Rattle.std.proofs.lemmas.Bool.Decides.{nat_tests}
use Rattle.std.proofs.lemmas.Bool.{eqb-true, eq-eqb, leb-true}
use Rattle.std.specs.Ordering.{int_eq}
use Rattle.mmv_layout.specs.Sizes.{is_version}
use Rattle.mmv_layout.specs.declared.rows.IndomRow.{IndomRow}
use Rattle.mmv_layout.specs.declared.rows.MetricRow.{MetricRow}
use Rattle.mmv_layout.specs.declared.rows.ValueRow.{ValueRow}
use Rattle.mmv_layout.specs.declared.rows.Layout.{Layout}
use Rattle.mmv_layout.specs.Entries.{is_serial}
use Rattle.mmv_writer.specs.declared.fault.BuildFault.{BuildFault}
use Rattle.mmv_writer.specs.declared.fault.BuildFault.TheVariants.{Name, Duplicate, Unknown, Serial, Item}
use Rattle.mmv_writer.specs.Rules.{is_long, is_long_help, has_domain, header_fault, indom_fault, is_instance_name, is_same_instance, has_same_instance, instance_fault, is_metric_name, is_same_metric, lacks_domain, unknown_or, metric_fault, has_instance, fits_instance, fits_kind, fits_metric, fits_some_metric, is_same_value, is_long_content, value_fault, text_fault}
use Rattle.mmv_writer.specs.Draft.{Each, Apart, IsStored, IsString, IsHelp, IsNumber, IsInstance, IsDomain, HasDomain, IsMetric, IsContent, IsValue, is_same_serial, IsDraft, empty_draft, with_domain, add_instance, with_instance, with_metric, with_value, with_string}
use Rattle.mmv_writer.proofs.Rows.{any_at, each_snoc, apart_snoc, any_longer, any_wider}

-- What a row that no rule forbids is

not_false : (b : Bool) → not b ≡ false → b ≡ true
not_false true h = refl
not_false false h = cc

three : (a b c : Bool) (f g k : BuildFault) → cond a (Some f) (cond b (Some g) (cond c None (Some k))) ≡ None → (a ≡ false) × (b ≡ false) × (c ≡ true)
three true b c f g k h = cc
three false true c f g k h = cc
three false false true f g k h = (refl, refl, refl)
three false false false f g k h = cc

pub indom_rules : (draft : Layout) (row : IndomRow) → indom_fault draft row ≡ None → ((is_long_help row.short || is_long_help row.long) ≡ false) × (has_domain draft.indoms row.serial ≡ false) × (is_serial row.serial ≡ true)
unfolding indom_fault
indom_rules draft row h = three (is_long_help row.short || is_long_help row.long) (has_domain draft.indoms row.serial) (is_serial row.serial) Name Duplicate Serial h

pub value_rules : (draft : Layout) (row : ValueRow) → value_fault draft row ≡ None → (is_long_content row.content ≡ false) × (list_any (λ other. is_same_value other row) draft.values ≡ false) × (fits_some_metric draft.indoms draft.metrics row ≡ true)
unfolding value_fault
value_rules draft row h = three (is_long_content row.content) (list_any (λ other. is_same_value other row) draft.values) (fits_some_metric draft.indoms draft.metrics row) Name Duplicate Item h

four : (a b c e : Bool) (f g k l : BuildFault) → cond (not a) (Some f) (cond b (Some g) (cond (not c) (Some k) (cond e (Some l) None))) ≡ None → (a ≡ true) × (b ≡ false) × (c ≡ true) × (e ≡ false)
four false b c e f g k l h = cc
four true true c e f g k l h = cc
four true false false e f g k l h = cc
four true false true true f g k l h = cc
four true false true false f g k l h = (refl, refl, refl, refl)

pub instance_rules : (draft : Layout) (serial : ℕ) (id : ℤ) (name : List ℕ) → instance_fault draft serial id name ≡ None → (is_instance_name draft.version name ≡ true) × (has_same_instance draft.indoms serial (id, name) ≡ false) × (has_domain draft.indoms serial ≡ true) × (is_negative id ≡ false)
unfolding instance_fault
instance_rules draft serial id name h = four (is_instance_name draft.version name) (has_same_instance draft.indoms serial (id, name)) (has_domain draft.indoms serial) (is_negative id) Name Duplicate (Unknown serial) Serial h

metric_three : (a b c : Bool) (lacks : Option ℕ) (e : Bool) (f g k : BuildFault) → cond (not a || b) (Some f) (cond c (Some g) (unknown_or lacks (cond e None (Some k)))) ≡ None → (a ≡ true) × (c ≡ false) × (lacks ≡ None) × (e ≡ true)
metric_three false b c lacks e f g k h = cc
metric_three true true c lacks e f g k h = cc
metric_three true false true lacks e f g k h = cc
metric_three true false false None true f g k h = (refl, refl, refl, refl)
metric_three true false false None false f g k h = cc
metric_three true false false (Some s) e f g k h = cc

pub metric_rules : (draft : Layout) (row : MetricRow) → metric_fault draft row ≡ None → (is_metric_name draft.version row.name ≡ true) × (list_any (λ other. is_same_metric other row) draft.metrics ≡ false) × (lacks_domain draft.indoms row.serial ≡ None) × (nat_le row.item 1023 ≡ true)
unfolding metric_fault
metric_rules draft row h =
    metric_three (is_metric_name draft.version row.name) (is_long_help row.short || is_long_help row.long) (list_any (λ other. is_same_metric other row) draft.metrics) (lacks_domain draft.indoms row.serial) (nat_le row.item 1023) Name Duplicate Item h

pub string_rule : (text : List ℕ) → text_fault text ≡ None → is_long text ≡ false
unfolding text_fault
string_rule text h = one (is_long text) h
  where
    one : (a : Bool) → cond a (Some Name) None ≡ None → a ≡ false
    one true h = cc
    one false h = refl

domain_is_there : (ix : List IndomRow) (serial : Option ℕ) → lacks_domain ix serial ≡ None → HasDomain ix serial
domain_is_there ix None h = tt
domain_is_there ix (Some s) h = one (has_domain ix s) h
  where
    one : (a : Bool) → cond a None (Some s) ≡ None → a ≡ true
    one true h = refl
    one false h = cc

-- More domains

widened : (ix : List IndomRow) (serial : Option ℕ) (more : List IndomRow) → ((s : ℕ) → has_domain ix s ≡ true → has_domain more s ≡ true) → HasDomain ix serial → HasDomain more serial
widened ix None more wide h = tt
widened ix (Some s) more wide h = wide s h

metric_stays : (version : ℕ) (ix more : List IndomRow) (row : MetricRow) → ((s : ℕ) → has_domain ix s ≡ true → has_domain more s ≡ true) → IsMetric version ix row → IsMetric version more row
metric_stays version ix more row wide m = record {
  name = m.name;
  stored = m.stored;
  item = m.item;
  units = m.units;
  domain = widened ix row.serial more wide m.domain;
  short = m.short;
  long = m.long;
}

instance_stays : (ix more : List IndomRow) (serial : Option ℕ) (number : Option ℤ) → ((s : ℕ) (id : ℤ) → has_instance ix s id ≡ true → has_instance more s id ≡ true) → fits_instance ix serial number ≡ true → fits_instance more serial number ≡ true
instance_stays ix more None None wide h = h
instance_stays ix more None (Some id) wide h = h
instance_stays ix more (Some s) None wide h = h
instance_stays ix more (Some s) (Some id) wide h = wide s id h

and_both : (a b c d e : Bool) → (b ≡ true → d ≡ true) → (a && (b && c)) ≡ true → (a && (d && c)) ≡ true
and_both false b c d e wide h = cc
and_both true false c d e wide h = cc
and_both true true c d e wide h = ap (λ x. x && c) (wide refl) ∙ h

value_stays : (ix more : List IndomRow) (metrics : List MetricRow) (row : ValueRow) → ((s : ℕ) (id : ℤ) → has_instance ix s id ≡ true → has_instance more s id ≡ true) → IsValue ix metrics row → IsValue more metrics row
value_stays ix more metrics row wide v = record {
  metric = any_wider (λ m. fits_metric ix row m) (λ m. fits_metric more row m) metrics (λ m h. and_both (nat_eq m.item row.item) (fits_instance ix m.serial row.instance) (fits_kind m.kind row.content) (fits_instance more m.serial row.instance) true (instance_stays ix more m.serial row.instance wide) h) v.metric;
  content = v.content;
}

pub domain_added : (draft : Layout) (row : IndomRow) → IsDraft draft → indom_fault draft row ≡ None → row.instances ≡ [] → IsHelp row.short × IsHelp row.long → IsDraft (with_domain draft row)
unfolding with_domain
domain_added draft row d h none helps =
    let good : IsDomain draft.version row = record {
      serial = (indom_rules draft row h).2;
      short = helps.0;
      long = helps.1;
      instances = λ i x at. absurd (empty (slice_get row.instances i) x (ap (λ xs. slice_get xs i) none) at);
      apart = λ i j a b less at more. absurd (empty (slice_get row.instances i) a (ap (λ xs. slice_get xs i) none) at);
    } in record {
      version = d.version;
      flags = d.flags;
      process = d.process;
      cluster = d.cluster;
      domains = each_snoc (IsDomain draft.version) draft.indoms row d.domains good;
      serials = apart_snoc is_same_serial draft.indoms row d.serials (indom_rules draft row h).1;
      metrics = λ i m at. metric_stays draft.version draft.indoms (draft.indoms ++ row ∷ []) m (λ s. any_longer (λ r. nat_eq r.serial s) draft.indoms (row ∷ [])) (d.metrics i m at);
      items = d.items;
      values = λ i v at. value_stays draft.indoms (draft.indoms ++ row ∷ []) draft.metrics v (λ s id. any_longer _ draft.indoms (row ∷ [])) (d.values i v at);
      places = d.places;
      strings = d.strings;
    }
  where
    empty : {T : Type 0} (found : Option T) (x : T) → found ≡ None → found ≡ Some x → ⊥
    empty found x e f = cc

at_most : (n : ℕ) → nat_le n 1023 ≡ true → n ≤ 1023
at_most n h = grind (arith, nat_tests)

pub metric_added : (draft : Layout) (row : MetricRow) → IsDraft draft → metric_fault draft row ≡ None → row.units < 2 ^ 32 → IsStored row.name → IsHelp row.short × IsHelp row.long → IsDraft (with_metric draft row)
unfolding with_metric
metric_added draft row d h units stored helps =
    let rules : (is_metric_name draft.version row.name ≡ true) × (list_any (λ other. is_same_metric other row) draft.metrics ≡ false) × (lacks_domain draft.indoms row.serial ≡ None) × (nat_le row.item 1023 ≡ true) = metric_rules draft row h in
    let good : IsMetric draft.version draft.indoms row = record {
      name = rules.0;
      stored = stored;
      item = at_most row.item rules.3;
      units = units;
      domain = domain_is_there draft.indoms row.serial rules.2;
      short = helps.0;
      long = helps.1;
    } in record {
      version = d.version;
      flags = d.flags;
      process = d.process;
      cluster = d.cluster;
      domains = d.domains;
      serials = d.serials;
      metrics = each_snoc (IsMetric draft.version draft.indoms) draft.metrics row d.metrics good;
      items = apart_snoc is_same_metric draft.metrics row d.items rules.1;
      values = λ i v at. record {
        metric = any_longer (λ m. fits_metric draft.indoms v m) draft.metrics (row ∷ []) (d.values i v at).metric;
        content = (d.values i v at).content;
      };
      places = d.places;
      strings = d.strings;
    }

pub value_added : (draft : Layout) (row : ValueRow) → IsDraft draft → value_fault draft row ≡ None → IsContent row.content → IsDraft (with_value draft row)
unfolding with_value
value_added draft row d h content = record {
  version = d.version;
  flags = d.flags;
  process = d.process;
  cluster = d.cluster;
  domains = d.domains;
  serials = d.serials;
  metrics = d.metrics;
  items = d.items;
  values = each_snoc (IsValue draft.indoms draft.metrics) draft.values row d.values (record { metric = (value_rules draft row h).2; content = content });
  places = apart_snoc is_same_value draft.values row d.places (value_rules draft row h).1;
  strings = d.strings;
}

pub string_added : (draft : Layout) (text : List ℕ) → IsDraft draft → IsString text → IsDraft (with_string draft text)
unfolding with_string
string_added draft text d is = record {
  version = d.version;
  flags = d.flags;
  process = d.process;
  cluster = d.cluster;
  domains = d.domains;
  serials = d.serials;
  metrics = d.metrics;
  items = d.items;
  values = d.values;
  places = d.places;
  strings = each_snoc IsString draft.strings text d.strings is;
}

-- What one instance more changes

-- a row after it: the same, or the domain's with the instance at its end
GrownFrom : List IndomRow → ℕ → ℤ × List ℕ → ℕ → IndomRow → Type 0
GrownFrom rows serial instance i grown =
    (row : IndomRow) × (slice_get rows i ≡ Some row)
    × ((grown ≡ row) ⊎ ((row.serial ≡ serial) × (grown ≡ record row { instances = row.instances ++ instance ∷ [] })))

grown_row : (rows : List IndomRow) (serial : ℕ) (instance : ℤ × List ℕ) (i : ℕ) (grown : IndomRow) → slice_get (add_instance rows serial instance) i ≡ Some grown → GrownFrom rows serial instance i grown
unfolding add_instance GrownFrom
grown_row [] serial instance i grown h = cc
grown_row (row ∷ rows) serial instance i grown h = here (nat_eq row.serial serial) refl i (λ k. grown_row rows serial instance k grown) h
  where
    here : (b : Bool) → nat_eq row.serial serial ≡ b → (i : ℕ) → ((k : ℕ) → slice_get (add_instance rows serial instance) k ≡ Some grown → (x : IndomRow) × (slice_get rows k ≡ Some x) × ((grown ≡ x) ⊎ ((x.serial ≡ serial) × (grown ≡ record x { instances = x.instances ++ instance ∷ [] })))) → slice_get (cond b (record row { instances = row.instances ++ instance ∷ [] } ∷ rows) (row ∷ add_instance rows serial instance)) i ≡ Some grown → (x : IndomRow) × (slice_get (row ∷ rows) i ≡ Some x) × ((grown ≡ x) ⊎ ((x.serial ≡ serial) × (grown ≡ record x { instances = x.instances ++ instance ∷ [] })))
    here true e zero rest h = (row, refl, inr (eqb-true row.serial serial e, cc))
    here true e (suc k) rest h = (grown, h, inl refl)
    here false e zero rest h = (row, refl, inl cc)
    here false e (suc k) rest h = rest k h

serials_stay : (rows : List IndomRow) (serial : ℕ) (instance : ℤ × List ℕ) (s : ℕ) → has_domain (add_instance rows serial instance) s ≡ has_domain rows s
unfolding add_instance
serials_stay [] serial instance s = refl
serials_stay (row ∷ rows) serial instance s = here (nat_eq row.serial serial) (serials_stay rows serial instance s)
  where
    here : (b : Bool) → has_domain (add_instance rows serial instance) s ≡ has_domain rows s → has_domain (cond b (record row { instances = row.instances ++ instance ∷ [] } ∷ rows) (row ∷ add_instance rows serial instance)) s ≡ has_domain (row ∷ rows) s
    here true rest = refl
    here false rest = ap (λ b. nat_eq row.serial s || b) rest

or_wider : (a b c e : Bool) → (a ≡ true → c ≡ true) → (b ≡ true → e ≡ true) → (a || b) ≡ true → (c || e) ≡ true
or_wider true b c e f g h = ap (λ x. x || e) (f refl)
or_wider false b true e f g h = refl
or_wider false b false e f g h = g h

and_wider : (a b c : Bool) → (b ≡ true → c ≡ true) → (a && b) ≡ true → (a && c) ≡ true
and_wider false b c f h = cc
and_wider true b c f h = f h

instances_stay : (rows : List IndomRow) (serial : ℕ) (instance : ℤ × List ℕ) (s : ℕ) (id : ℤ) → has_instance rows s id ≡ true → has_instance (add_instance rows serial instance) s id ≡ true
unfolding add_instance
instances_stay [] serial instance s id h = h
instances_stay (row ∷ rows) serial instance s id h = here (nat_eq row.serial serial) (instances_stay rows serial instance s id)
  where
    here : (b : Bool) → (has_instance rows s id ≡ true → has_instance (add_instance rows serial instance) s id ≡ true) → has_instance (cond b (record row { instances = row.instances ++ instance ∷ [] } ∷ rows) (row ∷ add_instance rows serial instance)) s id ≡ true
    here true rest =
        or_wider (nat_eq row.serial s && list_any (λ other. int_eq other.0 id) row.instances) (has_instance rows s id) (nat_eq row.serial s && list_any (λ other. int_eq other.0 id) (row.instances ++ instance ∷ [])) (has_instance rows s id)
        (and_wider (nat_eq row.serial s) (list_any (λ other. int_eq other.0 id) row.instances) _ (any_longer (λ other. int_eq other.0 id) row.instances (instance ∷ []))) (λ e. e) h
    here false rest =
        or_wider (nat_eq row.serial s && list_any (λ other. int_eq other.0 id) row.instances) (has_instance rows s id) (nat_eq row.serial s && list_any (λ other. int_eq other.0 id) row.instances) (has_instance (add_instance rows serial instance) s id)
        (λ e. e) rest h

domain_grows : (version : ℕ) (row : IndomRow) (instance : ℤ × List ℕ) → IsDomain version row → IsInstance version instance → list_any (λ other. is_same_instance other instance) row.instances ≡ false → IsDomain version (record row { instances = row.instances ++ instance ∷ [] })
domain_grows version row instance d is new = record {
  serial = d.serial;
  short = d.short;
  long = d.long;
  instances = each_snoc (IsInstance version) row.instances instance d.instances is;
  apart = apart_snoc is_same_instance row.instances instance d.apart new;
}

one_then : (a b : Bool) → (a && b) ≡ false → a ≡ true → b ≡ false
one_then a b h e = ap (λ x. x && b) (sym e) ∙ h

grown_domains : (version : ℕ) (rows : List IndomRow) (serial : ℕ) (instance : ℤ × List ℕ) → Each (IsDomain version) rows → IsInstance version instance → has_same_instance rows serial instance ≡ false → Each (IsDomain version) (add_instance rows serial instance)
unfolding GrownFrom
grown_domains version rows serial instance all is new i grown at =
    let (row, was, how) = grown_row rows serial instance i grown at in
    ⊎_elim (λ (same : grown ≡ row). subst (IsDomain version) (sym same) (all i row was))
    (λ (more : (row.serial ≡ serial) × (grown ≡ record row { instances = row.instances ++ instance ∷ [] })).
    subst (IsDomain version) (sym more.1) (domain_grows version row instance (all i row was) is
    (one_then (nat_eq row.serial serial) (list_any (λ other. is_same_instance other instance) row.instances) (any_at (λ r. nat_eq r.serial serial && list_any (λ other. is_same_instance other instance) r.instances) rows row i new was) (eq-eqb row.serial serial more.0)))) how

serial_of_grown : (grown row : IndomRow) (serial : ℕ) (instance : ℤ × List ℕ) → ((grown ≡ row) ⊎ ((row.serial ≡ serial) × (grown ≡ record row { instances = row.instances ++ instance ∷ [] }))) → grown.serial ≡ row.serial
serial_of_grown grown row serial instance how = ⊎_elim (λ (same : grown ≡ row). ap (λ r. r.serial) same) (λ (more : (row.serial ≡ serial) × (grown ≡ record row { instances = row.instances ++ instance ∷ [] })). ap (λ r. r.serial) more.1) how

grown_serials : (rows : List IndomRow) (serial : ℕ) (instance : ℤ × List ℕ) → Apart is_same_serial rows → Apart is_same_serial (add_instance rows serial instance)
unfolding GrownFrom
grown_serials rows serial instance apart i j a b less at_a at_b =
    let (x, was_x, how_x) = grown_row rows serial instance i a at_a in
    let (y, was_y, how_y) = grown_row rows serial instance j b at_b in
    ap₂ nat_eq (serial_of_grown a x serial instance how_x) (serial_of_grown b y serial instance how_y) ∙ apart i j x y less was_x was_y

number_is : (id : ℤ) → is_negative id ≡ false → FitsSigned w32 id → IsNumber id
number_is (pos n) h fits = (n, refl, fits.sfits)
number_is (negsuc n) h fits = cc

pub instance_added : (draft : Layout) (serial : ℕ) (id : ℤ) (name : List ℕ) → IsDraft draft → instance_fault draft serial id name ≡ None → FitsSigned w32 id → IsStored name → IsDraft (with_instance draft serial id name)
unfolding with_instance
instance_added draft serial id name d h fits stored =
    let rules : (is_instance_name draft.version name ≡ true) × (has_same_instance draft.indoms serial (id, name) ≡ false) × (has_domain draft.indoms serial ≡ true) × (is_negative id ≡ false) = instance_rules draft serial id name h in
    let is : IsInstance draft.version (id, name) = record { number = number_is id rules.3 fits; name = rules.0; stored = stored } in
    record {
      version = d.version;
      flags = d.flags;
      process = d.process;
      cluster = d.cluster;
      domains = grown_domains draft.version draft.indoms serial (id, name) d.domains is rules.1;
      serials = grown_serials draft.indoms serial (id, name) d.serials;
      metrics = λ i m at. metric_stays draft.version draft.indoms (add_instance draft.indoms serial (id, name)) m (λ s there. serials_stay draft.indoms serial (id, name) s ∙ there) (d.metrics i m at);
      items = d.items;
      values = λ i v at. value_stays draft.indoms (add_instance draft.indoms serial (id, name)) draft.metrics v (instances_stay draft.indoms serial (id, name)) (d.values i v at);
      places = d.places;
      strings = d.strings;
    }

header_rules : (a b : Bool) → cond (a && b) None (Some Serial) ≡ None → (a ≡ true) × (b ≡ true)
header_rules true true h = (refl, refl)
header_rules true false h = cc
header_rules false b h = cc

pub nothing_added : (version generation flags pid cluster : ℕ) → header_fault version cluster ≡ None → flags < 2 ^ 32 → pid < 2 ^ 32 → IsDraft (empty_draft version generation flags pid cluster)
unfolding empty_draft
nothing_added version generation flags pid cluster taken f p =
    let rules : (is_version version ≡ true) × (nat_le cluster 4095 ≡ true) = header_rules (is_version version) (nat_le cluster 4095) taken in
    record {
      version = rules.0;
      flags = f;
      process = p;
      cluster = leb-true cluster 4095 rules.1;
      domains = λ i x at. cc;
      serials = λ i j a b less at more. cc;
      metrics = λ i x at. cc;
      items = λ i j a b less at more. cc;
      values = λ i x at. cc;
      places = λ i j a b less at more. cc;
      strings = λ i x at. cc;
    }
