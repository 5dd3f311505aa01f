-- What tells a draft's rows apart, as a builder keeps it in ordered maps and sets: each holds exactly the keys of the
-- rows.
use Rattle.std.specs.Prelude.{◌≡◌, ℕ, ℤ, Bool, true, false, ◌&&◌, ◌||◌, ◌==◌, List, Option, None, Some, bytes_eq}
use Rattle.std.specs.Global.{Vec}
use Rattle.std.specs.List.{list_any, position}
use Rattle.std.specs.Option.{option_cmp}
use Rattle.std.specs.declared.cmp.Ordering.{Ordering}
use Rattle.std.specs.Ordering.{nat_cmp, int_cmp, int_eq, ordering_then}
use Rattle.std.specs.Cmp.Lexicographic.{slice_cmp}
use Rattle.std.specs.BTreeMap.{BTreeMap, get}
use Rattle.std.specs.BTreeSet.{BTreeSet, contains, contains_by}
use Rattle.mmv_layout.specs.declared.rows.IndomRow.{IndomRow}
use Rattle.mmv_layout.specs.declared.rows.MetricRow.{MetricRow}
use Rattle.mmv_layout.specs.declared.rows.ValueRow.{ValueRow}
use Rattle.mmv_layout.specs.declared.rows.Layout.{Layout}
use Rattle.mmv_writer.specs.declared.keys.DomainKeys.{DomainKeys}
use Rattle.mmv_writer.specs.declared.keys.RowKeys.{RowKeys}
use Rattle.mmv_writer.specs.Rules.{has_instance, is_same_number}

-- what is kept of the domain with a serial
abbrev pub domain_in : BTreeMap ℕ DomainKeys → ℕ → Option DomainKeys
domain_in domains serial = get nat_cmp domains serial

-- where the domain's row stands
abbrev pub place_of : Option DomainKeys → Option ℕ
place_of None = None
place_of (Some domain) = Some domain.at

-- some instance of the domain has a number
abbrev pub numbers_have : Option DomainKeys → ℤ → Bool
numbers_have None id = false
numbers_have (Some domain) id = contains int_cmp domain.numbers id

-- some instance of the domain has a name
abbrev pub names_have : Option DomainKeys → List ℕ → Bool
names_have None name = false
names_have (Some domain) name = contains_by (λ (key : Vec ℕ). slice_cmp nat_cmp name key.items) domain.names

-- a domain of this serial has the name
abbrev pub has_name : List IndomRow → ℕ → List ℕ → Bool
has_name indoms serial name =
    list_any (λ row. row.serial == serial && list_any (λ other. bytes_eq other.1 name) row.instances) indoms

pub record HasDomains (domains : BTreeMap ℕ DomainKeys) (indoms : List IndomRow) : Type 0 where
  pub places : (serial : ℕ) → place_of (domain_in domains serial) ≡ position (λ row. row.serial == serial) indoms
  pub numbers : (serial : ℕ) (id : ℤ) → numbers_have (domain_in domains serial) id ≡ has_instance indoms serial id
  pub names : (serial : ℕ) (name : List ℕ) → names_have (domain_in domains serial) name ≡ has_name indoms serial name

-- where the row of the metric with an item stands
abbrev pub HasItems : BTreeMap ℕ ℕ → List MetricRow → Type 0
HasItems items metrics = (item : ℕ) → get nat_cmp items item ≡ position (λ metric. metric.item == item) metrics

-- a name is one of those kept of metrics
abbrev pub is_named : BTreeSet (Vec ℕ) → List ℕ → Bool
is_named names name = contains_by (λ (key : Vec ℕ). slice_cmp nat_cmp name key.items) names

-- the names kept are those of the metrics
abbrev pub HasMetricNames : BTreeSet (Vec ℕ) → List MetricRow → Type 0
HasMetricNames names metrics = (name : List ℕ) → is_named names name ≡ list_any (λ metric. bytes_eq metric.name name) metrics

-- the order of values: by item, then by instance
abbrev pub value_order : ℕ × Option ℤ → ℕ × Option ℤ → Ordering
value_order a b = ordering_then (nat_cmp a.0 b.0) (option_cmp int_cmp a.1 b.1)

-- some value is of an item and an instance
abbrev pub HasValues : BTreeSet (ℕ × Option ℤ) → List ValueRow → Type 0
HasValues values rows =
    (item : ℕ) (number : Option ℤ) → contains value_order values (item, number) ≡ list_any (λ row. row.item == item && is_same_number row.instance number) rows

pub record HasKeys (keys : RowKeys) (draft : Layout) : Type 0 where
  pub domains : HasDomains keys.domains draft.indoms
  pub items : HasItems keys.items draft.metrics
  pub names : HasMetricNames keys.names draft.metrics
  pub values : HasValues keys.values draft.values

-- One instance more

-- the keys of a domain take a number and a name
pub record Adds (id : ℤ) (name : List ℕ) (old new : DomainKeys) : Type 0 where
  pub at : new.at ≡ old.at
  pub numbers : (q : ℤ) → numbers_have (Some new) q ≡ (int_eq id q || numbers_have (Some old) q)
  pub names : (q : List ℕ) → names_have (Some new) q ≡ (bytes_eq q name || names_have (Some old) q)

-- the keys of a domain hold what they held
pub record KeepsMembers (old new : DomainKeys) : Type 0 where
  pub at : new.at ≡ old.at
  pub numbers : (q : ℤ) → numbers_have (Some new) q ≡ numbers_have (Some old) q
  pub names : (q : List ℕ) → names_have (Some new) q ≡ names_have (Some old) q

-- the keys of the domain with a serial take a number and a name
pub record AddsMember (serial : ℕ) (id : ℤ) (name : List ℕ) (old new : BTreeMap ℕ DomainKeys) : Type 0 where
  pub places : (s : ℕ) → place_of (domain_in new s) ≡ place_of (domain_in old s)
  pub numbers : (s : ℕ) (q : ℤ) → numbers_have (domain_in new s) q ≡ ((serial == s && int_eq id q) || numbers_have (domain_in old s) q)
  pub names : (s : ℕ) (q : List ℕ) → names_have (domain_in new s) q ≡ ((serial == s && bytes_eq q name) || names_have (domain_in old s) q)

-- the keys of all domains hold what they held
pub record KeepsAllMembers (old new : BTreeMap ℕ DomainKeys) : Type 0 where
  pub places : (s : ℕ) → place_of (domain_in new s) ≡ place_of (domain_in old s)
  pub numbers : (s : ℕ) (q : ℤ) → numbers_have (domain_in new s) q ≡ numbers_have (domain_in old s) q
  pub names : (s : ℕ) (q : List ℕ) → names_have (domain_in new s) q ≡ names_have (domain_in old s) q

-- One value that is looked for

-- the instance is one of the metric's domain, or neither is there
abbrev pub fits_domain : BTreeMap ℕ DomainKeys → Option ℕ → Option ℤ → Bool
fits_domain domains None None = true
fits_domain domains None (Some id) = false
fits_domain domains (Some serial) None = false
fits_domain domains (Some serial) (Some id) = numbers_have (domain_in domains serial) id

-- the keys of a domain without instances
pub record IsEmptyDomain (at : ℕ) (domain : DomainKeys) : Type 0 where
  pub place : domain.at ≡ at
  pub numbers : (id : ℤ) → numbers_have (Some domain) id ≡ false
  pub names : (name : List ℕ) → names_have (Some domain) name ≡ false

-- the keys of no row
pub record AreNoKeys (keys : RowKeys) : Type 0 where
  pub domains : (serial : ℕ) → domain_in keys.domains serial ≡ None
  pub items : (item : ℕ) → get nat_cmp keys.items item ≡ None
  pub names : (name : List ℕ) → is_named keys.names name ≡ false
  pub values : (item : ℕ) (number : Option ℤ) → contains value_order keys.values (item, number) ≡ false
