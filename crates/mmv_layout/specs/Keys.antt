-- What tells the entries of a section apart (mmv(5)), as a list of numbers, and which entry is the first with the key of
-- an earlier one.
use Rattle.std.specs.Prelude.{◌≡◌, ℕ, zero, suc, ◌<◌, ◌≤◌, Bool, true, false, not, List, [], ◌∷◌, ◌++◌, length, bytes_eq}
use Rattle.std.specs.BTreeSet.{BTreeSet, contains}
use Rattle.std.specs.Ordering.{nat_cmp}
use Rattle.mmv_layout.specs.declared.keys.Key.{Key}
use Rattle.mmv_layout.specs.declared.keys.Key.TheVariants.{Serial, Number, InstanceName, Item, MetricName, Place}
use Rattle.mmv_layout.specs.Below.{all_below}
use Rattle.mmv_layout.specs.EntryFields.{serial_in_indom, domain_in_instance, number_in_instance, name_in_instance, name_in_metric, item_in_metric, metric_in_value, instance_in_value}
use Rattle.mmv_layout.specs.Entries.{indom_at, instance_at, metric_at, value_at, is_indom_serial}

-- of a domain its serial; of an instance its domain, and its number or its name; of a metric its item or its name; of a
-- value its metric and its instance
unfoldable pub key_at : List ℕ → Key → ℕ → List ℕ
key_at words Serial i = serial_in_indom words (indom_at words i) ∷ []
key_at words Number i = domain_in_instance words (instance_at words i) ∷ number_in_instance words (instance_at words i) ∷ []
key_at words InstanceName i = domain_in_instance words (instance_at words i) ∷ name_in_instance words (instance_at words i)
key_at words Item i = item_in_metric words (metric_at words i) ∷ []
key_at words MetricName i = name_in_metric words (metric_at words i)
key_at words Place i = metric_in_value words (value_at words i) ∷ instance_in_value words (value_at words i) ∷ []

-- the keys of the entries below n, one behind another, and where each ends
unfoldable pub keys_before : List ℕ → Key → ℕ → List ℕ
keys_before words key zero = []
keys_before words key (suc n) = keys_before words key n ++ key_at words key n

unfoldable pub ends_before : List ℕ → Key → ℕ → List ℕ
ends_before words key zero = []
ends_before words key (suc n) = ends_before words key n ++ length (keys_before words key (suc n)) ∷ []

-- no earlier entry has the key of entry i
unfoldable pub is_new_key : List ℕ → Key → ℕ → Bool
is_new_key words key i = all_below i (λ j. not (bytes_eq (key_at words key j) (key_at words key i)))

-- n is the first number below a count that fails a test, or the count where none does
pub record IsFirst (count : ℕ) (test : ℕ → Bool) (n : ℕ) : Type 0 where
  pub within : n ≤ count
  pub before : all_below n test ≡ true
  pub here : n < count → test n ≡ false

-- a set of numbers has the serials of the domains
abbrev pub HasSerials : List ℕ → BTreeSet ℕ → Type 0
HasSerials words serials = (serial : ℕ) → contains nat_cmp serials serial ≡ is_indom_serial words serial
