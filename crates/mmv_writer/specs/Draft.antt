-- What a builder has been given: a layout of which all rules for rows hold, and what each row adds to it.
use Rattle.std.specs.Prelude.{◌≡◌, ℕ, ◌<◌, ◌≤◌, ◌^◌, ℤ, pos, Bool, true, false, ◌==◌, if◌then◌else◌, List, [], ◌∷◌, ◌++◌, Option, Some, None, slice_get, slice_index, ◌⊎◌}
use Rattle.pcp_base.specs.Texts.{IsText}
use Rattle.mmv_layout.specs.Sizes.{is_version}
use Rattle.mmv_layout.specs.declared.rows.IndomRow.{IndomRow}
use Rattle.mmv_layout.specs.declared.rows.MetricRow.{MetricRow}
use Rattle.mmv_layout.specs.declared.rows.ValueRow.{ValueRow}
use Rattle.mmv_layout.specs.declared.rows.Content.{Content}
use Rattle.mmv_layout.specs.declared.rows.Content.TheVariants.{Number, Choice, Raw}
use Rattle.mmv_layout.specs.declared.rows.Layout.{Layout}
use Rattle.mmv_layout.specs.Entries.{is_serial}
use Rattle.mmv_writer.specs.declared.fault.BuildFault.{BuildFault}
use Rattle.mmv_writer.specs.declared.fault.BuildFault.TheVariants.{NoMemory}
use Rattle.mmv_writer.specs.Rules.{is_long, has_domain, is_instance_name, is_same_instance, is_metric_name, is_same_metric, fits_some_metric, is_same_value}

-- all rows of a list meet a condition
abbrev pub Each : {T : Type 0} → (T → Type 0) → List T → Type 0
Each {T} P rows = (i : ℕ) (row : T) → slice_get rows i ≡ Some row → P row

-- no row is the same as an earlier one
abbrev pub Apart : {T : Type 0} → (T → T → Bool) → List T → Type 0
Apart {T} same rows = (i j : ℕ) (a b : T) → i < j → slice_get rows i ≡ Some a → slice_get rows j ≡ Some b → same a b ≡ false

-- the bytes of a text: none is zero
pub record IsStored (text : List ℕ) : Type 0 where
  pub nonzero : IsText text
  pub bytes : (j : ℕ) → slice_index text j < 256

-- a text that a string of 256 bytes holds
pub record IsString (text : List ℕ) : Type 0 where
  pub stored : IsStored text
  pub short : is_long text ≡ false

abbrev pub IsHelp : Option (List ℕ) → Type 0
IsHelp None = Unit {0}
IsHelp (Some text) = IsString text

-- an instance's number isn't negative, and has 32 bits
abbrev pub IsNumber : ℤ → Type 0
IsNumber id = (n : ℕ) × (id ≡ pos n) × (n < 2147483648)

pub record IsInstance (version : ℕ) (instance : ℤ × List ℕ) : Type 0 where
  pub number : IsNumber instance.0
  pub name : is_instance_name version instance.1 ≡ true
  pub stored : IsStored instance.1

pub record IsDomain (version : ℕ) (row : IndomRow) : Type 0 where
  pub serial : is_serial row.serial ≡ true
  pub short : IsHelp row.short
  pub long : IsHelp row.long
  pub instances : Each (IsInstance version) row.instances
  pub apart : Apart is_same_instance row.instances

-- a metric without a domain, or with one that is there
abbrev pub HasDomain : List IndomRow → Option ℕ → Type 0
HasDomain indoms None = Unit {0}
HasDomain indoms (Some serial) = has_domain indoms serial ≡ true

pub record IsMetric (version : ℕ) (indoms : List IndomRow) (row : MetricRow) : Type 0 where
  pub name : is_metric_name version row.name ≡ true
  pub stored : IsStored row.name
  pub item : row.item ≤ 1023
  pub units : row.units < 2 ^ 32
  pub domain : HasDomain indoms row.serial
  pub short : IsHelp row.short
  pub long : IsHelp row.long

abbrev pub IsContent : Content → Type 0
IsContent (Number n) = Unit {0}
IsContent (Choice text) = IsString text
IsContent (Raw value extra) = Unit {0}

pub record IsValue (indoms : List IndomRow) (metrics : List MetricRow) (row : ValueRow) : Type 0 where
  pub metric : fits_some_metric indoms metrics row ≡ true
  pub content : IsContent row.content

abbrev pub is_same_serial : IndomRow → IndomRow → Bool
is_same_serial a b = a.serial == b.serial

-- the rows of each section meet their rules, and no two of a section are the same
pub record IsDraft (draft : Layout) : Type 0 where
  pub version : is_version draft.version ≡ true
  pub flags : draft.flags < 2 ^ 32
  pub process : draft.pid < 2 ^ 32
  pub cluster : draft.cluster ≤ 4095
  pub domains : Each (IsDomain draft.version) draft.indoms
  pub serials : Apart is_same_serial draft.indoms
  pub metrics : Each (IsMetric draft.version draft.indoms) draft.metrics
  pub items : Apart is_same_metric draft.metrics
  pub values : Each (IsValue draft.indoms draft.metrics) draft.values
  pub places : Apart is_same_value draft.values
  pub strings : Each IsString draft.strings

-- the draft of a header alone
unfoldable pub empty_draft : ℕ → ℕ → ℕ → ℕ → ℕ → Layout
empty_draft version generation flags pid cluster = record {
  version = version;
  generation = generation;
  flags = flags;
  pid = pid;
  cluster = cluster;
  indoms = [];
  metrics = [];
  values = [];
  strings = [];
}

-- a domain without instances
abbrev pub new_domain : ℕ → Option (List ℕ) → Option (List ℕ) → IndomRow
new_domain serial short long = record { serial = serial; instances = []; short = short; long = long }

-- each row stands behind those of its section

unfoldable pub with_domain : Layout → IndomRow → Layout
with_domain draft row = record draft { indoms = draft.indoms ++ row ∷ [] }

-- the domain of this serial has one instance more, its last
unfoldable pub add_instance : List IndomRow → ℕ → ℤ × List ℕ → List IndomRow
add_instance [] serial instance = []
add_instance (row ∷ rows) serial instance =
    if row.serial == serial then record row { instances = row.instances ++ instance ∷ [] } ∷ rows else row ∷ add_instance rows serial instance

unfoldable pub with_instance : Layout → ℕ → ℤ → List ℕ → Layout
with_instance draft serial id name = record draft { indoms = add_instance draft.indoms serial (id, name) }

unfoldable pub with_metric : Layout → MetricRow → Layout
with_metric draft row = record draft { metrics = draft.metrics ++ row ∷ [] }

unfoldable pub with_value : Layout → ValueRow → Layout
with_value draft row = record draft { values = draft.values ++ row ∷ [] }

unfoldable pub with_string : Layout → List ℕ → Layout
with_string draft text = record draft { strings = draft.strings ++ text ∷ [] }

-- what a refusal of a row says: the rule that it breaks, or, where it breaks none, that memory was refused
abbrev pub IsRefusal : Option BuildFault → BuildFault → Type 0
IsRefusal found fault = ((found ≡ None) × (fault ≡ NoMemory)) ⊎ (found ≡ Some fault)
