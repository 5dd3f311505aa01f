-- Metric and instance domain identifiers as words (pmLookupDesc(3), pmGetInDom(3)): from the top bit
-- 1 flag bit and 9 bits domain; then 12 bits cluster and 10 bits item, or 22 bits serial.
use Rattle.std.specs.Prelude.{ℕ, ◌+◌, ◌*◌, ◌/◌, ◌%◌}

abbrev pub pmid_word : ℕ → ℕ → ℕ → ℕ
pmid_word domain cluster item = domain * 4194304 + cluster * 1024 + item

abbrev pub indom_word : ℕ → ℕ → ℕ
indom_word domain serial = domain * 4194304 + serial

abbrev pub domain_of : ℕ → ℕ
domain_of word = word / 4194304 % 512

abbrev pub cluster_of : ℕ → ℕ
cluster_of word = word / 1024 % 4096

abbrev pub item_of : ℕ → ℕ
item_of word = word % 1024

abbrev pub serial_of : ℕ → ℕ
serial_of word = word % 4194304

-- the domain of metrics without instances
abbrev pub null_indom : ℕ
null_indom = 4294967295
