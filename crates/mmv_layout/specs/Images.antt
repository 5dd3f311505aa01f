-- Images of versions 1 and 2 (mmv(5)): words whose header, sections and entries are good.
use Rattle.std.specs.Prelude.{ℕ, Bool, not, ◌&&◌, ◌==◌, nat_le, IsTrue, List, length}
use Rattle.mmv_layout.specs.Contents.{bytes_in, has_magic, version_in, first_generation, second_generation, cluster_in, is_short, sections_are_good, sections_are_aligned}
use Rattle.mmv_layout.specs.Sizes.{is_version}
use Rattle.mmv_layout.specs.Entries.{indoms_are_good, instances_are_good, metrics_are_good, values_are_good, strings_are_good}

-- more than 65,536 words are the fault TooLarge
abbrev pub is_too_large : List ℕ → Bool
is_too_large words = not (nat_le (length words) 65536)

-- a cluster above 4095 is the fault Serial, at the cluster
abbrev pub is_cluster : ℕ → Bool
is_cluster cluster = nat_le cluster 4095

-- the header of an image: no fault Short, TooLarge, Magic, Version, Generations, and no such cluster
unfoldable pub has_good_header : List ℕ → Bool
has_good_header words =
    not (is_short (bytes_in words)) && not (is_too_large words) && has_magic words && is_version (version_in words)
    && first_generation words == second_generation words && is_cluster (cluster_in words)

-- an image: no fault is there
unfoldable pub is_image : List ℕ → Bool
is_image words =
    has_good_header words && sections_are_good words && sections_are_aligned words && indoms_are_good words
    && instances_are_good words && metrics_are_good words && values_are_good words && strings_are_good words

abbrev pub IsImage : List ℕ → Type 0
IsImage words = IsTrue (is_image words)
