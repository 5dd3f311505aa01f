-- What the words of a command line ask for.
use Rattle.std.specs.Prelude.{◌≡◌, ℕ, ◌+◌, ◌≤◌, All, Bool, false, true, ◌==◌, ◌&&◌, min, nat_le, nat_lt, if◌then◌else◌, List, [], ◌∷◌, length, Option, Some, None, Result, Ok, Err, codes, bytes_eq}
use Rattle.std.specs.List.{list_all, prefix_len}
use Rattle.pcp_base.specs.Names.{IsComponent, is_letter, is_name_byte, spells}
use Rattle.pcp_base.specs.Time.{Moment}
use Rattle.text_lines.specs.Numbers.{number_of}
use Rattle.pm_words.specs.declared.words.Command.{Command}
use Rattle.pm_words.specs.declared.words.Call.{Call}
use Rattle.pm_words.specs.declared.words.Call.TheVariants as calls
use Rattle.pm_words.specs.declared.words.Command.TheVariants.{Once, Replay, Make, Retire, MmvMake, MmvDump, MmvLift, Dump, Info, Check, Recover, At, Range, Value, Watch, Record, Serve, Pull, Extract, Summary, Export}
use Rattle.pm_words.specs.declared.refusal.Refusal.{Refusal}
use Rattle.pm_words.specs.declared.refusal.Refusal.TheVariants.{Usage, NoMemory}
use Rattle.pm_words.specs.declared.words.BadWord.{BadWord}

infixl 10 ◌>>=◌
abbrev pub ◌>>=◌ : {A B : Type 0} → Result A ℕ → (A → Result B ℕ) → Result B ℕ
(Ok x) >>= f = f x
(Err at) >>= f = Err at

-- a value, and the words behind it; or the index of the word that has none
abbrev pub at_index : {A : Type 0} → ℕ → List (List ℕ) → Option A → Result (A × List (List ℕ)) ℕ
at_index at words None = Err at
at_index at words (Some a) = Ok (a, words)

-- what the next word says, at this index
abbrev pub word_then : {A : Type 0} → (List ℕ → Option A) → ℕ → List (List ℕ) → Result (A × List (List ℕ)) ℕ
word_then read at [] = Err at
word_then read at (word ∷ words) = at_index at words (read word)

-- no further word
abbrev pub end_then : {A : Type 0} → A → ℕ → List (List ℕ) → Result A ℕ
end_then a at [] = Ok a
end_then a at (word ∷ words) = Err at

abbrev pub below : ℕ → Option ℕ → Option ℕ
below limit None = None
below limit (Some n) = if nat_lt n limit then Some n else None

-- a number from one to another, both included
abbrev pub between : ℕ → ℕ → Option ℕ → Option ℕ
between low high None = None
between low high (Some n) = if nat_le low n && nat_le n high then Some n else None

abbrev pub number_in : ℕ → ℕ → List ℕ → Option ℕ
number_in low high word = between low high (number_of word)

-- a volume limit in bytes; how many ticks a script is made of; the number that it is made of
abbrev pub volume_of : List ℕ → Option ℕ
volume_of = number_in 1024 1073741824

abbrev pub ticks_of : List ℕ → Option ℕ
ticks_of = number_in 1 100000

abbrev pub seed_of : List ℕ → Option ℕ
seed_of = number_in 0 18446744073709551615

-- the seconds and microseconds of a stamp
abbrev pub second_of : List ℕ → Option ℕ
second_of word = below 2147483648 (number_of word)

abbrev pub microsecond_of : List ℕ → Option ℕ
microsecond_of word = below 1000000 (number_of word)

-- a region's name: one component of a name, of at most 63 bytes
abbrev pub file_of : List ℕ → Option (List ℕ)
file_of [] = None
file_of (b ∷ bs) = if is_letter b && list_all is_name_byte bs && nat_le (length (b ∷ bs)) 63 then Some (b ∷ bs) else None

abbrev pub begins_with_dash : List ℕ → Bool
begins_with_dash [] = false
begins_with_dash (b ∷ bs) = b == 45

-- a metric's name: any bytes that don't begin with `-`
abbrev pub name_of : List ℕ → Option (List ℕ)
name_of word = if begins_with_dash word then None else Some word

-- SEC USEC FILE, from the word at index 1 on
unfoldable pub once_of : List (List ℕ) → Result Command ℕ
once_of words = do
  sec ← word_then second_of 1 words
  usec ← word_then microsecond_of 2 sec.1
  file ← word_then file_of 3 usec.1
  end_then (Once record { stamp = record { sec = sec.0; usec = usec.0 }; file = file.0 }) 4 file.1

-- VOLUME
unfoldable pub replay_of : List (List ℕ) → Result Command ℕ
replay_of words = do
  volume ← word_then volume_of 1 words
  end_then (Replay volume.0) 2 volume.1

-- NUMBER TICKS VOLUME
unfoldable pub make_of : List (List ℕ) → Result Command ℕ
make_of words = do
  number ← word_then seed_of 1 words
  ticks ← word_then ticks_of 2 number.1
  volume ← word_then volume_of 3 ticks.1
  end_then (Make record { number = number.0; ticks = ticks.0; volume = volume.0 }) 4 volume.1

-- N, below which volumes are emptied
unfoldable pub retire_of : List (List ℕ) → Result Command ℕ
retire_of words = do
  below ← word_then (number_in 0 10000) 1 words
  end_then (Retire below.0) 2 below.1

-- SEC USEC, from the word at an index on
unfoldable pub stamp_then : ℕ → List (List ℕ) → Result (Moment × List (List ℕ)) ℕ
stamp_then at words = do
  sec ← word_then second_of at words
  usec ← word_then microsecond_of (at + 1) sec.1
  Ok (record { sec = sec.0; usec = usec.0 }, usec.1)

-- SEC USEC; SEC USEC SEC USEC, also of `watch`; SEC USEC NAME
unfoldable pub at_of : List (List ℕ) → Result Command ℕ
at_of words = do
  t ← stamp_then 1 words
  end_then (At t.0) 3 t.1

unfoldable pub range_of : List (List ℕ) → Result Command ℕ
range_of words = do
  from ← stamp_then 1 words
  to ← stamp_then 3 from.1
  end_then (Range from.0 to.0) 5 to.1

unfoldable pub watch_of : List (List ℕ) → Result Command ℕ
watch_of words = do
  from ← stamp_then 1 words
  to ← stamp_then 3 from.1
  end_then (Watch from.0 to.0) 5 to.1

unfoldable pub value_of : List (List ℕ) → Result Command ℕ
value_of words = do
  t ← stamp_then 1 words
  name ← word_then name_of 3 t.1
  end_then (Value record { stamp = t.0; name = name.0 }) 4 name.1

-- the commands over images and their texts, without a further word
abbrev pub image_command_of : List ℕ → List (List ℕ) → Result Command ℕ
image_command_of word words =
    if bytes_eq word (codes "mmv-make") then end_then MmvMake 1 words else
    if bytes_eq word (codes "mmv-dump") then end_then MmvDump 1 words else
    if bytes_eq word (codes "mmv-lift") then end_then MmvLift 1 words else Err 0

-- the commands over an archive, without a further word
abbrev pub archive_command_of : List ℕ → List (List ℕ) → Result Command ℕ
archive_command_of word words =
    if bytes_eq word (codes "dump") then end_then Dump 1 words else
    if bytes_eq word (codes "info") then end_then Info 1 words else
    if bytes_eq word (codes "check") then end_then Check 1 words else
    if bytes_eq word (codes "recover") then end_then Recover 1 words else image_command_of word words

-- those that ask an archive by time
abbrev pub timed_command_of : List ℕ → List (List ℕ) → Result Command ℕ
timed_command_of word words =
    if bytes_eq word (codes "at") then at_of words else
    if bytes_eq word (codes "range") then range_of words else
    if bytes_eq word (codes "value") then value_of words else
    if bytes_eq word (codes "watch") then watch_of words else archive_command_of word words

-- those that run something over an archive, or let old volumes of it go
abbrev pub run_command_of : List ℕ → List (List ℕ) → Result Command ℕ
run_command_of word words =
    if bytes_eq word (codes "once") then once_of words else
    if bytes_eq word (codes "replay") then replay_of words else
    if bytes_eq word (codes "make") then make_of words else
    if bytes_eq word (codes "retire") then retire_of words else timed_command_of word words

-- SAMPLES VOLUME; as many samples may be taken as ticks are made
unfoldable pub record_of : List (List ℕ) → Result Command ℕ
record_of words = do
  samples ← word_then ticks_of 1 words
  volume ← word_then volume_of 2 samples.1
  end_then (Record record { samples = samples.0; volume = volume.0 }) 3 volume.1

-- COUNT
unfoldable pub serve_of : List (List ℕ) → Result Command ℕ
serve_of words = do
  count ← word_then (number_in 1 100000) 1 words
  end_then (Serve count.0) 2 count.1

-- a name that a peer is asked for: a name of at most 400 bytes
abbrev pub is_asked_name : List ℕ → Bool
is_asked_name word = nat_le (length word) 400 && spells true word

-- Names from the word at an index on, where so many words in front are names: from one to 64 of them, and no further word; or the index of
-- the first word that is missing, that is no name, or that is one too many.
abbrev pub names_of_front : ℕ → ℕ → List (List ℕ) → Result (List (List ℕ)) ℕ
names_of_front front at words = if nat_le 1 front && nat_le front 64 && (front == length words) then Ok words else Err (at + min front 64)

abbrev pub names_then : ℕ → List (List ℕ) → Result (List (List ℕ)) ℕ
names_then at words = names_of_front (prefix_len is_asked_name words) at words

-- SAMPLES VOLUME NAME..
unfoldable pub pull_of : List (List ℕ) → Result Command ℕ
pull_of words = do
  samples ← word_then ticks_of 1 words
  volume ← word_then volume_of 2 samples.1
  names ← names_then 3 volume.1
  Ok (Pull record { samples = samples.0; volume = volume.0; names = names })

-- VOLUME
unfoldable pub extract_of : List (List ℕ) → Result Command ℕ
extract_of words = do
  volume ← word_then volume_of 1 words
  end_then (Extract volume.0) 2 volume.1

-- WORKERS SEC USEC SEC USEC
unfoldable pub summary_of : List (List ℕ) → Result Command ℕ
summary_of words = do
  workers ← word_then (number_in 1 64) 1 words
  from ← stamp_then 2 workers.1
  to ← stamp_then 4 from.1
  end_then (Summary record { workers = workers.0; from = from.0; to = to.0 }) 6 to.1

-- the call that the first word names; these six have calls of their own
abbrev pub call_named : List (List ℕ) → Call
call_named [] = calls.Offline
call_named (word ∷ words) =
    if bytes_eq word (codes "record") then calls.Record else
    if bytes_eq word (codes "serve") then calls.Serve else
    if bytes_eq word (codes "pull") then calls.Pull else
    if bytes_eq word (codes "extract") then calls.Extract else
    if bytes_eq word (codes "summary") then calls.Summary else
    if bytes_eq word (codes "export") then calls.Export else calls.Offline

-- The command that the words ask a call for, or the index of the first word that is bad or missing. A command that isn't known, or is
-- another call's, is bad at 0.
abbrev pub asked_by : Call → List (List ℕ) → Result Command ℕ
asked_by call [] = Err 0
asked_by calls.Offline (word ∷ words) = run_command_of word words
asked_by calls.Record (word ∷ words) = if bytes_eq word (codes "record") then record_of words else Err 0
asked_by calls.Serve (word ∷ words) = if bytes_eq word (codes "serve") then serve_of words else Err 0
asked_by calls.Pull (word ∷ words) = if bytes_eq word (codes "pull") then pull_of words else Err 0
asked_by calls.Extract (word ∷ words) = if bytes_eq word (codes "extract") then extract_of words else Err 0
asked_by calls.Summary (word ∷ words) = if bytes_eq word (codes "summary") then summary_of words else Err 0
asked_by calls.Export (word ∷ words) = if bytes_eq word (codes "export") then end_then Export 1 words else Err 0

-- the call that does a command
abbrev pub call_of : Command → Call
call_of (Record asked) = calls.Record
call_of (Serve count) = calls.Serve
call_of (Pull asked) = calls.Pull
call_of (Extract volume) = calls.Extract
call_of (Summary asked) = calls.Summary
call_of Export = calls.Export
call_of _ = calls.Offline

-- whether a command takes an input
abbrev pub takes_input : Command → Bool
takes_input (Once asked) = true
takes_input (Replay volume) = true
takes_input MmvMake = true
takes_input MmvDump = true
takes_input MmvLift = true
takes_input (Watch from to) = true
takes_input (Record asked) = true
takes_input (Serve count) = true
takes_input _ = false

-- what a function over words answered, seen by view, is what the definition says
abbrev pub Gives : {X Y : Type 0} → (X → Y) → Result X BadWord → Result Y ℕ → Type 0
Gives view (Ok x) read = read ≡ Ok (view x)
Gives view (Err bad) read = read ≡ Err bad.at

-- what a parse of the words answered is what they say, unless memory ran out
abbrev pub Reads : {A : Type 0} → Result A Refusal → Result A ℕ → Type 0
Reads (Ok c) read = read ≡ Ok c
Reads (Err (Usage at)) read = read ≡ Err at
Reads (Err NoMemory) read = Unit {0}
Reads (Err _) read = ⊥

-- names that a peer is asked for: from one to 64
abbrev pub AreAskedNames : List (List ℕ) → Type 0
AreAskedNames names = (1 ≤ length names) × (length names ≤ 64) × All (λ name. is_asked_name name ≡ true) names

-- what the words of a command promise of it
abbrev pub FitsCommand : Command → Type 0
FitsCommand (Once asked) = (length asked.file ≤ 63) × IsComponent asked.file
FitsCommand (Replay volume) = (1024 ≤ volume) × (volume ≤ 1073741824)
FitsCommand (Make asked) = (1 ≤ asked.ticks) × (asked.ticks ≤ 100000) × (1024 ≤ asked.volume) × (asked.volume ≤ 1073741824)
FitsCommand (Retire below) = below ≤ 10000
FitsCommand (Record asked) = (1 ≤ asked.samples) × (asked.samples ≤ 100000) × (1024 ≤ asked.volume) × (asked.volume ≤ 1073741824)
FitsCommand (Serve count) = (1 ≤ count) × (count ≤ 100000)
FitsCommand (Pull asked) = (1 ≤ asked.samples) × (asked.samples ≤ 100000) × (1024 ≤ asked.volume) × (asked.volume ≤ 1073741824) × AreAskedNames asked.names
FitsCommand (Extract volume) = (1024 ≤ volume) × (volume ≤ 1073741824)
FitsCommand (Summary asked) = (1 ≤ asked.workers) × (asked.workers ≤ 64)
FitsCommand _ = Unit {0}
