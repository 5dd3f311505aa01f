-- Why bytes are no payload of a result (pmFetch(3), LOGARCHIVE(5)). First its words are looked at in their order, then the
-- blocks in the order of the pairs that lead to them, and last where the payload ends.
use Rattle.std.specs.Prelude.{◌≡◌, ◌⊎◌, ℕ, zero, suc, ◌+◌, ◌*◌, ◌%◌, ◌<◌, ◌≤◌, List, length, max}
use Rattle.pcp_base.specs.Fields.{number_at}
use Rattle.pcp_model.specs.Payload.{offset_byte}
use Rattle.result_form.specs.Decoding.{padded_size}
use Rattle.result_form.specs.declared.fault.FormFault.{FormFault}
use Rattle.result_form.specs.declared.fault.FormFault.TheVariants.{Short, Stamp, Count, Mode, Offset, Block, Trailing, NoMemory}

-- ---- the words in front of the sets, each in its range

abbrev pub HasSeconds : List ℕ → Type 0
HasSeconds bytes = (4 ≤ length bytes) × (number_at bytes 0 < 2147483648)

abbrev pub HasStamp : List ℕ → Type 0
HasStamp bytes = HasSeconds bytes × (8 ≤ length bytes) × (number_at bytes 4 < 1000000)

abbrev pub HasHead : List ℕ → Type 0
HasHead bytes = HasStamp bytes × (12 ≤ length bytes) × (number_at bytes 8 < 2147483648)

-- The payload ends inside one of them, or one is out of range.
abbrev pub IsHeadFault : List ℕ → FormFault → Type 0
IsHeadFault bytes (Short at) = (length bytes < at + 4) × ((at ≡ 0) ⊎ (((at ≡ 4) × HasSeconds bytes) ⊎ ((at ≡ 8) × HasStamp bytes)))
IsHeadFault bytes (Stamp at) =
    ((at ≡ 0) × (4 ≤ length bytes) × (2147483648 ≤ number_at bytes 0))
    ⊎ ((at ≡ 4) × HasSeconds bytes × (8 ≤ length bytes) × (1000000 ≤ number_at bytes 4))
IsHeadFault bytes (Count at) = (at ≡ 8) × HasStamp bytes × (12 ≤ length bytes) × (2147483648 ≤ number_at bytes 8)
IsHeadFault bytes _ = ⊥

-- ---- the words of a set, which begins at an offset: its metric, how many values it has, their storage mode, and the pairs

abbrev pub IsStatus : ℕ → Type 0
IsStatus n = (n ≡ 0) ⊎ (2147483648 ≤ n)

abbrev pub HasValues : List ℕ → ℕ → Type 0
HasValues bytes at = (at + 8 ≤ length bytes) × (0 < number_at bytes (at + 4)) × (number_at bytes (at + 4) < 2147483648)

abbrev pub HasMode : List ℕ → ℕ → Type 0
HasMode bytes at = HasValues bytes at × (at + 12 ≤ length bytes) × (number_at bytes (at + 8) < 2)

-- the offset behind its pairs
abbrev pub pairs_end : List ℕ → ℕ → ℕ
pairs_end bytes at = at + 12 + 8 * number_at bytes (at + 4)

-- all its words stand, up to an offset
abbrev pub SetStands : List ℕ → ℕ → ℕ → Type 0
SetStands bytes at next =
    ((next ≡ at + 8) × (at + 8 ≤ length bytes) × IsStatus (number_at bytes (at + 4)))
    ⊎ ((next ≡ pairs_end bytes at) × HasMode bytes at × (pairs_end bytes at ≤ length bytes))

-- one of its pairs' words begins at an offset
abbrev pub IsPairWord : List ℕ → ℕ → ℕ → Type 0
IsPairWord bytes at offset = HasMode bytes at × (k : ℕ) × (offset ≡ at + 12 + 4 * k) × (k < 2 * number_at bytes (at + 4)) × (offset ≤ length bytes)

-- The payload ends inside one of them, while those before it stand; or the mode is neither 0 nor 1.
abbrev pub IsSetFault : List ℕ → ℕ → FormFault → Type 0
IsSetFault bytes at (Short offset) = (length bytes < offset + 4)
    × ((offset ≡ at) ⊎ (((offset ≡ at + 4) × (at + 4 ≤ length bytes)) ⊎ (((offset ≡ at + 8) × HasValues bytes at) ⊎ IsPairWord bytes at offset)))
IsSetFault bytes at (Mode offset) = (offset ≡ at + 8) × HasValues bytes at × (at + 12 ≤ length bytes) × (2 ≤ number_at bytes (at + 8))
IsSetFault bytes at _ = ⊥

-- so many sets stand, one behind another
abbrev pub SetsStand : List ℕ → ℕ → ℕ → ℕ → Type 0
SetsStand bytes zero at end = at ≡ end
SetsStand bytes (suc n) at end = (next : ℕ) × SetStands bytes at next × SetsStand bytes n next end

-- of so many sets the first that doesn't stand has this fault
abbrev pub IsSetsFault : List ℕ → ℕ → ℕ → FormFault → Type 0
IsSetsFault bytes zero at e = ⊥
IsSetsFault bytes (suc n) at e = IsSetFault bytes at e ⊎ ((next : ℕ) × SetStands bytes at next × IsSetsFault bytes n next e)

-- ---- blocks; the pair at an offset leads to one, behind the end of the sets

abbrev pub block_begin : List ℕ → ℕ → ℕ
block_begin bytes at = offset_byte (number_at bytes (at + 4))

-- how many bytes the block takes that begins at an offset
abbrev pub block_size : List ℕ → ℕ → ℕ
block_size bytes begin = padded_size (number_at bytes begin)

abbrev pub block_end : List ℕ → ℕ → ℕ
block_end bytes at = block_begin bytes at + block_size bytes (block_begin bytes at)

-- its first word lies behind the sets and inside the payload
abbrev pub LeadsIn : List ℕ → ℕ → ℕ → Type 0
LeadsIn bytes end at = (end ≤ block_begin bytes at) × (block_begin bytes at + 4 ≤ length bytes)

-- its length counts this word, and the block lies inside the payload
abbrev pub IsWhole : List ℕ → ℕ → Type 0
IsWhole bytes at = (4 ≤ number_at bytes (block_begin bytes at) % 16777216) × (block_end bytes at ≤ length bytes)

abbrev pub IsPairFault : List ℕ → ℕ → ℕ → FormFault → Type 0
IsPairFault bytes end at (Offset offset) = (offset ≡ at + 4) × ((block_begin bytes at < end) ⊎ (length bytes < block_begin bytes at + 4))
IsPairFault bytes end at (Block begin) = (begin ≡ block_begin bytes at) × LeadsIn bytes end at
    × ((number_at bytes (block_begin bytes at) % 16777216 < 4) ⊎ (length bytes < block_end bytes at))
IsPairFault bytes end at _ = ⊥

-- the blocks of so many pairs stand, and this is the greater of an end before and of theirs
abbrev pub PairsReach : List ℕ → ℕ → ℕ → ℕ → ℕ → ℕ → Type 0
PairsReach bytes end zero at before far = before ≡ far
PairsReach bytes end (suc n) at before far = LeadsIn bytes end at × IsWhole bytes at × PairsReach bytes end n (at + 8) (max before (block_end bytes at)) far

-- of so many pairs the first whose block doesn't stand has this fault
abbrev pub IsPairsFault : List ℕ → ℕ → ℕ → ℕ → FormFault → Type 0
IsPairsFault bytes end zero at e = ⊥
IsPairsFault bytes end (suc n) at e = IsPairFault bytes end at e ⊎ (LeadsIn bytes end at × IsWhole bytes at × IsPairsFault bytes end n (at + 8) e)

-- a set whose values stand in blocks; the others have none
abbrev pub HasBlocks : List ℕ → ℕ → Type 0
HasBlocks bytes at = HasValues bytes at × (number_at bytes (at + 8) ≡ 1)

abbrev pub SetReaches : List ℕ → ℕ → ℕ → ℕ → ℕ → Type 0
SetReaches bytes end at before far =
    (HasBlocks bytes at × PairsReach bytes end (number_at bytes (at + 4)) (at + 12) before far)
    ⊎ ((HasBlocks bytes at → ⊥) × (before ≡ far))

abbrev pub SetsReach : List ℕ → ℕ → ℕ → ℕ → ℕ → ℕ → Type 0
SetsReach bytes end zero at before far = before ≡ far
SetsReach bytes end (suc n) at before far =
    (next mid : ℕ) × SetStands bytes at next × SetReaches bytes end at before mid × SetsReach bytes end n next mid far

abbrev pub IsBlocksFault : List ℕ → ℕ → ℕ → ℕ → ℕ → FormFault → Type 0
IsBlocksFault bytes end zero at before e = ⊥
IsBlocksFault bytes end (suc n) at before e =
    (HasBlocks bytes at × IsPairsFault bytes end (number_at bytes (at + 4)) (at + 12) e)
    ⊎ ((next mid : ℕ) × SetStands bytes at next × SetReaches bytes end at before mid × IsBlocksFault bytes end n next mid e)

-- ---- the whole payload

-- all sets and blocks stand, and behind the last of them the payload goes on
abbrev pub IsEndFault : List ℕ → ℕ → FormFault → Type 0
IsEndFault bytes end (Trailing at) = SetsReach bytes end (number_at bytes 8) 12 end at × (at < length bytes)
IsEndFault bytes end _ = ⊥

abbrev pub IsFault : List ℕ → FormFault → Type 0
IsFault bytes e = IsHeadFault bytes e ⊎ (HasHead bytes × (IsSetsFault bytes (number_at bytes 8) 12 e
    ⊎ ((end : ℕ) × SetsStand bytes (number_at bytes 8) 12 end × (IsBlocksFault bytes end (number_at bytes 8) 12 end e ⊎ IsEndFault bytes end e))))

-- want of memory says nothing of the bytes
abbrev pub IsFormFault : List ℕ → FormFault → Type 0
IsFormFault bytes NoMemory = Unit {0}
IsFormFault bytes e = IsFault bytes e
