-- The word is made of the bytes so far.
use Rattle.std.proofs.Common.{◌≡◌, take, fold}
use Rattle.archive_meta.specs.Hashing.{next_word}
use Rattle.archive_meta.proofs.hashing.WordHasherHasher.write.Given as goal

abbrev pub invariant-loop-byte : goal.invariant-loop-byte
invariant-loop-byte l = l.word ≡ fold next_word l.fn.self.word (take l.byte-index l.bytes)
