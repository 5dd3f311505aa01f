-- One digit fewer is left to write.
use Rattle.text_lines.proofs.writing.+put_hex.Given as goal

abbrev pub decreases-put_hex : goal.decreases-put_hex
decreases-put_hex l = l.count
