-- One digit fewer is left to write.
use Rattle.pm_print.proofs.stamps.+put_digits.Given as goal

abbrev pub decreases-put_digits : goal.decreases-put_digits
decreases-put_digits l = l.count
