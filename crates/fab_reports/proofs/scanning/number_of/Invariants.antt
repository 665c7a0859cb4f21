use Rattle.std.proofs.Common.{◌≡◌, length}
use Rattle.fab_reports.specs.Reading.{scan, number_step, number_at}
use Rattle.fab_reports.proofs.scanning.number_of.Given as goal

abbrev pub invariant-digits : goal.invariant-digits
invariant-digits l = scan (number_step l.least l.most) (λ s. s) l.ends l.so_far l.rest ≡ number_at l.least l.most l.ends l.bytes

abbrev pub decreases-digits : goal.decreases-digits
decreases-digits l = length l.rest
