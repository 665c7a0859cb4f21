use Rattle.std.proofs.Common.{◌≡◌, ◌<◌, length}
use Rattle.std.specs.Prelude.{IfSome}
use Rattle.fab_reports.specs.Reading.{scan, hex_step, hex_done, bytes_at}
use Rattle.fab_reports.proofs.scanning.bytes_of.Given as goal

abbrev pub invariant-digits : goal.invariant-digits
invariant-digits l = record {
  going : scan hex_step hex_done l.ends (l.found, l.high) l.rest ≡ bytes_at l.ends l.bytes;
  small : IfSome l.high (λ digit. digit < 16);
}

abbrev pub decreases-digits : goal.decreases-digits
decreases-digits l = length l.rest
