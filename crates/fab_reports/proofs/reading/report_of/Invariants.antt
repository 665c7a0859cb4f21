use Rattle.std.proofs.Common.{◌≡◌, ◌+◌, ◌≤◌, length}
use Rattle.fab_wire.proofs.Loop.{with_front}
use Rattle.fab_wire.proofs.ReaderLaws.{IsBytes}
use Rattle.fab_reports.specs.Reading.{lines_at, report_at}
use Rattle.fab_reports.proofs.reading.report_of.Given as goal

abbrev pub invariant-lines : goal.invariant-lines
invariant-lines l = record {
  going : with_front l.lines (lines_at l.place l.rest) ≡ report_at l.bytes;
  events : l.place.events + length l.rest ≤ length l.bytes;
  commits : l.place.commits + length l.rest ≤ length l.bytes;
  are_bytes : IsBytes l.rest;
}

abbrev pub decreases-lines : goal.decreases-lines
decreases-lines l = length l.rest
