use Rattle.std.proofs.Common.{◌≡◌, length}
use Rattle.fab_wire.proofs.Loop.{with_front}
use Rattle.fab_wire.proofs.ReaderLaws.{IsBytes}
use Rattle.fab_reports.specs.Reading.{fields_at}
use Rattle.fab_reports.proofs.values.fields_of.Given as goal

abbrev pub invariant-fields : goal.invariant-fields
invariant-fields l = record {
  going : with_front l.fields (fields_at l.last l.rest) ≡ fields_at l.end l.bytes;
  are_bytes : IsBytes l.rest;
}

abbrev pub decreases-fields : goal.decreases-fields
decreases-fields l = length l.rest
