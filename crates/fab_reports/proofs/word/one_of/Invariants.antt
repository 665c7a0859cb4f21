use Rattle.std.proofs.Common.{◌≡◌, ◌≤◌, length}
use Rattle.fab_reports.specs.Reading.{kind_from, kind_at}
use Rattle.fab_reports.proofs.word.one_of.Given as goal

abbrev pub invariant-kinds : goal.invariant-kinds
invariant-kinds g l = record {
  going : kind_from g.K.Word.text l.longest l.rest l.bytes ≡ kind_at g.K.Word.text l.kinds l.bytes;
  within : l.longest ≤ length l.bytes;
}

abbrev pub decreases-kinds : goal.decreases-kinds
decreases-kinds g l = length l.rest
