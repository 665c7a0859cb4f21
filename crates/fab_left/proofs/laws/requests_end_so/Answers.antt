use Rattle.fab_left.proofs.Pausing.{last_gives, ends_so, fails_so}
use Rattle.fab_left.proofs.laws.requests_end_so.Goals as goal

pub returns : goal.returns
returns c = record {
  last = last_gives;
  others = ends_so;
  fails = fails_so;
}
