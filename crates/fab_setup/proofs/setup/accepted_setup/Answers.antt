use Rattle.std.proofs.Common.{sym}
use Rattle.fab_setup.proofs.Numbers.{accepts, has_numbers, has_owners}
use Rattle.fab_setup.proofs.setup.accepted_setup.Goals as goal

pub rights_of-requires-clause-principals : goal.rights_of-requires-clause-principals
rights_of-requires-clause-principals c =
    let (s, is, keeps) = c.requires in
    has_owners s c.args.resolved keeps.within keeps.named (sym is)

pub rights_of-requires-clause-numbers : goal.rights_of-requires-clause-numbers
rights_of-requires-clause-numbers c =
    let (s, is, keeps) = c.requires in
    has_numbers s c.args.resolved keeps.within (sym is)

pub returns : goal.returns
returns c = record {
  program = c.in_ok-program.ensures.ok;
  accepted = accepts c.args.resolved c.in_ok-rights.rights c.in_ok-rights.ensures.exact c.in_ok-rights.ensures.masks.0 c.in_ok-rights.ensures.masks.1 c.read_numbers.ensures;
}
