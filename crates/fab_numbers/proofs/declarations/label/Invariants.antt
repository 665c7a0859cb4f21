use Rattle.std.proofs.Common.{◌≡◌, take}
use Rattle.fab_language.specs.Numbers.{said_by}
use Rattle.fab_numbers.proofs.declarations.label.Given as goal

abbrev pub invariant-loop-policy : goal.invariant-loop-policy
invariant-loop-policy l = record { conf = l.conf; integ = l.integ } ≡ said_by l.tables (take l.policy-index l.policies)
