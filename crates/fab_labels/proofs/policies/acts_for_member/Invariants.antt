use Rattle.std.specs.List.{AllWithin}
use Rattle.fab_base.specs.Principals.{ActsFor}
use Rattle.fab_labels.proofs.policies.acts_for_member.Given as goal

abbrev pub invariant-loop-member : goal.invariant-loop-member
invariant-loop-member l = AllWithin (λ q. ¬ ActsFor l.acts l.m q) l.members 0 l.member-index
