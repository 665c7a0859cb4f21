use Rattle.std.proofs.Common.{◌≡◌, map, take}
use Rattle.fab_base.specs.declared.message.Message.TheVariants.{Inquire}
use Rattle.fab_sent.specs.Messages.{all_spelled}
use Rattle.fab_shelf.proofs.answers.inquiries.Given as goal

abbrev pub invariant-loop-one : goal.invariant-loop-one
invariant-loop-one l = l.sends ≡ all_spelled (map (λ p. (p.0.worker, Inquire p.0)) (take l.one-index l.prepared))
