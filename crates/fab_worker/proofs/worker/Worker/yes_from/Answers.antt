use Rattle.fab_worker.specs.declared.change.Change.TheVariants as changes
use Rattle.std.proofs.Common.{None, sym, ◌∙◌}
use Rattle.fab_worker.proofs.Planning.{last_yes, other_yes}
use Rattle.fab_worker.proofs.worker.Worker.yes_from.Goals as goal

pub returns-then-is_last-clause-plan : goal.returns-then-is_last-clause-plan
returns-then-is_last-clause-plan c =
    last_yes c.args.self.now c.in-Some.coordinator.now c.in-Some.parts.now c.in-Some.ensures c.args.sender c.decides.result c.new.result c.new.ensures
    (sym c.is_last.ensures ∙ c.if-is_last.true) c.decides.ensures.plan

pub returns-clause-plan : goal.returns-clause-plan
returns-clause-plan c =
    other_yes c.args.self.now c.in-Some.coordinator.now c.in-Some.parts.now c.in-Some.ensures c.args.sender c.unrecorded.result
    (sym c.is_last.ensures ∙ c.if-is_last.false)
    (c.unrecorded.ensures ∙ (λ i. record {
      entry = None;
      change = changes.Voted c.args.sender;
      step = record { entry = None; sends = c.new-in-Some.ensures i; notes = c.new-in-Some-2.ensures i };
    }))
