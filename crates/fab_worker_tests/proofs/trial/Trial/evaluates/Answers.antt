use Rattle.fab_eval.specs.Outcomes.{meant_of}
use Rattle.fab_worker_tests.proofs.Driving.{either_keeps}
use Rattle.fab_worker.proofs.AttemptNumbers.{resumed}
use Rattle.fab_worker_tests.proofs.trial.Trial.evaluates.Goals as goal

pub invariant_of-self : goal.invariant_of-self
invariant_of-self c =
    let x = c.args.self.now.worker in
    record {
      counted = either_keeps c.resume.result x c.resume.new.self _ c.args.self.now.begun
          (resumed x.rights x.program.cache x.node x.kept x.attempt (meant_of c.in-Ok.done.job)) c.resume.ensures.ok c.resume.ensures.err c.args.self.now.counted;
    }
