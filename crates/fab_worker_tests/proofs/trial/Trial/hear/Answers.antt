use Rattle.fab_wire.specs.Reading.{read_message}
use Rattle.fab_worker_tests.proofs.Driving.{either_keeps}
use Rattle.fab_worker.proofs.AttemptNumbers.{heard}
use Rattle.fab_worker_tests.proofs.trial.Trial.hear.Goals as goal

pub invariant_of-self : goal.invariant_of-self
invariant_of-self c =
    let x = c.args.self.now.worker in
    record {
      counted = either_keeps c.handle.result x c.handle.new.self _ c.args.self.now.begun (heard x c.args.sender (read_message c.args.bytes.now))
          c.handle.ensures.ok c.handle.ensures.err c.args.self.now.counted;
    }
