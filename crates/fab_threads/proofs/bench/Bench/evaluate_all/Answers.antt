use Rattle.fab_threads.proofs.Keeping.{all_of, all_ready}
use Rattle.fab_threads.proofs.bench.Bench.evaluate_all.Goals as goal

pub evaluate_all-requires-clause-ready : goal.evaluate_all-requires-clause-ready
evaluate_all-requires-clause-ready g c κs within = all_ready c.args.self.now c.args.jobs c.requires.ready

pub keep_all-requires : goal.keep_all-requires
keep_all-requires g c = all_of c.args.self.now c.in_ok-dones.dones c.args.jobs c.in_ok-dones.ensures.order c.requires.ready
