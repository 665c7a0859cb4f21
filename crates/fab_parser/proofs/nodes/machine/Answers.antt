use Rattle.fab_parser.proofs.Chains.{exit}
use Rattle.fab_parser.proofs.NodeRules.{worker_read, store_read, machine_stops}
use Rattle.fab_parser.proofs.nodes.machine.Goals as goal

pub returns-in-Some : goal.returns-in-Some
returns-in-Some c = worker_read c.args.hostile c.in-Some.ensures

pub returns-in_err-rest-in-None : goal.returns-in_err-rest-in-None
returns-in_err-rest-in-None c =
    exit _ _ _ c.from_residual.result c.from_residual.ensures.1
    (machine_stops c.args.hostile c.args.room c.args.tokens.now c.in_err-rest-in-None.field-0.0 c.in-None.ensures c.in_err-rest-in-None.ensures)

pub returns-in_ok-rest-in-None : goal.returns-in_ok-rest-in-None
returns-in_ok-rest-in-None c = store_read c.args.hostile c.in_ok-rest-in-None.ensures
