use Rattle.std.proofs.Common.{Some, None, ap}
use Rattle.fab_store.specs.Stock.{Stock}
use Rattle.fab_store.proofs.Reasons.{barred_where}
use Rattle.fab_store.proofs.store.Store.lock.Goals as goal

pub returns-in-Some : goal.returns-in-Some
returns-in-Some c =
    barred_where c.args.oid c.args.writing c.self.inside.locks.held c.args.self.now.shelf.prepared (Some c.in-Some.tid)
    (ap (λ (s : Stock). s.shelf.prepared) c.self.view_is) c.in-Some.ensures

pub returns-in-None : goal.returns-in-None
returns-in-None c =
    barred_where c.args.oid c.args.writing c.self.inside.locks.held c.args.self.now.shelf.prepared None
    (ap (λ (s : Stock). s.shelf.prepared) c.self.view_is) c.in-None.ensures
