use Rattle.std.proofs.Common.{◌≤◌, length, ap, arith}
use Rattle.std.proofs.lemmas.List.{length_push}
use Rattle.fab_nested.specs.Logs.{heap_of}
use Rattle.fab_nested.proofs.Undoing.{one_back, front_stays}
use Rattle.fab_nested.proofs.log.undo_to.Goals as goal

pub loop-log-preserved-in-Some : goal.loop-log-preserved-in-Some
loop-log-preserved-in-Some c =
    let e = c.in-Some.ensures.items in
    let le : c.args.mark ≤ length c.pop.new.self.items =
    omega (arith, c.loop-log-test.true, c.len.ensures, c.loop-log.log.ok.0, ap length e, length_push c.pop.new.self.items c.in-Some.change)
    in
    record {
      heap = one_back c.pop.new.self.items c.loop-log.log.items c.in-Some.change c.args.mark e le (heap_of c.loop-log.objects) (heap_of c.undo.new.self) _ c.undo.ensures c.loop-log.invariant.heap;
      log = front_stays c.pop.new.self.items c.loop-log.log.items c.in-Some.change c.args.mark e le _ c.loop-log.invariant.log;
    }
