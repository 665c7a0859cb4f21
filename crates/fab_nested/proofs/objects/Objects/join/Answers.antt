use Rattle.std.proofs.Common.{ap, sym, ◌∙◌}
use Rattle.fab_language.specs.Heaps.{is_among}
use Rattle.fab_nested.specs.Logs.{heap_of, but_last}
use Rattle.fab_nested.proofs.Naming.{among_by, but_last-push, neither}
use Rattle.fab_nested.proofs.Stepping.{joined}
use Rattle.fab_nested.proofs.objects.Objects.join.Goals as goal

pub push-requires : goal.push-requires
push-requires c =
    let h = heap_of c.args.self.now in
    among_by c.args.oid h.written ∙ neither (is_among c.args.oid h.made) (is_among c.args.oid h.written) c.requires.apart

pub returns-in-Ok-clause-ok : goal.returns-in-Ok-clause-ok
returns-in-Ok-clause-ok c =
    joined c.args.oid c.args.object (heap_of c.args.self.now) c.put.new.self c.push.new.self c.requires.apart (sym c.if-is_spent.ensures) c.requires.absent c.in-Ok.ensures.ok c.in_ok-push.ensures.ok

pub returns-in-Err-clause-err : goal.returns-in-Err-clause-err
returns-in-Err-clause-err c =
    let h = heap_of c.args.self.now in
    let names = c.pop.ensures ∙ ap but_last c.in_ok-push.ensures.ok ∙ but_last-push h.written c.args.oid in
    λ i. record h { rows = c.in-Err.ensures.err i; written = names i }
