use Rattle.std.proofs.Common.{ap, sym, ◌∙◌}
use Rattle.fab_nested.specs.Logs.{heap_of, but_last}
use Rattle.fab_nested.proofs.Naming.{among_by, but_last-push}
use Rattle.fab_nested.proofs.Stepping.{made}
use Rattle.fab_nested.proofs.objects.Objects.make.Goals as goal

pub push-requires : goal.push-requires
push-requires c = among_by c.args.oid c.args.self.now.made ∙ c.requires.unmade

pub returns-in-Ok-clause-ok : goal.returns-in-Ok-clause-ok
returns-in-Ok-clause-ok c =
    made c.args.oid c.args.object (heap_of c.args.self.now) c.requires.ascending c.put.new.self c.push.new.self c.in_ok-change.change (sym c.if-is_spent.ensures) c.in_ok-change.ensures
    c.in-Ok.ensures.ok c.in_ok-push.ensures.ok

pub returns-in-Err-clause-err : goal.returns-in-Err-clause-err
returns-in-Err-clause-err c =
    let h = heap_of c.args.self.now in
    let names = c.pop.ensures ∙ ap but_last c.in_ok-push.ensures.ok ∙ but_last-push h.made c.args.oid in
    λ i. record h { rows = c.in-Err.ensures.err i; made = names i }
