use Rattle.std.proofs.Common.{length, arith}
use Rattle.std.specs.List.{flat_map}
use Rattle.fab_tree.specs.Limits.{locals_of}
use Rattle.fab_tree.specs.Sites.{in_method}
use Rattle.fab_language.specs.MethodNumbers.{method_of, methods_of}
use Rattle.fab_numbers.proofs.Bounds.{element_within}
use Rattle.fab_numbers.proofs.InTurn.{refused, grows, ends_within, goes_on}
use Rattle.fab_numbers.proofs.SitesTaken.{methods_take}
use Rattle.fab_numbers.proofs.methods.methods_in_turn.Goals as goal

pub numbered_method-requires-clause-parameters : goal.numbered_method-requires-clause-parameters
numbered_method-requires-clause-parameters c =
    let one = element_within (λ m. length m.parameters) c.args.methods.now c.loop-method.method-index c.method-item.result c.loop-method-test.true c.method-item.is in
    omega (arith, one, c.requires.parameters)

pub numbered_method-requires-clause-locals : goal.numbered_method-requires-clause-locals
numbered_method-requires-clause-locals c =
    let one = element_within (λ m. length (locals_of m)) c.args.methods.now c.loop-method.method-index c.method-item.result c.loop-method-test.true c.method-item.is in
    omega (arith, one, c.requires.locals)

pub returns-in_err-one : goal.returns-in_err-one
returns-in_err-one c =
    refused c.from_residual.result c.in_err-one.field-0.0 c.numbered_method.new.sites c.numbered_method.new.sites
    (method_of c.args.tables.now c.method-item.result c.loop-method.sites)
    (methods_of c.args.tables.now c.args.methods.now c.args.sites.now)
    c.from_residual.ensures.1
    (ends_within (method_of c.args.tables.now) c.args.methods.now c.loop-method.method-index c.method-item.result c.loop-method-test.true c.method-item.is c.loop-method.sites (methods_of c.args.tables.now c.args.methods.now c.args.sites.now).1
    (λ ys m. grows (methods_of c.args.tables.now ys) (length (flat_map in_method ys)) (methods_take c.args.tables.now ys) m) c.loop-method.invariant.next)
    c.in_err-one.ensures

pub loop-method-preserved : goal.loop-method-preserved
loop-method-preserved c =
    let k = goes_on (method_of c.args.tables.now) c.args.methods.now c.loop-method.method-index c.method-item.result c.loop-method-test.true c.method-item.is c.loop-method.made c.push.new.self
    c.in_ok-one.one c.loop-method.sites c.numbered_method.new.sites
    (methods_of c.args.tables.now c.args.methods.now c.args.sites.now)
    c.in_ok-one.ensures c.in_ok-push.ensures.ok c.loop-method.invariant.made c.loop-method.invariant.next in
    record { made = k.0; next = k.1 }
