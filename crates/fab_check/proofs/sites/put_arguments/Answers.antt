use Rattle.std.proofs.Common.{List, ℕ, refl, arith}
use Rattle.std.specs.List.{flat_map}
use Rattle.fab_labelling.specs.Sites.{sites_in}
use Rattle.fab_check.specs.Sited.{with_sites}
use Rattle.fab_check.proofs.Sitings.{no_sites, sites_in_parts}
use Rattle.fab_authority.proofs.Walks.{end, step}
use Rattle.fab_check.proofs.sites.put_arguments.Goals as goal

pub loop-argument-preserved : goal.loop-argument-preserved
loop-argument-preserved c =
    let pc = c.args.pc.now in
    let gathered = λ (out : List (List ℕ)) (ns : List ℕ). with_sites out pc ns in
    step gathered (λ out ns ms. sites_in_parts out pc ns ms) (flat_map sites_in) sites_in (λ _ _. refl) c.loop-argument.out c.put_expression.new.out (gathered c.args.out.now (flat_map sites_in c.args.arguments.now)) c.args.arguments.now c.loop-argument.argument-index c.argument-item.result
    c.loop-argument-test.true c.argument-item.is c.in_ok-put_expression.ensures c.loop-argument.invariant

pub returns : goal.returns
returns c =
    let pc = c.args.pc.now in
    let gathered = λ (out : List (List ℕ)) (ns : List ℕ). with_sites out pc ns in
    end gathered (λ out ns ms. sites_in_parts out pc ns ms) (flat_map sites_in) refl (λ out. no_sites out pc) c.loop-argument.out (gathered c.args.out.now (flat_map sites_in c.args.arguments.now)) c.args.arguments.now c.loop-argument.argument-index (omega arith) c.loop-argument.invariant
