use Rattle.std.proofs.Common.{Some, refl, sym, subst, arith}
use Rattle.std.specs.Prelude.{slice_set}
use Rattle.fab_core.proofs.Filled.{caused_at, closed_at, opened, others_at}
use Rattle.fab_core.proofs.crashing.crash_at.Goals as goal

pub returns-clause-down : goal.returns-clause-down
returns-clause-down g c =
    let was = opened c.args.nodes.now.items c.args.n c.from.result c.index_mut.result.now c.in-Some.node c.requires.0 c.from.ensures c.requires.1 c.index_mut.ensures.value c.in-Some.is in
    let is = closed_at c.args.nodes.now.items c.args.n c.from.result c.in-Some.node c.crash.new.self c.from.ensures was c.crash.ensures.number in
    record { before = c.in-Some.node; after = c.crash.new.self; there = was; here = is; stands = c.crash.ensures.stands }

pub returns-clause-others : goal.returns-clause-others
returns-clause-others g c =
    let was = opened c.args.nodes.now.items c.args.n c.from.result c.index_mut.result.now c.in-Some.node c.requires.0 c.from.ensures c.requires.1 c.index_mut.ensures.value c.in-Some.is in
    others_at c.args.nodes.now.items c.args.n c.from.result c.in-Some.node c.crash.new.self c.from.ensures was

pub returns-clause-journals : goal.returns-clause-journals
returns-clause-journals g c =
    let was = opened c.args.nodes.now.items c.args.n c.from.result c.index_mut.result.now c.in-Some.node c.requires.0 c.from.ensures c.requires.1 c.index_mut.ensures.value c.in-Some.is in
    let is = closed_at c.args.nodes.now.items c.args.n c.from.result c.in-Some.node c.crash.new.self c.from.ensures was c.crash.ensures.number in
    caused_at c.args.n _ c.args.nodes.now.items (slice_set c.args.nodes.now.items c.from.result (Some c.crash.new.self)) c.in-Some.node c.crash.new.self was is
    (others_at c.args.nodes.now.items c.args.n c.from.result c.in-Some.node c.crash.new.self c.from.ensures was)
    (omega (arith, c.crash.ensures.faults)) (λ h. absurd h) (λ h. c.crash.ensures.faults) c.crash.ensures.sure (λ s h. absurd h)
