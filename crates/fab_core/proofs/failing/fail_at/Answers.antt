use Rattle.std.proofs.Common.{Some, ap, ◌∙◌}
use Rattle.std.specs.Prelude.{slice_set}
use Rattle.fab_core.proofs.Failed.{journals_set}
use Rattle.fab_core.proofs.Filled.{closed_at, opened, others_at}
use Rattle.fab_core.specs.Places.{journals_of}
use Rattle.fab_core.proofs.failing.fail_at.Goals as goal

pub returns-clause-failed : goal.returns-clause-failed
returns-clause-failed g c =
    let was = opened c.args.nodes.now.items c.args.n c.from.result c.index_mut.result.now c.in-Some.node c.requires.0 c.from.ensures c.requires.1 c.index_mut.ensures.value c.in-Some.is in
    let is = closed_at c.args.nodes.now.items c.args.n c.from.result c.in-Some.node c.fail.new.self c.from.ensures was c.fail.ensures.number in
    record { before = c.in-Some.node; after = c.fail.new.self; there = was; here = is; journal = c.fail.ensures.journal; stands = c.fail.ensures.stands }

pub returns-clause-others : goal.returns-clause-others
returns-clause-others g c =
    let was = opened c.args.nodes.now.items c.args.n c.from.result c.index_mut.result.now c.in-Some.node c.requires.0 c.from.ensures c.requires.1 c.index_mut.ensures.value c.in-Some.is in
    others_at c.args.nodes.now.items c.args.n c.from.result c.in-Some.node c.fail.new.self c.from.ensures was

pub returns-clause-journals : goal.returns-clause-journals
returns-clause-journals g c =
    let was = opened c.args.nodes.now.items c.args.n c.from.result c.index_mut.result.now c.in-Some.node c.requires.0 c.from.ensures c.requires.1 c.index_mut.ensures.value c.in-Some.is in
    ap (λ k. journals_of (slice_set c.args.nodes.now.items k (Some c.fail.new.self))) c.from.ensures
    ∙ journals_set c.args.nodes.now.items c.args.n c.in-Some.node c.fail.new.self was.there c.fail.ensures.journal
