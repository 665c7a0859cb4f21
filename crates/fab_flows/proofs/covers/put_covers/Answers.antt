use Rattle.std.proofs.Common.{Any, Some, subst}
use Rattle.fab_base.specs.Principals.{Delegations}
use Rattle.fab_base.specs.Labels.{Covers, IsFirstCover}
use Rattle.fab_language.specs.Flows.{HasCover, delegations_of}
use Rattle.fab_flows.proofs.CoverLemmas.{no_lines, line_more, uncovered_at, first_covers, read_at}
use Rattle.fab_flows.proofs.covers.put_covers.Goals as goal

pub loop-at-init : goal.loop-at-init
loop-at-init c = no_lines c.args.start.now c.args.sign.now c.args.by.now c.args.out.now

pub put_cover-requires-clause-acts : goal.put_cover-requires-clause-acts
put_cover-requires-clause-acts c =
    (first_covers c.args.acts.now c.args.by.now c.index-policies-at.result c.index-by-k.result c.in-Some.k (read_at c.args.by.now c.in-Some.k c.index-by-k.result c.in-Some.ensures.within c.index-by-k.is) c.in-Some.ensures.first).owner

pub returns-in-None-clause-covered : goal.returns-in-None-clause-covered
returns-in-None-clause-covered c =
    let bare : ¬ HasCover c.args.start.now c.args.by.now c.index-policies-at.result = subst (λ (d : Delegations). ¬ Any (λ j. Covers d j c.index-policies-at.result) c.args.by.now) c.requires.of c.in-None.ensures.first in
    uncovered_at c.args.start.now c.args.sign.now c.args.by.now c.args.policies.now c.loop-at.at c.index-policies-at.result c.args.out.now c.loop-at.out c.loop-at-test.true c.index-policies-at.is bare c.loop-at.invariant

pub loop-at-preserved : goal.loop-at-preserved
loop-at-preserved c =
    let first : IsFirstCover (delegations_of c.args.start.now) c.args.by.now c.index-policies-at.result (Some c.in-Some.k) =
    subst (λ (d : Delegations). IsFirstCover d c.args.by.now c.index-policies-at.result (Some c.in-Some.k)) c.requires.of c.in-Some.ensures.first in
    line_more c.args.start.now c.args.sign.now c.args.by.now c.args.policies.now c.loop-at.at c.in-Some.k c.index-policies-at.result c.index-by-k.result c.args.out.now c.loop-at.out c.put_cover.new.out
    c.loop-at-test.true c.index-policies-at.is c.in-Some.ensures.within c.index-by-k.is first c.in_ok-put_cover-in-Some.ensures c.loop-at.invariant
