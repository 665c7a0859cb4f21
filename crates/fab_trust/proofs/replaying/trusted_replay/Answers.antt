use Rattle.std.proofs.Common.{◌≡◌, true, sym, subst, ◌∙◌}
use Rattle.fab_base.specs.FlatMap.{FlatMap, ascends}
use Rattle.fab_rights.specs.Computed.{has_bit}
use Rattle.fab_trust.proofs.Keeping.{goes_on, stays_ordered}
use Rattle.fab_trust.proofs.replaying.trusted_replay.Goals as goal

pub loop-commit-preserved : goal.loop-commit-preserved
loop-commit-preserved c =
    let trusts = has_bit c.args.part.now.labels in
    let keeps = has_bit c.args.part.now.classes in
    let r = c.args.start.now in
    let N = c.loop-commit.map in
    let commit = c.in-Some.commit.now in
    let given = c.taken.result.0.now in
    record {
      ascending = subst (λ (m : FlatMap). ascends m ≡ true) (sym c.in_ok-redo.ensures) (stays_ordered trusts keeps r N commit given c.loop-commit.invariant.ascending);
      so_far =
          goes_on trusts keeps r N commit given c.loop-commit.rest.now c.in-Some.after.now c.loop-commit.left.now c.taken.result.1.now c.redo.new.map
          c.in-Some.ensures.cases.0 c.taken.ensures.first c.taken.ensures.rest c.in_ok-redo.ensures
          ∙ c.loop-commit.invariant.so_far;
    }
