use Rattle.std.proofs.Common.{ℕ, ◌<◌, ◌+◌, ◌↔◌, IsTrue, slice_index, arith, subst, sym}
use Rattle.std.proofs.lemmas.Bool.{both_ways}
use Rattle.fab_principals.specs.Sets.{in_set, Meets}
use Rattle.fab_principals.proofs.SetLemmas.{in_set-zero, sources_more, sources_same}
use Rattle.fab_principals.proofs.paths.sources.Goals as goal
use Rattle.fab_principals.proofs.paths.sources.Goals.{then-meets, else-meets}

pub loop-p-init : goal.loop-p-init
loop-p-init c = λ p. (λ t. absurd (both_ways _ (in_set-zero p) t), λ h. absurd (omega (arith, h.0)))

pub loop-p-preserved : goal.loop-p-preserved
loop-p-preserved c =
    let rows = c.args.rows.now in
    elim c.if-meets.branch [
      | then-meets w ↦ λ p. subst (λ (set : ℕ). IsTrue (in_set set p) ↔ ((p < c.loop-p.p + 1) × Meets (slice_index rows p) c.args.set)) (sym w.found-is)
          (sources_more rows c.args.set c.loop-p.p c.loop-p.found w.only.result w.union-found.result c.loop-p.invariant (c.meets.ensures.0 w.if-meets.true) w.union-found.ensures.either w.only.ensures p)
      | else-meets w ↦ λ p. subst (λ (set : ℕ). IsTrue (in_set set p) ↔ ((p < c.loop-p.p + 1) × Meets (slice_index rows p) c.args.set)) (sym w.found-is)
          (sources_same rows c.args.set c.loop-p.p c.loop-p.found c.loop-p.invariant (λ meets. both_ways _ w.if-meets.false (c.meets.ensures.1 meets)) p)
    ]
