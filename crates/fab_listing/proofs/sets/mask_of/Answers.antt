use Rattle.std.proofs.Common.{ℕ, Bool, ◌+◌, sym, subst, arith}
use Rattle.fab_listing.proofs.Bits.{Tested, failed, passed}
use Rattle.fab_listing.proofs.sets.mask_of.Goals as goal
use Rattle.fab_listing.proofs.sets.mask_of.Goals.{then-test, else-test}

pub loop-k-preserved : goal.loop-k-preserved
loop-k-preserved g c =
    let post = λ (n : ℕ) (b : Bool). goal.F-post g c.args.test n b in
    let so_far : Tested post c.loop-k.mask c.loop-k.k = record { tested = c.loop-k.invariant.tested; others = c.loop-k.invariant.others } in
    let next : Tested post c.if-test.mask (c.loop-k.k + 1) = elim c.if-test.branch [
      | then-test w ↦ subst (λ (m : ℕ). Tested post m (c.loop-k.k + 1)) (sym w.mask-is) (passed post c.loop-k.mask c.loop-k.k (omega arith) so_far (subst (λ (b : Bool). post c.loop-k.k b) w.if-test.true c.test.ensures))
      | else-test w ↦ subst (λ (m : ℕ). Tested post m (c.loop-k.k + 1)) (sym w.mask-is) (failed post c.loop-k.mask c.loop-k.k so_far (subst (λ (b : Bool). post c.loop-k.k b) w.if-test.false c.test.ensures))
    ] in
    record { callable = c.loop-k.invariant.callable; tested = next.tested; others = next.others }
