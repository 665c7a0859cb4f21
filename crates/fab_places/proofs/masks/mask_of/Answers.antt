use Rattle.std.proofs.Common.{ℕ, Bool, ◌+◌, sym, subst, arith}
use Rattle.fab_places.proofs.Bits.{Marks, marked, skipped}
use Rattle.fab_places.proofs.masks.mask_of.Goals as goal
use Rattle.fab_places.proofs.masks.mask_of.Goals.{then-test, else-test}

pub loop-k-preserved : goal.loop-k-preserved
loop-k-preserved g c =
    let post = λ (n : ℕ) (b : Bool). goal.F-post g c.args.test n b in
    let so_far : Marks post c.loop-k.mask c.loop-k.k = record { set = c.loop-k.invariant.set; clear = c.loop-k.invariant.clear } in
    let next : Marks post c.if-test.mask (c.loop-k.k + 1) = elim c.if-test.branch [
      | then-test w ↦ subst (λ (m : ℕ). Marks post m (c.loop-k.k + 1)) (sym w.mask-is) (marked post c.loop-k.mask c.loop-k.k (omega arith) so_far (subst (λ (b : Bool). post c.loop-k.k b) w.if-test.true c.test.ensures))
      | else-test w ↦ subst (λ (m : ℕ). Marks post m (c.loop-k.k + 1)) (sym w.mask-is) (skipped post c.loop-k.mask c.loop-k.k so_far (subst (λ (b : Bool). post c.loop-k.k b) w.if-test.false c.test.ensures))
    ] in
    record { callable = c.loop-k.invariant.callable; set = next.set; clear = next.clear }
