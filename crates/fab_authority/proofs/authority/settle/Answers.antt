use Rattle.std.proofs.Common.{◌≡◌, ℕ, ◌*◌, ◌^◌, length, ap, arith}
use Rattle.fab_authority.proofs.Callings.{grown_further, sum_is_small}
use Rattle.fab_authority.proofs.authority.settle.Goals as goal

pub loop-smaller : goal.loop-smaller
loop-smaller c =
    let new = c.gain_all.new.sets in
    let more = c.loop-test.ensures.settled in
    let small = sum_is_small new (λ k. (c.type_inv.sets k).fits) in
    let size : length new * 2 ^ 64 ≡ length c.loop.sets * 2 ^ 64 = ap (λ (n : ℕ). n * 2 ^ 64) c.gain_all.ensures.grown.size in
    omega (arith, more, small, size)

pub loop-preserved : goal.loop-preserved
loop-preserved c = grown_further c.args.calls.now c.args.sets.now c.loop.sets c.gain_all.new.sets c.loop.invariant c.gain_all.ensures.grown
