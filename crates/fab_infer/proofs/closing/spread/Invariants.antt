use Rattle.std.proofs.Common.{◌≡◌, ◌<◌, ◌^◌, ℕ, length, slice_index}
use Rattle.fab_infer.specs.Spreading.{spread}
use Rattle.fab_infer.proofs.closing.spread.Given as goal

abbrev pub invariant-targets : goal.invariant-targets
invariant-targets l = record {
  spread : spread l.more l.masks l.waiting.items l.rest ≡ spread l.more l.initial.masks l.initial.waiting.items l.targets;
  bits : (h : ℕ) → slice_index l.masks h < 2 ^ 64;
}

abbrev pub decreases-targets : goal.decreases-targets
decreases-targets l = length l.rest
