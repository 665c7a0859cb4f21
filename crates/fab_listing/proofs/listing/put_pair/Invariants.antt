use Rattle.std.proofs.Common.{◌≡◌, ◌++◌, drop}
use Rattle.fab_listing.specs.Listing.{pair_lines}
use Rattle.fab_listing.proofs.listing.put_pair.Given as goal

abbrev pub invariant-loop-index : goal.invariant-loop-index
invariant-loop-index l = l.out ++ pair_lines l.program l.sender l.receiver l.index (drop l.index l.messages) ≡ l.fn.out ++ pair_lines l.program l.sender l.receiver 0 l.messages
