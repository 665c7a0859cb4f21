use Rattle.fab_commit.proofs.Numbers.{number_placed}
use Rattle.fab_commit.proofs.stores.place.Goals as goal

-- the numbers rise
pub returns : goal.returns
returns c =
    let placed = number_placed c.args.numbers.now c.requires c.args.number c.binary_search.result c.binary_search.ensures.position in
    record { found = placed.found; range = placed.range; absent = placed.absent }
