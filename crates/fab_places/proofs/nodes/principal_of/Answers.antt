use Rattle.std.proofs.Common.{◌≡◌, ℕ, rules, tests}
use Rattle.fab_labelling.specs.Readers.{principal_of}
use Rattle.std.proofs.lemmas.Iterator.{YieldsList-from_slice}
use Rattle.std.proofs.lemmas.Iterator.Search.{position_from_yields_List}
use Rattle.fab_places.proofs.NodeLemmas.{has_number, principal_found, principal_within}
use Rattle.fab_places.proofs.nodes.principal_of.Goals as goal

pub returns : goal.returns
returns c =
    let nodes = c.args.start.now.nodes in
    let found = position_from_yields_List (has_number c.args.number) _ _ c.position.result c.position.ensures.ran (YieldsList-from_slice nodes cc) (λ x b q k. search (rules, tests)) in
    let place : c.unwrap_or.result ≡ principal_of c.args.start.now c.args.number = rw (c.unwrap_or.ensures, c.as_slice-nodes.ensures) (principal_found c.args.start.now c.args.number c.position.result found) in
    record { place = place; within = rw place (principal_within c.args.start.now c.args.number) }
