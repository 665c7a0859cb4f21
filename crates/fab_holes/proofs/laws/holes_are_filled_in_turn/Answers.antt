use Rattle.fab_holes.proofs.Conditions.{fine}
use Rattle.fab_holes.proofs.Puts.{chosen_is, places_are}
use Rattle.fab_holes.proofs.laws.holes_are_filled_in_turn.Goals as goal

pub returns : goal.returns
returns c = record { filled = λ start choice named is. chosen_is start named choice is; places = λ start named. places_are start (fine start named) }
