use Rattle.fab_holes.proofs.Solving.{they_solve, lie_below, solved, refused}
use Rattle.fab_holes.proofs.laws.least_labels_solve.Goals as goal

pub returns : goal.returns
returns c = record {
  solve = λ start choice other named is least also solves. they_solve start named choice is least other also solves;
  below = λ start choice other named is least also solves. lie_below start named choice is least other also solves;
  solved = λ start choice named is least solves. solved start named choice is least solves;
  refused = λ start choice reason named is least first. refused start named choice is least reason first;
}
