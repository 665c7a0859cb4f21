use Rattle.std.proofs.Common.{ap, ◌∙◌, take}
use Rattle.std.proofs.lemmas.List.{take_min}
use Rattle.fab_picture.specs.Picture.{most_feet}
use Rattle.fab_picture.proofs.pictures.most.Goals as goal

pub returns-clause-feet : goal.returns-clause-feet
returns-clause-feet c = ap (λ n. take n c.args.feet.now) c.min.ensures ∙ take_min most_feet c.args.feet.now
