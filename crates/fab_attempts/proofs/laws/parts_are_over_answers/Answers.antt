use Rattle.fab_attempts.proofs.Parts.{parts_over}
use Rattle.fab_attempts.proofs.laws.parts_are_over_answers.Goals as goal

pub returns : goal.returns
returns c = λ program n rights t answers i request fuel fits known asked. parts_over program t answers known n rights fits i request asked fuel
