use Rattle.std.proofs.Common.{◌∙◌, ap}
use Rattle.fab_pauses.specs.Evaluations.{EvaluatorsModel, last_of}
use Rattle.fab_pauses.specs.Jobs.{IsOldOrNone}
use Rattle.fab_pauses.proofs.Places.{both_on, others_stay, there}
use Rattle.fab_pauses.proofs.evaluators.Evaluators.evaluate.Goals as goal

pub returns-clause-last : goal.returns-clause-last
returns-clause-last c =
    let i = c.self.inside in
    there i.program.now i.all.items c.self.invariant c.args.worker c.place_of.result c.place_of.ensures c.evaluate.new.self c.evaluate.result c.args.job c.evaluate.ensures.last

pub returns-clause-others : goal.returns-clause-others
returns-clause-others c = λ other apart.
    let i = c.self.inside in
    others_stay i.program.now i.all.items c.self.invariant c.args.worker c.place_of.result c.place_of.ensures c.evaluate.new.self other apart
    ∙ ap (λ (all : EvaluatorsModel). last_of all other) c.self.view_is

pub returns-clause-refused : goal.returns-clause-refused
returns-clause-refused c =
    let i = c.self.inside in
    both_on i.program.now i.all.items c.self.invariant c.args.worker c.place_of.result c.place_of.ensures c.evaluate.new.self c.index_mut.result.now
    c.index_mut.ensures.value c.args.self.now (ap (λ (all : EvaluatorsModel). all.lasts) c.self.view_is) IsOldOrNone c.evaluate.result c.evaluate.ensures.refused
