use Rattle.std.proofs.Common.{◌≡◌, ◌∙◌, ap, Bool, Option}
use Rattle.fab_eval.specs.declared.job.Job.{Job}
use Rattle.fab_pauses.specs.Evaluations.{EvaluatorsModel, last_of}
use Rattle.fab_pauses.specs.Jobs.{GoesOnOrStays}
use Rattle.fab_pauses.proofs.Places.{both_in, both_on, others_stay}
use Rattle.fab_pauses.proofs.evaluators.Evaluators.go_on.Goals as goal

pub returns-clause-last : goal.returns-clause-last
returns-clause-last c =
    let i = c.self.inside in
    both_in i.program.now i.all.items c.self.invariant c.args.worker c.place_of.result c.place_of.ensures c.go_on.new.self c.index_mut.result.now
    c.index_mut.ensures.value c.args.self.now (ap (λ (all : EvaluatorsModel). all.lasts) c.self.view_is)
    (λ (went : Bool) (old new : Option Job). GoesOnOrStays went old c.args.oid c.args.version c.args.object new) c.go_on.result c.go_on.ensures.last

pub returns-clause-others : goal.returns-clause-others
returns-clause-others c = λ other apart.
    let i = c.self.inside in
    others_stay i.program.now i.all.items c.self.invariant c.args.worker c.place_of.result c.place_of.ensures c.go_on.new.self other apart
    ∙ ap (λ (all : EvaluatorsModel). last_of all other) c.self.view_is

pub returns-clause-refused : goal.returns-clause-refused
returns-clause-refused c =
    let i = c.self.inside in
    both_on i.program.now i.all.items c.self.invariant c.args.worker c.place_of.result c.place_of.ensures c.go_on.new.self c.index_mut.result.now
    c.index_mut.ensures.value c.args.self.now (ap (λ (all : EvaluatorsModel). all.lasts) c.self.view_is) (λ (old new : Option Job). new ≡ old) c.go_on.result
    c.go_on.ensures.refused
