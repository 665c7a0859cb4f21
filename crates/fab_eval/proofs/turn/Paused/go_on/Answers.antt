use Rattle.std.proofs.Common.{◌≡◌, false, ap, sym, subst, ◌∙◌}
use Rattle.std.specs.List.{IsDistinct, list_any}
use Rattle.fab_base.specs.FlatMap.{is_same}
use Rattle.fab_nested.specs.Nested.{names_of}
use Rattle.fab_stack.specs.Attempts.{is_made_in}
use Rattle.fab_eval.specs.declared.job.Job.{Job}
use Rattle.fab_eval.specs.Answered.{Pending}
use Rattle.fab_eval.specs.Outcomes.{meant_of, outcome_of}
use Rattle.fab_eval.proofs.Going.{distinct_more, needed_new, resumes}
use Rattle.fab_eval.proofs.turn.Paused.go_on.Goals as goal

pub gone_on-requires-clause-distinct : goal.gone_on-requires-clause-distinct
gone_on-requires-clause-distinct c =
    let i = c.self.inside in
    let unmade = subst (λ (z : Pending). is_made_in z.job.tid z.oid ≡ false) (sym c.self.view_is) c.requires in
    distinct_more i.done.job i.oid c.args.version c.args.object c.self.invariant.distinct (needed_new i.done.job i.site i.oid (sym i.done.outcome_meant ∙ c.self.invariant.needs) unmade)

pub gone_on-requires-clause-resumes : goal.gone_on-requires-clause-resumes
gone_on-requires-clause-resumes c =
    let i = c.self.inside in
    let unmade = subst (λ (z : Pending). is_made_in z.job.tid z.oid ≡ false) (sym c.self.view_is) c.requires in
    resumes i.done.job i.oid c.args.version c.args.object (needed_new i.done.job i.site i.oid (sym i.done.outcome_meant ∙ c.self.invariant.needs) unmade) unmade i.at c.self.invariant.waits

pub invariant_of-result : goal.invariant_of-result
invariant_of-result c =
    let d = c.self.inside.done in
    let back = sym c.in-Err.ensures.refused in
    record {
      outcome_meant = d.outcome_meant ∙ ap outcome_of back;
      touches_meant = d.touches_meant ∙ ap (λ (j : Job). (meant_of j).touches) back;
      downs_meant = d.downs_meant ∙ ap (λ (j : Job). (meant_of j).downs) back;
    }

pub invariant_of-result-in-Err : goal.invariant_of-result-in-Err
invariant_of-result-in-Err c =
    let i = c.self.invariant in
    let back = sym c.in-Err.ensures.refused in
    record {
      same = i.same ∙ ap (λ (j : Job). j.program.value) back;
      needs = i.needs;
      distinct = subst (λ (j : Job). IsDistinct is_same (names_of j.answers)) back i.distinct;
      made_before = subst (λ (j : Job). list_any (λ a. is_made_in j.tid a.0) j.answers ≡ false) back i.made_before;
      waits = tt;
    }
