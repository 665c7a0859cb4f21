use Rattle.std.proofs.Common.{append-nil}
use Rattle.std.proofs.lemmas.Result.{err_from_is_err_and}
use Rattle.fab_reading.proofs.Rules.{alike, part, one_more, stop_part, takes_some, not_true, whole}
use Rattle.fab_reading.proofs.ListRules.{list_more, list_end, list_meets, repeated_text}
use Rattle.fab_reading.proofs.rule.repeated.Goals as goal

pub returns-in_err-item : goal.returns-in_err-item
returns-in_err-item g c =
    let p = err_from_is_err_and c.from_residual.result c.from_residual.ensures.1 in
    rw (p.1, p.2) (stop_part g.R.Rule.may c.in_err-item.field-0.0 (list_more g.R.Rule.first g.R.Rule.may c.list.invariant (c.starts.ensures.0 c.list-test.true)) c.in_err-item.ensures (list_meets g.R.Rule.first g.R.Rule.may g.met.R.Rule.begins g.met.R.Rule.meets) repeated_text)

pub list-preserved : goal.list-preserved
list-preserved g c =
    alike _ (part (list_more g.R.Rule.first g.R.Rule.may c.list.invariant (c.starts.ensures.0 c.list-test.true)) c.in_ok-item.ensures (list_meets g.R.Rule.first g.R.Rule.may g.met.R.Rule.begins g.met.R.Rule.meets)) (one_more _ _ _ c.in_ok-push.ensures.ok)

pub list-smaller : goal.list-smaller
list-smaller g c = takes_some g.R.Rule.first g.met.R.Rule.begins c.in_ok-item.ensures

pub returns : goal.returns
returns g c =
    whole (alike _ (list_end g.R.Rule.first g.met.R.Rule.begins c.list.invariant (λ s. not_true c.list-test.false (c.starts.ensures.1 s))) (λ v. append-nil _))
