use Rattle.std.proofs.Common.{ℕ, Option, Some, None, refl, sym, ap, ◌∙◌, subst}
use Rattle.std.specs.Prelude.{IfSome}
use Rattle.std.specs.List.{IsDistinct, list_any}
use Rattle.std.proofs.Common.{◌≡◌, false}
use Rattle.fab_base.specs.FlatMap.{is_same}
use Rattle.fab_eval.specs.Attempts.{is_made_in}
use Rattle.fab_eval.specs.declared.job.Job.{Job}
use Rattle.fab_protocol.specs.Versions.{names_of}
use Rattle.fab_world.specs.Serial.{IsRun, IsWaiting}
use Rattle.fab_node.specs.Standing.{IsGiven}
use Rattle.fab_core.specs.Cores.{CoreModel, setting, world}
use Rattle.fab_core.specs.Telling.{TellsJob}
use Rattle.fab_exchange.specs.Turns.{AreOver}
use Rattle.fab_exchange.proofs.Owning.{on_err}
use Rattle.fab_exchange.proofs.Turning.{asks, crash_acts, crash_follows, does_acts, does_none, ends, found_goes, found_needs, found_resumes, no_post, post_acts, post_follows, waits}
use Rattle.fab_exchange.proofs.Working.{none_at_work}
use Rattle.fab_exchange.proofs.exchange.Exchange.next.Goals as goal

pub enact-requires : goal.enact-requires
enact-requires g c =
    let m = c.args.self.now in
    record { follows = crash_follows m.given m.moves c.args.node (sym c.found.ensures ∙ c.in-Some-Crash.is ∙ ap Some c.in-Some-Crash.field-0-is); done = tt }

pub returns-in_ok-enact-in-Some-Crash-clause-turns : goal.returns-in_ok-enact-in-Some-Crash-clause-turns
returns-in_ok-enact-in-Some-Crash-clause-turns g c =
    let m = c.args.self.now in
    crash_acts m c.enact.new.self c.args.node (sym c.found.ensures ∙ c.in-Some-Crash.is ∙ ap Some c.in-Some-Crash.field-0-is)
    c.in_ok-enact-in-Some-Crash.ensures.came

pub unreachable-requires : goal.unreachable-requires
unreachable-requires g c =
    let m = c.args.self.now in
    let Ran : CoreModel → Type 0 = λ k. IsRun (setting k.given) k.moves in
    let Told : CoreModel → Type 0 = λ k. TellsJob k.given (world k) c.args.node None in
    let k = c.self.inside.core in
    none_at_work m.given m.moves c.args.node (subst Ran c.self.view_is c.is_a_run.ensures.run)
    (found_resumes m.given m.moves c.args.node (sym c.found.ensures ∙ c.in-Some-Evaluation.is ∙ ap Some c.in-Some-Evaluation.field-0-is))
    (subst Told c.self.view_is
    (subst (λ (told : Option Job). TellsJob k.given (world k) c.args.node told) c.in-None-3.is c.in_ok-job-in-Some-Evaluation.ensures.job))

pub returns-in-Some-clause-turns : goal.returns-in-Some-clause-turns
returns-in-Some-clause-turns g c =
    let m = c.args.self.now in
    let job = c.in-Some.job in
    let Told : CoreModel → Type 0 = λ k. TellsJob k.given (world k) c.args.node (Some job) in
    let k = c.self.inside.core in
    asks m.given m.moves c.args.node m.moves job (sym c.found.ensures ∙ c.in-Some-Evaluation.is ∙ ap Some c.in-Some-Evaluation.field-0-is)
    (subst Told c.self.view_is
    (subst (λ (told : Option Job). TellsJob k.given (world k) c.args.node told) c.in-Some.is c.in_ok-job-in-Some-Evaluation.ensures.job))
    (subst (λ (told : Option Job). IfSome told (λ j. IsDistinct is_same (names_of j.answers))) c.in-Some.is c.in_ok-job-in-Some-Evaluation.ensures.distinct)
    (subst (λ (told : Option Job). IfSome told (λ j. list_any (λ a. is_made_in j.tid a.0) j.answers ≡ false)) c.in-Some.is
    c.in_ok-job-in-Some-Evaluation.ensures.made_before) refl

pub does-requires : goal.does-requires
does-requires g c =
    let m = c.args.self.now in
    let found = sym c.found.ensures ∙ c.in-Some-Does.is ∙ ap Some c.in-Some-Does.field-0-is in record {
      goes = found_goes m.given m.moves c.args.node c.in-Some-Does.inner found;
      done = found_needs m.given m.moves c.args.node c.in-Some-Does.inner found;
    }

pub returns-in_ok-does-in-Some-Does-clause-turns : goal.returns-in_ok-does-in-Some-Does-clause-turns
returns-in_ok-does-in-Some-Does-clause-turns g c =
    let m = c.args.self.now in
    does_acts m c.does.new.self c.args.node c.in-Some-Does.inner
    (sym c.found.ensures ∙ c.in-Some-Does.is ∙ ap Some c.in-Some-Does.field-0-is) c.in_ok-does-in-Some-Does.ensures.came

pub enact-requires-in-Some-Post : goal.enact-requires-in-Some-Post
enact-requires-in-Some-Post g c =
    let m = c.args.self.now in record {
      follows = post_follows m.given m.moves c.args.node c.in-Some-Post.sender (sym c.found.ensures ∙ c.in-Some-Post.is ∙ ap Some c.in-Some-Post.field-0-is);
      done = tt;
    }

pub returns-in_ok-enact-in-Some-Post-clause-turns : goal.returns-in_ok-enact-in-Some-Post-clause-turns
returns-in_ok-enact-in-Some-Post-clause-turns g c =
    let m = c.args.self.now in
    post_acts m c.enact-in-Some-Post.new.self c.args.node c.in-Some-Post.sender
    (sym c.found.ensures ∙ c.in-Some-Post.is ∙ ap Some c.in-Some-Post.field-0-is) c.in_ok-enact-in-Some-Post.ensures.came

pub returns-in-None-clause-turns : goal.returns-in-None-clause-turns
returns-in-None-clause-turns g c =
    let m = c.args.self.now in
    let Given : CoreModel → Type 0 = λ k. IsGiven k.given in
    waits m.given m.moves c.args.node (subst Given c.self.view_is c.is_a_run.ensures.given) m.moves (sym c.found.ensures ∙ c.in-None.is)
    (sym c.is_some_due.ensures ∙ c.if-is_some_due.true) refl

pub returns-in-None-2-clause-turns : goal.returns-in-None-2-clause-turns
returns-in-None-2-clause-turns g c =
    let m = c.args.self.now in
    let Given : CoreModel → Type 0 = λ k. IsGiven k.given in
    let Left : CoreModel → Type 0 = λ k. AreOver k.given k.moves → (n : ℕ) → IsWaiting (setting k.given) (world k) n → ⊥ in
    ends m.given m.moves c.args.node (subst Given c.self.view_is c.is_a_run.ensures.given) m.moves (sym c.is_some_due.ensures ∙ c.if-is_some_due.false)
    (subst Left c.self.view_is c.goes_on.ensures.left) refl

pub returns-in_err-does-in-Some-Does-clause-memory : goal.returns-in_err-does-in-Some-Does-clause-memory
returns-in_err-does-in-Some-Does-clause-memory g c =
    let m = c.args.self.now in
    on_err c.from_residual-in_err-does-in-Some-Does.result
    (does_none m c.does.new.self c.args.node c.in-Some-Does.inner (sym c.found.ensures ∙ c.in-Some-Does.is ∙ ap Some c.in-Some-Does.field-0-is)
    c.in_err-does-in-Some-Does.ensures.memory)

pub returns-in_err-enact-in-Some-Post-clause-memory : goal.returns-in_err-enact-in-Some-Post-clause-memory
returns-in_err-enact-in-Some-Post-clause-memory g c =
    let m = c.args.self.now in
    on_err c.from_residual-in_err-enact-in-Some-Post.result
    (no_post m c.enact-in-Some-Post.new.self c.args.node c.in-Some-Post.sender
    (sym c.found.ensures ∙ c.in-Some-Post.is ∙ ap Some c.in-Some-Post.field-0-is) c.in_err-enact-in-Some-Post.ensures.memory)
