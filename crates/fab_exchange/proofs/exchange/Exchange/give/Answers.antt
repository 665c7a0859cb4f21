use Rattle.std.proofs.Common.{Some, refl, sym, ap, ◌∙◌, subst}
use Rattle.fab_core.specs.Cores.{CoreModel, world}
use Rattle.fab_core.specs.Telling.{TellsJob}
use Rattle.fab_exchange.proofs.Turning.{takes}
use Rattle.fab_exchange.proofs.Working.{current, may_resume, stale}
use Rattle.fab_exchange.proofs.exchange.Exchange.give.Goals as goal

pub is_current-requires : goal.is_current-requires
is_current-requires g c = c.requires.program ∙ ap (λ (k : CoreModel). k.given.program) (sym c.self.view_is)

pub returns-then-not-is_current-clause-gives : goal.returns-then-not-is_current-clause-gives
returns-then-not-is_current-clause-gives g c =
    let m = c.args.self.now in
    let job = c.args.done.now.job in
    let Other : CoreModel → Type 0 = λ k. TellsJob k.given (world k) c.args.node (Some job) → ⊥ in
    record { stale = stale m.given m.moves c.args.node job (subst Other c.self.view_is c.if-not-is_current.ensures); moves = refl }

pub does-requires : goal.does-requires
does-requires g c =
    let m = c.args.self.now in
    let job = c.args.done.now.job in
    let Told : CoreModel → Type 0 = λ k. TellsJob k.given (world k) c.args.node (Some job) in
    let it = current m.given m.moves c.args.node job (subst Told c.self.view_is c.if-not-is_current.ensures) in
    record { goes = may_resume m.given m.moves c.args.node it.at_work; done = λ up busy. it.job_is }

pub returns-clause-gives : goal.returns-clause-gives
returns-clause-gives g c =
    let m = c.args.self.now in
    let job = c.args.done.now.job in
    let Told : CoreModel → Type 0 = λ k. TellsJob k.given (world k) c.args.node (Some job) in
    let it = current m.given m.moves c.args.node job (subst Told c.self.view_is c.if-not-is_current.ensures) in
    takes m c.does.new.self c.args.node c.args.done.now it (may_resume m.given m.moves c.args.node it.at_work) c.in_ok-does.ensures.came
