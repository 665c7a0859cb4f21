use Rattle.std.proofs.Common.{◌≡◌, OnOk, sym, subst}
use Rattle.fab_release.specs.Replay.{votes}
use Rattle.fab_release.specs.Sights.{Public, Sight}
use Rattle.fab_shelf.proofs.stored.Stored.vote.Goals as goal

pub returns-in-Yes : goal.returns-in-Yes
returns-in-Yes c =
    subst (λ answer. OnOk c.prepare.result ((sight : Sight) (P : Public) → c.prepare.new.self ≡ votes sight P c.args.tid answer c.args.self.now))
    (sym c.in-Yes.is) c.prepare.ensures
