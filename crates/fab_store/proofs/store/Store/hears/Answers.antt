use Rattle.std.proofs.Common.{◌≡◌, ◌≤◌, length, sym, subst, ap, ◌∙◌}
use Rattle.std.specs.List.{AllByRecursion}
use Rattle.fab_base.specs.MessageSpelling.{KeepsCounts}
use Rattle.fab_wire.proofs.MessageLaws.{can_be_encoded}
use Rattle.fab_protocol.specs.declared.said.Said.{Said}
use Rattle.fab_protocol.specs.Versions.{Row}
use Rattle.fab_protocol.specs.Stores.{says}
use Rattle.fab_protocol.proofs.Kept.{says_can_keep}
use Rattle.fab_store.specs.Stock.{CanKeepSaid, CanSpell, Stock}
use Rattle.fab_store.proofs.Spelling.{if_ok_along, kept_said, says_spells}
use Rattle.fab_store.proofs.store.Store.hears.Goals as goal

pub returns-in-Ok-clause-spelled : goal.returns-in-Ok-clause-spelled
returns-in-Ok-clause-spelled c =
    let x = c.args.self.now in
    let counts : KeepsCounts c.in-Ok.message = can_be_encoded c.in-Ok.ensures.found.spelled.0 c.in-Ok.message c.in-Ok.ensures.found.spelled.1 in
    let few : AllByRecursion (λ (row : Row). length row.2.fields ≤ 16) x.shelf.rows =
    subst (λ (v : Stock). AllByRecursion (λ (row : Row). length row.2.fields ≤ 16) v.shelf.rows) c.self.view_is c.self.invariant.shelf.fields in
    if_ok_along c.says.result (λ said. said ≡ says x.rights x.node c.args.sender c.in-Ok.message x.shelf) CanSpell
    (λ said is. subst CanSpell (sym is) (says_spells x.rights x.node c.args.sender x.shelf few c.in-Ok.message counts)) c.says.ensures

pub returns-in-Ok-clause-kept : goal.returns-in-Ok-clause-kept
returns-in-Ok-clause-kept c =
    let x = c.args.self.now in
    let counts : KeepsCounts c.in-Ok.message = can_be_encoded c.in-Ok.ensures.found.spelled.0 c.in-Ok.message c.in-Ok.ensures.found.spelled.1 in
    if_ok_along c.says.result (λ said. said ≡ says x.rights x.node c.args.sender c.in-Ok.message x.shelf)
    (λ said. CanKeepSaid x.rights x.node said.entry x.shelf)
    (λ said is. kept_said x.rights x.node said.entry x.shelf
    (λ kept there. says_can_keep x.rights x.node x.shelf kept c.args.sender c.in-Ok.message counts (sym (ap (λ (s : Said). s.entry) is) ∙ there)))
    c.says.ensures
