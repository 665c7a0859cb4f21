use Rattle.std.proofs.Common.{ℕ, ◌||◌, ◌∙◌, ap, get_or}
use Rattle.fab_principals.specs.Sets.{in_set}
use Rattle.fab_authority.proofs.Callings.{grown_by_union}
use Rattle.fab_authority.proofs.authority.gain.Goals as goal

pub returns-clause-grown : goal.returns-clause-grown
returns-clause-grown c =
    let sets = c.args.sets.now in
    grown_by_union sets c.args.call c.union-all.result c.if-caller-sets.false
    (λ p. c.union-all.ensures.either p ∙ ap (λ (w : ℕ). in_set (get_or sets c.args.call.0 0) p || in_set w p) c.set_at.ensures)
