use Rattle.std.proofs.Common.{ap, ◌∙◌, length}
use Rattle.std.specs.Option.{unwrap_or}
use Rattle.fab_tables.proofs.PlaceLemmas.{place_items, number_at}
use Rattle.fab_tables.proofs.lookups.number_among.Goals as goal

pub returns-clause-number : goal.returns-clause-number
returns-clause-number g c =
    c.unwrap_or.ensures ∙ ap (λ o. unwrap_or o (length c.args.items.now)) (c.place_among.ensures ∙ place_items g.T.Named.name c.args.name.now c.args.items.now)
    ∙ number_at g.T.Named.name c.args.name.now c.args.items.now
