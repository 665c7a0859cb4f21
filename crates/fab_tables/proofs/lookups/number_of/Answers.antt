use Rattle.std.proofs.Common.{ap, ◌∙◌, length}
use Rattle.std.specs.Option.{unwrap_or}
use Rattle.fab_tables.specs.Places.{place_of}
use Rattle.fab_tables.proofs.PlaceLemmas.{number_at}
use Rattle.fab_tables.proofs.lookups.number_of.Goals as goal

pub returns-in-Some-clause-number : goal.returns-in-Some-clause-number
returns-in-Some-clause-number g c =
    ap (λ o. unwrap_or o (length c.args.items.now)) (c.in-Some.ensures ∙ ap (λ l. place_of l c.args.name.now.text) c.requires)
    ∙ number_at g.T.Named.name c.args.name.now c.args.items.now

pub returns-in-None-clause-number : goal.returns-in-None-clause-number
returns-in-None-clause-number g c =
    ap (λ o. unwrap_or o (length c.args.items.now)) (c.in-None.ensures ∙ ap (λ l. place_of l c.args.name.now.text) c.requires)
    ∙ number_at g.T.Named.name c.args.name.now c.args.items.now
