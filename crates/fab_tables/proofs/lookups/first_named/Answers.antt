use Rattle.std.proofs.Common.{ap, ◌∙◌, slice_get}
use Rattle.std.specs.Option.{option_and_then}
use Rattle.fab_tables.specs.Places.{place_of}
use Rattle.fab_tables.proofs.PlaceLemmas.{item_at}
use Rattle.fab_tables.proofs.lookups.first_named.Goals as goal

pub returns-in-Some : goal.returns-in-Some
returns-in-Some g c =
    c.item_at.ensures ∙ ap (option_and_then (slice_get c.args.items.now)) (c.in-Some.ensures ∙ ap (λ l. place_of l c.args.name.now.text) c.requires)
    ∙ item_at g.T.Named.name c.args.name.now c.args.items.now

pub returns-in-None : goal.returns-in-None
returns-in-None g c =
    ap (option_and_then (slice_get c.args.items.now)) (c.in-None.ensures ∙ ap (λ l. place_of l c.args.name.now.text) c.requires)
    ∙ item_at g.T.Named.name c.args.name.now c.args.items.now
