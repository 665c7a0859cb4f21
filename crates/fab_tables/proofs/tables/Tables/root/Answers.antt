use Rattle.std.proofs.Common.{ap, ◌∙◌, slice_get}
use Rattle.std.specs.Option.{option_and_then}
use Rattle.fab_language.specs.Names.{named, root_name}
use Rattle.fab_tables.specs.Places.{place_of}
use Rattle.fab_tables.proofs.PlaceLemmas.{item_at}
use Rattle.fab_tables.proofs.tables.Tables.root.Goals as goal

pub returns-in-Some : goal.returns-in-Some
returns-in-Some c =
    c.item_at.ensures ∙ ap (λ l. slice_get l c.in-Some.place) c.as_slice.ensures
    ∙ ap (option_and_then (slice_get c.self.inside.start.now.roots)) (c.in-Some.ensures ∙ ap (λ l. place_of l c.args.name.now.text) c.self.invariant.roots_are)
    ∙ item_at root_name c.args.name.now c.self.inside.start.now.roots
    ∙ ap (λ s. named root_name s.roots c.args.name.now) c.self.view_is

pub returns-in-None : goal.returns-in-None
returns-in-None c =
    ap (option_and_then (slice_get c.self.inside.start.now.roots)) (c.in-None.ensures ∙ ap (λ l. place_of l c.args.name.now.text) c.self.invariant.roots_are)
    ∙ item_at root_name c.args.name.now c.self.inside.start.now.roots
    ∙ ap (λ s. named root_name s.roots c.args.name.now) c.self.view_is
