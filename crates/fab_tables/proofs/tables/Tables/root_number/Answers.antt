use Rattle.std.proofs.Common.{ap, ◌∙◌, length}
use Rattle.std.specs.Option.{unwrap_or}
use Rattle.fab_language.specs.Names.{number_of, root_name}
use Rattle.fab_tables.specs.Places.{place_of}
use Rattle.fab_tables.proofs.PlaceLemmas.{number_at}
use Rattle.fab_tables.proofs.tables.Tables.root_number.Goals as goal

pub returns-in-Some : goal.returns-in-Some
returns-in-Some c =
    ap (λ o. unwrap_or o (length c.self.inside.start.now.roots)) (c.in-Some.ensures ∙ ap (λ l. place_of l c.args.name.now.text) c.self.invariant.roots_are)
    ∙ number_at root_name c.args.name.now c.self.inside.start.now.roots
    ∙ ap (λ s. number_of root_name s.roots c.args.name.now) c.self.view_is

pub returns-in-None : goal.returns-in-None
returns-in-None c =
    c.len.ensures
    ∙ ap (λ o. unwrap_or o (length c.self.inside.start.now.roots)) (c.in-None.ensures ∙ ap (λ l. place_of l c.args.name.now.text) c.self.invariant.roots_are)
    ∙ number_at root_name c.args.name.now c.self.inside.start.now.roots
    ∙ ap (λ s. number_of root_name s.roots c.args.name.now) c.self.view_is
