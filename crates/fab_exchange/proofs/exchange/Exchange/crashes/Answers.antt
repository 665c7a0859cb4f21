use Rattle.std.proofs.Common.{not, sym, ap, ◌∙◌}
use Rattle.std.specs.Prelude.{option_map}
use Rattle.fab_world.specs.Crashing.{crashes_by}
use Rattle.fab_settings.specs.Settings.{lines_of}
use Rattle.fab_core.specs.Cores.{setting}
use Rattle.fab_exchange.specs.Dues.{line_in}
use Rattle.fab_exchange.proofs.Lined.{line_crashes, not_twice}
use Rattle.fab_exchange.proofs.exchange.Exchange.crashes.Goals as goal

pub returns-in-Some : goal.returns-in-Some
returns-in-Some g c =
    let m = c.args.self.now in
    sym (line_crashes m.given m.moves c.args.node
    ∙ ap (crashes_by (setting m.given) (lines_of m.given.program)) (sym c.line_of.ensures ∙ ap (option_map line_in) c.in-Some.is)
    ∙ ap not c.is_none.ensures ∙ not_twice c.is_none.result)

pub returns-in-None : goal.returns-in-None
returns-in-None g c =
    let m = c.args.self.now in
    sym (line_crashes m.given m.moves c.args.node
    ∙ ap (crashes_by (setting m.given) (lines_of m.given.program)) (sym c.line_of.ensures ∙ ap (option_map line_in) c.in-None.is))
