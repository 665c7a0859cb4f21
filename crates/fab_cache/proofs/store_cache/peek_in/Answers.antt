use Rattle.std.proofs.Common.{◌∙◌, sym, ap}
use Rattle.std.specs.Option.{option_map}
use Rattle.fab_cache.specs.Caching.{row_of_entry}
use Rattle.fab_cache.proofs.Putting.{looked_up}
use Rattle.fab_cache.proofs.store_cache.peek_in.Goals as goal

pub returns-in-Some : goal.returns-in-Some
returns-in-Some c =
    looked_up c.args.oid c.args.entries.now.entries c.requires ∙ ap (option_map (λ x. row_of_entry (c.args.oid, x))) (sym c.in-Some.ensures.value)

pub returns-in-None : goal.returns-in-None
returns-in-None c =
    looked_up c.args.oid c.args.entries.now.entries c.requires ∙ ap (option_map (λ x. row_of_entry (c.args.oid, x))) (sym c.in-None.ensures.value)
