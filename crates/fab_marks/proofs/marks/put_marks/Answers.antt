use Rattle.std.proofs.Common.{ap, ◌∙◌, take}
use Rattle.std.proofs.lemmas.List.{take-map}
use Rattle.fab_wire.specs.Reading.{read_message}
use Rattle.fab_marks.specs.declared.moves.Move.{Move}
use Rattle.fab_marks.proofs.marks.put_marks.Goals as goal

pub mark_of-requires-clause-heard : goal.mark_of-requires-clause-heard
mark_of-requires-clause-heard c =
    ap (λ l. take c.loop-index.index l) (c.as_slice-heard.ensures ∙ c.in_ok-messages.ensures)
    ∙ take-map (λ (x : Move). read_message x.bytes) c.loop-index.index c.args.drawn.now
