use Rattle.std.proofs.Common.{◌∙◌}
use Rattle.std.proofs.lemmas.Result.{IfOk-weaker}
use Rattle.fab_known.proofs.Parting.{parts_are}
use Rattle.fab_known.proofs.run.parts_of.Goals as goal

pub returns : goal.returns
returns c =
    IfOk-weaker c.parts_from.result _ _
    (λ parts h what is ended. h ∙ parts_are c.args.known.now c.args.value _ _ _ _ c.args.meant.now what
    c.as_slice-touches.ensures c.as_slice-written.ensures c.as_slice-made.ensures c.rows-objects.ensures.all is ended)
    c.parts_from.ensures
