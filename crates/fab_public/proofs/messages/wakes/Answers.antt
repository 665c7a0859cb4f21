use Rattle.std.proofs.Common.{◌++◌, ◌∙◌}
use Rattle.fab_base.specs.declared.message.Message.TheVariants.{Boot}
use Rattle.fab_sent.specs.Messages.{all_spelled}
use Rattle.fab_world.specs.Workers.{to_all}
use Rattle.fab_parts.proofs.Spelled.{two_lists}
use Rattle.fab_public.proofs.messages.wakes.Goals as goal

pub returns : goal.returns
returns c =
    c.in_ok-add_all.ensures
    ∙ (λ j. c.in_ok-sends.ensures j ++ all_spelled (to_all ((c.deref.ensures.value ∙ c.in_ok-stores.ensures) j) (Boot c.args.boot)))
    ∙ two_lists _ _
