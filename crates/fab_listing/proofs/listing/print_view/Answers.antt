use Rattle.std.proofs.Common.{◌<◌, not, sym, subst, ◌∙◌}
use Rattle.std.specs.List.{AllByRecursion}
use Rattle.fab_rights.specs.Computed.{has_bit}
use Rattle.fab_sent.specs.Messages.{messages_in}
use Rattle.fab_listing.proofs.Numbers.{listed, nodes_below}
use Rattle.fab_listing.proofs.listing.print_view.Goals as goal

pub put_all-requires-clause-senders : goal.put_all-requires-clause-senders
put_all-requires-clause-senders c =
    subst (AllByRecursion (λ n. n < 64)) (sym (c.as_slice-senders.ensures.value ∙ c.in_ok-outside.ensures))
    (nodes_below c.args.program.now (λ n. not (has_bit c.args.nodes n)) c.requires.few)

pub put_all-requires-clause-receivers : goal.put_all-requires-clause-receivers
put_all-requires-clause-receivers c =
    subst (AllByRecursion (λ n. n < 64)) (sym (c.as_slice-receivers.ensures.value ∙ c.in_ok-inside.ensures))
    (nodes_below c.args.program.now (has_bit c.args.nodes) c.requires.few)

pub returns : goal.returns
returns c =
    listed c.args.program.now (has_bit c.args.nodes) (messages_in c.args.sent.now) c.new-text.result c.put_all.new.out c.put_end.new.out
    c.as_slice-senders.result.now c.as_slice-receivers.result.now c.in_ok-messages.messages c.new-text.ensures
    (c.as_slice-senders.ensures.value ∙ c.in_ok-outside.ensures) (c.as_slice-receivers.ensures.value ∙ c.in_ok-inside.ensures)
    c.in_ok-messages.ensures.text c.in_ok-messages.ensures.count c.in_ok-put_end.ensures
