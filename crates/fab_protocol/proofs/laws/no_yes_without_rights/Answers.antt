use Rattle.fab_protocol.proofs.Reasons.{lack_bars, reason_bars, yes_exactly, no_has_reason}
use Rattle.fab_protocol.proofs.Refusals.{strangers_hear_nothing, strange_messages_drop}
use Rattle.fab_protocol.proofs.laws.no_yes_without_rights.Goals as goal

pub returns : goal.returns
returns c = record {
  silent = strangers_hear_nothing;
  dropped = strange_messages_drop;
  lacking = λ rights s n t items shelf. lack_bars rights s n t shelf items;
  refused = λ rights s n t items shelf. reason_bars rights s n t shelf items;
  exact = λ rights s n t items shelf. yes_exactly rights s n t shelf items;
  cause = λ rights s n t items shelf. no_has_reason rights s n t shelf items;
}
