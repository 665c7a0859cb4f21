use Rattle.fab_reading.specs.Reading.{begins_name}
use Rattle.fab_reading.specs.Firsts.{name_begins}
use Rattle.fab_reading.proofs.Rules.{here_at, here_end}
use Rattle.fab_reading.proofs.TokenRules.{name_text, no_name_begins, name_read}
use Rattle.fab_reading.proofs.reading.name.Goals as goal

pub returns-in-None : goal.returns-in-None
returns-in-None c = here_end begins_name name_begins name_text c.in-None.ensures

pub returns-in_ok-text-in-Name : goal.returns-in_ok-text-in-Name
returns-in_ok-text-in-Name c = name_read c.in-Some.ensures (rw c.in_ok-text-in-Name.ensures c.in-Name.is)

pub returns-in_default : goal.returns-in_default
returns-in_default c =
    here_at begins_name name_begins name_text c.in-Some.ensures (no_name_begins c.in-Some.token.now.kind c.in_default.not-Name)
