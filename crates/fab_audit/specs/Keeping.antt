-- Journals of nodes that aren't hostile.
use Rattle.std.specs.Prelude.{IsTrue}
use Rattle.fab_node.specs.Standing.{GivenModel}
use Rattle.fab_core.specs.Cores.{is_honest}
use Rattle.fab_evidence.specs.declared.shown.ShownJournal.{ShownJournal}

-- the journal that is shown is of a node that isn't hostile
abbrev pub IsShownOf : GivenModel → ShownJournal → Type 0
IsShownOf g journal = IsTrue (is_honest g journal.node)
