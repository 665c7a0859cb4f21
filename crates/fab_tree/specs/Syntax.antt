-- The grammar of a bundle: which tokens it stands for.
use Rattle.std.specs.Prelude.{ℕ, List, []}
use Rattle.fab_base.specs.declared.token.Mark.TheVariants as m
use Rattle.fab_base.specs.declared.token.Token.{Token}
use Rattle.fab_tree.specs.declared.program.Program.{Program}
use Rattle.fab_tree.specs.declared.event.PostLine.{PostLine}
use Rattle.fab_tree.specs.declared.event.CrashLine.{CrashLine}
use Rattle.fab_tree.specs.declared.event.Event.{Event}
use Rattle.fab_tree.specs.declared.start.Root.{Root}
use Rattle.fab_tree.specs.declared.start.Session.{Session}
use Rattle.fab_tree.specs.declared.start.Start.{Start}
use Rattle.fab_tree.specs.Lists.{Is, Repeated}
use Rattle.fab_tree.specs.Programs.{IsProgram}
use Rattle.fab_tree.specs.Runs.{IsRoot, IsSession, IsPost, IsCrash, IsCache, IsSchedule}

-- start = program "run" "{" {root} {session} {post} {crash} [cache] [schedule] "}"
pub data IsStart : List Token → Start → List Token → Type 0 where
  start : {a b c d e f g h i j k : List Token}
      {p : Program} {rs : List Root} {ss : List Session} {ps : List PostLine} {cs : List CrashLine} {n : ℕ} {es : List Event}
      → IsProgram a p b → Is m.Run b c → Is m.LeftBrace c d
      → Repeated IsRoot d rs e → Repeated IsSession e ss f → Repeated IsPost f ps g → Repeated IsCrash g cs h
      → IsCache h n i → IsSchedule i es j → Is m.RightBrace j k
      → IsStart a (record { program = p; roots = rs; sessions = ss; posts = ps; crashes = cs; cache = n; schedule = es }) k

-- a whole text
abbrev pub IsText : List Token → Start → Type 0
IsText ts s = IsStart ts s []
