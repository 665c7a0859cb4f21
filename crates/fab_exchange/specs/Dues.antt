-- Which event of a node is due, of several the one that is taken.
use Rattle.std.specs.Prelude.{◌==◌, ◌&&◌, ◌||◌, ℕ, Bool, true, false, if◌then◌else◌, Option, Some, None, option_map, List, length, is_some, min}
use Rattle.std.specs.List.{find, list_any}
use Rattle.fab_tree.specs.declared.resolved.Crash.{Crash}
use Rattle.fab_net.specs.declared.event.Inner.{Inner}
use Rattle.fab_net.specs.declared.event.Inner.TheVariants as i
use Rattle.fab_rights.specs.Computed.{nodes_in}
use Rattle.fab_world.specs.Machine.{Move, Form, Does, Cuts, Posts, enabled, may, record_at}
use Rattle.fab_world.specs.Crashing.{CrashLine, cut_at, line_now, must_crash, target_in}
use Rattle.fab_settings.specs.Settings.{lines_of}
use Rattle.fab_node.specs.Standing.{GivenModel}
use Rattle.fab_core.specs.Cores.{setting, world_by}
use Rattle.fab_exchange.specs.declared.found.Found.{Found}
use Rattle.fab_exchange.specs.declared.found.Found.TheVariants as f

-- ---- behind these moves

-- an event of a node may come
unfoldable pub comes : GivenModel → List Move → Inner → Bool
comes g moves e = may (setting g) (world_by g moves) e

-- a node may post
unfoldable pub posts : GivenModel → List Move → ℕ → Bool
posts g moves h = enabled (setting g) (world_by g moves) (Posts h)

-- it may, and posts to this node next
unfoldable pub posts_to : GivenModel → List Move → ℕ → ℕ → Bool
posts_to g moves h n = enabled (setting g) (world_by g moves) (Posts h) && (target_in ((world_by g moves).posts h) == n)

-- a line of the bundle, as crash lines are seen
abbrev pub line_in : Crash → CrashLine
line_in line = record { after = line.after; keep = line.keep }

-- the line of a node that is used now
unfoldable pub line_of : GivenModel → List Move → ℕ → Option CrashLine
line_of g moves n = line_now (setting g) (lines_of g.program) (world_by g moves) moves n

-- its crash is due
unfoldable pub crashes : GivenModel → List Move → ℕ → Bool
crashes g moves n = must_crash (setting g) (lines_of g.program) (world_by g moves) moves n

-- ---- of a node

abbrev pub or_else : Option Found → Option Found → Option Found
or_else None other = other
or_else (Some x) other = Some x

abbrev pub if_so : Bool → Found → Option Found
if_so true x = Some x
if_so false x = None

module _ (g : GivenModel) (moves : List Move) (n : ℕ) where
  -- who of these may deliver to it, whom of these it may give up, and who of these posts to it next
  abbrev pub sender : List ℕ → Option ℕ
  sender nodes = find (λ a. comes g moves (i.Deliver a n)) nodes

  abbrev pub silent : List ℕ → Option ℕ
  silent nodes = find (λ s. comes g moves (i.Idle n s)) nodes

  abbrev pub poster : List ℕ → Option ℕ
  poster nodes = find (λ h. posts_to g moves h n) nodes

  -- what it does by itself: its crash, where that is due; else it comes back, hears, begins, is through with its evaluation, or gives up
  unfoldable pub own_at : Option Found
  own_at =
      if crashes g moves n then Some f.Crash
      else or_else (if_so (comes g moves (i.Recover n)) (f.Does (i.Recover n)))
      (or_else (option_map (λ a. f.Does (i.Deliver a n)) (sender (nodes_in g.rights)))
      (or_else (if_so (comes g moves (i.Begin n)) (f.Does (i.Begin n)))
      (or_else (if_so (comes g moves (i.Resume n)) f.Evaluation)
      (option_map (λ s. f.Does (i.Idle n s)) (silent (nodes_in g.rights))))))

  -- this, or else a post to it
  abbrev pub found_at : Option Found
  found_at = or_else own_at (option_map (λ h. f.Post h) (poster (nodes_in g.rights)))

-- Something is due somewhere: what a node does by itself, or a post, which counts here by its sender. A post whose target is to crash isn't due,
-- but the crash is.
abbrev pub is_some_due : GivenModel → List Move → Bool
is_some_due g moves = list_any (λ n. is_some (own_at g moves n) || posts g moves n) (nodes_in g.rights)

-- ---- an event that comes, as the lines have it

abbrev pub form_by : Inner → Option ℕ → ℕ → Form
form_by e None most = Does e
form_by e (Some bytes) most = Cuts (min bytes most) e

unfoldable pub form_at : GivenModel → List Move → Inner → Form
form_at g moves e = form_by e (cut_at (setting g) (lines_of g.program) (world_by g moves) moves e) (length (record_at (setting g) (world_by g moves) e))
