-- Crash lines: what they make of a run, which event is due, and when a run is over.
--
-- The lines of a node are used in their order, each behind the crash that the one before made. A line is used once its
-- node has had so many events and is up: it makes the node's next event a crash, or, where it says how many bytes are
-- kept, cuts the next event that writes a record.
use Rattle.std.specs.Prelude.{ℕ, ◌+◌, Bool, true, false, not, ◌&&◌, ◌||◌, ◌==◌, nat_le, if◌then◌else◌, IsTrue, IsFalse, min}
use Rattle.std.specs.Prelude.{List, [], ◌∷◌, ◌++◌, length, count_by, Option, Some, None, is_some, slice_get}
use Rattle.fab_net.specs.declared.event.Inner.{Inner}
use Rattle.fab_net.specs.declared.event.Inner.TheVariants as i
use Rattle.fab_world.specs.Machine.{Setting, World, Move, Form, Does, Cuts, Fails, Posts, Crashes, Never, form_of, node_of, act, record_at, may, enabled, is_running, step, at_start}
use Rattle.fab_world.specs.Serial.{world_of}

-- behind how many events the node crashes, and how many bytes of a record stay, if it is one record's cut
pub record CrashLine : Type 0 where
  pub after : ℕ
  pub keep : Option ℕ

-- Begin, Resume, Deliver and Idle are counted, cut ones too
abbrev pub counts : Inner → Bool
counts (i.Recover n) = false
counts (i.Begin n) = true
counts (i.Resume n) = true
counts (i.Deliver a b) = true
counts (i.Idle n s) = true

abbrev pub is_counted : ℕ → Form → Bool
is_counted n (Does e) = counts e && (node_of e == n)
is_counted n (Cuts keep e) = counts e && (node_of e == n)
is_counted n (Fails keep e) = counts e && (node_of e == n)
is_counted n (Posts h) = false
is_counted n (Crashes m) = false
is_counted n Never = false

-- the crashes that lines make: those without a mark
abbrev pub is_crash : ℕ → Form → Bool
is_crash n (Crashes m) = m == n
is_crash n (Cuts keep e) = node_of e == n
is_crash n (Does e) = false
is_crash n (Fails keep e) = false
is_crash n (Posts h) = false
is_crash n Never = false

abbrev pub events_of : ℕ → List Move → ℕ
events_of n moves = count_by (λ move. is_counted n (form_of move)) moves

abbrev pub crashes_of : ℕ → List Move → ℕ
crashes_of n moves = count_by (λ move. is_crash n (form_of move)) moves

abbrev pub if_after : ℕ → Option CrashLine → Option CrashLine
if_after events None = None
if_after events (Some line) = if nat_le line.after events then Some line else None

-- to whom the next post goes
abbrev pub target_in : List (ℕ × List ℕ) → ℕ
target_in [] = 0
target_in (post ∷ more) = post.0

module _ (S : Setting) (lines : ℕ → List CrashLine) where
  -- the line that is used now: the next one of an honest node, where it has had its events and is up
  abbrev pub line_now : World → List Move → ℕ → Option CrashLine
  line_now w moves n = if is_running S w n then if_after (events_of n moves) (slice_get (lines n) (crashes_of n moves)) else None

  abbrev pub crashes_by : Option CrashLine → Bool
  crashes_by None = false
  crashes_by (Some line) = not (is_some line.keep)

  abbrev pub keeps_by : Option CrashLine → Option ℕ
  keeps_by None = None
  keeps_by (Some line) = line.keep

  -- the node's crash is due, and then no other event of it
  abbrev pub must_crash : World → List Move → ℕ → Bool
  must_crash w moves n = crashes_by (line_now w moves n)

  -- how many bytes of the record of an event are kept, where a line cuts it
  abbrev pub cut_at : World → List Move → Inner → Option ℕ
  cut_at w moves e = if is_some (act S w e).entry then keeps_by (line_now w moves (node_of e)) else None

  abbrev pub is_cut_to : Option ℕ → ℕ → ℕ → Bool
  is_cut_to None keep most = false
  is_cut_to (Some bytes) keep most = keep == min bytes most

  -- a post is an event of its target
  abbrev pub target : World → ℕ → ℕ
  target w h = target_in (w.posts h)

  -- what may come next where the lines are kept: ordinary events, as the lines have them, and the crashes that lines make
  abbrev pub is_due : World → List Move → Form → Bool
  is_due w moves (Does e) = may S w e && not (must_crash w moves (node_of e)) && not (is_some (cut_at w moves e))
  is_due w moves (Cuts keep e) = may S w e && not (must_crash w moves (node_of e)) && is_cut_to (cut_at w moves e) keep (length (record_at S w e))
  is_due w moves (Posts h) = enabled S w (Posts h) && not (must_crash w moves (target w h))
  is_due w moves (Crashes n) = is_running S w n && must_crash w moves n
  is_due w moves (Fails keep e) = false
  is_due w moves Never = false

  -- What may follow in a run that keeps the lines: what is due; an evaluation that was under way when the line's time came,
  -- which is taken before the crash; and, with a mark, such an event whose journal failed.
  abbrev pub goes_on : World → List Move → Inner → Bool
  goes_on w moves (i.Resume n) = may S w (i.Resume n)
  goes_on w moves e = may S w e && not (must_crash w moves (node_of e))

  abbrev pub may_follow : World → List Move → Form → Bool
  may_follow w moves (Does e) = goes_on w moves e && not (is_some (cut_at w moves e))
  may_follow w moves (Fails keep e) = goes_on w moves e && enabled S w (Fails keep e)
  may_follow w moves form = is_due w moves form

  -- a run that keeps the lines, behind what was done before
  abbrev pub keeps_lines : World → List Move → List Move → Bool
  keeps_lines w before [] = true
  keeps_lines w before (move ∷ moves) = may_follow w before (form_of move) && keeps_lines (step S w move) (before ++ move ∷ []) moves

  -- nothing is due behind a run
  abbrev pub IsOver : List Move → Type 0
  IsOver moves = (form : Form) → IsFalse (is_due (world_of S moves) moves form)

  abbrev pub KeepsLines : List Move → Type 0
  KeepsLines moves = IsTrue (keeps_lines (at_start S) [] moves)
