-- Where a message was sent. A report tells of deliveries and not of what was sent, but each kind of message is sent in events
-- of certain kinds alone, so its origin is the latest event before in which its sender can have sent it.
use Rattle.std.specs.Prelude.{ℕ, suc, ◌&&◌, ◌||◌, ◌==◌, not, is_some, Bool, true, false, List, [], ◌∷◌, Option, Some, None, if◌then◌else◌}
use Rattle.std.specs.Str.{bytes_eq}
use Rattle.fab_base.specs.declared.object.Oid.{Oid}
use Rattle.fab_base.specs.declared.object.Tid.{Tid}
use Rattle.fab_base.specs.declared.message.Answer.{Answer}
use Rattle.fab_base.specs.declared.message.Answer.TheVariants as a
use Rattle.fab_base.specs.declared.message.Message.{Message}
use Rattle.fab_base.specs.declared.message.Message.TheVariants as m
use Rattle.fab_base.specs.FlatMap.{is_same}
use Rattle.fab_wire.specs.Reading.{read_message}
use Rattle.fab_marks.specs.declared.shape.Sign.{Sign}
use Rattle.fab_marks.specs.declared.shape.Sign.TheVariants as s
use Rattle.fab_marks.specs.declared.moves.Move.{Move}

abbrev pub is_tid : Tid → Tid → Bool
is_tid t u = t.worker == u.worker && t.boot == u.boot && t.number == u.number

-- a Fetch of this object in this attempt; a Prepare of this attempt; a Vote on it, a yes or a no; an Inquire on it
abbrev pub fetches : Tid → Oid → Option Message → Bool
fetches t o (Some (m.Fetch u p)) = is_tid t u && is_same o p
fetches t o _ = false

abbrev pub prepares : Tid → Option Message → Bool
prepares t (Some (m.Prepare u items)) = is_tid t u
prepares t _ = false

abbrev pub is_yes : Answer → Bool
is_yes a.Yes = true
is_yes _ = false

abbrev pub votes : Bool → Tid → Option Message → Bool
votes agreed t (Some (m.Vote u answer)) = is_tid t u && (if agreed then is_yes answer else not (is_yes answer))
votes agreed t _ = false

abbrev pub inquires : Tid → Option Message → Bool
inquires t (Some (m.Inquire u)) = is_tid t u
inquires t _ = false

-- What is sent in an event, by its sign: a worker asks when it resumes; a store answers whom it hears; a worker decides at a vote, or
-- gives up at silence, and says how it decided again when it is asked and when it recovers.
abbrev pub asks_at : Sign → Bool
asks_at s.Resume = true
asks_at _ = false

abbrev pub recovers_at : Sign → Bool
recovers_at s.Recover = true
recovers_at _ = false

abbrev pub delivers_at : Sign → Bool
delivers_at s.Deliver = true
delivers_at _ = false

abbrev pub is_silence : Sign → Bool
is_silence s.Idle = true
is_silence _ = false

abbrev pub is_post : Sign → Bool
is_post s.Post = true
is_post _ = false

-- Node n is told how an attempt was decided when a vote decides it, when n inquires, and when its worker comes back; that it is given up
-- also at silence.
abbrev pub decides : ℕ → Bool → Tid → Move → Bool
decides n agreed t x =
    recovers_at x.sign || (is_silence x.sign && not agreed)
    || (delivers_at x.sign && (votes agreed t (read_message x.bytes) || (x.other == n && inquires t (read_message x.bytes))))

-- an event of the sender in which it may send this message to node n
abbrev pub may_send : ℕ → Move → Option Message → Bool
may_send n x (Some (m.Fetch t o)) = asks_at x.sign
may_send n x (Some (m.Prepare t items)) = asks_at x.sign
may_send n x (Some (m.Object t o version object)) = delivers_at x.sign && x.other == n && fetches t o (read_message x.bytes)
may_send n x (Some (m.Deny t o reason)) = delivers_at x.sign && x.other == n && fetches t o (read_message x.bytes)
may_send n x (Some (m.Vote t answer)) = delivers_at x.sign && x.other == n && prepares t (read_message x.bytes)
may_send n x (Some (m.Commit t)) = decides n true t x
may_send n x (Some (m.Abort t)) = decides n false t x
may_send n x (Some (m.Boot boot)) = recovers_at x.sign
may_send n x (Some (m.Inquire t)) = recovers_at x.sign
may_send n x None = false

-- an event in which a delivery's bytes may have been sent: a post of these bytes to its receiver, or one of its sender that wasn't cut
abbrev pub may_be_origin : Move → Option Message → Move → Bool
may_be_origin d message x =
    x.node == d.other && ((is_post x.sign && x.other == d.node && bytes_eq x.bytes d.bytes) || (not (is_some x.cut) && may_send d.node x message))

-- the row of the latest of these events, of which the first is in this row, or what was found so far
abbrev pub latest : Move → Option Message → ℕ → ℕ → List Move → ℕ
latest d message row found [] = found
latest d message row found (x ∷ xs) = latest d message (suc row) (if may_be_origin d message x then row else found) xs

-- the row in which it was sent, of the events of the window in front of it; its own row where none can have sent it
abbrev pub origin : List Move → ℕ → Move → ℕ
origin front row d = latest d (read_message d.bytes) 1 row front
