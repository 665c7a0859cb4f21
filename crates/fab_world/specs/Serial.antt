-- What a run comes to: its commits replayed one after the other, what is held, and that the two are the same for every set of distrusted nodes.
use Rattle.std.specs.Prelude.{◌≡◌, ◌↔◌, ℕ, ◌+◌, ◌<◌, ◌≤◌, ◌^◌, ◌||◌, Bool, true, false, not, IsTrue, IsFalse}
use Rattle.std.specs.Prelude.{List, [], ◌∷◌, ◌++◌, length, Option, Some, None, IsSome}
use Rattle.std.specs.List.{filter, flat_map, fold, AllByRecursion}
use Rattle.fab_base.specs.declared.object.Oid.{Oid}
use Rattle.fab_base.specs.declared.object.Object.{Object}
use Rattle.fab_base.specs.declared.object.Tid.{Tid}
use Rattle.fab_base.specs.declared.object.Value.{Value}
use Rattle.fab_base.specs.declared.message.Message.{Message}
use Rattle.fab_base.specs.MessageSpelling.{IsReadAs}
use Rattle.fab_base.specs.FieldSpelling.{IsTid, IsOid, IsObject, IsValue, sent_version}
use Rattle.fab_base.specs.FlatMap.{FlatMap, get, put_all, map_of, is_among}
use Rattle.fab_base.specs.FlatMap as flat
use Rattle.fab_language.specs.declared.ending.Ending.TheVariants.{Ended, Missing}
use Rattle.fab_language.specs.Heaps.{touched}
use Rattle.fab_language.specs.Meaning.{Meant}
use Rattle.fab_net.specs.declared.event.Inner.{Inner}
use Rattle.fab_net.specs.declared.event.Inner.TheVariants as i
use Rattle.fab_net.specs.declared.note.Commit.{Commit}
use Rattle.fab_net.specs.declared.note.Note.{Note}
use Rattle.fab_net.specs.declared.note.Note.TheVariants as note
use Rattle.fab_net.specs.declared.note.Logged.{Logged}
use Rattle.fab_rights.specs.Computed.{is_store, is_worker, may_hold, may_write, stores_in, suits}
use Rattle.fab_protocol.specs.Versions.{objects_of, is_made_in}
use Rattle.fab_protocol.specs.declared.parts.Parts.{Parts}
use Rattle.fab_world.specs.Attempts.{parts_of}
use Rattle.fab_world.specs.Machine.{Setting, World, Move, Form, Does, Cuts, Fails, Posts, Crashes, Never, form_of, at_start, held_at, kept, runs, logs, enabled}
use Rattle.fab_world.specs.Machine.{are_enabled}

-- ---- the commit list: the decisions whose records stand, of workers that aren't distrusted

abbrev pub commit_in : Note → List Commit
commit_in (note.Decided t request true answers) = record { worker = t.worker; request = request; tid = t; answers = answers } ∷ []
commit_in _ = []

abbrev pub commits_of : (ℕ → Bool) → List Logged → List Commit
commits_of D log = filter (λ c. not (D c.worker)) (flat_map (λ logged. flat_map commit_in logged.notes) log)

-- ---- serial replay, of the objects whose classes are in ex

abbrev pub within : (ℕ → Bool) → FlatMap → FlatMap
within ex rows = filter (λ row. ex row.0.class) rows

abbrev pub outside : (ℕ → Bool) → FlatMap → FlatMap
outside ex rows = filter (λ row. not (ex row.0.class)) rows

-- what an attempt changed
abbrev pub changes_of : Parts → FlatMap
changes_of parts = objects_of parts.writes ++ parts.creates

-- a commit is evaluated again over the map so far, and over its answers for the objects of other classes
abbrev pub again : Setting → (ℕ → Bool) → FlatMap → Commit → Meant
again S ex N c = S.means c.worker c.request c.tid (put_all (outside ex (objects_of c.answers)) N)

abbrev pub replay_one : Setting → (ℕ → Bool) → FlatMap → Commit → FlatMap
replay_one S ex N c = put_all (within ex (changes_of (parts_of c.answers (again S ex N c)))) N

abbrev pub serial_replay : Setting → (ℕ → Bool) → List Commit → FlatMap
serial_replay S ex commits = fold (replay_one S ex) (within ex S.roots) commits

-- ---- what is held of such objects at the stores that aren't distrusted

abbrev pub held_map : Setting → (ℕ → Bool) → (ℕ → Bool) → World → FlatMap
held_map S D ex w = map_of (within ex (flat_map (λ s. objects_of (held_at S w s)) (filter (λ s. not (D s)) (stores_in S.rights))))

-- ---- premises

-- what ex means for D: the hostile nodes are in D, and no node of D may write or hold an object of a class in ex
pub record Excludes (S : Setting) (D ex : ℕ → Bool) : Type 0 where
  pub hostile : (n : ℕ) → S.hostile n ≡ true → D n ≡ true
  pub unwritten : (n c : ℕ) → D n ≡ true → ex c ≡ true → IsFalse (may_write S.rights n c)
  pub unheld : (n c : ℕ) → D n ≡ true → ex c ≡ true → IsFalse (may_hold S.rights n c)

-- a name whose store may hold its class, and an object that may stand under its name, both within what messages can spell
pub record IsFitName (S : Setting) (o : Oid) : Type 0 where
  pub placed : IsTrue (may_hold S.rights o.store o.class)
  pub spelled : IsOid o

pub record IsFit (S : Setting) (row : Oid × Object) : Type 0 where
  pub name : IsFitName S row.0
  pub suited : IsTrue (suits S.rights row.0 row.1)
  pub spelled : IsObject sent_version row.1

abbrev pub AreFit : Setting → FlatMap → Type 0
AreFit S rows = AllByRecursion (IsFit S) rows

-- What a bundle gives: at most 64 nodes, each a worker or a store; classes that workers write and stores hold;
-- counts that messages can spell; roots that no attempt made; and bytes are read as the one message that they spell.
pub record IsSetting (S : Setting) : Type 0 where
  pub workers : S.rights.workers < 2 ^ 64
  pub stores : S.rights.stores < 2 ^ 64
  pub apart : (n : ℕ) → IsTrue (is_worker S.rights n) → IsFalse (is_store S.rights n)
  pub writers : (n class : ℕ) → IsTrue (may_write S.rights n class) → IsTrue (is_worker S.rights n)
  pub holders : (n class : ℕ) → IsTrue (may_hold S.rights n class) → IsTrue (is_store S.rights n)
  pub requests : (n : ℕ) → S.requests n < 2 ^ 32
  pub roots_ascend : IsTrue (flat.ascends S.roots)
  pub roots_fit : AreFit S S.roots
  pub roots_old : AllByRecursion (λ row. row.0.boot ≡ 0) S.roots
  pub read : (bytes : List ℕ) (message : Message) → (S.read bytes ≡ Some message) ↔ IsReadAs bytes message

abbrev pub NoneMadeIn : Tid → FlatMap → Type 0
NoneMadeIn t rows = AllByRecursion (λ row. IsFalse (is_made_in t row.0)) rows

-- an evaluation changes what it writes and makes
abbrev pub changes : Meant → Oid → Bool
changes meant o = is_among o meant.written || is_among o meant.made

abbrev pub SameOn : List Oid → FlatMap → FlatMap → Type 0
SameOn os N M = AllByRecursion (λ o. get N o ≡ get M o) os

-- two evaluations of an attempt end alike, touch, write and make the same, and give the same under what they change
pub record AreAlike (first second : Meant) : Type 0 where
  pub ending : first.ending ≡ second.ending
  pub touches : first.touches ≡ second.touches
  pub downs : first.downs ≡ second.downs
  pub written : first.written ≡ second.written
  pub made : first.made ≡ second.made
  pub changed : (o : Oid) → IsTrue (changes first o) → get first.map o ≡ get second.map o

-- the laws that the real meaning owes
pub record IsEvaluation (S : Setting) : Type 0 where
  -- an evaluation that ended over N does the same over what agrees with N on what it touched
  pub local : (w r : ℕ) (t : Tid) (N M : FlatMap) (v : Option Value) → NoneMadeIn t N → NoneMadeIn t M → (S.means w r t N).ending ≡ Ended v
      → SameOn (touched (S.means w r t N).touches) N M → AreAlike (S.means w r t N) (S.means w r t M)
  -- nothing else changes
  pub frame : (w r : ℕ) (t : Tid) (N : FlatMap) (o : Oid) → IsFalse (changes (S.means w r t N) o) → get (S.means w r t N).map o ≡ get N o
  -- each name stands once; what was written was touched, and what was made is of the attempt
  pub once : (w r : ℕ) (t : Tid) (N : FlatMap) → IsTrue (flat.ascends N) → IsTrue (flat.ascends (S.means w r t N).map)
  pub written : (w r : ℕ) (t : Tid) (N : FlatMap)
      → AllByRecursion (λ o. IsTrue (is_among o (touched (S.means w r t N).touches))) (S.means w r t N).written
  pub made : (w r : ℕ) (t : Tid) (N : FlatMap) → AllByRecursion (λ o. IsTrue (is_made_in t o)) (S.means w r t N).made
  -- over fitting objects: those behind it fit, and what is missing or touched has a fitting name
  pub fits : (w r : ℕ) (t : Tid) (N : FlatMap) → IsTid t → IsTrue (flat.ascends N) → AreFit S N → AreFit S (S.means w r t N).map
  pub touches : (w r : ℕ) (t : Tid) (N : FlatMap) → AreFit S N → AllByRecursion (IsFitName S) (touched (S.means w r t N).touches)
  pub missing : (w r : ℕ) (t : Tid) (N : FlatMap) (site : ℕ) (o : Oid) → IsTid t → AreFit S N → (S.means w r t N).ending ≡ Missing site o → IsFitName S o
  -- what is missing isn't there, and what was touched is
  pub absent : (w r : ℕ) (t : Tid) (N : FlatMap) (site : ℕ) (o : Oid) → (S.means w r t N).ending ≡ Missing site o → get N o ≡ None
  pub there : (w r : ℕ) (t : Tid) (N : FlatMap) → AllByRecursion (λ o. IsSome (get N o)) (touched (S.means w r t N).touches)
  -- no more than a message can spell, and no other value
  pub value : (w r : ℕ) (t : Tid) (N : FlatMap) (v : Value) → IsTid t → AreFit S N → (S.means w r t N).ending ≡ Ended (Some v) → IsValue sent_version v
  pub few_touched : (w r : ℕ) (t : Tid) (N : FlatMap) → length (touched (S.means w r t N).touches) ≤ 1024
  pub few_changed : (w r : ℕ) (t : Tid) (N : FlatMap) → length (S.means w r t N).written + length (S.means w r t N).made ≤ 256

-- ---- the statement

abbrev pub attempts_in : Inner → ℕ
attempts_in (i.Begin n) = 1
attempts_in (i.Recover n) = 1
attempts_in _ = 0

abbrev pub attempts_at : Form → ℕ
attempts_at (Does e) = attempts_in e
attempts_at (Cuts keep e) = attempts_in e
attempts_at (Fails keep e) = attempts_in e
attempts_at _ = 0

abbrev pub attempts : List Move → ℕ
attempts moves = fold (λ n move. n + attempts_at (form_of move)) 0 moves

-- a run from the start, with so few attempts that no number comes to its end
pub record IsRun (S : Setting) (moves : List Move) : Type 0 where
  pub enabled : IsTrue (are_enabled S (at_start S) moves)
  pub few : attempts moves ≤ 4000000000

abbrev pub world_of : Setting → List Move → World
world_of S moves = runs S (at_start S) moves

abbrev pub commits_in : Setting → (ℕ → Bool) → List Move → List Commit
commits_in S D moves = commits_of D (logs S (at_start S) moves)

-- whichever nodes are distrusted: what is held of the objects that they may not write is what the others' commits give, one after the other
abbrev pub IsSerial : Setting → Type 0
IsSerial S = (D ex : ℕ → Bool) (moves : List Move) → Excludes S D ex → IsRun S moves
    → held_map S D ex (world_of S moves) ≡ serial_replay S ex (commits_in S D moves)

-- each commit that is replayed ends
abbrev pub AllEnd : Setting → (ℕ → Bool) → FlatMap → List Commit → Type 0
AllEnd S ex N [] = Unit {0}
AllEnd S ex N (c ∷ cs) = ((v : Option Value) × ((again S ex N c).ending ≡ Ended v)) × AllEnd S ex (replay_one S ex N c) cs

abbrev pub IsEnding : Setting → Type 0
IsEnding S = (D ex : ℕ → Bool) (moves : List Move) → Excludes S D ex → IsRun S moves → AllEnd S ex (within ex S.roots) (commits_in S D moves)

-- of each worker the requests rise, so that each is committed once at most
abbrev pub Rise : List Commit → Type 0
Rise [] = Unit {0}
Rise (c ∷ cs) = AllByRecursion (λ d. d.worker ≡ c.worker → c.request < d.request) cs × Rise cs

abbrev pub IsOnce : Setting → Type 0
IsOnce S = (D : ℕ → Bool) (moves : List Move) → IsRun S moves → Rise (commits_in S D moves)

-- leaving out the commits of distrusted workers changes none of these objects
abbrev pub IsLeftOut : Setting → Type 0
IsLeftOut S = (D ex : ℕ → Bool) (moves : List Move) → Excludes S D ex → IsRun S moves
    → serial_replay S ex (commits_in S S.hostile moves) ≡ serial_replay S ex (commits_in S D moves)

-- ---- that a run can go on

-- what hostile nodes post, and no other node does
abbrev pub ArePosts : Setting → Type 0
ArePosts S = (h : ℕ) → S.hostile h ≡ false → S.posts h ≡ []

-- a worker that isn't hostile and hasn't failed for good, and whose session isn't through
pub record IsWaiting (S : Setting) (w : World) (n : ℕ) : Type 0 where
  pub kind : IsTrue (is_worker S.rights n)
  pub honest : S.hostile n ≡ false
  pub sound : (w.node n).failed ≡ false
  pub left : length (kept S w n).outcomes < S.requests n

-- an event that is done whole, or a post
abbrev pub IsOrdinary : Form → Type 0
IsOrdinary (Does e) = Unit {0}
IsOrdinary (Posts h) = Unit {0}
IsOrdinary (Cuts keep e) = ⊥
IsOrdinary (Fails keep e) = ⊥
IsOrdinary (Crashes n) = ⊥
IsOrdinary Never = ⊥

-- such an event may come
pub record GoesOn (S : Setting) (w : World) : Type 0 where
  pub form : Form
  pub ordinary : IsOrdinary form
  pub may : IsTrue (enabled S w form)

-- as long as a request of an honest worker has no outcome, and its node hasn't failed for good, the run can go on
abbrev pub IsLive : Setting → Type 0
IsLive S = (moves : List Move) (n : ℕ) → IsRun S moves → IsWaiting S (world_of S moves) n → GoesOn S (world_of S moves)

-- to be proved on these definitions alone
pub record Integrity (S : Setting) : Type 0 where
  pub serial : IsSerial S
  pub ends : IsEnding S
  pub once : IsOnce S
  pub left_out : IsLeftOut S

abbrev pub IsIntegrity : Type 0
IsIntegrity = (S : Setting) → IsSetting S → IsEvaluation S → Integrity S
