-- Runs of a small setting: what they release to a set of nodes, and that the public replay of it is what was sent into the set.
use Rattle.std.proofs.Common.{◌≡◌, ℕ, true, false, List, [], ◌∷◌, ◌++◌, map, pos, Option, Some, None, refl, ◌==◌, ◌||◌}
use Rattle.fab_base.specs.declared.object.Object.{Object as Thing}
use Rattle.fab_base.specs.declared.object.Tid.{Tid}
use Rattle.fab_base.specs.declared.object.Value.{Value}
use Rattle.fab_base.specs.declared.object.Value.TheVariants.{Int}
use Rattle.fab_base.specs.declared.message.Message.{Message}
use Rattle.fab_base.specs.declared.message.Message.TheVariants.{Fetch, Object, Deny, Prepare, Vote, Commit, Abort, Boot, Inquire}
use Rattle.fab_base.specs.declared.message.Answer.TheVariants.{Yes, OldTid, Rights as NoRights}
use Rattle.fab_base.specs.declared.message.Why.TheVariants.{Missing as Lacking}
use Rattle.fab_base.specs.FlatMap.{FlatMap, get, put}
use Rattle.fab_base.specs.MessageSpelling.{spelled}
use Rattle.fab_language.specs.declared.ending.Ending.TheVariants.{Ended, Missing}
use Rattle.fab_language.specs.Meaning.{Meant}
use Rattle.fab_net.specs.declared.event.Event.TheVariants as e
use Rattle.fab_net.specs.declared.event.Inner.TheVariants as i
use Rattle.fab_protocol.specs.Caches.{cached_row}
use Rattle.fab_protocol.specs.Stores.{shelf_of}
use Rattle.fab_protocol.specs.Versions.{Row}
use Rattle.fab_protocol.proofs.Toy.{account, box, holding, accounts, attempt, rights}
use Rattle.fab_world.specs.Workers.{kept_of}
use Rattle.fab_world.specs.Machine.{Setting, Move}
use Rattle.fab_world.specs.Serial.{world_of}
use Rattle.fab_world.proofs.Toy.{amount, setting, means, no_posts, posts_of, plain, is_run, is_hostile, both_written, transfers, until_prepare, until_applied}
use Rattle.fab_release.specs.declared.release.Release.{Release}
use Rattle.fab_release.specs.declared.release.Release.TheVariants as r
use Rattle.fab_release.specs.declared.release.Released.{Released}
use Rattle.fab_release.specs.Sights.{Sight, Public}
use Rattle.fab_release.specs.Replay.{Votes, WorkerSeen, public, row_at, no_caches, decided}
use Rattle.fab_release.specs.Isolation.{released_in}

abbrev told : Release → Released
told x = record { quiet = false; release = x }

abbrev quietly : Release → Released
quietly x = record { quiet = true; release = x }

abbrev first : Tid
first = attempt 0 1 1

-- ---- a worker opens a box at a store of the set, and leaves 7 in it

abbrev boxed : ℕ → Thing
boxed n = record { class = 1; fields = Int (pos n) ∷ [] }

abbrev opened : Option Thing → FlatMap → Meant
opened None N = record { ending = Missing 0 box; map = N; written = []; touches = []; downs = []; made = [] }
opened (Some x) N = record { ending = Ended None; map = put box (boxed 7) N; written = box ∷ []; touches = (0, box) ∷ []; downs = []; made = [] }

abbrev opens : FlatMap → Meant
opens N = opened (get N box) N

-- the hostile nodes, which see boxes and each site
abbrev strangers : Sight
strangers = record { has = is_hostile; shows = λ class. class == 1; in_view = λ site. true; into_view = λ site. false }

abbrev box_messages : List Message
box_messages = Object first box 3 (boxed 2) ∷ Vote first Yes ∷ []

abbrev S : Setting
S = record (setting 0 1 0 (posts_of 4 0 box_messages) box_messages) { means = λ w request t N. opens N }

abbrev P : Public
P = record { rights = rights; cache = 0; roots = []; read = S.read; means = λ w request t known given. opens known }

abbrev opening : List Move
opening = map plain (e.Begin 0 ∷ e.Resume 0 ∷ e.Post 4 ∷ e.Deliver 4 0 ∷ e.Resume 0 ∷ e.Post 4 ∷ e.Deliver 4 0 ∷ [])

opening_is_run : is_run S opening ≡ true
unfolding kept_of shelf_of
opening_is_run = refl

opening_releases : released_in strangers S opening
    ≡ map told (r.Begin 0 1 ∷ r.Ask 0 ∷ r.Received 0 4 (spelled (Object first box 3 (boxed 2))) ∷ r.Ended 0
    ∷ r.Received 0 4 (spelled (Vote first Yes)) ∷ r.Decided 0 true ∷ [])
unfolding kept_of shelf_of
opening_releases = refl

abbrev box_sent : List (List ℕ)
box_sent =
    map spelled (Fetch first box ∷ Prepare first (record { reads = []; writes = (box, 3, boxed 7) ∷ []; creates = [] }) ∷ Commit first ∷ [])

opening_sends : (world_of S opening).sent 0 4 ≡ box_sent
unfolding kept_of shelf_of
opening_sends = refl

opening_is_replayed : public strangers P (released_in strangers S opening) 0 4 ≡ box_sent
unfolding kept_of shelf_of
opening_is_replayed = refl

-- ---- its decision is cut, and it comes back: what is quiet isn't sent, and the Commit is sent again

abbrev cut_short : List Move
cut_short =
    map plain (e.Begin 0 ∷ e.Resume 0 ∷ e.Post 4 ∷ e.Deliver 4 0 ∷ e.Resume 0 ∷ e.Post 4 ∷ e.CrashIn 24 (i.Deliver 4 0) ∷ e.Recover 0 ∷ [])

cut_is_run : is_run S cut_short ≡ true
unfolding kept_of shelf_of
cut_is_run = refl

cut_releases : released_in strangers S cut_short
    ≡ map told (r.Begin 0 1 ∷ r.Ask 0 ∷ r.Received 0 4 (spelled (Object first box 3 (boxed 2))) ∷ r.Ended 0 ∷ [])
    ++ map quietly (r.Received 0 4 (spelled (Vote first Yes)) ∷ r.Decided 0 true ∷ []) ++ map told (r.Crash 0 ∷ r.Recover 0 ∷ [])
unfolding kept_of shelf_of
cut_releases = refl

cut_is_replayed : public strangers P (released_in strangers S cut_short) 0 4 ≡ box_sent ++ spelled (Boot 2) ∷ []
unfolding kept_of shelf_of
cut_is_replayed = refl

cut_sends : (world_of S cut_short).sent 0 4 ≡ box_sent ++ spelled (Boot 2) ∷ []
unfolding kept_of shelf_of
cut_sends = refl

-- with one byte less the record is torn: the decision is a crash and no more, and the attempt is forgotten
abbrev torn : List Move
torn =
    map plain (e.Begin 0 ∷ e.Resume 0 ∷ e.Post 4 ∷ e.Deliver 4 0 ∷ e.Resume 0 ∷ e.Post 4 ∷ e.CrashIn 23 (i.Deliver 4 0) ∷ e.Recover 0 ∷ [])

torn_releases : released_in strangers S torn
    ≡ map told (r.Begin 0 1 ∷ r.Ask 0 ∷ r.Received 0 4 (spelled (Object first box 3 (boxed 2))) ∷ r.Ended 0 ∷ r.Crash 0 ∷ r.Recover 0 ∷ [])
unfolding kept_of shelf_of
torn_releases = refl

abbrev torn_sent : List (List ℕ)
torn_sent =
    map spelled (Fetch first box ∷ Prepare first (record { reads = []; writes = (box, 3, boxed 7) ∷ []; creates = [] }) ∷ Boot 2 ∷ [])

torn_is_replayed : public strangers P (released_in strangers S torn) 0 4 ≡ torn_sent
unfolding kept_of shelf_of
torn_is_replayed = refl

torn_sends : (world_of S torn).sent 0 4 ≡ torn_sent
unfolding kept_of shelf_of
torn_sends = refl

-- a record without the Ask waits for nothing, and so knows nothing of the box
without_asking : public strangers P
    (map told (r.Begin 0 1 ∷ r.Received 0 4 (spelled (Object first box 3 (boxed 2))) ∷ r.Ended 0
    ∷ r.Received 0 4 (spelled (Vote first Yes)) ∷ r.Decided 0 true ∷ [])) 0 4 ≡ []
without_asking = refl

-- ---- the second attempt finds the box in the cache

abbrev again : Tid
again = attempt 0 1 2

abbrev cached_messages : List Message
cached_messages = box_messages ++ Vote again Yes ∷ []

abbrev C : Setting
C = record (setting 0 2 1 (posts_of 4 0 cached_messages) cached_messages) { means = λ w request t N. opens N }

abbrev caching : Public
caching = record P { cache = 1; read = C.read }

abbrev twice : List Move
twice = opening ++ map plain (e.Begin 0 ∷ e.Resume 0 ∷ e.Resume 0 ∷ e.Post 4 ∷ e.Deliver 4 0 ∷ [])

twice_is_run : is_run C twice ≡ true
unfolding kept_of shelf_of
twice_is_run = refl

abbrev twice_sent : List (List ℕ)
twice_sent =
    box_sent
    ++ map spelled (Prepare again (record { reads = []; writes = (box, 4, boxed 7) ∷ []; creates = [] }) ∷ Commit again ∷ [])

twice_sends : (world_of C twice).sent 0 4 ≡ twice_sent
unfolding kept_of shelf_of
twice_sends = refl

twice_is_replayed : public strangers caching (released_in strangers C twice) 0 4 ≡ twice_sent
unfolding kept_of shelf_of
twice_is_replayed = refl

-- ---- a worker of the set transfers: the store's answers and its vote

abbrev partners : Sight
partners = record { has = λ n. is_hostile n || (n == 0); shows = λ class. true; in_view = λ site. true; into_view = λ site. false }

abbrev T : ℕ → Setting
T n = record (setting 0 1 0 no_posts (transfers first)) { roots = accounts (pos n) (pos 0) }

abbrev accounts_known : Public
accounts_known = record { rights = rights; cache = 0; roots = accounts (pos 100) (pos 0); read = (T 100).read; means = λ w request t known given. means 0 t known }

abbrev transferring : List Move
transferring = map plain (until_applied 0)

abbrev store_sent : List (List ℕ)
store_sent = map spelled (Object first (account 0) 1 (holding (pos 100)) ∷ Object first (account 1) 1 (holding (pos 0)) ∷ Vote first Yes ∷ [])

store_sends : (world_of (T 100) transferring).sent 1 0 ≡ store_sent
unfolding kept_of shelf_of
store_sends = refl

store_is_replayed : public partners accounts_known (released_in partners (T 100) transferring) 1 0 ≡ store_sent
unfolding kept_of shelf_of
store_is_replayed = refl

-- ---- the hostile nodes see no accounts: a transfer of a secret releases the same, whatever is on the accounts

abbrev secret_messages : List Message
secret_messages = transfers first ++ Object first (account 0) 1 (holding (pos 70)) ∷ both_written first 1 (pos 65) (pos 5) ∷ []

abbrev U : ℕ → Setting
U n = record (setting 0 1 0 no_posts secret_messages) { roots = accounts (pos n) (pos 0) }

abbrev secret_released : List Released
secret_released = map told (r.Begin 0 1 ∷ r.Ended 0 ∷ r.Decided 0 true ∷ [])

poor_is_run : is_run (U 70) transferring ≡ true
unfolding kept_of shelf_of
poor_is_run = refl

rich_releases : released_in strangers (U 100) transferring ≡ secret_released
unfolding kept_of shelf_of
rich_releases = refl

poor_releases : released_in strangers (U 70) transferring ≡ secret_released
unfolding kept_of shelf_of
poor_releases = refl

-- who sees the accounts is told when they are read, in which version, and when they are applied, and never what is on them
abbrev auditors : Sight
auditors = record strangers { shows = λ class. true }

audit_releases : released_in auditors (U 70) transferring
    ≡ map told (r.Begin 0 1 ∷ r.Got 0 1 ∷ r.Got 0 1 ∷ r.Ended 0 ∷ r.Decided 0 true ∷ r.Applied 1 first ∷ [])
unfolding kept_of shelf_of
audit_releases = refl

-- ---- a hostile worker asks a store to prepare what it may not write, and then an older attempt

abbrev strange : ℕ → Tid
strange n = attempt 2 1 n

abbrev strange_prepare : ℕ → Message
strange_prepare n = Prepare (strange n) (record { reads = []; writes = (account 0, 1, holding (pos 1000)) ∷ []; creates = [] })

abbrev strange_messages : List Message
strange_messages = strange_prepare 5 ∷ strange_prepare 4 ∷ []

abbrev H : Setting
H = setting 0 1 0 (posts_of 2 1 strange_messages) strange_messages

abbrev hostile_known : Public
hostile_known = record accounts_known { read = H.read; roots = [] }

abbrev asking : List Move
asking = map plain (e.Post 2 ∷ e.Deliver 2 1 ∷ e.Post 2 ∷ e.Deliver 2 1 ∷ [])

asking_releases : released_in strangers H asking
    ≡ map told (r.Received 1 2 (spelled (strange_prepare 5)) ∷ r.Voted 1 (strange 5) (NoRights (account 0))
    ∷ r.Received 1 2 (spelled (strange_prepare 4)) ∷ r.Voted 1 (strange 4) (OldTid (strange 5)) ∷ [])
unfolding kept_of shelf_of
asking_releases = refl

abbrev votes_sent : List (List ℕ)
votes_sent = map spelled (Vote (strange 5) (NoRights (account 0)) ∷ Vote (strange 4) (OldTid (strange 5)) ∷ [])

asking_sends : (world_of H asking).sent 1 2 ≡ votes_sent
unfolding kept_of shelf_of
asking_sends = refl

asking_is_replayed : public strangers hostile_known (released_in strangers H asking) 1 2 ≡ votes_sent
unfolding kept_of shelf_of
asking_is_replayed = refl

-- ---- what is read at a store outside the set decides what is sent into it

abbrev with_amount : Thing → FlatMap → FlatMap
with_amount x N = put box (record { class = 1; fields = Int (amount x) ∷ [] }) N

abbrev lent : Option Thing → Option Thing → FlatMap → Meant
lent None y N = record { ending = Missing 0 (account 0); map = N; written = []; touches = []; downs = []; made = [] }
lent (Some x) None N = record { ending = Missing 1 box; map = N; written = []; touches = (0, account 0) ∷ []; downs = (2, Int (amount x)) ∷ []; made = [] }
lent (Some x) (Some y) N = record {
  ending = Ended None;
  map = with_amount x N;
  written = box ∷ [];
  touches = (0, account 0) ∷ (1, box) ∷ [];
  downs = (2, Int (amount x)) ∷ [];
  made = [];
}

abbrev lends : FlatMap → Meant
lends N = lent (get N (account 0)) (get N box) N

abbrev lent_messages : List Message
lent_messages =
    Fetch first (account 0) ∷ Object first (account 0) 1 (holding (pos 100)) ∷ Object first box 3 (boxed 2)
    ∷ Prepare first (record { reads = (account 0, 1) ∷ []; writes = []; creates = [] }) ∷ Vote first Yes ∷ []

abbrev L : Setting
L = record (setting 0 1 0 (posts_of 4 0 box_messages) lent_messages) { means = λ w request t N. lends N }

abbrev lending : List Move
lending =
    map plain (e.Begin 0 ∷ e.Resume 0 ∷ e.Deliver 0 1 ∷ e.Deliver 1 0 ∷ e.Resume 0 ∷ e.Post 4 ∷ e.Deliver 4 0 ∷ e.Resume 0
    ∷ e.Deliver 0 1 ∷ e.Deliver 1 0 ∷ e.Post 4 ∷ e.Deliver 4 0 ∷ [])

lending_is_run : is_run L lending ≡ true
unfolding kept_of shelf_of
lending_is_run = refl

abbrev lent_sent : List (List ℕ)
lent_sent =
    map spelled (Fetch first box ∷ Prepare first (record { reads = []; writes = (box, 3, boxed 100) ∷ []; creates = [] }) ∷ Commit first ∷ [])

lending_sends : (world_of L lending).sent 0 4 ≡ lent_sent
unfolding kept_of shelf_of
lending_sends = refl

-- who sees the account is told of it when it is read, and finds what is on it among the roots
abbrev auditors_know : Public
auditors_know = record { rights = rights; cache = 0; roots = L.roots; read = L.read; means = λ w request t known given. lends known }

lending_releases : released_in auditors L lending
    ≡ map told (r.Begin 0 1 ∷ r.Got 0 1 ∷ r.Ask 0 ∷ r.Received 0 4 (spelled (Object first box 3 (boxed 2))) ∷ r.Ended 0
    ∷ r.Received 0 4 (spelled (Vote first Yes)) ∷ r.Decided 0 true ∷ [])
unfolding kept_of shelf_of
lending_releases = refl

lending_is_replayed : public auditors auditors_know (released_in auditors L lending) 0 4 ≡ lent_sent
unfolding kept_of shelf_of
lending_is_replayed = refl

-- without the Got the account isn't known, and nothing is asked for
without_got : public auditors auditors_know
    (map told (r.Begin 0 1 ∷ r.Ask 0 ∷ r.Received 0 4 (spelled (Object first box 3 (boxed 2))) ∷ r.Ended 0
    ∷ r.Received 0 4 (spelled (Vote first Yes)) ∷ r.Decided 0 true ∷ [])) 0 4 ≡ []
without_got = refl

-- who sees boxes alone is told the amount as it is downgraded into view, and nothing of the account
abbrev borrowers : Sight
borrowers = record strangers { in_view = λ site. site == 1; into_view = λ site. site == 2 }

abbrev borrowed : List Value → Option Thing → FlatMap → Meant
borrowed given None N = record { ending = Missing 1 box; map = N; written = []; touches = []; downs = []; made = [] }
borrowed given (Some y) N = record {
  ending = Ended None;
  map = put box (record { class = 1; fields = given }) N;
  written = box ∷ [];
  touches = (1, box) ∷ [];
  downs = [];
  made = [];
}

abbrev borrowers_know : Public
borrowers_know = record { rights = rights; cache = 0; roots = []; read = L.read; means = λ w request t known given. borrowed given (get known box) known }

borrowing_releases : released_in borrowers L lending
    ≡ map told (r.Begin 0 1 ∷ r.Down 0 (Int (pos 100)) ∷ r.Ask 0 ∷ r.Received 0 4 (spelled (Object first box 3 (boxed 2))) ∷ r.Ended 0
    ∷ r.Received 0 4 (spelled (Vote first Yes)) ∷ r.Decided 0 true ∷ [])
unfolding kept_of shelf_of
borrowing_releases = refl

borrowing_is_replayed : public borrowers borrowers_know (released_in borrowers L lending) 0 4 ≡ lent_sent
unfolding kept_of shelf_of
borrowing_is_replayed = refl

-- ---- a store of the set votes No, denies, or is silent: the attempt is over, and what was prepared is aborted

abbrev refusing : Message → List Message
refusing last = Object first box 3 (boxed 2) ∷ last ∷ []

abbrev R : List Message → Setting
R messages = record (setting 0 1 0 (posts_of 4 0 messages) messages) { means = λ w request t N. opens N }

abbrev knowing : List Message → Public
knowing messages = record P { read = (R messages).read }

abbrev refused_vote : List Message
refused_vote = refusing (Vote first (NoRights box))

refused_is_run : is_run (R refused_vote) opening ≡ true
unfolding kept_of shelf_of
refused_is_run = refl

abbrev refused_sent : List (List ℕ)
refused_sent =
    map spelled (Fetch first box ∷ Prepare first (record { reads = []; writes = (box, 3, boxed 7) ∷ []; creates = [] }) ∷ Abort first ∷ [])

refused_releases : released_in strangers (R refused_vote) opening
    ≡ map told (r.Begin 0 1 ∷ r.Ask 0 ∷ r.Received 0 4 (spelled (Object first box 3 (boxed 2))) ∷ r.Ended 0
    ∷ r.Received 0 4 (spelled (Vote first (NoRights box))) ∷ r.Decided 0 false ∷ [])
unfolding kept_of shelf_of
refused_releases = refl

refused_sends : (world_of (R refused_vote) opening).sent 0 4 ≡ refused_sent
unfolding kept_of shelf_of
refused_sends = refl

refused_is_replayed : public strangers (knowing refused_vote) (released_in strangers (R refused_vote) opening) 0 4 ≡ refused_sent
unfolding kept_of shelf_of
refused_is_replayed = refl

abbrev denied : List Message
denied = Deny first box Lacking ∷ []

abbrev denying : List Move
denying = map plain (e.Begin 0 ∷ e.Resume 0 ∷ e.Post 4 ∷ e.Deliver 4 0 ∷ [])

denied_is_run : is_run (R denied) denying ≡ true
unfolding kept_of shelf_of
denied_is_run = refl

denied_releases : released_in strangers (R denied) denying
    ≡ map told (r.Begin 0 1 ∷ r.Ask 0 ∷ r.Received 0 4 (spelled (Deny first box Lacking)) ∷ r.Decided 0 false ∷ [])
unfolding kept_of shelf_of
denied_releases = refl

denied_is_replayed : public strangers (knowing denied) (released_in strangers (R denied) denying) 0 4 ≡ (world_of (R denied) denying).sent 0 4
unfolding kept_of shelf_of
denied_is_replayed = refl

abbrev waiting : List Move
waiting = map plain (e.Begin 0 ∷ e.Resume 0 ∷ e.Post 4 ∷ e.Deliver 4 0 ∷ e.Resume 0 ∷ e.Idle 0 4 ∷ [])

abbrev silent : List Message
silent = Object first box 3 (boxed 2) ∷ []

waiting_is_run : is_run (R silent) waiting ≡ true
unfolding kept_of shelf_of
waiting_is_run = refl

waiting_sends : (world_of (R silent) waiting).sent 0 4 ≡ refused_sent
unfolding kept_of shelf_of
waiting_sends = refl

waiting_is_replayed : public strangers (knowing silent) (released_in strangers (R silent) waiting) 0 4 ≡ refused_sent
unfolding kept_of shelf_of
waiting_is_replayed = refl

-- ---- a store that has voted goes down before it hears how it went: back again it asks the worker of the set

abbrev Q : Setting
Q = record (setting 0 1 0 no_posts (Boot 2 ∷ Inquire first ∷ transfers first)) { roots = accounts (pos 100) (pos 0) }

abbrev questions_known : Public
questions_known = record accounts_known { read = Q.read }

abbrev inquiring : List Move
inquiring = map plain (until_prepare 0 ++ e.Deliver 0 1 ∷ e.Crash 1 ∷ e.Recover 1 ∷ e.Deliver 1 0 ∷ e.Deliver 0 1 ∷ [])

inquiring_is_run : is_run Q inquiring ≡ true
unfolding kept_of shelf_of
inquiring_is_run = refl

inquiring_sends : (world_of Q inquiring).sent 1 0 ≡ store_sent ++ spelled (Inquire first) ∷ []
unfolding kept_of shelf_of
inquiring_sends = refl

inquiring_is_replayed : public partners questions_known (released_in partners Q inquiring) 1 0 ≡ store_sent ++ spelled (Inquire first) ∷ []
unfolding kept_of shelf_of
inquiring_is_replayed = refl

-- the worker of the set comes back instead, and its Boot frees what was prepared: nobody is asked
abbrev rebooted : List Move
rebooted = map plain (until_prepare 0 ++ e.Deliver 0 1 ∷ e.Crash 0 ∷ e.Recover 0 ∷ e.Deliver 0 1 ∷ e.Crash 1 ∷ e.Recover 1 ∷ [])

rebooted_is_run : is_run Q rebooted ≡ true
unfolding kept_of shelf_of
rebooted_is_run = refl

rebooted_sends : (world_of Q rebooted).sent 1 0 ≡ store_sent
unfolding kept_of shelf_of
rebooted_sends = refl

rebooted_is_replayed : public partners questions_known (released_in partners Q rebooted) 1 0 ≡ store_sent
unfolding kept_of shelf_of
rebooted_is_replayed = refl

-- a record without the Boot would have it asked
without_boot : public partners questions_known
    (map told (r.Received 1 0 (spelled (both_written first 1 (pos 95) (pos 5))) ∷ r.Voted 1 first Yes ∷ r.Crash 1 ∷ r.Recover 1 ∷ [])) 1 0
    ≡ map spelled (Vote first Yes ∷ Inquire first ∷ [])
unfolding kept_of shelf_of
without_boot = refl

-- ---- of two stores of a set each has a cache of its own, here with room for one object

abbrev two_stores : Sight
two_stores = record strangers { has = λ n. (n == 1) || (n == 4) }

abbrev one_each : Public
one_each = record P { cache = 1 }

abbrev box_read : Row
box_read = (box, 3, boxed 2)

abbrev account_read : Row
account_read = (account 0, 1, holding (pos 100))

abbrev voting : WorkerSeen
voting = record {
  boot = 1;
  number = 1;
  request = 1;
  stage = Votes (record { value = None; touched = (box, 3) ∷ (account 0, 1) ∷ []; writes = []; creates = [] });
  known = box_read ∷ account_read ∷ [];
  given = [];
  commits = [];
  caches = no_caches two_stores one_each;
}

box_is_cached : cached_row (decided two_stores one_each 0 true voting).caches box ≡ Some box_read
box_is_cached = refl

account_is_cached : cached_row (decided two_stores one_each 0 true voting).caches (account 0) ≡ Some account_read
account_is_cached = refl

-- ---- a version that is told is found behind newer ones

abbrev account_written : Row
account_written = (account 0, 2, holding (pos 95))

told_is_found : row_at (account_written ∷ account_read ∷ []) (account 0) 1 ≡ account_read ∷ []
told_is_found = refl

newer_is_found : row_at (account_written ∷ account_read ∷ []) (account 0) 2 ≡ account_written ∷ []
newer_is_found = refl
