-- Answers on the way: a Fetch without the right, an inquiry of what wasn't decided, and an object of a store that wasn't asked.
use Rattle.std.proofs.Common.{◌≡◌, List, [], ◌∷◌, ◌++◌, map, pos, None, refl, true}
use Rattle.fab_base.specs.declared.object.Tid.{Tid}
use Rattle.fab_base.specs.declared.message.Message.{Message}
use Rattle.fab_base.specs.declared.message.Message.TheVariants.{Fetch, Object, Deny, Inquire, Abort, Boot}
use Rattle.fab_base.specs.declared.message.Why.TheVariants as why
use Rattle.fab_base.specs.declared.entry.Entry.TheVariants as e
use Rattle.fab_base.specs.MessageSpelling.{spelled}
use Rattle.fab_base.specs.declared.object.Width.TheVariants as widths
use Rattle.fab_rights.specs.declared.rights.Shape.TheVariants as shapes
use Rattle.fab_net.specs.declared.event.Event.TheVariants.{Begin, Resume, Deliver, Post, Crash, Recover}
use Rattle.fab_net.specs.declared.outcome.ReqOutcome.TheVariants.{Committed, Denied}
use Rattle.fab_net.specs.declared.outcome.Denial.TheVariants.{Rights}
use Rattle.fab_protocol.specs.Stores.{shelf_of}
use Rattle.fab_protocol.proofs.Toy.{account, holding, accounts, attempt, rights}
use Rattle.fab_world.specs.Machine.{Setting, Move, outcome, shelf}
use Rattle.fab_world.specs.Serial.{held_map, serial_replay, commits_in, world_of}
use Rattle.fab_world.specs.Workers.{kept_of}
use Rattle.fab_world.proofs.Toy.{setting, no_posts, posts_of, plain, is_run, is_hostile, is_account, transfers, until_prepare}

abbrev first : Tid
first = attempt 0 1 1

-- ---- worker 0 may not fetch accounts: the denial ends its request

abbrev barred : Setting
barred = record (setting 0 1 0 no_posts (Fetch first (account 0) ∷ Deny first (account 0) why.Rights ∷ [])) {
  rights = record rights { classes = record { fetchers = 8; writers = 9; holders = 2; fields = shapes.Number widths.Int ∷ [] } ∷ [] };
}

abbrev denied : List Move
denied = map plain (Begin 0 ∷ Resume 0 ∷ Deliver 0 1 ∷ Deliver 1 0 ∷ [])

denied_is_run : is_run barred denied ≡ true
unfolding kept_of shelf_of
denied_is_run = refl

denied_for_rights : outcome barred (world_of barred denied) 0 1 ≡ Denied 1 Rights
unfolding kept_of shelf_of
denied_for_rights = refl

denial_is_kept : ((world_of barred denied).node 0).entries ≡ e.Closed 1 4 1 ∷ []
unfolding kept_of shelf_of
denial_is_kept = refl

-- ---- a hostile worker is told no account

abbrev theirs : Tid
theirs = attempt 2 1 1

abbrev P : Setting
P = setting 0 1 0 (posts_of 2 1 (Fetch theirs (account 0) ∷ [])) (Fetch theirs (account 0) ∷ [])

abbrev prying : List Move
prying = map plain (Post 2 ∷ Deliver 2 1 ∷ [])

prying_is_run : is_run P prying ≡ true
unfolding kept_of shelf_of
prying_is_run = refl

told_nothing : (world_of P prying).sent 1 2 ≡ spelled (Deny theirs (account 0) why.Rights) ∷ []
unfolding kept_of shelf_of
told_nothing = refl

-- ---- a worker that crashed before its decision tells a store that asks to abort

abbrev Q : Setting
Q = setting 0 1 0 no_posts (Boot 2 ∷ Inquire first ∷ Abort first ∷ transfers first)

-- the store has prepared, and votes; both crash, and the Boot of the worker is lost
abbrev asking : List Move
asking = map plain (until_prepare 0 ++ Deliver 0 1 ∷ Crash 0 ∷ Recover 0 ∷ Crash 1 ∷ Recover 1 ∷ Deliver 1 0 ∷ [])

abbrev asked : List Move
asked = asking ++ plain (Deliver 0 1) ∷ []

asked_is_run : is_run Q asked ≡ true
unfolding kept_of shelf_of
asked_is_run = refl

answered_with_abort : (world_of Q asking).queue 0 1 ≡ spelled (Abort first) ∷ []
unfolding kept_of shelf_of
answered_with_abort = refl

released : ((world_of Q asked).node 1).entries
    ≡ e.Prepared first (record { reads = []; writes = (account 0, 1, holding (pos 95)) ∷ (account 1, 1, holding (pos 5)) ∷ []; creates = [] })
    ∷ e.Released first ∷ []
unfolding kept_of shelf_of
released = refl

none_is_prepared : (shelf Q (world_of Q asked) 1).prepared ≡ []
unfolding kept_of shelf_of
none_is_prepared = refl

held_as_before : held_map Q is_hostile is_account (world_of Q asked) ≡ accounts (pos 100) (pos 0)
unfolding kept_of shelf_of
held_as_before = refl

replayed_as_before : serial_replay Q is_account (commits_in Q is_hostile asked) ≡ accounts (pos 100) (pos 0)
unfolding kept_of shelf_of
replayed_as_before = refl

-- ---- one that crashed behind its decision knows of it in its next boot, and tells a store that asks to commit

-- the Commit, the one of the recovery and the Boot are lost
abbrev knowing : List Move
knowing = map plain (until_prepare 0 ++ Deliver 0 1 ∷ Deliver 1 0 ∷ Crash 1 ∷ Crash 0 ∷ Recover 0 ∷ [])

abbrev told : List Move
told = knowing ++ map plain (Recover 1 ∷ Deliver 1 0 ∷ Deliver 0 1 ∷ [])

told_is_run : is_run Q told ≡ true
unfolding kept_of shelf_of
told_is_run = refl

still_decided : held_map Q is_hostile is_account (world_of Q knowing) ≡ accounts (pos 95) (pos 5)
unfolding kept_of shelf_of
still_decided = refl

applied : ((world_of Q told).node 1).entries
    ≡ e.Prepared first (record { reads = []; writes = (account 0, 1, holding (pos 95)) ∷ (account 1, 1, holding (pos 5)) ∷ []; creates = [] })
    ∷ e.Applied first ∷ []
unfolding kept_of shelf_of
applied = refl

told_is_held : held_map Q is_hostile is_account (world_of Q told) ≡ accounts (pos 95) (pos 5)
unfolding kept_of shelf_of
told_is_held = refl

told_is_replayed : serial_replay Q is_account (commits_in Q is_hostile told) ≡ accounts (pos 95) (pos 5)
unfolding kept_of shelf_of
told_is_replayed = refl

-- ---- the Fetch went to store 1, and store 4 answers

abbrev wrong : Message
wrong = Object first (account 0) 1 (holding (pos 500))

abbrev W : Setting
W = setting 0 1 0 (posts_of 4 0 (wrong ∷ [])) (wrong ∷ transfers first)

abbrev fetching : List Move
fetching = map plain (Begin 0 ∷ Resume 0 ∷ [])

abbrev misled : List Move
misled = fetching ++ map plain (Post 4 ∷ Deliver 4 0 ∷ [])

attempt_as_before : ((world_of W misled).node 0).attempt ≡ ((world_of W fetching).node 0).attempt
unfolding kept_of shelf_of
attempt_as_before = refl

-- the attempt goes on to its commit as if nothing had come
abbrev on_to_commit : List Move
on_to_commit = misled ++ map plain (
    Deliver 0 1 ∷ Deliver 1 0 ∷ Resume 0 ∷ Deliver 0 1 ∷ Deliver 1 0 ∷ Resume 0 ∷ Deliver 0 1 ∷ Deliver 1 0 ∷ Deliver 0 1 ∷ [])

on_to_commit_is_run : is_run W on_to_commit ≡ true
unfolding kept_of shelf_of
on_to_commit_is_run = refl

commits_all_the_same : outcome W (world_of W on_to_commit) 0 1 ≡ Committed first None
unfolding kept_of shelf_of
commits_all_the_same = refl

held_all_the_same : held_map W is_hostile is_account (world_of W on_to_commit) ≡ accounts (pos 95) (pos 5)
unfolding kept_of shelf_of
held_all_the_same = refl

replayed_all_the_same : serial_replay W is_account (commits_in W is_hostile on_to_commit) ≡ accounts (pos 95) (pos 5)
unfolding kept_of shelf_of
replayed_all_the_same = refl
