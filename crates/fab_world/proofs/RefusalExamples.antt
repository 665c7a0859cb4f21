-- Runs in which something is refused or fails, and what is held where a writer is distrusted.
use Rattle.std.proofs.Common.{◌≡◌, ◌⊎◌, inl, inr, ℕ, Bool, List, [], ◌∷◌, ◌++◌, map}
use Rattle.std.proofs.Common.{pos, nat_abs, None, refl, ap, arith, true, false, true≢false, ◌||◌, ◌==◌, lit≤}
use Rattle.std.proofs.lemmas.Bool.Decides.{nat_tests}
use Rattle.std.specs.List.{flat_map, range_with_len}
use Rattle.fab_base.specs.declared.object.Oid.{Oid}
use Rattle.fab_base.specs.declared.object.Tid.{Tid}
use Rattle.fab_base.specs.declared.message.Message.{Message}
use Rattle.fab_base.specs.declared.message.Message.TheVariants.{Fetch, Object, Deny, Prepare, Vote, Abort}
use Rattle.fab_base.specs.declared.message.Why.TheVariants as why
use Rattle.fab_base.specs.declared.message.Answer.TheVariants.{Stale, Locked, Rights, OldTid}
use Rattle.fab_base.specs.declared.entry.Entry.TheVariants as e
use Rattle.fab_base.specs.FlatMap.{FlatMap}
use Rattle.fab_net.specs.declared.event.Event.TheVariants.{Begin, Resume, Deliver, Post, Idle, Crash}
use Rattle.fab_net.specs.declared.event.Inner.TheVariants as i
use Rattle.fab_net.specs.declared.outcome.ReqOutcome.TheVariants.{Committed, Conflict, Silent, Denied, NodeDown, Unfinished}
use Rattle.fab_net.specs.declared.outcome.Denial.TheVariants.{IllFormed}
use Rattle.fab_rights.specs.Computed.{may_write, may_hold}
use Rattle.fab_protocol.specs.Stores.{shelf_of}
use Rattle.fab_world.specs.Workers.{kept_of, Fetching}
use Rattle.fab_world.specs.Machine.{Setting, Move, Does, enabled, held_at, outcome, failure}
use Rattle.fab_base.specs.MessageSpelling.{spelled}
use Rattle.fab_world.specs.Serial.{Excludes, IsRun, held_map, serial_replay, commits_in, world_of}
use Rattle.fab_protocol.proofs.Toy.{account, box, holding, accounts, attempt, rights}
use Rattle.fab_world.proofs.Toy.{amount, is_hostile}
use Rattle.fab_world.proofs.Toy.{setting, no_posts, posts_of, plain, is_run, is_account, fetches, both_written}
use Rattle.fab_world.proofs.Toy.{commits, transfers, until_prepare, until_applied}

-- ---- two workers that move 5: the slower one's first attempt is stale, and its second commits

abbrev first : Tid
first = attempt 0 1 1

abbrev second : Tid
second = attempt 0 1 2

abbrev other : Tid
other = attempt 3 1 1

abbrev stale : List Message
stale = Vote first (Stale (account 0) 2) ∷ Abort first ∷ []

abbrev again : List Message
again = fetches second (account 0) 2 (pos 95) ++ fetches second (account 1) 2 (pos 5) ++ both_written second 2 (pos 90) (pos 10) ∷ commits second

abbrev S : Setting
S = setting 0 1 0 no_posts (transfers first ++ transfers other ++ stale ++ again)

abbrev refused : List Move
refused = map plain (until_prepare 0 ++ until_applied 3 ++ Deliver 0 1 ∷ Deliver 1 0 ∷ [])

refused_is_run : is_run S refused ≡ true
unfolding kept_of shelf_of
refused_is_run = refl

stale_vote : (world_of S refused).sent 1 0
    ≡ map spelled (Object first (account 0) 1 (holding (pos 100)) ∷ Object first (account 1) 1 (holding (pos 0)) ∷ Vote first (Stale (account 0) 2) ∷ [])
unfolding kept_of shelf_of
stale_vote = refl

one_try : ((world_of S refused).node 0).attempt.tries ≡ 1
unfolding kept_of shelf_of
one_try = refl

abort_waits : (world_of S refused).queue 0 1 ≡ spelled (Abort first) ∷ []
unfolding kept_of shelf_of
abort_waits = refl

abbrev retried : List Move
retried = refused ++ map plain (Deliver 0 1 ∷ until_applied 0)

retried_is_run : is_run S retried ≡ true
unfolding kept_of shelf_of
retried_is_run = refl

retry_commits : outcome S (world_of S retried) 0 1 ≡ Committed second None
unfolding kept_of shelf_of
retry_commits = refl

retry_is_held : held_map S is_hostile is_account (world_of S retried) ≡ accounts (pos 90) (pos 10)
unfolding kept_of shelf_of
retry_is_held = refl

retry_replay : serial_replay S is_account (commits_in S is_hostile retried) ≡ accounts (pos 90) (pos 10)
unfolding kept_of shelf_of
retry_replay = refl

-- ---- while the one is prepared, the other is locked out

abbrev locked_out : List Move
locked_out = map plain (until_prepare 0 ++ until_prepare 3 ++ Deliver 0 1 ∷ Deliver 3 1 ∷ [])

locked_is_run : is_run S locked_out ≡ true
unfolding kept_of shelf_of
locked_is_run = refl

locked_vote : (world_of S locked_out).queue 1 3 ≡ spelled (Vote other (Locked first)) ∷ []
unfolding kept_of shelf_of
locked_vote = refl

-- ---- the eighth try that misses an object ends the request

abbrev far : Oid
far = account 9

abbrev tries : ℕ → List Message
tries n = flat_map (λ k. Fetch (attempt 0 1 k) far ∷ Deny (attempt 0 1 k) far why.Missing ∷ []) (range_with_len 1 n)

abbrev N : Setting
N = setting 4 1 0 no_posts (tries 8)

abbrev trying : ℕ → List Move
trying n = flat_map (λ k. map plain (Begin 0 ∷ Resume 0 ∷ Deliver 0 1 ∷ Deliver 1 0 ∷ [])) (range_with_len 1 n)

eight_is_run : is_run N (trying 8) ≡ true
unfolding kept_of shelf_of
eight_is_run = refl

eight_tries : outcome N (world_of N (trying 8)) 0 1 ≡ Conflict
unfolding kept_of shelf_of
eight_tries = refl

tries_anew : ((world_of N (trying 8)).node 0).attempt.tries ≡ 0
unfolding kept_of shelf_of
tries_anew = refl

seven_tries : outcome N (world_of N (trying 7)) 0 1 ≡ Unfinished
unfolding kept_of shelf_of
seven_tries = refl

-- ---- a hostile store: its answer is ill formed, or it is silent; what wasn't asked for is dropped

abbrev wrong : Message
wrong = Object first box 1 (holding (pos 3))

abbrev B : Setting
B = setting 3 1 0 (posts_of 4 0 (wrong ∷ [])) (wrong ∷ [])

abbrev misled : List Move
misled = map plain (Begin 0 ∷ Resume 0 ∷ Post 4 ∷ Deliver 4 0 ∷ [])

misled_is_run : is_run B misled ≡ true
unfolding kept_of shelf_of
misled_is_run = refl

ill_formed : outcome B (world_of B misled) 0 1 ≡ Denied 4 IllFormed
unfolding kept_of shelf_of
ill_formed = refl

abbrev unasked : List Move
unasked = map plain (Post 4 ∷ Begin 0 ∷ Deliver 4 0 ∷ Resume 0 ∷ [])

unasked_is_run : is_run B unasked ≡ true
unfolding kept_of shelf_of
unasked_is_run = refl

still_fetching : ((world_of B unasked).node 0).attempt.phase ≡ Fetching box
unfolding kept_of shelf_of
still_fetching = refl

abbrev Q : Setting
Q = setting 3 1 0 no_posts []

abbrev unanswered : List Move
unanswered = map plain (Begin 0 ∷ Resume 0 ∷ Idle 0 4 ∷ [])

unanswered_is_run : is_run Q unanswered ≡ true
unfolding kept_of shelf_of
unanswered_is_run = refl

-- not for the silence of a store that wasn't asked
asked_another : enabled Q (world_of Q (map plain (Begin 0 ∷ Resume 0 ∷ []))) (Does (i.Idle 0 1)) ≡ false
unfolding kept_of shelf_of
asked_another = refl

hostile_is_silent : outcome Q (world_of Q unanswered) 0 1 ≡ Silent 4
unfolding kept_of shelf_of
hostile_is_silent = refl

asked_once : (world_of Q unanswered).sent 0 4 ≡ spelled (Fetch first box) ∷ []
unfolding kept_of shelf_of
asked_once = refl

-- ---- a store whose journal fails at its vote has failed for good; the worker gives up waiting for it

abbrev T : Setting
T = setting 0 1 0 no_posts (transfers first)

abbrev silence : List Move
silence = map plain (until_prepare 0) ++ failure (i.Deliver 0 1) ∷ plain (Idle 0 1) ∷ []

silence_is_run : is_run T silence ≡ true
unfolding kept_of shelf_of
silence_is_run = refl

store_is_silent : outcome T (world_of T silence) 0 1 ≡ Silent 1
unfolding kept_of shelf_of
store_is_silent = refl

nothing_prepared : held_map T is_hostile is_account (world_of T silence) ≡ accounts (pos 100) (pos 0)
unfolding kept_of shelf_of
nothing_prepared = refl

-- not before the store has failed: its queue is not empty
no_idle_before : enabled T (world_of T (map plain (until_prepare 0))) (Does (i.Idle 0 1)) ≡ false
unfolding kept_of shelf_of
no_idle_before = refl

-- ---- a worker whose journal fails at the decision has not decided

abbrev undecided : List Move
undecided = map plain (until_prepare 0 ++ Deliver 0 1 ∷ []) ++ failure (i.Deliver 1 0) ∷ []

undecided_is_run : is_run T undecided ≡ true
unfolding kept_of shelf_of
undecided_is_run = refl

worker_is_down : outcome T (world_of T undecided) 0 1 ≡ NodeDown
unfolding kept_of shelf_of
worker_is_down = refl

prepared_for_ever : held_map T is_hostile is_account (world_of T undecided) ≡ accounts (pos 100) (pos 0)
unfolding kept_of shelf_of
prepared_for_ever = refl

-- ---- a store whose journal fails at Recover doesn't come back

abbrev lost : List Move
lost = plain (Crash 1) ∷ failure (i.Recover 1) ∷ []

lost_is_run : is_run T lost ≡ true
unfolding kept_of shelf_of
lost_is_run = refl

lost_for_good : enabled T (world_of T lost) (Does (i.Recover 1)) ≡ false
unfolding kept_of shelf_of
lost_for_good = refl

-- ---- a hostile worker's write is refused for its rights, and its tid is used up

abbrev forged : Tid
forged = attempt 2 1 1

abbrev writes_all : Message
writes_all = Prepare forged (record { reads = []; writes = (account 0, 1, holding (pos 7)) ∷ []; creates = [] })

abbrev H : Setting
H = setting 0 1 0 (posts_of 2 1 (writes_all ∷ writes_all ∷ [])) (writes_all ∷ [])

abbrev posting : List Move
posting = map plain (Post 2 ∷ Deliver 2 1 ∷ Post 2 ∷ Deliver 2 1 ∷ [])

posting_is_run : is_run H posting ≡ true
unfolding kept_of shelf_of
posting_is_run = refl

no_rights : (world_of H posting).sent 1 2 ≡ map spelled (Vote forged (Rights (account 0)) ∷ Vote forged (OldTid forged) ∷ [])
unfolding kept_of shelf_of
no_rights = refl

no_post_left : (world_of H posting).posts 2 ≡ []
unfolding kept_of shelf_of
no_post_left = refl

-- the refusal is in the store's journal, once
refused_once : ((world_of H posting).node 1).entries ≡ e.Refused forged ∷ []
unfolding kept_of shelf_of
refused_once = refl

unchanged : held_at H (world_of H posting) 1 ≡ (account 0, 1, holding (pos 100)) ∷ (account 1, 1, holding (pos 0)) ∷ []
unfolding kept_of shelf_of
unchanged = refl

-- ---- no hostile node may write or hold accounts

equal : (n m : ℕ) → (n == m) ≡ true → n ≡ m
equal n m h = grind (arith, nat_tests)

no_right : (n : ℕ) → (n ≡ 2) ⊎ (n ≡ 4) → (may_write rights n 0 ≡ false) × (may_hold rights n 0 ≡ false)
no_right n (inl e) = rw e (refl, refl)
no_right n (inr e) = rw e (refl, refl)

hostile_is : (n : ℕ) → is_hostile n ≡ true → (n ≡ 2) ⊎ (n ≡ 4)
hostile_is n h =
    elim (n == 2) as (λ b. (n == 2) ≡ b → (b || (n == 4)) ≡ true → (n ≡ 2) ⊎ (n ≡ 4)) [
      | true ↦ λ e g. inl (equal n 2 e)
      | false ↦ λ e g. inr (equal n 4 g)
    ] refl h

accounts_exclude : Excludes T is_hostile is_account
accounts_exclude = record {
  hostile = λ n h. h;
  unwritten = λ n c h e. rw (equal c 0 e) (no_right n (hostile_is n h)).0;
  unheld = λ n c h e. rw (equal c 0 e) (no_right n (hostile_is n h)).1;
}

-- ---- where a writer of the class is distrusted, what is held is not the others' replay

abbrev distrusts_writer : ℕ → Bool
distrusts_writer n = is_hostile n || (n == 0)

not_excluded : Excludes T distrusts_writer is_account → ⊥
not_excluded h = true≢false (h.unwritten 0 0 refl refl)

abbrev committed : List Move
committed = map plain (until_applied 0)

committed_is_run : IsRun T committed
unfolding kept_of shelf_of
committed_is_run = record { enabled = refl; few = lit≤ tt }

abbrev in_first : FlatMap → ℕ
in_first [] = 0
in_first (row ∷ rows) = nat_abs (amount row.1)

in_first_held : in_first (held_map T distrusts_writer is_account (world_of T committed)) ≡ 95
unfolding kept_of shelf_of
in_first_held = refl

in_first_replayed : in_first (serial_replay T is_account (commits_in T distrusts_writer committed)) ≡ 100
unfolding kept_of shelf_of
in_first_replayed = refl

not_serial : held_map T distrusts_writer is_account (world_of T committed) ≡ serial_replay T is_account (commits_in T distrusts_writer committed) → ⊥
not_serial same = omega (arith, in_first_held, in_first_replayed, ap in_first same)
