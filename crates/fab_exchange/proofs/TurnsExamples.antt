-- What is due at which node, and what the answers of an exchange tell, computed on a small bundle: the worker 0, the store 1, and the hostile worker 2.
use Rattle.std.proofs.Common.{◌≡◌, ◌<◌, ◌==◌, ◌+◌, ℕ, zero, suc, Bool, true, false, not, cond, List, [], ◌∷◌, ◌++◌, length, map, replicate, Option, Some, None, refl, sym, ap, ◌∙◌, subst, true≢false, arith, lit<}
use Rattle.std.specs.Prelude.{codes, if◌then◌else◌, is_some, slice_index_or}
use Rattle.std.specs.List.{IsDistinct, list_any}
use Rattle.std.proofs.lemmas.Bool.{ne_eqb}
use Rattle.std.proofs.lemmas.List.{get_or-replicate, length-replicate}
use Rattle.std.proofs.lemmas.Map.Keys.{IsDistinct-from_apart}
use Rattle.fab_attempts.specs.Sessions.{requests_in}
use Rattle.fab_base.specs.declared.message.Message.TheVariants.{Boot}
use Rattle.fab_base.specs.declared.object.Tid.{Tid}
use Rattle.fab_base.specs.Faults.{Rose}
use Rattle.fab_base.specs.FlatMap.{is_same}
use Rattle.fab_base.specs.MessageSpelling.{spelled}
use Rattle.fab_eval.specs.Attempts.{is_made_in}
use Rattle.fab_eval.specs.declared.done.Done.{Done}
use Rattle.fab_eval.specs.declared.job.Job.{Job}
use Rattle.fab_net.specs.declared.event.Event.{Event}
use Rattle.fab_net.specs.declared.event.Event.TheVariants as e
use Rattle.fab_net.specs.declared.event.Inner.TheVariants as i
use Rattle.fab_protocol.specs.Stores.{shelf_of}
use Rattle.fab_protocol.specs.Versions.{Rows, names_of}
use Rattle.fab_rights.specs.Computed.{is_node}
use Rattle.fab_rights.specs.declared.rights.Rights.{Rights}
use Rattle.fab_tree.specs.declared.declaration.Role.{Role}
use Rattle.fab_tree.specs.declared.declaration.Role.TheVariants as roles
use Rattle.fab_tree.specs.declared.resolved.Asked.{Asked}
use Rattle.fab_tree.specs.declared.resolved.Crash.{Crash}
use Rattle.fab_tree.specs.declared.resolved.Post.{Post}
use Rattle.fab_tree.specs.declared.resolved.Principal.{Principal}
use Rattle.fab_tree.specs.declared.resolved.Session.{Session}
use Rattle.fab_wire.specs.Reading.{all_of, message_at, read_message}
use Rattle.fab_world.specs.Machine.{Move, Form, Does, Cuts, Posts, Never, act, form_of, kept}
use Rattle.fab_world.specs.Crashing.{crashes_of, events_of, goes_on}
use Rattle.fab_world.specs.Serial.{IsWaiting}
use Rattle.fab_world.specs.Workers.{kept_of}
use Rattle.fab_settings.specs.Settings.{lines_of}
use Rattle.fab_node.specs.Standing.{GivenModel, JournalModel}
use Rattle.fab_core.specs.Cores.{CoreModel, marked, setting, slot, unmarked, world_by}
use Rattle.fab_core.specs.Telling.{JournalsGain}
use Rattle.fab_core.specs.Starts.{given_by}
use Rattle.fab_core.specs.declared.applied.Applied.TheVariants as a
use Rattle.fab_core.proofs.Tables.{node_below}
use Rattle.fab_exchange.specs.Dues.{comes, crashes, form_at, found_at, is_some_due, own_at, posts, posts_to}
use Rattle.fab_exchange.specs.Exchanges.{AreCounts, IsMarked, has_mark, none_yet}
use Rattle.fab_exchange.specs.Tallies.{counted_in, crashed_in}
use Rattle.fab_exchange.specs.Turns.{Acts, AreOver, Asks, ChangeAt, Ends, IsCurrent, IsFailed, IsOf, Leaves, Takes, Waits, due, follows, is_resume, node_with}
use Rattle.fab_exchange.specs.declared.counting.Count.{Count}
use Rattle.fab_exchange.specs.declared.found.Found.TheVariants as f
use Rattle.fab_exchange.proofs.Finds.{is_over, none_due}
use Rattle.fab_exchange.proofs.Owning.{gains_none, room_only}

-- ---- the bundle

abbrev principal : Role → Option ℕ → Principal
principal role node = record { role = role; name = record { text = codes "x"; at = 0 }; node = node }

abbrev rights : Rights
rights = record { workers = 5; stores = 2; classes = [] }

-- what is asked of the worker, what is posted, and the crash lines
abbrev bundle : List Asked → List Post → List Crash → GivenModel
bundle asked posts crashes =
    given_by (record {
      nodes = principal (roles.Worker false) (Some 0) ∷ principal (roles.Store false) (Some 1) ∷ principal (roles.Worker true) (Some 2) ∷ [];
      pairs = [];
      labels = [];
      classes = [];
      methods = [];
      roots = [];
      sessions = record { worker = record { number = 0; at = 0 }; requests = asked } ∷ [];
      posts = posts;
      crashes = crashes;
      cache = 0;
      schedule = [];
    }) rights

abbrev one_request : List Asked
one_request = record { request = record { worker = 0; number = 1; method = 0; args = [] }; at = 0 } ∷ []

-- the hostile worker tells the store that it has come back
abbrev one_post : List Post
one_post = record { sender = 2; receiver = 1; bytes = spelled (Boot 2) } ∷ []

abbrev after : ℕ → ℕ → Crash
after node count = record { node = node; after = count; keep = None }

abbrev cutting : ℕ → ℕ → ℕ → Crash
cutting node count bytes = record { node = node; after = count; keep = Some bytes }

abbrev behind : List Event → List Move
behind events = map unmarked events

-- the form of the first of these, and of the second
abbrev first : List Move → Form
first [] = Never
first (x ∷ more) = form_of x

abbrev second : List Move → Form
second [] = Never
second (x ∷ more) = first more

abbrev no_bytes : Option ℕ
no_bytes = None

-- all nodes behind these moves, with these journals; of which none fails
abbrev core : GivenModel → List Move → List (Option JournalModel) → CoreModel
core g moves journals = record { given = g; moves = moves; journals = journals }

none_fails : (n : ℕ) (js : List (Option JournalModel)) → ChangeAt n ⊥ js js
none_fails n js = room_only n js js (λ m. gains_none (slot js m))

below : (n : ℕ) → is_node rights n ≡ true → n < 64
below n is = node_below rights n (lit< tt) (lit< tt) is

-- ---- journals

abbrev journal : ℕ → Bool → Option JournalModel
journal faults sure = Some (record { content = []; synced = 0; room = 0; faults = faults; sure = sure })

-- that of node 1 fails
fails_once : ChangeAt 1 (IsFailed a.Cut) (None ∷ journal 0 false ∷ []) (None ∷ journal 1 false ∷ [])
fails_once = record {
  others = elsewhere;
  risen = λ cut. let rose : Rose 0 1 = omega arith in rose;
  same = λ whole. absurd (whole tt);
  sure = refl;
  never = λ sure cut. true≢false (sym sure);
}
  where
    elsewhere : (m : ℕ) → (m ≡ 1 → ⊥) → JournalsGain (slot (None ∷ journal 0 false ∷ []) m) (slot (None ∷ journal 1 false ∷ []) m)
    elsewhere zero ne = tt
    elsewhere (suc zero) ne = absurd (ne refl)
    elsewhere (suc (suc m)) ne = tt

-- not without a fault more, nor has it one more where it didn't fail
cut_without_fault : ChangeAt 1 (IsFailed a.Cut) (None ∷ journal 0 false ∷ []) (None ∷ journal 0 false ∷ []) → ⊥
cut_without_fault h = let rose = h.risen tt in omega (arith, rose)

fault_without_cut : ChangeAt 1 (IsFailed a.Whole) (None ∷ journal 0 false ∷ []) (None ∷ journal 1 false ∷ []) → ⊥
fault_without_cut h = let same = h.same (λ c. c) in omega (arith, same)

-- one that never fails doesn't
cut_of_sure_one : ChangeAt 1 (IsFailed a.Cut) (None ∷ journal 0 true ∷ []) (None ∷ journal 1 true ∷ []) → ⊥
cut_of_sure_one h = h.never refl tt

-- at another node's event it neither fails nor goes
fault_elsewhere : ChangeAt 0 (IsFailed a.Whole) (None ∷ journal 0 false ∷ []) (None ∷ journal 1 false ∷ []) → ⊥
fault_elsewhere h = let same = (h.others 1 (λ is. let n : 1 ≡ 0 = is in omega (arith, n))).faults in omega (arith, same)

gone_elsewhere : ChangeAt 0 (IsFailed a.Whole) (None ∷ journal 0 false ∷ []) (None ∷ None ∷ []) → ⊥
gone_elsewhere h = h.others 1 (λ is. let n : 1 ≡ 0 = is in omega (arith, n))

-- ---- nothing is asked and nothing posted

abbrev quiet : GivenModel
quiet = bundle [] [] []

abbrev session_of_none : Session
session_of_none = record { worker = record { number = 0; at = 0 }; requests = [] }

nothing_there : found_at quiet [] 0 ≡ None
unfolding kept_of shelf_of comes crashes form_at own_at posts posts_to
nothing_there = refl

nowhere : is_some_due quiet [] ≡ false
unfolding kept_of shelf_of comes crashes form_at own_at posts posts_to
nowhere = refl

quiet_is_over : AreOver quiet []
quiet_is_over = is_over quiet [] below nowhere

-- nobody waits without a request
quiet_waits_not : (n : ℕ) → IsWaiting (setting quiet) (world_by quiet []) n → ⊥
quiet_waits_not n h = by (0 == n) (length (kept (setting quiet) (world_by quiet []) n).outcomes) h.left
  where
    by : (b : Bool) (ended : ℕ) → ended < length (requests_in (cond b (Some session_of_none) None)) → ⊥
    by true ended h = let less : ended < 0 = h in omega (arith, less)
    by false ended h = let less : ended < 0 = h in omega (arith, less)

quiet_ends : Ends quiet [] []
quiet_ends = record { over = quiet_is_over; left = quiet_waits_not; moves = refl }

-- no node is to wait where all is over
quiet_is_no_wait : Waits quiet 0 [] [] → ⊥
quiet_is_no_wait h = true≢false (sym h.some.due ∙ quiet_is_over h.some.form)

-- without a line nothing is cut
uncut : (b : Bool) → not (is_some (if b then no_bytes else no_bytes)) ≡ true
uncut true = refl
uncut false = refl

-- ---- a request

abbrev asked : GivenModel
asked = bundle one_request [] []

begins : found_at asked [] 0 ≡ Some (f.Does (i.Begin 0))
unfolding kept_of shelf_of comes crashes form_at own_at posts posts_to
begins = refl

evaluates : found_at asked (behind (e.Begin 0 ∷ [])) 0 ≡ Some f.Evaluation
unfolding kept_of shelf_of comes crashes form_at own_at posts posts_to
evaluates = refl

-- not at the store, which may only wait
store_has_none : found_at asked [] 1 ≡ None
unfolding kept_of shelf_of comes crashes form_at own_at posts posts_to
store_has_none = refl

store_waits : Waits asked 1 [] []
unfolding kept_of shelf_of comes crashes form_at own_at posts posts_to
store_waits = record { none = none_due asked [] below 1 store_has_none; some = record { form = Does (i.Begin 0); due = refl }; moves = refl }

worker_waits_not : Waits asked 0 [] [] → ⊥
unfolding kept_of shelf_of comes crashes form_at own_at posts posts_to
worker_waits_not h = true≢false (h.none (Does (i.Begin 0)) refl)

not_over : Ends asked [] [] → ⊥
unfolding kept_of shelf_of comes crashes form_at own_at posts posts_to
not_over h = true≢false (h.over (Does (i.Begin 0)))

-- so long the worker waits, in the machine's sense
worker_has_one_left : IsWaiting (setting asked) (world_by asked []) 0
unfolding kept_of shelf_of comes crashes form_at own_at posts posts_to
worker_has_one_left = record { kind = refl; honest = refl; sound = refl; left = lit< tt }

-- what was begun isn't marked, since that calls no journal
begins_unmarked : (js : List (Option JournalModel)) → Acts 0 (core asked [] js) (core asked (behind (e.Begin 0 ∷ [])) js)
unfolding kept_of shelf_of comes crashes form_at own_at posts posts_to
begins_unmarked js = record {
  event = e.Begin 0;
  due = refl;
  node = refl;
  came = record { applied = a.Whole; follows = refl; moves = refl; journals = none_fails 0 js };
  other = refl;
}

not_marked : (old new : List (Option JournalModel)) → Acts 0 (core asked [] old) (core asked (marked (e.Begin 0) ∷ []) new) → ⊥
unfolding kept_of shelf_of comes crashes form_at own_at posts posts_to
not_marked old new h = true≢false (sym h.came.follows ∙ sym (ap (λ ms. follows asked [] (first ms)) h.came.moves))

-- what the evaluation came to is due, and a turn doesn't take it
resume_is_due : due asked (behind (e.Begin 0 ∷ [])) (Does (i.Resume 0)) ≡ true
unfolding kept_of shelf_of comes crashes form_at own_at posts posts_to
resume_is_due = uncut (is_some (act (setting asked) (world_by asked (behind (e.Begin 0 ∷ []))) (i.Resume 0)).entry)

resume_may_follow : follows asked (behind (e.Begin 0 ∷ [])) (Does (i.Resume 0)) ≡ true
unfolding kept_of shelf_of comes crashes form_at own_at posts posts_to
resume_may_follow = uncut (is_some (act (setting asked) (world_by asked (behind (e.Begin 0 ∷ []))) (i.Resume 0)).entry)

module _ (old new : List (Option JournalModel)) where
  not_taken_so : Acts 0 (core asked (behind (e.Begin 0 ∷ [])) old) (core asked (behind (e.Begin 0 ∷ e.Resume 0 ∷ [])) new) → ⊥
  not_taken_so h = true≢false (ap (λ ms. is_resume (second ms)) h.came.moves ∙ h.other)

  nor_with_a_mark : Acts 0 (core asked (behind (e.Begin 0 ∷ [])) old) (core asked (behind (e.Begin 0 ∷ []) ++ marked (e.Resume 0) ∷ []) new) → ⊥
  nor_with_a_mark h = true≢false (ap (λ ms. is_resume (second ms)) h.came.moves ∙ h.other)

nor_cut : is_resume (form_of (unmarked (e.CrashIn 3 (i.Resume 0)))) ≡ true
nor_cut = refl

-- before it begins, no job is the worker's
no_job_yet : (job : Job) → IsCurrent asked [] 0 job → ⊥
unfolding kept_of shelf_of comes crashes form_at own_at posts posts_to
no_job_yet job h = true≢false (sym h.at_work)

not_asked_yet : (job : Job) (new : List Move) → Asks asked 0 [] new job → ⊥
not_asked_yet job new h = no_job_yet job h.current

-- behind that it is the one of its attempt, and no other
module _ (job : Job) (program : job.program.value ≡ asked.program) (request : job.request ≡ record { worker = 0; number = 1; method = 0; args = [] })
    (answers : job.answers ≡ []) where
  first_job : job.tid ≡ record { worker = 0; boot = 1; number = 1 } → IsCurrent asked (behind (e.Begin 0 ∷ [])) 0 job
  unfolding kept_of shelf_of comes crashes form_at own_at posts posts_to
  first_job tid =
      record { at_work = refl; job_is = record { evaluating = refl; program = program; request = ap Some (sym request); tid = tid; answers = answers } }

  first_asked : job.tid ≡ record { worker = 0; boot = 1; number = 1 } → Asks asked 0 (behind (e.Begin 0 ∷ [])) (behind (e.Begin 0 ∷ [])) job
  unfolding kept_of shelf_of comes crashes form_at own_at posts posts_to
  first_asked tid = record {
    comes = refl;
    calm = refl;
    current = first_job tid;
    distinct = subst (λ (found : Rows). IsDistinct is_same (names_of found)) (sym answers)
        (IsDistinct-from_apart is_same [] (λ i j d less low. absurd (omega (arith, low))));
    made_before = subst (λ (found : Rows). list_any (λ a. is_made_in job.tid a.0) found ≡ false) (sym answers) refl;
    moves = refl;
  }

  later_job : job.tid ≡ record { worker = 0; boot = 1; number = 2 } → (new : List Move) → Asks asked 0 (behind (e.Begin 0 ∷ [])) new job → ⊥
  unfolding kept_of shelf_of comes crashes form_at own_at posts posts_to
  later_job tid new h = let same : 1 ≡ 2 = ap (λ (t : Tid). t.number) (sym h.current.job_is.tid ∙ tid) in omega (arith, same)

-- ---- a job that is brought back

-- it is the current one, or no job is yet
module _ (done : Done) (program : done.job.program.value ≡ asked.program) (request : done.job.request ≡ record { worker = 0; number = 1; method = 0; args = [] })
    (answers : done.job.answers ≡ []) (tid : done.job.tid ≡ record { worker = 0; boot = 1; number = 1 }) (js : List (Option JournalModel)) where
  taken : Takes 0 done (core asked (behind (e.Begin 0 ∷ [])) js) (core asked (behind (e.Begin 0 ∷ e.Resume 0 ∷ [])) js)
  unfolding kept_of shelf_of comes crashes form_at own_at posts posts_to
  taken = record {
    current = first_job done.job program request answers tid;
    event = e.Resume 0;
    is = refl;
    may = resume_may_follow;
    came = record { applied = a.Whole; follows = resume_may_follow; moves = refl; journals = none_fails 0 js };
  }

  not_left : (new : List Move) → Leaves asked 0 done (behind (e.Begin 0 ∷ [])) new → ⊥
  not_left new h = h.stale (first_job done.job program request answers tid)

left_before : (done : Done) → Leaves asked 0 done [] []
left_before done = record { stale = no_job_yet done.job; moves = refl }

not_taken_before : (done : Done) (old new : List (Option JournalModel)) (moves : List Move) → Takes 0 done (core asked [] old) (core asked moves new) → ⊥
not_taken_before done old new moves h = no_job_yet done.job h.current

-- ---- counts

-- the worker's one event, and nothing elsewhere
abbrev one_event : List Count
one_event = record { events = 1; crashes = 0 } ∷ replicate 63 none_yet

one_counted : AreCounts (behind (e.Begin 0 ∷ [])) one_event
one_counted = record { long = ap suc (length-replicate 63 none_yet); each = each }
  where
    each : (n : ℕ) → n < 64 → slice_index_or one_event n none_yet ≡ record { events = events_of n (behind (e.Begin 0 ∷ [])); crashes = crashes_of n (behind (e.Begin 0 ∷ [])) }
    each zero low = refl
    each (suc n) low =
        get_or-replicate 63 n none_yet none_yet (omega (arith, low))
        ∙ (λ j. record { events = 0 + cond (sym (ne_eqb 0 (suc n) (λ same. omega (arith, same))) j) 1 0; crashes = 0 })

none_counted : AreCounts (behind (e.Begin 0 ∷ [])) (replicate 64 none_yet) → ⊥
none_counted h = let same : 0 ≡ 1 = ap (λ (c : Count). c.events) (h.each 0 (lit< tt)) in omega (arith, same)

too_short : AreCounts [] [] → ⊥
too_short h = let long : 0 ≡ 64 = h.long in omega (arith, long)

-- ---- a post, which is an event of its target

abbrev posted : GivenModel
posted = bundle [] one_post []

post_is_due : due posted [] (Posts 2) ≡ true
unfolding kept_of shelf_of comes crashes form_at own_at posts posts_to
post_is_due = refl

of_its_target : node_with (world_by posted []) (Posts 2) ≡ 1
of_its_target = refl

found_at_target : found_at posted [] 1 ≡ Some (f.Post 2)
unfolding kept_of shelf_of comes crashes form_at own_at posts posts_to
found_at_target = refl

not_by_itself : own_at posted [] 1 ≡ None
unfolding kept_of shelf_of comes crashes form_at own_at posts posts_to
not_by_itself = refl

not_at_sender : found_at posted [] 2 ≡ None
unfolding kept_of shelf_of comes crashes form_at own_at posts posts_to
not_at_sender = refl

counted_by_sender : is_some_due posted [] ≡ true
unfolding kept_of shelf_of comes crashes form_at own_at posts posts_to
counted_by_sender = refl

post_comes : (js : List (Option JournalModel)) → Acts 1 (core posted [] js) (core posted (behind (e.Post 2 ∷ [])) js)
unfolding kept_of shelf_of comes crashes form_at own_at posts posts_to
post_comes js = record {
  event = e.Post 2;
  due = refl;
  node = refl;
  came = record { applied = a.Whole; follows = refl; moves = refl; journals = none_fails 1 js };
  other = refl;
}

-- no journal fails in it
post_is_unmarked : (old new : List (Option JournalModel)) → Acts 1 (core posted [] old) (core posted (marked (e.Post 2) ∷ []) new) → ⊥
post_is_unmarked old new h = true≢false (sym h.came.follows ∙ sym (ap (λ ms. follows posted [] (first ms)) h.came.moves))

sender_waits : Waits posted 2 [] []
unfolding kept_of shelf_of comes crashes form_at own_at posts posts_to
sender_waits = record { none = none_due posted [] below 2 not_at_sender; some = record { form = Posts 2; due = refl }; moves = refl }

target_waits_not : Waits posted 1 [] [] → ⊥
unfolding kept_of shelf_of comes crashes form_at own_at posts posts_to
target_waits_not h = true≢false (h.none (Posts 2) refl)

heard : found_at posted (behind (e.Post 2 ∷ [])) 1 ≡ Some (f.Does (i.Deliver 2 1))
unfolding kept_of shelf_of comes crashes form_at own_at posts posts_to
heard = refl

over_behind : is_some_due posted (behind (e.Post 2 ∷ e.Deliver 2 1 ∷ [])) ≡ false
unfolding kept_of shelf_of read_message all_of message_at comes crashes form_at own_at posts posts_to
over_behind = refl

-- ---- a crash line is used once

abbrev at_once : GivenModel
at_once = bundle [] one_post (after 1 0 ∷ [])

crash_first : found_at at_once [] 1 ≡ Some f.Crash
unfolding kept_of shelf_of comes crashes form_at own_at posts posts_to
crash_first = refl

-- so long the post isn't due, but the crash is
post_is_held : due at_once [] (Posts 2) ≡ false
unfolding kept_of shelf_of comes crashes form_at own_at posts posts_to
post_is_held = refl

crash_for_post : is_some_due at_once [] ≡ true
unfolding kept_of shelf_of comes crashes form_at own_at posts posts_to
crash_for_post = refl

recovers : found_at at_once (behind (e.Crash 1 ∷ [])) 1 ≡ Some (f.Does (i.Recover 1))
unfolding kept_of shelf_of comes crashes form_at own_at posts posts_to
recovers = refl

not_twice : crashes at_once (behind (e.Crash 1 ∷ e.Recover 1 ∷ [])) 1 ≡ false
unfolding kept_of shelf_of comes crashes form_at own_at posts posts_to
not_twice = refl

post_behind : found_at at_once (behind (e.Crash 1 ∷ e.Recover 1 ∷ [])) 1 ≡ Some (f.Post 2)
unfolding kept_of shelf_of comes crashes form_at own_at posts posts_to
post_behind = refl

twice_by_two : crashes (bundle [] one_post (after 1 0 ∷ after 1 0 ∷ [])) (behind (e.Crash 1 ∷ e.Recover 1 ∷ [])) 1 ≡ true
unfolding kept_of shelf_of comes crashes form_at own_at posts posts_to
twice_by_two = refl

-- a crash that a fault of the journal made uses none
not_by_mark : crashed_in (e.CrashIn 0 (i.Deliver 2 1)) a.Cut ≡ false
not_by_mark = refl

by_crash : crashed_in (e.Crash 1) a.Whole ≡ true
by_crash = refl

-- nor is a recovery counted
recovery_counts_not : counted_in (e.CrashIn 0 (i.Recover 1)) ≡ false
recovery_counts_not = refl

-- ---- the end of an evaluation that was under way when the crash became due

abbrev behind_one : GivenModel
behind_one = bundle one_request [] (after 0 1 ∷ [])

no_crash_yet : crashes behind_one [] 0 ≡ false
unfolding kept_of shelf_of comes crashes form_at own_at posts posts_to
no_crash_yet = refl

crash_now : found_at behind_one (behind (e.Begin 0 ∷ [])) 0 ≡ Some f.Crash
unfolding kept_of shelf_of comes crashes form_at own_at posts posts_to
crash_now = refl

still_goes_on : goes_on (setting behind_one) (lines_of behind_one.program) (world_by behind_one (behind (e.Begin 0 ∷ []))) (behind (e.Begin 0 ∷ [])) (i.Resume 0) ≡ true
unfolding kept_of shelf_of comes crashes form_at own_at posts posts_to
still_goes_on = refl

asked_no_more : (job : Job) (new : List Move) → Asks behind_one 0 (behind (e.Begin 0 ∷ [])) new job → ⊥
unfolding kept_of shelf_of comes crashes form_at own_at posts posts_to
asked_no_more job new h = true≢false h.calm

-- ---- a cut

abbrev five : GivenModel
five = bundle [] one_post (cutting 1 0 5 ∷ [])

abbrev waiting : List Move
waiting = behind (e.Post 2 ∷ [])

-- a line that cuts makes no crash by itself
no_crash : crashes five waiting 1 ≡ false
unfolding kept_of shelf_of comes crashes form_at own_at posts posts_to
no_crash = refl

cut_to_five : form_at five waiting (i.Deliver 2 1) ≡ Cuts 5 (i.Deliver 2 1)
unfolding kept_of shelf_of read_message all_of message_at comes crashes form_at own_at posts posts_to
cut_to_five = refl

whole_without_line : form_at posted waiting (i.Deliver 2 1) ≡ Does (i.Deliver 2 1)
unfolding kept_of shelf_of read_message all_of message_at comes crashes form_at own_at posts posts_to
whole_without_line = refl

-- what writes no record isn't cut
whole_without_record : form_at (bundle one_request [] (cutting 0 0 5 ∷ [])) [] (i.Begin 0) ≡ Does (i.Begin 0)
unfolding kept_of shelf_of comes crashes form_at own_at posts posts_to
whole_without_record = refl

cut_comes : (js : List (Option JournalModel)) → Acts 1 (core five waiting js) (core five (waiting ++ unmarked (e.CrashIn 5 (i.Deliver 2 1)) ∷ []) js)
unfolding kept_of shelf_of read_message all_of message_at comes crashes form_at own_at posts posts_to
cut_comes js = record {
  event = e.CrashIn 5 (i.Deliver 2 1);
  due = refl;
  node = refl;
  came = record { applied = a.Whole; follows = refl; moves = refl; journals = none_fails 1 js };
  other = refl;
}

-- its journal may fail in it
cut_fails : Acts 1 (core five waiting (None ∷ journal 0 false ∷ [])) (core five (waiting ++ marked (e.CrashIn 5 (i.Deliver 2 1)) ∷ []) (None ∷ journal 1 false ∷ []))
unfolding kept_of shelf_of read_message all_of message_at comes crashes form_at own_at posts posts_to
cut_fails = record {
  event = e.CrashIn 5 (i.Deliver 2 1);
  due = refl;
  node = refl;
  came = record { applied = a.Cut; follows = refl; moves = refl; journals = fails_once };
  other = refl;
}

not_done_whole : due five waiting (Does (i.Deliver 2 1)) ≡ false
unfolding kept_of shelf_of read_message all_of message_at comes crashes form_at own_at posts posts_to
not_done_whole = refl

not_cut_elsewhere : due five waiting (Cuts 4 (i.Deliver 2 1)) ≡ false
unfolding kept_of shelf_of read_message all_of message_at comes crashes form_at own_at posts posts_to
not_cut_elsewhere = refl

-- ---- events and marks

resumed_or_cut : IsOf (i.Resume 0) (e.CrashIn 3 (i.Resume 0))
resumed_or_cut = refl

not_another_worker : IsOf (i.Resume 0) (e.Resume 1) → ⊥
not_another_worker h = cc

not_another_event : IsOf (i.Resume 0) (e.Begin 0) → ⊥
not_another_event h = cc

marked_there : has_mark (marked (e.Deliver 2 1) ∷ []) 1 ≡ true
marked_there = refl

not_at_the_sender : has_mark (marked (e.Deliver 2 1) ∷ []) 2 ≡ false
not_at_the_sender = refl

-- a mark wants a fault, a fault a mark, and a journal that never fails has none
mark_wants_fault : IsMarked true (journal 0 false) → ⊥
mark_wants_fault h = let some = h.failed refl in omega (arith, some)

fault_wants_mark : IsMarked false (journal 1 false) → ⊥
fault_wants_mark h = let none = h.sound refl in omega (arith, none)

never_marked : IsMarked true (journal 1 true) → ⊥
never_marked h = true≢false (h.never refl)

is_marked : IsMarked true (journal 1 false)
is_marked = record { failed = λ is. lit< tt; sound = λ isnt. absurd (true≢false isnt); never = λ sure. absurd (true≢false (sym sure)) }
