-- A store outside the set: what it answers workers of the set, and what it makes of what they send.
use Rattle.std.proofs.Common.{◌≡◌, [], ◌∷◌, pos, None, refl, true, ◌==◌}
use Rattle.fab_base.specs.declared.object.Object.{Object as Thing}
use Rattle.fab_base.specs.declared.object.Tid.{Tid}
use Rattle.fab_base.specs.declared.message.Answer.TheVariants as answer
use Rattle.fab_base.specs.declared.message.Items.{Items}
use Rattle.fab_base.specs.declared.message.Message.TheVariants.{Fetch, Object, Deny, Prepare, Commit, Abort, Boot, Inquire}
use Rattle.fab_base.specs.declared.message.Why.TheVariants as why
use Rattle.fab_protocol.specs.Stores.{asks, last_of, shelf_at_start, start_of}
use Rattle.fab_protocol.proofs.Toy.{account, holding, accounts, attempt, made, rights}
use Rattle.fab_release.specs.Replay.{StoreSeen, applies, store_applies, store_hears, store_says, votes}
use Rattle.fab_release.specs.Sights.{Public, Sight}
use Rattle.fab_shelf.specs.Shelves.{left_behind}

-- worker 0 is in the set, store 1 and worker 3 aren't
abbrev t : Tid
t = attempt 0 1 1

abbrev later : Tid
later = attempt 0 1 2

abbrev one : Thing
one = holding (pos 1)

-- writes account 0, and makes another account
abbrev items : Items
items = record { reads = []; writes = (account 0, 1, one) ∷ []; creates = (made t, one) ∷ [] }

module _ (sight : Sight) (Q : Public) where
  abbrev P : Public
  P = record Q { rights = rights }

  -- everything is seen, and node 0 alone is in the set
  abbrev all : Sight
  all = record sight { has = λ n. n == 0; shows = λ c. true }

  abbrev hears : StoreSeen → StoreSeen
  hears x = store_hears sight P 1 0 (Prepare t items) x

  abbrev first : StoreSeen
  first = record { shelf = shelf_at_start (accounts (pos 100) (pos 0)) 1; asked = None }

  abbrev prepared : StoreSeen
  prepared = votes sight P t answer.Yes (hears first)

  abbrev committed : StoreSeen
  committed = store_hears sight P 1 0 (Commit t) prepared

  -- ---- fetches

  fetched : store_says sight P 1 0 (Fetch later (account 0)) first ≡ (0, Object later (account 0) 1 (holding (pos 100))) ∷ []
  fetched = refl

  not_before_the_commit : store_says sight P 1 0 (Fetch later (account 0)) prepared ≡ (0, Object later (account 0) 1 (holding (pos 100))) ∷ []
  not_before_the_commit = refl

  at_the_next_version : store_says sight P 1 0 (Fetch later (account 0)) committed ≡ (0, Object later (account 0) 2 one) ∷ []
  at_the_next_version = refl

  made_at_the_first : store_says sight P 1 0 (Fetch later (made t)) committed ≡ (0, Object later (made t) 1 one) ∷ []
  made_at_the_first = refl

  not_made_before : store_says sight P 1 0 (Fetch later (made t)) prepared ≡ (0, Deny later (made t) why.Missing) ∷ []
  not_made_before = refl

  unknown_class : store_says sight P 1 0 (Fetch t (record (account 0) { class = 7 })) first ≡ (0, Deny t (record (account 0) { class = 7 }) why.Missing) ∷ []
  unknown_class = refl

  without_the_right : store_says sight P 1 2 (Fetch (attempt 2 1 1) (account 0)) first ≡ (2, Deny (attempt 2 1 1) (account 0) why.Rights) ∷ []
  without_the_right = refl

  of_another : store_says sight P 1 0 (Fetch (attempt 3 1 1) (account 0)) first ≡ []
  of_another = refl

  -- ---- what is prepared

  asked_alone : (hears first).shelf ≡ first.shelf
  asked_alone = refl

  not_answered_at_once : store_says sight P 1 0 (Prepare t items) first ≡ []
  not_answered_at_once = refl

  asked_and_prepared : prepared.shelf.prepared ≡ (t, items) ∷ []
  asked_and_prepared = refl

  -- under the tid that the vote names
  under_the_tid_of_the_vote : (votes sight P later answer.Yes (hears first)).shelf.prepared ≡ (later, items) ∷ []
  under_the_tid_of_the_vote = refl

  nothing_was_asked : votes sight P t answer.Yes first ≡ first
  nothing_was_asked = refl

  refused : (votes sight P t (answer.Rights (account 0)) (hears first)).shelf.prepared ≡ []
  refused = refl

  refused_is_remembered : last_of (votes sight P t (answer.Rights (account 0)) (hears first)).shelf 0 ≡ t
  refused_is_remembered = refl

  old_is_not : votes sight P t (answer.OldTid later) (hears first) ≡ hears first
  old_is_not = refl

  -- ---- how it ends

  asks_of_each : (asks (votes sight P later answer.Yes prepared).shelf).sends ≡ (0, Inquire t) ∷ (0, Inquire later) ∷ []
  asks_of_each = refl

  asks_no_longer : (asks committed.shelf).sends ≡ []
  asks_no_longer = refl

  aborted : (store_hears sight P 1 0 (Abort t) prepared).shelf.rows ≡ first.shelf.rows
  aborted = refl

  aborted_is_gone : (store_hears sight P 1 0 (Abort t) prepared).shelf.prepared ≡ []
  aborted_is_gone = refl

  commit_of_another : store_hears sight P 1 3 (Commit t) prepared ≡ prepared
  commit_of_another = refl

  commit_of_what_is_not_prepared : store_hears sight P 1 0 (Commit later) prepared ≡ prepared
  commit_of_what_is_not_prepared = refl

  boot_frees : (store_hears sight P 1 0 (Boot 2) prepared).shelf.prepared ≡ []
  boot_frees = refl

  boot_sets_last : last_of (store_hears sight P 1 0 (Boot 2) prepared).shelf 0 ≡ start_of 0 2
  boot_sets_last = refl

  same_boot_again : store_hears sight P 1 0 (Boot 2) (store_hears sight P 1 0 (Boot 2) prepared) ≡ store_hears sight P 1 0 (Boot 2) prepared
  same_boot_again = refl

  -- ---- what enters the table

  left : left_behind 0 (Commit t) prepared.shelf.prepared ≡ (account 0, 2, one) ∷ (made t, 1, one) ∷ []
  left = refl

  left_of_another : left_behind 3 (Commit t) prepared.shelf.prepared ≡ []
  left_of_another = refl

  left_is_seen : store_applies all P 1 0 (Commit t) prepared ≡ left_behind 0 (Commit t) prepared.shelf.prepared
  left_is_seen = refl

  -- of a worker outside the set
  applied : (applies sight P ((account 1, 2, one) ∷ []) first).shelf.rows ≡ (account 0, 1, holding (pos 100)) ∷ (account 1, 2, one) ∷ []
  applied = refl
