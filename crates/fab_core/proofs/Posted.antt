-- What a core is behind a post.
use Rattle.std.specs.Prelude.{◌≡◌, ◌⊎◌, ◌<◌, ◌==◌, ◌&&◌, ℕ, Bool, true, false, not, if◌then◌else◌, IsTrue, List, [], ◌∷◌, ◌++◌, map, length, Option, slice_set, slice_index_or}
use Rattle.std.proofs.Common.{refl, sym, ap, ◌∙◌, subst, inl, inr, true≢false}
use Rattle.std.proofs.lemmas.Bool.{cases_eq, and_parts}
use Rattle.std.proofs.lemmas.List.{get_or-set_same, get_or-set_other, length-set}
use Rattle.fab_net.specs.declared.event.Event.TheVariants as events
use Rattle.fab_net.specs.declared.note.Logged.{Logged}
use Rattle.fab_rights.specs.Computed.{is_node}
use Rattle.fab_queues.specs.Channels.{Network, queue_of, sent_of}
use Rattle.fab_world.specs.Machine.{Setting, World, Move, Posts, enabled, is_empty, logged, post_bytes, posted, steps, waiting_for, with_at}
use Rattle.fab_world.specs.Serial.{attempts}
use Rattle.fab_node.specs.Standing.{GivenModel, NodeModel}
use Rattle.fab_core.specs.Cores.{IsCore, StandsFor, move_of, posts_from, setting, unmarked, world_by}
use Rattle.fab_core.specs.Posts.{left_in}
use Rattle.fab_nodes.specs.Transit.{AreSentOut, OnlyGainsLanes, bytes_for, is_up_at, waiting_at}
use Rattle.fab_core.proofs.Filled.{up_is}
use Rattle.fab_core.proofs.Grown.{grown}
use Rattle.fab_core.proofs.Stepped.{waiting_same}
use Rattle.fab_core.proofs.Tables.{node_below, with_at_same}
use Rattle.fab_core.proofs.Waiting.{nobody_waits}
use Rattle.fab_integrity.proofs.Worlds.{at_same, at_other}

module _ (g : GivenModel) (nodes : List (Option NodeModel)) (queues : Network) (places : List ℕ) (log : List Logged) (core : IsCore g nodes queues places log)
    (k : ℕ) (allowed : IsTrue (enabled (setting g) (world_by g (map move_of log)) (Posts k))) where
  abbrev S : Setting
  S = setting g

  abbrev w : World
  w = world_by g (map move_of log)

  abbrev place : ℕ
  place = slice_index_or places k 0

  pub poster_below : k < 64
  poster_below = node_below g.rights k core.given.accepted.workers core.given.accepted.stores (and_parts _ _ (and_parts _ _ allowed).0).0

  -- something is left
  pub one_left : left_in g.program.posts place k ≡ [] → ⊥
  one_left h =
      true≢false (sym (and_parts _ _ allowed).1 ∙ ap (λ z. not (is_empty z)) (sym (core.stands.posts k) ∙ h))

  module _ (to : ℕ) (bytes : List ℕ) (behind : ℕ) (left : left_in g.program.posts place k ≡ (to, bytes) ∷ left_in g.program.posts behind k) (grew : Network)
      (gains : OnlyGainsLanes queues grew) where
    posts_are : w.posts k ≡ (to, bytes) ∷ left_in g.program.posts behind k
    posts_are = sym (core.stands.posts k) ∙ left

    queue_is : (a b : ℕ) → queue_of grew a b ≡ w.queue a b
    queue_is a b = gains.queue a b ∙ core.stands.queue a b

    sent_is : (a b : ℕ) → sent_of grew a b ≡ w.sent a b
    sent_is a b = gains.sent a b ∙ core.stands.sent a b

    pub none_for_it : is_up_at nodes to ≡ false → queue_of grew k to ≡ []
    none_for_it down =
        queue_is k to ∙ nobody_waits S (map move_of log) k to (sym (up_is g w nodes core.stands.standing to) ∙ down)

    abbrev after : List (ℕ × List ℕ)
    after = left_in g.program.posts behind k

    posts_left : (m : ℕ) → posts_from g.program (slice_index_or (slice_set places k behind) m 0) m ≡ with_at w.posts k after m
    posts_left m = elim (cases_eq m k) [
      | inl p ↦
          (λ j. posts_from g.program (slice_index_or (slice_set places k behind) (p j) 0) (p j))
          ∙ ap (λ z. posts_from g.program z k) (get_or-set_same places k behind 0 (subst (λ z. k < z) (sym core.stands.senders) poster_below))
          ∙ sym (ap (with_at w.posts k after) p ∙ at_same w.posts k after)
      | inr p ↦
          ap (λ z. posts_from g.program z m) (get_or-set_other places k m behind 0 p)
          ∙ core.stands.posts m ∙ sym (at_other w.posts k after m p)
    ]

    module _ (last : Network) (sends : AreSentOut g.rights (is_up_at nodes) k ((to, bytes) ∷ []) grew last) where
      stands_by : StandsFor g (posted S w k ((to, bytes) ∷ after)) nodes last (slice_set places k behind)
      stands_by = record {
        slots = core.stands.slots;
        lanes = sends.lanes ∙ gains.lanes ∙ core.stands.lanes;
        senders = length-set places k behind ∙ core.stands.senders;
        standing = core.stands.standing;
        queue = λ a b.
            sends.queue a b
            ∙ with_at_same (queue_of grew) w.queue k (λ b. queue_of grew k b ++ waiting_at (is_up_at nodes) g.rights b ((to, bytes) ∷ []))
            (λ b. w.queue k b ++ waiting_for S w b ((to, bytes) ∷ [])) queue_is
            (λ b. (λ j. queue_is k b j ++ waiting_at (is_up_at nodes) g.rights b ((to, bytes) ∷ [])) ∙ ap (λ z. w.queue k b ++ z) (waiting_same g w nodes core.stands.standing b ((to, bytes) ∷ [])))
            a b;
        sent = λ a b.
            sends.sent a b
            ∙ with_at_same (sent_of grew) w.sent k (λ b. sent_of grew k b ++ bytes_for g.rights b ((to, bytes) ∷ []))
            (λ b. w.sent k b ++ bytes_for g.rights b ((to, bytes) ∷ [])) sent_is (λ b. ap (λ z. z ++ bytes_for g.rights b ((to, bytes) ∷ [])) (sent_is k b)) a b;
        posts = posts_left;
      }

      abbrev entry : Logged
      entry = record { event = events.Post k; bytes = bytes; notes = []; whole = true; marked = false }

      pub entry_posted : entry ≡ logged S w (unmarked (events.Post k))
      entry_posted = λ j. record { event = events.Post k; bytes = ap (post_bytes S) (sym posts_are) j; notes = []; whole = true; marked = false }

      pub posts_on : attempts (map move_of log) < 4000000000 → IsCore g nodes last (slice_set places k behind) (log ++ entry ∷ [])
      posts_on few =
          grown g nodes nodes queues last places (slice_set places k behind) log core (unmarked (events.Post k)) entry allowed few entry_posted
          (subst (λ ps. StandsFor g (posted S w k ps) nodes last (slice_set places k behind)) (sym posts_are) stands_by)
