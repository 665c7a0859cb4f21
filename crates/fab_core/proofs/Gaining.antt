-- More room in some nodes leaves all that is said of them.
use Rattle.std.proofs.Common.{◌≡◌, ℕ, zero, suc, ◌≤◌, ◌<◌, List, [], ◌∷◌, map, length, Option, Some, None, refl, sym, ap, ◌∙◌, subst, arith}
use Rattle.std.specs.Prelude.{option_map, slice_set}
use Rattle.std.proofs.Math.ListN.{length-set}
use Rattle.fab_net.specs.declared.note.Logged.{Logged}
use Rattle.fab_queues.specs.Channels.{Network}
use Rattle.fab_world.specs.Machine.{World}
use Rattle.fab_node.specs.declared.role.Role.{Role}
use Rattle.fab_node.specs.declared.role.Role.TheVariants as roles
use Rattle.fab_node.specs.Standing.{GivenModel, JournalModel, NodeModel, OnlyGainsRoom, RoleGainsRoom}
use Rattle.fab_node.proofs.Rooms.{gains_stand}
use Rattle.fab_core.specs.Cores.{HasPlaces, IsCore, SlotStands, StandsFor, count_in, slot}
use Rattle.fab_core.specs.Places.{journals_of}
use Rattle.fab_core.specs.Telling.{JournalsGain, NodesGain, OnlyGainRoom, SlotGains}
use Rattle.fab_core.proofs.Filled.{journal_slot}

slot_gain : (g : GivenModel) (w : World) (n : ℕ) (o p : Option NodeModel) → SlotGains o p → SlotStands g w n o → SlotStands g w n p
slot_gain g w n None None h s = s
slot_gain g w n None (Some p) h s = absurd h
slot_gain g w n (Some o) None h s = absurd h
slot_gain g w n (Some o) (Some p) h s = (s.0, h.number ∙ s.1, gains_stand g (w.node n) o p h s.2)

stands_gain : (g : GivenModel) (w : World) (old new : List (Option NodeModel)) (queues : Network) (places : List ℕ) → NodesGain old new
    → StandsFor g w old queues places → StandsFor g w new queues places
stands_gain g w old new queues places h s = record {
  slots = h.slots ∙ s.slots;
  lanes = s.lanes;
  senders = s.senders;
  standing = λ n. slot_gain g w n (slot old n) (slot new n) (h.each n) (s.standing n);
  queue = s.queue;
  sent = s.sent;
  posts = s.posts;
}

-- a core is one still
pub core_gain : (g : GivenModel) (old new : List (Option NodeModel)) (queues : Network) (places : List ℕ) (log : List Logged) → NodesGain old new
    → IsCore g old queues places log → IsCore g new queues places log
core_gain g old new queues places log h c = record {
  given = c.given;
  logged = c.logged;
  run = c.run;
  few = c.few;
  stands = stands_gain g _ old new queues places h c.stands;
}

-- ---- as many nodes as before

count_gain : (old new : List (Option NodeModel)) → length new ≡ length old → ((n : ℕ) → SlotGains (slot old n) (slot new n)) → count_in new ≡ count_in old
count_gain [] [] long h = refl
count_gain [] (y ∷ ys) long h = absurd (cc)
count_gain (x ∷ xs) [] long h = absurd (cc)
count_gain (None ∷ xs) (None ∷ ys) long h = count_gain xs ys (omega arith) (λ n. h (suc n))
count_gain (None ∷ xs) (Some y ∷ ys) long h = absurd (h 0)
count_gain (Some x ∷ xs) (None ∷ ys) long h = absurd (h 0)
count_gain (Some x ∷ xs) (Some y ∷ ys) long h = ap suc (count_gain xs ys (omega arith) (λ n. h (suc n)))

pub places_gain : (old new : List (Option NodeModel)) (journals places : ℕ) → NodesGain old new → HasPlaces old journals places → HasPlaces new journals places
places_gain old new journals places h p = record {
  none = p.none;
  enough = subst (λ n. n ≤ places) (sym (count_gain old new h.slots h.each)) p.enough;
}

-- ---- journals

journal_gain : (o p : Option NodeModel) → SlotGains o p → JournalsGain (option_map (λ x. x.journal) o) (option_map (λ x. x.journal) p)
journal_gain None None h = tt
journal_gain None (Some p) h = absurd h
journal_gain (Some o) None h = absurd h
journal_gain (Some o) (Some p) h = record { content = h.content; synced = h.synced; room = h.room; faults = h.faults; sure = h.sure }

-- so the journals have more room at most
pub journals_gain : (old new : List (Option NodeModel)) → NodesGain old new → OnlyGainRoom (journals_of old) (journals_of new)
journals_gain old new h n =
    subst (λ o. JournalsGain o (slot (journals_of new) n)) (sym (journal_slot old n))
    (subst (λ o. JournalsGain (option_map (λ x. x.journal) (slot old n)) o) (sym (journal_slot new n))
    (journal_gain (slot old n) (slot new n) (h.each n)))

same_journals : (o : Option JournalModel) → JournalsGain o o
same_journals None = tt
same_journals (Some x) = record { content = refl; synced = refl; room = omega arith; faults = refl; sure = refl }

-- those that stay as they are have as much room
pub journals_same : (old new : List (Option JournalModel)) → new ≡ old → OnlyGainRoom old new
journals_same old new h n = subst (λ xs. JournalsGain (slot old n) (slot xs n)) (sym h) (same_journals (slot old n))

-- ---- one node gains room

role_itself : (role : Role) → RoleGainsRoom role role
role_itself (roles.Store s) = record { node = refl; rights = refl; shelf = refl; rows = omega arith; locks = omega arith }
role_itself (roles.Worker w) =
    record { node = refl; rights = refl; program = refl; kept = refl; attempt = refl; parts = refl; answers = omega arith; decisions = omega arith }

slot_itself : (o : Option NodeModel) → SlotGains o o
slot_itself None = tt
slot_itself (Some x) = record {
  number = refl;
  role = role_itself x.role;
  content = refl;
  synced = refl;
  room = omega arith;
  faults = refl;
  sure = refl;
  up = refl;
  failed = refl;
}

slot_changed : (nodes : List (Option NodeModel)) (n : ℕ) (old new : NodeModel) → slot nodes n ≡ Some old → OnlyGainsRoom old new → (m : ℕ)
    → SlotGains (slot nodes m) (slot (slice_set nodes n (Some new)) m)
slot_changed [] n old new h g m = tt
slot_changed (x ∷ xs) zero old new h g zero = subst (λ o. SlotGains o (Some new)) (sym h) g
slot_changed (x ∷ xs) zero old new h g (suc m) = slot_itself (slot xs m)
slot_changed (x ∷ xs) (suc n) old new h g zero = slot_itself x
slot_changed (x ∷ xs) (suc n) old new h g (suc m) = slot_changed xs n old new h g m

-- the others stay as they are
pub one_gains : (nodes : List (Option NodeModel)) (n : ℕ) (old new : NodeModel) → slot nodes n ≡ Some old → OnlyGainsRoom old new
    → NodesGain nodes (slice_set nodes n (Some new))
one_gains nodes n old new h g = record { slots = length-set nodes n (Some new); each = slot_changed nodes n old new h g }

pub none_gains : (nodes : List (Option NodeModel)) → NodesGain nodes nodes
none_gains nodes = record { slots = refl; each = λ n. slot_itself (slot nodes n) }
