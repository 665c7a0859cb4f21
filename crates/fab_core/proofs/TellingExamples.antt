-- What a core tells, computed: rows under a name, journals in order, events that are done, lengths of records.
use Rattle.std.proofs.Common.{◌≡◌, ℕ, pos, List, [], ◌∷◌, Option, Some, None, refl}
use Rattle.fab_base.specs.declared.entry.Entry.TheVariants as entries
use Rattle.fab_net.specs.declared.event.Event.TheVariants as e
use Rattle.fab_net.specs.declared.event.Inner.TheVariants as i
use Rattle.fab_protocol.proofs.Toy.{account, attempt, box, holding}
use Rattle.fab_protocol.specs.Versions.{Rows}
use Rattle.fab_world.specs.Workers.{Act, fresh, stays}
use Rattle.fab_core.specs.Cores.{count_in}
use Rattle.fab_core.specs.Telling.{inner_of, length_in, those_in}
use Rattle.fab_nodes.specs.Under.{last_under, under}

-- ---- rows under a name

-- account 0 twice, and account 1
abbrev rows : Rows
rows = (account 0, 1, holding (pos 10)) ∷ (account 0, 2, holding (pos 15)) ∷ (account 1, 7, holding (pos 20)) ∷ []

first_there : under rows (account 0) ≡ Some (1, holding (pos 10))
first_there = refl

last_there : last_under rows (account 0) ≡ Some (2, holding (pos 15))
last_there = refl

only_one : last_under rows (account 1) ≡ under rows (account 1)
only_one = refl

not_there : under rows box ≡ None
not_there = refl

-- ---- journals of nodes

abbrev slots : List (Option ℕ)
slots = Some 4 ∷ None ∷ Some 7 ∷ []

in_order : those_in slots ≡ 4 ∷ 7 ∷ []
in_order = refl

two : count_in slots ≡ 2
two = refl

-- ---- events

delivery_is_done : inner_of (e.Deliver 1 0) ≡ Some (i.Deliver 1 0)
delivery_is_done = refl

-- what is cut isn't done, and nor is a post or a crash
cut_is_not : inner_of (e.CrashIn 3 (i.Begin 0)) ≡ None
cut_is_not = refl

post_is_not : inner_of (e.Post 2) ≡ None
post_is_not = refl

crash_is_not : inner_of (e.Crash 0) ≡ None
crash_is_not = refl

-- ---- lengths

abbrev recording : Act
recording = record (stays fresh) { entry = Some (entries.Boot 2) }

boot_is_nine : length_in recording ≡ Some 9
boot_is_nine = refl

refusal_is_fifteen : length_in (record (stays fresh) { entry = Some (entries.Refused (attempt 0 1 1)) }) ≡ Some 15
refusal_is_fifteen = refl

none_written : length_in (stays fresh) ≡ None
none_written = refl
