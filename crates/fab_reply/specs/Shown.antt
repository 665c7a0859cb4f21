-- What `trust` writes is what is held.
use Rattle.std.specs.Prelude.{ℕ, List, Option, Some}
use Rattle.std.specs.Io.KnownBytes.{Appends}
use Rattle.fab_language.specs.Numbers.{resolved}
use Rattle.fab_listing.specs.Trusted.{trusted_text}
use Rattle.fab_places.specs.declared.masks.Seen.{Seen}
use Rattle.fab_rights.specs.Computed.{has_bit}
use Rattle.fab_world.specs.Machine.{Move}
use Rattle.fab_world.specs.Serial.{held_map}
use Rattle.fab_node.specs.Standing.{GivenModel}
use Rattle.fab_core.specs.Cores.{setting, world_by}
use Rattle.fab_command.specs.declared.command.Command.TheVariants.{Trust}
use Rattle.fab_reply.specs.Headline.{Headline, IsOfFault, IsOfSchedule}
use Rattle.fab_reply.specs.Replays.{AreDistrusted, given_of}

-- With its headline, the text shows the objects that nodes outside the set of those that it names and the hostile ones hold behind the run, of the
-- classes that exclude this set.
pub record ShowsHeld (names : List (List ℕ)) (P : GivenModel → List Move → Type 0) (left left' written written' : Option (List ℕ))
    (h : Headline (Some (Trust names)) P left left' written written') : Type 0 where
  pub nodes : ℕ
  pub part : Seen
  pub distrusted : AreDistrusted h.start names nodes part
  pub shown : Appends written written'
      (trusted_text (resolved h.start)
      (held_map (setting (given_of h.start h.rights)) (has_bit nodes) (has_bit part.classes) (world_by (given_of h.start h.rights) h.moves)))

abbrev pub ShowsHeldOf : (GivenModel → List Move → Type 0) → Type 0
ShowsHeldOf P =
    (names : List (List ℕ)) (left left' written written' : Option (List ℕ)) (h : Headline (Some (Trust names)) P left left' written written')
    → ShowsHeld names P left left' written written' h

-- of a whole schedule, and up to an event in which a node's journal failed
pub record ShowsWhatIsHeld : Type 0 where
  pub whole : ShowsHeldOf IsOfSchedule
  pub in_part : (node : ℕ) → ShowsHeldOf (IsOfFault node)
