-- What `trust` writes is what is held.
use Rattle.std.proofs.Common.{◌≡◌, ℕ, List, Option, Some, sym, ap, subst}
use Rattle.std.specs.Io.KnownBytes.{Appends}
use Rattle.fab_language.specs.Numbers.{resolved}
use Rattle.fab_listing.specs.Trusted.{trusted_text}
use Rattle.fab_rights.specs.Computed.{has_bit}
use Rattle.fab_command.specs.declared.command.Command.{Command}
use Rattle.fab_command.specs.declared.command.Command.TheVariants.{Trust}
use Rattle.fab_world.specs.Machine.{Move}
use Rattle.fab_node.specs.Standing.{GivenModel}
use Rattle.fab_replay.specs.Replays.{text_of}
use Rattle.fab_replay.specs.declared.replayed.Wanted.{Wanted}
use Rattle.fab_replay.specs.declared.replayed.Wanted.TheVariants.{Report, Run as ByNodes, Trust as Trusted, View as Viewed}
use Rattle.fab_reply.specs.Headline.{Headline, IsOfFault, IsOfSchedule}
use Rattle.fab_reply.specs.Replays.{Wants, given_of}
use Rattle.fab_reply.specs.Shown.{ShowsHeld, ShowsHeldOf, ShowsWhatIsHeld}
use Rattle.fab_reply.proofs.Watching.{hostile_in}

same_command : (a b : Command) → Some a ≡ Some b → b ≡ a
same_command a b e = cc

module _ (names : List (List ℕ)) (P : GivenModel → List Move → Type 0) (left left' written written' : Option (List ℕ))
    (h : Headline (Some (Trust names)) P left left' written written') where
  at : (w : Wanted) → Wants h.start (Trust names) w → Appends written written' (text_of (given_of h.start h.rights) w h.moves) → ShowsHeld names P left left' written written' h
  at (Trusted nodes part) wants all =
      let held = (h.trusted nodes (has_bit part.labels) (has_bit part.classes)
      (record { hostile = hostile_in h.start h.rights names nodes h.accepted wants.named; trusted = wants.trusts })).held in
      record {
        nodes = nodes;
        part = part;
        distrusted = wants;
        shown = subst (Appends written written') (ap (trusted_text (resolved h.start)) (sym held)) all;
      }
  at Report wants all = absurd wants
  at (ByNodes x) wants all = absurd wants
  at (Viewed nodes seen part) wants all = absurd wants

shows_held : (P : GivenModel → List Move → Type 0) → ShowsHeldOf P
shows_held P names left left' written written' h =
    at names P left left' written written' h h.wanted (subst (λ c. Wants h.start c h.wanted) (same_command (Trust names) h.asked h.command_is) h.wants) h.reported

pub shows_what_is_held : ShowsWhatIsHeld
shows_what_is_held = record { whole = shows_held IsOfSchedule; in_part = λ node. shows_held (IsOfFault node) }
