-- Calls over bundles with one public part.
use Rattle.std.proofs.Common.{◌≡◌, ◌++◌, List, sym, ap, ◌∙◌, subst}
use Rattle.fab_language.specs.Numbers.{resolved}
use Rattle.fab_tree.specs.declared.resolved.Resolved.{Resolved}
use Rattle.fab_fitting.proofs.Rights.{one_rights}
use Rattle.fab_isolation.proofs.Shared.{rights_are_public}
use Rattle.fab_places.specs.Places.{AreRights}
use Rattle.fab_public.proofs.Fronts.{goes_on}
use Rattle.fab_release.specs.Bundles.{public_of, public_part, sight_of}
use Rattle.fab_release.specs.Replay.{at_start, public}
use Rattle.fab_release.specs.declared.release.Released.{Released}
use Rattle.fab_rights.specs.Computed.{has_bit}
use Rattle.fab_rights.specs.declared.rights.Rights.{Rights}
use Rattle.fab_reply.specs.Alike.{AreCallsAlike, released_of}

pub calls_alike : AreCallsAlike
calls_alike s t p q first second nodes sees shows more n d accepted admitted apart aside seeing looking parts goes out into =
    let part = public_part sees shows (resolved s) in
    let mine = rights_are_public (resolved s) sees shows p accepted.rights_are in
    let theirs = subst (λ (r : Resolved). AreRights r q) (sym parts) (rights_are_public (resolved t) sees shows q admitted.rights_are) in
    let same : q ≡ p = one_rights part q p theirs mine in
    let sight = sight_of sees shows (has_bit nodes) part in
    let known = public_of sees shows p part in
    let front = goes_on sight known n d (at_start sight known) (released_of s p nodes sees shows first) more in (
      front.0,
      aside nodes sees shows n d looking out into
          ∙ ap (λ (r : Resolved). public (sight_of sees shows (has_bit nodes) r) (public_of sees shows q r) (released_of t q nodes sees shows second) n d) (sym parts)
          ∙ ap (λ (x : Rights). public sight (public_of sees shows x part) (released_of t q nodes sees shows second) n d) same
          ∙ ap (λ (es : List Released). public sight known es n d) goes
          ∙ front.1
          ∙ ap (λ ls. ls ++ front.0) (sym (apart nodes sees shows n d seeing out into)),
    )
