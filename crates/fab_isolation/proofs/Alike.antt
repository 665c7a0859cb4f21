-- Where the record of one run goes on from that of another, so does what is sent: the public replay goes through the record in order.
use Rattle.std.proofs.Common.{◌≡◌, ℕ, List, [], ◌∷◌, ◌++◌, refl, sym, ap, ◌∙◌, append_assoc}
use Rattle.fab_release.specs.declared.release.Released.{Released}
use Rattle.fab_release.specs.Sights.{Sight, Public}
use Rattle.fab_release.specs.Replay.{Rebuilt, public, sent_behind, sent_at, at_start, next}
use Rattle.fab_release.specs.Isolation.{released_in}
use Rattle.fab_isolation.specs.Law.{IsolatedAreAlike}

module _ (sight : Sight) (P : Public) (n d : ℕ) where
  replay_goes_on : (kept : Rebuilt) (xs ys : List Released)
      → (rest : List (List ℕ)) × (sent_behind sight P kept (xs ++ ys) n d ≡ sent_behind sight P kept xs n d ++ rest)
  replay_goes_on kept [] ys = (sent_behind sight P kept ys n d, refl)
  replay_goes_on kept (x ∷ xs) ys =
      let later = replay_goes_on (next sight P x.release kept) xs ys in (
        later.0,
        ap (λ sent. sent_at sight P x kept n d ++ sent) later.1
            ∙ sym (append_assoc (sent_at sight P x kept n d) (sent_behind sight P (next sight P x.release kept) xs n d) later.0),
      )

pub alike : IsolatedAreAlike
alike S T sight P first_is second_is first second more n d run other few fewer outside inside goes =
    let later = replay_goes_on sight P n d (at_start sight P) (released_in sight S first) more in (
      later.0,
      second_is second n d other fewer outside inside ∙ ap (λ entries. public sight P entries n d) goes ∙ later.1
          ∙ ap (λ sent. sent ++ later.0) (sym (first_is first n d run few outside inside)),
    )
