use Rattle.std.proofs.Common.{◌≡◌, ◌<◌, ℕ, List, Result, Some, length, get_or, sym, subst, ap, ◌∙◌}
use Rattle.std.specs.Prelude.{MatchResult}
use Rattle.fab_holes.specs.Chosen.{places_of}
use Rattle.fab_holes.specs.Least.{AreLeast}
use Rattle.fab_infer.specs.Masks.{IsWithout}
use Rattle.fab_infer.proofs.Answered.{at_some, filled_if, refused_is, same_place, solved_if, without_is}
use Rattle.fab_infer.proofs.whole.infer.Goals as goal

pub returns-in-Err-clause-without : goal.returns-in-Err-clause-without
returns-in-Err-clause-without c = λ s at named is e.
    let r = c.args.start in
    let hole = c.in-Err.hole in
    let places = c.as_slice.result.now in
    let all : places ≡ places_of r = c.as_slice.ensures ∙ c.in_ok-places.ensures in
    let within : hole < length (places_of r) = subst (λ (f : Result (List ℕ) ℕ). MatchResult f (λ choice. length choice ≡ length (places_of r)) (λ h. h < length (places_of r))) c.in-Err.is c.in_ok-hole.ensures.bound in
    let without : IsWithout r hole = subst (λ (f : Result (List ℕ) ℕ). MatchResult f (AreLeast r 0) (IsWithout r)) c.in-Err.is (c.in_ok-hole.ensures.least s named is) in
    let same : get_or places hole 0 ≡ at = same_place (get_or places hole 0) at e in
    without_is s r named is hole at without (at_some (places_of r) hole within ∙ ap Some (ap (λ (l : List ℕ). get_or l hole 0) (sym all) ∙ same))

pub returns-in-Ok-clause-solved : goal.returns-in-Ok-clause-solved
returns-in-Ok-clause-solved c =
    let r = c.args.start in
    let many : length c.in-Ok.labels ≡ length (places_of r) = subst (λ (f : Result (List ℕ) ℕ). MatchResult f (λ choice. length choice ≡ length (places_of r)) (λ h. h < length (places_of r))) c.in-Ok.is c.in_ok-hole.ensures.bound in
    solved_if r c.in-Ok.labels many (λ s named is. subst (λ (f : Result (List ℕ) ℕ). MatchResult f (AreLeast r 0) (IsWithout r)) c.in-Ok.is (c.in_ok-hole.ensures.least s named is)) c.with_least.result c.with_least.ensures.labels c.with_least.ensures.right

pub returns-in-Ok-clause-filled : goal.returns-in-Ok-clause-filled
returns-in-Ok-clause-filled c =
    let r = c.args.start in
    let many : length c.in-Ok.labels ≡ length (places_of r) = subst (λ (f : Result (List ℕ) ℕ). MatchResult f (λ choice. length choice ≡ length (places_of r)) (λ h. h < length (places_of r))) c.in-Ok.is c.in_ok-hole.ensures.bound in
    filled_if r c.in-Ok.labels many (λ s named is. subst (λ (f : Result (List ℕ) ℕ). MatchResult f (AreLeast r 0) (IsWithout r)) c.in-Ok.is (c.in_ok-hole.ensures.least s named is)) c.with_least.result c.with_least.ensures.labels c.with_least.ensures.filled

pub returns-in-Ok-clause-refused : goal.returns-in-Ok-clause-refused
returns-in-Ok-clause-refused c = λ s rule at source target named is e.
    let r = c.args.start in
    let many : length c.in-Ok.labels ≡ length (places_of r) = subst (λ (f : Result (List ℕ) ℕ). MatchResult f (λ choice. length choice ≡ length (places_of r)) (λ h. h < length (places_of r))) c.in-Ok.is c.in_ok-hole.ensures.bound in
    refused_is s r named is c.in-Ok.labels (record { rule = rule; at = at; source = source; target = target }) many
    (subst (λ (f : Result (List ℕ) ℕ). MatchResult f (AreLeast r 0) (IsWithout r)) c.in-Ok.is (c.in_ok-hole.ensures.least s named is)) (c.with_least.ensures.refused rule at source target e)
