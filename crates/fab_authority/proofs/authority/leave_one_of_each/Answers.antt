use Rattle.std.proofs.Common.{◌≡◌, ℕ, List, Contains, sym, subst}
use Rattle.std.specs.List.{dedup}
use Rattle.std.proofs.lemmas.List.Filters.{dedup_is}
use Rattle.std.proofs.lemmas.List.Kept.{Contains-dedup, Contains-from_dedup}
use Rattle.std.proofs.lemmas.List.Sorted.{Contains-permutation, IsPermutation-sym}
use Rattle.fab_authority.proofs.Callings.{Decides-same_call, same_call, same_call_is_equivalence}
use Rattle.fab_authority.proofs.authority.leave_one_of_each.Goals as goal

pub returns : goal.returns
returns c =
    let old = c.args.calls.now.items in
    let sorted = c.sort_unstable.new.self.items in
    let new = c.dedup.new.self.items in
    let moved = c.sort_unstable.ensures.permutation in
    let is : new ≡ dedup same_call sorted = dedup_is same_call sorted new c.dedup.ensures.filtered in
    λ d. (
      λ kept. Contains-permutation sorted old d (IsPermutation-sym old sorted moved) (Contains-from_dedup same_call sorted d (subst (λ (xs : List (ℕ × ℕ)). Contains xs d) is kept)),
      λ had. subst (λ (xs : List (ℕ × ℕ)). Contains xs d) (sym is) (Contains-dedup same_call_is_equivalence (λ x y. (Decides-same_call x y).0) sorted d (Contains-permutation old sorted d moved had)),
    )
