-- One commit more, done again with what is trusted alone.
use Rattle.std.proofs.Common.{◌≡◌, ℕ, Bool, List, ◌∷◌, ◌++◌, Option, None, IsTrue, sym, ap, ◌∙◌}
use Rattle.fab_base.specs.declared.object.Value.{Value}
use Rattle.fab_base.specs.FlatMap.{FlatMap, ascends}
use Rattle.fab_tree.specs.declared.resolved.Request.{Request}
use Rattle.fab_tree.specs.declared.resolved.Resolved.{Resolved}
use Rattle.fab_net.specs.declared.note.Commit.{Commit}
use Rattle.fab_settings.specs.Settings.{request_at}
use Rattle.fab_integrity.specs.Changed.{changed, named}
use Rattle.fab_integrity.proofs.Maps.{ascends_put_all}
use Rattle.fab_serial.proofs.Steps.{unchanged}
use Rattle.fab_trusted.specs.Trusted.{first_of, replayed_from, rest_of, trusted_meaning, trusted_one}
use Rattle.fab_world.specs.Serial.{within}

module _ (trusts keeps : ℕ → Bool) (r : Resolved) (N : FlatMap) (c : Commit) (given : List Value) where
  abbrev behind : Option Request → FlatMap
  behind asked = let m = trusted_meaning trusts keeps r asked c.tid N given in changed keeps m.written m.made m.map N

  -- by the request that it asks for
  pub redone : (asked : Option Request) → asked ≡ request_at r c.worker c.request → behind asked ≡ trusted_one trusts keeps r N c given
  redone asked is = ap behind is

  -- where there is none nothing changes
  pub not_redone : None ≡ request_at r c.worker c.request → N ≡ trusted_one trusts keeps r N c given
  not_redone is = sym (unchanged keeps N N) ∙ redone None is

  -- a map in order stays so
  pub stays_ordered : IsTrue (ascends N) → IsTrue (ascends (trusted_one trusts keeps r N c given))
  stays_ordered up =
      let m = trusted_meaning trusts keeps r (request_at r c.worker c.request) c.tid N given in
      ascends_put_all (within keeps (named m.written m.map ++ named m.made m.map)) N up

  -- and then those that are left
  pub goes_on : (rest after : List Commit) (left more : List (List Value)) (M : FlatMap) → rest ≡ c ∷ after → given ≡ first_of left → more ≡ rest_of left
      → M ≡ trusted_one trusts keeps r N c given → replayed_from trusts keeps r M after more ≡ replayed_from trusts keeps r N rest left
  goes_on rest after left more M rest_is given_is more_is is =
      ap (λ (m : FlatMap). replayed_from trusts keeps r m after more) (is ∙ ap (trusted_one trusts keeps r N c) given_is)
      ∙ ap (λ (vs : List (List Value)). replayed_from trusts keeps r (trusted_one trusts keeps r N c (first_of left)) after vs) more_is
      ∙ ap (λ (cs : List Commit). replayed_from trusts keeps r N cs left) (sym rest_is)
