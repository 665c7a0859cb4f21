-- What the authority of a set of principals adds to covering policies.
use Rattle.std.specs.Prelude.{ℕ, IsBitSet}
use Rattle.fab_base.specs.Principals.{Delegations, ActsFor}

-- somebody in the set acts for the principal
abbrev pub HasAuthority : Delegations → ℕ → ℕ → Type 0
HasAuthority d set owner = (o : ℕ) × IsBitSet set o × ActsFor d o owner
