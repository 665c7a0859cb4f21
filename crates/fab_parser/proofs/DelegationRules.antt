-- Delegations, part by part.
use Rattle.std.proofs.Common.{◌≡◌, ℕ, List, refl}
use Rattle.fab_base.specs.declared.token.Mark.TheVariants as m
use Rattle.fab_base.specs.declared.token.Token.{Token}
use Rattle.fab_tree.specs.declared.name.Name.{Name}
use Rattle.fab_tree.specs.declared.declaration.Delegation.{Delegation}
use Rattle.fab_tree.specs.Lists.{IsName}
use Rattle.fab_tree.specs.Declarations.{IsDelegation, delegation}
use Rattle.fab_reading.specs.Reading.{any}
use Rattle.fab_reading.proofs.Rules.{Then, Sign, Going, followed}
use Rattle.fab_parser.proofs.Chains.{chain}

abbrev pub DelegationParts : Type 0
DelegationParts = Name × (Unit {0} × (Name × Unit {0}))

abbrev pub delegation_of : DelegationParts → Delegation
delegation_of v = record { actor = v.0; principal = v.1.1.0 }

-- name "actsfor" name ";"
abbrev pub DelegationChain : List Token → DelegationParts → List Token → Type 0
DelegationChain = Then IsName (Then (Sign m.ActsFor) (Then IsName (Sign m.Semicolon)))

delegation_back : (a : List Token) (v : Delegation) (b : List Token) → IsDelegation a v b → (w : DelegationParts) × (v ≡ delegation_of w) × DelegationChain a w b
delegation_back a v b (delegation {x = x} {y = y} p q r s) = ((x, (tt, (y, tt))), refl, followed _ p (followed _ q (followed _ r s)))

pub delegation_start : {room : ℕ} (a : List Token) → Going IsDelegation any room a DelegationChain delegation_of room a
delegation_start = chain delegation_of (λ more v after p. let q = p.second in let r = q.second in delegation p.first q.first r.first r.second) delegation_back
