-- Outcomes of texts that are one, or aren't.
use Rattle.std.proofs.Common.{◌≡◌, ℕ}
use Rattle.fab_base.specs.declared.limit.What.{What}
use Rattle.fab_tree.specs.declared.start.Start.{Start}
use Rattle.fab_front.specs.declared.texts.Outcome.TheVariants as outcome

pub same_at : {a b : ℕ} → outcome.Syntax a ≡ outcome.Syntax b → a ≡ b
same_at e = cc

pub same_what : {a b : What} → outcome.Limit a ≡ outcome.Limit b → a ≡ b
same_what e = cc

pub same_bundle : {a b : Start} → outcome.Bundle a ≡ outcome.Bundle b → a ≡ b
same_bundle e = cc

pub not_limit : {A : Type 0} {a : ℕ} {b : What} → outcome.Syntax a ≡ outcome.Limit b → A
not_limit e = absurd (cc)

pub not_bundle : {A : Type 0} {a : ℕ} {b : Start} → outcome.Syntax a ≡ outcome.Bundle b → A
not_bundle e = absurd (cc)

pub no_limit : {A : Type 0} {a : What} {b : Start} → outcome.Limit a ≡ outcome.Bundle b → A
no_limit e = absurd (cc)
