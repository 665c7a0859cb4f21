use Rattle.std.proofs.Common.{◌≡◌, rules, sym, ap, ◌∙◌}
use denote.Enum.Bare.{same_true, true_same}
use Rattle.fab_base.specs.contracts.token.Mark.{the_type}
use Rattle.fab_base.specs.declared.token.Mark.{Mark}
use Rattle.fab_base.specs.declared.token.Kind.TheVariants as k
use Rattle.fab_reading.proofs.reading.is_mark.Goals as goal

one_mark : (a b : Mark) → k.Fixed a ≡ k.Fixed b → a ≡ b
one_mark a b e = cc

pub returns-in-Fixed : goal.returns-in-Fixed
returns-in-Fixed c =
    (λ h. c.in-Fixed.is ∙ ap k.Fixed (same_true the_type (search rules) _ _ (sym c.eq.ensures ∙ h)), λ e. c.eq.ensures ∙ true_same the_type _ _ (one_mark _ _ (sym c.in-Fixed.is ∙ e)))
