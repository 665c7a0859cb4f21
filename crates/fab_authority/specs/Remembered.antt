-- When answers that are remembered are right.
use Rattle.std.specs.Prelude.{◌≡◌, ℕ, Bool, true, false, slice_index}
use Rattle.fab_tree.specs.declared.resolved.Resolved.{Resolved}
use Rattle.fab_labelling.specs.Obligations.{flows, conf, holds}
use Rattle.fab_principals.specs.Sets.{in_set}
use Rattle.fab_authority.specs.declared.answers.Answers.{Answers}
use Rattle.fab_authority.specs.Decided.{decided}

-- what was answered to a test of two numbers is what it says
pub record AreRight (says : ℕ → ℕ → Bool) (answers : Answers) : Type 0 where
  pub yes : (a b : ℕ) → in_set (slice_index answers.yes a) b ≡ true → says a b ≡ true
  pub no : (a b : ℕ) → in_set (slice_index answers.no a) b ≡ true → says a b ≡ false

-- so are the answers on flow, on flow of confidentiality, and on which store may hold which class
pub record HasAnswers (r : Resolved) (flowing hiding placing : Answers) : Type 0 where
  pub of_flows : AreRight (λ a b. decided r (flows a b)) flowing
  pub of_conf : AreRight (λ a b. decided r (conf a b)) hiding
  pub of_holds : AreRight (λ a b. decided r (holds a b)) placing
