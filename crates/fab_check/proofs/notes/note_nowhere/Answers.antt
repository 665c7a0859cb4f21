use Rattle.std.proofs.Common.{List, ℕ, [], ◌∷◌, None, refl, sym, ap, ◌∙◌}
use Rattle.fab_labelling.specs.Obligations.{all_fail, nowhere, owe}
use Rattle.fab_labelling.specs.declared.rule.LabelRule.TheVariants.{Fail}
use Rattle.fab_check.specs.Noted.{all_noted}
use Rattle.fab_check.proofs.Parts.{behind_one, at_none}
use Rattle.fab_check.proofs.notes.note_nowhere.Goals as goal

pub labels-preserved : goal.labels-preserved
labels-preserved c =
    let owed = λ (ls : List ℕ). all_fail c.args.at ls None in
    behind_one owed (λ (l : ℕ). owe Fail c.args.at (nowhere l) ∷ []) (λ _ _. refl) c.labels.verdicts c.note_nowhere.new.self (all_noted c.args.verdicts.now (owed c.args.from.now)) c.in-Some.label.now c.in-Some.after.now c.note_nowhere.ensures
    (ap (λ (ls : List ℕ). all_noted c.labels.verdicts (owed ls)) (sym c.in-Some.ensures.cases.0) ∙ c.labels.invariant)

pub returns : goal.returns
returns c =
    let owed = λ (ls : List ℕ). all_fail c.args.at ls None in
    at_none owed c.labels.verdicts (all_noted c.args.verdicts.now (owed c.args.from.now)) c.labels.rest.now refl c.in_default.ensures.cases c.labels.invariant
