use Rattle.std.proofs.Common.{List, ℕ, [], ◌∷◌, refl, sym, ap, ◌∙◌}
use Rattle.fab_labelling.specs.Obligations.{all_flow, flows, owe}
use Rattle.fab_check.specs.Noted.{all_noted}
use Rattle.fab_check.proofs.Parts.{behind_one, at_none}
use Rattle.fab_check.proofs.notes.note_flows.Goals as goal

pub labels-preserved : goal.labels-preserved
labels-preserved c =
    let owed = λ (ls : List ℕ). all_flow c.args.rule c.args.at ls c.args.to in
    behind_one owed (λ (l : ℕ). owe c.args.rule c.args.at (flows l c.args.to) ∷ []) (λ _ _. refl) c.labels.verdicts c.note_flow.new.self (all_noted c.args.verdicts.now (owed c.args.from.now)) c.in-Some.label.now c.in-Some.after.now c.note_flow.ensures
    (ap (λ (ls : List ℕ). all_noted c.labels.verdicts (owed ls)) (sym c.in-Some.ensures.cases.0) ∙ c.labels.invariant)

pub returns : goal.returns
returns c =
    let owed = λ (ls : List ℕ). all_flow c.args.rule c.args.at ls c.args.to in
    at_none owed c.labels.verdicts (all_noted c.args.verdicts.now (owed c.args.from.now)) c.labels.rest.now refl c.in_default.ensures.cases c.labels.invariant
