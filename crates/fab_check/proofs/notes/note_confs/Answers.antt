use Rattle.std.proofs.Common.{List, ℕ, [], ◌∷◌, refl, sym, ap, ◌∙◌}
use Rattle.fab_labelling.specs.Obligations.{all_conf, conf, owe}
use Rattle.fab_labelling.specs.declared.rule.LabelRule.TheVariants.{Access}
use Rattle.fab_check.specs.Noted.{all_noted}
use Rattle.fab_check.proofs.Parts.{behind_one, at_none}
use Rattle.fab_check.proofs.notes.note_confs.Goals as goal

pub labels-preserved : goal.labels-preserved
labels-preserved c =
    let owed = λ (ls : List ℕ). all_conf Access c.args.at ls c.args.to in
    behind_one owed (λ (l : ℕ). owe Access c.args.at (conf l c.args.to) ∷ []) (λ _ _. refl) c.labels.verdicts c.note_conf.new.self (all_noted c.args.verdicts.now (owed c.args.from.now)) c.in-Some.label.now c.in-Some.after.now c.note_conf.ensures
    (ap (λ (ls : List ℕ). all_noted c.labels.verdicts (owed ls)) (sym c.in-Some.ensures.cases.0) ∙ c.labels.invariant)

pub returns : goal.returns
returns c =
    let owed = λ (ls : List ℕ). all_conf Access c.args.at ls c.args.to in
    at_none owed c.labels.verdicts (all_noted c.args.verdicts.now (owed c.args.from.now)) c.labels.rest.now refl c.in_default.ensures.cases c.labels.invariant
