use Rattle.std.proofs.Common.{List, [], ◌∷◌, map, refl, sym, ap, ◌∙◌}
use Rattle.fab_tree.specs.declared.resolved.Root.{Root}
use Rattle.fab_labelling.specs.Obligations.{root_owes}
use Rattle.fab_check.specs.Noted.{all_noted}
use Rattle.fab_check.proofs.Parts.{behind_one, at_none}
use Rattle.fab_check.proofs.methods.note_roots.Goals as goal

pub roots-preserved : goal.roots-preserved
roots-preserved c =
    behind_one (map root_owes) (λ (x : Root). root_owes x ∷ []) (λ _ _. refl) c.roots.verdicts c.note_placement.new.verdicts (all_noted c.args.verdicts.now (map root_owes c.args.roots.now)) c.in-Some.root.now c.in-Some.after.now c.note_placement.ensures
    (ap (λ (xs : List Root). all_noted c.roots.verdicts (map root_owes xs)) (sym c.in-Some.ensures.cases.0) ∙ c.roots.invariant)

pub returns : goal.returns
returns c =
    at_none (map root_owes) c.roots.verdicts (all_noted c.args.verdicts.now (map root_owes c.args.roots.now)) c.roots.rest.now refl c.in_default.ensures.cases c.roots.invariant
