-- A bundle within the limits whose names are right but for its holes is one that inference takes.
use Rattle.std.proofs.Common.{◌≡◌, ℕ, ◌≤◌, List, [], ◌∷◌, map, All, None, sym, ◌∙◌, subst}
use Rattle.std.proofs.lemmas.List.{length-map}
use Rattle.std.proofs.lemmas.List.Elements.{All-nil, All-cons, All-head, All-tail}
use Rattle.fab_tree.specs.declared.program.Method.{Method}
use Rattle.fab_tree.specs.declared.start.Start.{Start}
use Rattle.fab_tree.specs.declared.resolved.Method.{Method as NumberedMethod}
use Rattle.fab_tree.specs.Limits.{first_passed}
use Rattle.fab_language.specs.MethodNumbers.{method_of, methods_of}
use Rattle.fab_language.specs.Numbers.{label_of, resolved}
use Rattle.fab_authority.specs.Authority.{IsFew, HasFew}
use Rattle.fab_holes.specs.Holes.{filled_method, filled}
use Rattle.fab_holes.proofs.Filling.{as_many, method_filled, methods}
use Rattle.fab_infer.specs.Small.{IsSmall}
use Rattle.fab_infer.proofs.Limited.{few_labels, few_locals, few_methods, numbered_locals}

module _ (start : Start) (choice : List ℕ) where
  abbrev new : Start
  new = filled start choice

  few_before_in : (ms : List Method) (h k : ℕ) → All IsFew (methods_of new (methods start choice ms h).0 k).0 → All IsFew (methods_of start ms k).0
  few_before_in [] h k all = All-nil IsFew
  few_before_in (m ∷ ms) h k all =
      let x = filled_method start choice m h in
      let rest = (methods start choice ms x.1).0 in
      let is = method_filled start choice m h k in
      let first = method_of new x.0 k in
      All-cons IsFew (method_of start m k).0 (methods_of start ms (method_of start m k).1).0
      (subst (λ (t : NumberedMethod × ℕ). IsFew t.0) is (All-head IsFew first.0 (methods_of new rest first.1).0 all))
      (few_before_in ms x.1 (method_of start m k).1 (subst (λ (t : NumberedMethod × ℕ). All IsFew (methods_of new rest t.1).0) is (All-tail IsFew first.0 (methods_of new rest first.1).0 all)))

  pub few_before : HasFew (resolved new) → HasFew (resolved start)
  few_before few = record { principals = few.principals; authority = few_before_in start.program.methods 0 0 few.authority }

pub small_within : (s : Start) → first_passed s ≡ None → IsSmall (resolved s)
small_within s within = record {
  labels = subst (λ n. n ≤ 64) (sym (length-map s.program.labels (label_of s))) (few_labels s within);
  methods = subst (λ n. n ≤ 256) (sym (as_many (map (method_of s) s.program.methods) 0 ∙ length-map s.program.methods (method_of s))) (few_methods s within);
  locals = numbered_locals s s.program.methods 0 256 (few_locals s within);
}
