-- Texts put together.
use Rattle.std.proofs.Common.{◌≡◌, ℕ, List, ◌++◌, Some, find, ap, ◌∙◌, append_assoc}
use Rattle.fab_base.specs.declared.object.Oid.{Oid}
use Rattle.fab_base.specs.FlatMap.{is_same}
use Rattle.fab_tree.specs.declared.resolved.Root.{Root}
use Rattle.fab_tree.specs.declared.resolved.Resolved.{Resolved}
use Rattle.fab_marks.specs.Labels.{object_text, root_text, short}

-- a root by its name
pub named : (r : Resolved) (o : Oid) (x : Root) (out new : List ℕ) → Some x ≡ find (λ y. is_same y.oid o) r.roots
    → new ≡ out ++ short 12 x.name.text → new ≡ out ++ object_text r o
named r o x out new found put = put ∙ ap (λ z. out ++ root_text r o z) found

-- two texts, one behind the other, and three
pub two : (out first new a b : List ℕ) → first ≡ out ++ a → new ≡ first ++ b → new ≡ out ++ (a ++ b)
two out first new a b put more = more ∙ ap (λ z. z ++ b) put ∙ append_assoc out a b

pub three : (out first second new a b c : List ℕ) → first ≡ out ++ a → second ≡ first ++ b → new ≡ second ++ c → new ≡ out ++ (a ++ b ++ c)
three out first second new a b c put more last = two out second new (a ++ b) c (two out first second a b put more) last
