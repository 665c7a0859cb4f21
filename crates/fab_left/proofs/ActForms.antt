-- What a statement of each form does at once, by its parts.
use Rattle.std.proofs.Common.{◌≡◌, ℕ, Bool, List, ap}
use Rattle.fab_base.specs.declared.object.Tid.{Tid}
use Rattle.fab_tree.specs.declared.resolved.Class.{Class}
use Rattle.fab_tree.specs.declared.resolved.Local.{Local}
use Rattle.fab_tree.specs.declared.resolved.Statement.{Statement, roll-Statement, out-roll-Statement}
use Rattle.fab_tree.specs.declared.resolved.Statement.TheOpen as form
use Rattle.fab_language.specs.Meaning.{◌>>◌, charge}
use Rattle.fab_left.specs.Acts.{work, act}
use Rattle.fab_left.specs.ErasedActs as erased

pub act_is : (tid : Tid) (x : form.Statement-F Statement) → act tid (roll-Statement x) ≡ (charge >> work tid x)
act_is tid x = ap (λ y. charge >> work tid y) (out-roll-Statement x)

pub erased_act_is : (sees shows : ℕ → Bool) (classes : List Class) (locals : List Local) (tid : Tid) (x : form.Statement-F Statement)
    → erased.act sees shows classes locals tid (roll-Statement x) ≡ (charge >> erased.work sees shows classes locals tid x)
erased_act_is sees shows classes locals tid x = ap (λ y. charge >> erased.work sees shows classes locals tid y) (out-roll-Statement x)
