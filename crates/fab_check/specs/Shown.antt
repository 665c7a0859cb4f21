-- What contracts see of a place in a method.
use Rattle.std.specs.Prelude.{ℕ, List, ◌++◌, Option, slice_get}
use Rattle.fab_tree.specs.declared.statement.Downgrade.{Downgrade}
use Rattle.fab_tree.specs.declared.resolved.Use.{Use}
use Rattle.fab_tree.specs.declared.resolved.Class.{Class}
use Rattle.fab_tree.specs.declared.resolved.Expression.{Expression}
use Rattle.fab_tree.specs.declared.resolved.Return.{Return}
use Rattle.fab_tree.specs.declared.resolved.Returns.{Returns}
use Rattle.fab_tree.specs.declared.resolved.Right.{Right}
use Rattle.fab_tree.specs.declared.resolved.Statement.{Statement}
use Rattle.fab_labelling.specs.declared.rule.LabelRule.TheVariants.{Write}
use Rattle.fab_labelling.specs.Obligations as o
pub use Rattle.fab_authority.specs.Authority.{numbers_of}
use Rattle.fab_labelling.specs.Obligations.{Owed, Part, part}
use Rattle.fab_check.specs.declared.labels.Names.{Names}
use Rattle.fab_check.specs.declared.notes.Under.{Under}
use Rattle.fab_check.specs.declared.scope.Scope.{Scope}

-- ---- expressions

abbrev pub labels_of_local : Names → Use → List ℕ
labels_of_local n x = o.local_labels n.classes.now n.locals.now x

abbrev pub class_reached : Names → Use → Option Class
class_reached n x = o.class_behind n.classes.now n.locals.now x

abbrev pub part_of : Names → Expression → Part
part_of n e = part n.classes.now n.locals.now e

abbrev pub labels_of : Names → Expression → List ℕ
labels_of n e = (part_of n e).labels

abbrev pub owes_of : Names → Under → Expression → List Owed
owes_of n u e = (part_of n e).owes u.pc.now u.failure

abbrev pub reaching : Names → Under → Use → List Owed
reaching n u x = o.reaching n.classes.now n.locals.now x u.pc.now u.failure

abbrev pub given : Names → Under → Expression → ℕ → List Owed
given n u e to = o.given n.classes.now n.locals.now u.pc.now u.failure e to

abbrev pub all_given : Names → Under → List Expression → List ℕ → List Owed
all_given n u es to = o.all_given n.classes.now n.locals.now u.pc.now u.failure es to

-- ---- statements

abbrev pub call_owes : Scope → Under → Use → List Expression → List Owed
call_owes s u x es = o.call_owes s.names.classes.now s.methods.now s.names.locals.now (numbers_of s.authority.now) u.pc.now u.failure x es

abbrev pub making : Scope → Under → ℕ → List Expression → Use → List Owed
making s u at es x =
    o.making s.names.classes.now s.methods.now s.names.locals.now (numbers_of s.authority.now) u.pc.now u.failure at es (slice_get s.names.classes.now x.number)

abbrev pub downgrading : Scope → Downgrade → ℕ → ℕ → ℕ → Owed
downgrading s d at from to = o.downgrading s.names.classes.now s.methods.now s.names.locals.now (numbers_of s.authority.now) d at from to

-- the label of what a method returns
abbrev pub returned : Scope → Use → List ℕ
returned s x = o.returned s.names.classes.now s.methods.now s.names.locals.now (numbers_of s.authority.now) (slice_get s.methods.now x.number)

abbrev pub right_owes : Scope → Under → Right → List Owed
right_owes s u r = o.right_owes s.names.classes.now s.methods.now s.names.locals.now (numbers_of s.authority.now) u.pc.now u.failure r

abbrev pub right_labels : Scope → Right → List ℕ
right_labels s r = o.right_labels s.names.classes.now s.methods.now s.names.locals.now (numbers_of s.authority.now) r

abbrev pub assigning : Scope → Under → ℕ → Right → ℕ → List Owed
assigning s u x r at = right_owes s u r ++ o.to_each (o.all_flow Write at (u.pc.now ++ right_labels s r)) (o.label_of_local (slice_get s.names.locals.now x))

abbrev pub writing : Scope → Under → Use → Expression → List Owed
writing s u x e = o.writing s.names.classes.now s.methods.now s.names.locals.now (numbers_of s.authority.now) u.pc.now x e (class_reached s.names x)

abbrev pub statement_owes : Scope → Under → Statement → List Owed
statement_owes s u x = o.statement_owes s.names.classes.now s.methods.now s.names.locals.now (numbers_of s.authority.now) x u.pc.now u.failure

abbrev pub block_owes : Scope → List ℕ → Option ℕ → List Statement → List Owed
block_owes s pc failure xs = o.block_owes s.names.classes.now s.methods.now s.names.locals.now (numbers_of s.authority.now) xs pc failure

abbrev pub returning : Scope → Under → Option Returns → Option Return → List Owed
returning s u returns x = o.return_owes s.names.classes.now s.methods.now s.names.locals.now (numbers_of s.authority.now) returns x u.pc.now u.failure
