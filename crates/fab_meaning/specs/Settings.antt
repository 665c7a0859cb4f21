-- The erased meaning of what stands in a method, in the setting in which it is done.
use Rattle.std.specs.Prelude.{ℕ, Bool, true, List, [], map, Option, slice_get, if◌then◌else◌}
use Rattle.std.specs.List.{list_all}
use Rattle.fab_base.specs.declared.object.Tid.{Tid}
use Rattle.fab_base.specs.declared.object.Value.{Value}
use Rattle.fab_tree.specs.declared.expression.Operator.{Operator}
use Rattle.fab_tree.specs.declared.resolved.Class.{Class}
use Rattle.fab_tree.specs.declared.resolved.Expression.{Expression}
use Rattle.fab_tree.specs.declared.resolved.Operand.{Operand}
use Rattle.fab_tree.specs.declared.resolved.Method.{Method}
use Rattle.fab_tree.specs.declared.resolved.Right.{Right}
use Rattle.fab_tree.specs.declared.resolved.Statement.{Statement}
use Rattle.fab_tree.specs.declared.resolved.Use.{Use}
use Rattle.fab_language.specs.Meaning.{M, ◌>>=◌, ◌>>◌, gives, create, holds, local, noted_down}
use Rattle.fab_labelling.specs.Obligations.{class_of_local, label_of_local}
use Rattle.fab_erasure.specs.Erased as e
use Rattle.fab_erasure.specs.Erased.{Part}
use Rattle.fab_left.specs.Deeds.{Deed, passed, into, again, entering}
use Rattle.fab_left.specs.ErasedActs as erased
use Rattle.fab_meaning.specs.declared.setting.Setting.{Setting}
use Rattle.fab_meaning.specs.declared.setting.Sight.{Sight}
use Rattle.fab_meaning.specs.Sights.{sees, shows}

-- ---- names

-- the label of a local is seen, if there is such a local
abbrev pub sees_local : Sight → Method → ℕ → Bool
sees_local sight m x = list_all (sees sight) (label_of_local (slice_get m.locals x))

abbrev pub class_behind : Setting → Method → Use → Option Class
class_behind c m x = class_of_local c.program.now.classes (slice_get m.locals x.number)

abbrev pub sees_read : Setting → Method → Use → Bool
sees_read c m x = e.sees_read (sees c.sight) (shows c.sight) c.program.now.classes m.locals x

-- ---- expressions

abbrev pub part : Setting → Method → Expression → Part
part c m x = e.part (sees c.sight) (shows c.sight) c.program.now.classes m.locals x

abbrev pub value : Setting → Method → Expression → M Value
value c m x = (part c m x).run

abbrev pub is_seen : Setting → Method → Expression → Bool
is_seen c m x = (part c m x).seen

-- the other operands of a chain, each with its operator
abbrev pub others_of : Setting → Method → List Operand → List (Operator × Part)
others_of c m us = map (λ u. (u.operator, part c m u.operand)) us

abbrev pub values : Setting → Method → List Expression → M (List Value)
values c m xs = e.values (sees c.sight) (shows c.sight) c.program.now.classes m.locals xs

-- what a method returns
abbrev pub returned : Setting → Method → M (Option Value)
returned c m = e.returned (sees c.sight) (shows c.sight) c.program.now.classes m.locals m.returns m.result

-- ---- locals

-- a local takes a value
abbrev pub takes : Sight → Method → ℕ → Value → M (Unit {0})
takes sight m = erased.assign_shown (sees sight) (shows sight) m.locals

abbrev pub taken : Sight → Method → ℕ → Value → M Deed
taken sight m x v = takes sight m x v >> gives passed

-- what a local holds before it is assigned
abbrev pub blank_of : Method → ℕ → Value
blank_of m x = e.blank_of (λ l. true) (λ l. true) [] m.locals (slice_get m.locals x)

-- ---- statements

abbrev pub downgraded : Sight → Value → ℕ → ℕ → Value → M Value
downgraded sight blank from to v = e.downgraded (sees sight) (shows sight) [] [] blank from to v

-- a field of the object of a local is written
abbrev pub writing : Setting → Method → Use → ℕ → Expression → ℕ → M Deed
writing c m x field y site = do
  v ← value c m y
  o ← local x.number
  e.write_shown (sees c.sight) (shows c.sight) site field v o
  gives passed

-- a method is called with what arguments come to
abbrev pub calling : Setting → Method → Use → List Expression → Option ℕ → M Deed
calling c m n xs target = values c m xs >>= λ vs. gives (entering n.number vs target)

-- a local takes an object of what arguments come to
abbrev pub making : Setting → Method → Tid → ℕ → ℕ → ℕ → ℕ → List Expression → M Deed
making c m tid x store class site xs =
    values c m xs >>= λ vs. create tid store class site (e.fields_shown (sees c.sight) (shows c.sight) class vs) >>= taken c.sight m x

-- a local takes what is downgraded from a label to another
abbrev pub lowering : Setting → Method → ℕ → ℕ → ℕ → ℕ → Expression → M Deed
lowering c m x from to site y = value c m y >>= λ v. downgraded c.sight (blank_of m x) from to v >>= noted_down site >>= taken c.sight m x

abbrev pub right_act : Setting → Method → Tid → ℕ → Right → M Deed
right_act c m tid x r = erased.right_act (sees c.sight) (shows c.sight) c.program.now.classes m.locals tid x r

-- one block where a condition is true, and the other where it isn't
abbrev pub choice : Setting → Method → Expression → List Statement → List Statement → M Deed
choice c m test a b = value c m test >>= λ v. gives (if is_seen c m test then into (if holds v then a else b) else passed)

-- a block as long as a condition is true
abbrev pub repeat : Setting → Method → Expression → List Statement → M Deed
repeat c m test a = value c m test >>= λ v. gives (if is_seen c m test then (if holds v then again a else passed) else passed)

abbrev pub act : Setting → Method → Tid → Statement → M Deed
act c m tid s = erased.act (sees c.sight) (shows c.sight) c.program.now.classes m.locals tid s
