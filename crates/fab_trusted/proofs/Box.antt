-- A small bundle for worked examples: a vault that A alone may have influenced, and a box at a hostile store.
--
--     principal A; worker w1; store s1; hostile store h1; w1 actsfor A; s1 actsfor A;
--     label T = {A <-}; label P = {}; label S = {A ->}; label Q = {A ->; A <-};
--     class Vault label T access P { int v; }
--     class Box label P access P { int f; }
use Rattle.std.proofs.Common.{ℕ, ℤ, pos, true, false, List, [], ◌∷◌, Option, Some, None, codes}
use Rattle.fab_base.specs.declared.label.Policy.{Policy}
use Rattle.fab_base.specs.declared.object.Oid.{Oid}
use Rattle.fab_base.specs.declared.object.Object.{Object}
use Rattle.fab_base.specs.declared.object.Value.TheVariants.{Int, Ref}
use Rattle.fab_base.specs.declared.object.Width.TheVariants as widths
use Rattle.fab_tree.specs.declared.name.Name.{Name}
use Rattle.fab_tree.specs.declared.declaration.Role.{Role}
use Rattle.fab_tree.specs.declared.declaration.Role.TheVariants as roles
use Rattle.fab_tree.specs.declared.resolved.Use.{Use}
use Rattle.fab_tree.specs.declared.resolved.Sort.{Sort}
use Rattle.fab_tree.specs.declared.resolved.Sort.TheVariants as sorts
use Rattle.fab_tree.specs.declared.resolved.Class.{Class}
use Rattle.fab_tree.specs.declared.resolved.Local as l
use Rattle.fab_tree.specs.declared.resolved.Method.{Method}
use Rattle.fab_tree.specs.declared.resolved.NamedLabel.{NamedLabel}
use Rattle.fab_tree.specs.declared.resolved.Principal.{Principal}
use Rattle.fab_tree.specs.declared.resolved.Asked.{Asked}
use Rattle.fab_tree.specs.declared.resolved.Root.{Root}
use Rattle.fab_tree.specs.declared.resolved.Statement.{Statement}
use Rattle.fab_tree.specs.declared.resolved.Resolved.{Resolved}

abbrev pub name : Name
name = record { text = codes "x"; at = 0 }

abbrev pub used : ℕ → Use
used number = record { number = number; at = 0 }

abbrev principal : Role → Option ℕ → Principal
principal role node = record { role = role; name = name; node = node }

-- `A ->` or `A <-`
abbrev of_a : List Policy
of_a = record { owner = 0; others = [] } ∷ []

abbrev label : List Policy → List Policy → NamedLabel
label conf integ = record { name = name; label = record { conf = conf; integ = integ } }

abbrev class : ℕ → Class
class of = record { name = name; label = used of; access = used 1; fields = record { sort = sorts.Number widths.Int; name = name } ∷ [] }

abbrev pub classes : List Class
classes = class 0 ∷ class 1 ∷ []

abbrev local : Sort → ℕ → l.Local
local sort of = record { sort = sort; name = name; label = used of }

abbrev pub vault : Oid
vault = record { store = 1; class = 0; worker = 65535; boot = 0; number = 0; site = 65535; index = 0 }

abbrev pub box : Oid
box = record { store = 2; class = 1; worker = 65535; boot = 0; number = 1; site = 65535; index = 0 }

abbrev pub holding : ℕ → ℤ → Object
holding class n = record { class = class; fields = Int n ∷ [] }

abbrev root : Oid → ℤ → Root
root oid n = record { name = name; oid = oid; values = Int n ∷ [] }

-- a method of the vault `t` and the box `b`, both under T, and of the numbers `x` and `y` under these labels
abbrev pub locals : ℕ → ℕ → List l.Local
locals x y = local (sorts.Class (used 0)) 0 ∷ local (sorts.Class (used 1)) 0 ∷ local (sorts.Number widths.Int) x ∷ local (sorts.Number widths.Int) y ∷ []

abbrev pub method : ℕ → ℕ → ℕ → List Statement → Method
method begin x y body = record {
  name = name;
  parameters = 2;
  locals = locals x y;
  returns = None;
  begin = used begin;
  fails = false;
  authority = used 0 ∷ [];
  body = body;
  result = None;
}

abbrev asked : Asked
asked = record { request = record { worker = 0; number = 1; method = 0; args = Ref vault ∷ Ref box ∷ [] }; at = 0 }

-- w1 asks for it once; both roots hold 0
abbrev pub bundle : Method → Resolved
bundle m = record {
  nodes = principal roles.Principal None ∷ principal (roles.Worker false) (Some 0) ∷ principal (roles.Store false) (Some 1) ∷ principal (roles.Store true) (Some 2) ∷ [];
  pairs = (1, 0) ∷ (2, 0) ∷ [];
  labels = label [] of_a ∷ label [] [] ∷ label of_a [] ∷ label of_a of_a ∷ [];
  classes = classes;
  methods = m ∷ [];
  roots = root vault (pos 0) ∷ root box (pos 0) ∷ [];
  sessions = record { worker = used 0; requests = asked ∷ [] } ∷ [];
  posts = [];
  crashes = [];
  cache = 0;
  schedule = [];
}
