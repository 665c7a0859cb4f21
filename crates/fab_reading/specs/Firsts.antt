-- What a name begins with.
use Rattle.std.proofs.Common.{IsTrue, List, refl, sym, subst}
use Rattle.fab_base.specs.declared.token.Token.{Token}
use Rattle.fab_tree.specs.declared.name.Name.{Name}
use Rattle.fab_tree.specs.Lists.{name, IsName}
use Rattle.fab_reading.specs.Reading.{Starts, begins_name}

pub name_begins : (a : List Token) (v : Name) (b : List Token) → IsName a v b → Starts begins_name a
name_begins a v b (name e) = subst (λ x. IsTrue (begins_name x)) (sym e) refl
