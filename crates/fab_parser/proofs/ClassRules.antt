-- Classes and their fields, part by part.
use Rattle.std.proofs.Common.{◌≡◌, ℕ, List, refl}
use Rattle.fab_base.specs.declared.object.Width.TheVariants as widths
use Rattle.fab_base.specs.declared.token.Mark.TheVariants as m
use Rattle.fab_base.specs.declared.token.Token.{Token}
use Rattle.fab_tree.specs.declared.name.Name.{Name}
use Rattle.fab_tree.specs.declared.declaration.Sort.{Sort}
use Rattle.fab_tree.specs.declared.declaration.Sort.TheVariants as sorts
use Rattle.fab_tree.specs.declared.declaration.Field.{Field}
use Rattle.fab_tree.specs.declared.declaration.Class.{Class}
use Rattle.fab_tree.specs.Lists.{Is, IsName, name, Repeated}
use Rattle.fab_tree.specs.Declarations.{IsSort, number, class, IsField, field, IsClass}
use Rattle.fab_reading.specs.Reading.{Lacks, BeginsWith, Read, any}
use Rattle.fab_reading.proofs.Rules.{Then, Sign, Going, followed, lacks_too, start, turn}
use Rattle.fab_reading.proofs.TokenRules.{mark_read}
use Rattle.fab_parser.proofs.Chains.{chain}

-- ---- sort = "int" | name

sort_int : {a : List Token} {v : Sort} {b : List Token} → BeginsWith m.Int a → IsSort a v b → (v ≡ sorts.Number widths.Int) × Is m.Int a b
sort_int e (number {w = widths.Int} i) = (refl, i)
sort_int e (class (name g)) = absurd (cc)

pub int_read : {room : ℕ} {a b : List Token} → Is m.Int a b → Read IsSort any room a (sorts.Number widths.Int) b
int_read i = mark_read m.Int i refl (λ x y. number {w = widths.Int}) (λ x v y. sort_int)

named_back : {a : List Token} {v : Sort} {b : List Token} → Lacks m.Int a → IsSort a v b → (x : Name) × (v ≡ sorts.Class x) × IsName a x b
named_back h (number {w = widths.Int} i) = absurd (h _ i)
named_back h (class {x = x} i) = (x, refl, i)

pub named_start : {room : ℕ} (a : List Token) → Lacks m.Int a → Going IsSort any room a IsName sorts.Class room a
named_start {room = room} a h = turn sorts.Class (start IsSort any room a) (λ more v after. class) (λ more v after same d f. named_back (λ c i. lacks_too a more c h same i) d)

-- ---- field = sort name ";"

field_back : (a : List Token) (v : Field) (b : List Token) → IsField a v b
    → (x : Sort × (Name × Unit {0})) × (v ≡ record { sort = x.0; name = x.1.0 }) × Then IsSort (Then IsName (Sign m.Semicolon)) a x b
field_back a v b (field {x = x} {y = y} p q r) = ((x, (y, tt)), refl, followed _ p (followed _ q r))

pub field_start : {room : ℕ} (a : List Token) → Going IsField any room a (Then IsSort (Then IsName (Sign m.Semicolon))) (λ v. record { sort = v.0; name = v.1.0 }) room a
field_start = chain (λ v. record { sort = v.0; name = v.1.0 }) (λ more v after p. field p.first p.second.first p.second.second) field_back

-- ---- class = "class" name "label" name "access" name "{" {field} "}"

abbrev pub ClassParts : Type 0
ClassParts = Unit {0} × (Name × (Unit {0} × (Name × (Unit {0} × (Name × (Unit {0} × (List Field × Unit {0})))))))

abbrev pub class_of : ClassParts → Class
class_of v = record { name = v.1.0; label = v.1.1.1.0; access = v.1.1.1.1.1.0; fields = v.1.1.1.1.1.1.1.0 }

abbrev pub ClassChain : List Token → ClassParts → List Token → Type 0
ClassChain =
    Then (Sign m.Class) (Then IsName (Then (Sign m.Label) (Then IsName (Then (Sign m.Access) (Then IsName (Then (Sign m.LeftBrace)
    (Then (Repeated IsField) (Sign m.RightBrace))))))))

class_back : (a : List Token) (v : Class) (b : List Token) → IsClass a v b → (x : ClassParts) × (v ≡ class_of x) × ClassChain a x b
class_back a v b (class {x = x} {y = y} {z = z} {ws = ws} q0 q1 q2 q3 q4 q5 q6 q7 q8) = (
  (tt, (x, (tt, (y, (tt, (z, (tt, (ws, tt)))))))),
  refl,
  followed _ q0 (followed _ q1 (followed _ q2 (followed _ q3 (followed _ q4 (followed _ q5 (followed _ q6
      (followed _ q7 q8))))))),
)

pub class_start : {room : ℕ} (a : List Token) → Going IsClass any room a ClassChain class_of room a
class_start =
    chain class_of
    (λ more v after p. let p1 = p.second in let p2 = p1.second in let p3 = p2.second in let p4 = p3.second in let p5 = p4.second in
    let p6 = p5.second in let p7 = p6.second in
    class p.first p1.first p2.first p3.first p4.first p5.first p6.first p7.first p7.second)
    class_back
