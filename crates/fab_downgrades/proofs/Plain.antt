-- The downgrades of a program with their sites and labels are those with kinds and places, without these.
use Rattle.std.proofs.Common.{◌≡◌, List, [], ◌∷◌, ◌++◌, map, refl, ap, ◌∙◌, subst}
use Rattle.std.specs.List.{flat_map}
use Rattle.std.proofs.lemmas.List.{map-append}
use Rattle.fab_tree.specs.declared.resolved.Method.{Method}
use Rattle.fab_tree.specs.declared.resolved.Right.{Right}
use Rattle.fab_tree.specs.declared.resolved.Right.TheVariants as rights
use Rattle.fab_tree.specs.declared.resolved.Statement.{Statement, ind-Statement, roll-Statement, fold-roll-Statement, map-Statement}
use Rattle.fab_tree.specs.declared.resolved.Statement.TheOpen as s
use Rattle.fab_erasure.specs.Agreement.{Downgrading, all_of, downgrade_step, downgrades_in, downgrades_in_right}
use Rattle.fab_downgrades.specs.declared.rows.Downgraded.{Downgraded}
use Rattle.fab_downgrades.specs.Downgraded.{all_in, downgraded_by, downgraded_by_right, downgraded_in, downgraded_step, plain}

abbrev IsPlain : List Downgraded → List Downgrading → Type 0
IsPlain ds es = map plain ds ≡ es

both : (ds fs : List Downgraded) (es gs : List Downgrading) → IsPlain ds es → IsPlain fs gs → IsPlain (ds ++ fs) (es ++ gs)
both ds fs es gs h k = map-append plain ds fs ∙ ap (λ (l : List Downgrading). l ++ map plain fs) h ∙ ap (λ (l : List Downgrading). es ++ l) k

abbrev OfStatement : Statement → Type 0
OfStatement x = IsPlain (downgraded_in x) (downgrades_in x)

abbrev Known : Type 0
Known = (x : Statement) × OfStatement x

abbrev bare : List Known → List Statement
bare ks = map (λ (k : Known). k.0) ks

abbrev pieces : s.Statement-F Known → s.Statement-F Statement
pieces y = map-Statement Known Statement (λ k. k.0) y

of_right : (x : Right) → IsPlain (downgraded_by_right x) (downgrades_in_right x)
of_right (rights.Plain e) = refl
of_right (rights.Call x es) = refl
of_right (rights.New x store es site at) = refl
of_right (rights.Downgrade k e from to site at) = refl

rows : (ks : List Known) → IsPlain (all_in (map downgraded_in (bare ks))) (all_of (map downgrades_in (bare ks)))
rows [] = refl
rows (k ∷ ks) = both (downgraded_in k.0) (all_in (map downgraded_in (bare ks))) (downgrades_in k.0) (all_of (map downgrades_in (bare ks))) k.1 (rows ks)

two_rows : (xs ys : List Known)
    → IsPlain (all_in (map downgraded_in (bare xs)) ++ all_in (map downgraded_in (bare ys)))
    (all_of (map downgrades_in (bare xs)) ++ all_of (map downgrades_in (bare ys)))
two_rows xs ys =
    both (all_in (map downgraded_in (bare xs))) (all_in (map downgraded_in (bare ys))) (all_of (map downgrades_in (bare xs))) (all_of (map downgrades_in (bare ys)))
    (rows xs) (rows ys)

layer : (y : s.Statement-F Known) → IsPlain (downgraded_step (map-Statement Statement (List Downgraded) downgraded_in (pieces y)))
    (downgrade_step (map-Statement Statement (List Downgrading) downgrades_in (pieces y)))
layer (s.Assign x r at) = of_right r
layer (s.Write x field e site) = refl
layer (s.Call x es) = refl
layer (s.If e xs ys) = two_rows xs ys
layer (s.While e xs) = rows xs
layer (s.Atomic x xs ys at) = two_rows xs ys
layer (s.Fail at) = refl

statements : (x : Statement) → OfStatement x
statements = ind-Statement OfStatement (λ x y is. subst (λ z. OfStatement (roll-Statement z)) is
    (rw (fold-roll-Statement (List Downgraded) downgraded_step (pieces y), fold-roll-Statement (List Downgrading) downgrade_step (pieces y)) (layer y)))

pub block_is_plain : (xs : List Statement) → map plain (flat_map downgraded_in xs) ≡ flat_map downgrades_in xs
block_is_plain [] = refl
block_is_plain (x ∷ xs) = both (downgraded_in x) (flat_map downgraded_in xs) (downgrades_in x) (flat_map downgrades_in xs) (statements x) (block_is_plain xs)

pub methods_are_plain : (ms : List Method) → map plain (flat_map downgraded_by ms) ≡ flat_map (λ (m : Method). flat_map downgrades_in m.body) ms
methods_are_plain [] = refl
methods_are_plain (m ∷ ms) =
    both (downgraded_by m) (flat_map downgraded_by ms) (flat_map downgrades_in m.body) (flat_map (λ (z : Method). flat_map downgrades_in z.body) ms)
    (block_is_plain m.body) (methods_are_plain ms)
