-- Labels and their policies, part by part.
use Rattle.std.proofs.Common.{◌≡◌, ℕ, Bool, true, false, IsTrue, List, [], ◌∷◌, length, refl, sym, ap, subst}
use Rattle.fab_base.specs.declared.token.Mark.{Mark}
use Rattle.fab_base.specs.declared.token.Mark.TheVariants as m
use Rattle.fab_base.specs.declared.token.Kind.{Kind}
use Rattle.fab_base.specs.declared.token.Kind.TheVariants as k
use Rattle.fab_base.specs.declared.token.Token.{Token}
use Rattle.fab_tree.specs.declared.name.Name.{Name}
use Rattle.fab_tree.specs.declared.declaration.Aspect.{Aspect}
use Rattle.fab_tree.specs.declared.declaration.Aspect.TheVariants as aspects
use Rattle.fab_tree.specs.declared.declaration.PolicyText.{PolicyText}
use Rattle.fab_tree.specs.declared.declaration.LabelText.{LabelText}
use Rattle.fab_tree.specs.Lists.{Is, is, IsName, Separated}
use Rattle.fab_tree.specs.Declarations.{IsAspect, readers, writers, IsPolicy, policy, IsLabel, label}
use Rattle.fab_reading.specs.Reading.{Lacks, BeginsWith, Starts, Read, Refused, Stops, CannotRead, any, behind_items, behind_names, begins_name, is_semicolon}
use Rattle.fab_reading.specs.declared.refusal.Refusal.{Refusal}
use Rattle.fab_reading.specs.declared.refusal.Refusal.TheVariants as refusal
use Rattle.fab_reading.proofs.Rules.{Then, Sign, HasText, Going, here, never, token_of, followed}
use Rattle.fab_reading.proofs.TokenRules.{mark_read}
use Rattle.fab_parser.proofs.Chains.{chain}

-- ---- aspect = "->" | "<-"

arrow : {a : List Token} {v : Aspect} {b : List Token} → BeginsWith m.Arrow a → IsAspect a v b → (v ≡ aspects.Confidentiality) × Is m.Arrow a b
arrow e (readers i) = (refl, i)
arrow e (writers (is g)) = absurd (cc)

pub readers_read : {room : ℕ} {a b : List Token} → Is m.Arrow a b → Read IsAspect any room a aspects.Confidentiality b
readers_read i = mark_read m.Arrow i refl (λ x y. readers) (λ x v y. arrow)

back_arrow : {a : List Token} {v : Aspect} {b : List Token} → BeginsWith m.BackArrow a → IsAspect a v b → (v ≡ aspects.Integrity) × Is m.BackArrow a b
back_arrow e (writers i) = (refl, i)
back_arrow e (readers (is g)) = absurd (cc)

pub writers_read : {room : ℕ} {a b : List Token} → Is m.BackArrow a b → Read IsAspect any room a aspects.Integrity b
writers_read i = mark_read m.BackArrow i refl (λ x y. writers) (λ x v y. back_arrow)

abbrev begins_aspect : Kind → Bool
begins_aspect (k.Fixed m.Arrow) = true
begins_aspect (k.Fixed m.BackArrow) = true
begins_aspect _ = false

aspect_begins : (a : List Token) (v : Aspect) (b : List Token) → IsAspect a v b → Starts begins_aspect a
aspect_begins a v b (readers (is e)) = subst (λ x. IsTrue (begins_aspect x)) (sym e) refl
aspect_begins a v b (writers (is e)) = subst (λ x. IsTrue (begins_aspect x)) (sym e) refl

pub aspect_text : HasText IsAspect
aspect_text = (token_of m.Arrow ∷ [], aspects.Confidentiality, λ after. readers (is refl))

no_aspect : (a : List Token) → Lacks m.Arrow a → Lacks m.BackArrow a → Starts begins_aspect a → ⊥
no_aspect [] r w h = h
no_aspect (t ∷ ts) r w h = no_mark t.kind (λ e. r ts (is e)) (λ e. w ts (is e)) h
  where
    by_mark : (x : Mark) → (x ≡ m.Arrow → ⊥) → (x ≡ m.BackArrow → ⊥) → IsTrue (begins_aspect (k.Fixed x)) → ⊥
    by_mark m.Arrow r w h = r refl
    by_mark m.BackArrow r w h = w refl
    by_mark _ r w h = never h

    no_mark : (x : Kind) → (x ≡ k.Fixed m.Arrow → ⊥) → (x ≡ k.Fixed m.BackArrow → ⊥) → IsTrue (begins_aspect x) → ⊥
    no_mark (k.Fixed y) r w h = by_mark y (λ e. r (ap k.Fixed e)) (λ e. w (ap k.Fixed e)) h
    no_mark _ r w h = never h

aspect_refused : {room : ℕ} {a : List Token} → Lacks m.Arrow a → Lacks m.BackArrow a → Refused IsAspect any room a (length a)
aspect_refused {a = a} r w = here begins_aspect aspect_begins aspect_text (no_aspect a r w)

pub aspect_stops : (room : ℕ) (a : List Token) (e : Refusal) → Lacks m.Arrow a → CannotRead m.BackArrow a e → Stops IsAspect any room a e
aspect_stops room a refusal.Memory r x = absurd x
aspect_stops room a (refusal.Syntax left) r x = subst (λ y. Refused IsAspect any room a y) (sym x.0) (aspect_refused r x.1)
aspect_stops room a (refusal.Deep left) r x = absurd x

-- ---- policy = name aspect [name {"," name}]

abbrev pub policy_of : Name × (Aspect × List Name) → PolicyText
policy_of v = record { owner = v.0; aspect = v.1.0; others = v.1.1 }

abbrev pub PolicyChain : List Token → Name × (Aspect × List Name) → List Token → Type 0
PolicyChain = Then IsName (Then IsAspect (Separated m.Comma IsName))

policy_back : (a : List Token) (v : PolicyText) (b : List Token) → IsPolicy a v b → (w : Name × (Aspect × List Name)) × (v ≡ policy_of w) × PolicyChain a w b
policy_back a v b (policy {x = x} {y = y} {zs = zs} p q r) = ((x, (y, zs)), refl, followed _ p (followed _ q r))

pub policy_start : {room : ℕ} (a : List Token) → Going IsPolicy behind_names room a PolicyChain policy_of room a
policy_start = chain policy_of (λ more v after p. policy p.first p.second.first p.second.second) policy_back

-- ---- label = "label" name "=" "{" [policy {";" policy}] "}" ";"

abbrev pub LabelParts : Type 0
LabelParts = Unit {0} × (Name × (Unit {0} × (Unit {0} × (List PolicyText × (Unit {0} × Unit {0})))))

abbrev pub label_of : LabelParts → LabelText
label_of v = record { name = v.1.0; policies = v.1.1.1.1.0 }

abbrev pub LabelChain : List Token → LabelParts → List Token → Type 0
LabelChain =
    Then (Sign m.Label) (Then IsName (Then (Sign m.Equal) (Then (Sign m.LeftBrace) (Then (Separated m.Semicolon IsPolicy)
    (Then (Sign m.RightBrace) (Sign m.Semicolon))))))

label_back : (a : List Token) (v : LabelText) (b : List Token) → IsLabel a v b → (w : LabelParts) × (v ≡ label_of w) × LabelChain a w b
label_back a v b (label {x = x} {ys = ys} p q r s t u l) =
    ((tt, (x, (tt, (tt, (ys, (tt, tt)))))), refl, followed _ p (followed _ q (followed _ r (followed _ s (followed _ t (followed _ u l))))))

pub label_start : {room : ℕ} (a : List Token) → Going IsLabel any room a LabelChain label_of room a
label_start =
    chain label_of
    (λ more v after p. let p1 = p.second in let p2 = p1.second in let p3 = p2.second in let p4 = p3.second in let p5 = p4.second in
    label p.first p1.first p2.first p3.first p4.first p5.first p5.second)
    label_back

abbrev pub behind_policies : Kind → Bool
behind_policies = behind_items begins_name is_semicolon behind_names
