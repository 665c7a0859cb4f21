-- The pieces of statements, part by part.
use Rattle.std.proofs.Common.{IsTrue, List, None, Option, Some, [], refl, subst, ℕ, ◌∷◌, ◌≡◌}
use Rattle.fab_base.specs.declared.token.Kind.TheVariants as k
use Rattle.fab_base.specs.declared.token.Mark.TheVariants as m
use Rattle.fab_base.specs.declared.token.Token.{Token}
use Rattle.fab_tree.specs.declared.declaration.Sort.{Sort}
use Rattle.fab_tree.specs.declared.expression.Expression.{Expression}
use Rattle.fab_tree.specs.declared.name.Name.{Name}
use Rattle.fab_tree.specs.declared.statement.Right.{Right}
use Rattle.fab_tree.specs.declared.statement.Statement.{Statement}
use Rattle.fab_tree.specs.declared.statement.Statement.TheVariants as forms
use Rattle.fab_tree.specs.Expressions.{IsArguments, IsExpression}
use Rattle.fab_tree.specs.Lists.{Is, IsName, Repeated, ended, is, no_more, one_more}
use Rattle.fab_tree.specs.Statements.{IsBlock, IsOtherwise, IsRight, IsStatement, IsStatements, block, no_else, no_statement, one_statement, some_else}
use Rattle.fab_reading.specs.Reading.{Follows, Lacks, any}
use Rattle.fab_reading.proofs.Rules.{End, Going, HasText, Sign, Then, behind_mark, followed, lacks_too, never, start, token_of, turn}
use Rattle.fab_parser.specs.Pieces.{Bracketed, IsAssigned, IsAttempt, IsChoice, IsDeclared, IsFailure, IsLoop, IsRequested, IsValue, IsWritten, after_statement, assigned, attempted, branched, declared, failed, looped, requested, written}
use Rattle.fab_parser.proofs.Chains.{chain}
use Rattle.fab_parser.proofs.RightRules.{any_name, local_at, name_expression}

-- ---- texts

pub value_text : HasText IsValue
value_text = (any_name ∷ token_of m.Semicolon ∷ [], local_at 0 [], λ after. ended (name_expression refl (token_of m.Semicolon ∷ after)) (is refl))

pub block_text : HasText IsBlock
block_text = (token_of m.LeftBrace ∷ token_of m.RightBrace ∷ [], [], λ after. block (is refl) no_statement (is refl))

pub otherwise_text : HasText IsOtherwise
otherwise_text = ([], None, λ after. no_else)

-- ---- name ":" name "=" expression ";"

abbrev pub DeclaredParts : Type 0
DeclaredParts = Name × (Unit {0} × (Name × (Unit {0} × Expression)))

abbrev pub declared_of : Sort → ℕ → DeclaredParts → Statement
declared_of x at v = forms.Declare x v.0 v.1.1.0 v.1.1.1.1 at

abbrev pub DeclaredChain : List Token → DeclaredParts → List Token → Type 0
DeclaredChain = Then IsName (Then (Sign m.Colon) (Then IsName (Then (Sign m.Equal) IsValue)))

declared_back : {x : Sort} {at : ℕ} (a : List Token) (v : Statement) (b : List Token) → IsDeclared x at a v b
    → (w : DeclaredParts) × (v ≡ declared_of x at w) × DeclaredChain a w b
declared_back a v b (declared {y = y} {z = z} {t = t} p q r s u) = ((y, (tt, (z, (tt, t)))), refl, followed _ p (followed _ q (followed _ r (followed _ s u))))

pub declared_start : {x : Sort} {at room : ℕ} (a : List Token) → Going (IsDeclared x at) any room a DeclaredChain (declared_of x at) room a
declared_start {x = x} {at = at} =
    chain (declared_of x at) (λ more v after p. let q = p.second in let r = q.second in let s = r.second in declared p.first q.first r.first s.first s.second)
    declared_back

-- ---- right ";"

assigned_back : {x : Name} (a : List Token) (v : Statement) (b : List Token) → IsAssigned x a v b
    → (w : Right × Unit {0}) × (v ≡ forms.Assign x w.0) × Then IsRight (Sign m.Semicolon) a w b
assigned_back a v b (assigned {t = t} p q) = ((t, tt), refl, followed _ p q)

pub assigned_start : {x : Name} {room : ℕ} (a : List Token) → Going (IsAssigned x) any room a (Then IsRight (Sign m.Semicolon)) (λ v. forms.Assign x v.0) room a
assigned_start {x = x} = chain (λ v. forms.Assign x v.0) (λ more v after p. assigned p.first p.second) assigned_back

-- ---- name "=" expression ";"

written_back : {x : Name} (a : List Token) (v : Statement) (b : List Token) → IsWritten x a v b
    → (w : Name × (Unit {0} × Expression)) × (v ≡ forms.Write x w.0 w.1.1) × Then IsName (Then (Sign m.Equal) IsValue) a w b
written_back a v b (written {y = y} {t = t} p q r) = ((y, (tt, t)), refl, followed _ p (followed _ q r))

pub written_start : {x : Name} {room : ℕ} (a : List Token)
    → Going (IsWritten x) any room a (Then IsName (Then (Sign m.Equal) IsValue)) (λ v. forms.Write x v.0 v.1.1) room a
written_start {x = x} = chain (λ v. forms.Write x v.0 v.1.1) (λ more v after p. written p.first p.second.first p.second.second) written_back

-- ---- "(" arguments ")" ";"

requested_back : {x : Name} (a : List Token) (v : Statement) (b : List Token) → IsRequested x a v b
    → (w : List Expression × Unit {0}) × (v ≡ forms.Call x w.0) × Then (Bracketed IsArguments) (Sign m.Semicolon) a w b
requested_back a v b (requested {ts = ts} p q) = ((ts, tt), refl, followed _ p q)

pub requested_start : {x : Name} {room : ℕ} (a : List Token)
    → Going (IsRequested x) any room a (Then (Bracketed IsArguments) (Sign m.Semicolon)) (λ v. forms.Call x v.0) room a
requested_start {x = x} = chain (λ v. forms.Call x v.0) (λ more v after p. requested p.first p.second) requested_back

-- ---- "(" expression ")" block otherwise

abbrev pub ChoiceChain : List Token → Expression × (List Statement × Option (List Statement)) → List Token → Type 0
ChoiceChain = Then (Bracketed IsExpression) (Then IsBlock IsOtherwise)

choice_back : (a : List Token) (v : Statement) (b : List Token) → IsChoice a v b
    → (w : Expression × (List Statement × Option (List Statement))) × (v ≡ forms.If w.0 w.1.0 w.1.1) × ChoiceChain a w b
choice_back a v b (branched {t = t} {us = us} {ws = ws} p q r) = ((t, (us, ws)), refl, followed _ p (followed _ q r))

pub choice_start : {room : ℕ} (a : List Token) → Going IsChoice after_statement room a ChoiceChain (λ v. forms.If v.0 v.1.0 v.1.1) room a
choice_start = chain (λ v. forms.If v.0 v.1.0 v.1.1) (λ more v after p. branched p.first p.second.first p.second.second) choice_back

-- ---- "(" expression ")" block

loop_back : (a : List Token) (v : Statement) (b : List Token) → IsLoop a v b
    → (w : Expression × List Statement) × (v ≡ forms.While w.0 w.1) × Then (Bracketed IsExpression) IsBlock a w b
loop_back a v b (looped {t = t} {us = us} p q) = ((t, us), refl, followed _ p q)

pub loop_start : {room : ℕ} (a : List Token) → Going IsLoop any room a (Then (Bracketed IsExpression) IsBlock) (λ v. forms.While v.0 v.1) room a
loop_start = chain (λ v. forms.While v.0 v.1) (λ more v after p. looped p.first p.second) loop_back

-- ---- name block "else" block

abbrev pub AttemptParts : Type 0
AttemptParts = Name × (List Statement × (Unit {0} × List Statement))

abbrev pub attempt_of : ℕ → AttemptParts → Statement
attempt_of at v = forms.Atomic v.0 v.1.0 v.1.1.1 at

abbrev pub AttemptChain : List Token → AttemptParts → List Token → Type 0
AttemptChain = Then IsName (Then IsBlock (Then (Sign m.Else) IsBlock))

attempt_back : {at : ℕ} (a : List Token) (v : Statement) (b : List Token) → IsAttempt at a v b → (w : AttemptParts) × (v ≡ attempt_of at w) × AttemptChain a w b
attempt_back a v b (attempted {x = x} {us = us} {ws = ws} p q r s) = ((x, (us, (tt, ws))), refl, followed _ p (followed _ q (followed _ r s)))

pub attempt_start : {at room : ℕ} (a : List Token) → Going (IsAttempt at) any room a AttemptChain (attempt_of at) room a
attempt_start {at = at} = chain (attempt_of at) (λ more v after p. let q = p.second in let r = q.second in attempted p.first q.first r.first r.second) attempt_back

-- ---- ";"

failure_back : {at : ℕ} (a : List Token) (v : Statement) (b : List Token) → IsFailure at a v b → (w : Unit {0}) × (v ≡ forms.Fail at) × Sign m.Semicolon a w b
failure_back a v b (failed p) = (tt, refl, p)

pub failure_start : {at room : ℕ} (a : List Token) → Going (IsFailure at) any room a (Sign m.Semicolon) (λ v. forms.Fail at) room a
failure_start {at = at} = chain (λ v. forms.Fail at) (λ more v after p. failed p) failure_back

-- ---- {statement}

statements_made : {a : List Token} {us : List Statement} {b : List Token} → Repeated IsStatement a us b → IsStatements a us b
statements_made no_more = no_statement
statements_made (one_more p q) = one_statement p (statements_made q)

statements_back : {a : List Token} {us : List Statement} {b : List Token} → IsStatements a us b → Repeated IsStatement a us b
statements_back no_statement = no_more
statements_back (one_statement p q) = one_more p (statements_back q)

-- ---- "{" {statement} "}"

abbrev pub BlockChain : List Token → Unit {0} × (List Statement × Unit {0}) → List Token → Type 0
BlockChain = Then (Sign m.LeftBrace) (Then (Repeated IsStatement) (Sign m.RightBrace))

block_back : (a : List Token) (v : List Statement) (b : List Token) → IsBlock a v b → (w : Unit {0} × (List Statement × Unit {0})) × (v ≡ w.1.0) × BlockChain a w b
block_back a v b (block {us = us} p q r) = ((tt, (us, tt)), refl, followed _ p (followed _ (statements_back q) r))

pub block_start : {room : ℕ} (a : List Token) → Going IsBlock any room a BlockChain (λ v. v.1.0) room a
block_start = chain (λ v. v.1.0) (λ more v after p. block p.first (statements_made p.second.first) p.second.second) block_back

-- ---- ["else" block]

else_back : {t : Token} {a : List Token} {v : Option (List Statement)} {b : List Token} → t.kind ≡ k.Fixed m.Else → IsOtherwise (t ∷ a) v b → Follows after_statement b
    → (w : List Statement) × (v ≡ Some w) × IsBlock a w b
else_back e no_else h = absurd (never (subst (λ x. IsTrue (after_statement x)) e h))
else_back e (some_else {us = us} (is g) p) h = (us, refl, p)

pub else_block : {room : ℕ} {a c : List Token} → Is m.Else a c → Going IsOtherwise after_statement room a IsBlock (λ v. Some v) room c
else_block i = behind_mark (λ at v. Some v) i refl (λ t e more v after p. some_else (is e) p) (λ t e more u after d h. else_back e d h)

no_else_back : {a : List Token} {v : Option (List Statement)} {b : List Token} → Lacks m.Else a → IsOtherwise a v b → (x : Unit {0}) × (v ≡ None) × (a ≡ b)
no_else_back h no_else = (tt, refl, refl)
no_else_back h (some_else i p) = absurd (h _ i)

pub else_lacks : {room : ℕ} (a : List Token) → Lacks m.Else a → Going IsOtherwise after_statement room a End (λ x. None) room a
else_lacks {room = room} a lacks = turn (λ x. None) (start IsOtherwise after_statement room a) (λ more v after p. subst (λ y. IsOtherwise more None y) p no_else) (λ more v after same p h. no_else_back (λ c i. lacks_too a more c lacks same i) p)
