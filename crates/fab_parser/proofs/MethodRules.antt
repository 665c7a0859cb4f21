-- Methods and their parameters, part by part.
use Rattle.std.proofs.Common.{Bool, IsTrue, List, None, Option, Some, [], false, refl, subst, true, ℕ, ◌∷◌, ◌≡◌}
use Rattle.fab_base.specs.declared.token.Kind.TheVariants as k
use Rattle.fab_base.specs.declared.token.Mark.TheVariants as m
use Rattle.fab_base.specs.declared.token.Token.{Token}
use Rattle.fab_tree.specs.declared.declaration.Sort.{Sort}
use Rattle.fab_tree.specs.declared.expression.Expression.{Expression}
use Rattle.fab_tree.specs.declared.name.Name.{Name}
use Rattle.fab_tree.specs.declared.program.Method.{Method}
use Rattle.fab_tree.specs.declared.program.Parameter.{Parameter}
use Rattle.fab_tree.specs.declared.program.Return.{Return}
use Rattle.fab_tree.specs.declared.program.Returns.{Returns}
use Rattle.fab_tree.specs.declared.statement.Statement.{Statement}
use Rattle.fab_tree.specs.Declarations.{IsSort}
use Rattle.fab_tree.specs.Lists.{Behind, Is, IsName, Perhaps, Repeated, Separated, ended, is}
use Rattle.fab_tree.specs.Programs.{IsAuthority, IsFails, IsMethod, IsParameter, IsResult, IsReturns, authority, fails, method, no_result, nobody, parameter, result, return_, returns, safe}
use Rattle.fab_tree.specs.Statements.{IsStatement}
use Rattle.fab_reading.specs.Reading.{Follows, Lacks, Read, any, first_place, is_comma}
use Rattle.fab_reading.proofs.ChoiceRules.{perhaps_none, perhaps_some}
use Rattle.fab_reading.proofs.ItemRules.{items_meet}
use Rattle.fab_reading.proofs.Rules.{End, Going, HasText, Sign, Then, behind_mark, followed, lacks_too, never, sign, sign_follows, start, turn, whole}
use Rattle.fab_parser.specs.Pieces.{IsValue, after_authority, after_body, after_head, after_parameters, begins_authority, behind_statements}
use Rattle.fab_parser.proofs.Chains.{chain, texts}

-- ---- sort name ":" name

abbrev pub ParameterParts : Type 0
ParameterParts = Sort × (Name × (Unit {0} × Name))

abbrev pub parameter_of : ParameterParts → Parameter
parameter_of v = record { sort = v.0; name = v.1.0; label = v.1.1.1 }

abbrev pub ParameterChain : List Token → ParameterParts → List Token → Type 0
ParameterChain = Then IsSort (Then IsName (Then (Sign m.Colon) IsName))

parameter_back : (a : List Token) (v : Parameter) (b : List Token) → IsParameter a v b → (w : ParameterParts) × (v ≡ parameter_of w) × ParameterChain a w b
parameter_back a v b (parameter {x = x} {y = y} {z = z} p q r s) = ((x, (y, (tt, z))), refl, followed _ p (followed _ q (followed _ r s)))

pub parameter_start : {room : ℕ} (a : List Token) → Going IsParameter any room a ParameterChain parameter_of room a
parameter_start = chain parameter_of (λ more v after p. let q = p.second in let r = q.second in parameter p.first q.first r.first r.second) parameter_back

-- ---- sort ":" name

abbrev pub typed_of : Sort × (Unit {0} × Name) → Returns
typed_of v = record { sort = v.0; label = v.1.1 }

typed_back : (a : List Token) (v : Returns) (b : List Token) → IsReturns a v b
    → (w : Sort × (Unit {0} × Name)) × (v ≡ typed_of w) × Then IsSort (Then (Sign m.Colon) IsName) a w b
typed_back a v b (returns {x = x} {y = y} p q r) = ((x, (tt, y)), refl, followed _ p (followed _ q r))

pub typed_start : {room : ℕ} (a : List Token) → Going IsReturns any room a (Then IsSort (Then (Sign m.Colon) IsName)) typed_of room a
typed_start = chain typed_of (λ more v after p. returns p.first p.second.first p.second.second) typed_back

-- ---- ["returns" sort ":" name]

pub returns_none : {room : ℕ} (a : List Token) → Lacks m.Returns a → Read (Perhaps m.Returns IsReturns) after_parameters room a None a
returns_none {room = room} a lacks = whole (perhaps_none (start (Perhaps m.Returns IsReturns) after_parameters room a) lacks)

pub returns_some : {room : ℕ} {a c : List Token} → Is m.Returns a c → Going (Perhaps m.Returns IsReturns) after_parameters room a IsReturns (λ v. Some v) room c
returns_some {room = room} {a = a} i = sign (perhaps_some after_parameters never (start (Perhaps m.Returns IsReturns) after_parameters room a) i) i refl

-- ---- ["fails"]

fails_back : {t : Token} {a : List Token} {v : Bool} {b : List Token} → t.kind ≡ k.Fixed m.Fails → IsFails (t ∷ a) v b → Follows after_head b
    → (w : Unit {0}) × (v ≡ true) × End a w b
fails_back e safe h = absurd (never (subst (λ x. IsTrue (after_head x)) e h))
fails_back e (fails (is g)) h = (tt, refl, refl)

pub fails_start : {room : ℕ} {a c : List Token} → Is m.Fails a c → Going IsFails after_head room a End (λ v. true) room c
fails_start i =
    behind_mark (λ at v. true) i refl (λ t e more v after p. subst (λ x. IsFails (t ∷ more) true x) p (fails (is e))) (λ t e more u after d h. fails_back e d h)

safe_back : {a : List Token} {v : Bool} {b : List Token} → Lacks m.Fails a → IsFails a v b → (x : Unit {0}) × (v ≡ false) × (a ≡ b)
safe_back h safe = (tt, refl, refl)
safe_back h (fails i) = absurd (h _ i)

pub safe_start : {room : ℕ} (a : List Token) → Lacks m.Fails a → Going IsFails after_head room a End (λ v. false) room a
safe_start {room = room} a lacks = turn (λ v. false) (start IsFails after_head room a) (λ more v after p. subst (λ x. IsFails more false x) p safe) (λ more v after same p h. safe_back (λ c i. lacks_too a more c lacks same i) p)

pub fails_text : HasText IsFails
fails_text = ([], false, λ after. safe)

-- ---- ["authority" name {"," name}]

abbrev pub Names : List Token → Name × List Name → List Token → Type 0
Names = Then IsName (Repeated (Behind m.Comma IsName))

authority_back : {t : Token} {a : List Token} {v : List Name} {b : List Token} → t.kind ≡ k.Fixed m.Authority → IsAuthority (t ∷ a) v b → Follows after_authority b
    → (w : Name × List Name) × (v ≡ w.0 ∷ w.1) × Names a w b
authority_back e nobody h = absurd (never (subst (λ x. IsTrue (after_authority x)) e h))
authority_back e (authority {x = x} {xs = xs} (is g) p q) h = ((x, xs), refl, followed _ p q)

pub authority_start : {room : ℕ} {a c : List Token} → Is m.Authority a c → Going IsAuthority after_authority room a Names (λ v. v.0 ∷ v.1) room c
authority_start i = behind_mark (λ at v. v.0 ∷ v.1) i refl (λ t e more v after p. authority (is e) p.first p.second) (λ t e more u after d h. authority_back e d h)

nobody_back : {a : List Token} {v : List Name} {b : List Token} → Lacks m.Authority a → IsAuthority a v b → (x : Unit {0}) × (v ≡ []) × (a ≡ b)
nobody_back h nobody = (tt, refl, refl)
nobody_back h (authority i p q) = absurd (h _ i)

pub nobody_start : {room : ℕ} (a : List Token) → Lacks m.Authority a → Going IsAuthority after_authority room a End (λ v. []) room a
nobody_start {room = room} a lacks = turn (λ v. []) (start IsAuthority after_authority room a) (λ more v after p. subst (λ x. IsAuthority more [] x) p nobody) (λ more v after same p h. nobody_back (λ c i. lacks_too a more c lacks same i) p)

pub authority_text : HasText IsAuthority
authority_text = ([], [], λ after. nobody)

-- what comes behind a name of the list may follow it
pub names_meet : (more : List Token) (v : List Name) (after : List Token) → Repeated (Behind m.Comma IsName) more v after → Follows after_authority after → Follows any more
names_meet = items_meet begins_authority is_comma any m.Comma refl refl

-- ---- ["return" expression ";"]

abbrev pub return_at : ℕ → Expression → Return
return_at at t = record { value = t; at = at }

result_made : {t : Token} {more : List Token} {v : Expression} {after : List Token} → t.kind ≡ k.Fixed m.Return → IsValue more v after → IsResult (t ∷ more) (Some (return_at t.at v)) after
result_made e (ended p i) = result (return_ (is e) p i)

result_from : {t : Token} {more : List Token} {u : Option Return} {after : List Token} → t.kind ≡ k.Fixed m.Return → IsResult (t ∷ more) u after → Follows after_body after → (v : Expression) × (u ≡ Some (return_at t.at v)) × IsValue more v after
result_from e no_result h = absurd (never (subst (λ x. IsTrue (after_body x)) e h))
result_from e (result (return_ {t = t} (is g) p i)) h = (t, refl, ended p i)

pub result_some : {room : ℕ} {a c : List Token} → Is m.Return a c → Going IsResult after_body room a IsValue (λ v. Some (return_at (first_place a) v)) room c
result_some i = behind_mark (λ at v. Some (return_at at v)) i refl (λ t e more v after. result_made e) (λ t e more u after. result_from e)

no_result_back : {a : List Token} {v : Option Return} {b : List Token} → Lacks m.Return a → IsResult a v b → (x : Unit {0}) × (v ≡ None) × (a ≡ b)
no_result_back h no_result = (tt, refl, refl)
no_result_back h (result (return_ i p j)) = absurd (h _ i)

pub result_none : {room : ℕ} (a : List Token) → Lacks m.Return a → Going IsResult after_body room a End (λ v. None) room a
result_none {room = room} a lacks = turn (λ v. None) (start IsResult after_body room a) (λ more v after p. subst (λ x. IsResult more None x) p no_result) (λ more v after same p h. no_result_back (λ c i. lacks_too a more c lacks same i) p)

pub result_text : HasText IsResult
result_text = ([], None, λ after. no_result)

-- ---- what comes behind the parts of a method that may be missing

authority_head : {a b c : List Token} {ws : List Name} → IsAuthority a ws b → Is m.LeftBrace b c → Follows after_head a
authority_head nobody i = sign_follows m.LeftBrace after_head refl i
authority_head (authority j p q) i = sign_follows m.Authority after_head refl j

pub fails_meet : {C : Type 0} {Q : List Token → C → List Token → Type 0} (more : List Token) (v : List Name × (Unit {0} × C)) (after : List Token) → Then IsAuthority (Then (Sign m.LeftBrace) Q) more v after → Follows any after → Follows after_head more
fails_meet more v after q h = authority_head q.first q.second.first

result_head : {a b c : List Token} {q : Option Return} → IsResult a q b → Is m.RightBrace b c → Follows behind_statements a
result_head no_result i = sign_follows m.RightBrace behind_statements refl i
result_head (result (return_ j p l)) i = sign_follows m.Return behind_statements refl j

pub body_meets : (more : List Token) (v : Option Return × Unit {0}) (after : List Token) → Then IsResult (Sign m.RightBrace) more v after → Follows any after
    → Follows behind_statements more
body_meets more v after q h = result_head q.first q.second

-- ---- method

abbrev pub MethodParts : Type 0
MethodParts =
    Unit {0} × (Name × (Unit {0} × (List Parameter × (Unit {0} × (Option Returns × (Unit {0} × (Name × (Bool × (List Name
    × (Unit {0} × (List Statement × (Option Return × Unit {0}))))))))))))

abbrev pub method_of : MethodParts → Method
method_of v = record { name = v.1.0; parameters = v.1.1.1.0; returns = v.1.1.1.1.1.0; begin = v.1.1.1.1.1.1.1.0; fails = v.1.1.1.1.1.1.1.1.0; authority = v.1.1.1.1.1.1.1.1.1.0; body = v.1.1.1.1.1.1.1.1.1.1.1.0; result = v.1.1.1.1.1.1.1.1.1.1.1.1.0 }

abbrev pub MethodChain : List Token → MethodParts → List Token → Type 0
MethodChain =
    Then (Sign m.Method) (Then IsName (Then (Sign m.LeftParen) (Then (Separated m.Comma IsParameter) (Then (Sign m.RightParen) (Then (Perhaps m.Returns IsReturns)
    (Then (Sign m.Begin) (Then IsName (Then IsFails (Then IsAuthority (Then (Sign m.LeftBrace) (Then (Repeated IsStatement)
    (Then IsResult (Sign m.RightBrace)))))))))))))

method_back : (a : List Token) (v : Method) (b : List Token) → IsMethod a v b → (w : MethodParts) × (v ≡ method_of w) × MethodChain a w b
method_back a v b (method {x = x} {ys = ys} {z = z} {u = u} {v = w} {ws = ws} {ts = ts} {q = q} q0 q1 q2 q3 q4 q5 q6 q7 q8 q9 q10 q11 q12 q13) =
    let all = followed _ q6 (followed _ q7 (followed _ q8 (followed _ q9 (followed _ q10 (followed _ q11 (followed _ q12 q13)))))) in
    ((tt, (x, (tt, (ys, (tt, (z, (tt, (u, (w, (ws, (tt, (ts, (q, tt))))))))))))), refl, followed _ q0 (followed _ q1 (followed _ q2 (followed _ q3 (followed _ q4 (followed _ q5 all))))))

pub method_start : {room : ℕ} (a : List Token) → Going IsMethod any room a MethodChain method_of room a
method_start =
    chain method_of
    (λ more v after p. let p1 = p.second in let p2 = p1.second in let p3 = p2.second in let p4 = p3.second in let p5 = p4.second in
    let p6 = p5.second in let p7 = p6.second in let p8 = p7.second in let p9 = p8.second in let p10 = p9.second in let p11 = p10.second in
    let p12 = p11.second in
    method p.first p1.first p2.first p3.first p4.first p5.first p6.first p7.first p8.first p9.first p10.first p11.first p12.first p12.second)
    method_back

pub ruleset method_texts = (texts, fails_text, authority_text, result_text)
