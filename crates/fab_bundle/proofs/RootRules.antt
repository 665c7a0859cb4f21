-- Roots, requests and sessions, part by part.
use Rattle.std.proofs.Common.{◌≡◌, ℕ, List, refl}
use Rattle.fab_base.specs.declared.token.Mark.TheVariants as m
use Rattle.fab_base.specs.declared.token.Token.{Token}
use Rattle.fab_tree.specs.declared.name.Name.{Name}
use Rattle.fab_tree.specs.declared.start.Given.{Given}
use Rattle.fab_tree.specs.declared.start.Root.{Root}
use Rattle.fab_tree.specs.declared.start.RequestText.{RequestText}
use Rattle.fab_tree.specs.declared.start.Session.{Session}
use Rattle.fab_tree.specs.Lists.{IsName, Repeated, Separated}
use Rattle.fab_tree.specs.Runs.{IsGiven, IsRoot, root, IsRequest, request, IsSession, session}
use Rattle.fab_reading.specs.Reading.{any}
use Rattle.fab_reading.proofs.Rules.{Then, Sign, Going, followed}
use Rattle.fab_parser.proofs.Chains.{chain}

-- ---- root = "root" name ":" name "@" name "(" [literal {"," literal}] ")" ";"

abbrev pub RootParts : Type 0
RootParts = Unit {0} × (Name × (Unit {0} × (Name × (Unit {0} × (Name × (Unit {0} × (List Given × (Unit {0} × Unit {0}))))))))

abbrev pub root_of : RootParts → Root
root_of v = record { name = v.1.0; class = v.1.1.1.0; store = v.1.1.1.1.1.0; values = v.1.1.1.1.1.1.1.0 }

abbrev pub RootChain : List Token → RootParts → List Token → Type 0
RootChain =
    Then (Sign m.Root) (Then IsName (Then (Sign m.Colon) (Then IsName (Then (Sign m.At) (Then IsName (Then (Sign m.LeftParen) (Then (Separated m.Comma IsGiven)
    (Then (Sign m.RightParen) (Sign m.Semicolon)))))))))

root_back : (a : List Token) (v : Root) (b : List Token) → IsRoot a v b → (x : RootParts) × (v ≡ root_of x) × RootChain a x b
root_back a v b (root {x = x} {y = y} {z = z} {ws = ws} q0 q1 q2 q3 q4 q5 q6 q7 q8 q9) = (
  (tt, (x, (tt, (y, (tt, (z, (tt, (ws, (tt, tt))))))))),
  refl,
  followed _ q0 (followed _ q1 (followed _ q2 (followed _ q3 (followed _ q4 (followed _ q5
      (followed _ q6 (followed _ q7 (followed _ q8 q9)))))))),
)

pub root_start : {room : ℕ} (a : List Token) → Going IsRoot any room a RootChain root_of room a
root_start =
    chain root_of
    (λ more v after p. let p1 = p.second in let p2 = p1.second in let p3 = p2.second in let p4 = p3.second in let p5 = p4.second in
    let p6 = p5.second in let p7 = p6.second in let p8 = p7.second in
    root p.first p1.first p2.first p3.first p4.first p5.first p6.first p7.first p8.first p8.second)
    root_back

-- ---- request = name "(" [literal {"," literal}] ")" ";"

abbrev pub RequestParts : Type 0
RequestParts = Name × (Unit {0} × (List Given × (Unit {0} × Unit {0})))

abbrev pub request_of : RequestParts → RequestText
request_of v = record { method = v.0; arguments = v.1.1.0 }

abbrev pub RequestChain : List Token → RequestParts → List Token → Type 0
RequestChain = Then IsName (Then (Sign m.LeftParen) (Then (Separated m.Comma IsGiven) (Then (Sign m.RightParen) (Sign m.Semicolon))))

request_back : (a : List Token) (v : RequestText) (b : List Token) → IsRequest a v b → (x : RequestParts) × (v ≡ request_of x) × RequestChain a x b
request_back a v b (request {x = x} {ys = ys} p q r s t) = ((x, (tt, (ys, (tt, tt)))), refl, followed _ p (followed _ q (followed _ r (followed _ s t))))

pub request_start : {room : ℕ} (a : List Token) → Going IsRequest any room a RequestChain request_of room a
request_start =
    chain request_of (λ more v after p. let q = p.second in let r = q.second in let s = r.second in request p.first q.first r.first s.first s.second) request_back

-- ---- session = "session" name "{" {request} "}"

abbrev pub SessionParts : Type 0
SessionParts = Unit {0} × (Name × (Unit {0} × (List RequestText × Unit {0})))

abbrev pub session_of : SessionParts → Session
session_of v = record { worker = v.1.0; requests = v.1.1.1.0 }

abbrev pub SessionChain : List Token → SessionParts → List Token → Type 0
SessionChain = Then (Sign m.Session) (Then IsName (Then (Sign m.LeftBrace) (Then (Repeated IsRequest) (Sign m.RightBrace))))

session_back : (a : List Token) (v : Session) (b : List Token) → IsSession a v b → (x : SessionParts) × (v ≡ session_of x) × SessionChain a x b
session_back a v b (session {x = x} {ys = ys} p q r s t) = ((tt, (x, (tt, (ys, tt)))), refl, followed _ p (followed _ q (followed _ r (followed _ s t))))

pub session_start : {room : ℕ} (a : List Token) → Going IsSession any room a SessionChain session_of room a
session_start =
    chain session_of (λ more v after p. let q = p.second in let r = q.second in let s = r.second in session p.first q.first r.first s.first s.second) session_back
