-- What each rule of a run begins with.
use Rattle.std.proofs.Common.{ℕ, ◌<◌, nat_lt, IsTrue, List, refl, sym, subst}
use Rattle.std.proofs.lemmas.Bool.{lt-ltb}
use Rattle.fab_base.specs.declared.token.Mark.TheVariants as m
use Rattle.fab_base.specs.declared.token.Token.{Token}
use Rattle.fab_tree.specs.declared.event.PostLine.{PostLine}
use Rattle.fab_tree.specs.declared.event.CrashLine.{CrashLine}
use Rattle.fab_tree.specs.declared.event.Step.{Step}
use Rattle.fab_tree.specs.declared.event.Event.{Event}
use Rattle.fab_tree.specs.declared.start.Literal.{Literal}
use Rattle.fab_tree.specs.declared.start.Given.{Given}
use Rattle.fab_tree.specs.declared.start.Root.{Root}
use Rattle.fab_tree.specs.declared.start.RequestText.{RequestText}
use Rattle.fab_tree.specs.declared.start.Session.{Session}
use Rattle.fab_tree.specs.declared.expression.Number.{Number}
use Rattle.fab_tree.specs.Lists.{is, name, IsNumeral, numeral, int, least_int, Ended, ended}
use Rattle.fab_tree.specs.Runs.{IsNegated, negative, least, IsLiteral, number, negated, null, root, IsGiven, given, IsRoot}
use Rattle.fab_tree.specs.Runs.{IsRequest, request, IsSession, session, IsPost, IsCrash, IsStep, begin, resume, deliver, idle, recover}
use Rattle.fab_tree.specs.Runs.{IsEvent, step, crash_in, post, crash}
use Rattle.fab_reading.specs.Reading.{Starts, begins_name, begins_session, begins_root, begins_literal, begins_numeral, begins_negated}
use Rattle.fab_bundle.specs.Pieces.{begins_post, begins_crash, begins_step, begins_event}

small : (n : ℕ) → n < 2147483648 → IsTrue (nat_lt n 2147483648)
small n h = lt-ltb n 2147483648 h

pub numeral_begins : (a : List Token) (v : ℕ) (b : List Token) → IsNumeral a v b → Starts begins_numeral a
numeral_begins a v b (numeral e h) = subst (λ x. IsTrue (begins_numeral x)) (sym e) (small v h)

pub negated_begins : (a : List Token) (v : Number) (b : List Token) → IsNegated a v b → Starts begins_negated a
negated_begins a v b (negative (numeral {n = n} e h)) = subst (λ x. IsTrue (begins_negated x)) (sym e) (small n h)
negated_begins a v b (least (least_int e)) = subst (λ x. IsTrue (begins_negated x)) (sym e) refl

pub literal_begins : (a : List Token) (v : Literal) (b : List Token) → IsLiteral a v b → Starts begins_literal a
literal_begins a v b (number (int (numeral {n = n} e h))) = subst (λ x. IsTrue (begins_literal x)) (sym e) (small n h)
literal_begins a v b (negated (is e) p) = subst (λ x. IsTrue (begins_literal x)) (sym e) refl
literal_begins a v b (null (is e)) = subst (λ x. IsTrue (begins_literal x)) (sym e) refl
literal_begins a v b (root (name e)) = subst (λ x. IsTrue (begins_literal x)) (sym e) refl

pub given_begins : (a : List Token) (v : Given) (b : List Token) → IsGiven a v b → Starts begins_literal a
given_begins a v b (given p) = literal_begins a _ b p

pub root_begins : (a : List Token) (v : Root) (b : List Token) → IsRoot a v b → Starts begins_root a
root_begins a v b (root (is e) p q r s t u w x y) = subst (λ x. IsTrue (begins_root x)) (sym e) refl

pub request_begins : (a : List Token) (v : RequestText) (b : List Token) → IsRequest a v b → Starts begins_name a
request_begins a v b (request (name e) p q r s) = subst (λ x. IsTrue (begins_name x)) (sym e) refl

pub session_begins : (a : List Token) (v : Session) (b : List Token) → IsSession a v b → Starts begins_session a
session_begins a v b (session (is e) p q r s) = subst (λ x. IsTrue (begins_session x)) (sym e) refl

pub post_begins : (a : List Token) (v : PostLine) (b : List Token) → IsPost a v b → Starts begins_post a
post_begins a v b (post (is e) p q r s t) = subst (λ x. IsTrue (begins_post x)) (sym e) refl

pub crash_begins : (a : List Token) (v : CrashLine) (b : List Token) → IsCrash a v b → Starts begins_crash a
crash_begins a v b (crash (is e) p q r s t) = subst (λ x. IsTrue (begins_crash x)) (sym e) refl

pub step_begins : (a : List Token) (v : Step) (b : List Token) → IsStep a v b → Starts begins_step a
step_begins a v b (begin (is e) p) = subst (λ x. IsTrue (begins_step x)) (sym e) refl
step_begins a v b (resume (is e) p) = subst (λ x. IsTrue (begins_step x)) (sym e) refl
step_begins a v b (deliver (is e) p q) = subst (λ x. IsTrue (begins_step x)) (sym e) refl
step_begins a v b (idle (is e) p q) = subst (λ x. IsTrue (begins_step x)) (sym e) refl
step_begins a v b (recover (is e) p) = subst (λ x. IsTrue (begins_step x)) (sym e) refl

pub event_begins : (a : List Token) (v : Event) (b : List Token) → IsEvent a v b → Starts begins_event a
event_begins a v b (step (begin (is e) p)) = subst (λ x. IsTrue (begins_event x)) (sym e) refl
event_begins a v b (step (resume (is e) p)) = subst (λ x. IsTrue (begins_event x)) (sym e) refl
event_begins a v b (step (deliver (is e) p q)) = subst (λ x. IsTrue (begins_event x)) (sym e) refl
event_begins a v b (step (idle (is e) p q)) = subst (λ x. IsTrue (begins_event x)) (sym e) refl
event_begins a v b (step (recover (is e) p)) = subst (λ x. IsTrue (begins_event x)) (sym e) refl
event_begins a v b (crash_in (is e) p q) = subst (λ x. IsTrue (begins_event x)) (sym e) refl
event_begins a v b (post (is e) p) = subst (λ x. IsTrue (begins_event x)) (sym e) refl
event_begins a v b (crash (is e) p) = subst (λ x. IsTrue (begins_event x)) (sym e) refl

pub line_begins : (a : List Token) (v : Event) (b : List Token) → Ended m.Semicolon IsEvent a v b → Starts begins_event a
line_begins a v b (ended p q) = event_begins a v _ p
