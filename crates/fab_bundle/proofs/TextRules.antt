-- A whole text, part by part, and where it is refused.
use Rattle.std.proofs.Common.{◌≡◌, ℕ, ◌-◌, ◌<◌, Bool, None, Some, option_and_then, IsSome, IsTrue, List, [], ◌∷◌, ◌++◌, length, refl, sym, ap, ◌∙◌, subst, append_assoc, append-nil, length-append, arith}
use Rattle.fab_base.specs.declared.limit.What.{What}
use Rattle.fab_base.specs.declared.token.Mark.{Mark}
use Rattle.fab_base.specs.declared.token.Mark.TheVariants as m
use Rattle.fab_base.specs.declared.token.Kind.{Kind}
use Rattle.fab_base.specs.declared.token.Kind.TheVariants as k
use Rattle.fab_base.specs.declared.token.Token.{Token}
use Rattle.fab_tree.specs.declared.event.PostLine.{PostLine}
use Rattle.fab_tree.specs.declared.event.CrashLine.{CrashLine}
use Rattle.fab_tree.specs.declared.event.Event.{Event}
use Rattle.fab_tree.specs.declared.program.Program.{Program}
use Rattle.fab_tree.specs.declared.start.Root.{Root}
use Rattle.fab_tree.specs.declared.start.Session.{Session}
use Rattle.fab_tree.specs.declared.start.Start.{Start}
use Rattle.fab_tree.specs.Depth.{room_after, room_by, KeepsDepth}
use Rattle.fab_tree.specs.Limits.{first_passed}
use Rattle.fab_tree.specs.Lists.{Repeated, no_more, one_more}
use Rattle.fab_tree.specs.Programs.{IsProgram}
use Rattle.fab_tree.specs.Runs.{IsRoot, IsSession, session, IsPost, post, IsCrash, crash, IsCache, no_cache, cache, IsSchedule, no_schedule, schedule}
use Rattle.fab_tree.specs.Syntax.{IsStart, IsText, start}
use Rattle.fab_reading.specs.Reading.{BeginsWith, SameHead, Follows, Read, Refused, Deep, any, nothing, begins_root, begins_session, behind_list}
use Rattle.fab_bundle.specs.Pieces.{begins_post, begins_crash, after_crashes}
use Rattle.fab_bundle.specs.Texts.{BadNext, BadToken, BadBracket, TooMany}
use Rattle.fab_reading.proofs.Rules.{Then, Sign, Going, part, ending, extra, any_follows, sign_follows, begins_at, room_append, followed}
use Rattle.fab_reading.proofs.Rules as rules
use Rattle.fab_parser.proofs.Chains.{chain, texts}
use Rattle.fab_bundle.proofs.PostRules.{cache_text}
use Rattle.fab_bundle.proofs.EventRules.{schedule_text}

-- ---- what may follow each part of a run

-- what begins with this mark may follow where the mark may
led : {mark : Mark} (may : Kind → Bool) → IsTrue (may (k.Fixed mark)) → (a : List Token) → BeginsWith mark a → Follows may a
led may h [] b = tt
led may h (t ∷ ts) b = subst (λ x. IsTrue (may x)) (sym b) h

-- what comes behind a list whose items begin with a mark may follow, where the mark may and what comes behind it
list_follows : {A : Type 0} {P : List Token → A → List Token → Type 0} {mark : Mark} (may : Kind → Bool) → ((x : List Token) (t : A) (y : List Token) → P x t y → BeginsWith mark x) → IsTrue (may (k.Fixed mark)) → (more : List Token) (v : List A) (mid : List Token) → Repeated P more v mid → Follows may mid → Follows may more
list_follows may begins h more v mid no_more f = f
list_follows may begins h more v mid (one_more {b = b} {x = x} p q) f = led may h more (begins more x b p)

session_led : (x : List Token) (t : Session) (y : List Token) → IsSession x t y → BeginsWith m.Session x
session_led x t y (session i p q r s) = begins_at i

post_led : (x : List Token) (t : PostLine) (y : List Token) → IsPost x t y → BeginsWith m.Post x
post_led x t y (post i p q r s u) = begins_at i

crash_led : (x : List Token) (t : CrashLine) (y : List Token) → IsCrash x t y → BeginsWith m.Crash x
crash_led x t y (crash i p q r s u) = begins_at i

-- where each of these marks may follow, so may what is left of a run from here on
module _ (may : Kind → Bool) (brace : IsTrue (may (k.Fixed m.RightBrace))) (scheduled : IsTrue (may (k.Fixed m.Schedule))) where
  optional_schedule : {a : List Token} {v : List Event} {b : List Token} → IsSchedule a v b → Follows may b → Follows may a
  optional_schedule no_schedule f = f
  optional_schedule {a = a} (schedule i j p l) f = led may scheduled a (begins_at i)

  schedule_follows : (more : List Token) (v : List Event × Unit {0}) (after : List Token) → Then IsSchedule (Sign m.RightBrace) more v after → Follows may more
  schedule_follows more v after q = optional_schedule q.first (sign_follows m.RightBrace may brace q.second)

  module _ (cached : IsTrue (may (k.Fixed m.Cache))) where
    optional_cache : {a : List Token} {v : ℕ} {b : List Token} → IsCache a v b → Follows may b → Follows may a
    optional_cache no_cache f = f
    optional_cache {a = a} (cache i j p) f = led may cached a (begins_at i)

    cache_follows : (more : List Token) (v : ℕ × (List Event × Unit {0})) (after : List Token) → Then IsCache (Then IsSchedule (Sign m.RightBrace)) more v after
        → Follows may more
    cache_follows more v after q = optional_cache q.first (schedule_follows q.mid v.1 after q.second)

    module _ (crashed : IsTrue (may (k.Fixed m.Crash))) where
      crashes_follow : (more : List Token) (v : List CrashLine × (ℕ × (List Event × Unit {0}))) (after : List Token)
          → Then (Repeated IsCrash) (Then IsCache (Then IsSchedule (Sign m.RightBrace))) more v after → Follows may more
      crashes_follow more v after q = list_follows may crash_led crashed more v.0 q.mid q.first (cache_follows q.mid v.1 after q.second)

      module _ (posted : IsTrue (may (k.Fixed m.Post))) where
        posts_follow : (more : List Token) (v : List PostLine × (List CrashLine × (ℕ × (List Event × Unit {0})))) (after : List Token)
            → Then (Repeated IsPost) (Then (Repeated IsCrash) (Then IsCache (Then IsSchedule (Sign m.RightBrace)))) more v after → Follows may more
        posts_follow more v after q = list_follows may post_led posted more v.0 q.mid q.first (crashes_follow q.mid v.1 after q.second)

        sessions_follow : IsTrue (may (k.Fixed m.Session))
            → (more : List Token) (v : List Session × (List PostLine × (List CrashLine × (ℕ × (List Event × Unit {0}))))) (after : List Token)
            → Then (Repeated IsSession) (Then (Repeated IsPost) (Then (Repeated IsCrash) (Then IsCache (Then IsSchedule (Sign m.RightBrace))))) more v after
            → Follows may more
        sessions_follow h more v after q = list_follows may session_led h more v.0 q.mid q.first (posts_follow q.mid v.1 after q.second)

pub behind_roots : (more : List Token) (v : List Session × (List PostLine × (List CrashLine × (ℕ × (List Event × Unit {0}))))) (after : List Token)
    → Then (Repeated IsSession) (Then (Repeated IsPost) (Then (Repeated IsCrash) (Then IsCache (Then IsSchedule (Sign m.RightBrace))))) more v after → Follows any after
    → Follows (behind_list begins_root any) more
behind_roots more v after q h = sessions_follow (behind_list begins_root any) refl refl refl refl refl refl more v after q

pub behind_sessions : (more : List Token) (v : List PostLine × (List CrashLine × (ℕ × (List Event × Unit {0})))) (after : List Token)
    → Then (Repeated IsPost) (Then (Repeated IsCrash) (Then IsCache (Then IsSchedule (Sign m.RightBrace)))) more v after → Follows any after
    → Follows (behind_list begins_session any) more
behind_sessions more v after q h = posts_follow (behind_list begins_session any) refl refl refl refl refl more v after q

pub behind_posts : (more : List Token) (v : List CrashLine × (ℕ × (List Event × Unit {0}))) (after : List Token)
    → Then (Repeated IsCrash) (Then IsCache (Then IsSchedule (Sign m.RightBrace))) more v after → Follows any after → Follows (behind_list begins_post any) more
behind_posts more v after q h = crashes_follow (behind_list begins_post any) refl refl refl refl more v after q

pub behind_crashes : (more : List Token) (v : ℕ × (List Event × Unit {0})) (after : List Token) → Then IsCache (Then IsSchedule (Sign m.RightBrace)) more v after
    → Follows any after → Follows (behind_list begins_crash any) more
behind_crashes more v after q h = cache_follows (behind_list begins_crash any) refl refl refl more v after q

pub behind_cache : (more : List Token) (v : List Event × Unit {0}) (after : List Token) → Then IsSchedule (Sign m.RightBrace) more v after → Follows any after
    → Follows after_crashes more
behind_cache more v after q h = schedule_follows after_crashes refl refl more v after q

-- ---- start = program "run" "{" {root} {session} {post} {crash} [cache] [schedule] "}"

abbrev pub StartParts : Type 0
StartParts = Program × (Unit {0} × (Unit {0} × (List Root × (List Session × (List PostLine × (List CrashLine × (ℕ × (List Event × Unit {0}))))))))

abbrev pub start_of : StartParts → Start
start_of v = record { program = v.0; roots = v.1.1.1.0; sessions = v.1.1.1.1.0; posts = v.1.1.1.1.1.0; crashes = v.1.1.1.1.1.1.0; cache = v.1.1.1.1.1.1.1.0; schedule = v.1.1.1.1.1.1.1.1.0 }

abbrev pub StartChain : List Token → StartParts → List Token → Type 0
StartChain =
    Then IsProgram (Then (Sign m.Run) (Then (Sign m.LeftBrace) (Then (Repeated IsRoot) (Then (Repeated IsSession) (Then (Repeated IsPost) (Then (Repeated IsCrash)
    (Then IsCache (Then IsSchedule (Sign m.RightBrace)))))))))

start_back : (a : List Token) (v : Start) (b : List Token) → IsStart a v b → (x : StartParts) × (v ≡ start_of x) × StartChain a x b
start_back a v b (start {p = p} {rs = rs} {ss = ss} {ps = ps} {cs = cs} {n = n} {es = es} q0 q1 q2 q3 q4 q5 q6 q7 q8 q9) = (
  (p, (tt, (tt, (rs, (ss, (ps, (cs, (n, (es, tt))))))))),
  refl,
  followed _ q0 (followed _ q1 (followed _ q2 (followed _ q3 (followed _ q4 (followed _ q5
      (followed _ q6 (followed _ q7 (followed _ q8 q9)))))))),
)

pub start_start : {room : ℕ} (a : List Token) → Going IsStart any room a StartChain start_of room a
start_start =
    chain start_of
    (λ more v after p. let p1 = p.second in let p2 = p1.second in let p3 = p2.second in let p4 = p3.second in let p5 = p4.second in
    let p6 = p5.second in let p7 = p6.second in let p8 = p7.second in
    start p.first p1.first p2.first p3.first p4.first p5.first p6.first p7.first p8.first p8.second)
    start_back

pub ruleset start_texts = (texts, cache_text, schedule_text)

-- ---- where a text is refused

bad_next : (may : Kind → Bool) (front back : List Token) → ((more : List Token) → SameHead back more → (t : Start) (after : List Token) → IsStart (front ++ more) t after → Follows may after → ⊥) → BadNext front back
bad_next may front [] bad = λ s d. bad [] tt s [] (subst (λ x. IsStart x s []) (sym (append-nil front)) d) tt
bad_next may front (t ∷ back) bad = λ b. bad (t ∷ b.0) refl b.1 [] (subst (λ x. IsStart x b.1 []) (append_assoc front (t ∷ []) b.0) b.2) tt

-- how many tokens there are before the last so many
before : (ts front back : List Token) (left token : ℕ) → ts ≡ front ++ back → length back ≡ left → token ≡ length ts - left → length front ≡ token
before ts front back left token cut e t = let l : length ts ≡ length (front ++ back) = ap length cut in omega (arith, l, length-append front back)

pub bad_token : (may : Kind → Bool) {ts : List Token} {left token : ℕ} → Refused IsStart may 64 ts left → token ≡ length ts - left → BadToken ts token
bad_token may {ts = ts} {left = left} {token = token} r e = record {
  front = r.front;
  back = r.back;
  cut = r.cut;
  token_is = before ts r.front r.back left token r.cut r.left_is e;
  before = (r.begins.0 ++ [], r.begins.1, r.begins.2 []);
  with_it = bad_next may r.front r.back r.bad;
  level = r.level;
}

pub bad_bracket : {ts : List Token} {left token : ℕ} → Deep IsStart 64 ts left → token ≡ length ts - left → BadBracket ts token
bad_bracket {ts = ts} {left = left} {token = token} r e = record {
  front = r.front;
  next = r.next;
  back = r.back;
  cut = r.cut;
  token_is = before ts r.front (r.next ∷ r.back) left token r.cut r.left_is e;
  before = (r.begins.0 ++ [], r.begins.1, subst (λ x. IsStart x r.begins.1 []) (sym (append_assoc r.front (r.next ∷ []) (r.begins.0 ++ []))) (r.begins.2 []));
  level = r.level;
  opens = r.opens;
}

-- a bundle, and more behind it
pub more_behind : {ts rest : List Token} {s : Start} → Read IsStart any 64 ts s rest → (rest ≡ [] → ⊥) → Refused IsStart nothing 64 ts (length rest)
more_behind {ts = ts} r some = extra (part (ending (rules.start IsStart nothing 64 ts)) r (λ more v after q h. any_follows more)) some

-- ---- limits

pub none_left : (a : List Token) → length a < 1 → a ≡ []
none_left [] h = refl
none_left (t ∷ ts) h = absurd (omega arith)

-- a text is read as one bundle alone
pub single : {ts rest : List Token} {t s : Start} → rest ≡ [] → Read IsStart any 64 ts t rest → IsText ts s → s ≡ t
single {ts = ts} {t = t} {s = s} none r d = (r.only [] (subst (λ x. SameHead x []) (sym none) tt) s [] (subst (λ x. IsStart x s []) (r.cut ∙ ap (λ x. r.front ++ x) none) d) tt).0

-- each bundle that a text stands for passes the limit that the one that is read does
pub passed_too : {ts rest : List Token} {t : Start} {what : What} → rest ≡ [] → Read IsStart any 64 ts t rest → Some what ≡ first_passed t → (s : Start) → IsText ts s → first_passed s ≡ Some what
passed_too none r passed s d = ap first_passed (single none r d) ∙ sym passed

-- the one bundle of a text passes a limit
pub too_many : {ts rest : List Token} {t : Start} {what : What} → rest ≡ [] → Read IsStart any 64 ts t rest → first_passed t ≡ Some what → TooMany ts what
too_many {ts = ts} {t = t} none r passed = record {
  tree = t;
  is_text = subst (λ x. IsStart x t []) (sym (r.cut ∙ ap (λ x. r.front ++ x) none)) (r.reads []);
  single = λ s. single none r;
  level = subst (λ x. IsSome (room_after x 64)) (sym (r.cut ∙ ap (λ x. r.front ++ x) none ∙ append-nil r.front)) (subst IsSome (sym r.level) refl);
  passed = passed;
}

-- a text whose bracket is one too many opens too many
pub too_deep : {ts : List Token} {token : ℕ} → BadBracket ts token → KeepsDepth ts → ⊥
too_deep {ts = ts} r h = none (none_after r.opens) h
  where
    none_after : room_by r.next.kind 0 ≡ None → room_after ts 64 ≡ None
    none_after o = ap (λ x. room_after x 64) r.cut ∙ room_append r.front (r.next ∷ r.back) 64 0 r.level ∙ ap (option_and_then (room_after r.back)) o

    none : room_after ts 64 ≡ None → IsSome (room_after ts 64) → ⊥
    none e s = let x = subst IsSome e s in cc
