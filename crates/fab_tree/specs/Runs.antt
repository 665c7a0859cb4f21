-- The grammar of what a run begins with and is told to do: roots, sessions, posts, crashes, the cache and a schedule.
use Rattle.std.specs.Prelude.{ℕ, List, [], ◌∷◌, Option}
use Rattle.fab_base.specs.declared.token.Mark.TheVariants as m
use Rattle.fab_base.specs.declared.token.Token.{Token}
use Rattle.fab_tree.specs.declared.name.Name.{Name}
use Rattle.fab_tree.specs.declared.event.PostLine.{PostLine}
use Rattle.fab_tree.specs.declared.event.CrashLine.{CrashLine}
use Rattle.fab_tree.specs.declared.event.Step.{Step}
use Rattle.fab_tree.specs.declared.event.Step.TheVariants as steps
use Rattle.fab_tree.specs.declared.event.Event.{Event}
use Rattle.fab_tree.specs.declared.event.Event.TheVariants as events
use Rattle.fab_tree.specs.declared.start.Literal.{Literal}
use Rattle.fab_tree.specs.declared.start.Literal.TheVariants as literals
use Rattle.fab_tree.specs.declared.start.Given.{Given}
use Rattle.fab_tree.specs.declared.start.Root.{Root}
use Rattle.fab_tree.specs.declared.start.RequestText.{RequestText}
use Rattle.fab_tree.specs.declared.start.Session.{Session}
use Rattle.fab_tree.specs.declared.expression.Number.{Number}
use Rattle.fab_tree.specs.declared.expression.Number.TheVariants as numbers
use Rattle.fab_tree.specs.Lists.{Is, IsName, IsNumeral, IsNumber, IsLeast, IsBytes, Repeated, Ended, Perhaps, Separated, minus}

-- negated = number | the digits of the least number of a width, behind a minus sign
pub data IsNegated : List Token → Number → List Token → Type 0 where
  negative : {a b : List Token} {n : ℕ} → IsNumeral a n b → IsNegated a (numbers.Int (minus n)) b
  least : {a b : List Token} {n : Number} → IsLeast a n b → IsNegated a n b

-- literal = number | "-" negated | "null" | name
pub data IsLiteral : List Token → Literal → List Token → Type 0 where
  number : {a b : List Token} {n : Number} → IsNumber a n b → IsLiteral a (literals.Number n) b
  negated : {a b c : List Token} {n : Number} → Is m.Minus a b → IsNegated b n c → IsLiteral a (literals.Number n) c
  null : {a b : List Token} → Is m.Null a b → IsLiteral a literals.Null b
  root : {a b : List Token} {x : Name} → IsName a x b → IsLiteral a (literals.Root x) b

-- a literal, with its place
pub data IsGiven : List Token → Given → List Token → Type 0 where
  given : {t : Token} {ts b : List Token} {x : Literal}
      → IsLiteral (t ∷ ts) x b → IsGiven (t ∷ ts) (record { literal = x; at = t.at }) b

-- root = "root" name ":" name "@" name "(" [literal {"," literal}] ")" ";"
pub data IsRoot : List Token → Root → List Token → Type 0 where
  root : {a b c d e f g h i j k : List Token} {x y z : Name} {ws : List Given}
      → Is m.Root a b → IsName b x c → Is m.Colon c d → IsName d y e → Is m.At e f → IsName f z g
      → Is m.LeftParen g h → Separated m.Comma IsGiven h ws i → Is m.RightParen i j → Is m.Semicolon j k
      → IsRoot a (record { name = x; class = y; store = z; values = ws }) k

-- request = name "(" [literal {"," literal}] ")" ";"
pub data IsRequest : List Token → RequestText → List Token → Type 0 where
  request : {a b c d e f : List Token} {x : Name} {ys : List Given}
      → IsName a x b → Is m.LeftParen b c → Separated m.Comma IsGiven c ys d → Is m.RightParen d e → Is m.Semicolon e f
      → IsRequest a (record { method = x; arguments = ys }) f

-- session = "session" name "{" {request} "}"
pub data IsSession : List Token → Session → List Token → Type 0 where
  session : {a b c d e f : List Token} {x : Name} {ys : List RequestText}
      → Is m.Session a b → IsName b x c → Is m.LeftBrace c d → Repeated IsRequest d ys e → Is m.RightBrace e f
      → IsSession a (record { worker = x; requests = ys }) f

-- post = "post" name "->" name bytes ";"
pub data IsPost : List Token → PostLine → List Token → Type 0 where
  post : {a b c d e f g : List Token} {x y : Name} {zs : List ℕ}
      → Is m.Post a b → IsName b x c → Is m.Arrow c d → IsName d y e → IsBytes e zs f → Is m.Semicolon f g
      → IsPost a (record { sender = x; receiver = y; bytes = zs }) g

-- crash = "crash" name "after" number ["keep" number] ";"
pub data IsCrash : List Token → CrashLine → List Token → Type 0 where
  crash : {a b c d e f g : List Token} {x : Name} {n : ℕ} {z : Option ℕ}
      → Is m.Crash a b → IsName b x c → Is m.After c d → IsNumeral d n e → Perhaps m.Keep IsNumeral e z f → Is m.Semicolon f g
      → IsCrash a (record { node = x; after = n; keep = z }) g

-- ["cache" number ";"]; without it, the number is 0
pub data IsCache : List Token → ℕ → List Token → Type 0 where
  no_cache : {a : List Token} → IsCache a 0 a
  cache : {a b c d : List Token} {n : ℕ} → Is m.Cache a b → IsNumeral b n c → Is m.Semicolon c d → IsCache a n d

-- step = "begin" name | "resume" name | "deliver" name name | "idle" name name | "recover" name
pub data IsStep : List Token → Step → List Token → Type 0 where
  begin : {a b c : List Token} {x : Name} → Is m.Begin a b → IsName b x c → IsStep a (steps.Begin x) c
  resume : {a b c : List Token} {x : Name} → Is m.Resume a b → IsName b x c → IsStep a (steps.Resume x) c
  deliver : {a b c d : List Token} {x y : Name}
      → Is m.Deliver a b → IsName b x c → IsName c y d → IsStep a (steps.Deliver x y) d
  idle : {a b c d : List Token} {x y : Name}
      → Is m.Idle a b → IsName b x c → IsName c y d → IsStep a (steps.Idle x y) d
  recover : {a b c : List Token} {x : Name} → Is m.Recover a b → IsName b x c → IsStep a (steps.Recover x) c

-- event = step | "crashin" number step | "post" name | "crash" name
pub data IsEvent : List Token → Event → List Token → Type 0 where
  step : {a b : List Token} {x : Step} → IsStep a x b → IsEvent a (events.Step x) b
  crash_in : {a b c d : List Token} {n : ℕ} {x : Step}
      → Is m.CrashIn a b → IsNumeral b n c → IsStep c x d → IsEvent a (events.CrashIn n x) d
  post : {a b c : List Token} {x : Name} → Is m.Post a b → IsName b x c → IsEvent a (events.Post x) c
  crash : {a b c : List Token} {x : Name} → Is m.Crash a b → IsName b x c → IsEvent a (events.Crash x) c

-- schedule = ["schedule" "{" {event ";"} "}"]; without it, there are no events
pub data IsSchedule : List Token → List Event → List Token → Type 0 where
  no_schedule : {a : List Token} → IsSchedule a [] a
  schedule : {a b c d e : List Token} {xs : List Event}
      → Is m.Schedule a b → Is m.LeftBrace b c → Repeated (Ended m.Semicolon IsEvent) c xs d → Is m.RightBrace d e
      → IsSchedule a xs e
