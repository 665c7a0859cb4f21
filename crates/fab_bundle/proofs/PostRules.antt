-- Posts, crashes and the cache, part by part.
use Rattle.std.proofs.Common.{◌≡◌, ℕ, Bool, true, false, IsTrue, List, [], ◌∷◌, Option, Some, None, refl, sym, ap, subst}
use Rattle.fab_base.specs.declared.token.Mark.TheVariants as m
use Rattle.fab_base.specs.declared.token.Kind.{Kind}
use Rattle.fab_base.specs.declared.token.Kind.TheVariants as k
use Rattle.fab_base.specs.declared.token.Token.{Token}
use Rattle.fab_tree.specs.declared.name.Name.{Name}
use Rattle.fab_tree.specs.declared.event.PostLine.{PostLine}
use Rattle.fab_tree.specs.declared.event.CrashLine.{CrashLine}
use Rattle.fab_tree.specs.Depth.{room_by}
use Rattle.fab_tree.specs.Lists.{Is, is, IsName, IsNumeral, IsBytes, bytes, Perhaps}
use Rattle.fab_tree.specs.Runs.{IsPost, post, IsCrash, crash, IsCache, no_cache, cache}
use Rattle.fab_reading.specs.Reading.{Lacks, Starts, Read, Follows, any}
use Rattle.fab_reading.proofs.Rules.{Then, End, Sign, HasText, Going, start, turn, sign, behind_mark, followed, lacks_too, never, leaf}
use Rattle.fab_reading.proofs.ChoiceRules.{perhaps_none, perhaps_some}
use Rattle.fab_parser.proofs.Chains.{chain}
use Rattle.fab_bundle.specs.Pieces.{after_number, after_crashes}

-- ---- bytes

bytes_only : {x : List ℕ} {t : Token} {more : List Token} {v : List ℕ} {after : List Token} → t.kind ≡ k.Bytes x → IsBytes (t ∷ more) v after → (v ≡ x) × (after ≡ more)
bytes_only e (bytes g) = (cc, refl)

pub bytes_read : {room : ℕ} {x : List ℕ} {a b : List Token} {t : Token} → a ≡ t ∷ b → t.kind ≡ k.Bytes x → Read IsBytes any room a x b
bytes_read {room = room} cut e = leaf cut (ap (λ x. room_by x room) e) (λ more. bytes e) (λ more v after d. bytes_only e d)

pub bytes_text : HasText IsBytes
bytes_text = (record { kind = k.Bytes []; at = 0; end = 0 } ∷ [], [], λ after. bytes refl)

abbrev pub begins_bytes : Kind → Bool
begins_bytes (k.Bytes x) = true
begins_bytes _ = false

pub bytes_begin : (a : List Token) (v : List ℕ) (b : List Token) → IsBytes a v b → Starts begins_bytes a
bytes_begin a v b (bytes e) = subst (λ x. IsTrue (begins_bytes x)) (sym e) refl

pub no_bytes_begin : (x : Kind) → ((y : List ℕ) → x ≡ k.Bytes y → ⊥) → IsTrue (begins_bytes x) → ⊥
no_bytes_begin (k.Bytes y) h i = h y refl
no_bytes_begin _ h i = never i

-- ---- post = "post" name "->" name bytes ";"

abbrev pub PostParts : Type 0
PostParts = Unit {0} × (Name × (Unit {0} × (Name × (List ℕ × Unit {0}))))

abbrev pub post_of : PostParts → PostLine
post_of v = record { sender = v.1.0; receiver = v.1.1.1.0; bytes = v.1.1.1.1.0 }

abbrev pub PostChain : List Token → PostParts → List Token → Type 0
PostChain = Then (Sign m.Post) (Then IsName (Then (Sign m.Arrow) (Then IsName (Then IsBytes (Sign m.Semicolon)))))

post_back : (a : List Token) (v : PostLine) (b : List Token) → IsPost a v b → (x : PostParts) × (v ≡ post_of x) × PostChain a x b
post_back a v b (post {x = x} {y = y} {zs = zs} p q r s t u) =
    ((tt, (x, (tt, (y, (zs, tt))))), refl, followed _ p (followed _ q (followed _ r (followed _ s (followed _ t u)))))

pub post_start : {room : ℕ} (a : List Token) → Going IsPost any room a PostChain post_of room a
post_start =
    chain post_of (λ more v after p. let q = p.second in let r = q.second in let s = r.second in
    let t = s.second in post p.first q.first r.first s.first t.first t.second) post_back

-- ---- ["keep" number]

pub kept_none : {room : ℕ} (a : List Token) → Lacks m.Keep a → Going (Perhaps m.Keep IsNumeral) after_number room a End (λ x. None) room a
kept_none {room = room} a lacks = perhaps_none (start (Perhaps m.Keep IsNumeral) after_number room a) lacks

pub kept_some : {room : ℕ} {a c : List Token} → Is m.Keep a c → Going (Perhaps m.Keep IsNumeral) after_number room a IsNumeral (λ v. Some v) room c
kept_some {room = room} {a = a} i = sign (perhaps_some after_number never (start (Perhaps m.Keep IsNumeral) after_number room a) i) i refl

-- ---- crash = "crash" name "after" number ["keep" number] ";"

abbrev pub CrashParts : Type 0
CrashParts = Unit {0} × (Name × (Unit {0} × (ℕ × (Option ℕ × Unit {0}))))

abbrev pub crash_of : CrashParts → CrashLine
crash_of v = record { node = v.1.0; after = v.1.1.1.0; keep = v.1.1.1.1.0 }

abbrev pub CrashChain : List Token → CrashParts → List Token → Type 0
CrashChain = Then (Sign m.Crash) (Then IsName (Then (Sign m.After) (Then IsNumeral (Then (Perhaps m.Keep IsNumeral) (Sign m.Semicolon)))))

crash_back : (a : List Token) (v : CrashLine) (b : List Token) → IsCrash a v b → (x : CrashParts) × (v ≡ crash_of x) × CrashChain a x b
crash_back a v b (crash {x = x} {n = n} {z = z} p q r s t u) =
    ((tt, (x, (tt, (n, (z, tt))))), refl, followed _ p (followed _ q (followed _ r (followed _ s (followed _ t u)))))

pub crash_start : {room : ℕ} (a : List Token) → Going IsCrash any room a CrashChain crash_of room a
crash_start =
    chain crash_of (λ more v after p. let q = p.second in let r = q.second in let s = r.second in
    let t = s.second in crash p.first q.first r.first s.first t.first t.second) crash_back

-- ---- ["cache" number ";"]

cache_back : {t : Token} {a : List Token} {v : ℕ} {b : List Token} → t.kind ≡ k.Fixed m.Cache → IsCache (t ∷ a) v b → Follows after_crashes b
    → (x : ℕ × Unit {0}) × (v ≡ x.0) × Then IsNumeral (Sign m.Semicolon) a x b
cache_back e no_cache h = absurd (never (subst (λ x. IsTrue (after_crashes x)) e h))
cache_back e (cache {n = n} (is g) p q) h = ((n, tt), refl, followed _ p q)

pub cache_start : {room : ℕ} {a c : List Token} → Is m.Cache a c → Going IsCache after_crashes room a (Then IsNumeral (Sign m.Semicolon)) (λ v. v.0) room c
cache_start i = behind_mark (λ at v. v.0) i refl (λ t e more v after p. cache (is e) p.first p.second) (λ t e more u after d h. cache_back e d h)

none_back : {a : List Token} {v : ℕ} {b : List Token} → Lacks m.Cache a → IsCache a v b → (x : Unit {0}) × (v ≡ 0) × (a ≡ b)
none_back h no_cache = (tt, refl, refl)
none_back h (cache i p j) = absurd (h _ i)

-- the cache isn't given
pub cache_none : {room : ℕ} (a : List Token) → Lacks m.Cache a → Going IsCache after_crashes room a End (λ x. 0) room a
cache_none {room = room} a lacks = turn (λ x. 0) (start IsCache after_crashes room a) (λ more v after p. subst (λ x. IsCache more 0 x) p no_cache) (λ more v after same p h. none_back (λ c i. lacks_too a more c lacks same i) p)

pub cache_text : HasText IsCache
cache_text = ([], 0, λ after. no_cache)
