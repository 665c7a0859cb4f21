-- What a text comes to is one thing.
use Rattle.std.proofs.Common.{◌≡◌, ◌⊎◌, inl, inr, ◌<◌, ◌≤◌, ◌+◌, ℕ, List, [], ◌∷◌, ◌++◌, length, drop, Option, Some, None, option_and_then, false, true, refl, sym, ap, ◌∙◌, subst, arith, append_assoc, length-append, append-nil, IsSome}
use Rattle.std.proofs.lemmas.Bool.{cases_lt}
use Rattle.std.proofs.Math.Nat.{eq-or-lt_of_le}
use Rattle.fab_base.specs.declared.limit.What.{What}
use Rattle.fab_base.specs.declared.limit.What.TheVariants.{Bytes, Depth}
use Rattle.fab_base.specs.declared.token.Token.{Token}
use Rattle.fab_base.specs.Tokens.{Lexes}
use Rattle.fab_tree.specs.declared.start.Start.{Start}
use Rattle.fab_tree.specs.Syntax.{IsText}
use Rattle.fab_tree.specs.Limits.{limit_of, first_passed}
use Rattle.fab_tree.specs.Depth.{KeepsDepth, room_after, room_by}
use Rattle.fab_reading.proofs.Rules.{room_append}
use Rattle.fab_lexer.specs.Cuts.{IsUncut, CutError}
use Rattle.fab_lexer.specs.declared.error.LexError.{LexError}
use Rattle.fab_lexer.specs.declared.error.LexError.TheVariants as lex
use Rattle.fab_bundle.specs.declared.error.BundleError.{BundleError}
use Rattle.fab_bundle.specs.declared.error.BundleError.TheVariants as refused
use Rattle.fab_lexer.proofs.TokenLists.{one_list, one_place}
use Rattle.fab_bundle.specs.Texts.{BeginsText, BadNext, BadToken, BadBracket, TooMany, RefusedAt}
use Rattle.fab_front.specs.declared.texts.Outcome.{Outcome}
use Rattle.fab_front.specs.declared.texts.Outcome.TheVariants as outcome
use Rattle.fab_front.specs.Front.{Front, too_long, uncut, no_text, too_deep, too_many, whole, IsFront, IsTooLong, place_among}

-- ---- two cuts of one list

-- of two cuts, the one further back has the next item of the other, too
further : {A : Type 0} (p q b c : List A) → p ++ b ≡ q ++ c → length p < length q → (x : A) × (r : List A) × (q ≡ p ++ (x ∷ r)) × (b ≡ x ∷ (r ++ c))
further [] [] b c e l = absurd (omega (arith, l))
further [] (x ∷ q) b c e l = (x, q, refl, e)
further (y ∷ p) [] b c e l = absurd (omega (arith, l))
further (y ∷ p) (x ∷ q) b c e l =
    let t : p ++ b ≡ q ++ c = cc in
    let m : length p < length q = omega (arith, l) in
    let g = further p q b c t m in
    let h : x ≡ y = cc in
    (g.0, g.1, ap (λ z. z ∷ q) h ∙ ap (λ z. y ∷ z) g.2, g.3)

-- ---- where tokens are refused

-- a front of what begins a text begins one
begins_before : (p q : List Token) → BeginsText (p ++ q) → BeginsText p
begins_before p q b = (q ++ b.0, b.1, subst (λ x. IsText x b.1) (append_assoc p q b.0) b.2)

-- tokens that are refused at one are no text
pub bad_no_text : {ts : List Token} {n : ℕ} → BadToken ts n → (s : Start) → IsText ts s → ⊥
bad_no_text {ts = ts} b s t = go b.front b.back b.cut b.with_it
  where
    go : (p q : List Token) → ts ≡ p ++ q → BadNext p q → ⊥
    go p [] e bad = bad s (subst (λ x. IsText x s) (e ∙ append-nil p) t)
    go p (x ∷ q) e bad = bad (begins_before (p ++ (x ∷ [])) q ([], s, subst (λ y. IsText y s) (e ∙ sym (append_assoc p (x ∷ []) q) ∙ sym (append-nil ((p ++ (x ∷ [])) ++ q))) t))

-- behind the place of a refusal nothing begins a text
bad_behind : (p q r : List Token) (x : Token) → BadNext p (x ∷ q) → BeginsText (p ++ (x ∷ r)) → ⊥
bad_behind p q r x bad begins = bad (begins_before (p ++ (x ∷ [])) r (subst BeginsText (sym (append_assoc p (x ∷ []) r)) begins))

-- what is further back is behind it
bad_before : {ts : List Token} {n : ℕ} (b : BadToken ts n) (q c : List Token) → ts ≡ q ++ c → BeginsText q → n < length q → ⊥
bad_before {ts = ts} {n = n} b q c e begins l =
    let m : length b.front < length q = omega (arith, l, b.token_is) in
    let f = further b.front q b.back c (sym b.cut ∙ e) m in
    let bad : BadNext b.front (f.0 ∷ (f.1 ++ c)) = subst (BadNext b.front) f.3 b.with_it in
    bad_behind b.front (f.1 ++ c) f.1 f.0 bad (subst BeginsText f.2 begins)

lt_cases : (n m : ℕ) → (n < m) ⊎ ((m < n) ⊎ (n ≡ m))
lt_cases n m = elim (cases_lt n m) [ inl l ↦ inl l | inr h ↦ inr (elim (eq-or-lt_of_le h) [ inl e ↦ inr (sym e) | inr l ↦ inl l ]) ]

-- there is one place of refusal
pub bad_once : {ts : List Token} {n m : ℕ} → BadToken ts n → BadToken ts m → n ≡ m
bad_once {n = n} {m = m} a b = go (lt_cases n m)
  where
    go : (n < m) ⊎ ((m < n) ⊎ (n ≡ m)) → n ≡ m
    go (inl l) = absurd (bad_before a b.front b.back b.cut b.before (omega (arith, l, b.token_is)))
    go (inr (inl l)) = absurd (bad_before b a.front a.back a.cut a.before (omega (arith, l, a.token_is)))
    go (inr (inr e)) = e

-- ---- brackets

no_room : (p q : List Token) (t : Token) → room_after p 64 ≡ Some 0 → room_by t.kind 0 ≡ None → room_after (p ++ (t ∷ q)) 64 ≡ None
no_room p q t e h = room_append p (t ∷ q) 64 0 e ∙ ap (option_and_then (room_after q)) h

not_some : {A : Type 0} {o : Option A} → o ≡ None → IsSome o → ⊥
not_some {o = None} e s = let h : false ≡ true = s in cc
not_some {o = Some x} e s = cc

-- a bracket too many isn't within the limit
pub deep_not_kept : {ts : List Token} {n : ℕ} → BadBracket ts n → KeepsDepth ts → ⊥
deep_not_kept b k = not_some (ap (λ x. room_after x 64) b.cut ∙ no_room b.front b.back b.next b.level b.opens) k

none_some : {A : Type 0} {x : A} {o : Option A} → o ≡ None → o ≡ Some x → ⊥
none_some e h = let n : None ≡ Some _ = sym e ∙ h in cc

-- tokens that are refused at one open no bracket too many before it
pub deep_or_bad : {ts : List Token} {n m : ℕ} → BadBracket ts n → BadToken ts m → ⊥
deep_or_bad {ts = ts} {n = n} {m = m} d b = go (lt_cases n m)
  where
    q : List Token
    q = d.front ++ (d.next ∷ [])

    cut : ts ≡ q ++ d.back
    cut = d.cut ∙ sym (append_assoc d.front (d.next ∷ []) d.back)

    before : m ≤ n → ⊥
    before l = bad_before b q d.back cut d.before (let h : length q ≡ length d.front + 1 = length-append d.front (d.next ∷ []) in omega (arith, l, h, d.token_is))

    go : (n < m) ⊎ ((m < n) ⊎ (n ≡ m)) → ⊥
    go (inl l) =
        let f = further d.front b.front (d.next ∷ d.back) b.back (sym d.cut ∙ b.cut) (omega (arith, l, d.token_is, b.token_is)) in
        let h : d.next ≡ f.0 = cc in
        none_some (ap (λ x. room_after x 64) f.2 ∙ no_room d.front f.1 f.0 d.level (ap (λ x. room_by x.kind 0) (sym h) ∙ d.opens)) b.level.1
    go (inr (inl l)) = before (omega (arith, l))
    go (inr (inr e)) = before (omega (arith, e))

-- ---- the outcome of a text

long_short : {A : Type 0} (text : List ℕ) → IsTooLong text → length text ≤ limit_of Bytes → A
long_short text l s = absurd (omega (arith, l, s))

module _ {text : List ℕ} where
  pub one_of_long : IsTooLong text → IsFront text (outcome.Limit Bytes)
  one_of_long l = record { is = too_long l; only = λ y. go y }
    where
      go : (y : Outcome) → Front text y → y ≡ outcome.Limit Bytes
      go y (too_long h) = refl
      go y (uncut s u) = long_short text l s
      go y (no_text s x b) = long_short text l s
      go y (too_deep s x b) = long_short text l s
      go y (too_many s x k t p) = long_short text l s
      go y (whole s x k t p) = long_short text l s

  pub one_of_uncut : {at : ℕ} → length text ≤ limit_of Bytes → IsUncut text at → IsFront text (outcome.Syntax at)
  one_of_uncut {at = at} l u = record { is = uncut l u; only = λ y. go y }
    where
      go : (y : Outcome) → Front text y → y ≡ outcome.Syntax at
      go y (too_long h) = long_short text h l
      go y (uncut {at = other} s v) = ap outcome.Syntax (one_place text other at v u)
      go y (no_text {ts = ts} s x b) = absurd (u.no_tokens ts x)
      go y (too_deep {ts = ts} s x b) = absurd (u.no_tokens ts x)
      go y (too_many {ts = ts} s x k t p) = absurd (u.no_tokens ts x)
      go y (whole {ts = ts} s x k t p) = absurd (u.no_tokens ts x)

  module _ {ts : List Token} (short : length text ≤ limit_of Bytes) (lexed : Lexes 0 text ts) where
    same_tokens : {us : List Token} → Lexes 0 text us → us ≡ ts
    same_tokens x = one_list x lexed

    same_place : {us : List Token} {n m : ℕ} → us ≡ ts → BadToken ts n → BadToken us m → outcome.Syntax (place_among (drop m us) (length text)) ≡ outcome.Syntax (place_among (drop n ts) (length text))
    same_place {m = m} e b c =
        ap (λ x. outcome.Syntax (place_among (drop m x) (length text))) e
        ∙ ap (λ x. outcome.Syntax (place_among (drop x ts) (length text))) (bad_once (subst (λ x. BadToken x m) e c) b)

    pub one_of_bad : {n : ℕ} → BadToken ts n → IsFront text (outcome.Syntax (place_among (drop n ts) (length text)))
    one_of_bad {n = n} b = record { is = no_text short lexed b; only = λ y. go y }
      where
        go : (y : Outcome) → Front text y → y ≡ outcome.Syntax (place_among (drop n ts) (length text))
        go y (too_long h) = long_short text h short
        go y (uncut s v) = absurd (v.no_tokens ts lexed)
        go y (no_text s x c) = same_place (same_tokens x) b c
        go y (too_deep {token = m} s x d) = absurd (deep_or_bad (subst (λ z. BadBracket z m) (same_tokens x) d) b)
        go y (too_many {s = v} s x k t p) = absurd (bad_no_text b v (subst (λ z. IsText z v) (same_tokens x) t))
        go y (whole {s = v} s x k t p) = absurd (bad_no_text b v (subst (λ z. IsText z v) (same_tokens x) t))

    pub one_of_deep : {n : ℕ} → BadBracket ts n → IsFront text (outcome.Limit Depth)
    one_of_deep d = record { is = too_deep short lexed d; only = λ y. go y }
      where
        go : (y : Outcome) → Front text y → y ≡ outcome.Limit Depth
        go y (too_long h) = long_short text h short
        go y (uncut s v) = absurd (v.no_tokens ts lexed)
        go y (no_text {token = m} s x c) = absurd (deep_or_bad d (subst (λ z. BadToken z m) (same_tokens x) c))
        go y (too_deep s x e) = refl
        go y (too_many s x k t p) = absurd (deep_not_kept d (subst KeepsDepth (same_tokens x) k))
        go y (whole s x k t p) = absurd (deep_not_kept d (subst KeepsDepth (same_tokens x) k))

    some_one : {w v : What} {s u : Start} → s ≡ u → first_passed u ≡ Some w → first_passed s ≡ Some v → v ≡ w
    some_one {w = w} {v = v} e p q = let h : Some v ≡ Some w = sym q ∙ ap first_passed e ∙ p in cc

    some_none : {A : Type 0} {v : What} {s u : Start} → s ≡ u → first_passed u ≡ None → first_passed s ≡ Some v → A
    some_none e p q = absurd (none_some (ap first_passed e ∙ p) q)

    pub one_of_many : {w : What} → TooMany ts w → IsFront text (outcome.Limit w)
    one_of_many {w = w} m = record { is = too_many short lexed m.level m.is_text m.passed; only = λ y. go y }
      where
        tree : {us : List Token} {s : Start} → Lexes 0 text us → IsText us s → s ≡ m.tree
        tree {s = s} x t = m.single s (subst (λ z. IsText z s) (same_tokens x) t)

        go : (y : Outcome) → Front text y → y ≡ outcome.Limit w
        go y (too_long h) = long_short text h short
        go y (uncut s v) = absurd (v.no_tokens ts lexed)
        go y (no_text {token = n} s x c) = absurd (bad_no_text (subst (λ z. BadToken z n) (same_tokens x) c) m.tree m.is_text)
        go y (too_deep {token = n} s x d) = absurd (deep_not_kept (subst (λ z. BadBracket z n) (same_tokens x) d) m.level)
        go y (too_many s x k t p) = ap outcome.Limit (some_one (tree x t) m.passed p)
        go y (whole s x k t p) = some_none (sym (tree x t)) p m.passed

    pub one_of_whole : {u : Start} → KeepsDepth ts → IsText ts u → first_passed u ≡ None → ((s : Start) → IsText ts s → u ≡ s) → IsFront text (outcome.Bundle u)
    one_of_whole {u = u} level is_text within single = record { is = whole short lexed level is_text within; only = λ y. go y }
      where
        tree : {us : List Token} {s : Start} → Lexes 0 text us → IsText us s → s ≡ u
        tree {s = s} x t = sym (single s (subst (λ z. IsText z s) (same_tokens x) t))

        go : (y : Outcome) → Front text y → y ≡ outcome.Bundle u
        go y (too_long h) = long_short text h short
        go y (uncut s v) = absurd (v.no_tokens ts lexed)
        go y (no_text {token = n} s x c) = absurd (bad_no_text (subst (λ z. BadToken z n) (same_tokens x) c) u is_text)
        go y (too_deep {token = n} s x d) = absurd (deep_not_kept (subst (λ z. BadBracket z n) (same_tokens x) d) level)
        go y (too_many s x k t p) = some_none (tree x t) within p
        go y (whole s x k t p) = ap outcome.Bundle (tree x t)

-- ---- from what calls answer

pub uncut_by : {text : List ℕ} {at : ℕ} {e : LexError} → e ≡ lex.Bad at → CutError text e → IsUncut text at
uncut_by {text = text} h c = let d = subst (CutError text) h c in d

pub bad_by : {ts : List Token} {n : ℕ} {e : BundleError} → e ≡ refused.Syntax n → RefusedAt ts e → BadToken ts n
bad_by {ts = ts} h r = let d = subst (RefusedAt ts) h r in d

pub deep_by : {ts : List Token} {n : ℕ} {e : BundleError} → e ≡ refused.DepthLimit n → RefusedAt ts e → BadBracket ts n
deep_by {ts = ts} h r = let d = subst (RefusedAt ts) h r in d

pub many_by : {ts : List Token} {w : What} {e : BundleError} → e ≡ refused.Limit w → RefusedAt ts e → TooMany ts w
many_by {ts = ts} h r = let d = subst (RefusedAt ts) h r in d
