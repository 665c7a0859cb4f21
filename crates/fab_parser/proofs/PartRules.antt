-- How a rule goes on behind a word or a name, expressions in brackets, and a choice by what comes next.
use Rattle.std.proofs.Common.{◌≡◌, ℕ, Bool, IsTrue, List, [], ◌∷◌, ◌++◌, length, Option, Some, None, option_and_then, Result, Ok, Err, refl, sym, ap, ◌∙◌, subst, length-append, arith}
use Rattle.std.specs.Result.{MatchResult}
use Rattle.fab_base.specs.declared.token.Mark.{Mark}
use Rattle.fab_base.specs.declared.token.Mark.TheVariants as m
use Rattle.fab_base.specs.declared.token.Kind.{Kind}
use Rattle.fab_base.specs.declared.token.Kind.TheVariants as k
use Rattle.fab_base.specs.declared.token.Token.{Token}
use Rattle.fab_tree.specs.declared.name.Name.{Name}
use Rattle.fab_tree.specs.Depth.{room_by, room_after}
use Rattle.fab_tree.specs.Lists.{Is, is, IsName, name}
use Rattle.fab_reading.specs.declared.refusal.Refusal.{Refusal}
use Rattle.fab_reading.specs.declared.refusal.Refusal.TheVariants as refusal
use Rattle.fab_reading.specs.Reading.{Starts, SameHead, Follows, Read, Refused, Deep, Stops, any, begins_name, first_place}
use Rattle.fab_reading.proofs.Rules.{Then, Sign, Going, part, whole, ending, end_text, stop_part, any_follows, never, same_refl, followed, SameTwo, two_same}
use Rattle.fab_parser.specs.Pieces.{Bracketed, bracketed}
use Rattle.fab_parser.proofs.Chains.{chain}

-- ---- what is left is one part

module _ {A B : Type 0} {R : List Token → A → List Token → Type 0} {P : List Token → B → List Token → Type 0} {may may' : Kind → Bool} {room : ℕ} {a c : List Token} {f : B → A} where
  pub last_read : ((x : List Token) → Follows may x → Follows may' x) → {t : B} {b : List Token} → Going R may room a P f room c → Read P may' room c t b → Read R may room a (f t) b
  last_read weak r p = whole (part (ending r) p (λ more v after q h. subst (λ x. Follows may' x) (sym q) (weak after h)))

pub last_stops : {A B : Type 0} {R : List Token → A → List Token → Type 0} {P : List Token → B → List Token → Type 0} {may : Kind → Bool} (may' : Kind → Bool) {room : ℕ} {a c : List Token} {f : B → A} → ((x : List Token) → Follows may x → Follows may' x) → (e : Refusal) → Going R may room a P f room c → Stops P may' room c e → Stops R may room a e
last_stops may' weak e r p = stop_part may' e (ending r) p (λ more v after q h. subst (λ x. Follows may' x) (sym q) (weak after h)) end_text

-- the same of what another reader answered
pub handed : {X A : Type 0} (r : Result X Refusal) (tree : X → A) (rest : X → List Token) {R S : List Token → A → List Token → Type 0}
    {may : Kind → Bool} (may' : Kind → Bool) {room : ℕ} {a c : List Token}
    → ((x : List Token) → Follows may x → Follows may' x) → Going R may room a S (λ v. v) room c
    → MatchResult r (λ x. Read S may' room c (tree x) (rest x)) (λ e. Stops S may' room c e)
    → MatchResult r (λ x. Read R may room a (tree x) (rest x)) (λ e. Stops R may room a e)
handed (Ok x) tree rest may' weak g p = last_read weak g p
handed (Err e) tree rest may' weak g p = last_stops may' weak e g p

pub any_weak : (may : Kind → Bool) (x : List Token) → Follows may x → Follows any x
any_weak may x h = any_follows x

-- ---- behind a part on which the rest hangs

-- what is read stands there
pub read_here : {A : Type 0} {R : List Token → A → List Token → Type 0} {may : Kind → Bool} {room : ℕ} {a : List Token} {t : A} {b : List Token} → Read R may room a t b → R a t b
read_here {R = R} {t = t} {b = b} r = subst (λ x. R x t b) (sym r.cut) (r.reads b)

pub behind_part : {A B : Type 0} {R : List Token → A → List Token → Type 0} {P : List Token → B → List Token → Type 0} {may may' : Kind → Bool}
    {room : ℕ} {a : List Token} {x : B} {b : List Token} (S : List Token → A → List Token → Type 0)
    → Read P may' room a x b → ((y more : List Token) (v : A) (after : List Token) → P y x more → S more v after → R y v after)
    → ((y more : List Token) (u : A) (after : List Token) → P y x more → SameHead b more → R y u after → Follows may after → S more u after)
    → Going R may room a S (λ v. v) room b
behind_part S r to from = record {
  front = r.front;
  cut = r.cut;
  level = r.level;
  builds = λ more v after s. to (r.front ++ more) more v after (r.reads more) s;
  only = λ more same u after d h. (u, refl, from (r.front ++ more) more u after (r.reads more) same d h);
}

-- the same behind a word whose place is kept
behind_token : {A : Type 0} {R : List Token → A → List Token → Type 0} {may : Kind → Bool} {room : ℕ} (S : ℕ → List Token → A → List Token → Type 0)
    {mark : Mark} {a c : List Token}
    → Is mark a c → room_by (k.Fixed mark) room ≡ Some room
    → ((t : Token) → t.kind ≡ k.Fixed mark → (more : List Token) (v : A) (after : List Token) → S t.at more v after → R (t ∷ more) v after)
    → ((t : Token) → t.kind ≡ k.Fixed mark → (more : List Token) (u : A) (after : List Token) → R (t ∷ more) u after → S t.at more u after)
    → Going R may room a (S (first_place a)) (λ v. v) room c
behind_token {room = room} S (is {t = t} e) level to from = record {
  front = t ∷ [];
  cut = refl;
  level = ap (option_and_then (room_after [])) (ap (λ y. room_by y room) e ∙ level);
  builds = to t e;
  only = λ more same u after d h. (u, refl, from t e more u after d);
}

pub behind_word : {A : Type 0} {R : List Token → A → List Token → Type 0} {may : Kind → Bool} {room : ℕ}
    (S : ℕ → List Token → A → List Token → Type 0) {mark : Mark} {a c : List Token} {at : ℕ}
    → at ≡ first_place a → Is mark a c → room_by (k.Fixed mark) room ≡ Some room
    → ((t : Token) → t.kind ≡ k.Fixed mark → (more : List Token) (v : A) (after : List Token) → S t.at more v after → R (t ∷ more) v after)
    → ((t : Token) → t.kind ≡ k.Fixed mark → (more : List Token) (u : A) (after : List Token) → R (t ∷ more) u after → S t.at more u after)
    → Going R may room a (S at) (λ v. v) room c
behind_word {R = R} {may = may} {room = room} S {a = a} {c = c} e i level to from = subst (λ x. Going R may room a (S x) (λ v. v) room c) (sym e) (behind_token S i level to from)

-- ---- names

pub name_of : (x : Kind) → IsTrue (begins_name x) → (y : List ℕ) × (x ≡ k.Name y)
name_of (k.Name y) h = (y, refl)
name_of _ h = absurd (never h)

a_name : (a : List Token) → Starts begins_name a → (v : Name) × (b : List Token) × IsName a v b
a_name [] s = absurd s
a_name (t ∷ ts) s = let x = name_of t.kind s in (record { text = x.0; at = t.at }, ts, name x.1)

name_here : {room n : ℕ} {a : List Token} → Starts begins_name a → Refused IsName any room a n → ⊥
name_here {a = a} s r = let x = a_name a s in r.bad r.back (same_refl r.back) x.0 x.1 (subst (λ y. IsName y x.0 x.1) r.cut x.2) (any_follows x.1)

no_room : (x : Option ℕ) → x ≡ None → x ≡ Some 0 → ⊥
no_room x e h = cc

no_bracket : (p : List Token) (u : Token) (w b : List Token) {t : Name} → IsName (p ++ (u ∷ w)) t b → b ≡ [] → room_by u.kind 0 ≡ None → ⊥
no_bracket [] u w b (name e) g o = no_room (room_by u.kind 0) o (ap (λ y. room_by y 0) e)
no_bracket (x ∷ q) u w b (name e) g o = let l : length (q ++ (u ∷ w)) ≡ 0 = ap length g in omega (arith, l, length-append q (u ∷ w))

-- where a name comes, only memory can be wanting
pub name_stops : {A : Type 0} (R : List Token → A → List Token → Type 0) (may : Kind → Bool) (room : ℕ) (a : List Token) → Starts begins_name a → (e : Refusal) → Stops IsName any room a e → Stops R may room a e
name_stops R may room a s refusal.Memory x = tt
name_stops R may room a s (refusal.Syntax n) x = absurd (name_here s x)
name_stops R may room a s (refusal.Deep n) x = absurd (no_bracket x.front x.next (x.begins.0 ++ []) [] (x.begins.2 []) refl x.opens)

-- ---- "(" x ")"

brackets_back : {A : Type 0} {P : List Token → A → List Token → Type 0} (a : List Token) (v : A) (b : List Token) → Bracketed P a v b
    → (w : Unit {0} × (A × Unit {0})) × (v ≡ w.1.0) × Then (Sign m.LeftParen) (Then P (Sign m.RightParen)) a w b
brackets_back a v b (bracketed {x = x} p q r) = ((tt, (x, tt)), refl, followed _ p (followed _ q r))

pub brackets_start : {A : Type 0} {P : List Token → A → List Token → Type 0} {room : ℕ} (a : List Token)
    → Going (Bracketed P) any room a (Then (Sign m.LeftParen) (Then P (Sign m.RightParen))) (λ v. v.1.0) room a
brackets_start = chain (λ v. v.1.0) (λ more v after p. bracketed p.first p.second.first p.second.second) brackets_back

-- ---- a choice by the next two tokens

pub two_heads : (a more : List Token) → SameTwo a more → SameHead a more
two_heads [] more same = same
two_heads (t ∷ ts) [] same = same
two_heads (t ∷ ts) (u ∷ us) same = same.0

module _ {A B : Type 0} {R : List Token → A → List Token → Type 0} {P : List Token → B → List Token → Type 0} {may may' : Kind → Bool} {room : ℕ} {a : List Token} (g : B → A) where
  -- what one choice reads is what the rule reads, where the other choices go on otherwise
  pub chosen : {t : B} {b : List Token} (first : Kind → Bool) → ((x : List Token) (v : B) (y : List Token) → P x v y → Starts first x)
      → ((x : List Token) → Follows may x → Follows may' x) → Read P may' room a t b
      → ((more : List Token) (v : B) (after : List Token) → P more v after → R more (g v) after)
      → ((more : List Token) (u : A) (after : List Token) → SameTwo a more → R more u after → (v : B) × (u ≡ g v) × P more v after)
      → Read R may room a (g t) b
  chosen {t = t} {b = b} first begins weak r to from = record {
    front = r.front;
    cut = r.cut;
    level = r.level;
    reads = λ more. to (r.front ++ more) t more (r.reads more);
    only = λ more same u after d h.
        let y = from (r.front ++ more) u after (both r.front r.cut (r.reads []) more same) d in
        let z = r.only more same y.0 after y.2 (weak after h) in
        (y.1 ∙ ap g z.0, z.1);
  }
    where
      both : (p : List Token) → a ≡ p ++ b → P (p ++ []) t [] → (more : List Token) → SameHead b more → SameTwo a (p ++ more)
      both [] e d more same = absurd (begins [] t [] d)
      both (x ∷ p) e d more same = subst (λ z. SameTwo z (x ∷ (p ++ more))) (sym e) (two_same x p b more same)

  -- what it refuses is refused, where it reads something from the first token that the rule reads something from
  pub chosen_refused : {n : ℕ} → ((x : List Token) → Follows may x → Follows may' x) → Refused P may' room a n
      → ((more : List Token) (v : B) (after : List Token) → P more v after → R more (g v) after)
      → ((more : List Token) (u : A) (after : List Token) → SameTwo a more → R more u after → (v : B) × (u ≡ g v) × P more v after)
      → ((more : List Token) (u : A) (after : List Token) → SameHead a more → R more u after → Follows may after
      → (w : List Token) × SameHead a w × (v : B) × (z : List Token) × P w v z × Follows may' z)
      → Refused R may room a n
  chosen_refused weak r to from seed = record {
    front = r.front;
    back = r.back;
    cut = r.cut;
    left_is = r.left_is;
    level = r.level;
    begins = (r.begins.0, g r.begins.1, λ after. to (r.front ++ (r.begins.0 ++ after)) r.begins.1 after (r.begins.2 after));
    bad = λ more same u after d h. go r.front r.cut r.bad more same u after d h;
  }
    where
      go : (p : List Token) → a ≡ p ++ r.back → ((more : List Token) → SameHead r.back more → (t : B) (after : List Token) → P (p ++ more) t after → Follows may' after → ⊥) → (more : List Token) → SameHead r.back more → (u : A) (after : List Token) → R (p ++ more) u after → Follows may after → ⊥
      go [] e bad more same u after d h =
          let s = seed more u after (subst (λ z. SameHead z more) (sym e) same) d h in
          bad s.0 (subst (λ z. SameHead z s.0) e s.1) s.2 s.3 s.4 s.5
      go (x ∷ p) e bad more same u after d h =
          let y = from (x ∷ (p ++ more)) u after (subst (λ z. SameTwo z (x ∷ (p ++ more))) (sym e) (two_same x p r.back more same)) d in
          bad more same y.0 after y.2 (weak after h)

-- what opens a bracket too many for it does so for the rule
pub chosen_deep : {A B : Type 0} {R : List Token → A → List Token → Type 0} {P : List Token → B → List Token → Type 0} {room : ℕ} {a : List Token} {n : ℕ} (g : B → A) → Deep P room a n → ((more : List Token) (v : B) (after : List Token) → P more v after → R more (g v) after) → Deep R room a n
chosen_deep g r to = record {
  front = r.front;
  next = r.next;
  back = r.back;
  cut = r.cut;
  left_is = r.left_is;
  level = r.level;
  opens = r.opens;
  begins = (r.begins.0, g r.begins.1, λ after. to (r.front ++ (r.next ∷ (r.begins.0 ++ after))) r.begins.1 after (r.begins.2 after));
}
