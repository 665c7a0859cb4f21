-- How a rule of several parts is read: one part after another.
use Rattle.std.proofs.Common.{add-one, ◌+◌, ◌≡◌, ℕ, suc, Bool, false, IsTrue, List, [], ◌∷◌, ◌++◌, length, Option, Some, None, option_and_then, refl, sym, ap, ◌∙◌, subst, append_assoc, length-append, arith, ◌<◌, ◌≤◌}
use Rattle.fab_base.specs.declared.token.Mark.{Mark}
use Rattle.fab_base.specs.declared.token.Kind.{Kind}
use Rattle.fab_base.specs.declared.token.Kind.TheVariants as k
use Rattle.fab_base.specs.declared.token.Token.{Token}
use Rattle.fab_reading.specs.declared.refusal.Refusal.{Refusal}
use Rattle.fab_reading.specs.declared.refusal.Refusal.TheVariants as refusal
use Rattle.fab_tree.specs.Lists.{Is, is}
use Rattle.fab_tree.specs.Depth.{room_by, room_after}
use Rattle.fab_reading.specs.Reading.{Lacks, BeginsWith, Starts, SameHead, Follows, Read, Refused, Deep, Stops, CannotRead, CannotOpen, any, nothing, first_place}

-- one part, and then the others
pub record Then {A B : Type 0} (P : List Token → A → List Token → Type 0) (Q : List Token → B → List Token → Type 0) (a : List Token) (v : A × B) (c : List Token) : Type 0 where
  pub mid : List Token
  pub first : P a v.0 mid
  pub second : Q mid v.1 c

-- one part is read, and the others behind it
pub followed : {A B : Type 0} {P : List Token → A → List Token → Type 0} {Q : List Token → B → List Token → Type 0} {a c : List Token} {x : A} {v : B} (b : List Token)
    → P a x b → Q b v c → Then P Q a (x, v) c
followed b p q = record { mid = b; first = p; second = q }

-- no part is left
abbrev pub End : List Token → Unit {0} → List Token → Type 0
End a u b = a ≡ b

-- a sign, of which nothing is kept
abbrev pub Sign : Mark → List Token → Unit {0} → List Token → Type 0
Sign mark a u b = Is mark a b

-- some tokens are read by it, whatever follows
abbrev pub HasText : {A : Type 0} → (List Token → A → List Token → Type 0) → Type 0
HasText {A} R = (more : List Token) × (t : A) × ((after : List Token) → R (more ++ after) t after)

-- what R reads from a is what S reads from b, up to f: the tokens before b are read
pub record Going {A B : Type 0} (R : List Token → A → List Token → Type 0) (may : Kind → Bool) (room : ℕ) (a : List Token) (S : List Token → B → List Token → Type 0) (f : B → A) (left : ℕ) (b : List Token) : Type 0 where
  pub front : List Token
  pub cut : a ≡ front ++ b
  pub level : room_after front room ≡ Some left
  pub builds : (more : List Token) (v : B) (after : List Token) → S more v after → R (front ++ more) (f v) after
  pub only : (more : List Token) → SameHead b more → (u : A) (after : List Token) → R (front ++ more) u after → Follows may after → (v : B) × (u ≡ f v) × S more v after

pub room_append : (p q : List Token) (room r : ℕ) → room_after p room ≡ Some r → room_after (p ++ q) room ≡ room_after q r
room_append [] q room r e = let same : room ≡ r = cc in ap (room_after q) same
room_append (t ∷ p) q room r e = go (λ s h. room_append p q s r h) (room_by t.kind room) e
  where
    go : ((s : ℕ) → room_after p s ≡ Some r → room_after (p ++ q) s ≡ room_after q r) → (o : Option ℕ) → option_and_then (room_after p) o ≡ Some r → option_and_then (room_after (p ++ q)) o ≡ room_after q r
    go ih None h = absurd (let no : None ≡ Some r = h in cc)
    go ih (Some s) h = ih s h

pub same_refl : (a : List Token) → SameHead a a
same_refl [] = tt
same_refl (t ∷ ts) = refl

same_append : (p b more : List Token) → SameHead b more → SameHead (p ++ b) (p ++ more)
same_append [] b more s = s
same_append (t ∷ p) b more s = refl

-- nothing is read yet
pub start : {A : Type 0} (R : List Token → A → List Token → Type 0) (may : Kind → Bool) (room : ℕ) (a : List Token) → Going R may room a R (λ v. v) room a
start R may room a = record {
  front = [];
  cut = refl;
  level = refl;
  builds = λ more v after r. r;
  only = λ more s u after r h. (u, refl, r);
}

-- a cut of a cut
cut_again : (a p b q c : List Token) → a ≡ p ++ b → b ≡ q ++ c → a ≡ (p ++ q) ++ c
cut_again a p b q c e h = e ∙ ap (λ x. p ++ x) h ∙ sym (append_assoc p q c)

module _ {A : Type 0} (R : List Token → A → List Token → Type 0) (p q more : List Token) (u : A) (after : List Token) where
  apart : R ((p ++ q) ++ more) u after → R (p ++ (q ++ more)) u after
  apart r = subst (λ x. R x u after) (append_assoc p q more) r

  joined : R (p ++ (q ++ more)) u after → R ((p ++ q) ++ more) u after
  joined r = subst (λ x. R x u after) (sym (append_assoc p q more)) r

-- the rest of the rule in other words
pub turn : {A B C : Type 0} {R : List Token → A → List Token → Type 0} {may : Kind → Bool} {room : ℕ} {a : List Token}
    {S : List Token → B → List Token → Type 0} {T : List Token → C → List Token → Type 0} {f : B → A} {left : ℕ} {b : List Token} (g : C → B)
    → Going R may room a S f left b → ((more : List Token) (v : C) (after : List Token) → T more v after → S more (g v) after)
    → ((more : List Token) (v : B) (after : List Token) → SameHead b more → S more v after → Follows may after → (w : C) × (v ≡ g w) × T more w after)
    → Going R may room a T (λ w. f (g w)) left b
turn {f = f} g r to from = record {
  front = r.front;
  cut = r.cut;
  level = r.level;
  builds = λ more v after t. r.builds more (g v) after (to more v after t);
  only = λ more same u after d h.
      let x = r.only more same u after d h in
      let y = from more x.0 after same x.2 h in
      (y.0, x.1 ∙ ap f y.1, y.2);
}

module _ {A B C : Type 0} {R : List Token → A → List Token → Type 0} {may : Kind → Bool} {room : ℕ} {a : List Token} {P : List Token → B → List Token → Type 0} {Q : List Token → C → List Token → Type 0} {f : B × C → A} {left : ℕ} {b : List Token} where
  -- the next part is read
  pub part : {may' : Kind → Bool} {t : B} {c : List Token} → Going R may room a (Then P Q) f left b → Read P may' left b t c → ((more : List Token) (v : C) (after : List Token) → Q more v after → Follows may after → Follows may' more) → Going R may room a Q (λ v. f (t, v)) left c
  part {t = t} {c = c} r x meets = record {
    front = r.front ++ x.front;
    cut = cut_again a r.front b x.front c r.cut x.cut;
    level = room_append r.front x.front room left r.level ∙ x.level;
    builds = λ more v after q. joined R r.front x.front more (f (t, v)) after (r.builds (x.front ++ more) (t, v) after (record { mid = more; first = x.reads more; second = q }));
    only = λ more same u after d h.
        let sh : SameHead b (x.front ++ more) = subst (λ y. SameHead y (x.front ++ more)) (sym x.cut) (same_append x.front c more same) in
        let y = r.only (x.front ++ more) sh u after (apart R r.front x.front more u after d) h in
        let z = x.only more same y.0.0 y.2.mid y.2.first (meets y.2.mid y.0.1 after y.2.second h) in
        (y.0.1, y.1 ∙ ap (λ w. f (w, y.0.1)) z.0, subst (λ w. Q w y.0.1 after) z.1 y.2.second);
  }

  -- the next part is refused
  pub refuse : {may' : Kind → Bool} {n : ℕ} → Going R may room a (Then P Q) f left b → Refused P may' left b n → ((more : List Token) (v : C) (after : List Token) → Q more v after → Follows may after → Follows may' more) → HasText Q → Refused R may room a n
  refuse {may' = may'} r x meets some = record {
    front = r.front ++ x.front;
    back = x.back;
    cut = cut_again a r.front b x.front x.back r.cut x.cut;
    left_is = x.left_is;
    level = (x.level.0, room_append r.front x.front room left r.level ∙ x.level.1);
    begins = (
      x.begins.0 ++ some.0,
      f (x.begins.1, some.1),
      λ after.
          joined R r.front x.front ((x.begins.0 ++ some.0) ++ after) (f (x.begins.1, some.1)) after
          (r.builds (x.front ++ ((x.begins.0 ++ some.0) ++ after)) (x.begins.1, some.1) after
          (record { mid = some.0 ++ after; first = subst (λ y. P (x.front ++ y) x.begins.1 (some.0 ++ after)) (sym (append_assoc x.begins.0 some.0 after)) (x.begins.2 (some.0 ++ after)); second = some.2 after })),
    );
    bad = λ more same u after d h.
        let sh : SameHead b (x.front ++ more) = subst (λ y. SameHead y (x.front ++ more)) (sym x.cut) (same_append x.front x.back more same) in
        let y = r.only (x.front ++ more) sh u after (apart R r.front x.front more u after d) h in
        x.bad more same y.0.0 y.2.mid y.2.first (meets y.2.mid y.0.1 after y.2.second h);
  }

  -- the next part opens a bracket too many
  pub deepen : {n : ℕ} → Going R may room a (Then P Q) f left b → Deep P left b n → HasText Q → Deep R room a n
  deepen r x some = record {
    front = r.front ++ x.front;
    next = x.next;
    back = x.back;
    cut = cut_again a r.front b x.front (x.next ∷ x.back) r.cut x.cut;
    left_is = x.left_is;
    level = room_append r.front x.front room left r.level ∙ x.level;
    opens = x.opens;
    begins = (
      x.begins.0 ++ some.0,
      f (x.begins.1, some.1),
      λ after.
          joined R r.front x.front (x.next ∷ ((x.begins.0 ++ some.0) ++ after)) (f (x.begins.1, some.1)) after
          (r.builds (x.front ++ (x.next ∷ ((x.begins.0 ++ some.0) ++ after))) (x.begins.1, some.1) after
          (record { mid = some.0 ++ after; first = subst (λ y. P (x.front ++ (x.next ∷ y)) x.begins.1 (some.0 ++ after)) (sym (append_assoc x.begins.0 some.0 after)) (x.begins.2 (some.0 ++ after)); second = some.2 after })),
    );
  }

-- the rule is read whole
pub whole : {A : Type 0} {R : List Token → A → List Token → Type 0} {may : Kind → Bool} {room : ℕ} {a : List Token} {f : Unit {0} → A} {b : List Token} → Going R may room a End f room b → Read R may room a (f tt) b
whole r = record {
  front = r.front;
  cut = r.cut;
  level = r.level;
  reads = λ more. r.builds more tt more refl;
  only = λ more same u after d h. let x = r.only more same u after d h in (x.1, sym x.2);
}

is_same : {mark : Mark} {x y : List Token} {t : Token} → Is mark (t ∷ x) y → x ≡ y
is_same (is e) = refl

pub lacks_too : {mark : Mark} (a more b : List Token) → Lacks mark a → SameHead a more → Is mark more b → ⊥
lacks_too [] [] b h same i = elim i [ ]
lacks_too [] (u ∷ us) b h same i = absurd same
lacks_too (t ∷ ts) [] b h same i = absurd same
lacks_too {mark = mark} (t ∷ ts) (u ∷ us) b h same i = h ts (is (ap (λ x. x.kind) same ∙ kind_of i))
  where
    kind_of : {x : List Token} → Is mark (u ∷ us) x → u.kind ≡ k.Fixed mark
    kind_of (is e) = e

pub is_at : {mark : Mark} {a b : List Token} {t : Token} → a ≡ t ∷ b → t.kind ≡ k.Fixed mark → Is mark a b
is_at {mark = mark} {b = b} e h = subst (λ x. Is mark x b) (sym e) (is h)

kind_at : {mark : Mark} {b c : List Token} {t : Token} → Is mark (t ∷ b) c → t.kind ≡ k.Fixed mark
kind_at (is h) = h

pub lacks_at : {mark : Mark} {a b : List Token} {t : Token} → a ≡ t ∷ b → (t.kind ≡ k.Fixed mark → ⊥) → Lacks mark a
lacks_at {mark = mark} e h c i = h (kind_at (subst (λ x. Is mark x c) e i))

no_sign : {mark : Mark} {c : List Token} → Is mark [] c → ⊥
no_sign i = elim i [ ]

pub lacks_end : {mark : Mark} {a : List Token} → a ≡ [] → Lacks mark a
lacks_end {mark = mark} e c i = no_sign (subst (λ x. Is mark x c) e i)

-- a token with this sign
abbrev pub token_of : Mark → Token
token_of mark = record { kind = k.Fixed mark; at = 0; end = 0 }

module _ {A C : Type 0} {R : List Token → A → List Token → Type 0} {may : Kind → Bool} {room : ℕ} {a : List Token} {Q : List Token → C → List Token → Type 0} {f : Unit {0} × C → A} {left : ℕ} {mark : Mark} where
  -- the next token is this sign
  pub sign : {b c : List Token} {n : ℕ} → Going R may room a (Then (Sign mark) Q) f left b → Is mark b c → room_by (k.Fixed mark) left ≡ Some n → Going R may room a Q (λ v. f (tt, v)) n c
  sign {c = c} {n = n} r (is {t = t} e) level = record {
    front = r.front ++ (t ∷ []);
    cut = cut_again a r.front (t ∷ c) (t ∷ []) c r.cut refl;
    level = room_append r.front (t ∷ []) room left r.level ∙ ap (option_and_then (room_after [])) (ap (λ y. room_by y left) e ∙ level);
    builds = λ more v after q. joined R r.front (t ∷ []) more (f (tt, v)) after (r.builds (t ∷ more) (tt, v) after (record { mid = more; first = is e; second = q }));
    only = λ more same u after d h.
        let y = r.only (t ∷ more) refl u after (apart R r.front (t ∷ []) more u after d) h in
        (y.0.1, y.1, subst (λ w. Q w y.0.1 after) (sym (is_same y.2.first)) y.2.second);
  }

  -- the next token is another one
  pub missing : {b : List Token} → Going R may room a (Then (Sign mark) Q) f left b → Lacks mark b → HasText Q → Refused R may room a (length b)
  missing {b = b} r lacks some = record {
    front = r.front;
    back = b;
    cut = r.cut;
    left_is = refl;
    level = (left, r.level);
    begins = (token_of mark ∷ some.0, f (tt, some.1), λ after. r.builds (token_of mark ∷ (some.0 ++ after)) (tt, some.1) after (record { mid = some.0 ++ after; first = is refl; second = some.2 after }));
    bad = λ more same u after d h.
        let y = r.only more same u after d h in
        lacks_too b more y.2.mid lacks same y.2.first;
  }

  -- the next token opens a bracket too many
  pub too_deep : {b c : List Token} → Going R may room a (Then (Sign mark) Q) f left b → Is mark b c → left ≡ 0 → room_by (k.Fixed mark) 0 ≡ None → HasText Q → Deep R room a (length b)
  too_deep r (is {t = t} {ts = ts} e) none opens some = record {
    front = r.front;
    next = t;
    back = ts;
    cut = r.cut;
    left_is = refl;
    level = r.level ∙ ap Some none;
    opens = ap (λ y. room_by y 0) e ∙ opens;
    begins = (some.0, f (tt, some.1), λ after. r.builds (t ∷ (some.0 ++ after)) (tt, some.1) after (record { mid = some.0 ++ after; first = is e; second = some.2 after }));
  }

begun : {mark : Mark} (c : List Token) → BeginsWith mark c → (d : List Token) × Is mark c d
begun [] h = absurd h
begun (t ∷ ts) h = (ts, is h)

-- ---- the exits of a function

module _ {A B C : Type 0} {R : List Token → A → List Token → Type 0} {may : Kind → Bool} {room : ℕ} {a : List Token} {P : List Token → B → List Token → Type 0} {Q : List Token → C → List Token → Type 0} {f : B × C → A} {left : ℕ} {b : List Token} where
  pub stop_part : (may' : Kind → Bool) (e : Refusal) → Going R may room a (Then P Q) f left b → Stops P may' left b e → ((more : List Token) (v : C) (after : List Token) → Q more v after → Follows may after → Follows may' more) → HasText Q → Stops R may room a e
  stop_part may' refusal.Memory r x meets some = tt
  stop_part may' (refusal.Syntax n) r x meets some = refuse r x meets some
  stop_part may' (refusal.Deep n) r x meets some = deepen r x some

module _ {A C : Type 0} {R : List Token → A → List Token → Type 0} {may : Kind → Bool} {room : ℕ} {a : List Token} {Q : List Token → C → List Token → Type 0} {f : Unit {0} × C → A} {left : ℕ} {mark : Mark} {b : List Token} where
  pub stop_sign : (e : Refusal) → Going R may room a (Then (Sign mark) Q) f left b → CannotRead mark b e → HasText Q → Stops R may room a e
  stop_sign refusal.Memory r x some = absurd x
  stop_sign (refusal.Syntax n) r x some = subst (λ y. Refused R may room a y) (sym x.0) (missing r x.1 some)
  stop_sign (refusal.Deep n) r x some = absurd x

  pub stop_open : (e : Refusal) → Going R may room a (Then (Sign mark) Q) f left b → CannotOpen mark left b e → room_by (k.Fixed mark) 0 ≡ None → HasText Q → Stops R may room a e
  stop_open refusal.Memory r x opens some = absurd x
  stop_open (refusal.Syntax n) r x opens some = subst (λ y. Refused R may room a y) (sym x.0) (missing r x.1 some)
  stop_open (refusal.Deep n) r x opens some = subst (λ y. Deep R room a y) (sym x.0) (too_deep r (begun b x.2).1 x.1 opens some)

-- the same with a value built otherwise
pub alike : {A B : Type 0} {R : List Token → A → List Token → Type 0} {may : Kind → Bool} {room : ℕ} {a : List Token} {S : List Token → B → List Token → Type 0} {f : B → A} {left : ℕ} {b : List Token} (g : B → A) → Going R may room a S f left b → ((v : B) → f v ≡ g v) → Going R may room a S g left b
alike {R = R} g r same = record {
  front = r.front;
  cut = r.cut;
  level = r.level;
  builds = λ more v after t. subst (λ x. R (r.front ++ more) x after) (same v) (r.builds more v after t);
  only = λ more sh u after d h. let x = r.only more sh u after d h in (x.0, x.1 ∙ same x.0, x.2);
}

-- ---- what a rule begins with

pub starts_too : (first : Kind → Bool) (a more : List Token) → SameHead a more → Starts first more → Starts first a
starts_too first [] [] same h = h
starts_too first [] (u ∷ us) same h = absurd same
starts_too first (t ∷ ts) [] same h = absurd same
starts_too first (t ∷ ts) (u ∷ us) same h = subst (λ x. IsTrue (first x.kind)) (sym same) h

-- the first token is none that the rule begins with
pub here : {A : Type 0} {R : List Token → A → List Token → Type 0} {may : Kind → Bool} {room : ℕ} {a : List Token} (first : Kind → Bool) → ((x : List Token) (t : A) (y : List Token) → R x t y → Starts first x) → HasText R → (Starts first a → ⊥) → Refused R may room a (length a)
here {room = room} {a = a} first begins some none = record {
  front = [];
  back = a;
  cut = refl;
  left_is = refl;
  level = (room, refl);
  begins = (some.0, some.1, some.2);
  bad = λ more same t after d h. none (starts_too first a more same (begins more t after d));
}

-- ---- texts of rules

pub end_text : HasText End
end_text = ([], tt, λ after. refl)

pub sign_text : (mark : Mark) {C : Type 0} {Q : List Token → C → List Token → Type 0} → HasText Q → HasText (Then (Sign mark) Q)
sign_text mark some = (token_of mark ∷ some.0, (tt, some.1), λ after. record { mid = some.0 ++ after; first = is refl; second = some.2 after })

pub then_text : {B C : Type 0} {P : List Token → B → List Token → Type 0} {Q : List Token → C → List Token → Type 0} → HasText P → HasText Q → HasText (Then P Q)
then_text {P = P} x y = (x.0 ++ y.0, (x.1, y.1), λ after. record { mid = y.0 ++ after; first = subst (λ z. P z x.1 (y.0 ++ after)) (sym (append_assoc x.0 y.0 after)) (x.2 (y.0 ++ after)); second = y.2 after })

-- ---- what may follow

pub any_follows : (a : List Token) → Follows any a
any_follows [] = tt
any_follows (t ∷ ts) = refl

pub sign_follows : (mark : Mark) (may : Kind → Bool) → IsTrue (may (k.Fixed mark)) → {a b : List Token} → Is mark a b → Follows may a
sign_follows mark may h (is e) = subst (λ x. IsTrue (may x)) (sym e) h

pub lacks_sign : (mark : Mark) (may : Kind → Bool) → (IsTrue (may (k.Fixed mark)) → ⊥) → {a b : List Token} → Is mark a b → Follows may a → ⊥
lacks_sign mark may never (is e) h = never (subst (λ x. IsTrue (may x)) e h)

pub same_sign : {mark : Mark} (a more : List Token) {b : List Token} → Is mark a b → SameHead a more → (c : List Token) × Is mark more c
same_sign (t ∷ ts) [] i same = absurd same
same_sign (t ∷ ts) (u ∷ us) (is e) same = (us, is (ap (λ x. x.kind) (sym same) ∙ e))
same_sign [] more i same = elim i [ ]

-- ---- lists get shorter

pub sign_shorter : {mark : Mark} {a b : List Token} → Is mark a b → length b < length a
sign_shorter (is e) = omega arith

pub read_shorter : {A : Type 0} {R : List Token → A → List Token → Type 0} {may : Kind → Bool} {room : ℕ} {a : List Token} {t : A} {b : List Token} → Read R may room a t b → length b ≤ length a
read_shorter {a = a} {b = b} r = let e : length a ≡ length (r.front ++ b) = ap length r.cut in omega (arith, e, length-append r.front b)

pub begins_too : (mark : Mark) (a more : List Token) → BeginsWith mark a → SameHead a more → BeginsWith mark more
begins_too mark [] more h same = absurd h
begins_too mark (t ∷ ts) [] h same = absurd same
begins_too mark (t ∷ ts) (u ∷ us) h same = ap (λ x. x.kind) (sym same) ∙ h

-- ---- a rule of one token

pub leaf : {A : Type 0} {R : List Token → A → List Token → Type 0} {may : Kind → Bool} {room : ℕ} {a : List Token} {t : A} {b : List Token} {u : Token}
    → a ≡ u ∷ b → room_by u.kind room ≡ Some room → ((more : List Token) → R (u ∷ more) t more)
    → ((more : List Token) (v : A) (after : List Token) → R (u ∷ more) v after → (v ≡ t) × (after ≡ more)) → Read R may room a t b
leaf {u = u} cut level reads only = record {
  front = u ∷ [];
  cut = cut;
  level = ap (option_and_then (room_after [])) level;
  reads = reads;
  only = λ more same v after d h. only more v after d;
}

-- ---- exits and brackets

pub opened : (mark : Mark) {room n : ℕ} → ((r : ℕ) → room_by (k.Fixed mark) (suc r) ≡ Some r) → room ≡ n + 1 → room_by (k.Fixed mark) room ≡ Some n
opened mark {n = n} opens e = ap (room_by (k.Fixed mark)) (e ∙ add-one n) ∙ opens n

pub closed : (mark : Mark) {room : ℕ} (n : ℕ) → ((r : ℕ) → room_by (k.Fixed mark) r ≡ Some (suc r)) → room ≡ n + 1 → room_by (k.Fixed mark) n ≡ Some room
closed mark n closes e = closes n ∙ ap Some (sym (e ∙ add-one n))

-- nothing of the rule comes where the text ends
pub here_end : {A : Type 0} {R : List Token → A → List Token → Type 0} {may : Kind → Bool} {room : ℕ} {a : List Token} (first : Kind → Bool) → ((x : List Token) (t : A) (y : List Token) → R x t y → Starts first x) → HasText R → a ≡ [] → Refused R may room a 0
here_end {R = R} {may = may} {room = room} {a = a} first begins some e =
    subst (λ x. Refused R may room x 0) (sym e) (here {a = []} first begins some (λ h. h))

pub here_at : {A : Type 0} {R : List Token → A → List Token → Type 0} {may : Kind → Bool} {room : ℕ} {a b : List Token} {u : Token} (first : Kind → Bool) → ((x : List Token) (t : A) (y : List Token) → R x t y → Starts first x) → HasText R → a ≡ u ∷ b → (IsTrue (first u.kind) → ⊥) → Refused R may room a (length a)
here_at first begins some e none = here first begins some (λ h. none (subst (λ x. Starts first x) e h))

pub never : IsTrue false → ⊥
never h = cc

-- the last part
pub ending : {A B : Type 0} {R : List Token → A → List Token → Type 0} {may : Kind → Bool} {room : ℕ} {a : List Token} {P : List Token → B → List Token → Type 0} {f : B → A} {left : ℕ} {b : List Token} → Going R may room a P f left b → Going R may room a (Then P End) (λ v. f v.0) left b
ending {P = P} r = turn (λ v. v.0) r (λ more v after p. subst (λ x. P more v.0 x) p.second p.first) (λ more v after same p h. ((v, tt), refl, record { mid = after; first = p; second = refl }))

pub end_meets : (may : Kind → Bool) (more : List Token) (v : Unit {0}) (after : List Token) → End more v after → Follows may after → Follows may more
end_meets may more v after e h = subst (λ x. Follows may x) (sym e) h

-- one more element at the end of a list
pub one_more : {A : Type 0} (xs ys : List A) (x : A) → ys ≡ xs ++ (x ∷ []) → (v : List A) → xs ++ (x ∷ v) ≡ ys ++ v
one_more xs ys x e v = sym (append_assoc xs (x ∷ []) v) ∙ ap (λ z. z ++ v) (sym e)

-- the rule is read, and more follows where nothing may
pub extra : {A : Type 0} {R : List Token → A → List Token → Type 0} {room : ℕ} {a : List Token} {f : Unit {0} → A} {left : ℕ} {b : List Token} → Going R nothing room a End f left b → (b ≡ [] → ⊥) → Refused R nothing room a (length b)
extra {R = R} {f = f} {left = left} {b = b} r some = record {
  front = r.front;
  back = b;
  cut = r.cut;
  left_is = refl;
  level = (left, r.level);
  begins = ([], f tt, λ after. r.builds after tt after refl);
  bad = λ more same u after d h. let x = r.only more same u after d h in some (same_end b more after same x.2 h);
}
  where
    same_end : (b more after : List Token) → SameHead b more → more ≡ after → Follows nothing after → b ≡ []
    same_end [] more after same e h = refl
    same_end (t ∷ ts) [] after same e h = absurd same
    same_end (t ∷ ts) (u ∷ us) [] same e h = absurd (cc)
    same_end (t ∷ ts) (u ∷ us) (v ∷ vs) same e h = absurd (never h)

pub not_true : {b : Bool} → b ≡ false → IsTrue b → ⊥
not_true e h = cc

-- a rule that begins with a token takes one
pub takes_some : {A : Type 0} {R : List Token → A → List Token → Type 0} {may : Kind → Bool} {room : ℕ} {a : List Token} {t : A} {b : List Token} (first : Kind → Bool) → ((x : List Token) (v : A) (y : List Token) → R x v y → Starts first x) → Read R may room a t b → length b < length a
takes_some {R = R} {a = a} {t = t} {b = b} first begins r = go r.front r.cut (r.reads [])
  where
    go : (p : List Token) → a ≡ p ++ b → R (p ++ []) t [] → length b < length a
    go [] e d = absurd (begins [] t [] d)
    go (x ∷ p) e d = let l : length a ≡ length (x ∷ (p ++ b)) = ap length e in omega (arith, l, length-append p b)

-- ---- a choice by the second token

-- both begin with the same two tokens, as far as there are two
abbrev pub SameTwo : List Token → List Token → Type 0
SameTwo [] more = SameHead [] more
SameTwo (t ∷ ts) [] = ⊥
SameTwo (t ∷ ts) (u ∷ us) = (t ≡ u) × SameHead ts us

pub two_same : (t : Token) (p b more : List Token) → SameHead b more → SameTwo (t ∷ (p ++ b)) (t ∷ (p ++ more))
two_same t p b more same = (refl, same_append p b more same)

module _ {A B : Type 0} {R : List Token → A → List Token → Type 0} {P : List Token → B → List Token → Type 0} {may : Kind → Bool} {room : ℕ} {a : List Token} (g : B → A) where
  -- what one choice reads is what the rule reads, where the other choices have another second token
  pub through : {t : B} {b : List Token} (first : Kind → Bool) → ((x : List Token) (v : B) (y : List Token) → P x v y → Starts first x)
      → Read P may room a t b → ((more : List Token) (v : B) (after : List Token) → P more v after → R more (g v) after)
      → ((more : List Token) (u : A) (after : List Token) → SameTwo a more → R more u after → (v : B) × (u ≡ g v) × P more v after)
      → Read R may room a (g t) b
  through {t = t} {b = b} first begins r to from = record {
    front = r.front;
    cut = r.cut;
    level = r.level;
    reads = λ more. to (r.front ++ more) t more (r.reads more);
    only = λ more same u after d h.
        let y = from (r.front ++ more) u after (both r.front r.cut (r.reads []) more same) d in
        let z = r.only more same y.0 after y.2 h in
        (y.1 ∙ ap g z.0, z.1);
  }
    where
      both : (p : List Token) → a ≡ p ++ b → P (p ++ []) t [] → (more : List Token) → SameHead b more → SameTwo a (p ++ more)
      both [] e d more same = absurd (begins [] t [] d)
      both (x ∷ p) e d more same = subst (λ z. SameTwo z (x ∷ (p ++ more))) (sym e) (two_same x p b more same)

  pub through_refused : {n : ℕ} → (more : List Token) → SameHead a more → (v : B) → P more v [] → Refused P may room a n → ((more : List Token) (v : B) (after : List Token) → P more v after → R more (g v) after) → ((more : List Token) (u : A) (after : List Token) → SameTwo a more → R more u after → (v : B) × (u ≡ g v) × P more v after) → Refused R may room a n
  through_refused one one_same v one_is r to from = record {
    front = r.front;
    back = r.back;
    cut = r.cut;
    left_is = r.left_is;
    level = r.level;
    begins = (r.begins.0, g r.begins.1, λ after. to (r.front ++ (r.begins.0 ++ after)) r.begins.1 after (r.begins.2 after));
    bad = λ more same u after d h. go r.front r.cut r.bad more same u after d h;
  }
    where
      go : (p : List Token) → a ≡ p ++ r.back → ((more : List Token) → SameHead r.back more → (t : B) (after : List Token) → P (p ++ more) t after → Follows may after → ⊥) → (more : List Token) → SameHead r.back more → (u : A) (after : List Token) → R (p ++ more) u after → Follows may after → ⊥
      go [] e bad more same u after d h = bad one (subst (λ z. SameHead z one) e one_same) v [] one_is tt
      go (x ∷ p) e bad more same u after d h =
          let y = from (x ∷ (p ++ more)) u after (subst (λ z. SameTwo z (x ∷ (p ++ more))) (sym e) (two_same x p r.back more same)) d in
          bad more same y.0 after y.2 h

-- what begins with a mark
pub begins_at : {mark : Mark} {a b : List Token} → Is mark a b → BeginsWith mark a
begins_at (is e) = e

-- ---- what keeps the place of its first mark

-- the mark is read, and its place kept for what is built
pub behind_mark : {A B : Type 0} {R : List Token → A → List Token → Type 0} {may : Kind → Bool} {room : ℕ} {S : List Token → B → List Token → Type 0}
    (f : ℕ → B → A) {mark : Mark} {a c : List Token} {n : ℕ}
    → Is mark a c → room_by (k.Fixed mark) room ≡ Some n
    → ((t : Token) → t.kind ≡ k.Fixed mark → (more : List Token) (v : B) (after : List Token) → S more v after → R (t ∷ more) (f t.at v) after)
    → ((t : Token) → t.kind ≡ k.Fixed mark → (more : List Token) (u : A) (after : List Token) → R (t ∷ more) u after → Follows may after
    → (v : B) × (u ≡ f t.at v) × S more v after)
    → Going R may room a S (f (first_place a)) n c
behind_mark {room = room} f (is {t = t} e) level to from = record {
  front = t ∷ [];
  cut = refl;
  level = ap (option_and_then (room_after [])) (ap (λ y. room_by y room) e ∙ level);
  builds = to t e;
  only = λ more same. from t e more;
}

-- the first bracket is one too many
deep_here : {A : Type 0} {R : List Token → A → List Token → Type 0} {room : ℕ} {mark : Mark} {a b : List Token} → room_by (k.Fixed mark) 0 ≡ None → ((t : Token) → t.kind ≡ k.Fixed mark → (more : List Token) × (v : A) × ((after : List Token) → R (t ∷ (more ++ after)) v after)) → room ≡ 0 → Is mark a b → Deep R room a (length a)
deep_here opens more none (is {t = t} {ts = ts} e) = record {
  front = [];
  next = t;
  back = ts;
  cut = refl;
  left_is = refl;
  level = ap Some none;
  opens = ap (λ y. room_by y 0) e ∙ opens;
  begins = more t e;
}

-- nothing of the rule begins here, or its first bracket is one too many
pub stop_here : {A : Type 0} {R : List Token → A → List Token → Type 0} (may : Kind → Bool) (room : ℕ) (a : List Token) (mark : Mark)
    (first : Kind → Bool)
    → ((x : List Token) (t : A) (y : List Token) → R x t y → Starts first x) → HasText R → (Lacks mark a → Starts first a → ⊥)
    → room_by (k.Fixed mark) 0 ≡ None
    → ((t : Token) → t.kind ≡ k.Fixed mark → (more : List Token) × (v : A) × ((after : List Token) → R (t ∷ (more ++ after)) v after)) → (e : Refusal)
    → CannotOpen mark room a e → Stops R may room a e
stop_here may room a mark first begins some none opens more refusal.Memory x = absurd x
stop_here {R = R} may room a mark first begins some none opens more (refusal.Syntax n) x = subst (λ y. Refused R may room a y) (sym x.0) (here first begins some (none x.1))
stop_here {R = R} may room a mark first begins some none opens more (refusal.Deep n) x = subst (λ y. Deep R room a y) (sym x.0) (deep_here opens more x.1 (begun a x.2).1)
