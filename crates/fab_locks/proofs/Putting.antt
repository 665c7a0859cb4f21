-- Sets of names with numbers, behind some that were put and some that were taken out.
use Rattle.std.proofs.Common.{◌≡◌, ℕ, ◌==◌, Bool, true, false, not, ◌&&◌, ◌||◌, cond, List, [], ◌∷◌, length, Option, Some, None, Result, Ok, Err, OnErr, IfSome, IfNone, refl, sym, subst, ap, ◌∙◌, arith}
use Rattle.std.specs.List.{list_any}
use Rattle.std.specs.BTreeMap.{BTreeMap, get, is_at}
use Rattle.std.specs.BTreeSet.{BTreeSet, contains}
use Rattle.std.proofs.lemmas.Bool.{true≢false}
use Rattle.fab_base.specs.declared.object.Oid.{Oid}
use Rattle.fab_base.specs.declared.object.Tid.{Tid}
use Rattle.fab_base.specs.FlatMap.{is_same}
use Rattle.fab_protocol.specs.Versions.{is_tid}
use Rattle.fab_locks.specs.Indexes.{Key, Keeps, Puts, Takes, any_named, has, key_cmp, tid_cmp}
use Rattle.fab_locks.proofs.Keys.{key_at, tid_at}

abbrev Names : Type 0
Names = BTreeSet Key

-- ---- one name

put_bit : (a b s : Bool) → cond (a && b) true s ≡ ((b && a) || s)
put_bit true true s = refl
put_bit true false s = refl
put_bit false true s = refl
put_bit false false s = refl

taken_bit : (a b s : Bool) → cond (a && b) false s ≡ (not (b && a) && s)
taken_bit true true s = refl
taken_bit true false s = refl
taken_bit false true s = refl
taken_bit false false s = refl

module _ (o : Oid) (n : ℕ) (old new : Names) where
  pub put_one : ((q : Key) → contains key_cmp new q ≡ cond (is_at (key_cmp (o, n)) q) true (contains key_cmp old q)) → Puts (is_same o) n old new
  put_one h = record {
    at = λ p m. h (p, m) ∙ ap (λ b. cond b true (has old p m)) (key_at o n p m) ∙ put_bit (is_same o p) (n == m) (has old p m);
  }

  pub take_one : ((q : Key) → contains key_cmp new q ≡ cond (is_at (key_cmp (o, n)) q) false (contains key_cmp old q)) → Takes (is_same o) n old new
  take_one h = record {
    at = λ p m. h (p, m) ∙ ap (λ b. cond b false (has old p m)) (key_at o n p m) ∙ taken_bit (is_same o p) (n == m) (has old p m);
  }

-- ---- one tid

module _ (t : Tid) (old new : BTreeMap Tid ℕ) where
  placed : (w : Option ℕ) → ((q : Tid) → get tid_cmp new q ≡ cond (is_at (tid_cmp t) q) w (get tid_cmp old q))
      → (u : Tid) → get tid_cmp new u ≡ cond (is_tid t u) w (get tid_cmp old u)
  placed w h u = h u ∙ ap (λ b. cond b w (get tid_cmp old u)) (tid_at t u)

pub put_place : (t : Tid) (n : ℕ) (old new : BTreeMap Tid ℕ)
    → ((q : Tid) → get tid_cmp new q ≡ cond (is_at (tid_cmp t) q) (Some n) (get tid_cmp old q))
    → (u : Tid) → get tid_cmp new u ≡ cond (is_tid t u) (Some n) (get tid_cmp old u)
put_place t n old new h = placed t old new (Some n) h

pub take_place : (t : Tid) (old new : BTreeMap Tid ℕ)
    → ((q : Tid) → get tid_cmp new q ≡ cond (is_at (tid_cmp t) q) None (get tid_cmp old q))
    → (u : Tid) → get tid_cmp new u ≡ cond (is_tid t u) None (get tid_cmp old u)
take_place t old new h = placed t old new None h

-- ---- what stays

pub keep_same : (test : Oid → Bool) (n : ℕ) (old new : Names) → new.keys ≡ old.keys → Keeps test n old new
keep_same test n old new e = record { at = λ o m h. ap (list_any (is_at (key_cmp (o, m)))) e }

-- ---- some names, and then others

and_parts_false : (i a b : Bool) → (i && (a || b)) ≡ false → ((i && a) ≡ false) × ((i && b) ≡ false)
and_parts_false false a b h = (refl, refl)
and_parts_false true true b h = absurd (true≢false h)
and_parts_false true false b h = (refl, h)

put_both_bits : (i a b s : Bool) → ((i && b) || ((i && a) || s)) ≡ ((i && (a || b)) || s)
put_both_bits false a b s = refl
put_both_bits true true true s = refl
put_both_bits true true false s = refl
put_both_bits true false b s = refl

taken_both_bits : (i a b s : Bool) → (not (i && b) && (not (i && a) && s)) ≡ (not (i && (a || b)) && s)
taken_both_bits false a b s = refl
taken_both_bits true true true s = refl
taken_both_bits true true false s = refl
taken_both_bits true false b s = refl

module _ (a b : Oid → Bool) (n : ℕ) (old mid new : Names) where
  pub puts_both : Puts a n old mid → Puts b n mid new → Puts (λ o. a o || b o) n old new
  puts_both h k = record {
    at = λ o m. k.at o m ∙ ap (λ s. ((n == m) && b o) || s) (h.at o m) ∙ put_both_bits (n == m) (a o) (b o) (has old o m);
  }

  pub takes_both : Takes a n old mid → Takes b n mid new → Takes (λ o. a o || b o) n old new
  takes_both h k = record {
    at = λ o m. k.at o m ∙ ap (λ s. not ((n == m) && b o) && s) (h.at o m) ∙ taken_both_bits (n == m) (a o) (b o) (has old o m);
  }

  pub keeps_both : Keeps a n old mid → Keeps b n mid new → Keeps (λ o. a o || b o) n old new
  keeps_both h k = record {
    at = λ o m e. let parts = and_parts_false (n == m) (a o) (b o) e in k.at o m parts.1 ∙ h.at o m parts.0;
  }

-- ---- what is put and what is kept

pub puts_keep : (a : Oid → Bool) (n : ℕ) (old new : Names) → Puts a n old new → Keeps a n old new
puts_keep a n old new h = record { at = λ o m e. h.at o m ∙ ap (λ b. b || has old o m) e }

pub keeps_first : (a b : Oid → Bool) (n : ℕ) (old new : Names) → Keeps a n old new → Keeps (λ o. a o || b o) n old new
keeps_first a b n old new h = record { at = λ o m e. h.at o m (and_parts_false (n == m) (a o) (b o) e).0 }

kept_bit : (i s t : Bool) → (i ≡ false → t ≡ s) → (not i && t) ≡ (not i && s)
kept_bit true s t h = refl
kept_bit false s t h = h refl

pub keeps_taken : (a : Oid → Bool) (n : ℕ) (old mid new : Names) → Keeps a n old mid → Takes a n mid new → Takes a n old new
keeps_taken a n old mid new h k = record {
  at = λ o m. k.at o m ∙ kept_bit ((n == m) && a o) (has old o m) (has mid o m) (h.at o m);
}

-- by tests that agree
module _ (a b : Oid → Bool) (same : (o : Oid) → a o ≡ b o) (n : ℕ) (old new : Names) where
  pub puts_as : Puts a n old new → Puts b n old new
  puts_as h = record { at = λ o m. h.at o m ∙ ap (λ t. ((n == m) && t) || has old o m) (same o) }

  pub takes_as : Takes a n old new → Takes b n old new
  takes_as h = record { at = λ o m. h.at o m ∙ ap (λ t. not ((n == m) && t) && has old o m) (same o) }

  pub keeps_as : Keeps a n old new → Keeps b n old new
  keeps_as h = record { at = λ o m e. h.at o m (ap (λ t. (n == m) && t) (same o) ∙ e) }

-- ---- walks over what has names: what does the rest does all

pub record PutsAll (rest all : Oid → Bool) (n : ℕ) (old now : Names) : Type 0 where
  pub puts : (new : Names) → Puts rest n now new → Puts all n old new
  pub keeps : (new : Names) → Keeps rest n now new → Keeps all n old new

pub record TakesAll (rest all : Oid → Bool) (n : ℕ) (old now : Names) : Type 0 where
  pub takes : (new : Names) → Takes rest n now new → Takes all n old new

pub puts_at_first : (all : Oid → Bool) (n : ℕ) (old : Names) → PutsAll all all n old old
puts_at_first all n old = record { puts = λ new h. h; keeps = λ new h. h }

pub takes_at_first : (all : Oid → Bool) (n : ℕ) (old : Names) → TakesAll all all n old old
takes_at_first all n old = record { takes = λ new h. h }

none_bit : (i : Bool) → (i && false) ≡ false
none_bit true = refl
none_bit false = refl

-- nothing is left
pub puts_at_last : (all : Oid → Bool) (n : ℕ) (old now : Names) → PutsAll (λ o. false) all n old now → Puts all n old now
puts_at_last all n old now h = h.puts now (record { at = λ o m. ap (λ b. b || has now o m) (sym (none_bit (n == m))) })

pub takes_at_last : (all : Oid → Bool) (n : ℕ) (old now : Names) → TakesAll (λ o. false) all n old now → Takes all n old now
takes_at_last all n old now h = h.takes now (record { at = λ o m. ap (λ b. not b && has now o m) (sym (none_bit (n == m))) })

module _ {X : Type 0} (name_of : X → Oid) (x : X) (rest others : List X) (split : rest ≡ x ∷ others) (all : Oid → Bool) (n : ℕ) (old now : Names) where
  opened : PutsAll (any_named name_of rest) all n old now → PutsAll (λ o. is_same (name_of x) o || any_named name_of others o) all n old now
  opened h = subst (λ xs. PutsAll (any_named name_of xs) all n old now) split h

  pub puts_next : (next : Names) → PutsAll (any_named name_of rest) all n old now → Puts (is_same (name_of x)) n now next
      → PutsAll (any_named name_of others) all n old next
  puts_next next h p = record {
    puts = λ new k. (opened h).puts new (puts_both (is_same (name_of x)) (any_named name_of others) n now next new p k);
    keeps = λ new k. (opened h).keeps new
        (keeps_both (is_same (name_of x)) (any_named name_of others) n now next new (puts_keep (is_same (name_of x)) n now next p) k);
  }

  -- the next one isn't put
  pub puts_stop : (next : Names) → PutsAll (any_named name_of rest) all n old now → Keeps (is_same (name_of x)) n now next → Keeps all n old next
  puts_stop next h k = (opened h).keeps next (keeps_first (is_same (name_of x)) (any_named name_of others) n now next k)

  pub takes_next : (next : Names) → TakesAll (any_named name_of rest) all n old now → Takes (is_same (name_of x)) n now next
      → TakesAll (any_named name_of others) all n old next
  takes_next next h p = record {
    takes = λ new k.
        let all_left : TakesAll (λ o. is_same (name_of x) o || any_named name_of others o) all n old now =
        subst (λ xs. TakesAll (any_named name_of xs) all n old now) split h in
        all_left.takes new (takes_both (is_same (name_of x)) (any_named name_of others) n now next new p k);
  }

-- the list is at its end
pub puts_end : {X : Type 0} (name_of : X → Oid) (rest : List X) (all : Oid → Bool) (n : ℕ) (old now : Names) → rest ≡ []
    → PutsAll (any_named name_of rest) all n old now → Puts all n old now
puts_end name_of rest all n old now e h = puts_at_last all n old now (subst (λ xs. PutsAll (any_named name_of xs) all n old now) e h)

pub takes_end : {X : Type 0} (name_of : X → Oid) (rest : List X) (all : Oid → Bool) (n : ℕ) (old now : Names) → rest ≡ []
    → TakesAll (any_named name_of rest) all n old now → Takes all n old now
takes_end name_of rest all n old now e h = takes_at_last all n old now (subst (λ xs. TakesAll (any_named name_of xs) all n old now) e h)

pub none_left : {X : Type 0} (xs : List X) → length xs ≡ 0 → xs ≡ []
none_left [] e = refl
none_left (x ∷ xs) e = absurd (omega (arith, e))

-- what holds whatever came of a call holds where it came to nothing
pub where_none : {T E : Type 0} (Q : Type 0) (r : Result T E) → Q → OnErr r Q
where_none Q (Ok x) q = tt
where_none Q (Err e) q = q

pub where_some : {T : Type 0} {P Q : T → Type 0} (o : Option T) → ((x : T) → P x → Q x) → IfSome o P → IfSome o Q
where_some None f p = tt
where_some (Some x) f p = f x p

pub where_none_found : {T : Type 0} {P Q : Type 0} (o : Option T) → (P → Q) → IfNone o P → IfNone o Q
where_none_found None f p = f p
where_none_found (Some x) f p = tt
