-- Calls, gathered part by part, and sets that gain by them.
use Rattle.std.proofs.Common.{◌≡◌, ◌⊎◌, inl, inr, refl, sym, ap, ◌∙◌, subst, ℕ, zero, suc, ◌+◌, ◌*◌, ◌^◌, ◌<◌, ◌≤◌, ◌==◌, Bool, true, false, ◌||◌, ◌&&◌, List, [], ◌∷◌, ◌++◌, map, length, drop, take, get_or, set, sum, slice_get, append_assoc, add-one, arith, All, Contains, MatchBool}
use Rattle.std.specs.Bool.{Decides}
use Rattle.std.specs.Cmp.{IsEquivalence}
use Rattle.std.specs.List.{flat_map, AllWithin}
use Rattle.std.proofs.lemmas.Bool.{or_cases, or_left}
use Rattle.std.proofs.lemmas.Bool.Decides.{Decides-and, Decides-eqb, Decides-like, same_from_decides}
use Rattle.std.proofs.lemmas.List.{append-nil, map-append, length-set, get_or-set_same, get_or-set_other, get_or_default, take_all, take-append-le}
use Rattle.std.proofs.lemmas.List.Elements.{All-contains, AllWithin-more, Contains-append_cases, Contains-get_or, at_read}
use Rattle.std.proofs.lemmas.List.Sums.{sum_by-cons}
use Rattle.fab_base.specs.Principals.{Leads}
use Rattle.fab_tree.specs.declared.resolved.Use.{Use}
use Rattle.fab_tree.specs.declared.resolved.Expression.{Expression}
use Rattle.fab_tree.specs.declared.resolved.Statement.{Statement, fold-roll-Statement}
use Rattle.fab_tree.specs.declared.resolved.Statement.TheVariants as statements
use Rattle.fab_tree.specs.declared.resolved.Statement.TheOpen as s
use Rattle.fab_tree.specs.declared.resolved.Method.{Method}
use Rattle.fab_tree.specs.declared.resolved.Resolved.{Resolved}
use Rattle.fab_labelling.specs.Obligations.{authority_of}
use Rattle.fab_labelling.specs.Claims.{called_in, called_step, calls_from, calls_of, HasAuthorityOf}
use Rattle.fab_principals.specs.Sets.{in_set}
use Rattle.fab_principals.proofs.ChainLemmas.{Leads-more, Reaches-append}
use Rattle.fab_principals.proofs.SetLemmas.{in_set-zero}
use Rattle.fab_authority.specs.Authority.{AreOwn, AreUsed, IsMask}
use Rattle.fab_authority.specs.Called.{AreGrown, Calls, IsSettled, block_calls, with_calls}
use Rattle.fab_authority.specs.Decided.{has_authority, uses_authority}
use Rattle.fab_authority.proofs.Deciding.{Decides-uses, has_authority_is, same_number}
use Rattle.fab_authority.proofs.Walks.{front}

-- ---- calls

pub calls_in_parts : (out : Calls) (n : ℕ) (ks js : List ℕ) → with_calls out n (ks ++ js) ≡ with_calls (with_calls out n ks) n js
unfolding with_calls
calls_in_parts out n ks js = ap (λ (l : Calls). out ++ l) (map-append (λ (k : ℕ). (n, k)) ks js) ∙ sym (append_assoc out (map (λ (k : ℕ). (n, k)) ks) (map (λ (k : ℕ). (n, k)) js))

pub no_calls : (out : Calls) (n : ℕ) → with_calls out n [] ≡ out
unfolding with_calls
no_calls out n = append-nil out

pub if_calls : (e : Expression) (block otherwise : List Statement) → called_in (statements.If e block otherwise) ≡ block_calls block ++ block_calls otherwise
if_calls e block otherwise = ap called_in (sym (statements.rolls-If e block otherwise)) ∙ fold-roll-Statement (List ℕ) called_step (s.If e block otherwise)

pub atomic_calls : (x : Use) (block otherwise : List Statement) (at : ℕ) → called_in (statements.Atomic x block otherwise at) ≡ block_calls block ++ block_calls otherwise
atomic_calls x block otherwise at = ap called_in (sym (statements.rolls-Atomic x block otherwise at)) ∙ fold-roll-Statement (List ℕ) called_step (s.Atomic x block otherwise at)

pub write_calls : (x : Use) (f : ℕ) (e : Expression) (n : ℕ) → called_in (statements.Write x f e n) ≡ []
write_calls x f e n = ap called_in (sym (statements.rolls-Write x f e n)) ∙ fold-roll-Statement (List ℕ) called_step (s.Write x f e n)

pub fail_calls : (at : ℕ) → called_in (statements.Fail at) ≡ []
fail_calls at = ap called_in (sym (statements.rolls-Fail at)) ∙ fold-roll-Statement (List ℕ) called_step (s.Fail at)

block_is : (xs : List Statement) → block_calls xs ≡ flat_map called_in xs
block_is [] = refl
block_is (x ∷ xs) = ap (λ (l : List ℕ). called_in x ++ l) (block_is xs)

-- the calls of one method more
pub calls_next : (calls more whole : Calls) (ms : List Method) (i : ℕ) (m : Method) (body : List Statement) → i < length ms → m ≡ get_or ms i m → body ≡ m.body → more ≡ with_calls calls i (block_calls body)
    → calls ++ calls_from i (drop i ms) ≡ whole → more ++ calls_from (i + 1) (drop (i + 1) ms) ≡ whole
unfolding with_calls
calls_next calls more whole ms i m body within is same next so_far =
    let rest = calls_from (i + 1) (drop (i + 1) ms) in
    let of = λ (ks : List ℕ). map (λ (k : ℕ). (i, k)) ks in
    ap (λ (o : Calls). o ++ rest) next
    ∙ append_assoc calls (of (block_calls body)) rest
    ∙ ap (λ (ks : List ℕ). calls ++ (of ks ++ rest)) (block_is body ∙ ap (flat_map called_in) same)
    ∙ ap (λ (n : ℕ). calls ++ (of (flat_map called_in m.body) ++ calls_from n (drop (i + 1) ms))) (add-one i)
    ∙ ap (λ (ns : List Method). calls ++ calls_from i ns) (sym (front ms i m within is))
    ∙ so_far

pub calls_end : (calls whole : Calls) (ms : List Method) (i : ℕ) → drop i ms ≡ [] → calls ++ calls_from i (drop i ms) ≡ whole → calls ≡ whole
calls_end calls whole ms i none so_far = sym (append-nil calls) ∙ ap (λ (ns : List Method). calls ++ calls_from i ns) (sym none) ∙ so_far

paired_first : (n : ℕ) (ks : List ℕ) (d : ℕ × ℕ) → Contains (map (λ (k : ℕ). (n, k)) ks) d → d.0 ≡ n
paired_first n [] d (k, within, is) = absurd (omega (arith, within))
paired_first n (x ∷ ks) d (zero, within, is) = ap (λ (w : ℕ × ℕ). w.0) (sym is)
paired_first n (x ∷ ks) d (suc k, within, is) = paired_first n ks d (k, omega arith, is)

-- who calls is there
caller_is_there : (n : ℕ) (ms : List Method) (d : ℕ × ℕ) → Contains (calls_from n ms) d → d.0 < n + length ms
caller_is_there n [] d (k, within, is) = absurd (omega (arith, within))
caller_is_there n (m ∷ ms) d c = elim (Contains-append_cases (map (λ (k : ℕ). (n, k)) (flat_map called_in m.body)) (calls_from (suc n) ms) d c) [
  | inl here ↦ let e = paired_first n (flat_map called_in m.body) d here in omega (arith, e)
  | inr further ↦ let l = caller_is_there (suc n) ms d further in omega (arith, l)
]

-- ---- sets of methods' own authority

pub own_more : (ms : List Method) (sets : List ℕ) (m : Method) (set : ℕ) → AreOwn ms sets → IsMask (authority_of m) set → AreOwn (ms ++ m ∷ []) (sets ++ set ∷ [])
own_more ms sets m set own mask = record { size = size ms sets own.size; bits = bits ms sets own.size own.bits }
  where
    size : (ms : List Method) (sets : List ℕ) → length sets ≡ length ms → length (sets ++ set ∷ []) ≡ length (ms ++ m ∷ [])
    size [] [] e = refl
    size [] (x ∷ sets) e = absurd (omega (arith, e))
    size (y ∷ ms) [] e = absurd (omega (arith, e))
    size (y ∷ ms) (x ∷ sets) e = ap suc (size ms sets (omega (arith, e)))

    bits : (ms : List Method) (sets : List ℕ) → length sets ≡ length ms → ((k p : ℕ) → in_set (get_or sets k 0) p ≡ has_authority (slice_get ms k) p)
        → (k p : ℕ) → in_set (get_or (sets ++ set ∷ []) k 0) p ≡ has_authority (slice_get (ms ++ m ∷ []) k) p
    bits [] [] e so zero p = mask p
    bits [] [] e so (suc k) p = in_set-zero p
    bits [] (x ∷ sets) e so k p = absurd (omega (arith, e))
    bits (y ∷ ms) [] e so k p = absurd (omega (arith, e))
    bits (y ∷ ms) (x ∷ sets) e so zero p = so zero p
    bits (y ∷ ms) (x ∷ sets) e so (suc k) p = bits ms sets (omega (arith, e)) (λ j q. so (suc j) q) k p

pub own_none : AreOwn [] []
own_none = record { size = refl; bits = λ m p. in_set-zero p }

-- ---- sets that gain

pub grown_not : (calls : Calls) (sets : List ℕ) → AreGrown calls sets sets
grown_not calls sets = record { size = refl; kept = λ m p h. h; from = λ m p h. (m, ([], refl), h) }

pub grown_further : (calls : Calls) (a b c : List ℕ) → AreGrown calls a b → AreGrown calls b c → AreGrown calls a c
grown_further calls a b c one two = record {
  size = two.size ∙ one.size;
  kept = λ m p h. two.kept m p (one.kept m p h);
  from = λ m p h. let far = two.from m p h in let near = one.from far.0 p far.2 in (near.0, Reaches-append calls m far.0 near.0 far.1 near.1, near.2);
}

-- by one of the calls
pub grown_by_one : (calls : Calls) (d : ℕ × ℕ) (a b : List ℕ) → Contains calls d → AreGrown (d ∷ []) a b → AreGrown calls a b
grown_by_one calls d a b c one = record {
  size = one.size;
  kept = one.kept;
  from = λ m p h. let far = one.from m p h in (far.0, (far.1.0, Leads-more (d ∷ []) calls (λ u v in_one. subst (Contains calls) (only u v in_one) c) m far.1.0 far.0 far.1.1), far.2);
}
  where
    only : (u v : ℕ) → Contains (d ∷ []) (u, v) → d ≡ (u, v)
    only u v (zero, within, is) = is
    only u v (suc k, within, is) = absurd (omega (arith, within))

pub grown_by_union : (sets : List ℕ) (d : ℕ × ℕ) (all : ℕ) → d.0 < length sets → ((p : ℕ) → in_set all p ≡ (in_set (get_or sets d.0 0) p || in_set (get_or sets d.1 0) p)) → AreGrown (d ∷ []) sets (set sets d.0 all)
grown_by_union sets d all within either = record {
  size = length-set sets d.0 all;
  kept = λ m p h. elim (same_number d.0 m) [
    | inl e ↦ subst (λ (w : ℕ). in_set (get_or (set sets d.0 all) w 0) p ≡ true) (sym e) (ap (λ (w : ℕ). in_set w p) (get_or-set_same sets d.0 all 0 within) ∙ either p ∙ or_left (in_set (get_or sets d.0 0) p) (in_set (get_or sets d.1 0) p) (subst (λ (w : ℕ). in_set (get_or sets w 0) p ≡ true) e h))
    | inr other ↦ ap (λ (w : ℕ). in_set w p) (get_or-set_other sets d.0 m all 0 other) ∙ h
  ];
  from = λ m p h. elim (same_number d.0 m) [
    | inl e ↦
        let at : in_set all p ≡ true = ap (λ (w : ℕ). in_set w p) (sym (get_or-set_same sets d.0 all 0 within)) ∙ subst (λ (w : ℕ). in_set (get_or (set sets d.0 all) w 0) p ≡ true) e h in
        elim (or_cases (in_set (get_or sets d.0 0) p) (in_set (get_or sets d.1 0) p) (sym (either p) ∙ at)) [
          | inl own ↦ (d.0, ([], e), own)
          | inr gained ↦ (d.1, (d.1 ∷ [], ((0, omega arith, ap (λ (w : ℕ). (w, d.1)) (sym e)), refl)), gained)
        ]
    | inr other ↦ (m, ([], refl), ap (λ (w : ℕ). in_set w p) (sym (get_or-set_other sets d.0 m all 0 other)) ∙ h)
  ];
}

pub sum_is_small : (xs : List ℕ) → ((k : ℕ) → get_or xs k 0 < 2 ^ 64) → sum xs ≤ length xs * 2 ^ 64
sum_is_small [] small = omega arith
sum_is_small (x ∷ xs) small =
    let first : x < 2 ^ 64 = small 0 in
    let rest : sum xs ≤ length xs * 2 ^ 64 = sum_is_small xs (λ k. small (suc k)) in
    let e : sum (x ∷ xs) ≡ x + sum xs = sum_by-cons (λ (n : ℕ). n) x xs in
    omega (arith, first, rest, e)

-- ---- the whole

module _ (r : Resolved) (own sets : List ℕ) (is_own : AreOwn r.methods own) (grown : AreGrown (calls_of r) own sets) (settled : All (IsSettled sets) (calls_of r)) where
  has_is : (n p : ℕ) → Decides (in_set (get_or own n 0) p) (HasAuthorityOf r n p)
  has_is n p =
      let d = has_authority_is (slice_get r.methods n) p in
      (λ t. d.0 (sym (is_own.bits n p) ∙ t), λ h. is_own.bits n p ∙ d.1 h)

  along : (way : List ℕ) (m n p : ℕ) → Leads (calls_of r) m way n → in_set (get_or own n 0) p ≡ true → in_set (get_or sets m 0) p ≡ true
  along [] m n p same h = subst (λ (w : ℕ). in_set (get_or sets w 0) p ≡ true) (sym same) (grown.kept n p h)
  along (x ∷ way) m n p steps h =
      let there = caller_is_there 0 r.methods (m, x) steps.0 in
      let sizes = grown.size in
      let own_size = is_own.size in
      All-contains (IsSettled sets) (calls_of r) (m, x) settled steps.0 p (omega (arith, there, sizes, own_size)) (along way x n p steps.1 h)

  pub are_used : AreUsed r sets
  are_used m p = same_from_decides (in_set (get_or sets m 0) p) (uses_authority r m p) (
    λ t. let found = grown.from m p t in (found.0, found.1, (has_is found.0 p).0 found.2),
    λ used. along used.1.0 m used.0 p used.1.1 ((has_is used.0 p).1 used.2),
  ) (Decides-uses r m p)

-- ---- one call more

pub all_next : (calls : Calls) (old mid new : List ℕ) (more gained : Bool) (i : ℕ) → i < length calls → AreGrown calls old mid → MatchBool more (sum old < sum mid) ((mid ≡ old) × AllWithin (IsSettled old) calls 0 i)
    → AreGrown (get_or calls i (0, 0) ∷ []) mid new → MatchBool gained (sum mid < sum new) ((new ≡ mid) × IsSettled mid (get_or calls i (0, 0)))
    → AreGrown calls old new × MatchBool (gained || more) (sum old < sum new) ((new ≡ old) × AllWithin (IsSettled old) calls 0 (i + 1))
all_next calls old mid new more gained i within so_far before one at = (
  grown_further calls old mid new so_far (grown_by_one calls (get_or calls i (0, 0)) mid new (Contains-get_or calls i (0, 0) within) one),
  both more gained before at,
)
  where
    both : (more gained : Bool) → MatchBool more (sum old < sum mid) ((mid ≡ old) × AllWithin (IsSettled old) calls 0 i) → MatchBool gained (sum mid < sum new) ((new ≡ mid) × IsSettled mid (get_or calls i (0, 0)))
        → MatchBool (gained || more) (sum old < sum new) ((new ≡ old) × AllWithin (IsSettled old) calls 0 (i + 1))
    both true true b a = omega (arith, a, b)
    both true false b a = subst (λ (s : List ℕ). sum old < sum s) (sym a.0) b
    both false true b a = subst (λ (s : List ℕ). sum s < sum new) b.0 a
    both false false b a = (
      a.0 ∙ b.0,
      AllWithin-more (IsSettled old) calls 0 i b.1 (at_read calls (IsSettled old) i (get_or calls i (0, 0)) within (get_or_default calls i (0, 0) (get_or calls i (0, 0)) within) (subst (λ (s : List ℕ). IsSettled s (get_or calls i (0, 0))) b.0 a.1)),
    )

pub no_calls_in : (x : Statement) → ((o : Use) × (f : ℕ) × (e : Expression) × (n : ℕ) × (x ≡ statements.Write o f e n)) ⊎ ((at : ℕ) × (x ≡ statements.Fail at)) → called_in x ≡ []
no_calls_in x (inl (o, f, e, n, is)) = ap called_in is ∙ write_calls o f e n
no_calls_in x (inr (at, is)) = ap called_in is ∙ fail_calls at

-- what was written through a slice of all is all
pub all_written : (new items : List ℕ) (len : ℕ) → length new ≡ length items → len ≡ length items → take len (new ++ drop (length new) items) ≡ new
all_written new items len same is =
    let n : len ≤ length new = omega arith in
    take-append-le len new (drop (length new) items) n ∙ take_all len new (omega arith)

-- ---- each call once

abbrev pub same_call : ℕ × ℕ → ℕ × ℕ → Bool
same_call x y = (x.0 == y.0) && (x.1 == y.1)

pair_is : (x y : ℕ × ℕ) → x.0 ≡ y.0 → x.1 ≡ y.1 → x ≡ y
pair_is x y e f = ap (λ (a : ℕ). (a, x.1)) e ∙ ap (λ (b : ℕ). (y.0, b)) f

pub Decides-same_call : (x y : ℕ × ℕ) → Decides (same_call x y) (x ≡ y)
Decides-same_call x y =
    Decides-like (same_call x y) (λ both. pair_is x y both.0 both.1) (λ e. (ap (λ (w : ℕ × ℕ). w.0) e, ap (λ (w : ℕ × ℕ). w.1) e))
    (Decides-and (x.0 == y.0) (x.1 == y.1) (Decides-eqb x.0 y.0) (Decides-eqb x.1 y.1))

pub same_call_is_equivalence : IsEquivalence same_call
same_call_is_equivalence = record {
  refl = λ x. (Decides-same_call x x).1 refl;
  symm = λ x y. same_from_decides (same_call x y) (same_call y x) (Decides-same_call x y) (Decides-like (same_call y x) sym sym (Decides-same_call y x));
  congr = λ x y z e. ap (λ (w : ℕ × ℕ). same_call w z) ((Decides-same_call x y).0 e);
}

-- over more calls
pub grown_over : (calls more : Calls) (a b : List ℕ) → ((d : ℕ × ℕ) → Contains calls d → Contains more d) → AreGrown calls a b → AreGrown more a b
grown_over calls more a b inside grown = record {
  size = grown.size;
  kept = grown.kept;
  from = λ m p h. let far = grown.from m p h in (far.0, (far.1.0, Leads-more calls more (λ u v c. inside (u, v) c) m far.1.0 far.0 far.1.1), far.2);
}

-- over fewer
pub settled_over : (calls fewer : Calls) (sets : List ℕ) → ((d : ℕ × ℕ) → Contains fewer d → Contains calls d) → All (IsSettled sets) calls → All (IsSettled sets) fewer
settled_over calls fewer sets inside settled = λ k d within. All-contains (IsSettled sets) calls (get_or fewer k d) settled (inside (get_or fewer k d) (Contains-get_or fewer k d within))
