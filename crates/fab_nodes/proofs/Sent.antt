-- What becomes of the queues as a node sends one message after the other.
use Rattle.std.specs.Prelude.{◌≡◌, ◌⊎◌, ◌+◌, ◌<◌, ◌≤◌, ◌==◌, ℕ, suc, Bool, true, false, if◌then◌else◌, cond, IsTrue, List, [], ◌∷◌, ◌++◌, map, length, Option}
use Rattle.std.specs.List.{filter}
use Rattle.std.proofs.Common.{refl, sym, ap, ◌∙◌, subst, inl, inr, arith, append_assoc, append-nil, reverse}
use Rattle.std.proofs.lemmas.Bool.{cases_eq, eq-eqb, ne_eqb}
use Rattle.std.proofs.lemmas.List.{length-map, length-append, reverse-append}
use Rattle.fab_rights.specs.declared.rights.Rights.{Rights}
use Rattle.fab_rights.specs.Computed.{is_node}
use Rattle.fab_queues.specs.Channels.{Network, queue_of, sent_of, with_pair}
use Rattle.fab_world.specs.Machine.{with_at}
use Rattle.fab_nodes.specs.Transit.{AreSentOut, bytes_for, bytes_to, waiting_at}
use Rattle.fab_nodes.proofs.Pairs.{with_at_same}

-- ---- what is for one receiver

pub count_is : (b : ℕ) (sends : List (ℕ × List ℕ)) → length (bytes_to b sends) ≡ length (filter (λ x. x.0 == b) sends)
count_is b sends = length-map (filter (λ x. x.0 == b) sends) (λ (x : ℕ × List ℕ). x.1)

first_by : (t : Bool) (x : ℕ × List ℕ) (xs : List (ℕ × List ℕ))
    → map (λ (z : ℕ × List ℕ). z.1) (cond t (x ∷ xs) xs) ≡ map (λ (z : ℕ × List ℕ). z.1) (cond t (x ∷ []) []) ++ map (λ (z : ℕ × List ℕ). z.1) xs
first_by true x xs = refl
first_by false x xs = refl

-- the first, and the others
pub to_first : (b : ℕ) (x : ℕ × List ℕ) (xs : List (ℕ × List ℕ)) → bytes_to b (x ∷ xs) ≡ bytes_to b (x ∷ []) ++ bytes_to b xs
to_first b x xs = first_by (x.0 == b) x (filter (λ z. z.0 == b) xs)

pub to_itself : (b : ℕ) (bytes : List ℕ) → bytes_to b ((b, bytes) ∷ []) ≡ bytes ∷ []
to_itself b bytes = ap (λ t. map (λ (z : ℕ × List ℕ). z.1) (cond t ((b, bytes) ∷ []) [])) (eq-eqb b b refl)

pub to_another : (to b : ℕ) (bytes : List ℕ) → (b ≡ to → ⊥) → bytes_to b ((to, bytes) ∷ []) ≡ []
to_another to b bytes h = ap (λ t. map (λ (z : ℕ × List ℕ). z.1) (cond t ((to, bytes) ∷ []) [])) (ne_eqb to b (λ e. h (sym e)))

if_both : (t : Bool) (xs ys : List (List ℕ)) → (if t then xs ++ ys else []) ≡ (if t then xs else []) ++ (if t then ys else [])
if_both true xs ys = refl
if_both false xs ys = refl

abbrev nothing : List (List ℕ)
nothing = []

if_none : (t : Bool) → (if t then nothing else nothing) ≡ nothing
if_none true = refl
if_none false = refl

pub for_first : (rights : Rights) (b : ℕ) (x : ℕ × List ℕ) (xs : List (ℕ × List ℕ)) → bytes_for rights b (x ∷ xs) ≡ bytes_for rights b (x ∷ []) ++ bytes_for rights b xs
for_first rights b x xs =
    ap (λ z. if is_node rights b then z else []) (to_first b x xs) ∙ if_both (is_node rights b) (bytes_to b (x ∷ [])) (bytes_to b xs)

pub waiting_first : (up : ℕ → Bool) (rights : Rights) (b : ℕ) (x : ℕ × List ℕ) (xs : List (ℕ × List ℕ))
    → waiting_at up rights b (x ∷ xs) ≡ waiting_at up rights b (x ∷ []) ++ waiting_at up rights b xs
waiting_first up rights b x xs =
    ap (λ z. if up b then z else []) (for_first rights b x xs) ∙ if_both (up b) (bytes_for rights b (x ∷ [])) (bytes_for rights b xs)

for_another : (rights : Rights) (to b : ℕ) (bytes : List ℕ) → (b ≡ to → ⊥) → bytes_for rights b ((to, bytes) ∷ []) ≡ []
for_another rights to b bytes h = ap (λ z. if is_node rights b then z else []) (to_another to b bytes h) ∙ if_none (is_node rights b)

waiting_another : (up : ℕ → Bool) (rights : Rights) (to b : ℕ) (bytes : List ℕ) → (b ≡ to → ⊥) → waiting_at up rights b ((to, bytes) ∷ []) ≡ []
waiting_another up rights to b bytes h = ap (λ z. if up b then z else []) (for_another rights to b bytes h) ∙ if_none (up b)

for_itself : (rights : Rights) (to : ℕ) (bytes : List ℕ) → is_node rights to ≡ true → bytes_for rights to ((to, bytes) ∷ []) ≡ bytes ∷ []
for_itself rights to bytes h = ap (λ t. if t then bytes_to to ((to, bytes) ∷ []) else []) h ∙ to_itself to bytes

-- ---- one message

-- one pair's change as one of all that its sender sends
pair_as : (f : ℕ → ℕ → List (List ℕ)) (n to : ℕ) (x : List (List ℕ)) (more : ℕ → List (List ℕ)) → x ≡ f n to ++ more to → ((b : ℕ) → (b ≡ to → ⊥) → more b ≡ [])
    → (a b : ℕ) → with_pair f n to x a b ≡ with_at f n (λ b. f n b ++ more b) a b
pair_as f n to x more here none a b =
    with_at_same f f n (with_at (f n) to x) (λ b. f n b ++ more b) (λ a b. refl)
    (λ b. elim (cases_eq b to) [
      | inl p ↦ ap (λ t. if t then x else f n b) (eq-eqb b to p) ∙ here ∙ ap (λ z. f n z ++ more z) (sym p)
      | inr p ↦ ap (λ t. if t then x else f n b) (ne_eqb b to p) ∙ sym (append-nil (f n b)) ∙ ap (λ z. f n b ++ z) (sym (none b p))
    ])
    a b

module _ (rights : Rights) (up : ℕ → Bool) (n to : ℕ) (bytes : List ℕ) (old new : Network) (node : is_node rights to ≡ true) (lanes : new.nodes ≡ old.nodes)
    (sent : (a b : ℕ) → sent_of new a b ≡ with_pair (sent_of old) n to (sent_of old n to ++ bytes ∷ []) a b) where
  sent_one : (a b : ℕ) → sent_of new a b ≡ with_at (sent_of old) n (λ b. sent_of old n b ++ bytes_for rights b ((to, bytes) ∷ [])) a b
  sent_one a b =
      sent a b
      ∙ pair_as (sent_of old) n to (sent_of old n to ++ bytes ∷ []) (λ b. bytes_for rights b ((to, bytes) ∷ []))
      (ap (λ z. sent_of old n to ++ z) (sym (for_itself rights to bytes node))) (λ b h. for_another rights to b bytes h) a b

  waits_by : (x : List (List ℕ)) → x ≡ queue_of old n to ++ waiting_at up rights to ((to, bytes) ∷ []) → ((a b : ℕ) → queue_of new a b ≡ with_pair (queue_of old) n to x a b)
      → AreSentOut rights up n ((to, bytes) ∷ []) old new
  waits_by x here queue = record {
    lanes = lanes;
    sent = sent_one;
    queue = λ a b. queue a b ∙ pair_as (queue_of old) n to x (λ b. waiting_at up rights b ((to, bytes) ∷ [])) here (λ b h. waiting_another up rights to b bytes h) a b;
  }

  -- it waits
  pub pushed_out : up to ≡ true → ((a b : ℕ) → queue_of new a b ≡ with_pair (queue_of old) n to (queue_of old n to ++ bytes ∷ []) a b)
      → AreSentOut rights up n ((to, bytes) ∷ []) old new
  pushed_out is_up queue =
      waits_by (queue_of old n to ++ bytes ∷ [])
      (ap (λ z. queue_of old n to ++ z) (sym (ap (λ t. if t then bytes_for rights to ((to, bytes) ∷ []) else []) is_up ∙ for_itself rights to bytes node))) queue

  -- it is lost
  pub lost_out : up to ≡ false → queue_of old n to ≡ [] → ((a b : ℕ) → queue_of new a b ≡ with_pair (queue_of old) n to [] a b)
      → AreSentOut rights up n ((to, bytes) ∷ []) old new
  lost_out is_down none queue =
      waits_by []
      (sym (ap (λ t. queue_of old n to ++ (if t then bytes_for rights to ((to, bytes) ∷ []) else [])) is_down ∙ append-nil (queue_of old n to) ∙ none)) queue

-- ---- one after the other

with_at_twice : (f g : ℕ → ℕ → List (List ℕ)) (n : ℕ) (x y : ℕ → List (List ℕ)) → ((a b : ℕ) → g a b ≡ with_at f n x a b) → (a b : ℕ) → with_at g n y a b ≡ with_at f n y a b
with_at_twice f g n x y h a b = elim (cases_eq a n) [
  | inl p ↦ ap (λ t. (if t then y else g a) b) (eq-eqb a n p) ∙ sym (ap (λ t. (if t then y else f a) b) (eq-eqb a n p))
  | inr p ↦
      ap (λ t. (if t then y else g a) b) (ne_eqb a n p) ∙ h a b ∙ ap (λ t. (if t then x else f a) b) (ne_eqb a n p)
      ∙ sym (ap (λ t. (if t then y else f a) b) (ne_eqb a n p))
]

at_itself : (f : ℕ → ℕ → List (List ℕ)) (n : ℕ) (x : ℕ → List (List ℕ)) (b : ℕ) → with_at f n x n b ≡ x b
at_itself f n x b = ap (λ t. (if t then x else f n) b) (eq-eqb n n refl)

-- more at one sender, and then more again
both_more : (f g h : ℕ → ℕ → List (List ℕ)) (n : ℕ) (x y z : ℕ → List (List ℕ)) → ((b : ℕ) → z b ≡ x b ++ y b) → ((a b : ℕ) → g a b ≡ with_at f n (λ b. f n b ++ x b) a b)
    → ((a b : ℕ) → h a b ≡ with_at g n (λ b. g n b ++ y b) a b) → (a b : ℕ) → h a b ≡ with_at f n (λ b. f n b ++ z b) a b
both_more f g h n x y z all first next a b =
    next a b
    ∙ with_at_twice f g n (λ b. f n b ++ x b) (λ b. g n b ++ y b) first a b
    ∙ with_at_same f f n (λ b. g n b ++ y b) (λ b. f n b ++ z b) (λ a b. refl)
    (λ b. ap (λ q. q ++ y b) (first n b ∙ at_itself f n (λ b. f n b ++ x b) b) ∙ append_assoc (f n b) (x b) (y b) ∙ ap (λ q. f n b ++ q) (sym (all b))) a b

pub sent_more : (rights : Rights) (up : ℕ → Bool) (n : ℕ) (x : ℕ × List ℕ) (xs : List (ℕ × List ℕ)) (old new last : Network)
    → AreSentOut rights up n (x ∷ []) old new → AreSentOut rights up n xs new last → AreSentOut rights up n (x ∷ xs) old last
sent_more rights up n x xs old new last first next = record {
  lanes = next.lanes ∙ first.lanes;
  sent = both_more (sent_of old) (sent_of new) (sent_of last) n (λ b. bytes_for rights b (x ∷ [])) (λ b. bytes_for rights b xs) (λ b. bytes_for rights b (x ∷ xs))
      (λ b. for_first rights b x xs) first.sent next.sent;
  queue = both_more (queue_of old) (queue_of new) (queue_of last) n (λ b. waiting_at up rights b (x ∷ [])) (λ b. waiting_at up rights b xs) (λ b. waiting_at up rights b (x ∷ xs))
      (λ b. waiting_first up rights b x xs) first.queue next.queue;
}

at_kept : (f : ℕ → ℕ → List (List ℕ)) (n : ℕ) (more : ℕ → List (List ℕ)) → ((b : ℕ) → more b ≡ []) → (a b : ℕ) → f a b ≡ with_at f n (λ b. f n b ++ more b) a b
at_kept f n more none a b = elim (cases_eq a n) [
  | inl p ↦
      ap (λ z. f z b) p ∙ sym (append-nil (f n b)) ∙ ap (λ z. f n b ++ z) (sym (none b))
      ∙ sym (ap (λ t. (if t then (λ b. f n b ++ more b) else f a) b) (eq-eqb a n p))
  | inr p ↦ sym (ap (λ t. (if t then (λ b. f n b ++ more b) else f a) b) (ne_eqb a n p))
]

-- nothing was sent
pub sent_none : (rights : Rights) (up : ℕ → Bool) (n : ℕ) (old : Network) → AreSentOut rights up n [] old old
sent_none rights up n old = record {
  lanes = refl;
  sent = at_kept (sent_of old) n (λ b. bytes_for rights b []) (λ b. if_none (is_node rights b));
  queue = at_kept (queue_of old) n (λ b. waiting_at up rights b []) (λ b. ap (λ z. if up b then z else []) (if_none (is_node rights b)) ∙ if_none (up b));
}

-- for who isn't up nothing waits then, either
pub still_none : (rights : Rights) (up : ℕ → Bool) (n : ℕ) (sends : List (ℕ × List ℕ)) (old new : Network) → AreSentOut rights up n sends old new
    → (b : ℕ) → up b ≡ false → queue_of old n b ≡ [] → queue_of new n b ≡ []
still_none rights up n sends old new h b down none =
    h.queue n b ∙ at_itself (queue_of old) n (λ b. queue_of old n b ++ waiting_at up rights b sends) b
    ∙ ap (λ z. z ++ waiting_at up rights b sends) none ∙ ap (λ t. if t then bytes_for rights b sends else []) down

-- ---- room

pub has_first : (to : ℕ) (bytes : List ℕ) (xs : List (ℕ × List ℕ)) (spare : ℕ) → length (bytes_to to ((to, bytes) ∷ xs)) ≤ spare → 0 < spare
has_first to bytes xs spare h =
    let e : length (bytes_to to ((to, bytes) ∷ xs)) ≡ suc (length (bytes_to to xs)) =
    ap length (to_first to (to, bytes) xs ∙ ap (λ z. z ++ bytes_to to xs) (to_itself to bytes)) in
    omega arith

pub room_left : (b : ℕ) (x : ℕ × List ℕ) (xs : List (ℕ × List ℕ)) (old new : ℕ) → length (bytes_to b (x ∷ xs)) ≤ old → old ≤ new + length (bytes_to b (x ∷ []))
    → length (bytes_to b xs) ≤ new
room_left b x xs old new h k =
    let e : length (bytes_to b (x ∷ xs)) ≡ length (bytes_to b (x ∷ [])) + length (bytes_to b xs) =
    ap length (to_first b x xs) ∙ length-append (bytes_to b (x ∷ [])) (bytes_to b xs) in
    omega arith

-- ---- in their order

pub last_first : (xs ys : List (ℕ × List ℕ)) (x : ℕ × List ℕ) → ys ≡ xs ++ x ∷ [] → reverse ys ≡ x ∷ reverse xs
last_first xs ys x h = ap reverse h ∙ reverse-append xs (x ∷ [])
