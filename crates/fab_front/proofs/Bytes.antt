-- What is known of a source and a sink over several calls.
use Rattle.std.proofs.Common.{◌≡◌, ℕ, suc, ◌+◌, ◌-◌, ◌≤◌, List, [], ◌∷◌, ◌++◌, length, take, drop, Option, Some, None, Result, Ok, Err, sym, ap, ◌∙◌, subst, arith, append_assoc, append-nil, length-append, length-take, length-drop, take-append-drop}
use Rattle.std.proofs.Math.Seq.{take-length}
use Rattle.std.specs.Result.{OnErr}
use Rattle.std.specs.Io.KnownBytes.{Appends, Consumes, Keeps}
use Rattle.std.proofs.KnownBytes.{Consumes-trans, Consumes-kept, Appends-trans}
use Rattle.fab_base.specs.Sinks.{SinkTakes}
use Rattle.fab_base.specs.declared.outside.traits.SinkError.{SinkError}
use Rattle.fab_base.specs.declared.outside.traits.SinkError.TheVariants.{Failed, Memory}
use Rattle.fab_front.specs.Reading.{TakesAtMost, WritesFront}

pub on_err : {T E P : Type 0} (r : Result T E) → P → OnErr r P
on_err (Ok x) p = tt
on_err (Err e) p = p

-- ---- reading

-- so many more bytes were taken
pub takes_more : (a b c : Option (List ℕ)) (xs ys : List ℕ) (n most : ℕ) → length xs ≤ most → n ≤ most - length xs → Consumes a b xs → Consumes b c (take n ys) → TakesAtMost most a c
takes_more a b c xs ys n most h k p q = (xs ++ take n ys, Consumes-trans a b c xs (take n ys) p q, omega (arith, length-append xs (take n ys), length-take n ys))

pub takes_kept : (a b c : Option (List ℕ)) (xs : List ℕ) (most : ℕ) → length xs ≤ most → Consumes a b xs → Keeps b c → TakesAtMost most a c
takes_kept a b c xs most h p q = (xs, Consumes-kept a b c xs p q, h)

-- a read of nothing
pub takes_none : (a b c : Option (List ℕ)) (xs ys : List ℕ) (n : ℕ) → n ≡ 0 → Consumes a b xs → Consumes b c (take n ys) → Consumes a c xs
takes_none a b c xs ys n e p q =
    let none : xs ++ take n ys ≡ xs = rw e (append-nil xs) in
    subst (λ l. Consumes a c l) none (Consumes-trans a b c xs (take n ys) p q)

-- ---- writing

take_past : (done rest : List ℕ) (n : ℕ) → take (length done + n) (done ++ rest) ≡ done ++ take n rest
take_past [] rest n = ap (λ k. take k rest) (omega arith)
take_past (x ∷ done) rest n = let e : length (x ∷ done) + n ≡ suc (length done + n) = omega arith in rw e (ap (λ l. x ∷ l) (take_past done rest n))

front_on : (a b : Option (List ℕ)) (done rest text : List ℕ) (n : ℕ) → text ≡ done ++ rest → Appends a b (done ++ take n rest) → WritesFront a b text
front_on a b done rest text n e h = (length done + n, subst (λ l. Appends a b l) (sym (take_past done rest n) ∙ ap (take (length done + n)) (sym e)) h)

kept_appends : (b c : Option (List ℕ)) (rest : List ℕ) → Keeps b c → Appends b c (take 0 rest)
kept_appends None c rest k = tt
kept_appends (Some x) None rest k = absurd k
kept_appends (Some x) (Some y) rest k = k ∙ sym (append-nil x)

pub fails_front : (a b c : Option (List ℕ)) (done rest text : List ℕ) (e : SinkError) → text ≡ done ++ rest → Appends a b done → SinkTakes b c (Err e) rest → WritesFront a c text
fails_front a b c done rest text Failed e h k = front_on a c done rest text k.0 e (Appends-trans a b c done (take k.0 rest) h k.1)
fails_front a b c done rest text Memory e h k = front_on a c done rest text 0 e (Appends-trans a b c done (take 0 rest) h (kept_appends b c rest k))

pub stops_front : (a b c : Option (List ℕ)) (done rest text : List ℕ) (n : ℕ) → text ≡ done ++ rest → Appends a b done → Appends b c (take n rest) → WritesFront a c text
stops_front a b c done rest text n e h k = front_on a c done rest text n e (Appends-trans a b c done (take n rest) h k)

split_at : (rest : List ℕ) (n m : ℕ) → m ≡ length (drop n rest) → rest ≡ take n rest ++ take m (drop n rest)
split_at rest n m e = sym (take-append-drop n rest) ∙ ap (λ l. take n rest ++ l) (rw e (sym (take-length (drop n rest))))

pub text_on : (done rest text : List ℕ) (n m : ℕ) → n ≤ length rest → m ≡ length rest - n → text ≡ done ++ rest → text ≡ (done ++ take n rest) ++ take m (drop n rest)
text_on done rest text n m h k e = e ∙ ap (λ l. done ++ l) (split_at rest n m (k ∙ sym (length-drop n rest))) ∙ sym (append_assoc done (take n rest) (take m (drop n rest)))
