-- What a result promises, in other words.
use Rattle.std.proofs.Common.{Result, Ok, Err, IfOk, OnOk}

pub if_ok_weaker : {A E : Type 0} {P Q : A → Type 0} (r : Result A E) → ((a : A) → P a → Q a) → IfOk r P → IfOk r Q
if_ok_weaker (Ok a) h p = h a p
if_ok_weaker (Err e) h p = p

-- what is had at a success, and what is had there under a premise
pub on_ok_under : {A E C P Q R : Type 0} (r : Result A E) → OnOk r P → (C → OnOk r Q) → (P → (C → Q) → R) → OnOk r R
on_ok_under (Ok a) p q h = h p q
on_ok_under (Err e) p q h = tt

-- two things under one premise
pub on_ok_both : {A E C P Q R : Type 0} (r : Result A E) → (C → OnOk r P) → (C → OnOk r Q) → ((C → P) → (C → Q) → R) → OnOk r R
on_ok_both (Ok a) p q h = h p q
on_ok_both (Err e) p q h = tt

pub on_ok_from : {A E P : Type 0} (r : Result A E) → P → OnOk r P
on_ok_from (Ok a) p = p
on_ok_from (Err e) p = tt

-- what a result promises under a premise
pub if_ok_under : {A E C : Type 0} {P Q : A → Type 0} (r : Result A E) → (C → IfOk r P) → ((a : A) → (C → P a) → Q a) → IfOk r Q
if_ok_under (Ok a) p h = h a p
if_ok_under (Err e) p h = tt

pub on_ok_where : {A E C P R : Type 0} (r : Result A E) → (C → OnOk r P) → ((C → P) → R) → OnOk r R
on_ok_where (Ok a) p h = h p
on_ok_where (Err e) p h = tt
