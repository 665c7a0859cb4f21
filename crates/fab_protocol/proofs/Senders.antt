-- What a store remembers of senders, number by number, once a last tid or a boot is noted.
use Rattle.std.proofs.Common.{◌≡◌, ℕ, ◌<◌, List, map, length, get_or, set, refl, sym, ap, ◌∙◌, subst, inl, inr, arith}
use Rattle.std.specs.List.{range_with_len}
use Rattle.std.proofs.lemmas.Bool.{cases_lt, cases_eq}
use Rattle.std.proofs.lemmas.List.{map-set, set-get_or, set_past, length-map, get_or-set_same, get_or-set_other}
use Rattle.std.proofs.lemmas.List.FromFn.{length-range_with_len, get_or-range_with_len}
use Rattle.std.proofs.lemmas.Option.{unwrap_or-slice_get}
use Rattle.fab_base.specs.declared.object.Tid.{Tid}
use Rattle.fab_protocol.specs.declared.sender.Sender.{Sender}
use Rattle.fab_protocol.specs.Stores.{sender_in, unheard, with_last, with_boot, start_of}

-- of each number below 64 something is remembered, with a tid of its own
abbrev pub AreRemembered : List Sender → Type 0
AreRemembered senders = map (λ (x : Sender). x.last.worker) senders ≡ range_with_len 0 64

sender_is : (senders : List Sender) (n : ℕ) → sender_in senders n ≡ get_or senders n (unheard n)
sender_is senders n = unwrap_or-slice_get senders n (unheard n)

pub sender_at : (senders : List Sender) (n : ℕ) (x : Sender) → n < length senders → sender_in (set senders n x) n ≡ x
sender_at senders n x low = sender_is (set senders n x) n ∙ get_or-set_same senders n x (unheard n) low

pub sender_other : (senders : List Sender) (n m : ℕ) (x : Sender) → (m ≡ n → ⊥) → sender_in (set senders n x) m ≡ sender_in senders m
sender_other senders n m x apart =
    sender_is (set senders n x) m ∙ get_or-set_other senders n m x (unheard m) apart ∙ sym (sender_is senders m)

pub as_many : (senders : List Sender) → AreRemembered senders → length senders ≡ 64
as_many senders h =
    sym (length-map senders (λ (x : Sender). x.last.worker)) ∙ ap length h ∙ length-range_with_len 0 64

-- one that is noted with a tid of its own
remembered_set : (senders : List Sender) (n : ℕ) (x : Sender) → n < 64 → x.last.worker ≡ n → AreRemembered senders
    → AreRemembered (set senders n x)
remembered_set senders n x low own h =
    map-set (λ (y : Sender). y.last.worker) senders n x
    ∙ ap (λ (ks : List ℕ). set ks n x.last.worker) h
    ∙ ap (set (range_with_len 0 64) n) (own ∙ sym (get_or-range_with_len 0 64 n 0 low ∙ omega arith))
    ∙ set-get_or (range_with_len 0 64) n 0

pub remembered_last : (senders : List Sender) (t : Tid) → t.worker < 64 → AreRemembered senders → AreRemembered (with_last t senders)
remembered_last senders t low h = remembered_set senders t.worker (record (sender_in senders t.worker) { last = t }) low refl h

pub remembered_boot : (senders : List Sender) (w b : ℕ) → w < 64 → AreRemembered senders → AreRemembered (with_boot w b senders)
remembered_boot senders w b low h = remembered_set senders w (record { last = start_of w b; boot = b }) low refl h

-- a last tid changes no boot
pub boot_stays : (senders : List Sender) (t : Tid) (n : ℕ) → (sender_in (with_last t senders) n).boot ≡ (sender_in senders n).boot
boot_stays senders t n = elim (cases_eq n t.worker) [
  | inl same ↦ elim (cases_lt t.worker (length senders)) [
    | inl low ↦ subst (λ m. (sender_in (with_last t senders) m).boot ≡ (sender_in senders m).boot) (sym same)
        (ap (λ (x : Sender). x.boot) (sender_at senders t.worker (record (sender_in senders t.worker) { last = t }) low))
    | inr high ↦ ap (λ xs. (sender_in xs n).boot) (set_past senders t.worker (record (sender_in senders t.worker) { last = t }) high)
  ]
  | inr other ↦ ap (λ (x : Sender). x.boot) (sender_other senders t.worker n (record (sender_in senders t.worker) { last = t }) other)
]
