-- Numbers tried in order, up to the first that has nothing.
use Rattle.std.proofs.Common.{◌≡◌, ℕ, suc, ◌+◌, ◌-◌, ◌<◌, ◌≤◌, nat_le, Bool, true, false, Some, None, refl, sym, ap, arith}
use Rattle.std.specs.Prelude.{is_some}
use Rattle.std.proofs.lemmas.Bool.{le-leb, lt-leb}
use Rattle.fw_list.specs.Lists.{numbers_from}
use Rattle.fw_queue.specs.Backlogs.{Backlog, frame_at, up_to, ready, replied}

pub next : (has : ℕ → Bool) (k end : ℕ) → k < end → has (k + 1) ≡ true → up_to has (k + 1) (numbers_from (k + 1 + 1) (end - (k + 1))) ≡ up_to has k (numbers_from (k + 1) (end - k))
next has k end below is =
    let left : end - k ≡ suc (end - (k + 1)) = omega arith in
    rw left (rw is refl)

pub here : (has : ℕ → Bool) (k end : ℕ) → k < end → has (k + 1) ≡ false → k ≡ up_to has k (numbers_from (k + 1) (end - k))
here has k end below is =
    let left : end - k ≡ suc (end - (k + 1)) = omega arith in
    rw left (rw is refl)

pub last : (has : ℕ → Bool) (k end : ℕ) → k ≡ end → end ≡ up_to has k (numbers_from (k + 1) (end - k))
last has k end same =
    let none : end - k ≡ 0 = omega arith in
    rw none (sym same)

-- the next number, where nothing is agreed there, where it may go, and where it is too far above the replies
pub missing : (q : Backlog) → is_some (frame_at q.agreed (q.gone + 1)) ≡ false → None ≡ ready q
missing q none = rw none refl

pub near : (q : Backlog) (n : ℕ) → n ≡ q.gone + 1 → is_some (frame_at q.agreed (q.gone + 1)) ≡ true → n ≤ replied q + q.params.pipe → Some n ≡ ready q
near q n is some below =
    let fits : nat_le (q.gone + 1) (replied q + q.params.pipe) ≡ true = le-leb _ _ (rw is at below) in
    rw (some, fits) (ap (λ (k : ℕ). Some k) is)

pub far : (q : Backlog) (n : ℕ) → n ≡ q.gone + 1 → is_some (frame_at q.agreed (q.gone + 1)) ≡ true → replied q + q.params.pipe < n → None ≡ ready q
far q n is some above =
    let over : replied q + q.params.pipe < q.gone + 1 = rw is at above in
    let not_fits : nat_le (q.gone + 1) (replied q + q.params.pipe) ≡ false = lt-leb _ _ over in
    rw (some, not_fits) refl
