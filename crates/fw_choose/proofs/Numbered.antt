-- Numbers tried in order: what those that are left give is what all give.
use Rattle.std.proofs.Common.{◌≡◌, ℕ, suc, ◌+◌, ◌-◌, ◌<◌, List, Bool, true, false, Option, refl, sym, arith}
use Rattle.std.specs.Prelude.{is_some}
use Rattle.fw_list.specs.Lists.{numbers_from}
use Rattle.fw_frame.specs.View.{Reply}
use Rattle.fw_rules.specs.Agree.{reply_of, replied_up_to}
use Rattle.fw_rules.specs.Choices.{first_some}
use Rattle.fw_owned.proofs.Found.{passed, taken}

-- nothing is found at the first that is left
pub first_next : {B : Type 0} (f : ℕ → Option B) (n k end : ℕ) → k < end → is_some (f n) ≡ false → first_some f (numbers_from (n + 1) (end - (k + 1))) ≡ first_some f (numbers_from n (end - k))
first_next f n k end below none =
    let left : end - k ≡ suc (end - (k + 1)) = omega arith in
    rw left (passed (f n) (first_some f (numbers_from (n + 1) (end - (k + 1)))) none)

-- something is
pub first_here : {B : Type 0} (f : ℕ → Option B) (n k end : ℕ) → k < end → is_some (f n) ≡ true → f n ≡ first_some f (numbers_from n (end - k))
first_here f n k end below some =
    let left : end - k ≡ suc (end - (k + 1)) = omega arith in
    rw left (taken (f n) (first_some f (numbers_from (n + 1) (end - (k + 1)))) some)

on : (go stop : ℕ) (b : Bool) → b ≡ true → go ≡ elim b [ true ↦ go | false ↦ stop ]
on go stop true e = refl
on go stop false e = absurd (let no : ⊥ = cc in no)

off : (go stop : ℕ) (b : Bool) → b ≡ false → stop ≡ elim b [ true ↦ go | false ↦ stop ]
off go stop false e = refl
off go stop true e = absurd (let no : ⊥ = cc in no)

pub replied_next : (held : List Reply) (k end : ℕ) → k < end → is_some (reply_of held (k + 1)) ≡ true → replied_up_to held (k + 1) (numbers_from (k + 1 + 1) (end - (k + 1))) ≡ replied_up_to held k (numbers_from (k + 1) (end - k))
replied_next held k end below some =
    let left : end - k ≡ suc (end - (k + 1)) = omega arith in
    rw left (on (replied_up_to held (k + 1) (numbers_from (k + 1 + 1) (end - (k + 1)))) k (is_some (reply_of held (k + 1))) some)

pub replied_here : (held : List Reply) (k end : ℕ) → k < end → is_some (reply_of held (k + 1)) ≡ false → k ≡ replied_up_to held k (numbers_from (k + 1) (end - k))
replied_here held k end below none =
    let left : end - k ≡ suc (end - (k + 1)) = omega arith in
    rw left (off (replied_up_to held (k + 1) (numbers_from (k + 1 + 1) (end - (k + 1)))) k (is_some (reply_of held (k + 1))) none)

pub replied_last : (held : List Reply) (k end : ℕ) → k ≡ end → end ≡ replied_up_to held k (numbers_from (k + 1) (end - k))
replied_last held k end same =
    let none : end - k ≡ 0 = omega arith in
    rw none (sym same)
