-- The executor's rule, whatever its messages are.
use Rattle.std.specs.Prelude.{ℕ, suc, zero, ◌+◌, Bool, false, ◌&&◌, ◌||◌, not, nat_eq, nat_lt, nat_le, List, [], ◌∷◌, ◌++◌, Option, Some, None, if◌then◌else◌, is_some}
use Rattle.fw_base.specs.declared.seat.Seat.{Seat}
use Rattle.fw_base.specs.Seats.{seat_eq}
use Rattle.fw_trace.specs.declared.Input.{Input}
use Rattle.fw_trace.specs.declared.Input.TheVariants.{Heard, Tick, Submitted}
use Rattle.fw_trace.specs.Role.{Role}
use Rattle.fw_trace.specs.Lists.{first_at}
use Rattle.fw_trace.specs.Client.{to_all}

-- E are entries, A answers, X states of the reference
pub record Speech (M E A X : Type 0) : Type 0 where
  pub agreed : Seat → M → Option (ℕ × E)  -- a valid agreed frame, from a filter of the last row or an executor
  pub wanted : Seat → M → Option ℕ  -- a want, from an executor
  pub is_filter : Seat → Bool
  pub begin : X
  pub step : X → E → A × X
  pub share : ℕ → A → M
  pub want : ℕ → M
  pub filters : List Seat
  pub others : List Seat

pub record Executor (M E A X : Type 0) : Type 0 where
  pub kept : List (ℕ × E × M)  -- the first agreed frame of each number, the newest first
  pub from : List (Seat × ℕ)  -- which filter sent an agreed frame of which number
  pub done : ℕ
  pub state : X
  pub shares : List (ℕ × M)  -- the newest first

abbrev pub Sends : Type 0 → Type 0
Sends M = List (Seat × M)

abbrev pub entry_of : {M E : Type 0} → List (ℕ × E × M) → ℕ → Option E
entry_of kept n = first_at (λ k. Some (k.0, k.1)) kept n

abbrev pub frame_of : {M E : Type 0} → List (ℕ × E × M) → ℕ → Option M
frame_of kept n = first_at (λ k. Some (k.0, k.2)) kept n

abbrev pub keep : {M E : Type 0} → List (ℕ × E × M) → ℕ × E × M → List (ℕ × E × M)
keep kept new = if is_some (entry_of kept new.0) then kept else new ∷ kept

-- one number is executed, and its share sent
abbrev pub execute_one : {M E A X : Type 0} → Speech M E A X → Executor M E A X → E → Executor M E A X × Sends M
execute_one sp x e =
    let n = x.done + 1 in
    let r = sp.step x.state e in
    let share = sp.share n r.0 in
    (record x { done = n; state = r.1; shares = (n, share) ∷ x.shares }, to_all sp.filters share)

-- while the next number is kept; most bounds the turns
abbrev pub execute_on : {M E A X : Type 0} → Speech M E A X → ℕ → Executor M E A X → Executor M E A X × Sends M
execute_on sp zero x = (x, [])
execute_on sp (suc most) x =
    elim (entry_of x.kept (x.done + 1)) [
      | None ↦ (x, [])
      | Some e ↦
          let one = execute_one sp x e in
          let rest = execute_on sp most one.0 in
          (rest.0, one.1 ++ rest.1)
    ]

abbrev pub sent_before : List (Seat × ℕ) → Seat → ℕ → Bool
sent_before [] seat n = false
sent_before (f ∷ from) seat n = (seat_eq f.0 seat && nat_eq f.1 n) || sent_before from seat n

abbrev pub option_sends : {M : Type 0} → Seat → Option M → Sends M
option_sends seat None = []
option_sends seat (Some m) = (seat, m) ∷ []

abbrev pub hear_agreed : {M E A X : Type 0} → Speech M E A X → Executor M E A X → Seat → M → Option (ℕ × E) → Executor M E A X × Sends M
hear_agreed sp x seat m None = (x, [])
hear_agreed sp x seat m (Some a) =
    let again = sp.is_filter seat && nat_le a.0 x.done && sent_before x.from seat a.0 in
    let kept = keep x.kept (a.0, a.1, m) in
    let noted = record x { kept = kept; from = if sp.is_filter seat then (seat, a.0) ∷ x.from else x.from } in
    let ran = execute_on sp (suc (length_of kept)) noted in
    (ran.0, ran.1 ++ (if again then option_sends seat (first_at (λ s. Some s) x.shares a.0) else []))
  where
    length_of : {A : Type 0} → List A → ℕ
    length_of [] = 0
    length_of (y ∷ ys) = suc (length_of ys)

abbrev pub hear_want : {M E A X : Type 0} → Executor M E A X → Seat → Option ℕ → Sends M
hear_want x seat None = []
hear_want x seat (Some n) = option_sends seat (frame_of x.kept n)

abbrev pub keeps_above : {M E : Type 0} → List (ℕ × E × M) → ℕ → Bool
keeps_above [] n = false
keeps_above (k ∷ kept) n = nat_lt n k.0 || keeps_above kept n

abbrev pub executor_next : {M O E A X : Type 0} → Speech M E A X → Executor M E A X → Input M O → Executor M E A X × Sends M
executor_next sp x (Heard from m) =
    let heard = hear_agreed sp x from m (sp.agreed from m) in
    (heard.0, heard.1 ++ hear_want x from (sp.wanted from m))
executor_next sp x Tick =
    (x, if not (is_some (entry_of x.kept (x.done + 1))) && keeps_above x.kept (x.done + 1) then to_all sp.others (sp.want (x.done + 1)) else [])
executor_next sp x (Submitted op) = (x, [])

abbrev pub executor_role : {M O E A X : Type 0} → Speech M E A X → Role (Executor M E A X) M O
executor_role sp = record {
  start = record { kept = []; from = []; done = 0; state = sp.begin; shares = [] };
  next = executor_next sp;
}
