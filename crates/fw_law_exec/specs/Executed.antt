-- What an executor keeps to, whatever its messages are: what it executes, keeps, notes and sends.
use Rattle.std.specs.Prelude.{ℕ, zero, suc, ◌+◌, ◌≡◌, ◌≤◌, ◌⊎◌, true, nat_eq, List, [], ◌∷◌, Option, Some, None, option_map, if◌then◌else◌}
use Rattle.std.specs.Option.{option_or}
use Rattle.fw_base.specs.declared.seat.Seat.{Seat}
use Rattle.fw_trace.specs.declared.Input.{Input}
use Rattle.fw_trace.specs.declared.Input.TheVariants.{Heard, Tick, Submitted}
use Rattle.fw_trace.specs.Lists.{In}
use Rattle.fw_trace.specs.Role.{kept, sends}
use Rattle.fw_trace.specs.Executor.{Speech, Executor, entry_of, frame_of, executor_role}
use Rattle.fw_source.specs.Sources.{EverSent}

-- an executor after a history, whose newest input stands first; and whether it has sent a message to a seat on any of these inputs
abbrev pub state_of : {M E A X O : Type 0} → Speech M E A X → List (Input M O) → Executor M E A X
state_of sp h = kept (executor_role sp) h

abbrev pub HasSent : {M E A X O : Type 0} → Speech M E A X → List (Input M O) → Seat × M → Type 0
HasSent sp h o = EverSent (sends (executor_role sp)) h o

-- ---- what is executed; at n is the entry that stands at number n

abbrev pub after_one : {M E A X : Type 0} → Speech M E A X → X → Option E → X
after_one sp s None = s
after_one sp s (Some e) = (sp.step s e).1

-- the state after the entries at 1, 2, .. n
abbrev pub fold_of : {M E A X : Type 0} → Speech M E A X → (ℕ → Option E) → ℕ → X
fold_of sp at zero = sp.begin
fold_of sp at (suc n) = after_one sp (fold_of sp at n) (at (suc n))

abbrev pub share_one : {M E A X : Type 0} → Speech M E A X → ℕ → X → Option E → Option M
share_one sp n s None = None
share_one sp n s (Some e) = Some (sp.share n (sp.step s e).0)

-- the share of the answer to the entry at n, in the state after those before it
abbrev pub share_at : {M E A X : Type 0} → Speech M E A X → (ℕ → Option E) → ℕ → Option M
share_at sp at zero = None
share_at sp at (suc n) = share_one sp (suc n) (fold_of sp at n) (at (suc n))

abbrev pub with_share : {M : Type 0} → ℕ → Option M → List (ℕ × M) → List (ℕ × M)
with_share n None shares = shares
with_share n (Some m) shares = (n, m) ∷ shares

-- the shares of n, .. 2, 1
abbrev pub shares_to : {M E A X : Type 0} → Speech M E A X → (ℕ → Option E) → ℕ → List (ℕ × M)
shares_to sp at zero = []
shares_to sp at (suc n) = with_share (suc n) (share_at sp at (suc n)) (shares_to sp at n)

abbrev pub IsKept : {M E : Type 0} → List (ℕ × E × M) → ℕ → Type 0
IsKept {M} {E} kept n = (e : E) × (entry_of kept n ≡ Some e)

-- 1 to done are kept and executed, in order and once
pub record Executes {M E A X : Type 0} (sp : Speech M E A X) (x : Executor M E A X) : Type 0 where
  pub each : (n : ℕ) → 1 ≤ n → n ≤ x.done → IsKept x.kept n
  pub state : x.state ≡ fold_of sp (entry_of x.kept) x.done
  pub shares : x.shares ≡ shares_to sp (entry_of x.kept) x.done

-- the number after them isn't kept
abbrev pub Waits : {M E A X : Type 0} → Executor M E A X → Type 0
Waits x = entry_of x.kept (x.done + 1) ≡ None

-- ---- what is kept and noted

abbrev pub OnePerNumber : {M E : Type 0} → List (ℕ × E × M) → Type 0
OnePerNumber [] = Unit {0}
OnePerNumber (k ∷ kept) = (entry_of kept k.0 ≡ None) × OnePerNumber kept

-- the entry and the frame, where an input is an agreed frame of number n
abbrev pub told_by : {M E : Type 0} → M → Option (ℕ × E) → ℕ → Option (E × M)
told_by m None n = None
told_by m (Some a) n = if nat_eq a.0 n then Some (a.1, m) else None

abbrev pub told_in : {M E A X O : Type 0} → Speech M E A X → Input M O → ℕ → Option (E × M)
told_in sp (Heard from m) n = told_by m (sp.agreed from m) n
told_in sp Tick n = None
told_in sp (Submitted op) n = None

-- the first of them in a history
abbrev pub first_heard : {M E A X O : Type 0} → Speech M E A X → List (Input M O) → ℕ → Option (E × M)
first_heard sp [] n = None
first_heard sp (i ∷ h) n = option_or (first_heard sp h n) (told_in sp i n)

-- that one is kept
abbrev pub KeepsFirst : {M E A X O : Type 0} → Speech M E A X → List (Input M O) → Executor M E A X → ℕ → Type 0
KeepsFirst sp h x n = (entry_of x.kept n ≡ option_map (λ p. p.0) (first_heard sp h n)) × (frame_of x.kept n ≡ option_map (λ p. p.1) (first_heard sp h n))

-- the kept frame was heard, and was an agreed frame of this entry
abbrev pub WasHeard : {M E A X O : Type 0} → Speech M E A X → List (Input M O) → ℕ × E × M → Type 0
WasHeard sp h k = (from : Seat) × In (Heard from k.2) h × (sp.agreed from k.2 ≡ Some (k.0, k.1))

-- an agreed frame of the number was heard from the filter
pub record Asked {M E A X O : Type 0} (sp : Speech M E A X) (h : List (Input M O)) (f : Seat × ℕ) : Type 0 where
  pub filter : sp.is_filter f.0 ≡ true
  pub message : M
  pub entry : E
  pub heard : In (Heard f.0 message) h
  pub agreed : sp.agreed f.0 message ≡ Some (f.1, entry)

-- if the message is an agreed frame, its number is kept, and noted where a filter sent it
abbrev pub Remembered : {M E A X : Type 0} → Speech M E A X → Executor M E A X → Seat → M → Type 0
Remembered {M} {E} sp x from m =
    (n : ℕ) (e : E) → sp.agreed from m ≡ Some (n, e) → IsKept x.kept n × (sp.is_filter from ≡ true → In (from, n) x.from)

-- what x has, y has too
pub record Stays {M E A X : Type 0} (x y : Executor M E A X) : Type 0 where
  pub entries : (n : ℕ) (e : E) → entry_of x.kept n ≡ Some e → entry_of y.kept n ≡ Some e
  pub frames : (n : ℕ) (m : M) → frame_of x.kept n ≡ Some m → frame_of y.kept n ≡ Some m
  pub done : x.done ≤ y.done
  pub shares : (s : ℕ × M) → In s x.shares → In s y.shares
  pub from : (f : Seat × ℕ) → In f x.from → In f y.from

-- ---- what is sent: to the seat o.0 the message o.1

-- a share, to a filter of the row or to one that sent an agreed frame of its number
pub record SentShare {M E A X : Type 0} (sp : Speech M E A X) (x : Executor M E A X) (o : Seat × M) : Type 0 where
  pub number : ℕ
  pub share : In (number, o.1) x.shares
  pub to : In o.0 sp.filters ⊎ In (o.0, number) x.from

-- a kept frame, to a seat that wanted it
pub record SentFrame {M E A X O : Type 0} (sp : Speech M E A X) (h : List (Input M O)) (x : Executor M E A X) (o : Seat × M) : Type 0 where
  pub number : ℕ
  pub message : M
  pub heard : In (Heard o.0 message) h
  pub wanted : sp.wanted o.0 message ≡ Some number
  pub kept : frame_of x.kept number ≡ Some o.1

-- a want, to another executor
pub record SentWant {M E A X : Type 0} (sp : Speech M E A X) (o : Seat × M) : Type 0 where
  pub number : ℕ
  pub is : o.1 ≡ sp.want number
  pub to : In o.0 sp.others

abbrev pub SendsOnly : {M E A X O : Type 0} → Speech M E A X → List (Input M O) → Executor M E A X → Seat × M → Type 0
SendsOnly sp h x o = SentShare sp x o ⊎ (SentFrame sp h x o ⊎ SentWant sp o)
