-- A flush need not look again at the frames before the one that it delivered last.
use Rattle.std.proofs.Common.{◌≡◌, ℕ, suc, zero, ◌+◌, List, [], ◌∷◌, ◌++◌, Bool, true, false, ◌&&◌, ◌||◌, not, cond, Option, Some, None, slice_get, drop, refl, ap, subst, ◌∙◌, arith}
use Rattle.std.proofs.lemmas.Option.{none-some, same_Some}
use Rattle.fw_trace.specs.declared.Input.TheVariants.{Heard}
use Rattle.fw_trace.specs.declared.Sent.{Sent}
use Rattle.fw_trace.specs.declared.Logged.{Logged}
use Rattle.fw_trace.specs.Trace.{Rules, Delivers, from_seat, was_delivered, is_frame, next_frame}
use Rattle.fw_view_choices.specs.Carried.{Carried, Roles, state_at, takes, delivers, after, flushes, flushes_from}

-- the frame at this place is still to come
abbrev is_due : {M O : Type 0} → Rules M O → List (Logged M O) → ℕ → Sent M → Bool
is_due r log k s = r.correct s.to && not (was_delivered log k)

-- none of the first n frames of a pool, whose first stands at place k, is still to come
abbrev NoneDue : {M O : Type 0} → Rules M O → List (Logged M O) → ℕ → List (Sent M) → ℕ → Type 0
NoneDue r log k pool zero = Unit {0}
NoneDue r log k [] (suc n) = ⊥
NoneDue r log k (s ∷ pool) (suc n) = (is_due r log k s ≡ false) × NoneDue r log (k + 1) pool n

past : {M O : Type 0} (r : Rules M O) (log : List (Logged M O)) (k : ℕ) (pool : List (Sent M)) (n : ℕ)
    → NoneDue r log k pool n → next_frame r log k pool ≡ next_frame r log (k + n) (drop n pool)
past r log k pool zero none = let same : k ≡ k + 0 = omega arith in ap (λ (at : ℕ). next_frame r log at pool) same
past r log k [] (suc n) none = absurd none
past r log k (s ∷ pool) (suc n) none =
    let same : k + 1 + n ≡ k + suc n = omega arith in
    ap (λ (b : Bool). elim b [ true ↦ Some k | false ↦ next_frame r log (k + 1) pool ]) none.0
    ∙ past r log (k + 1) pool n none.1
    ∙ ap (λ (at : ℕ). next_frame r log at (drop n pool)) same

found : {M O : Type 0} (r : Rules M O) (log : List (Logged M O)) (k : ℕ) (pool : List (Sent M)) (j : ℕ)
    → next_frame r log k pool ≡ Some j → (n : ℕ) × (k + n ≡ j) × NoneDue r log k pool n
found r log k [] j e = absurd (none-some j e)
found {M} {O} r log k (s ∷ pool) j e = by (is_due r log k s) refl e (found r log (k + 1) pool j)
  where
    by : (b : Bool) → is_due r log k s ≡ b → elim b [ true ↦ Some k | false ↦ next_frame r log (k + 1) pool ] ≡ Some j
        → (next_frame r log (k + 1) pool ≡ Some j → (n : ℕ) × (k + 1 + n ≡ j) × NoneDue r log (k + 1) pool n)
        → (n : ℕ) × (k + n ≡ j) × NoneDue r log k (s ∷ pool) n
    by true due same more = let here : k ≡ j = same_Some k j same in (0, omega arith, tt)
    by false due same more =
        let rest = more same in
        let sum : k + 1 + rest.0 ≡ j = rest.1 in
        (suc rest.0, omega arith, (due, rest.2))

-- what isn't due doesn't become so

stays : (correct delivered now : Bool) → (correct && not delivered) ≡ false → (correct && not (now || delivered)) ≡ false
stays false delivered now e = refl
stays true true true e = refl
stays true true false e = refl
stays true false now e = cc

none_later : {M O : Type 0} (r : Rules M O) (log : List (Logged M O)) (l : Logged M O) (k : ℕ) (pool new : List (Sent M)) (n : ℕ)
    → NoneDue r log k pool n → NoneDue r (l ∷ log) k (pool ++ new) n
none_later r log l k pool new zero none = tt
none_later r log l k [] new (suc n) none = absurd none
none_later r log l k (s ∷ pool) new (suc n) none =
    (stays (r.correct s.to) (was_delivered log k) (is_frame k l.frame) none.0, none_later r log l (k + 1) pool new n none.1)

none_after : {S M O : Type 0} (r : Rules M O) (roles : Roles S M O) (c : Carried S M O) (k : ℕ) (o : Option (Sent M)) (n : ℕ)
    → NoneDue r c.trace.log 0 c.trace.pool n → NoneDue r (delivers r roles c k o).trace.log 0 (delivers r roles c k o).trace.pool n
none_after r roles c k None n none = none
none_after {S} {M} {O} r roles c k (Some s) n none = by (r.correct s.to)
  where
    l : Logged M O
    l = record { seat = s.to; input = Heard s.from s.message; frame = Some k }

    next : Carried S M O
    next = takes roles c l

    by : (b : Bool) → NoneDue r (cond b next c).trace.log 0 (cond b next c).trace.pool n
    by true = none_later r c.trace.log l 0 c.trace.pool (from_seat s.to ((roles s.to).next (state_at roles c s.to) l.input).1) n none
    by false = none

pub flushes_is : {S M O : Type 0} (r : Rules M O) (roles : Roles S M O) (most place : ℕ) (c : Carried S M O)
    → NoneDue r c.trace.log 0 c.trace.pool place → flushes r roles most c ≡ flushes_from r roles most place c
flushes_is r roles zero place c none = refl
flushes_is {S} {M} {O} r roles (suc most) place c none =
    ap (λ (o : Option ℕ). elim o [ None ↦ c | Some k ↦ flushes r roles most (after r roles c (Delivers k)) ]) here
    ∙ by (next_frame r c.trace.log place (drop place c.trace.pool)) refl (λ k. flushes_is r roles most k (after r roles c (Delivers k)))
  where
    here : next_frame r c.trace.log 0 c.trace.pool ≡ next_frame r c.trace.log place (drop place c.trace.pool)
    here =
        let same : 0 + place ≡ place = omega arith in
        past r c.trace.log 0 c.trace.pool place none ∙ ap (λ (at : ℕ). next_frame r c.trace.log at (drop place c.trace.pool)) same

    due : (k : ℕ) → next_frame r c.trace.log place (drop place c.trace.pool) ≡ Some k → NoneDue r c.trace.log 0 c.trace.pool k
    due k e =
        let f = found r c.trace.log 0 c.trace.pool k (here ∙ e) in
        let sum : 0 + f.0 ≡ k = f.1 in
        let same : f.0 ≡ k = omega arith in
        subst (λ (n : ℕ). NoneDue r c.trace.log 0 c.trace.pool n) same f.2

    by : (o : Option ℕ) → next_frame r c.trace.log place (drop place c.trace.pool) ≡ o
        → ((k : ℕ) → NoneDue r (after r roles c (Delivers k)).trace.log 0 (after r roles c (Delivers k)).trace.pool k
        → flushes r roles most (after r roles c (Delivers k)) ≡ flushes_from r roles most k (after r roles c (Delivers k)))
        → ◌≡◌ {A = Carried S M O}
        (elim o [ None ↦ c | Some k ↦ flushes r roles most (after r roles c (Delivers k)) ])
        (elim o [ None ↦ c | Some k ↦ flushes_from r roles most k (after r roles c (Delivers k)) ])
    by None e rest = refl
    by (Some k) e rest = rest k (none_after r roles c k (slice_get c.trace.pool k) k (due k e))
