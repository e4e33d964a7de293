-- The executor's turns: one number after another, as far as they are kept.
use Rattle.std.proofs.Common.{◌≡◌, ℕ, suc, ◌+◌, Bool, true, false, nat_eq, List, [], ◌∷◌, ◌++◌, length, take, drop, inl, inr, Option, None, Some, All, refl, ap, sym, ◌∙◌, append-nil, append_assoc, ◌-◌, ◌<◌, ◌≤◌, arith}
use Rattle.std.specs.Prelude.{is_some, if◌then◌else◌}
use Rattle.std.proofs.lemmas.Bool.{false≢true, and_parts, leb-true, cases_Bool, eqb-true}
use Rattle.std.proofs.Math.Seq.{take-length, take-append_seam}
use Rattle.std.proofs.lemmas.List.{take-append-drop}
use Rattle.std.proofs.lemmas.List.Elements.{All-cons, All-head, All-tail}
use Rattle.fw_base.specs.declared.params.Params.{Params}
use Rattle.fw_base.specs.declared.seat.Seat.{Seat}
use Rattle.fw_frame.specs.View.{Entry}
use Rattle.fw_trace.specs.Executor as executors
use Rattle.fw_exec.specs.Kept.{Keeps, Speech, IsEntryAt, IsReached, IsRunning}

abbrev Out : Type 0
Out = List (Seat × List ℕ)

-- what an executor keeps after this many turns, and what it sends in them
abbrev pub after : Speech → ℕ → Keeps → Keeps
after sp most x = (executors.execute_on sp most x).0

abbrev pub sent : Speech → ℕ → Keeps → Out
sent sp most x = (executors.execute_on sp most x).1

-- whether the next number is kept
abbrev pub can : Keeps → Bool
can x = is_some (executors.entry_of x.kept (x.done + 1))

-- the same after the look-up of the next number
abbrev pub turned : Speech → ℕ → Keeps → Option Entry → Keeps × Out
turned sp most x None = (x, [])
turned sp most x (Some e) =
    let one = executors.execute_one sp x e in
    let rest = executors.execute_on sp most one.0 in
    (rest.0, one.1 ++ rest.1)

-- the first turn and then the others
turn : (sp : Speech) (most : ℕ) (x : Keeps) (e : Option Entry) → is_some e ≡ true → ((turned sp most x e).0 ≡ after sp most (turned sp 0 x e).0) × ((turned sp most x e).1 ≡ (turned sp 0 x e).1 ++ sent sp most (turned sp 0 x e).0)
turn sp most x None some = absurd (false≢true some)
turn sp most x (Some e) some =
    let one = executors.execute_one sp x e in
    (refl, ap (λ (out : Out). out ++ sent sp most one.0) (sym (append-nil one.1)))

turn_after : (sp : Speech) (most : ℕ) (x : Keeps) → can x ≡ true → after sp (suc most) x ≡ after sp most (after sp 1 x)
turn_after sp most x some = (turn sp most x (executors.entry_of x.kept (x.done + 1)) some).0

turn_sent : (sp : Speech) (most : ℕ) (x : Keeps) → can x ≡ true → sent sp (suc most) x ≡ sent sp 1 x ++ sent sp most (after sp 1 x)
turn_sent sp most x some = (turn sp most x (executors.entry_of x.kept (x.done + 1)) some).1

-- nothing is kept of the next number: no turn changes anything
stop : (sp : Speech) (most : ℕ) (x : Keeps) (e : Option Entry) → is_some e ≡ false → ((turned sp most x e).0 ≡ x) × ((turned sp most x e).1 ≡ [])
stop sp most x None none = (refl, refl)
stop sp most x (Some e) none = absurd (false≢true (sym none))

pub stop_after : (sp : Speech) (most : ℕ) (x : Keeps) → can x ≡ false → after sp (suc most) x ≡ x
stop_after sp most x none = (stop sp most x (executors.entry_of x.kept (x.done + 1)) none).0

pub stop_sent : (sp : Speech) (most : ℕ) (x : Keeps) → can x ≡ false → sent sp (suc most) x ≡ []
stop_sent sp most x none = (stop sp most x (executors.entry_of x.kept (x.done + 1)) none).1

-- a turn was taken: those that are left lead where all led
pub taken_after : (sp : Speech) (len k : ℕ) (x y : Keeps) → k < len → can x ≡ true → y ≡ after sp 1 x → after sp (suc (len - (k + 1))) y ≡ after sp (suc (len - k)) x
taken_after sp len k x y inside some is =
    let left : len - k ≡ suc (len - (k + 1)) = omega arith in
    ap (after sp (suc (len - (k + 1)))) is ∙ sym (turn_after sp (suc (len - (k + 1))) x some) ∙ ap (λ (n : ℕ). after sp (suc n) x) (sym left)

pub taken_sent : (sp : Speech) (len k : ℕ) (x y : Keeps) (out new : Out) → k < len → can x ≡ true → y ≡ after sp 1 x → new ≡ out ++ sent sp 1 x → new ++ sent sp (suc (len - (k + 1))) y ≡ out ++ sent sp (suc (len - k)) x
taken_sent sp len k x y out new inside some is sends =
    let rest = sent sp (suc (len - (k + 1))) (after sp 1 x) in
    let left : len - k ≡ suc (len - (k + 1)) = omega arith in
    ap (λ (z : Keeps). new ++ sent sp (suc (len - (k + 1))) z) is
    ∙ ap (λ (o : Out). o ++ rest) sends
    ∙ append_assoc out (sent sp 1 x) rest
    ∙ ap (λ (o : Out). out ++ o) (sym (turn_sent sp (suc (len - (k + 1))) x some))
    ∙ ap (λ (n : ℕ). out ++ sent sp (suc n) x) (sym left)

-- no turn could be taken: the first is as good as all
pub halted_after : (sp : Speech) (most : ℕ) (x y : Keeps) → can x ≡ false → y ≡ after sp 1 x → y ≡ after sp (suc most) x
halted_after sp most x y none is = is ∙ stop_after sp 0 x none ∙ sym (stop_after sp most x none)

pub halted_sent : (sp : Speech) (most : ℕ) (x : Keeps) (out new : Out) → can x ≡ false → new ≡ out ++ sent sp 1 x → new ≡ out ++ sent sp (suc most) x
halted_sent sp most x out new none sends = sends ∙ ap (λ (o : Out). out ++ o) (stop_sent sp 0 x none ∙ sym (stop_sent sp most x none))

-- the last turn is the only one that is left
pub ended : (len k : ℕ) → len ≤ k → 1 ≡ suc (len - k)
ended len k past = omega arith

-- ---- one turn

-- the next number is kept: it is executed
pub one_turn : (sp : Speech) (x : Keeps) (e : Entry) → executors.entry_of x.kept (x.done + 1) ≡ Some e → executors.execute_on sp 1 x ≡ ((executors.execute_one sp x e).0, (executors.execute_one sp x e).1)
one_turn sp x e found = ap (turned sp 0 x) found ∙ ap (λ (out : Out). ((executors.execute_one sp x e).0, out)) (append-nil (executors.execute_one sp x e).1)

-- ---- what is kept

-- what is kept of a number
pub entry_kept : (p : Params) (kept : List (ℕ × Entry × List ℕ)) (n : ℕ) (e : Entry) → All (λ k. IsEntryAt p k.0 k.1) kept → executors.entry_of kept n ≡ Some e → IsEntryAt p n e
entry_kept p [] n e all found = absurd (let no : ⊥ = cc in no)
entry_kept p (k ∷ kept) n e all found = elim (cases_Bool (nat_eq k.0 n)) [
  | inl same ↦
      let is : k.0 ≡ n = eqb-true k.0 n same in
      let first : Some k.1 ≡ Some e = rw same at found in
      let entry : k.1 ≡ e = cc in
      rw (sym is) (rw (sym entry) (All-head (λ (q : ℕ × Entry × List ℕ). IsEntryAt p q.0 q.1) k kept all))
  | inr other ↦ entry_kept p kept n e (All-tail (λ (q : ℕ × Entry × List ℕ). IsEntryAt p q.0 q.1) k kept all) (rw other at found)
]

-- one more is kept
pub all_kept : (p : Params) (kept : List (ℕ × Entry × List ℕ)) (new : ℕ × Entry × List ℕ) → All (λ k. IsEntryAt p k.0 k.1) kept → IsEntryAt p new.0 new.1 → All (λ k. IsEntryAt p k.0 k.1) (executors.keep kept new)
all_kept p kept new all here =
    elim (is_some (executors.entry_of kept new.0)) as (λ t. All (λ k. IsEntryAt p k.0 k.1) (if t then kept else new ∷ kept)) [
      | true ↦ all
      | false ↦ All-cons (λ (k : ℕ × Entry × List ℕ). IsEntryAt p k.0 k.1) new kept here all
    ]

-- a number was executed
pub running_more : (p : Params) (x new : Keeps) (e : Entry) → IsRunning p x → IsEntryAt p (x.done + 1) e → new.kept ≡ x.kept → new.done ≡ x.done + 1 → IsReached new.done new.state → IsRunning p new
running_more p x new e running at kept done reached = record {
  kept = rw kept running.kept;
  last = rw done (leb-true (x.done + 1) p.numbers (and_parts _ _ at.ranged).1);
  reached = reached;
}

-- ---- what was in an outbox stays in front

pub begins_self : (out : Out) → take (length out) out ≡ out
begins_self out = take-length out

pub begins_added : (old out : Out) (more : Out) → take (length old) out ≡ old → take (length old) (out ++ more) ≡ old
begins_added old out more begins =
    let rest = drop (length old) out in
    let parts : out ≡ old ++ rest = sym (take-append-drop (length old) out) ∙ ap (λ (front : Out). front ++ rest) begins in
    ap (λ (all : Out). take (length old) (all ++ more)) parts
    ∙ ap (take (length old)) (append_assoc old rest more)
    ∙ take-append_seam old (rest ++ more)

pub begins_by : (old out new more : Out) → take (length old) out ≡ old → new ≡ out ++ more → take (length old) new ≡ old
begins_by old out new more begins made = ap (take (length old)) made ∙ begins_added old out more begins
