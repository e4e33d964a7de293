-- One event of a world: what befalls a seat happens, or would send too much.
use Rattle.std.proofs.Common.{◌≡◌, ℕ, ◌<◌, ◌≤◌, List, [], ◌∷◌, ◌++◌, Bool, true, false, cond, length, Option, Some, None, Ok, Err, IsTrue, slice_get, get_or, refl, sym, ap, ◌∙◌, arith, inl, inr}
use Rattle.std.proofs.lemmas.Option.{slice_get_cases, slice_get_read}
use Rattle.fw_base.specs.declared.params.Params.{Params}
use Rattle.fw_base.specs.declared.seat.Seat.{Seat}
use Rattle.fw_step.specs.Fitting.{is_correct}
use Rattle.fw_op.specs.declared.op.Op.{Op}
use Rattle.fw_trace.specs.declared.Input.TheVariants.{Heard}
use Rattle.fw_trace.specs.declared.Sent.{Sent}
use Rattle.fw_trace.specs.declared.Logged.{Logged}
use Rattle.fw_trace.specs.Trace.{Event, Delivers, history, from_seat, takes, after, delivers}
use Rattle.fw_trace.specs.Run.{appended, happens, fault_at, first_fault}
use Rattle.fw_trace.proofs.Words.{seat_eq-refl}
use Rattle.fw_node.specs.Histories.{History, Out}
use Rattle.fw_rules.specs.World.{over}
use Rattle.fw_fair.specs.Hostile.{rules_among, silent_among}
use Rattle.fw_rules.specs.declared.limits.Which.{Which}
use Rattle.fw_pool.specs.Notes.{Frames, delivery}
use Rattle.fw_pool.specs.Pooled.{enters, over_of}
use Rattle.fw_grid.specs.declared.cause.Cause.{Cause}
use Rattle.fw_grid.specs.declared.cause.Cause.TheVariants as causes
use Rattle.fw_grid.specs.Causes.{logged_by, event_of, CanCome}
use Rattle.fw_grid.specs.Schedule.{can_deliver}
use Rattle.fw_grid.specs.Fronts.{Sight}
use Rattle.fw_grid.proofs.Seating.{cond_true}

pub appended_is : {A : Type 0} (old more : List A) → appended old (old ++ more) ≡ more
appended_is [] more = refl
appended_is (x ∷ old) more = appended_is old more

appended_none : {A : Type 0} (old : List A) → appended old old ≡ []
appended_none [] = refl
appended_none (x ∷ old) = appended_none old

-- the input that a seat takes is the newest of its history
history_same : (l : Logged (List ℕ) Op) (log : List (Logged (List ℕ) Op)) → history l.seat (l ∷ log) ≡ l.input ∷ history l.seat log
history_same l log = ap (λ (b : Bool). cond b (l.input ∷ history l.seat log) (history l.seat log)) (seat_eq-refl l.seat)

takes_is : (p : Params) (faulty : List Seat) (rule : Seat → History → Out) (t : Sight) (l : Logged (List ℕ) Op) (out : Out) → out ≡ rule l.seat (l.input ∷ history l.seat t.log) → takes (rules_among p faulty rule) t l ≡ enters t l out
takes_is p faulty rule t l out sent =
    let same : rule l.seat (history l.seat (l ∷ t.log)) ≡ out = ap (rule l.seat) (history_same l t.log) ∙ sym sent in
    ap (λ (o : Out). enters t l o) same

delivers_is : (p : Params) (faulty : List Seat) (rule : Seat → History → Out) (t : Sight) (k : ℕ) (o : Option (Sent (List ℕ))) (out : Out) → (o ≡ None → ⊥) → IsTrue (is_correct p faulty (delivery k o).seat)
    → out ≡ rule (delivery k o).seat ((delivery k o).input ∷ history (delivery k o).seat t.log) → delivers (rules_among p faulty rule) t k o ≡ enters t (delivery k o) out
delivers_is p faulty rule t k None out some fit sent = absurd (some refl)
delivers_is p faulty rule t k (Some s) out some fit sent =
    cond_true (is_correct p faulty s.to) (takes (rules_among p faulty rule) t (delivery k (Some s))) t fit ∙ takes_is p faulty rule t (delivery k (Some s)) out sent

inside : (frames : Frames) (k : ℕ) → k < length frames → slice_get frames k ≡ None → ⊥
inside frames k below none =
    elim ((slice_get_cases frames k).1) [
      | inl some ↦ (let found : slice_get frames k ≡ Some some.0 = some.2 in cc)
      | inr past ↦ absurd (let beyond : length frames ≤ k = past.0 in omega arith)
    ]

-- the trace after what befell a seat
pub after_is : (p : Params) (faulty : List Seat) (rule : Seat → History → Out) (t : Sight) (cause : Cause) (out : Out) → CanCome t.pool cause → IsTrue (is_correct p faulty (logged_by t.pool cause).seat)
    → out ≡ rule (logged_by t.pool cause).seat ((logged_by t.pool cause).input ∷ history (logged_by t.pool cause).seat t.log) → after (rules_among p faulty rule) t (event_of cause) ≡ enters t (logged_by t.pool cause) out
after_is p faulty rule t (causes.Frame k) out come fit sent = delivers_is p faulty rule t k (slice_get t.pool k) out (inside t.pool k come) fit sent
after_is p faulty rule t (causes.Tick seat) out come fit sent = takes_is p faulty rule t (logged_by t.pool (causes.Tick seat)) out sent
after_is p faulty rule t (causes.Submit seat op) out come fit sent = takes_is p faulty rule t (logged_by t.pool (causes.Submit seat op)) out sent

fault_is : (p : Params) (faulty : List Seat) (rule : Seat → History → Out) (t : Sight) (e : Event (List ℕ) Op) (l : Logged (List ℕ) Op) (out : Out) → after (rules_among p faulty rule) t e ≡ enters t l out
    → fault_at (silent_among p faulty rule) t e ≡ over_of t l.seat out
fault_is p faulty rule t e l out moved =
    ap (λ (next : Sight). first_fault over t.pool (appended t.pool next.pool)) moved ∙ ap (first_fault over t.pool) (appended_is t.pool (from_seat l.seat out))

pub event_ok : (p : Params) (faulty : List Seat) (rule : Seat → History → Out) (t new : Sight) (cause : Cause) (out : Out) → CanCome t.pool cause → IsTrue (is_correct p faulty (logged_by t.pool cause).seat)
    → out ≡ rule (logged_by t.pool cause).seat ((logged_by t.pool cause).input ∷ history (logged_by t.pool cause).seat t.log) → over_of t (logged_by t.pool cause).seat out ≡ None → new ≡ enters t (logged_by t.pool cause) out
    → happens (silent_among p faulty rule) t (event_of cause) ≡ Ok new
event_ok p faulty rule t new cause out come fit sent none moved =
    let next = after_is p faulty rule t cause out come fit sent in
    ap (λ (o : Option Which). elim o [ None ↦ Ok (after (rules_among p faulty rule) t (event_of cause)) | Some f ↦ Err f ]) (fault_is p faulty rule t (event_of cause) (logged_by t.pool cause) out next ∙ none)
    ∙ ap (λ (x : Sight). Ok x) (next ∙ sym moved)

pub event_limit : (p : Params) (faulty : List Seat) (rule : Seat → History → Out) (t : Sight) (cause : Cause) (out : Out) (which : Which) → CanCome t.pool cause → IsTrue (is_correct p faulty (logged_by t.pool cause).seat)
    → out ≡ rule (logged_by t.pool cause).seat ((logged_by t.pool cause).input ∷ history (logged_by t.pool cause).seat t.log) → over_of t (logged_by t.pool cause).seat out ≡ Some which
    → happens (silent_among p faulty rule) t (event_of cause) ≡ Err which
event_limit p faulty rule t cause out which come fit sent some =
    let next = after_is p faulty rule t cause out come fit sent in
    ap (λ (o : Option Which). elim o [ None ↦ Ok (after (rules_among p faulty rule) t (event_of cause)) | Some f ↦ Err f ]) (fault_is p faulty rule t (event_of cause) (logged_by t.pool cause) out next ∙ some)

-- ---- deliveries

delivers_nothing : (p : Params) (faulty : List Seat) (rule : Seat → History → Out) (t : Sight) (k : ℕ) (o : Option (Sent (List ℕ))) → can_deliver p faulty o ≡ false → delivers (rules_among p faulty rule) t k o ≡ t
delivers_nothing p faulty rule t k None nothing = refl
delivers_nothing p faulty rule t k (Some s) nothing = ap (λ (b : Bool). cond b (takes (rules_among p faulty rule) t (delivery k (Some s))) t) nothing

-- where there is nothing to deliver, nothing changes
pub nothing_happens : (p : Params) (faulty : List Seat) (rule : Seat → History → Out) (t : Sight) (k : ℕ) → can_deliver p faulty (slice_get t.pool k) ≡ false → happens (silent_among p faulty rule) t (Delivers k) ≡ Ok t
nothing_happens p faulty rule t k nothing =
    let same = delivers_nothing p faulty rule t k (slice_get t.pool k) nothing in
    let none : fault_at (silent_among p faulty rule) t (Delivers k) ≡ None =
    ap (λ (next : Sight). first_fault over t.pool (appended t.pool next.pool)) same ∙ ap (first_fault over t.pool) (appended_none t.pool) in
    ap (λ (o : Option Which). elim o [ None ↦ Ok (after (rules_among p faulty rule) t (Delivers k)) | Some f ↦ Err f ]) none ∙ ap (λ (x : Sight). Ok x) same

-- where there is something, it can come
pub can_come : (p : Params) (faulty : List Seat) (frames : Frames) (k : ℕ) → can_deliver p faulty (slice_get frames k) ≡ true → (k < length frames) × IsTrue (is_correct p faulty (delivery k (slice_get frames k)).seat)
can_come p faulty frames k can =
    elim ((slice_get_cases frames k).1) [
      | inl some ↦ (some.1, fit (slice_get frames k) can)
      | inr past ↦ absurd (let nothing : ◌≡◌ {A = Bool} false true = ap (can_deliver p faulty) (sym past.1) ∙ can in cc)
    ]
  where
    fit : (o : Option (Sent (List ℕ))) → can_deliver p faulty o ≡ true → IsTrue (is_correct p faulty (delivery k o).seat)
    fit None can = absurd (let wrong : ◌≡◌ {A = Bool} false true = can in cc)
    fit (Some s) can = can

-- what is logged of a frame as it is lent
pub frame_there : (pool lent : Frames) (k : ℕ) (cause : Cause) (s : Sent (List ℕ)) (bytes : List ℕ) → k < length pool → cause ≡ causes.Frame k → lent ≡ pool → s ≡ get_or lent k s → bytes ≡ s.message
    → ◌≡◌ {A = Logged (List ℕ) Op} (logged_by pool cause) (record { seat = s.to; input = Heard s.from bytes; frame = Some k })
frame_there pool lent k cause s bytes below is same read message =
    let found : slice_get pool k ≡ Some s = slice_get_read pool _ k s refl below (read ∙ ap (λ (f : Frames). get_or f k s) same) in
    ap (logged_by pool) is ∙ ap (delivery k) found ∙ ap (λ (m : List ℕ). record { seat = s.to; input = Heard s.from m; frame = Some k }) (sym message)
