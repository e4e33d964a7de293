-- The last stamps, folded over a list of entries.
use Rattle.std.proofs.Common.{◌≡◌, ◌≢◌, inl, inr, ℕ, ◌<◌, ◌≤◌, max, true, false, List, [], ◌∷◌, length, Some, None, refl, sym, ap, subst, ◌∙◌, arith}
use Rattle.std.specs.Prelude.{Option, nat_eq, nat_lt, if◌then◌else◌}
use Rattle.std.proofs.lemmas.Bool.{cases_lt, ltb-false, eqb-true, eqb-false, le-ltb, eq-eqb, ne_eqb}
use Rattle.std.proofs.lemmas.List.{get_or-set_same, get_or-set_other, length-set, get_or-replicate}
use Rattle.fw_op.specs.declared.op.Op.{Op}
use Rattle.fw_op.specs.declared.reply.Reply.{Reply}
use Rattle.fw_op.specs.declared.reply.Reply.TheVariants.{Old}
use Rattle.fw_op.specs.declared.start.Start.{Start}
use Rattle.fw_ref.specs.declared.replica.Last.{Last}
use Rattle.fw_ref.specs.Reference.{Reference, Opened, unasked, at_start, answered, renewed, replied, executed, step, folded}
use Rattle.fw_law_ref.specs.Stamps.{stamp_in, greatest, last_of, after, LastIsGreatest, OldChangesNothing, NewIsAnswered, UnopenedKeepsRecords, OthersAreKept}

-- ---- one request, by the last stamp of its client

abbrev new_of : Opened → Reference → Reply × Reference
new_of o m = renewed o (answered o.client o.op m.records) m

replied-old : (o : Opened) (last : Last) (m : Reference) → o.stamp ≤ last.stamp → (replied o last m).1 ≡ m
replied-old o last m old =
    elim (nat_lt o.stamp last.stamp) as (λ t. nat_lt o.stamp last.stamp ≡ t → (if t then (Old, m) else (if nat_eq o.stamp last.stamp then (last.reply, m) else new_of o m)).1 ≡ m) [
      | true ↦ λ e. refl
      | false ↦ λ e. rw (eq-eqb o.stamp last.stamp (let above = ltb-false o.stamp last.stamp e in omega arith)) refl
    ] refl

replied-new : (o : Opened) (last : Last) (m : Reference) → last.stamp < o.stamp → replied o last m ≡ new_of o m
replied-new o last m new =
    let above : nat_lt o.stamp last.stamp ≡ false = le-ltb o.stamp last.stamp (omega arith) in
    let apart : nat_eq o.stamp last.stamp ≡ false = ne_eqb o.stamp last.stamp (λ e. omega arith) in
    rw (above, apart) refl

-- ---- what a request keeps

-- of another client
new-other : (o : Opened) (m : Reference) (client : ℕ) → o.client ≢ client → last_of (new_of o m).1 client ≡ last_of m client
new-other o m client differ =
    get_or-set_other m.last o.client client (record { stamp = o.stamp; reply = (answered o.client o.op m.records).0 }) unasked (λ e. differ (sym e))

pub others_are_kept : OthersAreKept
others_are_kept m o client differ =
    let last = last_of m o.client in
    elim (cases_lt last.stamp o.stamp) as (λ _. last_of (executed m o).1 client ≡ last_of m client) [
      | inl new ↦ ap (λ (done : Reply × Reference). last_of done.1 client) (replied-new o last m new) ∙ new-other o m client differ
      | inr old ↦ ap (λ (n : Reference). last_of n client) (replied-old o last m old)
    ]

-- of its own client
new-own : (o : Opened) (m : Reference) → o.client < length m.last → (last_of (new_of o m).1 o.client).stamp ≡ o.stamp
new-own o m inside =
    ap (λ (l : Last). l.stamp) (get_or-set_same m.last o.client (record { stamp = o.stamp; reply = (answered o.client o.op m.records).0 }) unasked inside)

own_stamp : (o : Opened) (m : Reference) → o.client < length m.last → (last_of (executed m o).1 o.client).stamp ≡ max (last_of m o.client).stamp o.stamp
own_stamp o m inside =
    let last = last_of m o.client in
    elim (cases_lt last.stamp o.stamp) as (λ _. (last_of (executed m o).1 o.client).stamp ≡ max (last_of m o.client).stamp o.stamp) [
      | inl new ↦ ap (λ (done : Reply × Reference). (last_of done.1 o.client).stamp) (replied-new o last m new) ∙ new-own o m inside ∙ (let greater : o.stamp ≡ max last.stamp o.stamp = omega arith in greater)
      | inr old ↦ ap (λ (n : Reference). (last_of n o.client).stamp) (replied-old o last m old) ∙ (let greater : last.stamp ≡ max last.stamp o.stamp = omega arith in greater)
    ]

-- as many clients
executed-clients : (o : Opened) (m : Reference) → length (executed m o).1.last ≡ length m.last
executed-clients o m =
    let last = last_of m o.client in
    elim (cases_lt last.stamp o.stamp) as (λ _. length (executed m o).1.last ≡ length m.last) [
      | inl new ↦ ap (λ (done : Reply × Reference). length done.1.last) (replied-new o last m new) ∙ length-set m.last o.client (record { stamp = o.stamp; reply = (answered o.client o.op m.records).0 })
      | inr old ↦ ap (λ (n : Reference). length n.last) (replied-old o last m old)
    ]

-- ---- a list

step-clients : (m : Reference) (e : Option Opened) → length (step m e).1.last ≡ length m.last
step-clients m None = refl
step-clients m (Some o) = executed-clients o m

request_stamp : (m : Reference) (o : Opened) (client : ℕ) → client < length m.last → (last_of (executed m o).1 client).stamp ≡ max (last_of m client).stamp (if nat_eq o.client client then o.stamp else 0)
request_stamp m o client inside =
    elim (nat_eq o.client client) as (λ t. nat_eq o.client client ≡ t → (last_of (executed m o).1 client).stamp ≡ max (last_of m client).stamp (if t then o.stamp else 0)) [
      | true ↦ λ e.
          let same : o.client ≡ client = eqb-true o.client client e in
          subst (λ (c : ℕ). c < length m.last → (last_of (executed m o).1 c).stamp ≡ max (last_of m c).stamp o.stamp) same (own_stamp o m) inside
      | false ↦ λ e. ap (λ (l : Last). l.stamp) (others_are_kept m o client (eqb-false o.client client e)) ∙ (let greater : (last_of m client).stamp ≡ max (last_of m client).stamp 0 = omega arith in greater)
    ] refl

step_stamp : (m : Reference) (e : Option Opened) (client : ℕ) → client < length m.last → (last_of (step m e).1 client).stamp ≡ max (last_of m client).stamp (stamp_in client e)
step_stamp m None client inside = omega arith
step_stamp m (Some o) client inside = request_stamp m o client inside

max_groups : (a b c : ℕ) → max (max a b) c ≡ max a (max b c)
max_groups a b c = omega arith

-- from any reference
pub greatest_so_far : (m : Reference) (entries : List (Option Opened)) (client : ℕ) → client < length m.last → (last_of (folded m entries) client).stamp ≡ max (last_of m client).stamp (greatest client entries)
greatest_so_far m [] client inside = omega arith
greatest_so_far m (e ∷ entries) client inside =
    greatest_so_far (step m e).1 entries client (omega (arith, step-clients m e))
    ∙ ap (λ (s : ℕ). max s (greatest client entries)) (step_stamp m e client inside)
    ∙ max_groups (last_of m client).stamp (stamp_in client e) (greatest client entries)

pub last_is_greatest : LastIsGreatest
last_is_greatest starts entries client low =
    let none : (last_of (at_start starts) client).stamp ≡ 0 = ap (λ (l : Last). l.stamp) (get_or-replicate 8 client unasked unasked low) in
    greatest_so_far (at_start starts) entries client low ∙ ap (λ (s : ℕ). max s (greatest client entries)) none ∙ (let greater : max 0 (greatest client entries) ≡ greatest client entries = omega arith in greater)

pub old_changes_nothing : OldChangesNothing
old_changes_nothing starts before o low old =
    let m = after starts before in
    replied-old o (last_of m o.client) m (omega (arith, last_is_greatest starts before o.client low))

pub new_is_answered : NewIsAnswered
new_is_answered starts before o low new =
    let m = after starts before in
    replied-new o (last_of m o.client) m (omega (arith, last_is_greatest starts before o.client low))

-- ---- a body that doesn't open

answered-unopened : (client : ℕ) (op : Option Op) (rs : List Start) → op ≡ None → (answered client op rs).1 ≡ rs
answered-unopened client None rs e = refl
answered-unopened client (Some op) rs e = cc

pub unopened_keeps_records : UnopenedKeepsRecords
unopened_keeps_records m o unopened =
    let last = last_of m o.client in
    elim (cases_lt last.stamp o.stamp) as (λ _. (executed m o).1.records ≡ m.records) [
      | inl new ↦ ap (λ (done : Reply × Reference). done.1.records) (replied-new o last m new) ∙ answered-unopened o.client o.op m.records unopened
      | inr old ↦ ap (λ (n : Reference). n.records) (replied-old o last m old)
    ]
