-- The isolation of the store, folded over a list of entries.
use Rattle.std.proofs.Common.{◌≡◌, ℕ, true, false, List, [], ◌∷◌, Some, None, refl, ap, subst, ◌∙◌}
use Rattle.std.specs.Prelude.{Option, fold, nat_eq, nat_lt, slice_index_or, slice_set, if◌then◌else◌}
use Rattle.fw_op.specs.declared.op.Op.{Op}
use Rattle.fw_op.specs.declared.reply.Reply.{Reply}
use Rattle.fw_op.specs.declared.reply.Reply.TheVariants.{Old, Bad}
use Rattle.fw_op.specs.declared.start.Start.{Start}
use Rattle.fw_store.specs.Store.{are_ordered, are_distinct, with_added, added, ordered, visible}
use Rattle.fw_store.proofs.Isolated.{Alike, alike, unchanged, keeps_order}
use Rattle.fw_store.proofs.Built.{IsBuilding, building-added, are_fresh-none}
use Rattle.fw_ref.specs.declared.replica.Last.{Last}
use Rattle.fw_ref.specs.Reference.{Reference, Opened, Replied, unasked, at_start, answered, renewed, replied, executed, step, answers}
use Rattle.fw_law_ref.specs.Sight.{AreAlike, ShowTheSame, AskerSeesTheSame, AskersSeeTheSame, SameSight, SameStart}

-- two outcomes of what two references did
record SameOutcome (m other : Reference) (one two : Reply × Reference) : Type 0 where
  reply : one.0 ≡ two.0
  alike : AreAlike one.1 two.1
  shown : (client : ℕ) → ShowTheSame m other client → ShowTheSame one.1 two.1 client

-- ---- one entry

answered-alike : (client : ℕ) (op : Option Op) (rs others : List Start) → are_ordered rs ≡ true → are_ordered others ≡ true → visible client rs ≡ visible client others → Alike rs others (answered client op rs) (answered client op others)
answered-alike client None rs others order order' view = unchanged rs others Bad Bad refl
answered-alike client (Some op) rs others order order' view = alike client op rs others order order' view

answered-ordered : (client : ℕ) (op : Option Op) (rs : List Start) → are_ordered rs ≡ true → are_ordered (answered client op rs).1 ≡ true
answered-ordered client None rs order = order
answered-ordered client (Some op) rs order = keeps_order client op rs order

abbrev renewed_last : Opened → Reply → List Last → List Last
renewed_last o reply last = slice_set last o.client (record { stamp = o.stamp; reply = reply })

renewed-alike : (o : Opened) (m other : Reference) → AreAlike m other → ShowTheSame m other o.client → SameOutcome m other (renewed o (answered o.client o.op m.records) m) (renewed o (answered o.client o.op other.records) other)
renewed-alike o m other same view =
    let done = answered-alike o.client o.op m.records other.records same.order same.order_too view in
    record {
      reply = done.replied;
      alike = record {
        last = ap (λ (reply : Reply). renewed_last o reply m.last) done.replied
            ∙ ap (renewed_last o (answered o.client o.op other.records).0) same.last;
        order = answered-ordered o.client o.op m.records same.order;
        order_too = answered-ordered o.client o.op other.records same.order_too;
      };
      shown = done.shows;
    }

same_reply : (m other : Reference) (reply : Reply) → AreAlike m other → SameOutcome m other (reply, m) (reply, other)
same_reply m other reply same = record { reply = refl; alike = same; shown = λ client view. view }

replied-alike : (o : Opened) (last : Last) (m other : Reference) → AreAlike m other → ShowTheSame m other o.client → SameOutcome m other (replied o last m) (replied o last other)
replied-alike o last m other same view =
    let new = renewed o (answered o.client o.op m.records) m in
    let new_too = renewed o (answered o.client o.op other.records) other in
    elim (nat_lt o.stamp last.stamp) as (λ t. SameOutcome m other (if t then (Old, m) else (if nat_eq o.stamp last.stamp then (last.reply, m) else new)) (if t then (Old, other) else (if nat_eq o.stamp last.stamp then (last.reply, other) else new_too))) [
      | true ↦ same_reply m other Old same
      | false ↦ elim (nat_eq o.stamp last.stamp) as (λ t. SameOutcome m other (if t then (last.reply, m) else new) (if t then (last.reply, other) else new_too)) [
        | true ↦ same_reply m other last.reply same
        | false ↦ renewed-alike o m other same view
      ]
    ]

executed-alike : (o : Opened) (m other : Reference) → AreAlike m other → ShowTheSame m other o.client → SameOutcome m other (executed m o) (executed other o)
executed-alike o m other same view =
    let last : slice_index_or m.last o.client unasked ≡ slice_index_or other.last o.client unasked = ap (λ (all : List Last). slice_index_or all o.client unasked) same.last in
    subst (λ (l : Last). SameOutcome m other (executed m o) (replied o l other)) last
    (replied-alike o (slice_index_or m.last o.client unasked) m other same view)

record SameStep (m other : Reference) (one two : Replied × Reference) : Type 0 where
  answer : one.0 ≡ two.0
  alike : AreAlike one.1 two.1
  shown : (client : ℕ) → ShowTheSame m other client → ShowTheSame one.1 two.1 client

step-alike : (m other : Reference) (e : Option Opened) → AreAlike m other → AskerSeesTheSame m other e → SameStep m other (step m e) (step other e)
step-alike m other None same view = record { answer = refl; alike = same; shown = λ client v. v }
step-alike m other (Some o) same view =
    let done = executed-alike o m other same view in
    let told : Reply → Replied = λ reply. record { client = o.client; stamp = o.stamp; reply = reply } in
    record { answer = ap told done.reply; alike = done.alike; shown = done.shown }

-- ---- a list

asker-later : (m other next next_too : Reference) → ((client : ℕ) → ShowTheSame m other client → ShowTheSame next next_too client) → (e : Option Opened) → AskerSeesTheSame m other e → AskerSeesTheSame next next_too e
asker-later m other next next_too shown None view = view
asker-later m other next next_too shown (Some o) view = shown o.client view

askers-later : (m other next next_too : Reference) → ((client : ℕ) → ShowTheSame m other client → ShowTheSame next next_too client) → (entries : List (Option Opened)) → AskersSeeTheSame m other entries → AskersSeeTheSame next next_too entries
askers-later m other next next_too shown [] views = views
askers-later m other next next_too shown (e ∷ entries) views =
    (asker-later m other next next_too shown e views.0, askers-later m other next next_too shown entries views.1)

pub same_sight : SameSight
same_sight m other [] same views = record { answers = refl; alike = same; shown = λ client view. view }
same_sight m other (e ∷ entries) same views =
    let now = step-alike m other e same views.0 in
    let later = same_sight (step m e).1 (step other e).1 entries now.alike (askers-later m other (step m e).1 (step other e).1 now.shown entries views.1) in
    record {
      answers = ap (λ (a : Replied). a ∷ answers (step m e).1 entries) now.answer ∙ ap (λ (all : List Replied). (step other e).0 ∷ all) later.answers;
      alike = later.alike;
      shown = λ client view. later.shown client (now.shown client view);
    }

-- ---- the start

built-ordered : (rs starts : List Start) → IsBuilding rs starts → are_ordered (fold with_added rs starts) ≡ true
built-ordered rs [] building = building.order
built-ordered rs (s ∷ starts) building = built-ordered (added s rs) starts (building-added s rs starts building)

start-ordered : (starts : List Start) → are_distinct starts ≡ true → are_ordered (ordered starts) ≡ true
start-ordered starts distinct = built-ordered [] starts (record { order = refl; fresh = are_fresh-none starts; distinct = distinct })

pub same_start : SameStart
same_start starts others entries distinct distinct_too views =
    same_sight (at_start starts) (at_start others) entries
    (record { last = refl; order = start-ordered starts distinct; order_too = start-ordered others distinct_too }) views
