-- The isolation of clients: replies and views follow from views.
use Rattle.std.proofs.Common.{◌≡◌, ◌≢◌, ◌⊎◌, inl, inr, ℕ, Bool, true, false, List, length, map, take, Some, None, refl, sym, ap, subst, ◌∙◌}
use Rattle.std.specs.Prelude.{Option, if◌then◌else◌, bytes_eq, Result, Ok, Err, IfOk, OnOk, OnErr}
use Rattle.fw_list.specs.declared.memory.Memory.{Memory}
use Rattle.std.proofs.lemmas.Bool.{cases_eq}
use Rattle.fw_op.specs.declared.op.Op.{Op}
use Rattle.fw_op.specs.declared.op.Op.TheVariants.{Put, Get, Del, Cas, Grant, Revoke, Count, Keys}
use Rattle.fw_op.specs.declared.reply.Name.{Name}
use Rattle.fw_op.specs.declared.reply.Reply.{Reply}
use Rattle.fw_op.specs.declared.reply.Reply.TheVariants as replies
use Rattle.fw_op.specs.declared.start.Start.{Start}
use Rattle.fw_store.specs.Store.{name_of, is_named, is_other, are_ordered, added, changed, changed_at, changed_if, without, record_of, shown_to, visible, value_seen, with_value, with_reader, without_reader, unread, own, swapped, applied, most_names}
use Rattle.fw_store.specs.Wants.{wants, may_want}
use Rattle.fw_store.specs.Laws.{IsIsolated, IsWantedAlike, Isolation, KeepsOrder}
use Rattle.fw_store.proofs.Order.{ordered-filter, ordered-map, ordered-added}
use Rattle.fw_store.proofs.Found.{others-none}
use Rattle.fw_store.proofs.Seen.{told}
use Rattle.fw_store.proofs.Views

-- two outcomes with one reply, of stores that showed each client's view alike: each view is shown alike after them
pub record Alike (before before' : List Start) (one other : Reply × List Start) : Type 0 where
  pub replied : one.0 ≡ other.0
  pub shows : (y : ℕ) → visible y before ≡ visible y before' → visible y one.1 ≡ visible y other.1

-- the same outcome for a store and a store like it
pub unchanged : (rs others : List Start) (reply reply' : Reply) → reply ≡ reply' → Alike rs others (reply, rs) (reply', others)
unchanged rs others reply reply' same = record { replied = same; shows = λ y view. view }

alike-own_one : (rs others : List Start) (o : Option Start) (a d b e : Reply × List Start) → Alike rs others a b → ((r : Start) → o ≡ Some r → Alike rs others d e) → Alike rs others (own o a d) (own o b e)
alike-own_one rs others None a d b e absent present = absent
alike-own_one rs others (Some r) a d b e absent present = present r refl

alike-own : (rs others : List Start) (o p : Option Start) (a d b e : Reply × List Start) → o ≡ p → Alike rs others a b → ((r : Start) → o ≡ Some r → Alike rs others d e) → Alike rs others (own o a d) (own p b e)
alike-own rs others o p a d b e same absent present =
    subst (λ (q : Option Start). Alike rs others (own o a d) (own q b e)) same (alike-own_one rs others o a d b e absent present)

alike-swapped_one : (rs others : List Start) (o : Option Start) (old : List ℕ) (a d c b e f : Reply × List Start) → Alike rs others a b → Alike rs others d e → Alike rs others c f → Alike rs others (swapped o old a d c) (swapped o old b e f)
alike-swapped_one rs others None old a d c b e f absent differs done = absent
alike-swapped_one rs others (Some r) old a d c b e f absent differs done =
    elim (bytes_eq r.value old) as (λ t. Alike rs others (if t then c else d) (if t then f else e)) [ true ↦ done | false ↦ differs ]

alike-swapped : (rs others : List Start) (o p : Option Start) (old : List ℕ) (a d c b e f : Reply × List Start) → o ≡ p → Alike rs others a b → Alike rs others d e → Alike rs others c f → Alike rs others (swapped o old a d c) (swapped p old b e f)
alike-swapped rs others o p old a d c b e f same absent differs done =
    subst (λ (q : Option Start). Alike rs others (swapped o old a d c) (swapped q old b e f)) same (alike-swapped_one rs others o old a d c b e f absent differs done)

-- the owner's record is the same where the owner's view is
record-same : (n : Name) (rs others : List Start) → visible n.owner rs ≡ visible n.owner others → record_of n rs ≡ record_of n others
record-same n rs others view = sym (Views.visible-record n rs) ∙ ap (record_of n) view ∙ Views.visible-record n others

value-alike : (value : List ℕ) (n : Name) (rs others : List Start) → Alike rs others (replies.Done, changed (with_value value) n rs) (replies.Done, changed (with_value value) n others)
value-alike value n rs others = record {
  replied = refl;
  shows = λ y view. Views.visible-value y value n rs ∙ ap (changed (with_value value) n) view ∙ sym (Views.visible-value y value n others);
}

without-alike : (n : Name) (rs others : List Start) → Alike rs others (replies.Done, without n rs) (replies.Done, without n others)
without-alike n rs others = record {
  replied = refl;
  shows = λ y view. Views.visible-without y n rs ∙ ap (without n) view ∙ sym (Views.visible-without y n others);
}

added-shows : (value : List ℕ) (n : Name) (rs others : List Start) → are_ordered rs ≡ true → are_ordered others ≡ true → (y : ℕ) → (n.owner ≡ y) ⊎ (n.owner ≢ y) → visible y rs ≡ visible y others → visible y (added (unread n value) rs) ≡ visible y (added (unread n value) others)
added-shows value n rs others order order' y (inl same) view =
    subst (λ (z : ℕ). visible z rs ≡ visible z others → visible z (added (unread n value) rs) ≡ visible z (added (unread n value) others)) same
    (λ v. Views.visible-added_own n value rs order ∙ ap (added (unread n value)) v ∙ sym (Views.visible-added_own n value others order')) view
added-shows value n rs others order order' y (inr differ) view =
    Views.visible-added_other y n value rs differ ∙ view ∙ sym (Views.visible-added_other y n value others differ)

readers_own-shows : (k : List ℕ → List ℕ) (n : Name) (rs others : List Start) (y : ℕ) → n.owner ≡ y → visible y rs ≡ visible y others → visible y (changed (Views.with_readers k) n rs) ≡ visible y (changed (Views.with_readers k) n others)
readers_own-shows k n rs others y same view =
    subst (λ (z : ℕ). visible z rs ≡ visible z others → visible z (changed (Views.with_readers k) n rs) ≡ visible z (changed (Views.with_readers k) n others)) same
    (λ v. Views.visible-readers_own k n rs ∙ ap (changed (Views.with_readers k) n) v ∙ sym (Views.visible-readers_own k n others)) view

grant-shows : (client : ℕ) (n : Name) (rs others : List Start) → are_ordered rs ≡ true → are_ordered others ≡ true → (r : Start) → record_of n rs ≡ Some r → record_of n others ≡ Some r → (y : ℕ) → (n.owner ≡ y) ⊎ (n.owner ≢ y) → (y ≡ client) ⊎ (y ≢ client) → visible y rs ≡ visible y others → visible y (changed (with_reader client) n rs) ≡ visible y (changed (with_reader client) n others)
grant-shows client n rs others order order' r found found' y (inl same) which view = readers_own-shows (Views.joined client) n rs others y same view
grant-shows client n rs others order order' r found found' y (inr differ) (inr apart) view =
    let same = Views.joined-other y client apart in
    Views.visible-readers_other y (Views.joined client) n rs differ same ∙ view ∙ sym (Views.visible-readers_other y (Views.joined client) n others differ same)
grant-shows client n rs others order order' r found found' y (inr differ) (inl here) view =
    subst (λ (c : ℕ). visible y (changed (with_reader c) n rs) ≡ visible y (changed (with_reader c) n others)) here
    (Views.visible-readers_come y (Views.joined y) n rs differ (Views.joined-same y) order r found
    ∙ ap (λ (zs : List Start). added (shown_to y r) (without n zs)) view
    ∙ sym (Views.visible-readers_come y (Views.joined y) n others differ (Views.joined-same y) order' r found'))

revoke-shows : (client : ℕ) (n : Name) (rs others : List Start) (y : ℕ) → (n.owner ≡ y) ⊎ (n.owner ≢ y) → (y ≡ client) ⊎ (y ≢ client) → visible y rs ≡ visible y others → visible y (changed (without_reader client) n rs) ≡ visible y (changed (without_reader client) n others)
revoke-shows client n rs others y (inl same) which view = readers_own-shows (Views.parted client) n rs others y same view
revoke-shows client n rs others y (inr differ) (inr apart) view =
    let same = Views.parted-other y client apart in
    Views.visible-readers_other y (Views.parted client) n rs differ same ∙ view ∙ sym (Views.visible-readers_other y (Views.parted client) n others differ same)
revoke-shows client n rs others y (inr differ) (inl here) view =
    subst (λ (c : ℕ). visible y (changed (without_reader c) n rs) ≡ visible y (changed (without_reader c) n others)) here
    (Views.visible-readers_gone y (Views.parted y) n rs differ (Views.parted-same y)
    ∙ ap (without n) view ∙ sym (Views.visible-readers_gone y (Views.parted y) n others differ (Views.parted-same y)))

pub alike : (x : ℕ) (op : Op) (rs others : List Start) → are_ordered rs ≡ true → are_ordered others ≡ true → visible x rs ≡ visible x others → Alike rs others (applied x op rs) (applied x op others)
alike x (Put key value) rs others order order' view =
    let n : Name = record { owner = x; key = key } in
    alike-own rs others (record_of n rs) (record_of n others) (replies.Done, added (unread n value) rs) (replies.Done, changed (with_value value) n rs) (replies.Done, added (unread n value) others) (replies.Done, changed (with_value value) n others)
    (record-same n rs others view)
    (record { replied = refl; shows = λ y v. added-shows value n rs others order order' y (cases_eq x y) v })
    (λ r found. value-alike value n rs others)
alike x (Get owner key) rs others order order' view =
    let n : Name = record { owner = owner; key = key } in
    unchanged rs others (value_seen x (record_of n rs)) (value_seen x (record_of n others))
    (Views.visible-told x n rs order ∙ ap (λ (zs : List Start). told (record_of n zs)) view ∙ sym (Views.visible-told x n others order'))
alike x (Del key) rs others order order' view =
    let n : Name = record { owner = x; key = key } in
    alike-own rs others (record_of n rs) (record_of n others) (replies.Absent, rs) (replies.Done, without n rs) (replies.Absent, others) (replies.Done, without n others)
    (record-same n rs others view) (unchanged rs others replies.Absent replies.Absent refl) (λ r found. without-alike n rs others)
alike x (Cas key old new) rs others order order' view =
    let n : Name = record { owner = x; key = key } in
    alike-swapped rs others (record_of n rs) (record_of n others) old (replies.Absent, rs) (replies.Differs, rs) (replies.Done, changed (with_value new) n rs) (replies.Absent, others) (replies.Differs, others) (replies.Done, changed (with_value new) n others)
    (record-same n rs others view) (unchanged rs others replies.Absent replies.Absent refl) (unchanged rs others replies.Differs replies.Differs refl) (value-alike new n rs others)
alike x (Grant key client) rs others order order' view =
    let n : Name = record { owner = x; key = key } in
    let same = record-same n rs others view in
    alike-own rs others (record_of n rs) (record_of n others) (replies.Absent, rs) (replies.Done, changed (with_reader client) n rs) (replies.Absent, others) (replies.Done, changed (with_reader client) n others)
    same (unchanged rs others replies.Absent replies.Absent refl)
    (λ r found. record { replied = refl; shows = λ y v. grant-shows client n rs others order order' r found (sym same ∙ found) y (cases_eq x y) (cases_eq y client) v })
alike x (Revoke key client) rs others order order' view =
    let n : Name = record { owner = x; key = key } in
    alike-own rs others (record_of n rs) (record_of n others) (replies.Absent, rs) (replies.Done, changed (without_reader client) n rs) (replies.Absent, others) (replies.Done, changed (without_reader client) n others)
    (record-same n rs others view) (unchanged rs others replies.Absent replies.Absent refl)
    (λ r found. record { replied = refl; shows = λ y v. revoke-shows client n rs others y (cases_eq x y) (cases_eq y client) v })
alike x Count rs others order order' view =
    unchanged rs others (replies.Count (length (visible x rs))) (replies.Count (length (visible x others))) (ap (λ (zs : List Start). replies.Count (length zs)) view)
alike x Keys rs others order order' view =
    unchanged rs others (replies.Keys (take most_names (map name_of (visible x rs)))) (replies.Keys (take most_names (map name_of (visible x others)))) (ap (λ (zs : List Start). replies.Keys (take most_names (map name_of zs))) view)

-- the isolation law
pub isolation : Isolation
isolation x op rs order other order' view =
    let same = alike x op rs other order order' view in
    record { told = same.replied; wanted = ap (wants op) same.replied; shown = same.shows }

-- the order is kept
ordered-own : (o : Option Start) (a d : Reply × List Start) → (o ≡ None → are_ordered a.1 ≡ true) → are_ordered d.1 ≡ true → are_ordered (own o a d).1 ≡ true
ordered-own None a d absent present = absent refl
ordered-own (Some r) a d absent present = present

ordered-swapped : (o : Option Start) (old : List ℕ) (a d c : Reply × List Start) → are_ordered a.1 ≡ true → are_ordered d.1 ≡ true → are_ordered c.1 ≡ true → are_ordered (swapped o old a d c).1 ≡ true
ordered-swapped None old a d c absent differs done = absent
ordered-swapped (Some r) old a d c absent differs done =
    elim (bytes_eq r.value old) as (λ t. are_ordered (if t then c else d).1 ≡ true) [ true ↦ done | false ↦ differs ]

name-changed : (how : Start → Start) → ((r : Start) → name_of (how r) ≡ name_of r) → (t : Bool) (r : Start) → name_of (changed_if how t r) ≡ name_of r
name-changed how same true r = same r
name-changed how same false r = refl

ordered-changed : (how : Start → Start) → ((r : Start) → name_of (how r) ≡ name_of r) → (n : Name) (rs : List Start) → are_ordered rs ≡ true → are_ordered (changed how n rs) ≡ true
ordered-changed how same n rs order = ordered-map (changed_at how n) (λ r. name-changed how same (is_named n r) r) rs ∙ order

pub keeps_order : KeepsOrder
keeps_order x (Put key value) rs order =
    let n : Name = record { owner = x; key = key } in
    ordered-own (record_of n rs) (replies.Done, added (unread n value) rs) (replies.Done, changed (with_value value) n rs)
    (λ none. ordered-added (unread n value) rs order (others-none (is_named n) rs none)) (ordered-changed (with_value value) (λ r. refl) n rs order)
keeps_order x (Get owner key) rs order = order
keeps_order x (Del key) rs order =
    let n : Name = record { owner = x; key = key } in
    ordered-own (record_of n rs) (replies.Absent, rs) (replies.Done, without n rs) (λ none. order) (ordered-filter (is_other n) rs order)
keeps_order x (Cas key old new) rs order =
    let n : Name = record { owner = x; key = key } in
    ordered-swapped (record_of n rs) old (replies.Absent, rs) (replies.Differs, rs) (replies.Done, changed (with_value new) n rs) order order (ordered-changed (with_value new) (λ r. refl) n rs order)
keeps_order x (Grant key client) rs order =
    let n : Name = record { owner = x; key = key } in
    ordered-own (record_of n rs) (replies.Absent, rs) (replies.Done, changed (with_reader client) n rs) (λ none. order) (ordered-changed (with_reader client) (λ r. refl) n rs order)
keeps_order x (Revoke key client) rs order =
    let n : Name = record { owner = x; key = key } in
    ordered-own (record_of n rs) (replies.Absent, rs) (replies.Done, changed (without_reader client) n rs) (λ none. order) (ordered-changed (without_reader client) (λ r. refl) n rs order)
keeps_order x Count rs order = order
keeps_order x Keys rs order = order

-- after want of memory the records are as before
pub ordered-after : (result : Result Reply Memory) (x : ℕ) (op : Op) (rs after : List Start) → are_ordered rs ≡ true → OnOk result (after ≡ (applied x op rs).1) → OnErr result (after ≡ rs) → are_ordered after ≡ true
ordered-after (Ok reply) x op rs after order ok err = ap are_ordered ok ∙ keeps_order x op rs order
ordered-after (Err e) x op rs after order ok err = ap are_ordered err ∙ order

pub isolated-after : (result : Result Reply Memory) (x : ℕ) (op : Op) (rs after : List Start) → are_ordered rs ≡ true → IfOk result (λ reply. reply ≡ (applied x op rs).0) → OnOk result (after ≡ (applied x op rs).1) → IfOk result (λ reply. IsIsolated x op rs reply after)
isolated-after (Ok reply) x op rs after order told ok =
    subst (λ (told : Reply). IsIsolated x op rs told after) (sym told)
    (subst (λ (left : List Start). IsIsolated x op rs (applied x op rs).0 left) (sym ok) (isolation x op rs order))
isolated-after (Err e) x op rs after order told ok = told

pub wanted-alike : (result : Result Reply Memory) (x : ℕ) (op : Op) (rs : List Start) → are_ordered rs ≡ true → OnErr result (may_want x op rs ≡ true) → OnErr result (IsWantedAlike x op rs)
wanted-alike (Ok reply) x op rs order wanted = wanted
wanted-alike (Err e) x op rs order wanted = λ other order' view. sym (isolation x op rs order other order' view).wanted ∙ wanted
