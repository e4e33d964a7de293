-- What each operation does to the view of each client.
use Rattle.std.proofs.Common.{◌≡◌, ◌≢◌, ℕ, Bool, true, false, not, ◌&&◌, ◌||◌, List, [], ◌∷◌, ◌++◌, Some, refl, sym, ap, ◌∙◌, arith}
use Rattle.std.specs.Prelude.{filter, if◌then◌else◌, nat_eq, nat_lt}
use Rattle.std.specs.List.{list_any}
use Rattle.std.proofs.lemmas.Bool.{ne_eqb, eq-eqb}
use Rattle.std.proofs.lemmas.Bool.Decides.{nat_tests}
use Rattle.std.proofs.lemmas.List.Folds.{list_any-append}
use Rattle.fw_op.specs.declared.reply.Name.{Name}
use Rattle.fw_op.specs.declared.start.Start.{Start}
use Rattle.fw_store.specs.Store.{is_named, is_other, are_ordered, added, changed, changed_at, changed_if, without, record_of, may_see, shown_to, visible, value_seen, with_value, unread}
use Rattle.fw_store.proofs.Names.{named-owner}
use Rattle.fw_store.proofs.Seen.{seen-map, seen-same, seen-filter, seen-hidden, seen-find, seen-added, seen-added_hidden, seen-value, seen-shown, told}

and-none : (b : Bool) → false ≡ (b && false)
and-none true = refl
and-none false = refl

and-all : (b : Bool) → b ≡ (b && true)
and-all true = refl
and-all false = refl

or-all : (b : Bool) → b || true ≡ true
or-all true = refl
or-all false = refl

-- a record whose readers are changed
abbrev pub with_readers : (List ℕ → List ℕ) → Start → Start
with_readers k r = record r { readers = k r.readers }

-- the owner sees its record, as it is
own-sees : (x : ℕ) (r : Start) → r.owner ≡ x → may_see x r ≡ true
own-sees x r e = ap (λ (t : Bool). t || list_any (nat_eq x) r.readers) (eq-eqb r.owner x e)

own-shown : (x : ℕ) (r : Start) → r.owner ≡ x → shown_to x r ≡ r
own-shown x r e = ap (λ (t : Bool). let s : Start = record r { readers = if t then r.readers else [] } in s) (eq-eqb r.owner x e)

pub visible-record : (n : Name) (rs : List Start) → record_of n (visible n.owner rs) ≡ record_of n rs
visible-record n rs =
    seen-find (may_see n.owner) (is_named n) (shown_to n.owner)
    (λ r h. own-sees n.owner r (named-owner n r h)) (λ r h. own-shown n.owner r (named-owner n r h)) (λ r. refl) rs

pub visible-told : (x : ℕ) (n : Name) (rs : List Start) → are_ordered rs ≡ true → value_seen x (record_of n rs) ≡ told (record_of n (visible x rs))
visible-told x n rs order = seen-value (may_see x) (shown_to x) (λ r. refl) (λ r. refl) n rs order

changed-sees : (p : Start → Bool) (how : Start → Start) (r : Start) (t : Bool) → (t ≡ true → p (how r) ≡ p r) → p (changed_if how t r) ≡ p r
changed-sees p how r true same = same refl
changed-sees p how r false same = refl

changed-shows : (g how : Start → Start) (r : Start) (t : Bool) → (t ≡ true → g (how r) ≡ how (g r)) → g (changed_if how t r) ≡ changed_if how t (g r)
changed-shows g how r true same = same refl
changed-shows g how r false same = refl

changed-keeps : (g how : Start → Start) (r : Start) (t : Bool) → (t ≡ true → g (how r) ≡ g r) → g (changed_if how t r) ≡ g r
changed-keeps g how r true same = same refl
changed-keeps g how r false same = refl

-- a new value is shown to all who see the record
pub visible-value : (y : ℕ) (value : List ℕ) (n : Name) (rs : List Start) → visible y (changed (with_value value) n rs) ≡ changed (with_value value) n (visible y rs)
visible-value y value n rs =
    seen-map (may_see y) (shown_to y) (changed_at (with_value value) n)
    (λ r. changed-sees (may_see y) (with_value value) r (is_named n r) (λ _. refl))
    (λ r. changed-shows (shown_to y) (with_value value) r (is_named n r) (λ _. refl)) rs

pub visible-without : (y : ℕ) (n : Name) (rs : List Start) → visible y (without n rs) ≡ without n (visible y rs)
visible-without y n rs = seen-filter (may_see y) (is_other n) (shown_to y) (λ r. refl) rs

-- the owner sees the readers
pub visible-readers_own : (k : List ℕ → List ℕ) (n : Name) (rs : List Start) → visible n.owner (changed (with_readers k) n rs) ≡ changed (with_readers k) n (visible n.owner rs)
visible-readers_own k n rs =
    let x = n.owner in
    seen-map (may_see x) (shown_to x) (changed_at (with_readers k) n)
    (λ r. changed-sees (may_see x) (with_readers k) r (is_named n r) (λ e. own-sees x (with_readers k r) (named-owner n r e) ∙ sym (own-sees x r (named-owner n r e))))
    (λ r. changed-shows (shown_to x) (with_readers k) r (is_named n r) (λ e. own-shown x (with_readers k r) (named-owner n r e) ∙ sym (ap (with_readers k) (own-shown x r (named-owner n r e))))) rs

-- another client sees no readers
other-shown : (y : ℕ) (k : List ℕ → List ℕ) (n : Name) (r : Start) → n.owner ≢ y → is_named n r ≡ true → shown_to y (with_readers k r) ≡ shown_to y r
other-shown y k n r differ e =
    let hidden : nat_eq r.owner y ≡ false = ne_eqb r.owner y (λ same. differ (sym (named-owner n r e) ∙ same)) in
    ap (λ (t : Bool). let s : Start = record r { readers = if t then k r.readers else [] } in s) hidden
    ∙ sym (ap (λ (t : Bool). let s : Start = record r { readers = if t then r.readers else [] } in s) hidden)

pub visible-readers_other : (y : ℕ) (k : List ℕ → List ℕ) (n : Name) (rs : List Start) → n.owner ≢ y → ((xs : List ℕ) → list_any (nat_eq y) (k xs) ≡ list_any (nat_eq y) xs) → visible y (changed (with_readers k) n rs) ≡ visible y rs
visible-readers_other y k n rs differ same =
    seen-same (may_see y) (shown_to y) (changed_at (with_readers k) n)
    (λ r. changed-sees (may_see y) (with_readers k) r (is_named n r) (λ e. ap (λ (t : Bool). nat_eq r.owner y || t) (same r.readers)))
    (λ r. changed-keeps (shown_to y) (with_readers k) r (is_named n r) (other-shown y k n r differ)) rs

-- a reader that is left out sees the record no more
hides : (y : ℕ) (k : List ℕ → List ℕ) (n : Name) (r : Start) (t : Bool) → is_named n r ≡ t → n.owner ≢ y → ((xs : List ℕ) → list_any (nat_eq y) (k xs) ≡ false) → may_see y (changed_if (with_readers k) t r) ≡ (may_see y r && not t)
hides y k n r true e differ gone =
    let hidden : nat_eq r.owner y ≡ false = ne_eqb r.owner y (λ same. differ (sym (named-owner n r e) ∙ same)) in
    let none = gone r.readers in
    rw (hidden, none) (and-none (list_any (nat_eq y) r.readers))
hides y k n r false e differ gone = and-all (may_see y r)

pub visible-readers_gone : (y : ℕ) (k : List ℕ → List ℕ) (n : Name) (rs : List Start) → n.owner ≢ y → ((xs : List ℕ) → list_any (nat_eq y) (k xs) ≡ false) → visible y (changed (with_readers k) n rs) ≡ without n (visible y rs)
visible-readers_gone y k n rs differ gone =
    seen-hidden (may_see y) (is_other n) (shown_to y) (changed_at (with_readers k) n)
    (λ r. hides y k n r (is_named n r) refl differ gone)
    (λ r. changed-keeps (shown_to y) (with_readers k) r (is_named n r) (other-shown y k n r differ)) (λ r. refl) rs

-- a reader that is let in sees the record
pub visible-readers_come : (y : ℕ) (k : List ℕ → List ℕ) (n : Name) (rs : List Start) → n.owner ≢ y → ((xs : List ℕ) → list_any (nat_eq y) (k xs) ≡ true) → are_ordered rs ≡ true → (one : Start) → record_of n rs ≡ Some one → visible y (changed (with_readers k) n rs) ≡ added (shown_to y one) (without n (visible y rs))
visible-readers_come y k n rs differ come order one found =
    seen-shown (may_see y) (shown_to y) (with_readers k) n (λ r. refl)
    (λ r e. ap (λ (t : Bool). nat_eq r.owner y || t) (come r.readers) ∙ or-all (nat_eq r.owner y))
    (λ r e. other-shown y k n r differ e) rs order one found

-- a new record is seen by its owner alone
pub visible-added_own : (n : Name) (value : List ℕ) (rs : List Start) → are_ordered rs ≡ true → visible n.owner (added (unread n value) rs) ≡ added (unread n value) (visible n.owner rs)
visible-added_own n value rs order =
    seen-added (may_see n.owner) (shown_to n.owner) (λ r. refl) (unread n value) (own-sees n.owner (unread n value) refl) (own-shown n.owner (unread n value) refl) rs order

pub visible-added_other : (y : ℕ) (n : Name) (value : List ℕ) (rs : List Start) → n.owner ≢ y → visible y (added (unread n value) rs) ≡ visible y rs
visible-added_other y n value rs differ =
    seen-added_hidden (may_see y) (shown_to y) (unread n value) (ap (λ (t : Bool). t || false) (ne_eqb n.owner y differ)) rs

-- who is among the readers after a grant, and after a revocation
abbrev pub joined : ℕ → List ℕ → List ℕ
joined client xs = filter (λ c. nat_lt c client) xs ++ client ∷ filter (λ c. nat_lt client c) xs

abbrev pub parted : ℕ → List ℕ → List ℕ
parted client xs = filter (λ c. not (nat_eq c client)) xs

around : (y client : ℕ) (xs : List ℕ) → y ≢ client → (list_any (nat_eq y) (filter (λ c. nat_lt c client) xs) || list_any (nat_eq y) (filter (λ c. nat_lt client c) xs)) ≡ list_any (nat_eq y) xs
around y client [] differ = refl
around y client (x ∷ xs) differ = grind (arith, nat_tests, around y client xs differ)

pub joined-other : (y client : ℕ) → y ≢ client → (xs : List ℕ) → list_any (nat_eq y) (joined client xs) ≡ list_any (nat_eq y) xs
joined-other y client differ xs =
    list_any-append (nat_eq y) (filter (λ c. nat_lt c client) xs) (client ∷ filter (λ c. nat_lt client c) xs)
    ∙ rw (ne_eqb y client differ) (around y client xs differ)

pub joined-same : (y : ℕ) (xs : List ℕ) → list_any (nat_eq y) (joined y xs) ≡ true
joined-same y xs =
    list_any-append (nat_eq y) (filter (λ c. nat_lt c y) xs) (y ∷ filter (λ c. nat_lt y c) xs)
    ∙ rw (eq-eqb y y refl) (or-all (list_any (nat_eq y) (filter (λ c. nat_lt c y) xs)))

pub parted-other : (y client : ℕ) → y ≢ client → (xs : List ℕ) → list_any (nat_eq y) (parted client xs) ≡ list_any (nat_eq y) xs
parted-other y client differ [] = refl
parted-other y client differ (x ∷ xs) = grind (arith, nat_tests, parted-other y client differ xs)

pub parted-same : (y : ℕ) (xs : List ℕ) → list_any (nat_eq y) (parted y xs) ≡ false
parted-same y [] = refl
parted-same y (x ∷ xs) = grind (arith, nat_tests, parted-same y xs)
