-- Lists of entries whose numbers follow one another, and the list that is read of a pool.
use Rattle.std.proofs.Common.{ℕ, zero, suc, ◌+◌, ◌≡◌, ◌≤◌, ◌⊎◌, inl, inr, Bool, true, false, cond, nat_eq, max, List, [], ◌∷◌, ◌++◌, length, map, refl, sym, ◌∙◌, ap, subst, Option, Some, None, arith}
use Rattle.std.proofs.lemmas.Bool.{eqb-true, eqb-false}
use Rattle.std.proofs.lemmas.Option.{none-some, same_Some}
use Rattle.fw_list.specs.Lists.{numbers_from}
use Rattle.fw_base.specs.declared.seat.Seat.{Seat}
use Rattle.fw_trace.specs.Client.{to_all}
use Rattle.fw_trace.specs.Lists.{In, front_of, first_at, greatest_of}

-- A n e, A (n + 1) e', .. of the list's items
abbrev pub EachFrom : {E : Type 0} → (ℕ → E → Type 0) → ℕ → List E → Type 0
EachFrom A n [] = Unit {0}
EachFrom A n (e ∷ es) = A n e × EachFrom A (n + 1) es

pub EachFrom-weaken : {E : Type 0} (A B : ℕ → E → Type 0) → ((n : ℕ) (e : E) → A n e → B n e) → (n : ℕ) (es : List E) → EachFrom A n es → EachFrom B n es
EachFrom-weaken A B f n [] h = tt
EachFrom-weaken A B f n (e ∷ es) h = (f n e h.0, EachFrom-weaken A B f (n + 1) es h.1)

pub EachFrom-push : {E : Type 0} (A : ℕ → E → Type 0) (n : ℕ) (es : List E) (e : E) → EachFrom A n es → A (n + length es) e → EachFrom A n (es ++ e ∷ [])
EachFrom-push A n [] e h a = let z : n + 0 ≡ n = omega arith in (subst (λ (k : ℕ). A k e) z a, tt)
EachFrom-push A n (x ∷ es) e h a =
    let z : n + suc (length es) ≡ n + 1 + length es = omega arith in
    (h.0, EachFrom-push A (n + 1) es e h.1 (subst (λ (k : ℕ). A k e) z a))

pub EachFrom-below : {E : Type 0} (A : ℕ → E → Type 0) (most : ℕ) → ((n : ℕ) (e : E) → A n e → n ≤ most) → (n : ℕ) (es : List E) → EachFrom A n es → n ≤ most + 1 → n + length es ≤ most + 1
EachFrom-below A most f n [] h l = omega arith
EachFrom-below A most f n (e ∷ es) h l =
    let one : n ≤ most = f n e h.0 in
    let more : n + 1 + length es ≤ most + 1 = EachFrom-below A most f (n + 1) es h.1 (omega arith) in
    omega arith

-- what is found at a number is read of an item
pub record At {X E : Type 0} (reads : X → Option (ℕ × E)) (xs : List X) (n : ℕ) (e : E) : Type 0 where
  pub item : X
  pub inside : In item xs
  pub read : reads item ≡ Some (n, e)

pub first_at-in : {X E : Type 0} (reads : X → Option (ℕ × E)) (xs : List X) (n : ℕ) (e : E) → first_at reads xs n ≡ Some e → At reads xs n e
first_at-in reads [] n e h = absurd (none-some e h)
first_at-in {X = X} {E = E} reads (x ∷ xs) n e h = by (reads x) refl h (first_at-in reads xs n e)
  where
    later : At reads xs n e → At reads (x ∷ xs) n e
    later a = record { item = a.item; inside = inr a.inside; read = a.read }

    at : (found : ℕ × E) → reads x ≡ Some found → (b : Bool) → nat_eq found.0 n ≡ b → cond b (Some found.1) (first_at reads xs n) ≡ Some e → (first_at reads xs n ≡ Some e → At reads xs n e) → At reads (x ∷ xs) n e
    at found q true t h more =
        let number : found.0 ≡ n = eqb-true found.0 n t in
        let value : found.1 ≡ e = same_Some found.1 e h in
        record { item = x; inside = inl refl; read = q ∙ ap (λ (k : ℕ). Some (k, found.1)) number ∙ ap (λ (y : E). Some (n, y)) value }
    at found q false t h more = later (more h)

    by : (o : Option (ℕ × E)) → reads x ≡ o → elim o [ None ↦ first_at reads xs n | Some found ↦ cond (nat_eq found.0 n) (Some found.1) (first_at reads xs n) ] ≡ Some e → (first_at reads xs n ≡ Some e → At reads xs n e) → At reads (x ∷ xs) n e
    by None q h more = later (more h)
    by (Some found) q h more = at found q (nat_eq found.0 n) refl h more

-- the first value that is read at a number, where there is one
pub record Found {X E : Type 0} (reads : X → Option (ℕ × E)) (xs : List X) (n : ℕ) : Type 0 where
  pub value : E
  pub item : X
  pub in_list : In item xs
  pub read : reads item ≡ Some (n, value)
  pub first : first_at reads xs n ≡ Some value

pub first_at-found : {X E : Type 0} (reads : X → Option (ℕ × E)) (xs : List X) (x : X) (n : ℕ) (a : E) → In x xs → reads x ≡ Some (n, a) → Found reads xs n
first_at-found reads [] x n a i h = absurd i
first_at-found {X = X} {E = E} reads (z ∷ xs) x n a i h = by (reads z) refl i (λ j. first_at-found reads xs x n a j h)
  where
    later : first_at reads (z ∷ xs) n ≡ first_at reads xs n → Found reads xs n → Found reads (z ∷ xs) n
    later e f = record { value = f.value; item = f.item; in_list = inr f.in_list; read = f.read; first = e ∙ f.first }

    skips : (o : Option (ℕ × E)) → Option E
    skips o = elim o [ None ↦ first_at reads xs n | Some found ↦ cond (nat_eq found.0 n) (Some found.1) (first_at reads xs n) ]

    at : (found : ℕ × E) → reads z ≡ Some found → (b : Bool) → nat_eq found.0 n ≡ b → (x ≡ z) ⊎ In x xs → (In x xs → Found reads xs n) → Found reads (z ∷ xs) n
    at found e true t j more =
        let same : found.0 ≡ n = eqb-true found.0 n t in
        let value : reads z ≡ Some (n, found.1) = e ∙ ap (λ (k : ℕ). Some (k, found.1)) same in
        record { value = found.1; item = z; in_list = inl refl; read = value; first = ap skips e ∙ ap (λ (b : Bool). cond b (Some found.1) (first_at reads xs n)) t }
    at found e false t (inl s) more =
        let both : Some found ≡ Some (n, a) = sym e ∙ ap reads (sym s) ∙ h in
        absurd (eqb-false found.0 n t (ap (λ (q : ℕ × E). q.0) (same_Some found (n, a) both)))
    at found e false t (inr j) more = later (ap skips e ∙ ap (λ (b : Bool). cond b (Some found.1) (first_at reads xs n)) t) (more j)

    by : (o : Option (ℕ × E)) → reads z ≡ o → (x ≡ z) ⊎ In x xs → (In x xs → Found reads xs n) → Found reads (z ∷ xs) n
    by None e (inl s) more = absurd (none-some (n, a) (sym e ∙ ap reads (sym s) ∙ h))
    by None e (inr j) more = later (ap skips e) (more j)
    by (Some found) e j more = at found e (nat_eq found.0 n) refl j more

pub greatest_of-above : {X E : Type 0} (reads : X → Option (ℕ × E)) (xs : List X) (x : X) (n : ℕ) (a : E) → In x xs → reads x ≡ Some (n, a) → n ≤ greatest_of reads xs
greatest_of-above reads [] x n a i h = absurd i
greatest_of-above {X = X} {E = E} reads (z ∷ xs) x n a i h = by (reads z) refl i (λ j. greatest_of-above reads xs x n a j h)
  where
    over : Option (ℕ × E) → ℕ
    over o = elim o [ None ↦ greatest_of reads xs | Some found ↦ max found.0 (greatest_of reads xs) ]

    by : (o : Option (ℕ × E)) → reads z ≡ o → (x ≡ z) ⊎ In x xs → (In x xs → n ≤ greatest_of reads xs) → n ≤ over (reads z)
    by None e (inl s) more = absurd (none-some (n, a) (sym e ∙ ap reads (sym s) ∙ h))
    by None e (inr j) more = subst (λ (o : Option (ℕ × E)). n ≤ over o) (sym e) (more j)
    by (Some found) e (inl s) more =
        let both : Some found ≡ Some (n, a) = sym e ∙ ap reads (sym s) ∙ h in
        let same : found.0 ≡ n = ap (λ (q : ℕ × E). q.0) (same_Some found (n, a) both) in
        subst (λ (o : Option (ℕ × E)). n ≤ over o) (sym e) (omega arith)
    by (Some found) e (inr j) more = let m = more j in subst (λ (o : Option (ℕ × E)). n ≤ over o) (sym e) (omega arith)

pub front_longer : {E : Type 0} (at : ℕ → Option E) (n count : ℕ) (es : List E) → EachFrom (λ k e. at k ≡ Some e) n es → length es ≤ count → (rest : List E) × (front_of (map at (numbers_from n count)) ≡ es ++ rest)
front_longer at n count [] h l = (front_of (map at (numbers_from n count)), refl)
front_longer at n zero (e ∷ es) h l = absurd (omega arith)
front_longer {E = E} at n (suc count) (e ∷ es) h l =
    let more = front_longer at (n + 1) count es h.1 (omega arith) in
    (more.0, ap (λ (o : Option E). front_of (o ∷ map at (numbers_from (n + 1) count))) h.0 ∙ ap (λ (l : List E). e ∷ l) more.1)

-- the first of two lists, and the last item
pub EachFrom-left : {E : Type 0} (A : ℕ → E → Type 0) (n : ℕ) (xs ys : List E) → EachFrom A n (xs ++ ys) → EachFrom A n xs
EachFrom-left A n [] ys h = tt
EachFrom-left A n (x ∷ xs) ys h = (h.0, EachFrom-left A (n + 1) xs ys h.1)

pub EachFrom-last : {E : Type 0} (A : ℕ → E → Type 0) (n : ℕ) (xs : List E) (e : E) → EachFrom A n (xs ++ e ∷ []) → A (n + length xs) e
EachFrom-last A n [] e h = let z : n ≡ n + 0 = omega arith in subst (λ (k : ℕ). A k e) z h.0
EachFrom-last A n (x ∷ xs) e h =
    let z : n + 1 + length xs ≡ n + suc (length xs) = omega arith in
    subst (λ (k : ℕ). A k e) z (EachFrom-last A (n + 1) xs e h.1)

-- a message to all of some seats
pub In-to_all : {M : Type 0} (seats : List Seat) (m : M) (o : Seat × M) → In o (to_all seats m) → In o.0 seats × (o.1 ≡ m)
In-to_all [] m o i = absurd i
In-to_all (s ∷ seats) m o (inl e) = (inl (ap (λ (x : Seat × _). x.0) e), ap (λ (x : Seat × _). x.1) e)
In-to_all (s ∷ seats) m o (inr i) = let rest = In-to_all seats m o i in (inr rest.0, rest.1)
