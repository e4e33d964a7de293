-- What holds of all that was kept holds of what is looked for there.
use Rattle.std.proofs.Common.{◌≡◌, ℕ, zero, suc, ◌+◌, ◌≤◌, ◌<◌, Bool, true, false, nat_eq, cond, List, [], ◌∷◌, ◌++◌, filter_map, All, Option, Some, None, refl, arith, IsTrue}
use Rattle.std.specs.Prelude.{Result, Ok, Err, OnOk, is_err, IfSome, option_and_then}
use Rattle.std.specs.List.{flat_map}
use Rattle.std.proofs.lemmas.Option.{none-some}
use Rattle.std.proofs.lemmas.List.Elements.{All-nil, All-cons, All-head, All-tail, All-append}
use Rattle.std.specs.List.{cons_option}
use Rattle.fw_list.specs.Lists.{numbers_from}
use Rattle.fw_trace.specs.Lists.{first_at}
use Rattle.fw_means.specs.Means.{when}
use Rattle.fw_rules.specs.Choices.{first_some}

-- nothing is said of each
pub all_any : {A : Type 0} (xs : List A) → All (λ _. Unit {0}) xs
all_any [] = All-nil _
all_any (x ∷ xs) = All-cons (λ _. Unit {0}) x xs tt (all_any xs)

-- what holds of each number below an end
pub all_below : (P : ℕ → Type 0) (end : ℕ) → ((k : ℕ) → k < end → P k) → (first count : ℕ) → first + count ≤ end → All P (numbers_from first count)
all_below P end each first zero within = All-nil P
all_below P end each first (suc count) within =
    All-cons P first (numbers_from (first + 1) count) (each first (omega arith)) (all_below P end each (first + 1) count (omega arith))

-- ---- options and results

-- what was found where a test holds
pub when-some : {A : Type 0} (b : Bool) (o : Option A) (x : A) → when b o ≡ Some x → IsTrue b × (o ≡ Some x)
when-some true o x e = (refl, e)
when-some false o x e = absurd (none-some x e)

pub when-if : {A : Type 0} (P : A → Type 0) (b : Bool) (o : Option A) → IfSome o P → IfSome (when b o) P
when-if P true o h = h
when-if P false o h = tt

pub cond-if : {A : Type 0} (P : A → Type 0) (b : Bool) (o rest : Option A) → IfSome o P → IfSome rest P → IfSome (cond b o rest) P
cond-if P true o rest one more = one
cond-if P false o rest one more = more

-- what holds always holds of what is found
pub always-if : {A : Type 0} (X : Type 0) (o : Option A) → X → IfSome o (λ _. X)
always-if X None x = tt
always-if X (Some y) x = x

-- what is made of what was found
pub made-if : {A B : Type 0} (f : A → Option B) (Q : B → Type 0) (o : Option A) → ((x : A) → o ≡ Some x → IfSome (f x) Q) → IfSome (option_and_then f o) Q
made-if f Q None each = tt
made-if f Q (Some x) each = each x refl

-- what holds with Ok, where there is no error
pub ok_of : {T E : Type 0} (r : Result T E) (P : Type 0) → is_err r ≡ false → OnOk r P → P
ok_of (Ok x) P fine p = p
ok_of (Err y) P fine p = absurd (let no : ⊥ = cc in no)

-- ---- lists

first-or : {A : Type 0} (P : A → Type 0) (o rest : Option A) → IfSome o P → IfSome rest P → IfSome (elim o [ Some y ↦ Some y | None ↦ rest ]) P
first-or P None rest one more = more
first-or P (Some y) rest one more = one

-- the first at which something is found
pub first_some-if : {A B : Type 0} (f : A → Option B) (P : A → Type 0) (Q : B → Type 0) → ((a : A) → P a → IfSome (f a) Q) → (xs : List A) → All P xs → IfSome (first_some f xs) Q
first_some-if f P Q each [] all = tt
first_some-if f P Q each (x ∷ xs) all =
    first-or Q (f x) (first_some f xs) (each x (All-head P x xs all)) (first_some-if f P Q each xs (All-tail P x xs all))

-- the first that is read at a number
pub first_at-if : {A E : Type 0} (reads : A → ℕ × E) (P : A → Type 0) (Q : E → Type 0) → ((a : A) → P a → Q (reads a).1) → (n : ℕ) (xs : List A) → All P xs → IfSome (first_at (λ a. Some (reads a)) xs n) Q
first_at-if reads P Q each n [] all = tt
first_at-if reads P Q each n (x ∷ xs) all =
    cond-if Q (nat_eq (reads x).0 n) (Some (reads x).1) (first_at (λ a. Some (reads a)) xs n) (each x (All-head P x xs all)) (first_at-if reads P Q each n xs (All-tail P x xs all))

cons-all : {A : Type 0} (P : A → Type 0) (o : Option A) (xs : List A) → IfSome o P → All P xs → All P (cons_option o xs)
cons-all P None xs one all = all
cons-all P (Some x) xs one all = All-cons P x xs one all

-- what is found of each
pub found-all : {A B : Type 0} (f : A → Option B) (P : B → Type 0) → ((a : A) → IfSome (f a) P) → (xs : List A) → All P (filter_map f xs)
found-all f P each [] = All-nil P
found-all f P each (x ∷ xs) = cons-all P (f x) (filter_map f xs) (each x) (found-all f P each xs)

-- the items of lists, one behind the other
pub flat-all : {A B : Type 0} (f : A → List B) (P : A → Type 0) (Q : B → Type 0) → ((a : A) → P a → All Q (f a)) → (xs : List A) → All P xs → All Q (flat_map f xs)
flat-all f P Q each [] all = All-nil Q
flat-all f P Q each (x ∷ xs) all =
    All-append Q (f x) (flat_map f xs) (each x (All-head P x xs all)) (flat-all f P Q each xs (All-tail P x xs all))

-- one more in the end
pub all_more : {A : Type 0} (P : A → Type 0) (xs : List A) (x : A) → All P xs → P x → All P (xs ++ x ∷ [])
all_more P xs x all one = All-append P xs (x ∷ []) all (All-cons P x [] one (All-nil P))
