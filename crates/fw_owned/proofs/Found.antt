-- What is found in a list that is kept is what the rule finds in the list as it sees it.
use Rattle.std.proofs.Common.{◌+◌, ◌<◌, length, get_or, drop, drop-cons, add-one, subst, inl, inr, ◌≡◌, ℕ, List, [], ◌∷◌, Bool, true, false, ◌||◌, cond, All, Option, Some, None, refl, sym, nat_eq, ap, ◌∙◌, map, reverse}
use Rattle.std.specs.Prelude.{is_some}
use Rattle.std.specs.Borrow.{Bor}
use Rattle.std.specs.List.{find, list_any}
use Rattle.std.specs.Option.{option_map, option_copied}
use Rattle.std.proofs.lemmas.Bool.{cases_Bool}
use Rattle.std.proofs.lemmas.List.{reverse-reverse}
use Rattle.std.proofs.lemmas.List.Elements.{All-head, All-tail}
use Rattle.fw_trace.specs.Lists.{first_at}
use Rattle.fw_means.specs.Means.{when}
use Rattle.fw_rules.specs.Choices.{first_some}

-- the first of some, where the first of them is none, and where it isn't
pub passed : {B : Type 0} (o rest : Option B) → is_some o ≡ false → rest ≡ elim o [ Some y ↦ Some y | None ↦ rest ]
passed None rest e = refl
passed (Some y) rest e = absurd (let no : ⊥ = cc in no)

pub taken : {B : Type 0} (o rest : Option B) → is_some o ≡ true → o ≡ elim o [ Some y ↦ Some y | None ↦ rest ]
taken None rest e = absurd (let no : ⊥ = cc in no)
taken (Some y) rest e = refl

-- where p holds, f finds what out says, and elsewhere nothing
abbrev pub Finds : {A B C : Type 0} → (A → B) → (B → Option C) → (A → Bool) → (A → C) → Type 0
Finds view f p out = (a : _) → f (view a) ≡ when (p a) (Some (out a))

-- the items that lie in a list with the newest first
pub newest : {A : Type 0} (items held : List A) → items ≡ reverse held → reverse items ≡ held
newest items held e = ap reverse e ∙ reverse-reverse held

found_step : {A C : Type 0} (a : A) (out : A → C) (o : Option A) (rest : Option C) (f : Option C) (b : Bool) → f ≡ when b (Some (out a)) → option_map out o ≡ rest → option_map out (cond b (Some a) o) ≡ elim f [ Some y ↦ Some y | None ↦ rest ]
found_step a out o rest f true e more = rw e refl
found_step a out o rest f false e more = rw e more

pub found : {A B C : Type 0} (view : A → B) (f : B → Option C) (p : A → Bool) (out : A → C) → Finds view f p out → (xs : List A) → option_map out (find p xs) ≡ first_some f (map view xs)
found view f p out finds [] = refl
found view f p out finds (a ∷ xs) =
    found_step a out (find p xs) (first_some f (map view xs)) (f (view a)) (p a) (finds a) (found view f p out finds xs)

pub newest_found : {A B C : Type 0} (view : A → B) (f : B → Option C) (p : A → Bool) (out : A → C) (o : Option A) (items held : List A) → Finds view f p out → items ≡ reverse held → o ≡ find p (reverse items) → option_map out o ≡ first_some f (map view held)
newest_found view f p out o items held finds e is =
    ap (option_map out) (is ∙ ap (find p) (newest items held e)) ∙ found view f p out finds held

any_step : {C : Type 0} (x : C) (f rest : Option C) (b any : Bool) → f ≡ when b (Some x) → any ≡ is_some rest → (b || any) ≡ is_some (elim f [ Some y ↦ Some y | None ↦ rest ])
any_step x f rest true any e more = rw e refl
any_step x f rest false any e more = rw e more

-- whether there is one
pub any_found : {A B C : Type 0} (view : A → B) (f : B → Option C) (p : A → Bool) (out : A → C) → Finds view f p out → (xs : List A) → list_any p xs ≡ is_some (first_some f (map view xs))
any_found view f p out finds [] = refl
any_found view f p out finds (a ∷ xs) =
    any_step (out a) (f (view a)) (first_some f (map view xs)) (p a) (list_any p xs) (finds a) (any_found view f p out finds xs)

pub any_map : {A B : Type 0} (view : A → B) (p : B → Bool) (xs : List A) → list_any (λ a. p (view a)) xs ≡ list_any p (map view xs)
any_map view p [] = refl
any_map view p (a ∷ xs) = ap (λ (b : Bool). p (view a) || b) (any_map view p xs)

at_step : {A B : Type 0} (view : A → B) (a : A) (o : Option A) (rest : Option B) (b : Bool) → option_map view o ≡ rest → option_map view (cond b (Some a) o) ≡ cond b (Some (view a)) rest
at_step view a o rest true more = refl
at_step view a o rest false more = more

-- the first of a number
pub found_at : {A B : Type 0} (view : A → B) (number : B → ℕ) (n : ℕ) (xs : List A) → option_map view (find (λ a. nat_eq (number (view a)) n) xs) ≡ first_at (λ b. Some (number b, b)) (map view xs) n
found_at view number n [] = refl
found_at view number n (a ∷ xs) =
    at_step view a (find (λ a. nat_eq (number (view a)) n) xs) (first_at (λ b. Some (number b, b)) (map view xs) n) (nat_eq (number (view a)) n) (found_at view number n xs)

pub mapped_some : {A B : Type 0} (g : A → B) (o : Option A) → is_some (option_map g o) ≡ is_some o
mapped_some g None = refl
mapped_some g (Some x) = refl

pub copied_some : {A B : Type 0} (g : A → B) (o : Option (Bor A)) → is_some (option_map g (option_copied o)) ≡ is_some o
copied_some g None = refl
copied_some g (Some r) = refl

-- what is found passes the test, and is one of the list
pub found_passes : {A : Type 0} (p : A → Bool) (xs : List A) (x : A) → Some x ≡ find p xs → p x ≡ true
found_passes p [] x e = absurd (let no : ⊥ = cc in no)
found_passes p (a ∷ xs) x e = elim (cases_Bool (p a)) [
  | inl holds ↦
      let same : Some x ≡ Some a = rw holds at e in
      let is : x ≡ a = cc in
      rw is holds
  | inr fails ↦ found_passes p xs x (rw fails at e)
]

pub found_is_one : {A : Type 0} (P : A → Type 0) (p : A → Bool) (xs : List A) (x : A) → All P xs → Some x ≡ find p xs → P x
found_is_one P p [] x all e = absurd (let no : ⊥ = cc in no)
found_is_one P p (a ∷ xs) x all e = elim (cases_Bool (p a)) [
  | inl holds ↦
      let same : Some x ≡ Some a = rw holds at e in
      let is : x ≡ a = cc in
      subst P (sym is) (All-head P a xs all)
  | inr fails ↦ found_is_one P p xs x (All-tail P a xs all) (rw fails at e)
]

-- the items that are left of a list: nothing is found at the first of them
pub left_next : {A B C : Type 0} (view : A → B) (f : B → Option C) (xs : List A) (k : ℕ) (d : A) → k < length xs → is_some (f (view (get_or xs k d))) ≡ false → first_some f (map view (drop (k + 1) xs)) ≡ first_some f (map view (drop k xs))
left_next view f xs k d below none =
    let next : drop k xs ≡ get_or xs k d ∷ drop (k + 1) xs = rw (add-one k) (drop-cons xs k d below) in
    rw next (passed (f (view (get_or xs k d))) (first_some f (map view (drop (k + 1) xs))) none)

-- something is
pub left_here : {A B C : Type 0} (view : A → B) (f : B → Option C) (xs : List A) (k : ℕ) (d : A) → k < length xs → is_some (f (view (get_or xs k d))) ≡ true → f (view (get_or xs k d)) ≡ first_some f (map view (drop k xs))
left_here view f xs k d below some =
    let next : drop k xs ≡ get_or xs k d ∷ drop (k + 1) xs = rw (add-one k) (drop-cons xs k d below) in
    rw next (taken (f (view (get_or xs k d))) (first_some f (map view (drop (k + 1) xs))) some)
