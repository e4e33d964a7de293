-- What bytes begin with, from what was found at their front.
use Rattle.std.proofs.Common.{◌≡◌, ℕ, ◌+◌, Bool, ◌&&◌, nat_le, subst, List, [], ◌∷◌, ◌++◌, Some, sym, ◌∙◌, refl, IsTrue, append_assoc, inl, inr, Ok, Err, Result}
use Rattle.std.specs.Prelude.{OnErr}
use Rattle.std.specs.List.{flat_map}
use Rattle.std.proofs.lemmas.Bool.{and_parts}
use Rattle.fw_wire.specs.Reading.{FindsWhere}
use Rattle.fw_frame.specs.Needing.{Begins, Anything, StartsItem}
use Rattle.fw_frame.proofs.Lists.{SoFar, rises}

-- a value was found, and what is left has the rest
pub begins : {A : Type 0} {text : A → List ℕ} {fits : A → Bool} {more : A → List ℕ → Type 0} {old left : List ℕ} {x : A}
    → FindsWhere text fits old (Some x) left → more x left → Begins text fits more old
begins {left = left} {x = x} p m = record { value = x; rest = left; is = p.read.0; fitting = p.read.1; behind = m }

-- the same with a wider range
pub begins_as : {A : Type 0} {text : A → List ℕ} {f g : A → Bool} {more : A → List ℕ → Type 0} {old left : List ℕ} {x : A}
    → (IsTrue (f x) → IsTrue (g x)) → FindsWhere text f old (Some x) left → more x left → Begins text g more old
begins_as {left = left} {x = x} to p m = record { value = x; rest = left; is = p.read.0; fitting = to p.read.1; behind = m }

pub second : (a b : Bool) → IsTrue (a && b) → IsTrue b
second a b h = (and_parts a b h).1

front_of : {A : Type 0} (text : A → List ℕ) (key : A → ℕ) (fits : A → Bool) (first : ℕ) (inside : List ℕ → Type 0) (bytes left : List ℕ) (items : List A)
    → bytes ≡ flat_map text items ++ left → IsTrue (rises key fits first (items ++ [])) → StartsItem text fits inside left → StartsItem text fits inside bytes
front_of text key fits first inside bytes left [] e r s = subst (StartsItem text fits inside) (sym e) s
front_of text key fits first inside bytes left (x ∷ items) e r s =
    let parts = and_parts (nat_le first (key x) && fits x) (rises key fits (key x + 1) (items ++ [])) r in
    inl (record {
      value = x;
      rest = flat_map text items ++ left;
      is = e ∙ append_assoc (text x) (flat_map text items) left;
      fitting = (and_parts (nat_le first (key x)) (fits x) parts.0).1;
      behind = tt;
    })

-- what a list has read begins with its first item; where it has read none, with what is left
pub front : {A : Type 0} {text : A → List ℕ} {key : A → ℕ} {fits : A → Bool} {first count : ℕ} {bytes : List ℕ} {least : ℕ} {items : List A} {left : List ℕ} (inside : List ℕ → Type 0)
    → SoFar text key fits first count bytes least items left → StartsItem text fits inside left → StartsItem text fits inside bytes
front {text = text} {key = key} {fits = fits} {first = first} {bytes = bytes} {items = items} {left = left} inside s i =
    front_of text key fits first inside bytes left items s.read (s.rising [] refl) i

-- an item was found behind it
pub front_found : {A : Type 0} {text : A → List ℕ} {key : A → ℕ} {fits : A → Bool} {first count : ℕ} {bytes : List ℕ} {least : ℕ} {items : List A} {left next : List ℕ} {x : A} (inside : List ℕ → Type 0)
    → SoFar text key fits first count bytes least items left → FindsWhere text (λ y. nat_le least (key y) && fits y) left (Some x) next → StartsItem text fits inside bytes
front_found {text = text} {key = key} {fits = fits} {least = least} {next = next} {x = x} inside s p =
    front inside s (inl (begins_as (second (nat_le least (key x)) (fits x)) p tt))

-- of a list whose items have none inside
pub only_item : {A : Type 0} {text : A → List ℕ} {fits : A → Bool} {bytes : List ℕ} → StartsItem text fits (λ _. ⊥) bytes → Begins text fits Anything bytes
only_item (inl b) = b
only_item (inr e) = absurd e

-- where the answer is want of memory, this holds
pub on_err : {A E : Type 0} {P : Type 0} (r : Result A E) → P → OnErr r P
on_err (Ok a) p = tt
on_err (Err e) p = p
