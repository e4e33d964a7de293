-- The frame of a node's change to a view among those that are kept, and after one more.
use Rattle.std.proofs.Common.{◌≡◌, ℕ, List, [], ◌∷◌, ◌++◌, Bool, true, false, ◌&&◌, not, nat_eq, map, Option, Some, None, refl, sym, ap, ◌∙◌, inl, inr}
use Rattle.std.specs.Prelude.{is_some, if◌then◌else◌}
use Rattle.std.specs.Borrow.{Bor}
use Rattle.std.specs.List.{find}
use Rattle.std.specs.Option.{option_map, option_copied}
use Rattle.std.proofs.lemmas.Bool.{cases_Bool, eqb-true}
use Rattle.std.proofs.lemmas.List.{map-append}
use Rattle.fw_base.specs.declared.params.Params.{Params}
use Rattle.fw_view.specs.declared.changes.KeptChange.{KeptChange}
use Rattle.fw_view.specs.Counted.{Added, Counted, frame_among, frame_of, frame_with, added_of}

abbrev pub counted : Params → List KeptChange → Counted
counted p kept = record { params = p; added = map added_of kept }

pub found : (kept : List KeptChange) (v i : ℕ) → option_map (λ k. k.frame) (find (λ k. nat_eq k.view v && nat_eq k.agree i) kept) ≡ frame_among (map added_of kept) v i
found [] v i = refl
found (k ∷ kept) v i = elim (cases_Bool (nat_eq k.view v && nat_eq k.agree i)) [ inl is ↦ rw is refl | inr other ↦ rw other (found kept v i) ]

copied_some : {B : Type 0} (g : KeptChange → B) (o : Option (Bor KeptChange)) → is_some o ≡ is_some (option_map g (option_copied o))
copied_some g None = refl
copied_some g (Some r) = refl

-- whether one is found
has : (kept : List KeptChange) (v i : ℕ) (o : Option (Bor KeptChange)) → option_copied o ≡ find (λ k. nat_eq k.view v && nat_eq k.agree i) kept → is_some o ≡ is_some (frame_among (map added_of kept) v i)
has kept v i o is = copied_some (λ k. k.frame) o ∙ ap (λ f. is_some (option_map (λ (k : KeptChange). k.frame) f)) is ∙ ap is_some (found kept v i)

-- the same, of a test that was made
pub told : (kept : List KeptChange) (v i : ℕ) (o : Option (Bor KeptChange)) (r b : Bool) → option_copied o ≡ find (λ k. nat_eq k.view v && nat_eq k.agree i) kept → r ≡ is_some o → r ≡ b
    → is_some (frame_among (map added_of kept) v i) ≡ b
told kept v i o r b is some known = sym (has kept v i o is) ∙ sym some ∙ known

pub copied : (o : Option (Bor (List ℕ))) → is_some (option_copied o) ≡ is_some o
copied None = refl
copied (Some r) = refl

stays : (frame : List ℕ) (a b : Bool) (o : Option (List ℕ)) → is_some o ≡ true → o ≡ (if a && b && not (is_some o) then Some frame else o)
stays frame true true (Some f) e = refl
stays frame true false (Some f) e = refl
stays frame false b (Some f) e = refl
stays frame a b None e = absurd (let no : ⊥ = cc in no)

-- one more at the end is found where none was
added : (l : List Added) (x : Added) (v i : ℕ)
    → frame_among (l ++ x ∷ []) v i ≡ (if nat_eq x.view v && nat_eq x.agree i && not (is_some (frame_among l v i)) then Some x.frame else frame_among l v i)
added [] x v i = elim (cases_Bool (nat_eq x.view v)) [
  | inl is ↦ elim (cases_Bool (nat_eq x.agree i)) [ inl same ↦ rw (is, same) refl | inr other ↦ rw (is, other) refl ]
  | inr other ↦ rw other refl
]
added (y ∷ l) x v i = elim (cases_Bool (nat_eq y.view v && nat_eq y.agree i)) [
  | inl is ↦ rw is (stays x.frame (nat_eq x.view v) (nat_eq x.agree i) (Some y.frame) refl)
  | inr other ↦ rw other (added l x v i)
]

pub kept_added : (p : Params) (kept : List KeptChange) (x : KeptChange) (v i : ℕ) → frame_of (counted p (kept ++ x ∷ [])) v i ≡ frame_with (counted p kept) x.view x.agree x.frame v i
kept_added p kept x v i = ap (λ l. frame_among l v i) (map-append added_of kept (x ∷ [])) ∙ added (map added_of kept) (added_of x) v i

-- a second one of a node and a view changes nothing
pub same : (c : Counted) (view agree : ℕ) (frame : List ℕ) (v i : ℕ) → is_some (frame_of c view agree) ≡ true → frame_of c v i ≡ frame_with c view agree frame v i
same c view agree frame v i has = elim (cases_Bool (nat_eq view v)) [
  | inl is ↦ elim (cases_Bool (nat_eq agree i)) [
    | inl by ↦
        let here : view ≡ v = eqb-true _ _ is in
        let who : agree ≡ i = eqb-true _ _ by in
        stays frame (nat_eq view v) (nat_eq agree i) (frame_of c v i)
        (ap (λ n. is_some (frame_of c n i)) (sym here) ∙ ap (λ n. is_some (frame_of c view n)) (sym who) ∙ has)
    | inr other ↦ rw (is, other) refl
  ]
  | inr other ↦ rw other refl
]
