-- The frame of a number among those that are kept, and after one more.
use Rattle.std.proofs.Common.{◌≡◌, ℕ, List, [], ◌∷◌, ◌++◌, Bool, true, false, ◌&&◌, not, nat_eq, map, Option, Some, None, refl, sym, ap, ◌∙◌, inl, inr}
use Rattle.std.specs.Prelude.{is_some, if◌then◌else◌}
use Rattle.std.specs.Borrow.{Bor}
use Rattle.std.specs.List.{find}
use Rattle.std.specs.Option.{option_map, option_copied}
use Rattle.std.proofs.lemmas.Bool.{cases_Bool, eqb-true}
use Rattle.std.proofs.lemmas.List.{map-append}
use Rattle.fw_queue.specs.declared.queue.KeptFrame.{KeptFrame}
use Rattle.fw_queue.specs.Backlogs.{Numbered, frame_at, frame_with, numbered}

pub found : (kept : List KeptFrame) (n : ℕ) → option_map (λ k. k.frame) (find (λ k. nat_eq k.number n) kept) ≡ frame_at (map numbered kept) n
found [] n = refl
found (k ∷ kept) n = elim (cases_Bool (nat_eq k.number n)) [ inl is ↦ rw is refl | inr other ↦ rw other (found kept n) ]

copied_some : {B : Type 0} (g : KeptFrame → B) (o : Option (Bor KeptFrame)) → is_some o ≡ is_some (option_map g (option_copied o))
copied_some g None = refl
copied_some g (Some r) = refl

-- whether one is found
pub has : (kept : List KeptFrame) (n : ℕ) (o : Option (Bor KeptFrame)) → option_copied o ≡ find (λ k. nat_eq k.number n) kept → is_some o ≡ is_some (frame_at (map numbered kept) n)
has kept n o is = copied_some (λ k. k.frame) o ∙ ap (λ f. is_some (option_map (λ (k : KeptFrame). k.frame) f)) is ∙ ap is_some (found kept n)

stays : (frame : List ℕ) (b : Bool) (o : Option (List ℕ)) → is_some o ≡ true → o ≡ (if b && not (is_some o) then Some frame else o)
stays frame true (Some f) e = refl
stays frame false (Some f) e = refl
stays frame b None e = absurd (let no : ⊥ = cc in no)

-- one more at the end is found where none was
pub added : (frames : List Numbered) (x : Numbered) (n : ℕ) → frame_at (frames ++ x ∷ []) n ≡ frame_with frames x.number x.frame n
added [] x n = elim (cases_Bool (nat_eq x.number n)) [ inl is ↦ rw is refl | inr other ↦ rw other refl ]
added (y ∷ frames) x n = elim (cases_Bool (nat_eq y.number n)) [
  | inl is ↦ rw is (stays x.frame (nat_eq x.number n) (Some y.frame) refl)
  | inr other ↦ rw other (added frames x n)
]

pub kept_added : (kept : List KeptFrame) (x : KeptFrame) (n : ℕ) → frame_at (map numbered (kept ++ x ∷ [])) n ≡ frame_with (map numbered kept) x.number x.frame n
kept_added kept x n = ap (λ l. frame_at l n) (map-append numbered kept (x ∷ [])) ∙ added (map numbered kept) (numbered x) n

-- a second one of a number changes nothing
pub same : (frames : List Numbered) (number : ℕ) (frame : List ℕ) (n : ℕ) → is_some (frame_at frames number) ≡ true → frame_at frames n ≡ frame_with frames number frame n
same frames number frame n has = elim (cases_Bool (nat_eq number n)) [
  | inl is ↦
      let here : number ≡ n = eqb-true _ _ is in
      stays frame (nat_eq number n) (frame_at frames n) (ap (λ k. is_some (frame_at frames k)) (sym here) ∙ has)
  | inr other ↦ rw other refl
]

pub copied : (o : Option (Bor (List ℕ))) → is_some (option_copied o) ≡ is_some o
copied None = refl
copied (Some r) = refl

-- what is found passes the test
pub found_passes : {T : Type 0} (p : T → Bool) (xs : List T) (x : T) → Some x ≡ find p xs → p x ≡ true
found_passes p [] x e = absurd (let no : ⊥ = cc in no)
found_passes p (a ∷ xs) x e = elim (cases_Bool (p a)) [
  | inl holds ↦
      let same : Some x ≡ Some a = rw holds at e in
      let is : x ≡ a = cc in
      rw is holds
  | inr fails ↦ found_passes p xs x (rw fails at e)
]
