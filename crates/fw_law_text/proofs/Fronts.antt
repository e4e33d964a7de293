-- What stands at the front of bytes, and is known by them: an item, and a list of items of a known length.
use Rattle.std.proofs.Common.{◌≡◌, ℕ, ◌^◌, Bool, true, ◌&&◌, List, [], ◌∷◌, ◌++◌, length, refl, sym, ap, ◌∙◌, arith, append_assoc}
use Rattle.std.specs.Prelude.{flat_map}
use Rattle.std.specs.List.{list_all}
use Rattle.std.proofs.lemmas.Bool.{ltb-true, eqb-true, and_parts}
use Rattle.fw_list.specs.Numbers.{u32}
use Rattle.fw_wire.proofs.Fronts.{u32_split, same_front}
use Rattle.fw_text.specs.Texts.{Listed, Heading, listed_bytes, heading_bytes}
use Rattle.fw_law_text.specs.OneText.{number_fits, digest_fits, listed_fits, heading_fits}

-- items that fit and stand at the front of the same bytes are one, and so is what follows them
abbrev pub IsKnown : {X : Type 0} → (X → List ℕ) → (X → Bool) → Type 0
IsKnown {X} spelled fits =
    (x y : X) (r s : List ℕ) → fits x ≡ true → fits y ≡ true → spelled x ++ r ≡ spelled y ++ s → (x ≡ y) × (r ≡ s)

pub items_known : {X : Type 0} (spelled : X → List ℕ) (fits : X → Bool) → IsKnown spelled fits → (xs ys : List X) (r s : List ℕ) → list_all fits xs ≡ true → list_all fits ys ≡ true → length xs ≡ length ys → flat_map spelled xs ++ r ≡ flat_map spelled ys ++ s → (xs ≡ ys) × (r ≡ s)
items_known spelled fits known [] [] r s f g l e = (refl, e)
items_known spelled fits known [] (y ∷ ys) r s f g l e = absurd (omega arith)
items_known spelled fits known (x ∷ xs) [] r s f g l e = absurd (omega arith)
items_known spelled fits known (x ∷ xs) (y ∷ ys) r s f g l e =
    let one = and_parts (fits x) (list_all fits xs) f in
    let other = and_parts (fits y) (list_all fits ys) g in
    let flat = sym (append_assoc (spelled x) (flat_map spelled xs) r) ∙ e ∙ append_assoc (spelled y) (flat_map spelled ys) s in
    let first = known x y (flat_map spelled xs ++ r) (flat_map spelled ys ++ s) one.0 other.0 flat in
    let rest = items_known spelled fits known xs ys r s one.1 other.1 (omega arith) first.1 in
    (ap (λ z. z ∷ xs) first.0 ∙ ap (λ zs. y ∷ zs) rest.0, rest.1)

pub number_known : IsKnown u32 number_fits
number_known m n r s f g e = u32_split m n r s (ltb-true m (2 ^ 32) f) (ltb-true n (2 ^ 32) g) e

-- two numbers, and what follows them
pub pair_known : (a b c d : ℕ) (r s : List ℕ) → number_fits a ≡ true → number_fits b ≡ true → number_fits c ≡ true → number_fits d ≡ true → u32 a ++ u32 b ++ r ≡ u32 c ++ u32 d ++ s → (a ≡ c) × (b ≡ d) × (r ≡ s)
pair_known a b c d r s fa fb fc fd e =
    let flat = sym (append_assoc (u32 a) (u32 b) r) ∙ e ∙ append_assoc (u32 c) (u32 d) s in
    let first = number_known a c (u32 b ++ r) (u32 d ++ s) fa fc flat in
    let second = number_known b d r s fb fd first.1 in
    (first.0, second.0, second.1)

pub digest_known : (d e r s : List ℕ) → digest_fits d ≡ true → digest_fits e ≡ true → d ++ r ≡ e ++ s → (d ≡ e) × (r ≡ s)
digest_known d e r s f g same = same_front d e r s (eqb-true (length d) 32 f ∙ sym (eqb-true (length e) 32 g)) same

abbrev made_listed : ℕ → ℕ → List ℕ → Listed
made_listed view number digest = record { view = view; number = number; digest = digest }

pub listed_known : IsKnown listed_bytes listed_fits
listed_known x y r s f g e =
    let one = and_parts (number_fits x.view && number_fits x.number) (digest_fits x.digest) f in
    let numbers = and_parts (number_fits x.view) (number_fits x.number) one.0 in
    let other = and_parts (number_fits y.view && number_fits y.number) (digest_fits y.digest) g in
    let others = and_parts (number_fits y.view) (number_fits y.number) other.0 in
    let flat : u32 x.view ++ u32 x.number ++ (x.digest ++ r) ≡ u32 y.view ++ u32 y.number ++ (y.digest ++ s) =
    sym (append_assoc (u32 x.view ++ u32 x.number) x.digest r) ∙ e ∙ append_assoc (u32 y.view ++ u32 y.number) y.digest s in
    let pair = pair_known x.view x.number y.view y.number (x.digest ++ r) (y.digest ++ s) numbers.0 numbers.1 others.0 others.1 flat in
    let last = digest_known x.digest y.digest r s one.1 other.1 pair.2 in
    (ap (λ z. made_listed z x.number x.digest) pair.0 ∙ ap (λ z. made_listed y.view z x.digest) pair.1 ∙ ap (λ z. made_listed y.view y.number z) last.0, last.1)

abbrev made_heading : ℕ → List ℕ → Heading
made_heading agree digest = record { agree = agree; digest = digest }

pub heading_known : IsKnown heading_bytes heading_fits
heading_known x y r s f g e =
    let one = and_parts (number_fits x.agree) (digest_fits x.digest) f in
    let other = and_parts (number_fits y.agree) (digest_fits y.digest) g in
    let flat = sym (append_assoc (u32 x.agree) x.digest r) ∙ e ∙ append_assoc (u32 y.agree) y.digest s in
    let first = number_known x.agree y.agree (x.digest ++ r) (y.digest ++ s) one.0 other.0 flat in
    let last = digest_known x.digest y.digest r s one.1 other.1 first.1 in
    (ap (λ z. made_heading z x.digest) first.0 ∙ ap (λ z. made_heading y.agree z) last.0, last.1)
