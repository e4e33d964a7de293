-- The text that a body opens to, as a function of the body.
use Rattle.std.proofs.Common.{◌≡◌, ◌≢◌, ℕ, ◌≤◌, Bool, true, false, List, length, take, drop, refl, ap, ◌∙◌, subst, Option, Some, None, if◌then◌else◌}
use Rattle.std.specs.Prelude.{nat_le, bytes_eq, ◌↔◌}
use Rattle.std.proofs.lemmas.Bool.{and_parts, and_from, leb-true, le-leb}
use Rattle.std.proofs.lemmas.Slice.Eq.{bytes_eq-Decides}
use Rattle.fw_seal.specs.declared.types.BodyKey.{BodyKey}
use Rattle.fw_seal.specs.declared.types.Direction.{Direction}
use Rattle.fw_seal.specs.Seal.{masked, block_of, sealed, Opens, text_in, is_body_of, opened}
use Rattle.fw_seal.proofs.Blocks.{text_in_block, length_in-block_of}
use Rattle.fw_seal.proofs.Bodies.{block_of_opened}

-- the test says what the record says
pub opens_from_test : (key : BodyKey) (way : Direction) (client number : ℕ) (body text : List ℕ) → is_body_of key way client number body text ≡ true → Opens key way client number body text
opens_from_test key way client number body text holds =
    let both = and_parts (nat_le (length text) 510) (bytes_eq body (sealed key way client number text)) holds in
    record { short = leb-true (length text) 510 both.0; same = (bytes_eq-Decides body (sealed key way client number text)).0 both.1 }

pub test_from_opens : (key : BodyKey) (way : Direction) (client number : ℕ) (body text : List ℕ) → Opens key way client number body text → is_body_of key way client number body text ≡ true
test_from_opens key way client number body text opens =
    and_from (nat_le (length text) 510) (bytes_eq body (sealed key way client number text)) (le-leb (length text) 510 opens.short) ((bytes_eq-Decides body (sealed key way client number text)).1 opens.same)

-- the text that is named under the stream of a body that opens is the body's
pub text_under : (key : BodyKey) (way : Direction) (client number : ℕ) (body text : List ℕ) → Opens key way client number body text → text_in (masked key way number (take 512 body)) ≡ text
text_under key way client number body text opens =
    ap (λ (block : List ℕ). text_in block) (block_of_opened key way client number body text opens)
    ∙ ap (λ (n : ℕ). take n (drop 2 (block_of text))) (length_in-block_of text opens.short)
    ∙ text_in_block text

-- a value that is given where a test holds, and nothing else
given_where : {A : Type 0} (test : Bool) (x y : A) → (if test then Some x else None) ≡ Some y → (test ≡ true) × (x ≡ y)
given_where true x y e = (refl, cc)
given_where false x y e = cc

-- a body opens to what the function gives, and to nothing else
pub opened_from_opens : (key : BodyKey) (way : Direction) (client number : ℕ) (body text : List ℕ) → Opens key way client number body text → opened key way client number body ≡ Some text
unfolding opened
opened_from_opens key way client number body text opens =
    ap (λ (t : List ℕ). if is_body_of key way client number body t then Some t else None) (text_under key way client number body text opens)
    ∙ ap (λ (test : Bool). if test then Some text else None) (test_from_opens key way client number body text opens)

pub opens_from_opened : (key : BodyKey) (way : Direction) (client number : ℕ) (body text : List ℕ) → opened key way client number body ≡ Some text → Opens key way client number body text
unfolding opened
opens_from_opened key way client number body text gives =
    let under : List ℕ = text_in (masked key way number (take 512 body)) in
    let given = given_where (is_body_of key way client number body under) under text gives in
    let P : List ℕ → Type 0 = λ t. Opens key way client number body t in
    subst P given.1 (opens_from_test key way client number body under given.0)

pub opens_where_opened : (key : BodyKey) (way : Direction) (client number : ℕ) (body text : List ℕ) → Opens key way client number body text ↔ (opened key way client number body ≡ Some text)
opens_where_opened key way client number body text = (opened_from_opens key way client number body text, opens_from_opened key way client number body text)

-- what is sealed is opened again
pub opened-sealed : (key : BodyKey) (way : Direction) (client number : ℕ) (text : List ℕ) → length text ≤ 510 → opened key way client number (sealed key way client number text) ≡ Some text
opened-sealed key way client number text short =
    opened_from_opens key way client number (sealed key way client number text) text (record { short = short; same = refl })

-- a body that opens to no text is given none
pub opened_never : (key : BodyKey) (way : Direction) (client number : ℕ) (body : List ℕ) → ((text : List ℕ) → ¬ Opens key way client number body text) → opened key way client number body ≡ None
opened_never key way client number body never = none_where (opened key way client number body) (λ text gives. never text (opens_from_opened key way client number body text gives))
  where
    none_where : (o : Option (List ℕ)) → ((text : List ℕ) → o ≢ Some text) → o ≡ None
    none_where None never = refl
    none_where (Some text) never = absurd (never text refl)
