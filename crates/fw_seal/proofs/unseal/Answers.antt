use Rattle.std.proofs.Common.{◌≡◌, ◌≢◌, ◌∙◌, ℕ, List, length, take, drop, refl, sym, ap, arith, inl, inr, false, subst, Some}
use Rattle.std.specs.Prelude.{is_some, option_map, replicate}
use Rattle.std.proofs.lemmas.List.{length-take-le, length-drop, take_all}
use Rattle.std.specs.Bool.{IsTrue}
use Rattle.fw_seal.specs.Seal.{tag_of, IsSpoiled, Opens}
use Rattle.fw_seal.proofs.Bodies.{length-masked, last_part, tag_of_opened, spoiled_opens_never, opens_to, opens_once, zeros_behind}
use Rattle.fw_seal.proofs.Opened.{opened_from_opens, opened_never}
use Rattle.fw_seal.proofs.unseal.Goals as goal

-- the tag is another
differs : (c : goal.Then-not-are_same) → drop 512 c.args.body.now.bytes ≢ tag_of c.args.key.now c.args.way c.args.client c.args.number (take 512 c.args.body.now.bytes)
differs c same =
    let wrong : IsTrue false = c.if-not-are_same.ensures.1 (last_part c.args.body.now.bytes (omega arith) ∙ same ∙ sym c.tag_of-tag.ensures) in cc

pub returns-then-not-are_same-clause-only : goal.returns-then-not-are_same-clause-only
returns-then-not-are_same-clause-only c = λ text opens. absurd (differs c (tag_of_opened _ _ _ _ _ text opens))

pub returns-then-not-are_same-clause-none : goal.returns-then-not-are_same-clause-none
returns-then-not-are_same-clause-none c = λ text opens. differs c (tag_of_opened _ _ _ _ _ text opens)

pub returns-then-not-are_same-clause-value : goal.returns-then-not-are_same-clause-value
returns-then-not-are_same-clause-value c = opened_never _ _ _ _ c.args.body.now.bytes (returns-then-not-are_same-clause-none c)

pub returns-then-not-are_same-clause-cause : goal.returns-then-not-are_same-clause-cause
returns-then-not-are_same-clause-cause c = (λ _. inl (differs c), λ _. refl)

-- the block is spoiled
opens_never : (c : goal.After-from_residual) → (text : List ℕ) → ¬ Opens c.args.key.now c.args.way c.args.client c.args.number c.args.body.now.bytes text
opens_never c = spoiled_opens_never _ _ _ _ c.args.body.now.bytes c.masked-block.result c.masked-block.ensures (c.in_err-len.ensures.spoiled.0 refl)

pub returns-in_err-len-clause-only : goal.returns-in_err-len-clause-only
returns-in_err-len-clause-only c = λ text opens. absurd (opens_never c text opens)

pub returns-in_err-len-clause-none : goal.returns-in_err-len-clause-none
returns-in_err-len-clause-none c = rw c.from_residual.ensures (opens_never c)

pub returns-in_err-len-clause-value : goal.returns-in_err-len-clause-value
returns-in_err-len-clause-value c =
    opened_never _ _ _ _ c.args.body.now.bytes (opens_never c) ∙ sym (ap (option_map (λ len. take len (replicate 510 0))) c.from_residual.ensures)

pub returns-in_err-len-clause-cause : goal.returns-in_err-len-clause-cause
returns-in_err-len-clause-cause c =
    (λ _. let P : List ℕ → Type 0 = λ block. IsSpoiled block in inr (subst P c.masked-block.ensures (c.in_err-len.ensures.spoiled.0 refl)), λ _. ap is_some c.from_residual.ensures)

-- what is known where a text is found
record Found (c : goal.After-copy_from_slice) : Type 0 where
  front : length (take 512 c.args.body.now.bytes) ≡ 512
  tagged : drop 512 c.args.body.now.bytes ≡ tag_of c.args.key.now c.args.way c.args.client c.args.number (take 512 c.args.body.now.bytes)
  out : c.copy_from_slice.new.self ≡ drop 2 c.masked-block.result
  length : c.in_ok-len.len ≡ length (take c.in_ok-len.len (drop 2 c.masked-block.result))

found : (c : goal.After-copy_from_slice) → Found c
found c =
    let front : length (take 512 c.args.body.now.bytes) ≡ 512 = length-take-le 512 c.args.body.now.bytes (omega arith) in
    let whole : length c.masked-block.result ≡ 512 = ap length c.masked-block.ensures ∙ length-masked _ _ _ _ front in
    let behind : length (drop 2 c.masked-block.result) ≡ 510 = omega (arith, length-drop 2 c.masked-block.result) in
    record {
      front = front;
      tagged = sym (last_part c.args.body.now.bytes (omega arith)) ∙ c.if-not-are_same.ensures.0 refl ∙ c.tag_of-tag.ensures;
      out = c.copy_from_slice.ensures.after ∙ take_all 510 (drop 2 c.masked-block.result) (omega arith);
      length = sym (length-take-le c.in_ok-len.len (drop 2 c.masked-block.result) (omega (arith, c.in_ok-len.ensures.found.0)));
    }

pub returns-clause-found : goal.returns-clause-found
returns-clause-found c =
    let P : List ℕ → Type 0 = λ out. Opens c.args.key.now c.args.way c.args.client c.args.number c.args.body.now.bytes (take c.in_ok-len.len out) in
    subst P (sym (found c).out) (opens_to _ _ _ _ c.args.body.now.bytes c.masked-block.result _ (found c).front (found c).tagged c.masked-block.ensures c.in_ok-len.ensures.found.1 (omega (arith, (found c).length, c.in_ok-len.ensures.found.0)))

pub returns-clause-rest : goal.returns-clause-rest
returns-clause-rest c = ap (drop c.in_ok-len.len) (found c).out ∙ zeros_behind c.masked-block.result c.in_ok-len.len (found c).length c.in_ok-len.ensures.found.1

pub returns-clause-only : goal.returns-clause-only
returns-clause-only c = λ text opens.
    let one : take c.in_ok-len.len c.copy_from_slice.new.self ≡ text = opens_once _ _ _ _ c.args.body.now.bytes _ text (returns-clause-found c) opens in
    let len : c.in_ok-len.len ≡ length text = (found c).length ∙ ap length (sym (ap (take c.in_ok-len.len) (found c).out) ∙ one) in
    (ap Some len, ap (λ (n : ℕ). take n c.copy_from_slice.new.self) (sym len) ∙ one)

pub returns-clause-value : goal.returns-clause-value
returns-clause-value c = opened_from_opens _ _ _ _ c.args.body.now.bytes _ (returns-clause-found c)

pub returns-clause-cause : goal.returns-clause-cause
returns-clause-cause c = (
  λ wrong. absurd (cc),
  λ refused.
      elim refused [
        | inl other ↦ absurd (other (found c).tagged)
        | inr spoiled ↦ let P : List ℕ → Type 0 = λ block. IsSpoiled block in c.in_ok-len.ensures.spoiled.1 (subst P (sym c.masked-block.ensures) spoiled)
      ],
)
