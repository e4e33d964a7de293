use Rattle.std.proofs.Common.{◌≡◌, ℕ, get_or, below_more, arith, ap, ◌∙◌, eq-eqb}
use Rattle.std.proofs.lemmas.Bool.{eqb-true}
use Rattle.std.specs.Prelude.{bit_or, bit_xor}
use Rattle.std.specs.Int.Bits.{xor_self}
use Rattle.std.proofs.lemmas.Nat.{le_or_l, le_or_r}
use Rattle.fw_seal.proofs.Bytes.{same-by_index, same_from_bit_xor}
use Rattle.fw_seal.proofs.tag.are_same.Goals as goal

pub loop-k-preserved : goal.loop-k-preserved
loop-k-preserved c =
    let a : ℕ = get_or c.args.a.now c.loop-k.k 0 in
    let b : ℕ = get_or c.args.b.now c.loop-k.k 0 in
    record {
      agree = λ none.
          let before : c.loop-k.difference ≡ 0 = omega (arith, none, le_or_l c.loop-k.difference (bit_xor a b)) in
          let here : bit_xor a b ≡ 0 = omega (arith, none, le_or_r c.loop-k.difference (bit_xor a b)) in
          below_more (λ i. get_or c.args.a.now i 0 ≡ get_or c.args.b.now i 0) c.loop-k.k (c.loop-k.invariant.agree before) (same_from_bit_xor a b here);
      none = λ same.
          let before : c.loop-k.difference ≡ 0 = c.loop-k.invariant.none same in
          let here : bit_xor a b ≡ 0 = ap (λ xs. bit_xor (get_or xs c.loop-k.k 0) b) same ∙ xor_self b in
          ap (λ d. bit_or d (bit_xor a b)) before ∙ here;
    }

pub returns : goal.returns
returns c = (
  λ none.
      let no_difference : c.loop-k.difference ≡ 0 = eqb-true _ _ none in
      same-by_index c.args.a.now c.args.b.now 32 c.requires c.told-b (λ i below. c.loop-k.invariant.agree no_difference i (omega arith)),
  λ same. eq-eqb _ _ (c.loop-k.invariant.none same),
)
