use Rattle.std.proofs.Common.{◌≡◌, ◌≢◌, ◌∙◌, ◌+◌, ◌-◌, ℕ, List, length, take, drop, sym, subst, arith, false}
use Rattle.std.specs.Prelude.{Any}
use Rattle.std.proofs.lemmas.List.{take_rest}
use Rattle.std.specs.Bool.{IsTrue}
use Rattle.fw_seal.specs.Seal.{length_in}
use Rattle.fw_seal.proofs.Blocks.{length_in-reads, unspoiled_is_block_of}
use Rattle.fw_seal.proofs.block.text_len.Goals as goal

pub returns-clause-found : goal.returns-clause-found
returns-clause-found c =
    let named : c.from_be_bytes-len.result ≡ length_in c.args.block.now = c.from_be_bytes-len.ensures ∙ sym (length_in-reads c.args.block.now) in (
      c.if-len-gt-LONGEST_TEXT.false,
      unspoiled_is_block_of c.args.block.now c.from_be_bytes-len.result c.requires (λ i. omega (arith, c.type_inv.block i)) named c.if-len-gt-LONGEST_TEXT.false (λ other.
          let P : List ℕ → Type 0 = λ xs. Any (λ (b : ℕ). b ≢ 0) xs in
          let behind : List ℕ = drop (2 + c.from_be_bytes-len.result) c.args.block.now in
          let all : take (length c.args.block.now - (2 + c.from_be_bytes-len.result)) behind ≡ behind = take_rest c.args.block.now (2 + c.from_be_bytes-len.result) in
          let wrong : IsTrue false = c.if-has_other_than_zero.ensures.1 (subst P (sym all) other) in cc),
    )
