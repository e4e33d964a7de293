use Rattle.std.proofs.Common.{◌≡◌, ℕ, List, ◌+◌, length, ap, ◌∙◌, sym, arith, subst}
use Rattle.fw_secret.specs.Dealt.{Origin, slot_values}
use Rattle.fw_secret.proofs.Secrets.{length-slot_values}
use Rattle.fw_directory.specs.Directories.{rows}
use Rattle.fw_deal.specs.Rows.{row_of, HasRows}
use Rattle.fw_deal.proofs.InRows.{length-row_of, one_row_more, directory_of_rows}
use Rattle.fw_deal.proofs.digests.digests_of.Goals as goal

pub loop-k-preserved : goal.loop-k-preserved
loop-k-preserved c =
    let o : Origin = record { params = c.args.params.now; seed = c.args.seed.now } in
    let slot = c.slot_at-slot.result.0 in
    let point = c.slot_at-slot.result.1 in
    let row : List ℕ = c.digest_row.new.row in
    let is : row ≡ row_of slot point (slot_values o slot point) = c.digest_row.ensures ∙ ap (row_of slot point) c.slot_values.ensures in
    record {
      values = ap length c.slot_values.ensures ∙ length-slot_values o slot point;
      row = ap length c.digest_row.ensures ∙ length-row_of slot point c.slot_values.new.out;
      digests = subst (HasRows o (c.loop-k.k + 1)) (sym c.in_ok-append.ensures.ok) (one_row_more o c.loop-k.k c.loop-k.digests row slot point c.loop-k.invariant.digests c.slot_at-slot.ensures.fits c.slot_at-slot.ensures.point c.slot_at-slot.ensures.row is);
    }

pub returns : goal.returns
returns c =
    let o : Origin = record { params = c.args.params.now; seed = c.args.seed.now } in
    let last : c.loop-k.k ≡ rows o.params = omega (arith, c.row_count-k-end.ensures) in
    directory_of_rows o c.loop-k.digests c.requires (subst (λ k. HasRows o k c.loop-k.digests) last c.loop-k.invariant.digests)
