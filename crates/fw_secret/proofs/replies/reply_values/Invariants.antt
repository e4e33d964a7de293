use Rattle.std.proofs.Common.{◌≡◌, ◌*◌, length, take}
use Rattle.std.specs.List.{flat_map}
use Rattle.fw_list.specs.Lists.{numbers_from}
use Rattle.fw_base.specs.declared.slot.Slot.TheVariants.{Reply}
use Rattle.fw_lamport.specs.Signature.{place_at}
use Rattle.fw_secret.specs.Dealt.{dealt}
use Rattle.fw_secret.proofs.replies.reply_values.Given as goal

abbrev pub invariant-loop-k : goal.invariant-loop-k
invariant-loop-k l = record {
  whole : length l.out ≡ 16384;
  so_far : take (32 * l.k) l.out ≡ flat_map (λ k. dealt (record { params = l.fn.params; seed = l.fn.seed }) (place_at (Reply l.fn.number) l.fn.point k)) (numbers_from 0 l.k);
}
