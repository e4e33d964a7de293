use Rattle.std.proofs.Common.{◌≡◌, ◌<◌, ℕ, get_or}
use Rattle.fw_seal.proofs.tag.are_same.Given as goal

-- with no difference so far the bytes so far agree, and in the same tags there is none
abbrev pub invariant-loop-k : goal.invariant-loop-k
invariant-loop-k l = record {
  agree : l.difference ≡ 0 → (i : ℕ) → i < l.k → get_or l.a i 0 ≡ get_or l.b i 0;
  none : l.a ≡ l.b → l.difference ≡ 0;
}
