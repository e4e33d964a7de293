-- Of the lies that a seat may send only a copy has no bytes without a pool.
use Rattle.std.proofs.Common.{◌≡◌, false, not, List, ℕ, refl, ap, ◌∙◌, IsTrue}
use Rattle.std.specs.Prelude.{Option, Result, Ok, Err, IfOk, is_some}
use Rattle.fw_list.specs.declared.memory.Memory.{Memory}
use Rattle.fw_base.specs.declared.seat.Seat.{Seat}
use Rattle.fw_base.specs.declared.seat.Seat.TheVariants.{Agree, Exec, Filter, Client}
use Rattle.fw_trace.specs.declared.Sent.{Sent}
use Rattle.fw_step.specs.declared.step.Lie.{Lie}
use Rattle.fw_step.specs.declared.step.Lie.TheVariants as lies
use Rattle.fw_step.specs.Fitting.{lie_fits}
use Rattle.fw_secret.specs.Dealt.{Origin}
use Rattle.fw_lies.specs.Lying.{lie_bytes, bytes_in, is_copy}

has_bytes : (o : Origin) (from : Seat) (lie : Lie) → IsTrue (lie_fits o.params from lie) → is_some (lie_bytes o from lie) ≡ not (is_copy lie)
has_bytes o from (lies.Raw bytes) fits = refl
has_bytes o from (lies.Copy frame) fits = refl
has_bytes o from (lies.Request request) fits = refl
has_bytes o from (lies.Propose view number entry) fits = refl
has_bytes o (Agree i) (lies.Vote phase view number entry) fits = refl
has_bytes o (Exec j) (lies.Vote phase view number entry) fits = cc
has_bytes o (Filter r k) (lies.Vote phase view number entry) fits = cc
has_bytes o (Client k) (lies.Vote phase view number entry) fits = cc
has_bytes o (Agree i) (lies.Change view) fits = refl
has_bytes o (Exec j) (lies.Change view) fits = cc
has_bytes o (Filter r k) (lies.Change view) fits = cc
has_bytes o (Client k) (lies.Change view) fits = cc
has_bytes o (Agree i) (lies.Share number answer) fits = cc
has_bytes o (Exec j) (lies.Share number answer) fits = refl
has_bytes o (Filter r k) (lies.Share number answer) fits = cc
has_bytes o (Client k) (lies.Share number answer) fits = cc
has_bytes o from (lies.Reply number answer) fits = refl

pub some_after : (o : Origin) (from : Seat) (lie : Lie) (result : Result (Option (List ℕ)) Memory) → IsTrue (lie_fits o.params from lie) → IfOk result (λ found. found ≡ lie_bytes o from lie) → IfOk result (λ found. is_some found ≡ not (is_copy lie))
some_after o from lie (Ok found) fits same = ap is_some same ∙ has_bytes o from lie fits
some_after o from lie (Err memory) fits same = tt

-- whatever the pool, what isn't a copy has the bytes that it has without
pub bytes_without : (o : Origin) (from : Seat) (lie : Lie) (pool : List (Sent (List ℕ))) → is_copy lie ≡ false → bytes_in o from lie pool ≡ lie_bytes o from lie
bytes_without o from (lies.Raw bytes) pool other = refl
bytes_without o from (lies.Copy frame) pool other = cc
bytes_without o from (lies.Request request) pool other = refl
bytes_without o from (lies.Propose view number entry) pool other = refl
bytes_without o from (lies.Vote phase view number entry) pool other = refl
bytes_without o from (lies.Change view) pool other = refl
bytes_without o from (lies.Share number answer) pool other = refl
bytes_without o from (lies.Reply number answer) pool other = refl
