-- From here the turns that are left lead where all lead.
use Rattle.std.proofs.Common.{◌≡◌, ◌++◌, ◌-◌, suc, length, take}
use Rattle.fw_exec.specs.Kept.{IsRunning}
use Rattle.fw_exec.specs.Executors.{speech_by}
use Rattle.fw_exec.proofs.Turns.{after, sent}
use Rattle.fw_exec.proofs.running.Running.execute_all.Given as goal

abbrev pub invariant-loop : goal.invariant-loop
invariant-loop g l =
    let all = length l.fn.self.kept in
    let sp = speech_by l.fn.own l.fn.directory in
    record {
      keeps : after sp (suc (all - l.counter)) l.self ≡ after sp (suc all) l.fn.self;
      sends : l.out ++ sent sp (suc (all - l.counter)) l.self ≡ l.fn.out ++ sent sp (suc all) l.fn.self;
      running : IsRunning l.fn.own.params l.self;
      begins : take (length l.fn.out) l.out ≡ l.fn.out;
    }
