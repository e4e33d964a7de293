use Rattle.std.proofs.Common.{arith}
use Rattle.std.proofs.lemmas.List.{length-take}
use Rattle.fw_io.proofs.Reading.{failed_up_to, read_up_to, read_past, some_there}
use Rattle.fw_io.proofs.source.read_all.Goals as goal

pub returns-in-Failed-clause-failed : goal.returns-in-Failed-clause-failed
returns-in-Failed-clause-failed g c = λ _. failed_up_to _ _ _ _ _ (omega arith) c.loop-want.invariant.told c.in-Failed.ensures.told

pub returns-in-Failed-clause-up_to : goal.returns-in-Failed-clause-up_to
returns-in-Failed-clause-up_to g c = λ _. failed_up_to _ _ _ _ _ (omega arith) c.loop-want.invariant.told c.in-Failed.ensures.told

pub returns-in-Failed-clause-most : goal.returns-in-Failed-clause-most
returns-in-Failed-clause-most g c = failed_up_to _ _ _ _ _ (omega arith) c.loop-want.invariant.told c.in-Failed.ensures.told

pub returns-then-n-left-clause-long : goal.returns-then-n-left-clause-long
returns-then-n-left-clause-long g c = λ _. read_past _ _ _ _ _ _ _ _ (let within = simp length-take at c.in-Got.ensures.within in omega arith) c.loop-want.invariant.told c.in-Got.ensures.told

pub returns-then-n-left-clause-most : goal.returns-then-n-left-clause-most
returns-then-n-left-clause-most g c = read_up_to _ _ _ _ _ _ _ _ (let within = simp length-take at c.in-Got.ensures.within in omega arith) c.loop-want.invariant.told c.in-Got.ensures.told

pub returns-in_err-append-in-Got-clause-most : goal.returns-in_err-append-in-Got-clause-most
returns-in_err-append-in-Got-clause-most g c = read_up_to _ _ _ _ _ _ _ _ (let within = simp length-take at c.in-Got.ensures.within in omega arith) c.loop-want.invariant.told c.in-Got.ensures.told

pub returns-in_err-append-in-Got-clause-up_to : goal.returns-in_err-append-in-Got-clause-up_to
returns-in_err-append-in-Got-clause-up_to g c = λ _. read_up_to _ _ _ _ _ _ _ _ (let within = simp length-take at c.in-Got.ensures.within in omega arith) c.loop-want.invariant.told c.in-Got.ensures.told

pub returns-in_err-append-in-Got-clause-wanted : goal.returns-in_err-append-in-Got-clause-wanted
returns-in_err-append-in-Got-clause-wanted g c = λ _. some_there _ _ _ _ _ _ _ (omega arith) c.loop-want.invariant.told c.in-Got.ensures.told
