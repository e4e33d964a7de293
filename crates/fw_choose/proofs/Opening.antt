-- What is agreed comes where nothing was, and what goes up is what is agreed there.
use Rattle.std.proofs.Common.{◌≡◌, ℕ, nat_eq, List, Option, Some, None, false, sym, ap, subst, ◌∙◌}
use Rattle.std.specs.Prelude.{Result, Ok, Err, IfOk, IfSome, is_some}
use Rattle.std.specs.Borrow.{Bor}
use Rattle.std.specs.Option.{option_copied}
use Rattle.std.proofs.lemmas.Bool.{eqb-true}
use Rattle.fw_list.specs.declared.memory.Memory.{Memory}
use Rattle.fw_owned.specs.declared.owned.OwnedAgreed.{OwnedAgreed}
use Rattle.fw_kept.specs.declared.keeps.Keeps.{Keeps}
use Rattle.fw_kept.specs.declared.keeps.Act.{Act}
use Rattle.fw_kept.specs.declared.keeps.Act.TheVariants as act
use Rattle.fw_settled.specs.Queued.{agreed_in, next_up}
use Rattle.fw_owned.proofs.Found.{found_passes}
use Rattle.fw_kept.specs.Acts.{number_of, IsOpen, IsCommit}

commit_open : (k : Keeps) (n : ℕ) (a : Act) → agreed_in k.settled.committed n ≡ None → IsCommit a → number_of a ≡ n → IsOpen k a
commit_open k n (act.Commit agreed) none is number = subst (λ m. agreed_in k.settled.committed m ≡ None) (sym number) none
commit_open k n (act.Offer number entry) none is same = tt
commit_open k n (act.Prepare number entry) none is same = tt
commit_open k n (act.Pledge number entry signers) none is same = tt
commit_open k n (act.Up agreed) none is same = absurd is

pub some_open : (k : Keeps) (n : ℕ) (a : Option Act) → agreed_in k.settled.committed n ≡ None → IfSome a IsCommit → IfSome a (λ b. number_of b ≡ n) → IfSome a (IsOpen k)
some_open k n None none is number = tt
some_open k n (Some a) none is number = commit_open k n a none is number

pub commits_open_ok : (k : Keeps) (n : ℕ) (r : Result (Option Act) Memory) → agreed_in k.settled.committed n ≡ None → IfOk r (λ a. IfSome a IsCommit) → IfOk r (λ a. IfSome a (λ b. number_of b ≡ n)) → IfOk r (λ a. IfSome a (IsOpen k))
commits_open_ok k n (Ok a) none is number = some_open k n a none is number
commits_open_ok k n (Err e) none is number = tt

-- nothing is agreed where nothing was found
pub none_agreed : (o : Option (Bor OwnedAgreed)) (found : Option OwnedAgreed) → option_copied o ≡ found → is_some o ≡ false → found ≡ None
none_agreed None found is none = sym is
none_agreed (Some a) found is none = absurd (let no : ⊥ = cc in no)

-- what is found at a number has it
pub agreed_number : (k : Keeps) (n : ℕ) (a : OwnedAgreed) → Some a ≡ agreed_in k.settled.committed n → a.number ≡ n
agreed_number k n a is = eqb-true _ _ (found_passes (λ b. nat_eq b.number n) k.settled.committed a is)

pub up_open : (k : Keeps) (n : ℕ) (a b : OwnedAgreed) → Some a ≡ agreed_in k.settled.committed n → next_up k.settled ≡ Some n → b ≡ a → (agreed_in k.settled.committed b.number ≡ Some b) × (next_up k.settled ≡ Some b.number)
up_open k n a b is next copied =
    let same : b.number ≡ n = ap (λ (c : OwnedAgreed). c.number) copied ∙ agreed_number k n a is in
    (ap (agreed_in k.settled.committed) same ∙ sym is ∙ ap (λ (c : OwnedAgreed). Some c) (sym copied), next ∙ ap (λ (m : ℕ). Some m) (sym same))
