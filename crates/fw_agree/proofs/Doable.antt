-- What is chosen can be done.
use Rattle.std.proofs.Common.{◌≡◌, ℕ, ◌≤◌, Option, Some, None, sym, subst}
use Rattle.std.specs.Prelude.{Result, Ok, Err, IfOk, IfSome}
use Rattle.fw_list.specs.declared.memory.Memory.{Memory}
use Rattle.fw_base.specs.declared.params.Params.{Params}
use Rattle.fw_kept.specs.declared.keeps.Act.{Act}
use Rattle.fw_kept.specs.Acts.{number_of, IsDoable}

doable_some : (p : Params) (n : ℕ) (a : Option Act) → 1 ≤ n → n ≤ p.numbers → IfSome a (λ b. number_of b ≡ n) → IfSome a (IsDoable p)
doable_some p n None first last number = tt
doable_some p n (Some a) first last number = (subst (λ k. 1 ≤ k) (sym number) first, subst (λ k. k ≤ p.numbers) (sym number) last)

pub doable_ok : (p : Params) (n : ℕ) (r : Result (Option Act) Memory) → 1 ≤ n → n ≤ p.numbers → IfOk r (λ a. IfSome a (λ b. number_of b ≡ n)) → IfOk r (λ a. IfSome a (IsDoable p))
doable_ok p n (Ok a) first last number = doable_some p n a first last number
doable_ok p n (Err e) first last number = tt

within_some : (p : Params) (a : Option Act) → IfSome a (λ b. 1 ≤ number_of b) → IfSome a (λ b. number_of b ≤ p.numbers) → IfSome a (IsDoable p)
within_some p None first last = tt
within_some p (Some a) first last = (first, last)

pub within_ok : (p : Params) (r : Result (Option Act) Memory) → IfOk r (λ a. IfSome a (λ b. 1 ≤ number_of b)) → IfOk r (λ a. IfSome a (λ b. number_of b ≤ p.numbers)) → IfOk r (λ a. IfSome a (IsDoable p))
within_ok p (Ok a) first last = within_some p a first last
within_ok p (Err e) first last = tt
